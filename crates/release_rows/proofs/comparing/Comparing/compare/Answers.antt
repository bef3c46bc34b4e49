use Rattle.std.proofs.lemmas.Bool.{not-false, not-true}
use Rattle.std.proofs.lemmas.Bool.Decides.{nat_tests}
use Rattle.std.proofs.lemmas.Grind.{common_steps}
use Rattle.std.proofs.Common.{◌≡◌, ◌∙◌, ap, arith, refl, sym}
use Rattle.rf2_rows.specs.RowTexts.{row_text}
use Rattle.rf2_rows.specs.Versions.{time_on}
use Rattle.release_rows.specs.inside.Keys.{key_in}
use Rattle.rf2_rows.proofs.Accepted.{short_time_on}
use Rattle.rf2_rows.proofs.RowTextLemmas.{text_in-row}
use Rattle.rf2_rows.proofs.VersionLemmas.{time_in-on}
use Rattle.release_rows.proofs.comparing.Comparing.compare.Goals as goal

-- the effective time of a row has at most eight digits, as `take` requires
pub take-requires-clause-time : goal.take-requires-clause-time
take-requires-clause-time c time told = grind (arith, common_steps, nat_tests, short_time_on, time_in-on)

-- if the expected row does not fit, it conflicts with an earlier row
pub returns-then-not-fits-clause-err : goal.returns-then-not-fits-clause-err
returns-then-not-fits-clause-err c other rows expected =
    let key : key_in c.args.self.now.keys.now.uuids (row_text c.args.kind c.args.line.bytes.now) ≡ c.args.key =
    ap (key_in c.args.self.now.keys.now.uuids)
    (sym (text_in-row c.args.kind c.args.line.bytes.now c.args.row.now c.requires.row))
    ∙ omega (arith, c.in-Some.ensures.key, c.if-found-key.false) in
    let time : time_on c.args.kind c.args.line.bytes.now ≡ c.effective_time.result =
    sym (c.effective_time.ensures ∙ time_in-on c.args.kind c.args.line.bytes.now c.args.row.now c.requires.row) in
    let fits = c.in_ok-fits.ensures.conflict rows expected.taken (rw key at expected.kinds) in
    (refl, rw (key, time) (not-false _ (sym fits ∙ c.if-not-fits.true)))

-- a row that fits has been compared after the earlier ones
pub returns-clause-ok : goal.returns-clause-ok
returns-clause-ok c =
    let key : key_in c.args.self.now.keys.now.uuids (row_text c.args.kind c.args.line.bytes.now) ≡ c.args.key =
    ap (key_in c.args.self.now.keys.now.uuids)
    (sym (text_in-row c.args.kind c.args.line.bytes.now c.args.row.now c.requires.row))
    ∙ omega (arith, c.in-Some.ensures.key, c.if-found-key.false) in
    let time : time_on c.args.kind c.args.line.bytes.now ≡ c.effective_time.result =
    sym (c.effective_time.ensures ∙ time_in-on c.args.kind c.args.line.bytes.now c.args.row.now c.requires.row) in
    record {
      uuids = refl;
      repeated = c.in_ok-fits.ensures.repeated;
      left = refl;
      same_key = λ many. key;
      fits = λ rows expected.
          let fits = c.in_ok-fits.ensures.conflict rows expected.taken (rw key at expected.kinds) in
          rw (key, time) (not-true _ (sym fits ∙ c.if-not-fits.false));
      taken = λ rows expected. rw (key, time)
          (c.in_ok-fits.ensures.taken rows expected.taken (rw key at expected.kinds) c.if-not-fits.false);
    }
