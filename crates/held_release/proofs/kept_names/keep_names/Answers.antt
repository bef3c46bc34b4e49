use Rattle.std.proofs.Common.{◌∙◌, arith, length, refl, string_bytes}
use Rattle.std.proofs.lemmas.List.{take_all}
use Rattle.std.proofs.lemmas.Option.{slice_get_read}
use Rattle.row_lists.specs.LentRows.{name_read}
use Rattle.held_release.proofs.KeptNameLemmas.{kept-push, names-push, noted-extends}
use Rattle.row_lists.proofs.SpanLemmas.{extends-both}
use Rattle.held_release.proofs.kept_names.keep_names.Goals as goal

-- if a span is noted for the row at `place`, its term stands there in the grown texts
pub keep_name-requires-clause-span : goal.keep_name-requires-clause-span
keep_name-requires-clause-span c =
    let names = c.args.names.now in
    let name = name_read c.row.result in
    let noted = noted-extends names (string_bytes c.args.texts.now) (string_bytes c.loop-place.texts) c.args.spans.now
    c.requires.noted c.loop-place.invariant.grown in
    noted.stand c.loop-place.place name
    (slice_get_read names (length names) c.loop-place.place name refl
    (omega (arith, c.loop-place-test.true, c.len-place-end.ensures)) (c.row.ensures name))

-- with one row more, all rows are kept and stand for the names up to the next place
pub loop-place-preserved : goal.loop-place-preserved
loop-place-preserved c =
    let texts = string_bytes c.loop-place.texts in
    let grown = string_bytes c.keep_name.new.texts in
    let added = c.in_ok-keep_name.ensures in
    let kept = c.loop-place.invariant in record {
      grown = extends-both (string_bytes c.args.texts.now) texts grown kept.grown added.grown;
      few = omega (arith, kept.few, added.few);
      languages = added.languages;
      kept = kept-push texts grown c.loop-place.languages.items c.keep_name.new.languages.items
          c.loop-place.kept.items c.push.new.self.items c.in_ok-keep_name.field-0 added.grown added.more
          c.in_ok-push.ensures.items kept.kept added.kept;
      names = names-push texts grown c.loop-place.languages.items c.keep_name.new.languages.items
          c.loop-place.kept.items c.push.new.self.items c.in_ok-keep_name.field-0 added.grown added.more
          c.in_ok-push.ensures.items kept.kept
          kept.languages c.args.names.now c.loop-place.place (name_read c.row.result) kept.names added.name
          (omega arith) (c.row.ensures (name_read c.row.result));
    }

-- the kept rows stand for all names
pub returns-clause-names : goal.returns-clause-names
returns-clause-names c =
    c.loop-place.invariant.names
    ∙ take_all c.loop-place.place c.args.names.now (omega (arith, c.loop-place-test.false, c.len-place-end.ensures))
