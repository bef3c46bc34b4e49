-- The bytes that are held begin with a part.
use Rattle.std.proofs.Common.{◌≡◌, ℕ, length, ap, sym, refl, ◌∙◌, subst, arith}
use Rattle.release_files.specs.Held.{GrowsBy, reachable}
use Rattle.release_files.specs.Lines.{HasNoFeed}
use Rattle.release_files.proofs.HeldLemmas.{begins_ended, begins_last, GrowsBy-clear, GrowsBy-keeps, GrowsBy-length}
use Rattle.release_files.proofs.HeldLemmas.{GrowsBy-none, KeepsBytes-trans, ReadsOn-trans, TakesWithin-trans}
use Rattle.release_files.proofs.held.Held.find_part.Goals as goal

-- if a line feed is found, the bytes up to it are the first part
pub returns-in-Some-clause-part : goal.returns-in-Some-clause-part
returns-in-Some-clause-part g c =
    let (some, within, part) = rw c.bytes.ensures at c.in-Some.ensures in
    begins_ended (reachable c.loop-count.self.left (g.S.FileSource.rest c.loop-count.source)) c.loop-count.self.bytes
    c.in-Some.count some part

-- if no more bytes come, the bytes without a line feed are the last part, or there is none
pub returns-then-branch-eq0-clause-part : goal.returns-then-branch-eq0-clause-part
returns-then-branch-eq0-clause-part g c =
    let before = reachable c.loop-count.self.left (g.S.FileSource.rest c.loop-count.source) in
    let after = reachable c.read_piece.new.self.left (g.S.FileSource.rest c.read_piece.new.source) in
    let old = c.loop-count.self.bytes in
    let new = c.read_piece.new.self.bytes in
    let grows : GrowsBy before after old new 0 =
    subst (λ (count : ℕ). GrowsBy before after old new count) c.if-branch-eq0.true c.in_ok-read_piece.ensures.piece in
    let same : new ≡ old = GrowsBy-none before after old new grows in
    begins_last after new (length c.bytes-searched.result.now) (grows.end refl)
    (ap length (c.bytes-searched.ensures ∙ sym same))
    (subst HasNoFeed (c.bytes.ensures ∙ sym same) c.in_default.ensures)

-- a piece that is read keeps the invariant
pub loop-count-preserved : goal.loop-count-preserved
loop-count-preserved g c =
    let first = g.S.FileSource.rest c.args.source.now in
    let next = g.S.FileSource.rest c.loop-count.source in
    let last = g.S.FileSource.rest c.read_piece.new.source in
    let before = reachable c.loop-count.self.left next in
    let after = reachable c.read_piece.new.self.left last in
    let old = c.loop-count.self.bytes in
    let new = c.read_piece.new.self.bytes in
    let kept = c.loop-count.invariant in
    let read = c.in_ok-read_piece.ensures in
    let all = ap length c.bytes-searched.ensures in
    record {
      within = omega (arith, all, GrowsBy-length before after old new c.in_ok-read_piece.field-0 read.piece);
      clear = GrowsBy-clear before after old new c.in_ok-read_piece.field-0 (length c.bytes-searched.result.now)
          read.piece all (subst HasNoFeed c.bytes.ensures c.in_default.ensures);
      kept = KeepsBytes-trans (reachable c.args.self.now.left first) before after c.args.self.now.bytes old new
          kept.kept (GrowsBy-keeps before after old new c.in_ok-read_piece.field-0 read.piece);
      bounded = TakesWithin-trans first next last c.args.self.now.left c.loop-count.self.left c.read_piece.new.self.left
          kept.bounded read.bounded;
      files = read.files ∙ kept.files;
      failures = read.failures ∙ kept.failures;
      history = ReadsOn-trans _ _ _ _ _ _ kept.history read.history;
    }

-- each piece makes the bytes that are held longer, so that fewer than 2^64 turns remain
pub loop-count-smaller : goal.loop-count-smaller
loop-count-smaller g c =
    omega (
      arith,
      GrowsBy-length _ _ c.loop-count.self.bytes c.read_piece.new.self.bytes
          c.in_ok-read_piece.field-0 c.in_ok-read_piece.ensures.piece,
      c.in_ok-read_piece.ensures.room,
    )

-- if no more bytes come, the bytes that were searched are all that are held
pub returns-then-branch-eq0-clause-within : goal.returns-then-branch-eq0-clause-within
returns-then-branch-eq0-clause-within g c =
    omega (
      arith,
      GrowsBy-length _ _ c.loop-count.self.bytes c.read_piece.new.self.bytes
          c.in_ok-read_piece.field-0 c.in_ok-read_piece.ensures.piece,
      ap length c.bytes-searched.ensures,
    )
