use Rattle.std.proofs.Common.{◌∙◌, ap, arith, length}
use Rattle.release_files.specs.Held.{reachable}
use Rattle.release_files.proofs.HeldLemmas.{GrowsBy-keeps, GrowsBy-length, KeepsBytes-trans, ReadsOn-trans}
use Rattle.release_files.proofs.HeldLemmas.{TakesWithin-trans}
use Rattle.release_files.proofs.held.Held.read_at_least.Goals as goal

-- a piece that is read keeps the invariant
pub loop-self-preserved : goal.loop-self-preserved
loop-self-preserved g c =
    let first = g.S.FileSource.rest c.args.source.now in
    let next = g.S.FileSource.rest c.loop-self.source in
    let last = g.S.FileSource.rest c.read_piece.new.source in
    let before = reachable c.loop-self.self.left next in
    let after = reachable c.read_piece.new.self.left last in
    let old = c.loop-self.self.bytes in
    let new = c.read_piece.new.self.bytes in
    let kept = c.loop-self.invariant in
    let read = c.in_ok-read_piece.ensures in
    record {
      kept = KeepsBytes-trans (reachable c.args.self.now.left first) before after c.args.self.now.bytes old new
          kept.kept (GrowsBy-keeps before after old new c.in_ok-read_piece.field-0 read.piece);
      bounded = TakesWithin-trans first next last c.args.self.now.left c.loop-self.self.left c.read_piece.new.self.left
          kept.bounded read.bounded;
      files = read.files ∙ kept.files;
      failures = read.failures ∙ kept.failures;
      history = ReadsOn-trans _ _ _ _ _ _ kept.history read.history;
    }

-- each piece lowers the number of bytes that are missing
pub loop-self-smaller : goal.loop-self-smaller
loop-self-smaller g c =
    omega (
      arith,
      GrowsBy-length _ _ c.loop-self.self.bytes c.read_piece.new.self.bytes
          c.in_ok-read_piece.field-0 c.in_ok-read_piece.ensures.piece,
      ap length c.bytes.ensures,
    )
