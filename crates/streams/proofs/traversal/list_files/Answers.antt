use Rattle.std.proofs.Common.{ap, arith, map, string_bytes, ◌+◌, ◌-◌}
use Rattle.streams.specs.Traversal.{Found}
use Rattle.streams.specs.inside.TraversalInside.{found_by}
use Rattle.streams.proofs.TraversalLemmas.{level_next, level_none}
use Rattle.streams.proofs.traversal.list_files.Goals as goal

-- one level that the walk goes through keeps the invariant for the next level
pub loop-turn-preserved : goal.loop-turn-preserved
loop-turn-preserved g c = record {
  ahead = λ tree names told rest. c.loop-turn.invariant.ahead tree names told
      (level_next tree c.args.folder.now (17 - c.loop-turn.turn) (17 - (c.loop-turn.turn + 1))
      (map string_bytes c.loop-turn.level.items) (map string_bytes c.take_folders-level.result.items)
      c.loop-turn.traversal.entered c.enter_all.new.self.entered c.take_folders-level.new.self.entered
      (found_by c.loop-turn.traversal) (found_by c.enter_all.new.self) (found_by c.take_folders-level.new.self) names
      (omega (arith, c.loop-turn-test.true)) c.loop-turn.invariant.none
      (rw c.as_slice.ensures.value at c.in-Ok.ensures tree told) c.take_folders-level.ensures.taken
      c.take_folders-level.ensures.entered
      (ap (λ (found : Found). found.files) c.take_folders-level.ensures.found) rest);
  none = ap (λ (found : Found). found.folders) c.take_folders-level.ensures.found;
}

-- after the last level the files that were found are those below the folder
pub returns : goal.returns
returns g c tree told =
    c.loop-turn.invariant.ahead tree (map string_bytes c.loop-turn.traversal.files.items) told
    (level_none tree c.args.folder.now (17 - c.loop-turn.turn) (map string_bytes c.loop-turn.level.items)
    c.loop-turn.traversal.entered
    (found_by c.loop-turn.traversal).files (omega (arith, c.loop-turn-test.false)))
