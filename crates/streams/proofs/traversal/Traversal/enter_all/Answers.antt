use Rattle.std.proofs.Common.{◌∙◌, ap, string_bytes}
use Rattle.streams.specs.inside.TraversalInside.{found_by}
use Rattle.streams.proofs.TraversalLemmas.{enters_next, enters_none}
use Rattle.streams.proofs.traversal.Traversal.enter_all.Goals as goal

-- one folder that is entered keeps the invariant for the next folder
pub loop-below-preserved : goal.loop-below-preserved
loop-below-preserved g c tree last new told rest =
    c.loop-below.invariant tree last new told
    (enters_next tree c.args.folder.now c.args.level.now c.loop-below.below-index c.below-item.result
    c.as_str.result.now
    c.loop-below.self.entered c.enter.new.self.entered last (found_by c.loop-below.self) (found_by c.enter.new.self) new
    c.loop-below-test.true (c.as_str.ensures.value ∙ ap string_bytes c.below-item.is) (c.in-Ok.ensures tree told) rest)

-- after the last folder all folders of the level have been entered
pub returns : goal.returns
returns g c tree told =
    c.loop-below.invariant tree c.loop-below.self.entered (found_by c.loop-below.self) told
    (enters_none tree c.args.folder.now c.args.level.now c.loop-below.below-index c.loop-below.self.entered
    (found_by c.loop-below.self) c.loop-below-test.false)
