use Rattle.std.proofs.Common.{List, ◌∙◌, length, ap}
use Rattle.postings.specs.Groups.{ConceptGroup}
use Rattle.candidates.proofs.GroupLemmas.{groups_are}
use Rattle.executor.proofs.nodes.group_count.Goals as goal

-- the indexes have as many groups as all concepts of the release have
pub returns : goal.returns
returns c =
    c.group_count.ensures.count
    ∙ ap (λ (groups : List ConceptGroup). length groups)
    (groups_are c.args.reader.indexes.now c.args.reader.snapshot.now.release c.args.reader.index
    c.concept_count.ensures.rising)
