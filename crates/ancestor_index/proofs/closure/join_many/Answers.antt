use Rattle.std.proofs.Common.{◌∙◌, sym}
use Rattle.std.proofs.lemmas.Result.{on_ok_weaker}
use Rattle.number_lists.specs.Members.{has}
use Rattle.number_lists.proofs.WhereLemmas.{numbers_where-agree}
use Rattle.idset.specs.declared.word_set.WordSet.{WordSet}
use Rattle.ancestor_index.proofs.GatherLemmas.{rises_below}
use Rattle.ancestor_index.proofs.closure.join_many.Goals as goal

-- the sorted list rises below the bound of the set
pub add_joined-requires : goal.add_joined-requires
add_joined-requires c =
    rises_below (λ (set : WordSet). set.bound) c.args.count (has c.gather.new.list.items) _ c.in_ok-joined.joined
    c.in_ok-joined.ensures.bound
    (c.keep_rising.ensures c.args.count c.in_ok-joined.ensures.below)

-- the sorted list with the items of the set has the gathered numbers, in rising order
pub returns : goal.returns
returns c = on_ok_weaker c.add_joined.result
    (λ joined. joined c.args.count (has c.gather.new.list.items) c.in_ok-joined.ensures.bound
    (c.keep_rising.ensures c.args.count c.in_ok-joined.ensures.below)
    ∙ numbers_where-agree c.args.count _ _ (λ number below. sym (c.in_ok-joined.ensures.gathered number below)))
    c.add_joined.ensures
