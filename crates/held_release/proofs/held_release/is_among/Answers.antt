use Rattle.std.proofs.Common.{◌∙◌, rules}
use Rattle.std.proofs.lemmas.List.Sorted.{answers_always}
use Rattle.number_lists.proofs.IncreasingLemmas.{has-searched}
use Rattle.held_release.proofs.held_release.is_among.Goals as goal

-- the binary search finds `id` exactly if it is among the concepts
pub returns : goal.returns
returns c =
    let search_result = c.binary_search_by_key-place in
    c.is_ok.ensures.value
    ∙ has-searched c.args.concepts.now c.requires c.args.id search_result.result
    (search_result.ensures.position (λ id. id) (answers_always _ _ _ (λ f a r q called. search rules)))
