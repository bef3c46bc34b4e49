use Rattle.std.proofs.Common.{◌≡◌, ◌∙◌, ◌||◌, IfSome, ap, subst, sym}
use Rattle.idset.specs.Sets.{all_items}
use Rattle.number_lists.specs.Rising.{numbers_where}
use Rattle.ancestor_index.specs.inside.Gathered.{has_joined}
use Rattle.ancestor_index.proofs.GatherLemmas.{joined_list}
use Rattle.ancestor_index.proofs.closure.add_joined.Goals as goal

-- the list with the items of the set has the numbers of the list or of the set
pub returns-in_ok-list : goal.returns-in_ok-list
returns-in_ok-list g c = λ count test bound is.
    let items_of = g.S.ConceptSet.items_of in
    let set = c.in-Some.set in
    let bounded : g.S.ConceptSet.bound_of set ≡ count =
    subst (λ joined. IfSome joined (λ set. g.S.ConceptSet.bound_of set ≡ count)) c.in-Some.is bound in
    c.in_ok-list.ensures
    ∙ c.in_ok-add_all.ensures.items
    ∙ (λ i. all_items (bounded i) (items_of set) (c.as_slice.ensures.value i))
    ∙ joined_list count test (items_of set) c.args.list.now.items is
    ∙ ap (λ joined. numbers_where count (λ number. test number || has_joined items_of joined number)) (sym c.in-Some.is)
