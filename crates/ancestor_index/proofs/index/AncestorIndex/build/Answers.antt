use Rattle.std.proofs.Common.{ℕ, ◌≡◌, ◌<◌, ◌^◌, ◌∙◌, List, length, sym, subst, ap, arith}
use Rattle.std.specs.Prelude.{All}
use Rattle.std.specs.List.Sorted.{IsStrictlyIncreasing}
use Rattle.hierarchy.specs.Hierarchy.{IsWithin, reaches}
use Rattle.number_lists.specs.KeyedLists.{transposed, transposed_from}
use Rattle.number_lists.proofs.KeyedLemmas.{length-lists_by}
use Rattle.ancestor_index.specs.HierarchyLists.{is_child, lists_where}
use Rattle.ancestor_index.specs.Wide.{AreWide}
use Rattle.ancestor_index.proofs.BuildLemmas.{ancestors_told, given_parents, hierarchy_told, order_count}
use Rattle.ancestor_index.proofs.BuildLemmas.{transposed_where, where_below}
use Rattle.ancestor_index.proofs.ClosureLemmas.{length-where}
use Rattle.ancestor_index.proofs.CompleteLemmas.{rising}
use Rattle.ancestor_index.proofs.index.AncestorIndex.build.Goals as goal

-- both ends of each row are below the count of concepts
pub linked_lists-requires-clause-within : goal.linked_lists-requires-clause-within
linked_lists-requires-clause-within c =
    subst (λ (n : ℕ). IsWithin n c.isa_rows-rows.result.now)
    (sym c.concept_count-count.ensures.count) c.isa_rows-rows.ensures.within

-- the parents are below the count of concepts
pub transposed-requires-clause-items : goal.transposed-requires-clause-items
transposed-requires-clause-items c =
    where_below c.concept_count-count.result (is_child c.isa_rows-rows.result.now) c.in_ok-parents.parents
    c.in_ok-parents.ensures

-- there are fewer than 2^32 lists of parents
pub transposed-requires-clause-few : goal.transposed-requires-clause-few
transposed-requires-clause-few c =
    let fit : c.concept_count-count.result < 2 ^ 32 = c.concept_count-count.type_inv in
    omega (
      arith,
      ap (λ (all : List (List ℕ)). length all) c.in_ok-parents.ensures,
      length-where c.concept_count-count.result (is_child c.isa_rows-rows.result.now),
      fit,
    )

-- the order has fewer than 2^32 concepts
pub ancestor_lists-requires-clause-few : goal.ancestor_lists-requires-clause-few
ancestor_lists-requires-clause-few c =
    let fit : c.concept_count-count.result < 2 ^ 32 = c.concept_count-count.type_inv in
    let rows = c.isa_rows-rows.result.now in
    let first = c.parents_first.ensures rows c.isa_rows-rows.ensures.rows c.isa_rows-rows.ensures.within in
    omega (
      arith,
      order_count (length c.args.snapshot.now.release.concepts) rows c.parents_first.result.now first,
      c.concept_count-count.ensures.count,
      fit,
    )

-- the lists of parents are those of the rows, and the order has parents first
pub ancestor_lists-requires-clause-parents : goal.ancestor_lists-requires-clause-parents
ancestor_lists-requires-clause-parents c =
    let rows = c.isa_rows-rows.result.now in
    let first = c.parents_first.ensures rows c.isa_rows-rows.ensures.rows c.isa_rows-rows.ensures.within in (
      rows,
      given_parents (length c.args.snapshot.now.release.concepts) rows c.in_ok-parents.parents
          c.parents_first.result.now c.isa_rows-rows.ensures.within
          (c.in_ok-parents.ensures ∙ (λ i. lists_where (c.concept_count-count.ensures.count i) (is_child rows))) first,
    )

-- the ancestors are below the count of concepts
pub transposed_rising-requires-clause-items : goal.transposed_rising-requires-clause-items
transposed_rising-requires-clause-items c =
    let rows = c.isa_rows-rows.result.now in
    let count = c.concept_count-count.result in
    let all = length c.args.snapshot.now.release.concepts in
    let ancestors = ancestors_told all count rows c.in_ok-parents.parents c.in_ok-ancestors.ancestors
    c.parents_first.result.now c.concept_count-count.ensures.count c.isa_rows-rows.ensures.within
    c.in_ok-parents.ensures
    (c.parents_first.ensures rows c.isa_rows-rows.ensures.rows c.isa_rows-rows.ensures.within)
    c.in_ok-ancestors.ensures in
    where_below count (reaches rows) c.in_ok-ancestors.ancestors ancestors

-- there are fewer than 2^32 lists of ancestors
pub transposed_rising-requires-clause-few : goal.transposed_rising-requires-clause-few
transposed_rising-requires-clause-few c =
    let fit : c.concept_count-count.result < 2 ^ 32 = c.concept_count-count.type_inv in
    let rows = c.isa_rows-rows.result.now in
    let count = c.concept_count-count.result in
    let all = length c.args.snapshot.now.release.concepts in
    let ancestors = ancestors_told all count rows c.in_ok-parents.parents c.in_ok-ancestors.ancestors
    c.parents_first.result.now c.concept_count-count.ensures.count c.isa_rows-rows.ensures.within
    c.in_ok-parents.ensures
    (c.parents_first.ensures rows c.isa_rows-rows.ensures.rows c.isa_rows-rows.ensures.within)
    c.in_ok-ancestors.ensures in
    omega (arith, ap (λ (lists : List (List ℕ)). length lists) ancestors, length-where count (reaches rows), fit)

-- the lists of ancestors rise
pub transposed_rising-requires-clause-rising : goal.transposed_rising-requires-clause-rising
transposed_rising-requires-clause-rising c =
    let rows = c.isa_rows-rows.result.now in
    let count = c.concept_count-count.result in
    let all = length c.args.snapshot.now.release.concepts in
    let ancestors = ancestors_told all count rows c.in_ok-parents.parents c.in_ok-ancestors.ancestors
    c.parents_first.result.now c.concept_count-count.ensures.count c.isa_rows-rows.ensures.within
    c.in_ok-parents.ensures
    (c.parents_first.ensures rows c.isa_rows-rows.ensures.rows c.isa_rows-rows.ensures.within)
    c.in_ok-ancestors.ensures in
    subst (λ (lists : List (List ℕ)). All IsStrictlyIncreasing lists) (sym ancestors) (rising count (reaches rows))

-- the descendants are below the count of concepts
pub wide_lists-requires-clause-items : goal.wide_lists-requires-clause-items
wide_lists-requires-clause-items c =
    let rows = c.isa_rows-rows.result.now in
    let count = c.concept_count-count.result in
    let all = length c.args.snapshot.now.release.concepts in
    let ancestors = ancestors_told all count rows c.in_ok-parents.parents c.in_ok-ancestors.ancestors
    c.parents_first.result.now c.concept_count-count.ensures.count c.isa_rows-rows.ensures.within
    c.in_ok-parents.ensures
    (c.parents_first.ensures rows c.isa_rows-rows.ensures.rows c.isa_rows-rows.ensures.within)
    c.in_ok-ancestors.ensures in
    let descendants : c.in_ok-descendants.descendants
    ≡ lists_where count (λ concept other. reaches rows other concept) = c.in_ok-descendants.ensures
    ∙ ap (transposed count) ancestors ∙ transposed_where count (reaches rows) in
    where_below count (λ concept other. reaches rows other concept) c.in_ok-descendants.descendants descendants

-- there are fewer than 2^32 lists of descendants
pub wide_lists-requires-clause-few : goal.wide_lists-requires-clause-few
wide_lists-requires-clause-few c =
    let fit : c.concept_count-count.result < 2 ^ 32 = c.concept_count-count.type_inv in
    omega (
      arith,
      fit,
      ap (λ (lists : List (List ℕ)). length lists) c.in_ok-descendants.ensures,
      length-lists_by c.concept_count-count.result (transposed_from 0 c.in_ok-ancestors.ancestors),
    )

-- the long lists of descendants are kept as words
pub invariant_of-result : goal.invariant_of-result
invariant_of-result c =
    let fit : c.concept_count-count.result < 2 ^ 32 = c.concept_count-count.type_inv in
    let long : length c.in_ok-descendants.descendants ≡ c.concept_count-count.result =
    ap (λ (lists : List (List ℕ)). length lists) c.in_ok-descendants.ensures
    ∙ length-lists_by c.concept_count-count.result (transposed_from 0 c.in_ok-ancestors.ancestors) in (
      omega (arith, fit, long),
      subst (λ (n : ℕ). AreWide n c.in_ok-descendants.descendants c.in_ok-wide.wide.ends.items
          c.in_ok-wide.wide.words.items) (sym long) c.in_ok-wide.ensures,
    )

-- the four families of lists are the hierarchy of the release
pub returns-clause-hierarchy : goal.returns-clause-hierarchy
returns-clause-hierarchy c =
    let rows = c.isa_rows-rows.result.now in
    let count = c.concept_count-count.result in
    let all = length c.args.snapshot.now.release.concepts in
    let ancestors = ancestors_told all count rows c.in_ok-parents.parents c.in_ok-ancestors.ancestors
    c.parents_first.result.now c.concept_count-count.ensures.count c.isa_rows-rows.ensures.within
    c.in_ok-parents.ensures
    (c.parents_first.ensures rows c.isa_rows-rows.ensures.rows c.isa_rows-rows.ensures.within)
    c.in_ok-ancestors.ensures in
    let children : c.in_ok-children.children ≡ lists_where count (λ concept other. is_child rows other concept) =
    c.in_ok-children.ensures ∙ ap (transposed count) c.in_ok-parents.ensures ∙ transposed_where count (is_child rows) in
    let descendants : c.in_ok-descendants.descendants
    ≡ lists_where count (λ concept other. reaches rows other concept) = c.in_ok-descendants.ensures
    ∙ ap (transposed count) ancestors ∙ transposed_where count (reaches rows) in
    hierarchy_told c.args.snapshot.now.release rows count c.concept_count-count.ensures.count
    c.concept_count-count.ensures.rising c.isa_rows-rows.ensures.within c.isa_rows-rows.ensures.rows
    c.in_ok-ancestors.ancestors c.in_ok-descendants.descendants c.in_ok-parents.parents c.in_ok-children.children
    ancestors descendants c.in_ok-parents.ensures children
