use Rattle.std.proofs.Common.{ℕ, ◌≡◌, ◌<◌, ◌^◌, ◌∙◌, List, arith, length, map, refl, subst, sym}
use Rattle.std.specs.List.Sorted.{IsStrictlyIncreasing}
use Rattle.held_release.specs.AttributesBySource.{attributes_by_source}
use Rattle.held_release.specs.Numbering.{concept_number}
use Rattle.postings.proofs.BuildLemmas.{indexes_of_own, length-members, members_told, rows_told}
use Rattle.postings.proofs.StatsLemmas.{lists_for}
use Rattle.postings.proofs.index.Indexes.build.Goals as goal

-- there are less than 2^32 lists of members
pub with_members-requires : goal.with_members-requires
with_members-requires c =
    let ids = c.args.snapshot.now.release.concepts in
    omega (
      arith,
      c.concept_count.ensures.few,
      length-members ids ids c.concept_count.result c.member_rows.result.now c.in_ok-members.members refl
          c.concept_count.ensures.count c.in_ok-members.ensures,
    )

-- the identifiers of the concepts rise
pub typed_rows-requires-clause-rising : goal.typed_rows-requires-clause-rising
typed_rows-requires-clause-rising c =
    subst (λ (ids : List ℕ). IsStrictlyIncreasing ids) (sym (c.as_slice.ensures.value ∙ c.in_ok-concepts.ensures))
    c.concept_count.ensures.rising

-- there are less than 2^31 identifiers of concepts
pub typed_rows-requires-clause-few : goal.typed_rows-requires-clause-few
typed_rows-requires-clause-few c =
    subst (λ (ids : List ℕ). length ids < 2 ^ 31) (sym (c.as_slice.ensures.value ∙ c.in_ok-concepts.ensures))
    c.concept_count.ensures.few

-- the built fields fit together as `AreIndexed` demands
pub invariant_of-result : goal.invariant_of-result
invariant_of-result c =
    let release = c.args.snapshot.now.release in
    let all = c.in_ok-concepts.concepts.items in
    let same : all ≡ release.concepts = c.in_ok-concepts.ensures in record {
      rising = subst (λ (ids : List ℕ). IsStrictlyIncreasing ids) (sym same) c.concept_count.ensures.rising;
      few = subst (λ (ids : List ℕ). length ids < 2 ^ 31) (sym same) c.concept_count.ensures.few;
      rows = indexes_of_own release.concepts all (attributes_by_source release) c.in_ok-rows.rows same
          c.in_ok-rows.ensures.rows;
      hierarchy = lists_for all release c.in_ok-hierarchy.hierarchy same c.in_ok-hierarchy.ensures.hierarchy;
      members = length-members release.concepts all c.concept_count.result c.member_rows.result.now
          c.in_ok-members.members same
          c.concept_count.ensures.count c.in_ok-members.ensures;
      reference_sets = c.in_ok-reference_sets.ensures;
      types = c.in_ok-rows.ensures.types
          ∙ (λ i. map (concept_number (c.as_slice.ensures.value i)) c.in_ok-rows.rows.types.ids.items);
    }

-- the built indexes are those of the release
pub returns : goal.returns
returns c =
    let release = c.args.snapshot.now.release in
    let all = c.in_ok-concepts.concepts.items in
    let same : all ≡ release.concepts = c.in_ok-concepts.ensures in record {
      concepts = same;
      hierarchy = c.in_ok-hierarchy.ensures.hierarchy;
      rows = rows_told release.concepts all (attributes_by_source release) c.in_ok-rows.rows same
          c.in_ok-rows.ensures.rows;
      members = members_told release.concepts c.concept_count.result c.member_rows.result.now release.members
          c.in_ok-members.members
          c.concept_count.ensures.rising c.concept_count.ensures.count c.member_rows.ensures.within
          c.member_rows.ensures.rows
          c.in_ok-members.ensures;
      values = c.in_ok-rows.ensures.rows.coded.tables;
    }
