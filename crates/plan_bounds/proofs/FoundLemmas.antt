-- How many concepts and groups a node of a plan means, by the lists and the rows of the indexes.
use Rattle.std.proofs.Common.{ℕ, ◌+◌, ◌==◌, ◌≡◌, ◌≤◌, ◌<◌, ◌∷◌, [], ◌∙◌, ◌&&◌, ◌||◌, inl, inr, Bool, true, false, cond}
use Rattle.std.proofs.Common.{List, Option, None, Some, length, get_or, map, min, refl, sym, ap, subst, append-nil}
use Rattle.std.proofs.Common.{arith}
use Rattle.std.specs.Prelude.{All, Contains, count_by, filter}
use Rattle.std.specs.List.Sorted.{IsStrictlyIncreasing}
use Rattle.std.proofs.lemmas.Bool.{and_from, and_parts, cases_lt, eq-eqb, eqb-true, false≢true, leb-true}
use Rattle.std.proofs.lemmas.List.Elements.{All-contains, All-contains_itself, All-filter, filter_passes}
use Rattle.std.proofs.lemmas.List.Kept.{AllPairs-from_increasing}
use Rattle.std.proofs.lemmas.List.Quantifiers.{position-Some}
use Rattle.std.proofs.lemmas.List.Sums.{count_by-le-length}
use Rattle.release_model.specs.Groups.{groups_of}
use Rattle.release_model.specs.Pairs.{Pair, in_pairs, out_pairs, pair_of, reverse_pair_of, value_eq}
use Rattle.release_model.specs.Release.{Attribute, Release, Value, concept_value, number_value, text_value}
use Rattle.release_model.proofs.PairLemmas.{tells_same_value}
use Rattle.hierarchy.specs.Hierarchy.{reaches}
use Rattle.number_lists.specs.KeyedLists.{list_of}
use Rattle.number_lists.specs.Members.{has}
use Rattle.number_lists.proofs.MemberLemmas.{had_contained}
use Rattle.constraint_tree.specs.declared.operator.Cardinality.{Cardinality}
use Rattle.constraint_tree.specs.declared.operator.Operator.{Operator}
use Rattle.constraint_tree.specs.declared.operator.Operator.TheVariants.{Descendants, DescendantsOrSelf, Children}
use Rattle.constraint_tree.specs.declared.operator.Operator.TheVariants.{ChildrenOrSelf, Ancestors, AncestorsOrSelf}
use Rattle.constraint_tree.specs.declared.operator.Operator.TheVariants.{Parents, ParentsOrSelf, Top, Bottom}
use Rattle.constraint_tree.specs.Denotation.{is_component, is_value}
use Rattle.constraint_tree.specs.Passing.{is_within, lies_in}
use Rattle.constraint_tree.specs.Walks.{has_concept, is_above, is_below, is_child, is_just_above, is_just_below}
use Rattle.constraint_tree.specs.Walks.{some_member}
use Rattle.number_lists.proofs.ListLemmas.{passing_item, some_item_passes, IsOnce}
use Rattle.constraint_tree.proofs.WalkLemmas.{tells_in_force}
use Rattle.set_algebra.specs.Meaning.{group_means, has_groups, means, value_passes}
use Rattle.set_algebra.specs.Physical.{Physical, PhysicalTest, logical, logical_test, physical_empty, physical_one}
use Rattle.set_algebra.specs.Physical.{physical_within}
use Rattle.set_algebra.specs.Plan.{Plan, empty_plan, one_plan, walk_plan, members_plan, pairs_plan, pairs_group_plan}
use Rattle.set_algebra.specs.Plan.{TestPlan, within_plan}
use Rattle.held_release.specs.AttributesBySource.{attributes_by_source}
use Rattle.held_release.specs.Numbering.{concept_number}
use Rattle.held_release.proofs.NumberingLemmas.{concept_number-has}
use Rattle.number_lists.proofs.PlaceLemmas.{place_of}
use Rattle.ancestor_index.specs.HierarchyLists.{Hierarchy, lists_where}
use Rattle.ancestor_index.specs.HierarchyLists.{is_child as leads_to}
use Rattle.ancestor_index.proofs.ClosureLemmas.{list_of-where}
use Rattle.postings.specs.Entries.{Entry, entries_of}
use Rattle.postings.specs.Groups.{ConceptGroup, all_groups, groups_among, groups_in, is_in_group, keys_of}
use Rattle.postings.specs.Groups.{pairs_of_group, rows_alone}
use Rattle.postings.specs.Indexed.{Indexed, IsIndexOf, rows_by_source, rows_by_value}
use Rattle.postings.specs.Stats.{pairs_where}
use Rattle.postings.specs.declared.stats.Stats.{Stats}
use Rattle.number_lists.proofs.BlockLemmas.{Contains-filter, Contains-map}
use Rattle.postings.proofs.CountLemmas.{all_groups_again, back_count, first_entries, first_entries_of_group}
use Rattle.postings.proofs.CountLemmas.{groups_count}
use Rattle.postings.proofs.EntryLemmas.{rows_of_entries}
use Rattle.postings.proofs.KeyLemmas.{IsTold, group_with, groups_at, groups_once, groups_told_apart, in_one_group}
use Rattle.postings.proofs.PlaceLemmas.{length-places_where}
use Rattle.postings.proofs.StatsLemmas.{stats_told}
use Rattle.held_release.proofs.ValueLemmas.{from_map}
use Rattle.set_algebra.specs.declared.choice.Choice.{Choice}
use Rattle.set_algebra.specs.declared.choice.Choice.TheVariants.{ByValue, ByType, Scan}
use Rattle.plan_bounds.specs.Alternatives.{found_by, leaf_rows, leaf_size}
use Rattle.plan_bounds.specs.Counts.{counted, leaf_of, list_length, of_concept, type_rows, value_row_count, value_rows}
use Rattle.plan_bounds.specs.Sizes.{members_size, walk_size}
use Rattle.plan_bounds.proofs.FewLemmas.{Contains-blocks, count_either, count_le, count_none, count_once, few_counted}
use Rattle.plan_bounds.proofs.FewLemmas.{few_passing, length-places, some_counted}

-- ---- how many concepts or groups are found
-- if `n` is at most `all`, and also at most `most` if `least` is not 0, then `n` is at most `found_by (least == 0)
-- all most`
pub found-le : (least all most n : ℕ) → n ≤ all → (1 ≤ least → n ≤ most) → n ≤ found_by (least == 0) all most
found-le least all most n within few = by (least == 0) refl
  where
    by : (b : Bool) → (least == 0) ≡ b → n ≤ cond b all (min all most)
    by true is = within
    by false is = let some : 1 ≤ least = omega (arith, ne least is) in omega (arith, within, few some)
      where
        ne : (least : ℕ) → (least == 0) ≡ false → 1 ≤ least
        ne least other = elim (cases_lt 0 least) [
          | inl more ↦ omega arith
          | inr none ↦ absurd (false≢true (sym other ∙ eq-eqb least 0 (omega (arith, none))))
        ]

-- a count that lies in a cardinality with a minimum of at least 1 is at least 1
some_of : (count : Cardinality) (n : ℕ) → 1 ≤ count.min → lies_in count n ≡ true → 1 ≤ n
some_of count n some lies = omega (arith, some, leb-true count.min n (and_parts _ _ lies).0)

-- a value that passes `is_within set` is a concept that `set` contains
within_value : (set : ℕ → Bool) (value : Value) → is_within set value ≡ true
    → (concept : ℕ) × (value ≡ concept_value concept) × (set concept ≡ true)
within_value set (concept_value concept) passes = (concept, refl, passes)
within_value set (number_value number) passes = absurd (false≢true passes)
within_value set (text_value text) passes = absurd (false≢true passes)

-- an item of `filter p xs` is an item of `xs` and passes `p`
left : {X : Type 0} (p : X → Bool) (xs : List X) (x : X) → Contains (filter p xs) x → Contains xs x × (p x ≡ true)
left p xs x there = (
  All-contains (Contains xs) (filter p xs) x (All-filter p (Contains xs) xs (All-contains_itself xs)) there,
  All-contains (λ x. p x ≡ true) (filter p xs) x (filter_passes p xs) there,
)

-- if at least one pair of the kept entries passes `test`, a row of `rows` belongs and has a pair that passes `test`
row_counted : (belongs : Attribute → Bool) (first : Entry → Bool) (pair : Attribute → Pair) (test : Pair → Bool)
    (rows : List Attribute)
    → 1 ≤ count_by test (map (λ (entry : Entry). pair entry.row)
    (filter (λ (entry : Entry). belongs entry.row && first entry) (entries_of rows)))
    → (row : Attribute) × Contains rows row × (belongs row ≡ true) × (test (pair row) ≡ true)
row_counted belongs first pair test rows some =
    let kept : List Entry = filter (λ (entry : Entry). belongs entry.row && first entry) (entries_of rows) in
    let counted = some_counted test (map (λ (entry : Entry). pair entry.row) kept) some in
    let of_entry = from_map (λ (entry : Entry). pair entry.row) kept counted.0 counted.1 in
    let there = left (λ (entry : Entry). belongs entry.row && first entry) (entries_of rows) of_entry.0 of_entry.1 in (
      of_entry.0.row,
      subst (λ (all : List Attribute). Contains all of_entry.0.row) (rows_of_entries [] rows)
          (Contains-map (λ (entry : Entry). entry.row) (entries_of rows) of_entry.0 there.0),
      (and_parts (belongs of_entry.0.row) (first of_entry.0) there.1).0,
      ap test of_entry.2 ∙ counted.2,
    )

-- each group in the list of a concept's groups has that concept
is_of : (release : Release) (concept : ℕ) (group : ConceptGroup) → Contains (groups_at release concept) group
    → (group.concept == concept) ≡ true
is_of release concept group there =
    let key = from_map (group_with concept) (keys_of release concept) group there in
    eq-eqb group.concept concept (ap (λ (group : ConceptGroup). group.concept) (sym key.2))

-- ---- rows of a leaf
-- the value of a row, or its source if the row is read backwards
abbrev value_on : Bool → Attribute → Value
value_on back row = cond back (concept_value row.source) row.value

-- whether the type of a row is in the set of `types` and its value passes `test`; with `back`, its source
abbrev pub row_passes : Release → Bool → Plan → TestPlan → Attribute → Bool
row_passes release back types test row =
    means release types row.type_id && value_passes release test (value_on back row)

-- ---- a release with its indexes
module _ (release : Release) (indexed : Indexed) (is : IsIndexOf indexed release)
    (rising : IsStrictlyIncreasing release.concepts) where
  -- the identifier of the concept with a number
  abbrev id : ℕ → ℕ
  id number = get_or release.concepts number 0

  -- how many concepts are in a set
  abbrev many : (ℕ → Bool) → ℕ
  many set = count_by set release.concepts

  -- no concept stands twice in the list of the concepts in force
  concepts_once : IsOnce release.concepts
  concepts_once i j d less below same =
      let up : get_or release.concepts i d < get_or release.concepts j d =
      AllPairs-from_increasing release.concepts rising i j d less below in
      omega (arith, up, same)

  -- a set has at most as many concepts in force as the indexes have concepts
  pub many-all : (set : ℕ → Bool) → many set ≤ length indexed.concepts
  many-all set = omega (arith, count_by-le-length set release.concepts, ap (λ (ids : List ℕ). length ids) is.concepts)

  -- a plan of one concept means at most one concept
  pub many-one : (one : ℕ) → many (means release (one_plan one)) ≤ 1
  many-one one =
      count_once release.concepts concepts_once (means release (one_plan one))
      (λ x y there also here too. eqb-true x one (and_parts (has_concept release x) (x == one) here).1
      ∙ sym (eqb-true y one (and_parts (has_concept release y) (y == one) too).1))

  -- `n` is at most what `count` says of the concept `one` if it is at most the count of its number, and 0 if the
  -- concept is not in force
  of_concept-le : (count : ℕ → ℕ) (one n : ℕ) → ((has_concept release one ≡ true → ⊥) → n ≡ 0)
      → ((number : ℕ) → number < length release.concepts → id number ≡ one → n ≤ count number)
      → n ≤ of_concept indexed count one
  of_concept-le count one n none some = by (concept_number indexed.concepts one) refl
    where
      number_of : has_concept release one ≡ true
          → concept_number indexed.concepts one ≡ Some (place_of release.concepts one)
      number_of forced =
          ap (λ (ids : List ℕ). concept_number ids one) is.concepts
          ∙ concept_number-has release.concepts one
          (had_contained release.concepts one ((tells_in_force release one).0 forced))

      by : (found : Option ℕ) → concept_number indexed.concepts one ≡ found → n ≤ counted count found
      by None at = omega (
        arith,
        none (λ forced. let found : Some (place_of release.concepts one) ≡ None =
            sym (number_of forced) ∙ at in cc),
      )
      by (Some number) at =
          let found = position-Some (λ other. one == other) release.concepts number 0
          (ap (λ (ids : List ℕ). concept_number ids one) (sym is.concepts) ∙ at) in
          some number found.0 (sym (eqb-true one (id number) found.1))

  -- a set whose concepts all pass `test one` has at most as many concepts as the list of `one`
  by_list : (lists : List (List ℕ)) (test : ℕ → ℕ → Bool)
      → lists ≡ lists_where (length release.concepts) (λ a b. test (id a) (id b))
      → (one : ℕ) (set : ℕ → Bool)
      → ((concept : ℕ) → set concept ≡ true → (has_concept release one ≡ true) × (test one concept ≡ true))
      → many set ≤ of_concept indexed (λ number. length (list_of lists number)) one
  by_list lists test are one set each =
      of_concept-le (λ number. length (list_of lists number)) one (many set)
      (λ none. count_none set release.concepts (λ concept there passes. none (each concept passes).0))
      (λ number below same.
      let long : length (list_of lists number) ≡ many (test one) =
      ap (λ (all : List (List ℕ)). length (list_of all number)) are
      ∙ ap (λ (list : List ℕ). length list)
      (list_of-where (length release.concepts) (λ a b. test (id a) (id b)) number below)
      ∙ length-places (test (id number)) release.concepts 0
      ∙ ap (λ (one : ℕ). many (test one)) same in
      omega (arith, long, count_le set (test one) release.concepts (λ concept passes. (each concept passes).1)))

  -- ---- where an operator leads
  -- at most as many concepts pass `test` from the concept `one` as its list has
  from_one : (lists : List (List ℕ)) (test : ℕ → ℕ → Bool)
      → lists ≡ lists_where (length release.concepts) (λ a b. test (id a) (id b))
      → (one : ℕ)
      → many (λ concept. some_member release (means release (one_plan one)) (λ member. test member concept))
      ≤ of_concept indexed (λ number. length (list_of lists number)) one
  from_one lists test are one =
      by_list lists test are one
      (λ concept. some_member release (means release (one_plan one)) (λ member. test member concept))
      (λ concept passes.
      let member = passing_item (λ member. means release (one_plan one) member && test member concept) release.concepts
      passes in
      let both = and_parts (means release (one_plan one) member.0) (test member.0 concept) member.2 in
      let own = and_parts (has_concept release member.0) (member.0 == one) both.0 in
      let same : member.0 ≡ one = eqb-true member.0 one own.1 in
      (ap (has_concept release) (sym same) ∙ own.0, ap (λ (from : ℕ). test from concept) (sym same) ∙ both.1))

  -- if at most `n` concepts pass `test`, at most `n` of them are in force
  related : (test : ℕ → Bool) (n : ℕ) → many test ≤ n → many (λ concept. has_concept release concept && test concept)
      ≤ n + 0
  related test n few =
      omega (
        arith,
        few,
        count_le (λ concept. has_concept release concept && test concept) test release.concepts
            (λ concept passes. (and_parts (has_concept release concept) (test concept) passes).1),
      )

  -- if at most `n` concepts pass `test`, these and the concept `one` are at most `n + 1`
  related_or_self : (one : ℕ) (test : ℕ → Bool) (n : ℕ) → many test ≤ n
      → many (λ concept. has_concept release concept && (means release (one_plan one) concept || test concept)) ≤ n + 1
  related_or_self one test n few =
      let self : ℕ → Bool = means release (one_plan one) in
      omega (
        arith,
        few,
        many-one one,
        count_either self test release.concepts,
        count_le (λ concept. has_concept release concept && (self concept || test concept))
            (λ concept. self concept || test concept)
            release.concepts
            (λ concept passes. (and_parts (has_concept release concept) (self concept || test concept) passes).1),
      )

  -- if a set has at most `n` concepts, at most `n` of it pass a test
  left_of : (set test : ℕ → Bool) (n : ℕ) → many set ≤ n
      → many (λ concept. has_concept release concept && (set concept && test concept)) ≤ n
  left_of set test n few =
      omega (
        arith,
        few,
        count_le (λ concept. has_concept release concept && (set concept && test concept)) set release.concepts
            (λ concept passes. (and_parts (set concept) (test concept)
            (and_parts (has_concept release concept) (set concept && test concept) passes).1).0),
      )

  -- a concept has at most as many descendants as its list of descendants is long
  below_one : (one : ℕ) → many (is_below release (means release (one_plan one))) ≤ list_length indexed Descendants one
  below_one one =
      from_one indexed.hierarchy.descendants (λ a b. reaches release.isa b a)
      (ap (λ (all : Hierarchy). all.descendants) is.hierarchy) one

  -- a concept has at most as many ancestors as its list of ancestors is long
  above_one : (one : ℕ) → many (is_above release (means release (one_plan one))) ≤ list_length indexed Ancestors one
  above_one one =
      from_one indexed.hierarchy.ancestors (λ a b. reaches release.isa a b)
      (ap (λ (all : Hierarchy). all.ancestors) is.hierarchy) one

  -- a concept has at most as many children as its list of children is long
  just_below_one : (one : ℕ) → many (is_just_below release (means release (one_plan one)))
      ≤ list_length indexed Children one
  just_below_one one =
      from_one indexed.hierarchy.children (λ a b. is_child release b a)
      (ap (λ (all : Hierarchy). all.children) is.hierarchy) one

  -- a concept has at most as many parents as its list of parents is long
  just_above_one : (one : ℕ) → many (is_just_above release (means release (one_plan one)))
      ≤ list_length indexed Parents one
  just_above_one one =
      from_one indexed.hierarchy.parents (λ a b. is_child release a b)
      (ap (λ (all : Hierarchy). all.parents) is.hierarchy) one

  -- a walk from one concept means at most `walk_size` concepts
  pub walk_from_one : (operator : Operator) (one n : ℕ)
      → many (means release (walk_plan operator (one_plan one))) ≤ walk_size indexed operator (Some one) n
  walk_from_one Descendants one n = related (is_below release (means release (one_plan one))) _ (below_one one)
  walk_from_one DescendantsOrSelf one n =
      related_or_self one (is_below release (means release (one_plan one))) _ (below_one one)
  walk_from_one Children one n = related (is_just_below release (means release (one_plan one))) _ (just_below_one one)
  walk_from_one ChildrenOrSelf one n =
      related_or_self one (is_just_below release (means release (one_plan one))) _ (just_below_one one)
  walk_from_one Ancestors one n = related (is_above release (means release (one_plan one))) _ (above_one one)
  walk_from_one AncestorsOrSelf one n =
      related_or_self one (is_above release (means release (one_plan one))) _ (above_one one)
  walk_from_one Parents one n = related (is_just_above release (means release (one_plan one))) _ (just_above_one one)
  walk_from_one ParentsOrSelf one n =
      related_or_self one (is_just_above release (means release (one_plan one))) _ (just_above_one one)
  walk_from_one Top one n = left_of (means release (one_plan one)) _ 1 (many-one one)
  walk_from_one Bottom one n = left_of (means release (one_plan one)) _ 1 (many-one one)

  -- if `operand` means at most `n` concepts, a walk from it means at most `walk_size` concepts
  pub walk_from_any : (operator : Operator) (operand : Plan) (n : ℕ) → many (means release operand) ≤ n
      → many (means release (walk_plan operator operand)) ≤ walk_size indexed operator None n
  walk_from_any Top operand n few = left_of (means release operand) _ n few
  walk_from_any Bottom operand n few = left_of (means release operand) _ n few
  walk_from_any operator operand n few = many-all (means release (walk_plan operator operand))

  -- ---- reference sets
  -- a `members_plan` of one reference set means at most `members_size` concepts
  pub members_of_one : (one : ℕ) → many (means release (members_plan (one_plan one))) ≤ members_size indexed (Some one)
  members_of_one one =
      omega (
        arith,
        many-all (means release (members_plan (one_plan one))),
        by_list indexed.members (leads_to release.members) is.members one (means release (members_plan (one_plan one)))
            (λ concept passes.
            let parts = and_parts (has_concept release concept) _ passes in
            let row = passing_item (λ (row : ℕ × ℕ). means release (one_plan one) row.0 && (row.1 == concept))
            release.members parts.1 in
            let both = and_parts (means release (one_plan one) row.0.0) (row.0.1 == concept) row.2 in
            let own = and_parts (has_concept release row.0.0) (row.0.0 == one) both.0 in
            let same : row.0.0 ≡ one = eqb-true row.0.0 one own.1 in (
              ap (has_concept release) (sym same) ∙ own.0,
              some_item_passes (λ (row : ℕ × ℕ). (row.0 == one) && (row.1 == concept)) release.members row.0 row.1
                  (and_from (row.0.0 == one) (row.0.1 == concept) own.1 both.1),
            )),
      )

  -- if all concepts of `set` are in force, at most `members_size` concepts are members of a reference set in `set`
  pub members_of_any : (set : ℕ → Bool) → ((concept : ℕ) → set concept ≡ true → has_concept release concept ≡ true)
      → many (is_component release set) ≤ members_size indexed None
  members_of_any set forced =
      let pairs : List (ℕ × ℕ) = pairs_where release.concepts (leads_to release.members) in
      omega (
        arith,
        many-all (is_component release set),
        ap (λ (stats : Stats). stats.m) (stats_told indexed release rising is),
        few_counted (λ concept (pair : ℕ × ℕ). pair.1 == concept) release.concepts
            (λ pair. count_once release.concepts concepts_once (λ concept. pair.1 == concept)
            (λ x y there also here too. sym (eqb-true pair.1 x here) ∙ eqb-true pair.1 y too))
            pairs (is_component release set) listed,
      )
    where
      listed : (concept : ℕ) → Contains release.concepts concept → is_component release set concept ≡ true
          → (pair : ℕ × ℕ) × Contains (pairs_where release.concepts (leads_to release.members)) pair
          × ((pair.1 == concept) ≡ true)
      listed concept there passes =
          let parts = and_parts (has_concept release concept) _ passes in
          let row = passing_item (λ (row : ℕ × ℕ). set row.0 && (row.1 == concept)) release.members parts.1 in
          let both = and_parts (set row.0.0) (row.0.1 == concept) row.2 in
          let from : ℕ = row.0.0 in (
            (from, concept),
            Contains-blocks (λ one. map (λ other. (one, other))
                (filter (leads_to release.members one) release.concepts)) release.concepts
                from (from, concept) ((tells_in_force release from).0 (forced from both.0))
                (Contains-map (λ other. (from, other)) (filter (leads_to release.members from) release.concepts) concept
                (Contains-filter (leads_to release.members from) release.concepts concept
                (some_item_passes (λ (row : ℕ × ℕ). (row.0 == from) && (row.1 == concept)) release.members row.0 row.1
                (and_from (row.0.0 == from) (row.0.1 == concept) (eq-eqb from from refl) both.1)) there)),
            eq-eqb concept concept refl,
          )

  -- ---- rows of the indexes are those of the release by source
  -- an attribute row with a source in force is among the rows of the indexes
  by_source : (row : Attribute) → Contains release.attributes row → has_concept release row.source ≡ true
      → Contains indexed.rows row
  by_source row there forced =
      subst (λ (rows : List Attribute). Contains rows row) (sym is.rows)
      (Contains-blocks (λ concept. filter (λ (row : Attribute). row.source == concept) release.attributes)
      release.concepts row.source row
      ((tells_in_force release row.source).0 forced)
      (Contains-filter (λ (other : Attribute). other.source == row.source) release.attributes row
      (eq-eqb row.source row.source refl) there))

  -- a row has at most one concept as its source
  source_once : (row : Attribute) → many (λ concept. row.source == concept) ≤ 1
  source_once row =
      count_once release.concepts concepts_once (λ concept. row.source == concept)
      (λ x y there also here too. sym (eqb-true row.source x here) ∙ eqb-true row.source y too)

  -- a row has at most one concept as its value
  value_once : (row : Attribute) → many (λ concept. value_eq row.value (concept_value concept)) ≤ 1
  value_once row =
      count_once release.concepts concepts_once (λ concept. value_eq row.value (concept_value concept))
      (λ x y there also here too.
      let same : concept_value x ≡ concept_value y =
      sym ((tells_same_value row.value (concept_value x)).0 here)
      ∙ (tells_same_value row.value (concept_value y)).0 too in
      cc)

  -- ---- values
  -- if each row with a source in `set` has a source in force, at most as many concepts are values of rows with a
  -- source in `set` and a type in `types` as the indexes have rows
  pub many-values : (set types : ℕ → Bool)
      → ((row : Attribute) → Contains release.attributes row → set row.source ≡ true
      → has_concept release row.source ≡ true)
      → many (is_value release set types) ≤ length indexed.rows
  many-values set types forced =
      few_counted (λ concept (row : Attribute). value_eq row.value (concept_value concept)) release.concepts value_once
      indexed.rows
      (is_value release set types)
      (λ concept there passes.
      let parts = and_parts (has_concept release concept) _ passes in
      let row = passing_item (λ (row : Attribute). (set row.source && types row.type_id)
      && value_eq row.value (concept_value concept))
      release.attributes parts.1 in
      let both = and_parts (set row.0.source && types row.0.type_id) (value_eq row.0.value (concept_value concept))
      row.2 in (
        row.0,
        by_source row.0 row.1 (forced row.0 row.1 (and_parts (set row.0.source) (types row.0.type_id) both.0).0),
        both.1,
      ))

  -- ---- leaves
  module _ (count : Cardinality) (types : Plan) (test : TestPlan) where
    abbrev passing : Pair → Bool
    passing pair = means release types pair.type_id && value_passes release test pair.value

    -- a leaf of concepts that is read forwards finds at most as many concepts as rows pass, if its minimum is at
    -- least 1
    forward_rows : 1 ≤ count.min
        → many (means release (pairs_plan false count types test))
        ≤ count_by (row_passes release false types test) indexed.rows
    forward_rows some =
        omega (
          arith,
          ap (count_by (row_passes release false types test)) is.rows,
          few_passing (λ concept (row : Attribute). row.source == concept) release.concepts source_once
              (attributes_by_source release)
              (row_passes release false types test) (means release (pairs_plan false count types test))
              (λ concept there passes.
              let lies = (and_parts (has_concept release concept) _ passes).1 in
              row_counted (λ (row : Attribute). row.source == concept) (λ (entry : Entry). entry.is_first) pair_of
              passing (attributes_by_source release)
              (subst (λ (pairs : List Pair). 1 ≤ count_by passing pairs) (first_entries release rising concept there)
              (some_of count (count_by passing (out_pairs release concept)) some lies))),
        )

    -- a leaf of concepts that is read backwards finds at most as many concepts as rows pass, if its minimum is at
    -- least 1
    back_rows : All (λ (row : Attribute). has release.concepts row.source ≡ true) release.attributes → 1 ≤ count.min
        → many (means release (pairs_plan true count types test))
        ≤ count_by (row_passes release true types test) indexed.rows
    back_rows known some =
        omega (
          arith,
          ap (count_by (row_passes release true types test)) is.rows,
          few_passing (λ concept (row : Attribute). value_eq row.value (concept_value concept)) release.concepts
              value_once
              (attributes_by_source release)
              (row_passes release true types test) (means release (pairs_plan true count types test))
              (λ concept there passes.
              let lies = (and_parts (has_concept release concept) _ passes).1 in
              row_counted (λ (row : Attribute). value_eq row.value (concept_value concept))
              (λ (entry : Entry). entry.is_first) reverse_pair_of passing
              (attributes_by_source release)
              (subst (λ n. 1 ≤ n) (back_count release known passing concept)
              (some_of count (count_by passing (in_pairs release concept)) some lies))),
        )

    -- if the minimum of its count is at least 1, a leaf of groups means at most as many groups as rows match
    pub group_rows : 1 ≤ count.min
        → count_by (λ group. group_means release (pairs_group_plan count types test) (pairs_of_group release group))
        (all_groups release)
        ≤ count_by (row_passes release false types test) indexed.rows
    group_rows some =
        omega (
          arith,
          ap (count_by (row_passes release false types test)) is.rows,
          few_passing is_in_group (all_groups release) in_one (attributes_by_source release)
              (row_passes release false types test)
              (λ group. group_means release (pairs_group_plan count types test) (pairs_of_group release group))
              (λ group there lies.
              row_counted (is_in_group group) (λ (entry : Entry). entry.is_first_in_group) pair_of passing
              (attributes_by_source release)
              (subst (λ (pairs : List Pair). 1 ≤ count_by passing pairs)
              (first_entries_of_group release rising group
              (subst (λ (groups : List ConceptGroup). Contains groups group) (sym (all_groups_again release rising))
              there))
              (some_of count (count_by passing (pairs_of_group release group)) some lies))),
        )
      where
        in_one : (row : Attribute) → count_by (λ group. is_in_group group row) (all_groups release) ≤ 1
        in_one row =
            count_once (all_groups release) (groups_once release rising) (λ group. is_in_group group row)
            (λ x y there also here too. in_one_group x row (told x there) here
            ∙ sym (in_one_group y row (told y also) too))
          where
            told : (group : ConceptGroup) → Contains (all_groups release) group → IsTold group.key
            told group there =
                All-contains (λ (group : ConceptGroup). IsTold group.key) (all_groups release) group
                (groups_told_apart release release.concepts) there

    -- if the minimum of its count is at least 1, and the source of each row is in force, a leaf of concepts means at
    -- most as many concepts as rows match, read in its direction
    pub pair_rows : All (λ (row : Attribute). has release.concepts row.source ≡ true) release.attributes → (back : Bool)
        → 1 ≤ count.min
        → many (means release (pairs_plan back count types test))
        ≤ count_by (row_passes release back types test) indexed.rows
    pair_rows known true some = back_rows known some
    pair_rows known false some = forward_rows some

  -- whether a row passes the logical plans of a leaf's types and test
  abbrev leaf_passes : Bool → Physical → PhysicalTest → Attribute → Bool
  leaf_passes back types test = row_passes release back (logical types) (logical_test test)

  -- at most `type_rows` rows of the indexes pass a leaf
  rows_typed : (back : Bool) (types : Physical) (test : PhysicalTest)
      → count_by (leaf_passes back types test) indexed.rows ≤ type_rows indexed types
  rows_typed back physical_empty test =
      omega (
        arith,
        count_none (leaf_passes back physical_empty test) indexed.rows
            (λ row there holds. false≢true holds),
      )
  rows_typed back (physical_one one) test =
      omega (
        arith,
        length-places_where (λ (row : Attribute). row.type_id == one) indexed.rows,
        count_le (leaf_passes back (physical_one one) test) (λ (row : Attribute). row.type_id == one) indexed.rows
            (λ row holds. (and_parts (has_concept release row.type_id) (row.type_id == one)
            (and_parts (means release (one_plan one) row.type_id)
            (value_passes release (logical_test test) (value_on back row)) holds).0).1),
      )
  rows_typed back types test = count_by-le-length (leaf_passes back types test) indexed.rows

  -- at most `value_row_count` rows pass a leaf whose test is within the one concept `one`
  rows_of_value : (back : Bool) (types : Plan) (one : ℕ)
      → count_by (row_passes release back types (within_plan (one_plan one))) indexed.rows
      ≤ value_row_count indexed back one
  rows_of_value back types one =
      of_concept-le (λ number. length (cond back (rows_by_source indexed number) (rows_by_value indexed number))) one
      (count_by (row_passes release back types (within_plan (one_plan one))) indexed.rows)
      (λ none. count_none (row_passes release back types (within_plan (one_plan one))) indexed.rows
      (λ row there passes. none (forced row passes)))
      (λ number below same. of_number back number same)
    where
      -- the value, or the source, of a row that passes is a concept that the plan of `one` means
      valued : (back : Bool) (row : Attribute) → row_passes release back types (within_plan (one_plan one)) row ≡ true
          → (concept : ℕ) × (value_on back row ≡ concept_value concept) × (means release (one_plan one) concept ≡ true)
      valued back row passes =
          within_value (means release (one_plan one)) (value_on back row)
          (and_parts (means release types row.type_id) (is_within (means release (one_plan one)) (value_on back row))
          passes).1

      -- the value, or the source, of a row that passes is the concept `one`
      value_is : (back : Bool) (row : Attribute) → row_passes release back types (within_plan (one_plan one)) row ≡ true
          → value_on back row ≡ concept_value one
      value_is back row passes =
          let found = valued back row passes in
          found.1 ∙ ap concept_value
          (eqb-true found.0 one (and_parts (has_concept release found.0) (found.0 == one) found.2).1)

      forced : (row : Attribute) → row_passes release back types (within_plan (one_plan one)) row ≡ true
          → has_concept release one ≡ true
      forced row passes =
          let found = valued back row passes in
          let parts = and_parts (has_concept release found.0) (found.0 == one) found.2 in
          ap (has_concept release) (sym (eqb-true found.0 one parts.1)) ∙ parts.0

      in_index : (number : ℕ) → id number ≡ one → one ≡ get_or indexed.concepts number 0
      in_index number same = sym same ∙ ap (λ (ids : List ℕ). get_or ids number 0) (sym is.concepts)

      of_number : (back : Bool) (number : ℕ) → id number ≡ one
          → count_by (row_passes release back types (within_plan (one_plan one))) indexed.rows
          ≤ length (cond back (rows_by_source indexed number) (rows_by_value indexed number))
      of_number true number same =
          omega (
            arith,
            length-places_where (λ (row : Attribute). row.source == get_or indexed.concepts number 0) indexed.rows,
            count_le (row_passes release true types (within_plan (one_plan one)))
                (λ (row : Attribute). row.source == get_or indexed.concepts number 0) indexed.rows
                (λ row passes.
                let value : concept_value row.source ≡ concept_value one = value_is true row passes in
                let source : row.source ≡ one = cc in
                eq-eqb row.source (get_or indexed.concepts number 0) (source ∙ in_index number same)),
          )
      of_number false number same =
          omega (
            arith,
            length-places_where (λ (row : Attribute). value_eq row.value
                (concept_value (get_or indexed.concepts number 0))) indexed.rows,
            count_le (row_passes release false types (within_plan (one_plan one)))
                (λ (row : Attribute). value_eq row.value (concept_value (get_or indexed.concepts number 0)))
                indexed.rows
                (λ row passes. (tells_same_value row.value (concept_value (get_or indexed.concepts number 0))).1
                (value_is false row passes ∙ ap concept_value (in_index number same))),
          )

  -- at most `value_rows` rows of the indexes pass a leaf
  rows_valued : (back : Bool) (types : Physical) (test : PhysicalTest)
      → count_by (leaf_passes back types test) indexed.rows ≤ value_rows indexed back test
  rows_valued back types (physical_within physical_empty) =
      omega (
        arith,
        count_none (leaf_passes back types (physical_within physical_empty)) indexed.rows
            (λ row there holds.
            let found = within_value (means release empty_plan) (value_on back row)
            (and_parts (means release (logical types) row.type_id)
            (is_within (means release empty_plan) (value_on back row)) holds).1 in
            false≢true found.2),
      )
  rows_valued back types (physical_within (physical_one one)) = rows_of_value back (logical types) one
  rows_valued back types test = count_by-le-length (leaf_passes back types test) indexed.rows

  -- if `n` is at most `all`, and also at most the number of rows that match if the minimum of the count is at least
  -- 1, then `n` is at most the size of the leaf, with each choice
  pub leaf-le : (all : ℕ) (back : Bool) (count : Cardinality) (types : Physical) (test : PhysicalTest)
      (type_size value_size : ℕ) (choice : Choice)
      (n : ℕ) → n ≤ all → (1 ≤ count.min → n ≤ count_by (leaf_passes back types test) indexed.rows)
      → n ≤ leaf_size (leaf_of indexed all back count types test type_size value_size) choice
  leaf-le all back count types test type_size value_size choice n within few =
      found-le count.min all (leaf_rows (leaf_of indexed all back count types test type_size value_size) choice) n
      within
      (λ some. omega (arith, few some, rows choice))
    where
      rows : (choice : Choice)
          → count_by (leaf_passes back types test) indexed.rows
          ≤ leaf_rows (leaf_of indexed all back count types test type_size value_size) choice
      rows ByValue = rows_valued back types test
      rows ByType = rows_typed back types test
      rows Scan = count_by-le-length (leaf_passes back types test) indexed.rows

  -- ---- groups
  -- at most as many groups pass a test as the indexes have groups
  pub groups-all : (test : ConceptGroup → Bool) → count_by test (all_groups release) ≤ length (groups_in indexed)
  groups-all test =
      let same : length (groups_in indexed) ≡ length (all_groups release) =
      (λ i. length (all_groups (rows_alone (is.concepts i) (is.rows i))))
      ∙ ap (λ (groups : List ConceptGroup). length groups) (all_groups_again release rising) in
      omega (arith, same, count_by-le-length test (all_groups release))

  -- if the minimum of `count` is at least 1, at most as many concepts have a number of groups in `set` that lies in
  -- `count` as there are groups in `set`
  pub many-groups : (count : Cardinality) (set : List Pair → Bool) → 1 ≤ count.min
      → many (λ concept. has_concept release concept && has_groups release count set concept)
      ≤ count_by (λ group. set (pairs_of_group release group)) (all_groups release)
  many-groups count set some =
      few_passing (λ concept (group : ConceptGroup). group.concept == concept) release.concepts
      (λ group. count_once release.concepts concepts_once (λ concept. group.concept == concept)
      (λ x y there also here too. sym (eqb-true group.concept x here) ∙ eqb-true group.concept y too))
      (all_groups release) (λ group. set (pairs_of_group release group))
      (λ concept. has_concept release concept && has_groups release count set concept) owned
    where
      owned : (concept : ℕ) → Contains release.concepts concept
          → (has_concept release concept && has_groups release count set concept) ≡ true
          → (group : ConceptGroup) × Contains (all_groups release) group × ((group.concept == concept) ≡ true)
          × (set (pairs_of_group release group) ≡ true)
      owned concept there passes =
          let lies = (and_parts (has_concept release concept) (has_groups release count set concept) passes).1 in
          let own : List ConceptGroup = groups_among release (concept ∷ []) in
          let found = some_counted set (map (pairs_of_group release) own)
          (subst (λ n. 1 ≤ n) (sym (groups_count release set concept))
          (some_of count (count_by set (groups_of release concept)) some lies)) in
          let group = from_map (pairs_of_group release) own found.0 found.1 in
          let here : Contains (groups_at release concept) group.0 =
          subst (λ (groups : List ConceptGroup). Contains groups group.0) (append-nil (groups_at release concept))
          group.1 in (
            group.0,
            Contains-blocks (groups_at release) release.concepts concept group.0 there here,
            is_of release concept group.0 here,
            ap set group.2 ∙ found.2,
          )
