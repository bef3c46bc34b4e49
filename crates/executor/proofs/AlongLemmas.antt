-- The values along the first name of dotted attributes: what they are if the start is executed only for the sources of
-- rows, and what is counted.
use Rattle.std.proofs.Common.{ℕ, ◌≡◌, ◌≤◌, ◌+◌, ◌-◌, ◌^◌, ◌∙◌, ◌∷◌, [], ◌==◌, ◌&&◌, ◌||◌, Bool, true, false, List}
use Rattle.std.proofs.Common.{zero, suc, suc-mul, length, get_or, min, refl, ap, arith}
use Rattle.std.specs.Prelude.{Contains}
use Rattle.std.specs.List.{list_any}
use Rattle.std.proofs.lemmas.Bool.{and_from, and_parts, eq-eqb, false≢true}
use Rattle.release_model.specs.Pairs.{rows_of, value_eq}
use Rattle.release_model.specs.Release.{Attribute, Release, Value, concept_value, number_value, text_value}
use Rattle.number_lists.specs.Members.{has}
use Rattle.number_lists.proofs.BlockLemmas.{Contains-filter}
use Rattle.number_lists.proofs.ListLemmas.{first_contained, rest_contained, some_item_passes}
use Rattle.number_lists.proofs.WhereLemmas.{numbers_where-agree}
use Rattle.constraint_tree.specs.Denotation.{is_value}
use Rattle.constraint_tree.specs.Walks.{has_concept}
use Rattle.postings.specs.Indexed.{Indexed}
use Rattle.set_algebra.specs.declared.plan.ConceptPlan.{ConceptPlan}
use Rattle.set_algebra.specs.Meaning.{means}
use Rattle.set_algebra.specs.Physical.{Physical, physical_of, physical_values, physicals_of}
use Rattle.set_algebra.specs.Plan.{Plan}
use Rattle.set_algebra.proofs.MeaningLemmas.{in_force_if_meant}
use Rattle.plan_bounds.specs.Bounds.{own_number, values_bound}
use Rattle.plan_bounds.specs.Leaves.{plan_count}
use Rattle.plan_bounds.specs.Floors.{floor_number}
use Rattle.plan_bounds.specs.Nodes.{node_sum, plans_sum}
use Rattle.plan_bounds.specs.Sizes.{size}
use Rattle.candidates.specs.Numbers.{is_one_of, numbers_in}
use Rattle.candidates.specs.Within.{numbers_within}
use Rattle.candidates.proofs.Normal.{member_in, numbers_in-agree}
use Rattle.reading.specs.Counted.{CountsWithin}
use Rattle.reading.specs.declared.counter.Counter.{Counter}
use Rattle.reading.proofs.CountLemmas.{counted_both, counted_in, counted_thrice}
use Rattle.pair_sets.specs.Sources.{is_concept, is_source}
use Rattle.walks.proofs.MemberLemmas.{one_of_set}
use Rattle.executor.specs.inside.Along.{CountsAlong}
use Rattle.executor.specs.inside.Executed.{CountsPlan}
use Rattle.executor.proofs.NodeLemmas.{one_meant}
use Rattle.executor.proofs.WorkLemmas.{along_one}

-- ---- the sources are all concepts on which the values depend
-- if two tests agree on the items of a list, an item passes the one exactly if an item passes the other
any_same : {X : Type 0} (p q : X → Bool) (xs : List X) → ((x : X) → Contains xs x → p x ≡ q x)
    → list_any p xs ≡ list_any q xs
any_same p q [] same = refl
any_same p q (x ∷ xs) same =
    λ i. same x (first_contained x xs) i || any_same p q xs (λ y there. same y (rest_contained x xs y there)) i

-- what follows from two parts of a conjunction need not be a part of it
without_first : (a b c d : Bool) → (c ≡ true → d ≡ true → a ≡ true) → (((a && b) && c) && d) ≡ ((b && c) && d)
without_first true b c d told = refl
without_first false true true true told = absurd (false≢true (told refl refl))
without_first false true true false told = refl
without_first false true false d told = refl
without_first false false c d told = refl

-- a value that equals a concept is a concept
concept_if_equal : (value : Value) (concept : ℕ) → value_eq value (concept_value concept) ≡ true
    → is_concept value ≡ true
concept_if_equal (concept_value id) concept same = refl
concept_if_equal (number_value number) concept same = absurd (false≢true same)
concept_if_equal (text_value text) concept same = absurd (false≢true same)

-- the source of a row with a type in `types` and a concept as value is one of the sources
source_there : (release : Release) (types : ℕ → Bool) (row : Attribute) → Contains release.attributes row
    → types row.type_id ≡ true → is_concept row.value ≡ true → is_source release types row.source ≡ true
source_there release types row there typed valued =
    some_item_passes (λ (other : Attribute). types other.type_id && is_concept other.value)
    (rows_of release row.source) row
    (Contains-filter (λ (other : Attribute). other.source == row.source) release.attributes row
    (eq-eqb row.source row.source refl) there)
    (and_from (types row.type_id) (is_concept row.value) typed valued)

-- the values of a set along `types` are the values of those of the set that are sources of rows with these types
values_of_sources : (release : Release) (set types : ℕ → Bool)
    → numbers_in release (is_value release (λ id. is_source release types id && set id) types)
    ≡ numbers_in release (is_value release set types)
values_of_sources release set types =
    numbers_in-agree release (is_value release (λ id. is_source release types id && set id) types)
    (is_value release set types)
    (λ n within. ap (λ (b : Bool). has_concept release (get_or release.concepts n 0) && b)
    (same (get_or release.concepts n 0)))
  where
    same : (concept : ℕ)
        → list_any (λ (row : Attribute). ((is_source release types row.source && set row.source) && types row.type_id)
        && value_eq row.value (concept_value concept)) release.attributes
        ≡ list_any (λ (row : Attribute). (set row.source && types row.type_id)
        && value_eq row.value (concept_value concept)) release.attributes
    same concept =
        any_same (λ (row : Attribute). ((is_source release types row.source && set row.source) && types row.type_id)
        && value_eq row.value (concept_value concept))
        (λ (row : Attribute). (set row.source && types row.type_id) && value_eq row.value (concept_value concept))
        release.attributes
        (λ row there. without_first (is_source release types row.source) (set row.source) (types row.type_id)
        (value_eq row.value (concept_value concept))
        (λ typed equal. source_there release types row there typed (concept_if_equal row.value concept equal)))

-- what a plan means among the sources has the same values along `types` as all that the plan means
pub values_of_few : (release : Release) (plan : Plan) (types : ℕ → Bool) (concepts sources from found : List ℕ)
    → concepts ≡ release.concepts
    → sources ≡ numbers_in release (is_source release types)
    → from ≡ numbers_within release (has sources) (means release plan)
    → found ≡ numbers_in release (is_value release (is_one_of concepts from) types)
    → found ≡ numbers_in release (is_value release (means release plan) types)
values_of_few release plan types concepts sources from found are sources_are from_is found_is =
    found_is
    ∙ ap (λ (set : ℕ → Bool). numbers_in release (is_value release set types)) from_set
    ∙ values_of_sources release (means release plan) types
  where
    set : ℕ → Bool
    set id = is_source release types id && means release plan id

    by_number : from ≡ numbers_in release set
    by_number =
        from_is
        ∙ numbers_where-agree (length release.concepts)
        (λ n. has sources n && means release plan (get_or release.concepts n 0))
        (λ n. set (get_or release.concepts n 0))
        (λ n within. ap (λ (b : Bool). b && means release plan (get_or release.concepts n 0))
        (ap (λ (items : List ℕ). has items n) sources_are
        ∙ member_in release (is_source release types) n within))

    from_set : is_one_of concepts from ≡ set
    from_set =
        ap (λ (ids : List ℕ). is_one_of ids from) are
        ∙ (λ i id. one_of_set release set from by_number
        (λ concept holds. in_force_if_meant release plan concept
        (and_parts (is_source release types concept) _ holds).1)
        id i)

-- the values along the concepts that a name has found are the values along what the name means
pub first_along : (release : Release) (start first : Plan) (concepts items found : List ℕ) → concepts
    ≡ release.concepts
    → items ≡ numbers_in release (means release first)
    → found ≡ numbers_in release (is_value release (means release start) (is_one_of concepts items))
    → found ≡ numbers_in release (is_value release (means release start) (means release first))
first_along release start first concepts items found are items_are found_is =
    found_is
    ∙ ap (λ (types : ℕ → Bool). numbers_in release (is_value release (means release start) types))
    (one_meant release first concepts items are items_are)

-- ---- what is counted
-- the values along other names, from values of attributes, fit beside those along the first name
along_others : (indexed : Indexed) (place first found : ℕ) → found ≤ min (length indexed.concepts) (length indexed.rows)
    → (first + length indexed.rows) + values_bound indexed place found ≤ values_bound indexed (suc place) first
along_others indexed zero first found few = omega (arith, along_one indexed 0 first)
along_others indexed (suc place) first found few =
    let step = min (length indexed.concepts) (length indexed.rows) + length indexed.rows in
    omega (
      arith,
      few,
      along_one indexed place found,
      along_one indexed (suc place) first,
      suc-mul place step,
    )

module _ (indexed : Indexed) (start : Physical) {names others : List ConceptPlan} {first : ConceptPlan}
    (are : names ≡ first ∷ others) where
  -- the bound of dotted attributes is that of the first name, of the start with the values along that name, and of
  -- the other names with the values along them
  dotted_bound : (found : ℕ) → found ≤ min (length indexed.concepts) (length indexed.rows)
      → node_sum (own_number indexed) (physical_of first)
      + (node_sum (own_number indexed) start + (size indexed start + length indexed.rows))
      + (values_bound indexed (plan_count (physicals_of others)) found
      + plans_sum (own_number indexed) (physicals_of others))
      ≤ node_sum (own_number indexed) (physical_values start (physicals_of names))
  dotted_bound found few =
      omega (
        arith,
        ap (λ (names : List ConceptPlan). node_sum (own_number indexed) (physical_values start (physicals_of names)))
            are,
        along_others indexed (plan_count (physicals_of others)) (size indexed start) found few,
      )

  -- dotted attributes count at most their bound
  pub dotted_counted : {found : ℕ} {early one two late : Counter} → found
      ≤ min (length indexed.concepts) (length indexed.rows)
      → CountsPlan indexed (physical_of first) early one → CountsAlong indexed start one two
      → CountsWithin (values_bound indexed (plan_count (physicals_of others)) found
      + plans_sum (own_number indexed) (physicals_of others)) two late
      → CountsPlan indexed (physical_values start (physicals_of names)) early late
  dotted_counted {found = found} few named along driven = counted_thrice named along driven (dotted_bound found few)

  -- the first name, and the start with the values along it, count at most the bound of the dotted attributes
  pub dotted_begun : {early one late : Counter} → CountsPlan indexed (physical_of first) early one
      → CountsAlong indexed start one late
      → CountsPlan indexed (physical_values start (physicals_of names)) early late
  dotted_begun named along =
      let room = dotted_bound 0 (omega arith) in counted_both named along (omega (arith, room))

  -- the first name counts at most the bound of the dotted attributes
  pub dotted_named : {early late : Counter} → CountsPlan indexed (physical_of first) early late
      → CountsPlan indexed (physical_values start (physicals_of names)) early late
  dotted_named named = let room = dotted_bound 0 (omega arith) in counted_in named (omega (arith, room))

  -- the floors of the first name, of the start and of the other names are the floor of the dotted attributes
  pub dotted_floor : (before : ℕ) {one two after : ℕ}
      → min (before + node_sum (floor_number indexed) (physical_of first)) (2 ^ 64 - 1) ≤ one
      → min (one + node_sum (floor_number indexed) start) (2 ^ 64 - 1) ≤ two
      → min (two + plans_sum (floor_number indexed) (physicals_of others)) (2 ^ 64 - 1) ≤ after
      → min (before + node_sum (floor_number indexed) (physical_values start (physicals_of names))) (2 ^ 64 - 1) ≤ after
  dotted_floor before named along driven =
      omega (
        arith,
        named,
        along,
        driven,
        ap (λ (names : List ConceptPlan). node_sum (floor_number indexed) (physical_values start (physicals_of names)))
            are,
      )
