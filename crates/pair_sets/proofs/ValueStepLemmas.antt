-- The values of attributes, as the concepts with at least one pair that is read backwards.
use Rattle.std.proofs.Common.{ℕ, ◌≡◌, ◌+◌, ◌∙◌, ◌∷◌, [], arith, Bool, true, false, ◌&&◌, ◌||◌, cond, None, List, get_or}
use Rattle.std.proofs.Common.{map, refl, ap}
use Rattle.std.specs.Prelude.{count_by, filter, nat_le}
use Rattle.std.specs.List.{list_any}
use Rattle.std.proofs.lemmas.Bool.{le-leb}
use Rattle.release_model.specs.Pairs.{Pair, in_pairs, pair_eq, reverse_pair_of, value_eq}
use Rattle.number_lists.specs.Distinct.{distinct}
use Rattle.release_model.specs.Release.{Attribute, Release, concept_value}
use Rattle.release_model.proofs.PairLemmas.{keeps_each_pair_once}
use Rattle.constraint_tree.specs.Denotation.{is_value}
use Rattle.constraint_tree.specs.Passing.{is_within}
use Rattle.number_lists.proofs.ListLemmas.{passing_item, some_item_passes, both_ways}
use Rattle.set_algebra.specs.Meaning.{has_pairs}
use Rattle.candidates.specs.Numbers.{numbers_in}
use Rattle.pair_sets.proofs.HitLemmas.{count-cons}
use Rattle.number_lists.proofs.BlockLemmas.{any-filter, any-map}
use Rattle.candidates.proofs.Normal.{in_force_kept, numbers_in-agree}

-- at least one item is counted exactly if some item passes
pub count_any : {X : Type 0} (test : X → Bool) (xs : List X) → nat_le 1 (count_by test xs) ≡ list_any test xs
count_any test [] = refl
count_any test (x ∷ xs) =
    ap (nat_le 1) (count-cons test x xs)
    ∙ elim (test x) as (λ b. nat_le 1 (cond b (1 + count_by test xs) (count_by test xs)) ≡ (b || list_any test xs)) [
      | true ↦ le-leb 1 (1 + count_by test xs) (omega arith)
      | false ↦ count_any test xs
    ]

-- a distinct item passes exactly if an item passes
pub any_distinct : (test : Pair → Bool) (pairs : List Pair) → list_any test (distinct pair_eq pairs)
    ≡ list_any test pairs
any_distinct test pairs = both_ways (list_any test (distinct pair_eq pairs)) (list_any test pairs)
    (λ told. let found = passing_item test (distinct pair_eq pairs) told in
    some_item_passes test pairs found.0 (((keeps_each_pair_once pairs).1 found.0).0 found.1) found.2)
    (λ told. let found = passing_item test pairs told in
    some_item_passes test (distinct pair_eq pairs) found.0 (((keeps_each_pair_once pairs).1 found.0).1 found.1) found.2)

-- the first and the third part of a conjunction can be exchanged
shuffled : (a b c : Bool) → (a && (b && c)) ≡ ((c && b) && a)
shuffled true true true = refl
shuffled true true false = refl
shuffled true false true = refl
shuffled true false false = refl
shuffled false true true = refl
shuffled false true false = refl
shuffled false false true = refl
shuffled false false false = refl

-- a conjunction with true is its other part
pub with_true : (b : Bool) → (b && true) ≡ b
with_true true = refl
with_true false = refl

-- the concepts with at least one pair, read backwards, of a type in `types` and a source in `sources` are the values of
-- the sources along the types
pub some_pair_is_value : (release : Release) (sources types : ℕ → Bool)
    → numbers_in release (λ concept. has_pairs (record { min = 1; max = None }) types (is_within sources)
    (in_pairs release concept))
    ≡ numbers_in release (is_value release sources types)
some_pair_is_value release sources types =
    numbers_in-agree release
    (λ concept. has_pairs (record { min = 1; max = None }) types (is_within sources) (in_pairs release concept))
    (λ concept. list_any (λ row. (sources row.source && types row.type_id)
    && value_eq row.value (concept_value concept)) release.attributes)
    (λ n within. at (get_or release.concepts n 0))
    ∙ in_force_kept release (λ concept. list_any
    (λ row. (sources row.source && types row.type_id) && value_eq row.value (concept_value concept)) release.attributes)
  where
    at : (concept : ℕ) → has_pairs (record { min = 1; max = None }) types (is_within sources) (in_pairs release concept)
        ≡ list_any (λ row. (sources row.source && types row.type_id) && value_eq row.value (concept_value concept))
        release.attributes
    at concept =
        let test : Pair → Bool = λ pair. types pair.type_id && is_within sources pair.value in
        let leads : Attribute → Bool = λ row. value_eq row.value (concept_value concept) in
        with_true (nat_le 1 (count_by test (in_pairs release concept)))
        ∙ count_any test (in_pairs release concept)
        ∙ any_distinct test (map reverse_pair_of (filter leads release.attributes))
        ∙ any-map test reverse_pair_of (filter leads release.attributes)
        ∙ any-filter (λ row. test (reverse_pair_of row)) leads release.attributes
        ∙ (λ i. list_any (λ (row : Attribute). shuffled (leads row) (types row.type_id) (sources row.source) i)
        release.attributes)
