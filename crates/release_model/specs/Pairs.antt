-- Attributes as pairs of a type and a value (Release File Specification, "Relationship file" and
-- "Relationship concrete values file"). A query counts distinct pairs, and not rows (this project's
-- choice).
use Rattle.std.specs.Prelude.{ℕ, ◌≡◌, ◌↔◌, ◌==◌, ◌&&◌, Bool, false, IsTrue, List, map, filter, bytes_eq}
use Rattle.std.specs.Ordering.{int_eq}
use Rattle.number_lists.specs.Distinct.{KeepsEachOnce, distinct}
use Rattle.release_model.specs.Release.{Value, concept_value, number_value, text_value, Attribute, Release}

-- an attribute as a pair of its type and its value
pub record Pair : Type 0 where
  -- the type of the attribute
  pub type_id : ℕ
  -- the value
  pub value : Value

-- `value_eq` tests whether two values are the same value
abbrev pub value_eq : Value → Value → Bool
value_eq (concept_value one) (concept_value other) = one == other
value_eq (number_value one) (number_value other) = int_eq one other
value_eq (text_value one) (text_value other) = bytes_eq one other
value_eq one other = false

-- `pair_eq` tests whether two pairs have the same type and the same value
abbrev pub pair_eq : Pair → Pair → Bool
pair_eq one other = (one.type_id == other.type_id) && value_eq one.value other.value

-- the attribute rows of a concept
abbrev pub rows_of : Release → ℕ → List Attribute
rows_of release concept = filter (λ row. row.source == concept) release.attributes

-- the pair of an attribute row: its type and its value
abbrev pub pair_of : Attribute → Pair
pair_of row = record { type_id = row.type_id; value = row.value }

-- the pair of an attribute row that is read backwards: its type, and its source as the value
abbrev pub reverse_pair_of : Attribute → Pair
reverse_pair_of row = record { type_id = row.type_id; value = concept_value row.source }

-- the distinct pairs of a concept's rows
abbrev pub out_pairs : Release → ℕ → List Pair
out_pairs release concept = distinct pair_eq (map pair_of (rows_of release concept))

-- the distinct pairs of the rows that have the concept as their value, read backwards
-- (Expression Constraint Language, "Reverse attributes")
abbrev pub in_pairs : Release → ℕ → List Pair
in_pairs release concept =
    distinct pair_eq (map reverse_pair_of
    (filter (λ row. value_eq row.value (concept_value concept)) release.attributes))

-- `pair_eq one other` holds exactly if the two pairs are equal
abbrev pub TellsSamePair : Type 0
TellsSamePair = (one other : Pair) → IsTrue (pair_eq one other) ↔ (one ≡ other)

-- `value_eq one other` holds exactly if the two values are equal
abbrev pub TellsSameValue : Type 0
TellsSameValue = (one other : Value) → IsTrue (value_eq one other) ↔ (one ≡ other)

-- for every list of pairs, `distinct` gives a list without repeats that has exactly its members
abbrev pub KeepsEachPairOnce : Type 0
KeepsEachPairOnce = (pairs : List Pair) → KeepsEachOnce pair_eq pairs
