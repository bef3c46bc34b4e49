-- The plan that RangeSplit makes, by the two cardinalities that it splits a cardinality into.
use Rattle.std.proofs.Common.{ℕ, ◌≡◌, Bool, true, false, Option, Some, None, nat_le, option_map, refl, sym, ap, ◌∙◌}
use Rattle.std.specs.Option.{option_and_then}
use Rattle.constraint_tree.specs.declared.operator.Cardinality.{Cardinality}
use Rattle.set_algebra.specs.Lowering.{both_plan}
use Rattle.set_algebra.specs.Plan.{Plan, pairs_plan, groups_plan}
use Rattle.rewrites.specs.declared.rule.Rule.TheVariants.{RangeSplit}
use Rattle.rewrites.specs.Counts.{only_if, at_least, up_to, split_at, split}
use Rattle.rewrites.specs.inside.Counted.{count_of, with_count}
use Rattle.rewrites.specs.Rules.{rewritten}

-- `make` may be applied inside or after a condition
made_if : {X Y : Type 0} (make : X → Y) (condition : Bool) (x : X)
    → only_if condition (make x) ≡ option_map make (only_if condition x)
made_if make true x = refl
made_if make false x = refl

made_at : {X : Type 0} (make : Cardinality × Cardinality → X) (least : ℕ) (most : Option ℕ)
    → split_at (λ one other. make (one, other)) least most
    ≡ option_map make (split_at (λ one other. (one, other)) least most)
made_at make least None = refl
made_at make least (Some most) = made_if make (nat_le 1 least) (at_least least, up_to most)

-- the cardinalities `[m..*]` and `[0..k]` of `[m..k]`, if it has a maximum and m is at least 1
abbrev parts_of : Cardinality → Option (Cardinality × Cardinality)
parts_of count = split (λ one other. (one, other)) count

made_of : {X : Type 0} (make : Cardinality × Cardinality → X) (own count : Cardinality)
    (both : Cardinality × Cardinality) → Some count ≡ Some own → Some both ≡ parts_of count
    → split (λ one other. make (one, other)) own ≡ Some (make both)
made_of make own count both is told =
    made_at make own.min own.max ∙ ap (option_map make) (sym (told ∙ ap (option_and_then parts_of) is))

-- if the count of `Pairs` or `Units` splits into `least` and `most`, RangeSplit makes the conjunction of the plan
-- with the count `least` and the plan with the count `most`
pub range_split_made : (plan : Plan) (count least most : Cardinality) → Some count ≡ count_of plan
    → Some (least, most) ≡ parts_of count
    → rewritten RangeSplit plan ≡ Some (both_plan (with_count least plan) (with_count most plan))
range_split_made (pairs_plan back own types test) count least most is told =
    made_of
    (λ (both : Cardinality × Cardinality).
    both_plan (pairs_plan back both.0 types test) (pairs_plan back both.1 types test))
    own count (least, most) is told
range_split_made (groups_plan own units) count least most is told =
    made_of (λ (both : Cardinality × Cardinality). both_plan (groups_plan both.0 units) (groups_plan both.1 units)) own
    count
    (least, most) is told
range_split_made plan count least most is told = cc
