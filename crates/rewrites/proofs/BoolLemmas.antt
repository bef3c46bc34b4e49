-- Tests joined by "and" and "or" in other orders. `f` is the test of being in force, which the plans of
-- groups do not have: there it is `true`.
use Rattle.std.proofs.Common.{◌≡◌, ◌&&◌, ◌||◌, not, Bool, true, false, refl, sym}

-- Turn: a conjunction keeps its value if its first conjunct moves to the end
pub and_turned : (f x others : Bool) → (f && (x && others)) ≡ (f && (others && x))
and_turned true true true = refl
and_turned true true false = refl
and_turned true false true = refl
and_turned true false false = refl
and_turned false x others = refl

-- Turn: a disjunction keeps its value if its first disjunct moves to the end
pub or_turned : (x others : Bool) → (x || others) ≡ (others || x)
or_turned true true = refl
or_turned true false = refl
or_turned false true = refl
or_turned false false = refl

-- Join: a conjunction keeps its value if the conjuncts of an inner conjunction become conjuncts of the outer one
pub and_joined : (f inner rest : Bool) → (f && ((f && inner) && rest)) ≡ (f && (inner && rest))
and_joined true inner rest = refl
and_joined false inner rest = refl

-- Pair: a conjunction keeps its value if its first two conjuncts become an inner conjunction
pub and_paired : (f x y rest : Bool) → (f && (x && (y && rest))) ≡ (f && ((f && (x && (y && true))) && rest))
and_paired true true true rest = refl
and_paired true true false rest = refl
and_paired true false y rest = refl
and_paired false x y rest = refl

-- Pair: a disjunction keeps its value if its first two disjuncts become an inner disjunction
pub or_paired : (x y rest : Bool) → (x || (y || rest)) ≡ ((x || (y || false)) || rest)
or_paired true y rest = refl
or_paired false true rest = refl
or_paired false false rest = refl

-- Same: a conjunction keeps its value if one of two equal conjuncts is dropped
pub and_same : (f x rest : Bool) → (f && (x && (x && rest))) ≡ (f && (x && rest))
and_same true true rest = refl
and_same true false rest = refl
and_same false x rest = refl

-- Same: a disjunction keeps its value if one of two equal disjuncts is dropped
pub or_same : (x rest : Bool) → (x || (x || rest)) ≡ (x || rest)
or_same true rest = refl
or_same false rest = refl

-- Same: `x` and not `x` is false
pub minus_same : (x : Bool) → (x && not x) ≡ false
minus_same true = refl
minus_same false = refl

-- Only: a conjunction of the one conjunct `x` and of `f`, the test for concepts in force, is `x` if `x` implies `f`
pub and_only : (f x : Bool) → (x ≡ true → f ≡ true) → (f && (x && true)) ≡ x
and_only true true holds = refl
and_only true false holds = refl
and_only false true holds = holds refl
and_only false false holds = refl

-- Only: a disjunction of one disjunct is that disjunct
pub or_only : (x : Bool) → (x || false) ≡ x
or_only true = refl
or_only false = refl

-- MinusAnd: to exclude `b` from the first conjunct `a` is to exclude it from the conjunction of `a` and `rest`
pub and_minus : (f a b rest : Bool) → (f && ((a && not b) && rest)) ≡ ((f && (a && rest)) && not b)
and_minus true true true true = refl
and_minus true true true false = refl
and_minus true true false true = refl
and_minus true true false false = refl
and_minus true false b rest = refl
and_minus false a b rest = refl

-- MinusOr: to exclude `b` or `rest` from `a` is to exclude first `b` and then `rest`
pub minus_or : (a b rest : Bool) → (a && not (b || rest)) ≡ ((a && not b) && not rest)
minus_or true true rest = refl
minus_or true false rest = refl
minus_or false b rest = refl

-- a conjunct `r` after a disjunction distributes over the disjuncts
pub either_under : (a b r : Bool) → ((a || b) && r) ≡ ((a && r) || (b && r))
either_under true true true = refl
either_under true true false = refl
either_under true false true = refl
either_under true false false = refl
either_under false true true = refl
either_under false true false = refl
either_under false false r = refl

-- a conjunct `f` before a disjunction distributes over the disjuncts
pub either_over : (f a b : Bool) → (f && (a || b)) ≡ ((f && a) || (f && b))
either_over true a b = refl
either_over false a b = refl

-- a disjunction of two disjunctions keeps its value if the first disjuncts of both are paired, and the second ones
pub four : (a b c d : Bool) → ((a || b) || (c || d)) ≡ ((a || c) || (b || d))
four true b c d = refl
four false true true d = refl
four false true false d = refl
four false false c d = refl

-- two truth values are equal if each implies the other
pub same_if : (one other : Bool) → (one ≡ true → other ≡ true) → (other ≡ true → one ≡ true) → one ≡ other
same_if true true to from = refl
same_if true false to from = sym (to refl)
same_if false true to from = from refl
same_if false false to from = refl

-- WalkTwice: `<<` of `<<` is `<<`, and likewise `>>`. `f` says whether the concept is in force, `x` whether it is in
-- the set, and `b` whether it is below (above) a member
pub self_of_self : (f x b : Bool) → (f && ((f && (x || b)) || b)) ≡ (f && (x || b))
self_of_self true true b = refl
self_of_self true false true = refl
self_of_self true false false = refl
self_of_self false x b = refl

-- WalkTwice: `<<` of `<` is `<`, and likewise `>>` of `>`. `f` says whether the concept is in force, `b` whether it
-- is below (above) a member of the set, and `twice` whether it is below (above) such a concept, which implies `b`
pub self_of_walk : (f b twice : Bool) → (twice ≡ true → b ≡ true) → (f && ((f && b) || twice)) ≡ (f && b)
self_of_walk true true twice so = refl
self_of_walk true false true so = sym (so refl)
self_of_walk true false false so = refl
self_of_walk false b twice so = refl

-- BraceGuard: a conjunct `pairs` that `groups` implies may be added to `groups`
pub guarded : (f groups pairs : Bool) → (groups ≡ true → pairs ≡ true)
    → (f && groups) ≡ (f && ((f && pairs) && ((f && groups) && true)))
guarded true true true so = refl
guarded true true false so = sym (so refl)
guarded true false true so = refl
guarded true false false so = refl
guarded false groups pairs so = refl

-- a conjunction of one conjunct is that conjunct
pub and_one : (x : Bool) → (x && true) ≡ x
and_one true = refl
and_one false = refl

-- brackets in a conjunction make no difference
pub and_assoc : (x y z : Bool) → (x && (y && z)) ≡ ((x && y) && z)
and_assoc true y z = refl
and_assoc false y z = refl

-- brackets in a disjunction make no difference
pub or_assoc : (x y z : Bool) → (x || (y || z)) ≡ ((x || y) || z)
or_assoc true y z = refl
or_assoc false y z = refl

-- BraceOr: neither `a` nor `b` holds exactly if `a` does not and `b` does not
pub none_of_both : (f a b : Bool) → (f && not (a || b)) ≡ ((f && not a) && (f && not b))
none_of_both true true b = refl
none_of_both true false b = refl
none_of_both false a b = refl

-- if two conjuncts both have the conjunct `f`, the test for concepts in force, `f` may stand before both and be
-- dropped in the second
pub and_both : (f a b : Bool) → ((f && a) && (f && b)) ≡ (f && ((f && a) && b))
and_both true true b = refl
and_both true false b = refl
and_both false a b = refl
