-- The text of a list of trees that is written part by part, and of a fraction that is written digit by digit.
use Rattle.std.proofs.Common.{ℕ, ◌≡◌, Bool, true, false, if◌then◌else◌, List, [], ◌∷◌, ◌++◌, ◌+◌, ◌-◌, ◌/◌, ◌%◌, ◌^◌}
use Rattle.std.proofs.Common.{◌<◌, arith, refl, ap, ◌∙◌, sym, suc, zero, nat_eq}
use Rattle.std.proofs.lemmas.Bool.Decides.{nat_tests}
use Rattle.std.proofs.lemmas.List.{append_assoc}
use Rattle.std.proofs.Math.Nat.{div-lt_iff_lt-mul, one-le-pow, pow-suc}
use Rattle.constraint_tree.specs.Text.{fraction_digits, joined_items, joined_parts, joined_text, listed_items}
use Rattle.constraint_tree.specs.Text.{listed_parts, listed_text}
use Rattle.constraint_tree.specs.Tree.{Trees, RefinementTrees, AttributeSetTrees}

-- the text of the operands that are left to write: with `between` also in front of the first if an operand was
-- written before
abbrev pub rest_text : Bool → List ℕ → Trees → List ℕ
rest_text following between trees = if following then listed_text between trees else joined_text between trees

-- the text of the refinements that are left to write: with `between` also in front of the first if one was written
-- before
abbrev pub rest_items : Bool → List ℕ → RefinementTrees → List ℕ
rest_items following between trees = if following then listed_items between trees else joined_items between trees

-- the text of the attribute sets that are left to write: with `between` also in front of the first if one was written
-- before
abbrev pub rest_parts : Bool → List ℕ → AttributeSetTrees → List ℕ
rest_parts following between trees = if following then listed_parts between trees else joined_parts between trees

-- appending an empty text changes nothing
pub no_more : (old more : List ℕ) → more ≡ [] → old ≡ old ++ more
no_more [] more is = sym is
no_more (byte ∷ old) more is = ap (λ (bytes : List ℕ). byte ∷ bytes) (no_more old more is)

-- if `fraction` is 0, `fraction_digits` returns no digits
pub fraction_digits-none : (places fraction : ℕ) → fraction ≡ 0 → fraction_digits places fraction ≡ []
unfolding fraction_digits
fraction_digits-none zero fraction is = refl
fraction_digits-none (suc places) fraction is =
    let none : nat_eq fraction 0 ≡ true = grind (arith, nat_tests) in
    ap (λ (test : Bool). if test then [] else (48 + fraction / 10 ^ places)
    ∷ fraction_digits places (fraction % 10 ^ places)) none

-- a fraction that is not zero has the digits of its first place and of the rest
fraction_digits-suc : (places fraction : ℕ) → nat_eq fraction 0 ≡ false
    → fraction_digits (suc places) fraction ≡ (48 + fraction / 10 ^ places)
    ∷ fraction_digits places (fraction % 10 ^ places)
unfolding fraction_digits
fraction_digits-suc places fraction is =
    ap (λ (test : Bool). if test then [] else (48 + fraction / 10 ^ places)
    ∷ fraction_digits places (fraction % 10 ^ places)) is

-- a power of ten is at least 1
pub unit_is_some : (places : ℕ) → 0 < 10 ^ places
unit_is_some places = omega (arith, one-le-pow places 10 (omega arith))

-- if `fraction` is not 0 and below 10^places, then `places` is at least 1
pub some_places : (places fraction : ℕ) → (fraction ≡ 0 → ⊥) → fraction < 10 ^ places → (rest : ℕ) × (places ≡ suc rest)
some_places zero fraction some fits = absurd (some (omega arith))
some_places (suc rest) fraction some fits = (rest, refl)

-- the first digit of a fraction of `rest + 1` places is below 10
first_digit-suc : (rest fraction : ℕ) → fraction < 10 ^ suc rest → fraction / 10 ^ rest < 10
first_digit-suc rest fraction fits =
    (div-lt_iff_lt-mul {k = 10 ^ rest} {x = fraction} {y = 10} (unit_is_some rest)).1 (omega (arith, pow-suc 10 rest))

-- if `fraction` is not 0 and below 10^places, its first digit, `fraction / 10^(places - 1)`, is below 10
pub first_digit : (places fraction : ℕ) → (fraction ≡ 0 → ⊥) → fraction < 10 ^ places
    → fraction / 10 ^ (places - 1) < 10
first_digit places fraction some fits =
    let found = some_places places fraction some fits in
    let less : places - 1 ≡ found.0 = omega (arith, found.1) in
    ap_below (first_digit-suc found.0 fraction (subst_fits found.1)) less
  where
    subst_fits : {rest : ℕ} → places ≡ suc rest → fraction < 10 ^ suc rest
    subst_fits is = rw is at fits

    ap_below : {rest : ℕ} → fraction / 10 ^ rest < 10 → places - 1 ≡ rest → fraction / 10 ^ (places - 1) < 10
    ap_below below less = rw less below

-- if `fraction` is not 0 and below 10^places, its digits are the first digit, `fraction / 10^(places - 1)`, and the
-- digits of the remainder
pub fraction_digits-step : (places fraction : ℕ) → (fraction ≡ 0 → ⊥) → fraction < 10 ^ places
    → fraction_digits places fraction
    ≡ (48 + fraction / 10 ^ (places - 1)) ∷ fraction_digits (places - 1) (fraction % 10 ^ (places - 1))
fraction_digits-step places fraction some fits =
    let found = some_places places fraction some fits in
    let less : places - 1 ≡ found.0 = omega (arith, found.1) in
    let apart : nat_eq fraction 0 ≡ false = grind (arith, nat_tests) in
    ap (λ (count : ℕ). fraction_digits count fraction) found.1 ∙ fraction_digits-suc found.0 fraction apart
    ∙ ap (λ (count : ℕ). (48 + fraction / 10 ^ count) ∷ fraction_digits count (fraction % 10 ^ count)) (sym less)

-- loop step: if `fraction` is not 0 and below 10^places, then appending its first digit and after it the digits of
-- the remainder appends the digits of `fraction`
pub places_written : (places fraction unit : ℕ) (old pushed all : List ℕ) → (fraction ≡ 0 → ⊥)
    → fraction < 10 ^ places → unit ≡ 10 ^ (places - 1) → pushed ≡ old ++ (48 + fraction / unit) ∷ []
    → all ≡ pushed ++ fraction_digits (places - 1) (fraction % unit) → all ≡ old ++ fraction_digits places fraction
places_written places fraction unit old pushed all some fits unit_is pushed_is all_is =
    let step = fraction_digits-step places fraction some fits in
    let step_at : fraction_digits places fraction ≡ (48 + fraction / unit)
    ∷ fraction_digits (places - 1) (fraction % unit) =
    step ∙ ap (λ (one : ℕ). (48 + fraction / one) ∷ fraction_digits (places - 1) (fraction % one)) (sym unit_is) in
    all_is ∙ ap (λ (front : List ℕ). front ++ fraction_digits (places - 1) (fraction % unit)) pushed_is
    ∙ append_assoc old ((48 + fraction / unit) ∷ []) (fraction_digits (places - 1) (fraction % unit))
    ∙ ap (λ (digits : List ℕ). old ++ digits) (sym step_at)
