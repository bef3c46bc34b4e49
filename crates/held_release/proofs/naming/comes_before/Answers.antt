-- The order of two rows goes by whether each is in the language, and if both or neither are, by their identifiers.
use Rattle.std.proofs.Common.{ℕ, ◌≡◌, ◌∙◌, Bool, true, false, nat_lt, bytes_eq, refl, sym, arith}
use Rattle.std.proofs.lemmas.Bool.Decides.{nat_tests}
use Rattle.std.specs.Bool.{beq}
use Rattle.std.specs.Ordering.{is_lt, nat_cmp}
use Rattle.held_release.specs.Name.{comes_before}
use Rattle.held_release.proofs.NameLawLemmas.{before}
use Rattle.held_release.proofs.naming.comes_before.Goals as goal

-- if both or neither of two rows are in the language, the one with the lesser identifier comes first
before_alike : (one other : Bool) (one_id other_id : ℕ) → beq one other ≡ true
    → nat_lt one_id other_id ≡ before one other one_id other_id
before_alike true true one_id other_id alike = refl
before_alike false false one_id other_id alike = refl
before_alike true false one_id other_id alike = (cc)
before_alike false true one_id other_id alike = (cc)

-- if exactly one of two rows is in the language, it comes first
before_unlike : (one other : Bool) (one_id other_id : ℕ) → beq one other ≡ false
    → one ≡ before one other one_id other_id
before_unlike true true one_id other_id unlike = (cc)
before_unlike false false one_id other_id unlike = (cc)
before_unlike true false one_id other_id unlike = refl
before_unlike false true one_id other_id unlike = refl

-- the comparison of numbers says less exactly if `nat_lt` does
less : (one other : ℕ) → is_lt (nat_cmp one other) ≡ nat_lt one other
less one other = grind (arith, nat_tests)

-- if both or neither rows are in the language, the order by identifier is the order of the rows
pub returns-then-one_is_in-other_is_in : goal.returns-then-one_is_in-other_is_in
returns-then-one_is_in-other_is_in c default =
    let language = c.args.language.now in
    let one = c.row-one.result in
    let other = c.row-other.result in
    c.lt.ensures
    ∙ less one.id other.id
    ∙ before_alike (bytes_eq one.language.now language) (bytes_eq other.language.now language) one.id other.id
    (sym (λ i. beq (c.eq-one_is_in.ensures i) (c.eq-other_is_in.ensures i)) ∙ c.if-one_is_in-other_is_in.true)
    ∙ (λ i. comes_before language (c.row-one.ensures default i) (c.row-other.ensures default i))

-- if one row is in the language, whether it is the first one is the order of the rows
pub returns-else-one_is_in-other_is_in : goal.returns-else-one_is_in-other_is_in
returns-else-one_is_in-other_is_in c default =
    let language = c.args.language.now in
    let one = c.row-one.result in
    let other = c.row-other.result in
    c.eq-one_is_in.ensures
    ∙ before_unlike (bytes_eq one.language.now language) (bytes_eq other.language.now language) one.id other.id
    (sym (λ i. beq (c.eq-one_is_in.ensures i) (c.eq-other_is_in.ensures i)) ∙ c.if-one_is_in-other_is_in.false)
    ∙ (λ i. comes_before language (c.row-one.ensures default i) (c.row-other.ensures default i))
