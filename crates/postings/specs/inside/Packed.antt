-- A number and a flag, packed in one number.
use Rattle.std.specs.Prelude.{ℕ, ◌+◌, ◌*◌, ◌/◌, ◌%◌, ◌==◌, ◌≡◌, if◌then◌else◌}
use Rattle.std.proofs.Common.{◌∙◌, cond, inl, inr, arith}
use Rattle.std.proofs.lemmas.Bool.{cases_eq, eq-eqb, ne_eqb}
use Rattle.postings.specs.Columns.{Flagged}

-- twice the number, plus 1 if the flag is set
abbrev pub packed_of : Flagged → ℕ
packed_of mark = mark.number * 2 + (if mark.is_first then 1 else 0)

-- unpacking a packed number and packing it again gives the same number
pub packed_again : (packed : ℕ)
    → packed_of (record { number = packed / 2; is_first = (packed % 2) == 1 }) ≡ packed
packed_again packed =
    elim (cases_eq (packed % 2) 1) [
      | inl odd ↦ (λ i. packed / 2 * 2 + cond (eq-eqb (packed % 2) 1 odd i) 1 0) ∙ omega arith
      | inr even ↦ (λ i. packed / 2 * 2 + cond (ne_eqb (packed % 2) 1 even i) 1 0) ∙ omega arith
    ]
