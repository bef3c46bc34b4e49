-- A summary has the capped sum and the least of the sizes that it is made of.
use Rattle.std.proofs.Common.{ℕ, ◌+◌, ◌-◌, ◌∷◌, [], ◌==◌, ◌≡◌, ◌≤◌, ◌^◌, ◌∙◌, Bool, cond, false, List, min, refl, ap}
use Rattle.std.proofs.Common.{arith}
use Rattle.std.proofs.lemmas.Bool.{ne_eqb}
use Rattle.plan_bounds.specs.Bounds.{capped}
use Rattle.plan_bounds.specs.Sizes.{least_from, least_of, total}
use Rattle.plan_bounds.specs.SizeSummaries.{IsSummaryOf, no_summary, summary_of, summary_on, summary_with}
use Rattle.plan_bounds.specs.declared.summary.SizeSummary.{SizeSummary}

-- the sum of a summary continued over `sizes` is its own sum plus their total, capped
sum_on : (place : ℕ) (summary : SizeSummary) (sizes : List ℕ) → summary.sum ≤ 2 ^ 64 - 1
    → (summary_on place summary sizes).sum ≡ capped (summary.sum + total sizes)
sum_on place summary [] small = omega arith
sum_on place summary (size ∷ sizes) small =
    let rest : (summary_on (place + 1) (summary_with place summary size) sizes).sum
    ≡ capped (capped (summary.sum + size) + total sizes) =
    sum_on (place + 1) (summary_with place summary size) sizes (omega arith) in
    omega (arith, rest)

-- the sum of the summary of `sizes` is their total, capped
summary_sum : (other : ℕ) (sizes : List ℕ) → (summary_of other sizes).sum ≡ capped (total sizes)
summary_sum other sizes =
    let all : (summary_of other sizes).sum ≡ capped (0 + total sizes) =
    sum_on 0 (no_summary other) sizes (omega arith) in
    omega (arith, all)

-- a place after another is not 0
later_on : (place : ℕ) → ((place + 1) == 0) ≡ false
later_on place = ne_eqb (place + 1) 0 (λ same. omega (arith, same))

-- after the first place, the least of a summary continued over `sizes` is the least of its own and theirs
least_on : (place : ℕ) (summary : SizeSummary) (sizes : List ℕ) → (place == 0) ≡ false
    → (summary_on place summary sizes).least ≡ least_from summary.least sizes
least_on place summary [] later = refl
least_on place summary (size ∷ sizes) later =
    least_on (place + 1) (summary_with place summary size) sizes (later_on place)
    ∙ ap (λ (is_first : Bool). least_from (cond is_first size (min summary.least size)) sizes) later

-- the least of the summary of `sizes` is the least of them, or `other` if there is none
summary_least : (other : ℕ) (sizes : List ℕ) → (summary_of other sizes).least ≡ least_of other sizes
summary_least other [] = refl
summary_least other (size ∷ sizes) = least_on 1 (summary_with 0 (no_summary other) size) sizes refl

-- if `summary` was made of `sizes` one by one, it has their capped sum and the least of them, or `other` if there is
-- none
pub is_summary_of : (other : ℕ) (sizes : List ℕ) (summary : SizeSummary) → summary ≡ summary_of other sizes
    → IsSummaryOf other sizes summary
is_summary_of other sizes summary is = record {
  sum = ap (λ (summary : SizeSummary). summary.sum) is ∙ summary_sum other sizes;
  least = ap (λ (summary : SizeSummary). summary.least) is ∙ summary_least other sizes;
}
