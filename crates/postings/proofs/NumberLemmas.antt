-- Identifiers that rise strictly, for their search.
use Rattle.std.proofs.Common.{ℕ, zero, suc, ◌+◌, ◌-◌, ◌≡◌, ◌≤◌, ◌<◌, List, length, get_or, subst, arith}
use Rattle.std.specs.List.Sorted.{IsStrictlyIncreasing}

-- identifiers that rise strictly do not fall over a gap
further : (concepts : List ℕ) → IsStrictlyIncreasing concepts → (i gap : ℕ) → i + gap < length concepts
    → get_or concepts i 0 ≤ get_or concepts (i + gap) 0
further concepts rises i zero within = ap_le (omega arith)
  where
    ap_le : i ≡ i + zero → get_or concepts i 0 ≤ get_or concepts (i + zero) 0
    ap_le same = subst (λ (n : ℕ). get_or concepts i 0 ≤ get_or concepts n 0) same (omega arith)
further concepts rises i (suc gap) within =
    let next : i + gap + 1 ≡ i + suc gap = omega arith in
    subst (λ (n : ℕ). get_or concepts i 0 ≤ get_or concepts n 0) next
    (omega (arith, further concepts rises i gap (omega (arith, within)), rises (i + gap) (omega (arith, within))))

-- in a strictly rising list, the concept at place `i` is at most the one at place `j` if `i` is at most `j`
pub rises_on : (concepts : List ℕ) → IsStrictlyIncreasing concepts → (i j : ℕ) → i ≤ j → j < length concepts
    → get_or concepts i 0 ≤ get_or concepts j 0
rises_on concepts rises i j above within =
    let same : i + (j - i) ≡ j = omega arith in
    subst (λ (n : ℕ). get_or concepts i 0 ≤ get_or concepts n 0) same
    (further concepts rises i (j - i) (omega (arith, same, within)))
