-- What is counted of the parts of a node, of concepts or of groups, one part after the other.
use Rattle.std.proofs.Common.{ℕ, zero, suc, ◌+◌, ◌*◌, ◌-◌, ◌==◌, ◌∷◌, [], ◌≡◌, ◌≤◌, ◌<◌, ◌^◌, ◌∙◌, Bool}
use Rattle.std.proofs.Common.{false, cond, List}
use Rattle.std.proofs.Common.{length, get_or, take, refl, ap, arith, inl, inr, mul-le-mul_right, suc-mul, zero-mul}
use Rattle.std.specs.Prelude.{min}
use Rattle.std.proofs.lemmas.Bool.{cases_lt, ne_eqb}
use Rattle.std.proofs.lemmas.List.{take_all}
use Rattle.number_lists.proofs.ListLemmas.{next_place}
use Rattle.postings.specs.Indexed.{Indexed}
use Rattle.plan_bounds.specs.Bounds.{values_bound}
use Rattle.plan_bounds.proofs.LoopLemmas.{Sum}

-- ---- the parts before a place, and the part at it
module _ {Part : Type 0} (sum : Sum Part) where
  -- the sum over `suc place` parts is the sum over the first `place` parts and the number of the part at `place`
  more : (parts : List Part) (place : ℕ) (part : Part) → place < length parts → part ≡ get_or parts place part
      → sum.of_parts (take (suc place) parts) ≡ sum.of_parts (take place parts) + sum.of_part part
  more [] place part within is = absurd (omega (arith, within))
  more (first ∷ parts) zero part within is = omega (arith, sum.more first [], sum.none, ap sum.of_part is)
  more (first ∷ parts) (suc place) part within is =
      omega (
        arith,
        sum.more first (take (suc place) parts),
        sum.more first (take place parts),
        more parts place part (omega (arith, within)) is,
      )

  -- the sum over `place + 1` parts is the sum over the first `place` parts and the number of the part at `place`
  pub sum_more : (parts : List Part) (place : ℕ) (part : Part) → place < length parts → part ≡ get_or parts place part
      → sum.of_parts (take (place + 1) parts) ≡ sum.of_parts (take place parts) + sum.of_part part
  sum_more parts place part within is = (λ i. sum.of_parts (take (next_place place i) parts))
      ∙ more parts place part within is

  -- the sum over the first `place` parts is at most the sum over the first `further` parts, if `place` is at most
  -- `further`
  pub sum_le : (parts : List Part) (place further : ℕ) → place ≤ further
      → sum.of_parts (take place parts) ≤ sum.of_parts (take further parts)
  sum_le parts zero further before = omega (arith, sum.none)
  sum_le [] (suc place) further before = omega (arith, sum.none)
  sum_le (first ∷ parts) (suc place) zero before = absurd (omega (arith, before))
  sum_le (first ∷ parts) (suc place) (suc further) before =
      omega (
        arith,
        sum.more first (take place parts),
        sum.more first (take further parts),
        sum_le parts place further (omega (arith, before)),
      )

  -- the sum over as many parts as there are, or more, is the sum over all parts
  pub sum_all : (parts : List Part) (place : ℕ) → length parts ≤ place → sum.of_parts (take place parts)
      ≡ sum.of_parts parts
  sum_all parts place past = ap sum.of_parts (take_all place parts past)

  -- the sum over the first parts is at most the sum over all parts
  sum_most : (parts : List Part) (place : ℕ) → sum.of_parts (take place parts) ≤ sum.of_parts parts
  sum_most parts place = elim (cases_lt place (length parts)) [
    | inl before ↦ omega (
      arith,
      sum_le parts place (length parts) (omega (arith, before)),
      sum_all parts (length parts) (omega arith),
    )
    | inr past ↦ omega (arith, sum_all parts place past)
  ]

-- ---- what has been counted
-- a counter has grown by at least `least` and at most `most`, or has stopped at the largest number of 64 bits
pub record Counts (before least most after : ℕ) : Type 0 where
  -- the counter has grown by at most `most`
  pub within : after ≤ before + most
  -- the counter has grown by at least `least`, or has stopped at the largest number of 64 bits
  pub floor : min (before + least) (2 ^ 64 - 1) ≤ after

-- loop invariant of a node that takes its parts in order: the counts are those of the parts before `place`, and at
-- most `own place` that the node itself reads
pub record SomeSoFar {Part : Type 0} (least most : Sum Part) (own : ℕ → ℕ) (parts : List Part)
    (place before after : ℕ) : Type 0 where
  -- the counter does not fall
  pub grows : before ≤ after
  -- the counts are those of the parts before `place`, and at most `own place` of the node itself
  pub counts : Counts before (least.of_parts (take place parts)) (own place + most.of_parts (take place parts)) after

module _ {Part : Type 0} {least most : Sum Part} {own : ℕ → ℕ} {parts : List Part} where
  -- before the first part, `SomeSoFar` holds with nothing counted
  pub some_start : (visits : ℕ) → SomeSoFar least most own parts 0 visits visits
  some_start visits = record {
    grows = omega arith;
    counts = record { within = omega arith; floor = omega (arith, least.none) };
  }

  -- a turn that executes the part at `place` and reads `read` items keeps `SomeSoFar`
  pub some_turn : {place before after next : ℕ} → SomeSoFar least most own parts place before after
      → (part : Part) → place < length parts → part ≡ get_or parts place part
      → (read : ℕ) → own place + read ≤ own (place + 1)
      → after ≤ next → next ≤ after + (most.of_part part + read) → min (after + least.of_part part) (2 ^ 64 - 1) ≤ next
      → SomeSoFar least most own parts (place + 1) before next
  some_turn {place} so_far part inside is read paid grows within floor =
      record {
        grows = omega (arith, so_far.grows, grows);
        counts = record {
          within = omega (arith, so_far.counts.within, within, paid, sum_more most parts place part inside is);
          floor = omega (arith, so_far.counts.floor, floor, sum_more least parts place part inside is);
        };
      }

  -- what has been counted and the count of the part at `place`, with the items that are read, are at most the sum
  -- over all parts and what the node itself reads
  pub some_next : {place before after next : ℕ} → SomeSoFar least most own parts place before after
      → (part : Part) → place < length parts → part ≡ get_or parts place part
      → (read : ℕ) → own place + read ≤ own (length parts) → next ≤ after + (most.of_part part + read)
      → next ≤ before + (own (length parts) + most.of_parts parts)
  some_next {place} so_far part inside is read paid counted =
      omega (
        arith,
        so_far.counts.within,
        counted,
        paid,
        sum_more most parts place part inside is,
        sum_most most parts (place + 1),
      )

  -- past the last part, the counts are those of all parts and at most what the node itself reads
  pub some_end : {place before after : ℕ} → SomeSoFar least most own parts place before after → length parts ≡ place
      → Counts before (least.of_parts parts) (own (length parts) + most.of_parts parts) after
  some_end {place} so_far end =
      record {
        within = omega (arith, so_far.counts.within, sum_all most parts place (omega (arith, end)), ap own end);
        floor = omega (arith, so_far.counts.floor, sum_all least parts place (omega (arith, end)));
      }

-- what was found before `place` and what the part at `place` has found fit into one more times the sum of all sizes
pub joined_reads : {Part : Type 0} (sizes : Sum Part) (parts : List Part) (place : ℕ) (part : Part)
    → place < length parts → part ≡ get_or parts place part
    → (found also : ℕ) → found ≤ sizes.of_parts (take place parts) → also ≤ sizes.of_part part
    → place * sizes.of_parts parts + (found + also) ≤ (place + 1) * sizes.of_parts parts
joined_reads sizes parts place part inside is found also few fewer =
    let all : ℕ = sizes.of_parts parts in
    let times : (place + 1) * all ≡ place * all + all = ap (λ (n : ℕ). n * all) (next_place place)
    ∙ suc-mul place all in
    let most : sizes.of_parts (take (place + 1) parts) ≤ all = sum_most sizes parts (place + 1) in
    omega (arith, few, fewer, sum_more sizes parts place part inside is, most, times)

-- `place + 1` times a number is at most `count` times it, if `place` is below `count`
pub times_more : {place count : ℕ} (all : ℕ) → place < count → (place + 1) * all ≤ count * all
times_more all inside = mul-le-mul_right all (omega (arith, inside))

-- `place` times a number is at most `count` times it, if `place` is below `count`
pub times_less : {place count : ℕ} (all : ℕ) → place < count → place * all + 0 ≤ count * all
times_less {place} {count} all inside =
    let less : place * all ≤ count * all = mul-le-mul_right all (omega (arith, inside)) in
    omega (arith, less)

-- ---- larger bounds
-- a counter that has grown by at most `sum` has grown by at most `sum + 0`
pub counted_without : {after : ℕ} (before sum : ℕ) → after ≤ before + sum → after ≤ before + (sum + 0)
counted_without before sum within = omega (arith, within)

-- ---- values along types
-- the values bound of `place + 1` types is that of the first type and `place` times that of a later one
pub along_one : (indexed : Indexed) (place first : ℕ)
    → values_bound indexed (suc place) first
    ≡ (first + length indexed.rows) + place * (min (length indexed.concepts) (length indexed.rows) + length
    indexed.rows)
along_one indexed place first =
    let step = min (length indexed.concepts) (length indexed.rows) + length indexed.rows in
    let some : (suc place == 0) ≡ false = ne_eqb (suc place) 0 (λ same. omega (arith, same)) in
    let one_less : suc place - 1 ≡ place = omega arith in
    ap (λ (b : Bool). cond b 0 ((first + length indexed.rows) + (suc place - 1) * step)) some
    ∙ ap (λ (n : ℕ). (first + length indexed.rows) + n * step) one_less

-- one type more reads what has been found and all rows, which fits into the values bound of one type more
pub along_more : (indexed : Indexed) (place first found : ℕ) → (place ≡ 0 → found ≡ first)
    → (0 < place → found ≤ min (length indexed.concepts) (length indexed.rows))
    → values_bound indexed place first + (found + length indexed.rows) ≤ values_bound indexed (place + 1) first
along_more indexed zero first found start few =
    omega (
      arith,
      start refl,
      along_one indexed 0 first,
      zero-mul (min (length indexed.concepts) (length indexed.rows) + length indexed.rows),
    )
along_more indexed (suc place) first found start few =
    let step = min (length indexed.concepts) (length indexed.rows) + length indexed.rows in
    omega (
      arith,
      few (omega arith),
      along_one indexed place first,
      along_one indexed (suc place) first,
      suc-mul place step,
      ap (λ (n : ℕ). values_bound indexed n first) (next_place (suc place)),
    )

-- the values bound of more types is no less
pub along_le : (indexed : Indexed) (place further first : ℕ) → place ≤ further → values_bound indexed place first
    ≤ values_bound indexed further first
along_le indexed zero further first before = omega arith
along_le indexed (suc place) zero first before = absurd (omega (arith, before))
along_le indexed (suc place) (suc further) first before =
    let step = min (length indexed.concepts) (length indexed.rows) + length indexed.rows in
    omega (
      arith,
      along_one indexed place first,
      along_one indexed further first,
      mul-le-mul_right {m = place} {n = further} step (omega (arith, before)),
    )
