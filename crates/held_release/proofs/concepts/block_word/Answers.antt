use Rattle.std.proofs.Common.{ℕ, ◌≡◌, ◌≤◌, ◌<◌, ◌+◌, ◌-◌, ◌*◌, ◌%◌, ◌^◌, ◌∙◌, ap, arith, get_or, subst, sym}
use Rattle.std.proofs.Math.Nat.{mod-eq_of_lt, one-mul, pow-le-pow_right}
use Rattle.std.proofs.Math.Pow.{pow-lt}
use Rattle.std.proofs.lemmas.List.{get_or_read}
use Rattle.held_release.specs.inside.Blocks.{block_of}
use Rattle.held_release.proofs.BlockLemmas.{AreCounted, counted_next, counted_to}
use Rattle.held_release.proofs.concepts.block_word.Goals as goal

-- the bit of one of 64 blocks is not cut off
whole_bit : (j : ℕ) → j < 64 → 1 * 2 ^ j % 2 ^ 64 ≡ 2 ^ j
whole_bit j below = ap (λ n. n % 2 ^ 64) (one-mul (2 ^ j)) ∙ mod-eq_of_lt (pow-lt below)

-- with the bit of its block, the blocks up to that of the identifier are counted
turn : (c : goal.Else-is_before) → (j : ℕ) × (j < 64)
    × AreCounted c.args.ids.now c.args.first c.args.start
    (c.loop-block.bits + 1 * 2 ^ (c.block_of-block.result - c.args.first) % 2 ^ 64) (c.loop-block.place + 1) (j + 1)
turn c =
    let ids = c.args.ids.now in
    let first : ℕ = c.args.first in
    let place : ℕ = c.loop-block.place in
    let block : ℕ = c.block_of-block.result in
    let k = c.loop-block.invariant.0 in
    let so_far = c.loop-block.invariant.2 in
    let here = c.is_before.ensures.before c.loop-block-test.true in
    let own : block_of (get_or ids place 0) ≡ block =
    sym (c.block_of-block.ensures ∙ ap block_of (c.number.ensures.number
    ∙ get_or_read ids place c.index-ids-place.result here.0 c.index-ids-place.is 0)) in
    let after : first + k ≤ block = omega (arith, own, so_far.next.following place (omega arith) here.0) in
    let below : block - first < 64 = omega (arith, here.1, own, after) in (
      block - first,
      below,
      subst
          (λ (bit : ℕ). AreCounted ids first c.args.start (c.loop-block.bits + bit) (place + 1) (block - first + 1))
          (sym (whole_bit (block - first) below))
          (counted_next ids c.requires.rising first c.args.start c.loop-block.bits place k (block - first)
          (omega (arith, after)) so_far here.0 (omega (arith, own, after))
          (λ within. omega (arith, own, after, c.is_before-in-loop-block.ensures.later c.if-is_before.false within))),
    )

-- with the bit of the identifier's block the sum stays below 2^64
pub overflow_add-bits : goal.overflow_add-bits
overflow_add-bits c =
    let now = turn c in
    let most : 2 ^ (now.0 + 1) ≤ 2 ^ 64 =
    pow-le-pow_right {n = 2} (omega arith) {i = now.0 + 1} {j = 64} (omega (arith, now.1)) in
    omega (arith, now.2.small, most)

-- the identifier's block is counted
pub loop-block-preserved : goal.loop-block-preserved
loop-block-preserved c = let now = turn c in (now.0 + 1, omega (arith, now.1), now.2)

-- no other identifier is in one of the 64 blocks, so all of them are counted
all_counted : (c : goal.After-loop-block)
    → AreCounted c.args.ids.now c.args.first c.args.start c.loop-block.bits c.loop-block.place 64
all_counted c =
    counted_to c.args.ids.now c.requires.rising c.args.first c.args.start c.loop-block.bits c.loop-block.place
    c.loop-block.invariant.0 64 c.loop-block.invariant.1 c.loop-block.invariant.2
    (c.is_before.ensures.later c.loop-block-test.false)

-- each block starts where the word says
pub returns-clause-word : goal.returns-clause-word
returns-clause-word c = (all_counted c).blocks

-- the next word starts after the identifiers of these blocks
pub returns-clause-next : goal.returns-clause-next
returns-clause-next c = (all_counted c).next
