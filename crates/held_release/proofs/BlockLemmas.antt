-- Blocks of rising identifiers: identifiers in earlier blocks are less than those in later ones, and words of bits
-- tell where blocks start.
use Rattle.std.proofs.Common.{ℕ, zero, suc, ◌+◌, ◌-◌, ◌*◌, ◌/◌, ◌%◌, ◌^◌, ◌≡◌, ◌≤◌, ◌<◌, List}
use Rattle.std.proofs.Common.{refl, length, get_or, count_ones, sym, subst, inl, inr, ap, ◌∙◌, arith}
use Rattle.std.specs.List.Sorted.{IsStrictlyIncreasing}
use Rattle.std.specs.Int.Count.{ones, ones_step}
use Rattle.std.proofs.Math.Nat.{add-mod_right, mod-eq_of_lt, pow-suc}
use Rattle.std.proofs.lemmas.Nat.{pow-add}
use Rattle.std.proofs.lemmas.Bool.{cases_lt}
use Rattle.std.proofs.lemmas.Option.{slice_get_read}
use Rattle.std.proofs.Math.Pow.{mod-mod-pow}
use Rattle.held_release.specs.inside.Blocks.{AreBlockWords, IsBlockStart, IsCountedBlock, block_of, start_in}
use Rattle.held_release.specs.declared.concepts.BlockWord.{BlockWord}
use Rattle.std.specs.List.{slice_get}
use Rattle.number_lists.proofs.IncreasingLemmas.{not_falling}

-- if `x` is at most `y`, so is its block
block_of-le : (x y : ℕ) → x ≤ y → block_of x ≤ block_of y
unfolding block_of
block_of-le x y le = omega arith

-- an identifier in an earlier block is the lesser one
pub less_by_block : (x y : ℕ) → block_of x < block_of y → x < y
unfolding block_of
less_by_block x y less = omega arith

-- a block has one identifier at most if the next one starts at most one place later
pub counted_alone : (ids : List ℕ) (block start next : ℕ) → IsBlockStart ids block start
    → IsBlockStart ids (block + 1) next → next ≤ start + 1 → IsCountedBlock ids block start
counted_alone ids block start next here following near = record {
  starts = here;
  alone = λ place after within. omega (arith, following.following place (omega arith) within);
}

-- ---- ones
-- one more bit above the others is one more one
pub ones_more : (k bits : ℕ) → bits < 2 ^ k → count_ones (bits + 2 ^ k) ≡ count_ones bits + 1
unfolding ones
ones_more zero bits small =
    let none : bits ≡ 0 = omega arith in
    let one : bits + 1 ≡ 1 = omega arith in
    ap count_ones one ∙ sym (ap (λ n. count_ones n + 1) none)
ones_more (suc k) bits small =
    let twice : 2 ^ suc k ≡ 2 ^ k * 2 = pow-suc 2 k in
    let low : (bits + 2 ^ suc k) % 2 ≡ bits % 2 = omega (arith, twice) in
    let half : (bits + 2 ^ suc k) / 2 ≡ bits / 2 + 2 ^ k = omega (arith, twice) in
    let rest = ones_more k (bits / 2) (omega (arith, twice)) in
    omega (
      arith,
      ones_step (bits + 2 ^ suc k) ∙ (λ i. low i + count_ones (half i)),
      rest,
      ones_step bits,
    )

-- ---- the words
-- the first `k` blocks from `first` on, where each starts by `bits`; `place` is the start of the next block
pub record AreCounted (ids : List ℕ) (first start bits place k : ℕ) : Type 0 where
  -- there is a bit for each of the blocks
  pub small : bits < 2 ^ k
  -- the next block starts at `place`
  pub next : IsBlockStart ids (first + k) place
  -- the bits count the identifiers in the blocks
  pub counted : place ≡ start + count_ones bits
  -- each block starts where the bits before its own say
  pub blocks : (bit : ℕ) → bit < k → IsCountedBlock ids (first + bit) (start + count_ones (bits % 2 ^ bit))

-- with the start of one block more, one block more is counted
pub counted_more : (ids : List ℕ) (first start bits place k more next : ℕ)
    → AreCounted ids first start bits place k
    → more < 2 ^ (k + 1) → more % 2 ^ k ≡ bits → IsBlockStart ids (first + (k + 1)) next → next ≤ place + 1
    → next ≡ start + count_ones more → AreCounted ids first start more next (k + 1)
counted_more ids first start bits place k more next so_far small low following near counted = record {
  small = small;
  next = following;
  counted = counted;
  blocks = λ bit below. elim (cases_lt bit k) [
    | inl lt ↦
        let apart : bit + (k - bit) ≡ k = omega arith in
        let same : more % 2 ^ bit ≡ bits % 2 ^ bit =
        sym (mod-mod-pow more (k - bit) bit) ∙ ap (λ n. more % 2 ^ n % 2 ^ bit) (swap bit (k - bit) ∙ apart)
        ∙ ap (λ n. n % 2 ^ bit) low in
        subst (λ n. IsCountedBlock ids (first + bit) (start + count_ones n)) (sym same) (so_far.blocks bit lt)
    | inr ge ↦
        let last : bit ≡ k = omega arith in
        let sum : first + (k + 1) ≡ first + k + 1 = omega arith in
        subst (λ n. IsCountedBlock ids (first + n) (start + count_ones (more % 2 ^ n))) (sym last)
        (subst (IsCountedBlock ids (first + k)) (so_far.counted ∙ ap (λ n. start + count_ones n) (sym low))
        (counted_alone ids (first + k) place next so_far.next
        (subst (λ block. IsBlockStart ids block next) sum following) near))
  ];
}
  where
    swap : (m n : ℕ) → n + m ≡ m + n
    swap m n = omega arith

-- if the identifiers rise, and the one at `place`, if there is one, is in no block before `first + (k + more)`, the
-- `more` blocks after the first `k` are counted too: they have no identifier
counted_none : (ids : List ℕ) → IsStrictlyIncreasing ids → (first start bits place k more : ℕ)
    → AreCounted ids first start bits place k
    → (place < length ids → first + (k + more) ≤ block_of (get_or ids place 0))
    → AreCounted ids first start bits place (k + more)
counted_none ids rising first start bits place k zero so_far ahead =
    let same : k ≡ k + 0 = omega arith in subst (AreCounted ids first start bits place) same so_far
counted_none ids rising first start bits place k (suc more) so_far ahead =
    let here = counted_none ids rising first start bits place k more so_far (λ within. omega (arith, ahead within)) in
    let next : IsBlockStart ids (first + (k + more + 1)) place = record {
      within = so_far.next.within;
      before = λ at earlier. omega (arith, here.next.before at earlier);
      following = λ at from within.
          omega (
            arith,
            ahead (omega (arith, from, within)),
            block_of-le (get_or ids place 0) (get_or ids at 0) (not_falling ids rising place at from within),
          );
    } in
    let sum : k + more + 1 ≡ k + suc more = omega arith in
    subst (AreCounted ids first start bits place) sum
    (counted_more ids first start bits place (k + more) bits place here
    (omega (arith, here.small, pow-add 2 (k + more) 1)) (mod-eq_of_lt here.small) next (omega arith) here.counted)

-- if the identifiers rise, and the one at `place`, if there is one, is in no block before `first + to`, the first
-- `to` blocks are counted as soon as the first `k` are
pub counted_to : (ids : List ℕ) → IsStrictlyIncreasing ids → (first start bits place k to : ℕ) → k ≤ to
    → AreCounted ids first start bits place k
    → (place < length ids → first + to ≤ block_of (get_or ids place 0))
    → AreCounted ids first start bits place to
counted_to ids rising first start bits place k to far so_far ahead =
    let sum : k + (to - k) ≡ to = omega arith in
    subst (AreCounted ids first start bits place) sum
    (counted_none ids rising first start bits place k (to - k) so_far
    (λ within. subst (λ n. first + n ≤ block_of (get_or ids place 0)) (sym sum) (ahead within)))

-- if the identifiers rise, and the one at `place` is the only one in its block, the block `first + j`, then with its
-- bit the blocks up to this one are counted
pub counted_next : (ids : List ℕ) → IsStrictlyIncreasing ids → (first start bits place k j : ℕ) → k ≤ j
    → AreCounted ids first start bits place k → place < length ids → block_of (get_or ids place 0) ≡ first + j
    → (place + 1 < length ids → first + j < block_of (get_or ids (place + 1) 0))
    → AreCounted ids first start (bits + 2 ^ j) (place + 1) (j + 1)
counted_next ids rising first start bits place k j far so_far within own alone =
    let here = counted_to ids rising first start bits place k j far so_far (λ _. omega (arith, own)) in
    let next : IsBlockStart ids (first + (j + 1)) (place + 1) = record {
      within = omega arith;
      before = λ at earlier. omega (
        arith,
        own,
        block_of-le (get_or ids at 0) (get_or ids place 0)
            (not_falling ids rising at place (omega arith) within),
      );
      following = λ at from inside. omega (
        arith,
        alone (omega (arith, from, inside)),
        block_of-le (get_or ids (place + 1) 0) (get_or ids at 0)
            (not_falling ids rising (place + 1) at from inside),
      );
    } in
    let low : (bits + 2 ^ j) % 2 ^ j ≡ bits = add-mod_right bits (2 ^ j) ∙ mod-eq_of_lt here.small in
    counted_more ids first start bits place j (bits + 2 ^ j) (place + 1) here
    (omega (arith, here.small, pow-add 2 j 1)) low next (omega arith)
    (omega (arith, here.counted, ones_more j bits here.small))

-- where `word` counts the block of `id`, all identifiers before the start of this block are less than `id`, and those
-- after its first one are greater
module _ (ids : List ℕ) (id block start : ℕ) (own : block ≡ block_of id) where
  pub less_before : IsBlockStart ids block start → (place : ℕ) → place < start → get_or ids place 0 < id
  less_before here place before = less_by_block (get_or ids place 0) id (omega (arith, own, here.before place before))

  pub greater_after : IsCountedBlock ids block start → (place : ℕ) → start + 1 ≤ place → place < length ids
      → id < get_or ids place 0
  greater_after here place after within =
      less_by_block id (get_or ids place 0) (omega (arith, own, here.alone place (omega arith) within))

-- a block of which a copy of the words has a word starts where this word says, and has one identifier at most
pub counted_block : (ids : List ℕ) (words copy : List BlockWord) (counted : ℕ) → AreBlockWords ids words counted
    → copy ≡ words → (block : ℕ) (word : BlockWord) → block / 64 < length copy
    → word ≡ get_or copy (block / 64) word → IsCountedBlock ids block (start_in word (block % 64))
counted_block ids words copy counted kept same block word within read =
    let whole : block / 64 * 64 + block % 64 ≡ block = omega arith in
    let there = slice_get_read copy (length copy) (block / 64) word refl within read in
    subst (λ n. IsCountedBlock ids n (start_in word (block % 64))) whole
    (kept.blocks (block / 64) (block % 64) word (omega arith)
    (ap (λ all. slice_get all (block / 64)) (sym same) ∙ there))

-- the identifiers in the counted blocks are less than an identifier in a later block
pub less_when_counted : (ids : List ℕ) (words : List BlockWord) (counted id block : ℕ)
    → AreBlockWords ids words counted → block ≡ block_of id → length words ≤ block / 64
    → (place : ℕ) → place < counted → get_or ids place 0 < id
less_when_counted ids words counted id block kept own behind place before =
    less_by_block (get_or ids place 0) id (omega (arith, own, kept.rest.before place before))
