-- A text of digits, read from the left: first the part in front of the blocks, and then block by block, each of
-- eight digits.
use Rattle.std.proofs.Common.{◌≡◌, ℕ, ◌+◌, ◌*◌, ◌/◌, ◌%◌, ◌^◌, ◌<◌, ◌≤◌, ◌&&◌, zero, suc, true, false, List, [], ◌∷◌, ◌++◌}
use Rattle.std.proofs.Common.{IfSome, None, Option, Some, is_some, length, get_or, take, drop, length-drop, refl, sym, ap, ◌∙◌, arith}
use Rattle.std.specs.Char.{is_ascii_digit}
use Rattle.std.specs.List.{list_all}
use Rattle.std.specs.Simd.{first_chunks}
use Rattle.std.specs.Str.Parse.{digits_value, digits_value_after}
use Rattle.std.proofs.Math.Seq.{take-add, take_all}
use Rattle.std.proofs.lemmas.List.{take-append-drop, drop-drop, length-take-le}
use Rattle.std.proofs.lemmas.List.Folds.{list_all-append}
use Rattle.sctid.specs.Identifier.{times, check_product}
use Rattle.sctid.specs.declared.digits.Digits.{Digits}
use Rattle.numerals.proofs.DigitLemmas.{front_small}
use Rattle.sctid.proofs.Block.{block_text, digit_in_text, spelled}
use Rattle.sctid.proofs.Product.{check_product-block}

-- the text up to the end of the first `i` blocks
abbrev pub so_far : List ℕ → ℕ → List ℕ
so_far text i = take (length text % 8 + 8 * i) text

-- the block at index `i` of a text
abbrev pub block_at : List ℕ → ℕ → List ℕ
block_at text i = take 8 (drop (8 * i) (drop (length text % 8) text))

-- chunk `i` of a list is its 8 items from place `8 * i` on
chunk_at : (k i : ℕ) (xs : List ℕ) → i < k → get_or (first_chunks 8 k xs) i [] ≡ take 8 (drop (8 * i) xs)
chunk_at zero i xs within = absurd (omega arith)
chunk_at (suc k) zero xs within = refl
chunk_at (suc k) (suc i) xs within =
    let next : 8 + 8 * i ≡ 8 * suc i = omega arith in
    chunk_at k i (drop 8 xs) (omega arith) ∙ ap (take 8) (drop-drop (8 * i) 8 xs ∙ ap (λ n. drop n xs) next)

-- chunk `i` of a text, cut into chunks of eight from its end on, is `block_at text i`
pub block_is : (text : List ℕ) (blocks : List (List ℕ)) (i : ℕ) → i < length text / 8
    → blocks ≡ first_chunks 8 (length text / 8) (drop (length text % 8) text) → get_or blocks i [] ≡ block_at text i
block_is text blocks i within blocks_are =
    ap (λ bs. get_or bs i []) blocks_are ∙ chunk_at (length text / 8) i (drop (length text % 8) text) within

-- the text up to the first block is the part in front of the blocks
pub front_is : (text front : List ℕ) → front ≡ take (length text % 8) text → so_far text 0 ≡ front
front_is text front is =
    let same : length text % 8 + 0 ≡ length text % 8 = omega arith in
    ap (λ n. take n text) same ∙ sym is

-- a block has eight bytes
block_long : (text : List ℕ) (i : ℕ) → i < length text / 8 → length (block_at text i) ≡ 8
block_long text i within =
    let following = length-drop (8 * i) (drop (length text % 8) text) in
    let front = length-drop (length text % 8) text in
    length-take-le 8 (drop (8 * i) (drop (length text % 8) text)) (omega arith)

-- the text up to the end of block `i` is the text up to its start, followed by block `i`
so_far-more : (text : List ℕ) (i : ℕ) → so_far text (i + 1) ≡ so_far text i ++ block_at text i
so_far-more text i =
    let more : length text % 8 + 8 * (i + 1) ≡ (length text % 8 + 8 * i) + 8 = omega arith in
    ap (λ n. take n text) more
    ∙ take-add (length text % 8 + 8 * i) 8 text
    ∙ ap (λ rest. so_far text i ++ take 8 rest) (sym (drop-drop (8 * i) (length text % 8) text))

-- if the first `n` bytes of a text are not all digits, the text is not all digits
pub not_digits : (text : List ℕ) (n : ℕ) → list_all is_ascii_digit (take n text) ≡ false
    → list_all is_ascii_digit text ≡ false
not_digits text n front =
    ap (list_all is_ascii_digit) (sym (take-append-drop n text))
    ∙ list_all-append is_ascii_digit (take n text) (drop n text)
    ∙ ap (λ b. b && list_all is_ascii_digit (drop n text)) front

-- if the text up to block `i` is digits, the text up to block `i + 1` is digits exactly if block `i` is
pub digits-block : (text : List ℕ) (i : ℕ) → list_all is_ascii_digit (so_far text i) ≡ true
    → list_all is_ascii_digit (so_far text (i + 1)) ≡ list_all is_ascii_digit (block_at text i)
digits-block text i front =
    ap (list_all is_ascii_digit) (so_far-more text i)
    ∙ list_all-append is_ascii_digit (so_far text i) (block_at text i)
    ∙ ap (λ b. b && list_all is_ascii_digit (block_at text i)) front

-- the value of two joined texts, read on from the value `n`, is that of the second text read on from that of the
-- first
value_append : (left right : List ℕ) (n : ℕ)
    → digits_value_after 10 n (left ++ right) ≡ digits_value_after 10 (digits_value_after 10 n left) right
value_append [] right n = refl
value_append (byte ∷ left) right n = value_append left right _

-- the value of eight digits, read on from the value `n`, is `n` times 10^8 plus their value
value_after : (n : ℕ) (digit : ℕ → ℕ)
    → digits_value_after 10 n (block_text digit) ≡ n * 100000000 + digits_value 10 (block_text digit)
value_after n digit = omega arith

-- the value of the text up to block `i + 1` is that of the text up to block `i` times 10^8 plus that of block `i`,
-- which is digits
pub value-block : (text : List ℕ) (i : ℕ) → i < length text / 8 → list_all is_ascii_digit (block_at text i) ≡ true →
    digits_value 10 (so_far text (i + 1)) ≡ digits_value 10 (so_far text i) * 100000000
    + digits_value 10 (block_at text i)
value-block text i within digits =
    let block_is = spelled (block_at text i) (block_long text i within) digits in
    ap (digits_value 10) (so_far-more text i)
    ∙ value_append (so_far text i) (block_at text i) 0
    ∙ ap (digits_value_after 10 (digits_value 10 (so_far text i))) block_is
    ∙ value_after (digits_value 10 (so_far text i)) (digit_in_text (block_at text i))
    ∙ ap (λ block. digits_value 10 (so_far text i) * 100000000 + digits_value 10 block) (sym block_is)

-- if the text up to block `i + 1` is digits, its check product is that of block `i` times that of the text up to
-- block `i`
pub product-block : (text : List ℕ) (i : ℕ) → i < length text / 8 → list_all is_ascii_digit (so_far text i) ≡ true
    → list_all is_ascii_digit (block_at text i) ≡ true →
    check_product (so_far text (i + 1)) ≡ times (check_product (block_at text i)) (check_product (so_far text i))
product-block text i within front digits =
    ap check_product (so_far-more text i)
    ∙ check_product-block (so_far text i) (block_at text i) front digits (block_long text i within)

-- ---- what is read
-- what was read of the text up to the end of its first `i` blocks: these are digits, with this number and product
pub record IsRead (text : List ℕ) (i number product : ℕ) : Type 0 where
  -- the bytes are digits
  pub digits : list_all is_ascii_digit (so_far text i) ≡ true
  -- `number` is what they write
  pub value : number ≡ digits_value 10 (so_far text i)
  -- `product` is their check product
  pub check : product ≡ check_product (so_far text i)

-- the part in front of the blocks is read
pub read_front : (text front : List ℕ) {number product : ℕ} → front ≡ take (length text % 8) text
    → true ≡ list_all is_ascii_digit front → number ≡ digits_value 10 front → product ≡ check_product front
    → IsRead text 0 number product
read_front text front cut digits value check =
    let all = front_is text front cut in record {
      digits = ap (list_all is_ascii_digit) all ∙ sym digits;
      value = value ∙ ap (digits_value 10) (sym all);
      check = check ∙ ap check_product (sym all);
    }

-- with block `i` one block more is read
read_more : (text : List ℕ) (i number product : ℕ) {block : List ℕ} {more next : ℕ} → i < length text / 8
    → IsRead text i number product → block ≡ block_at text i → list_all is_ascii_digit block ≡ true
    → more ≡ number * 100000000 + digits_value 10 block → next ≡ times (check_product block) product
    → IsRead text (i + 1) more next
read_more text i number product {block} {more} {next} within read is digits value check =
    let here = ap (list_all is_ascii_digit) (sym is) ∙ digits in
    record {
      digits = digits-block text i read.digits ∙ here;
      value = omega (arith, value, value-block text i within here, read.value, ap (digits_value 10) is);
      check = check ∙ (λ k. times (check_product (is k)) (read.check k))
          ∙ sym (product-block text i within read.digits here);
    }

-- with the first of `blocks` the front and one block are read
pub read_first : (text : List ℕ) (blocks : List (List ℕ)) {number product more next : ℕ} → 0 < length text / 8
    → blocks ≡ first_chunks 8 (length text / 8) (drop (length text % 8) text) → IsRead text 0 number product
    → true ≡ list_all is_ascii_digit (get_or blocks 0 [])
    → more ≡ number * 100000000 + digits_value 10 (get_or blocks 0 [])
    → next ≡ times (check_product (get_or blocks 0 [])) product → IsRead text 1 more next
read_first text blocks {number} {product} some cut front digits value check =
    read_more text 0 number product some front (block_is text blocks 0 some cut) (sym digits) value check

-- a number of at most `most` digits is below 10^`most`
pub read_small : {text : List ℕ} {i number product : ℕ} (most : ℕ) → IsRead text i number product
    → length text % 8 + 8 * i ≤ most → number < 10 ^ most
read_small {text} {i} most read short =
    omega (arith, read.value, front_small text (length text % 8 + 8 * i) most short read.digits)

-- what a reader of a text of at most 18 bytes tells: the number and the check product of the digits, or nothing if
-- a byte is no digit
pub record IsTold (text : List ℕ) (result : Option Digits) : Type 0 where
  -- it tells something exactly if all bytes are digits
  pub digits : is_some result ≡ list_all is_ascii_digit text
  -- the number is what the digits write
  pub value : IfSome result (λ read. read.number ≡ digits_value 10 text)
  -- the number has at most 18 digits
  pub small : IfSome result (λ read. read.number < 10 ^ 18)
  -- the product is the check product of the digits
  pub check : IfSome result (λ read. read.check_product ≡ check_product text)

-- the text up to the end of its last block is the text
whole : (text : List ℕ) (i : ℕ) → i ≡ length text / 8 → so_far text i ≡ text
whole text i last = take_all (length text % 8 + 8 * i) text (omega arith)

-- what was read up to the last block is told
told_whole : (text : List ℕ) (i : ℕ) (read : Digits) → length text ≤ 18 → i ≡ length text / 8
    → IsRead text i read.number read.check_product → IsTold text (Some read)
told_whole text i read short last here =
    let all = whole text i last in
    record {
      digits = sym (ap (list_all is_ascii_digit) (sym all) ∙ here.digits);
      value = here.value ∙ ap (digits_value 10) all;
      small = read_small 18 here (omega arith);
      check = here.check ∙ ap check_product all;
    }

-- what is told of the text after its last block, if `result` is what is told of that block
pub told_with : (text : List ℕ) (i number product : ℕ) (block : List ℕ) (result : Option Digits)
    → length text ≤ 18 → i + 1 ≡ length text / 8 → IsRead text i number product → block ≡ block_at text i
    → is_some result ≡ list_all is_ascii_digit block
    → IfSome result (λ more. more.number ≡ number * 100000000 + digits_value 10 block)
    → IfSome result (λ more. more.check_product ≡ times (check_product block) product) → IsTold text result
told_with text i number product block None short last read is digits value check = record {
  digits = sym (not_digits text (length text % 8 + 8 * (i + 1))
      (digits-block text i read.digits ∙ ap (list_all is_ascii_digit) (sym is) ∙ sym digits));
  value = tt;
  small = tt;
  check = tt;
}
told_with text i number product block (Some more) short last read is digits value check =
    told_whole text (i + 1) more short last
    (read_more text i number product (omega arith) read is (sym digits) value check)
