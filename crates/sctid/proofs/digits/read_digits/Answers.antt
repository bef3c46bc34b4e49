use Rattle.std.proofs.Common.{◌+◌, ◌*◌, ◌/◌, ◌%◌, ◌<◌, ◌≡◌, [], length, get_or, sym, ap, ◌∙◌, arith}
use Rattle.std.specs.Char.{is_ascii_digit}
use Rattle.std.specs.List.{list_all}
use Rattle.sctid.proofs.Blocks.{IsTold, block_is, digits-block, front_is, not_digits, read_first, read_front, read_small, told_with}
use Rattle.sctid.proofs.digits.read_digits.Goals as goal

-- if the front of the text is not digits, the text is not
pub returns-in_default-clause-digits : goal.returns-in_default-clause-digits
returns-in_default-clause-digits c =
    let text = c.args.text.now in
    let front = ap (list_all is_ascii_digit) (front_is text c.as_rchunks.result.0.now c.as_rchunks.ensures.front) in
    sym (not_digits text (length text % 8 + 0) (front ∙ sym c.in_default.ensures.digits))

-- the front has at most seven digits
pub with_block-requires-clause-small : goal.with_block-requires-clause-small
with_block-requires-clause-small c =
    let front = read_front c.args.text.now c.as_rchunks.result.0.now c.as_rchunks.ensures.front
    c.in-Some.ensures.digits c.in-Some.ensures.number c.in-Some.ensures.product in
    read_small 10 front (omega arith)

-- the front has at most seven digits
pub with_block-requires-in-len2-up-clause-small : goal.with_block-requires-in-len2-up-clause-small
with_block-requires-in-len2-up-clause-small c =
    let front = read_front c.args.text.now c.as_rchunks.result.0.now c.as_rchunks.ensures.front
    c.in-Some.ensures.digits c.in-Some.ensures.number c.in-Some.ensures.product in
    read_small 10 front (omega arith)

-- a text without a block is its front
pub returns-in-empty-clause-small : goal.returns-in-empty-clause-small
returns-in-empty-clause-small c =
    let front = read_front c.args.text.now c.as_rchunks.result.0.now c.as_rchunks.ensures.front
    c.in-Some.ensures.digits c.in-Some.ensures.number c.in-Some.ensures.product in
    read_small 18 front (omega arith)

-- a text with one block is its front and this block
one_block : (c : goal.After-with_block) → IsTold c.args.text.now c.with_block.result
one_block c =
    let text = c.args.text.now in
    let blocks = c.as_rchunks.result.1.now in
    let one : 0 + 1 ≡ length text / 8 = omega (arith, c.as_rchunks.ensures.back_len, c.in-len1) in
    let front = read_front text c.as_rchunks.result.0.now c.as_rchunks.ensures.front
    c.in-Some.ensures.digits c.in-Some.ensures.number c.in-Some.ensures.product in
    told_with text 0 c.in-Some.read.number c.in-Some.read.check_product (get_or blocks 0 []) c.with_block.result
    c.requires one front (block_is text blocks 0 (omega arith) c.as_rchunks.ensures.back)
    c.with_block.ensures.digits c.with_block.ensures.number c.with_block.ensures.product

pub returns-in-len1-clause-digits : goal.returns-in-len1-clause-digits
returns-in-len1-clause-digits c = (one_block c).digits

pub returns-in-len1-clause-number : goal.returns-in-len1-clause-number
returns-in-len1-clause-number c = (one_block c).value

pub returns-in-len1-clause-small : goal.returns-in-len1-clause-small
returns-in-len1-clause-small c = (one_block c).small

pub returns-in-len1-clause-product : goal.returns-in-len1-clause-product
returns-in-len1-clause-product c = (one_block c).check

-- if the first of two blocks is not digits, the text is not
pub returns-in_default-with_block-clause-digits : goal.returns-in_default-with_block-clause-digits
returns-in_default-with_block-clause-digits c =
    let text = c.args.text.now in
    let front = read_front text c.as_rchunks.result.0.now c.as_rchunks.ensures.front
    c.in-Some.ensures.digits c.in-Some.ensures.number c.in-Some.ensures.product in
    let is = block_is text c.as_rchunks.result.1.now 0 (omega arith) c.as_rchunks.ensures.back in
    sym (not_digits text (length text % 8 + 8 * (0 + 1)) (digits-block text 0 front.digits
    ∙ ap (list_all is_ascii_digit) (sym is) ∙ sym c.in_default-with_block.ensures.digits))

-- the front and the first of two blocks have at most ten digits
pub with_block-requires-in-len2-up-2-clause-small : goal.with_block-requires-in-len2-up-2-clause-small
with_block-requires-in-len2-up-2-clause-small c =
    let text = c.args.text.now in
    let some : 0 < length text / 8 = omega (arith, c.as_rchunks.ensures.back_len, c.in-len2-up) in
    let front = read_front text c.as_rchunks.result.0.now c.as_rchunks.ensures.front
    c.in-Some.ensures.digits c.in-Some.ensures.number c.in-Some.ensures.product in
    let first = read_first text c.as_rchunks.result.1.now some c.as_rchunks.ensures.back front
    c.in-Some-with_block.ensures.digits c.in-Some-with_block.ensures.number c.in-Some-with_block.ensures.product in
    read_small 10 first (omega (arith, c.requires, c.as_rchunks.ensures.back_len, c.in-len2-up))

-- a text with two blocks is its front and these blocks
two_blocks : (c : goal.After-with_block-in-len2-up-2) → IsTold c.args.text.now c.with_block-in-len2-up-2.result
two_blocks c =
    let text = c.args.text.now in
    let blocks = c.as_rchunks.result.1.now in
    let two : 1 + 1 ≡ length text / 8 = omega (arith, c.requires, c.as_rchunks.ensures.back_len, c.in-len2-up) in
    let front = read_front text c.as_rchunks.result.0.now c.as_rchunks.ensures.front
    c.in-Some.ensures.digits c.in-Some.ensures.number c.in-Some.ensures.product in
    let first = read_first text blocks (omega (arith, two)) c.as_rchunks.ensures.back front
    c.in-Some-with_block.ensures.digits c.in-Some-with_block.ensures.number c.in-Some-with_block.ensures.product in
    told_with text 1 c.in-Some-with_block.read.number c.in-Some-with_block.read.check_product (get_or blocks 1 [])
    c.with_block-in-len2-up-2.result c.requires two first
    (block_is text blocks 1 (omega (arith, two)) c.as_rchunks.ensures.back) c.with_block-in-len2-up-2.ensures.digits
    c.with_block-in-len2-up-2.ensures.number c.with_block-in-len2-up-2.ensures.product

pub returns-in-Some-with_block-clause-digits : goal.returns-in-Some-with_block-clause-digits
returns-in-Some-with_block-clause-digits c = (two_blocks c).digits

pub returns-in-Some-with_block-clause-number : goal.returns-in-Some-with_block-clause-number
returns-in-Some-with_block-clause-number c = (two_blocks c).value

pub returns-in-Some-with_block-clause-small : goal.returns-in-Some-with_block-clause-small
returns-in-Some-with_block-clause-small c = (two_blocks c).small

pub returns-in-Some-with_block-clause-product : goal.returns-in-Some-with_block-clause-product
returns-in-Some-with_block-clause-product c = (two_blocks c).check
