use Rattle.std.proofs.Common.{◌≡◌, ◌+◌, ◌-◌, true, get_or, take_all, drop, sym, ap, ◌∙◌, arith, rules}
use Rattle.std.specs.Char.{is_ascii_digit}
use Rattle.std.specs.List.{list_all}
use Rattle.std.proofs.lemmas.List.{at_drop_all}
use Rattle.sctid.specs.Identifier.{times, permuted, check_product}
use Rattle.sctid.proofs.Group.{times-zero, zero-times}
use Rattle.numerals.proofs.DigitLemmas.{digits_more, value_more, front_small}
use Rattle.sctid.proofs.Product.{check_product-lt, check_product-more, digit-lt}
use Rattle.sctid.proofs.digits.read_each.Goals as goal

-- the number so far times 10 fits into 64 bits
pub overflow_mul-number : goal.overflow_mul-number
overflow_mul-number c =
    let small = front_small c.args.text.now c.loop-byte.byte-index 17 (omega arith) c.loop-byte.invariant.digits in
    omega arith

-- the number with the next digit fits into 64 bits
pub overflow_add-number : goal.overflow_add-number
overflow_add-number c =
    let small = front_small c.args.text.now c.loop-byte.byte-index 17 (omega arith) c.loop-byte.invariant.digits in
    omega (arith, c.type_inv.text c.loop-byte.byte-index)

-- before the first byte, the check product of the text is that of the whole text times the unit
pub loop-byte-init : goal.loop-byte-init
loop-byte-init c =
    let text = c.args.text.now in
    record {
      digits = search rules;
      value = search rules;
      place = omega arith;
      element = omega arith;
      product = λ all. sym (times-zero (check_product text) (check_product-lt text all));
    }

-- the byte minus the byte of 0 is below 10
pub permuted-requires : goal.permuted-requires
permuted-requires c =
    let byte = get_or c.args.text.now c.loop-byte.byte-index 0 in
    let digit : is_ascii_digit byte ≡ true = cc in
    omega (arith, digit-lt byte digit)

-- with one byte more, the digits, the number and the check product are those of the bytes so far
pub loop-byte-preserved : goal.loop-byte-preserved
loop-byte-preserved c =
    let text = c.args.text.now in
    let i = c.loop-byte.byte-index in
    let place = c.loop-byte.place - 1 in
    let so_far = c.loop-byte.product in
    let byte = get_or text i 0 in
    let digit : is_ascii_digit byte ≡ true = cc in
    let product_is : c.times-product.result ≡ times (permuted place (byte - 48)) so_far = cc in
    record {
      digits = digits_more text i c.loop-byte-test.true c.loop-byte.invariant.digits digit;
      value = omega (arith, value_more text i c.loop-byte-test.true digit);
      place = omega arith;
      element = c.times-product.ensures.element;
      product = λ all.
          check_product-more text i place so_far c.loop-byte-test.true all (omega arith) c.loop-byte.invariant.element
          (c.loop-byte.invariant.product all)
          ∙ ap (times (check_product (drop (i + 1) text))) (sym product_is);
    }

-- if no byte is left, the product so far is the check product of the text
pub returns-clause-product : goal.returns-clause-product
returns-clause-product c =
    let text = c.args.text.now in
    let i = c.loop-byte.byte-index in
    let all : list_all is_ascii_digit text ≡ true =
    rw (take_all i text c.loop-byte-test.false) at c.loop-byte.invariant.digits in
    sym (c.loop-byte.invariant.product all
    ∙ ap (λ p. times p c.loop-byte.product) (at_drop_all check_product text i c.loop-byte-test.false)
    ∙ zero-times c.loop-byte.product c.loop-byte.invariant.element)
