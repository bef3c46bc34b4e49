use Rattle.std.proofs.Common.{◌<◌, ◌^◌, length, arith}
use Rattle.numerals.proofs.DigitLemmas.{digit_in, digits_more, front_small, value_more}
use Rattle.numerals.proofs.eight.value_of.Goals as goal

-- with one digit more, the digits and the number are those of the bytes so far
pub loop-byte-preserved : goal.loop-byte-preserved
loop-byte-preserved c =
    let block = c.args.block.now in
    let at = c.loop-byte.byte-index in
    let within : at < length block = omega arith in
    let digit = digit_in block at within c.requires in
    record {
      digits = digits_more block at within c.loop-byte.invariant.digits digit;
      value = omega (arith, value_more block at within digit);
    }

-- eight digits write a number below 10^8
pub returns-clause-small : goal.returns-clause-small
returns-clause-small c =
    let small : c.loop-byte.number < 10 ^ 8 =
    omega (arith, front_small c.args.block.now c.loop-byte.byte-index 8 (omega arith) c.loop-byte.invariant.digits) in
    omega arith
