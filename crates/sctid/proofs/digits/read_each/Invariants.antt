use Rattle.std.proofs.Common.{◌≡◌, ◌+◌, ◌<◌, true, length, take, drop}
use Rattle.std.specs.Char.{is_ascii_digit}
use Rattle.std.specs.List.{list_all}
use Rattle.std.specs.Str.Parse.{digits_value}
use Rattle.sctid.specs.Identifier.{times, check_product}
use Rattle.sctid.proofs.digits.read_each.Given as goal

-- what was read are digits, the number is what they write, and in a text of digits the product of the
-- whole is that of what is left, times the product so far
abbrev pub invariant-loop-byte : goal.invariant-loop-byte
invariant-loop-byte l = record {
  digits : list_all is_ascii_digit (take l.byte-index l.text) ≡ true;
  value : l.number ≡ digits_value 10 (take l.byte-index l.text);
  place : l.place + l.byte-index ≡ length l.text;
  element : l.product < 10;
  product : list_all is_ascii_digit l.text ≡ true
      → check_product l.text ≡ times (check_product (drop l.byte-index l.text)) l.product;
}
