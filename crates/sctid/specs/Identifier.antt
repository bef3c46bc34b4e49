-- What a valid SNOMED CT identifier is (Release File Specification, "Component identifiers"): a
-- text of 6 to 18 decimal digits that does not begin with 0, whose two digits before the last are a
-- partition, and whose digits, permuted by their places, have the product 0.
use Rattle.std.specs.Prelude.{ℕ, zero, suc, ◌+◌, ◌-◌, ◌%◌, Bool, ◌&&◌, ◌||◌, not, nat_lt, nat_le, ◌==◌, if◌then◌else◌}
use Rattle.std.specs.Prelude.{List, [], ◌∷◌, length, slice_index, Option, None, Some}
use Rattle.std.specs.List.{list_all}
use Rattle.std.specs.Char.{is_ascii_digit}
use Rattle.sctid.specs.declared.IdFault.{IdFault}
use Rattle.sctid.specs.declared.IdFault.TheVariants.{Length, Digit, LeadingZero, Partition, Check}
use Rattle.sctid.specs.declared.Part.{Part}
use Rattle.sctid.specs.declared.Part.TheVariants.{Concept, Description, Relationship}

-- the digit of a text at a place, which is counted from the right: the check digit is at place 0
abbrev pub digit_at : List ℕ → ℕ → ℕ
digit_at text place = slice_index text (length text - 1 - place) - 48

-- the product of two elements of the dihedral group of order 10: 0 to 4 are the rotations of a
-- pentagon, 5 to 9 are its reflections, and after a reflection a rotation goes the other way round
abbrev pub times : ℕ → ℕ → ℕ
times a b =
    if nat_lt a 5
    then (if nat_lt b 5 then (a + b) % 5 else 5 + (a + b) % 5)
    else (if nat_lt b 5 then 5 + (a - b) % 5 else (5 + a - b) % 5)

-- the permutation of the ten digits: entry `d` is the digit to which it takes `d`
abbrev pub permutation : List ℕ
permutation = 1 ∷ 5 ∷ 7 ∷ 6 ∷ 2 ∷ 8 ∷ 3 ∷ 0 ∷ 9 ∷ 4 ∷ []

-- a digit, permuted once for each place that it stands to the left of the check digit, which is at
-- place 0
abbrev pub permuted : ℕ → ℕ → ℕ
permuted zero digit = digit
permuted (suc place) digit = permuted place (slice_index permutation digit)

-- the product of a text's permuted digits in the group, from the rightmost to the leftmost: 0 if
-- the check digit is right (Verhoeff's check)
abbrev pub check_product : List ℕ → ℕ
check_product [] = 0
check_product (byte ∷ right) = times (check_product right) (permuted (length right) (byte - 48))

-- the two digits before the last are one of 00, 01, 02, 10, 11 and 12, and the long forms, whose
-- first digit is 1, have room for a namespace of seven digits
abbrev pub has_partition : List ℕ → Bool
has_partition text =
    nat_le (digit_at text 1) 2
    && ((digit_at text 2 == 0) || ((digit_at text 2 == 1) && nat_le 11 (length text)))

-- the first fault of a text, or none if it is a valid identifier
abbrev pub fault_of : List ℕ → Option IdFault
fault_of text =
    if nat_lt (length text) 6 || nat_lt 18 (length text) then Some Length
    else if not (list_all is_ascii_digit text) then Some Digit
    else if slice_index text 0 == 48 then Some LeadingZero
    else if not (has_partition text) then Some Partition
    else if not (check_product text == 0) then Some Check
    else None

-- the kind of component that an identifier names, by the second digit of its partition
abbrev pub part_of : List ℕ → Part
part_of text = if digit_at text 1 == 0 then Concept else if digit_at text 1
    == 1 then Description else Relationship

-- the number of a fault, from 1 in the order in which the code looks for faults
abbrev pub fault_number : IdFault → ℕ
fault_number Length = 1
fault_number Digit = 2
fault_number LeadingZero = 3
fault_number Partition = 4
fault_number Check = 5
