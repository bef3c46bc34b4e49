-- The pairs of coded rows, packed in one number as hash keys.
use Rattle.std.specs.Prelude.{ℕ, ◌+◌, ◌*◌, ◌^◌, ◌<◌, ◌==◌, List, filter, map, nat_eq}
use Rattle.number_lists.specs.Distinct.{distinct}
use Rattle.postings.specs.inside.Coded.{pair_code}
use Rattle.held_release.specs.declared.coded_rows.CodedRow.{CodedRow}

-- a pair of two numbers below 2^32, packed in one number
abbrev pub key_of_code : ℕ × ℕ → ℕ
key_of_code code = code.0 * 2 ^ 32 + code.1

-- the pair of a coded row, packed in one number
abbrev pub pair_key : CodedRow → ℕ
pair_key row = key_of_code (pair_code row)

-- the group number and the pair of a coded row, packed in one number
abbrev pub grouped_key : CodedRow → ℕ
grouped_key row = row.group * 2 ^ 64 + pair_key row

-- both numbers of a pair are below 2^32, so that `key_of_code` loses nothing
pub record IsShort (code : ℕ × ℕ) : Type 0 where
  -- the first number is below 2^32
  pub first : code.0 < 2 ^ 32
  -- the second number is below 2^32
  pub second : code.1 < 2 ^ 32

-- the distinct `grouped_key`s of the rows
abbrev pub grouped_keys : List CodedRow → List ℕ
grouped_keys rows = distinct nat_eq (map grouped_key rows)

-- the distinct `pair_key`s of the rows
abbrev pub pair_keys : List CodedRow → List ℕ
pair_keys rows = distinct nat_eq (map pair_key rows)

-- the distinct `pair_key`s of the rows with the group number 0
abbrev pub ungrouped_keys : List CodedRow → List ℕ
ungrouped_keys rows = pair_keys (filter (λ (row : CodedRow). row.group == 0) rows)
