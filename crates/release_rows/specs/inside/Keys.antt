-- The keys of rows. Two rows of one kind have one key exactly if they have one identifier.
use Rattle.std.specs.Prelude.{ℕ, ◌+◌, ◌*◌, ◌^◌, ◌<◌, ◌≤◌, ◌==◌, ◌≡◌, ⊤, true, List, [], ◌∷◌, ◌++◌, nat_eq}
use Rattle.std.specs.List.{list_any, position_or_len}
use Rattle.key_interner.specs.KeyInterner.{keys_after}
use Rattle.number_lists.specs.Members.{times}
use Rattle.rf2_rows.specs.RowTexts.{RowText, of_concept, of_concrete, of_description, of_member, of_relationship}
use Rattle.rf2_rows.specs.Versions.{member_number}

-- the keys of rows, and the UUIDs of members, whose indexes are the keys of these
pub record Keyed : Type 0 where
  -- the UUIDs of the members that were met, each once
  pub uuids : List ℕ
  -- the keys of the rows, in their order
  pub keys : List ℕ

-- no key and no UUID
abbrev pub no_keys : Keyed
no_keys = record { uuids = []; keys = [] }

-- the key of a row: for a member the index of its UUID in `uuids`; keys of other kinds are greater,
-- and rise kind by kind with the identifier
abbrev pub key_in : List ℕ → RowText → ℕ
key_in uuids (of_member row) = position_or_len (λ other. member_number row == other) uuids
key_in uuids (of_concept row) = 2 ^ 63 + row.id
key_in uuids (of_description row) = 2 ^ 63 + 10 ^ 18 + row.id
key_in uuids (of_concrete row) = 2 ^ 63 + 2 * 10 ^ 18 + row.id
key_in uuids (of_relationship row) = 2 ^ 63 + 3 * 10 ^ 18 + row.id

-- no key occurs twice
abbrev pub AreSingle : List ℕ → Type 0
AreSingle keys = (key : ℕ) → times key keys ≤ 1

-- the UUIDs after a row: that of a member is added at the end if it is new
abbrev pub uuids_following : List ℕ → RowText → List ℕ
uuids_following uuids (of_member row) = keys_after uuids (member_number row)
uuids_following uuids other = uuids

-- the UUIDs and keys after one more row
abbrev pub keyed_after : Keyed → RowText → Keyed
keyed_after keyed row = record {
  uuids = uuids_following keyed.uuids row;
  keys = keyed.keys ++ key_in keyed.uuids row ∷ [];
}

-- the row's identifier has at most 18 digits; a member has no such identifier
abbrev pub IsShort : RowText → Type 0
IsShort (of_concept row) = row.id < 10 ^ 18
IsShort (of_description row) = row.id < 10 ^ 18
IsShort (of_relationship row) = row.id < 10 ^ 18
IsShort (of_concrete row) = row.id < 10 ^ 18
IsShort (of_member row) = ⊤

-- if the row is one of a member, its UUID was met
abbrev pub IsMet : List ℕ → RowText → Type 0
IsMet uuids (of_member row) = list_any (nat_eq (member_number row)) uuids ≡ true
IsMet uuids (of_concept row) = ⊤
IsMet uuids (of_description row) = ⊤
IsMet uuids (of_relationship row) = ⊤
IsMet uuids (of_concrete row) = ⊤
