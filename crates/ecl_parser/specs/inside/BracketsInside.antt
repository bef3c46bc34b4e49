-- The state that the fields of `Brackets` encode, and the invariant that they keep.
use Rattle.std.specs.Prelude.{◌<◌, All, length, reverse}
use Rattle.ecl_parser.specs.declared.brackets.Brackets.TheInside.{Inside}
use Rattle.ecl_parser.specs.declared.brackets.OpenBracket.{OpenBracket}
use Rattle.ecl_parser.specs.inside.Brackets.{Matching}

-- the state that the fields encode; the code keeps the innermost open bracket last
abbrev pub matching_in : Inside → Matching
matching_in inside = record {
  unclosed = reverse inside.unclosed.items;
  ends = inside.ends.items;
  are_matched = inside.are_matched;
}

-- the index of each open bracket is below the number of tokens
abbrev pub AreWithin : Inside → Type 0
AreWithin inside = All (λ (opened : OpenBracket). opened.place < length inside.ends.items)
    inside.unclosed.items
