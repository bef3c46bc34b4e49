-- The value that the fields of `Fields` encode, and the invariant that they keep.
use Rattle.std.specs.Prelude.{ℕ, ◌≤◌, List}
use Rattle.rf2_rows.specs.declared.tabs.Fields.TheInside.{Inside}
use Rattle.rf2_rows.specs.inside.Starts.{AreStarts, fields_at}

-- the texts of the fields
abbrev pub texts_in : Inside → List (List ℕ)
texts_in inside = fields_at inside.line.now inside.starts inside.count

-- there are at most 10 fields, and each lies in the line
abbrev pub AreWithin : Inside → Type 0
AreWithin inside = (inside.count ≤ 10) × AreStarts inside.line.now inside.starts inside.count
