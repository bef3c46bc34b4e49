-- The attributes that the fields of an `Attributes` hold, and the invariant of these fields.
use Rattle.std.specs.Prelude.{List, map, All}
use Rattle.release_model.specs.Release.{Attribute}
use Rattle.row_lists.specs.KeptRows.{IsKeptIn, attribute_kept}
use Rattle.row_lists.specs.declared.attributes.Attributes.TheInside.{Inside}

-- the attributes that `inside` holds
abbrev pub attributes_in : Inside → List Attribute
attributes_in inside = map (attribute_kept inside.concrete) inside.rows.items

-- the value of each stored row, if it is not a concept, has an index within the list of concrete
-- values
abbrev pub AreAttributesPlaced : Inside → Type 0
AreAttributesPlaced inside = All (IsKeptIn inside.concrete) inside.rows.items
