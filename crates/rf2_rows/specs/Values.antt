-- Concrete values (Release File Specification, "Relationship concrete values file"): a number
-- stands after `#`, and every other text is a value itself.
use Rattle.std.specs.Prelude.{ℕ, pos, nat_eq, Bool, if◌then◌else◌, List, drop, codes, Option, None, Some, is_some}
use Rattle.std.specs.Prelude.{unwrap_or}
use Rattle.std.specs.List.{starts_with}
use Rattle.std.specs.Str.{is_utf8}
use Rattle.numerals.specs.Decimals.{decimal_of}
use Rattle.rf2_rows.specs.declared.fault.RowCause.{RowCause}
use Rattle.rf2_rows.specs.declared.fault.RowCause.TheVariants.{Value as NoNumber, Utf8}
use Rattle.release_model.specs.Release.{Value, number_value, text_value}

-- whether a text begins with `#`, so that a number must follow
abbrev pub begins_with_hash : List ℕ → Bool
begins_with_hash text = starts_with nat_eq text (codes "#")

-- the cause for which a text is not accepted as a concrete value, or none
abbrev pub value_cause : List ℕ → Option RowCause
value_cause text =
    if begins_with_hash text
    then (if is_some (decimal_of (drop 1 text)) then None else Some NoNumber)
    else if is_utf8 text then None
    else Some Utf8

-- the value of a text that is accepted as a concrete value
abbrev pub value_of : List ℕ → Value
value_of text =
    if begins_with_hash text then number_value (unwrap_or (decimal_of (drop 1 text)) (pos 0))
    else text_value text
