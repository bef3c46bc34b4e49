-- The invariant of a concept that is kept with the text of its identifier.
use Rattle.std.specs.Prelude.{◌≡◌, None, IfSome}
use Rattle.rf2_rows.specs.Columns.{cause_of, id_format}
use Rattle.numerals.specs.Numbers.{number_of}
use Rattle.rf2_rows.specs.declared.recent.ReadConcept.TheInside.{Inside}
use Rattle.sctid.specs.declared.Part.TheVariants.{Concept}

-- if a concept is kept, the kept text is accepted as the identifier of a concept, namely of this
-- one
abbrev pub IsOfText : Inside → Type 0
IsOfText read =
    IfSome read.concept (λ concept. (cause_of (id_format Concept) read.text.items ≡ None)
    × (concept ≡ number_of read.text.items))
