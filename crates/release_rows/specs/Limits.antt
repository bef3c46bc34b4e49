-- Limits of a load: how many rows of each kind it accepts, and how many bytes of a file.
use Rattle.std.specs.Prelude.{ℕ, ◌+◌, ◌-◌, if◌then◌else◌, min, max}
use Rattle.rf2_rows.specs.declared.kind.FileKind.{FileKind}
use Rattle.rf2_rows.specs.declared.kind.FileKind.TheVariants.{Concept, Concrete, Description, Member, Relationship}
use Rattle.release_rows.specs.Chosen.{same_kind}
use Rattle.release_rows.specs.declared.limits.Limits.{Limits}

-- the limits of a load if the caller gives none
abbrev pub standard_limits : Limits
standard_limits = record {
  concepts = 4000000;
  descriptions = 20000000;
  relationships = 20000000;
  concrete = 4000000;
  members = 20000000;
  bytes = 4294967295;
}

-- the limits that a load applies if the caller asks for `limits`: none is above the standard one,
-- and a byte order mark always fits
abbrev pub limits_in_force : Limits → Limits
limits_in_force limits = record {
  concepts = min limits.concepts standard_limits.concepts;
  descriptions = min limits.descriptions standard_limits.descriptions;
  relationships = min limits.relationships standard_limits.relationships;
  concrete = min limits.concrete standard_limits.concrete;
  members = min limits.members standard_limits.members;
  bytes = max (min limits.bytes standard_limits.bytes) 3;
}

-- how many rows of a kind all files of the kind together may have
abbrev pub row_limit : Limits → FileKind → ℕ
row_limit limits Concept = limits.concepts
row_limit limits Description = limits.descriptions
row_limit limits Relationship = limits.relationships
row_limit limits Concrete = limits.concrete
row_limit limits Member = limits.members

-- how many rows the files of all kinds together may have
abbrev pub row_total : Limits → ℕ
row_total limits = limits.concepts + limits.descriptions + limits.relationships + limits.concrete
    + limits.members

-- the limits that remain of `left` after one row of `kind`: the limit of this kind falls by 1,
-- unless it is 0
abbrev pub left_after : Limits → FileKind → Limits
left_after left kind =
    let one : FileKind → ℕ = λ other. if same_kind kind other then 1 else 0 in
    record left {
      concepts = left.concepts - one Concept;
      descriptions = left.descriptions - one Description;
      relationships = left.relationships - one Relationship;
      concrete = left.concrete - one Concrete;
      members = left.members - one Member;
    }
