-- The contents of a release that are made of the lists of its chosen rows.
use Rattle.std.specs.Prelude.{◌≡◌, ◌≢◌, ◌&&◌, ◌-◌, ℕ, List, filter, Option, Some, option_map, Result}
use Rattle.number_lists.specs.Members.{has}
use Rattle.release_model.specs.Release.{Attribute, Name, Release}
use Rattle.row_lists.specs.InForce.{listed_count, rows_among}
use Rattle.number_lists.specs.RisingOrder.{rising}
use Rattle.row_lists.specs.ReleaseLists.{ReleaseLists}
use Rattle.row_lists.specs.declared.fault.LoadFault.{LoadFault}
use Rattle.row_lists.specs.declared.fault.LoadFault.TheVariants.{Cycle, Memory}
use Rattle.held_release.specs.Contents.{Contents, least_cyclic, unless_cyclic}
use Rattle.held_release.specs.ValuesInForce.{is_value_among}

-- the fault names the concept of a cycle, or is want of memory; without such a concept it is want
-- of memory
abbrev pub IsCycle : LoadFault → Option ℕ → Type 0
IsCycle fault cyclic = fault ≢ Memory → option_map Cycle cyclic ≡ Some fault

-- the name rows whose concept is one of `concepts`
abbrev pub names_among : List ℕ → List Name → List Name
names_among concepts names = filter (λ (name : Name). has concepts name.concept) names

-- the attributes whose source is one of `concepts`, and whose value is one of them or no concept
abbrev pub attributes_among : List ℕ → List Attribute → List Attribute
attributes_among concepts attributes =
    filter (λ (attribute : Attribute). has concepts attribute.source
    && is_value_among concepts attribute.value) attributes

-- the release that the lists make: only concepts in force, and rows that name only these
abbrev pub release_from : ReleaseLists → Release
release_from listed =
    let concepts = rising listed.active_concepts in
    record {
      concepts = concepts;
      isa = rows_among concepts listed.isa_ends;
      attributes = attributes_among concepts listed.attributes;
      members = rows_among concepts listed.member_ends;
      names = names_among concepts listed.names;
    }

-- the contents that the lists make; `count` is the number of all rows
abbrev pub contents_from : List ℕ → ℕ → ℕ → ReleaseLists → Contents
contents_from language files count listed = record {
  release = release_from listed;
  inactive = rising listed.inactive_concepts;
  language = language;
  files = files;
  passed = count - listed_count (release_from listed);
}

-- the contents that the lists make, or the fault `Cycle` if a concept is its own descendant
abbrev pub finished : List ℕ → ℕ → ℕ → ReleaseLists → Result Contents LoadFault
finished language files count listed =
    unless_cyclic (contents_from language files count listed) (least_cyclic (release_from listed))
