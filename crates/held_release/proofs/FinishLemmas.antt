-- The result of `finished`, from the lists of the chosen rows.
use Rattle.std.proofs.lemmas.Bool.Decides.{nat_tests}
use Rattle.std.proofs.lemmas.Grind.{common_steps}
use Rattle.std.proofs.Common.{ℕ, ◌≡◌, ◌≤◌, ◌+◌, ◌-◌, All, List, [], ◌∷◌, length, map, None}
use Rattle.std.proofs.Common.{Ok, arith, true, cond, filter_map}
use Rattle.std.proofs.lemmas.List.{length-map}
use Rattle.std.proofs.lemmas.Bool.{and_parts}
use Rattle.std.proofs.lemmas.List.Elements.{All-weaker, filter_passes}
use Rattle.std.proofs.lemmas.List.Sums.{length-filter, count_by-le-length}
use Rattle.std.specs.List.Sorted.{IsStrictlyIncreasing}
use Rattle.held_release.specs.inside.LeastCycle.{IsLeastCycle}
use Rattle.release_model.specs.Release.{Attribute, Name}
use Rattle.held_release.specs.Contents.{Contents, IsFaultOf, first_cyclic}
use Rattle.row_lists.specs.InForce.{rows_among}
use Rattle.number_lists.specs.RisingOrder.{put, rising}
use Rattle.held_release.specs.Finished.{IsCycle, attributes_among, finished, names_among}
use Rattle.held_release.specs.ValuesInForce.{is_value_among}
use Rattle.row_lists.specs.ReleaseLists.{ReleaseLists}
use Rattle.held_release.specs.Numbering.{numbered_row, row_of_numbers}
use Rattle.row_lists.specs.declared.fault.LoadFault.{LoadFault}
use Rattle.held_release.proofs.NumberingLemmas.{first_cyclic-Some, rows_of_numbers}

-- `put` makes a list longer by one item at most
length-put : (id : ℕ) (xs : List ℕ) → length (put id xs) ≤ length xs + 1
length-put id [] = omega arith
length-put id (x ∷ xs) = grind (arith, put, cond, (length-put id xs))

-- a list does not grow when it is brought into rising order
pub length-rising : (xs : List ℕ) → length (rising xs) ≤ length xs
length-rising [] = omega arith
length-rising (x ∷ xs) = omega (arith, length-put x (rising xs), length-rising xs)

-- the contents that numbered concepts and rows stand for
abbrev contents_by_number : List ℕ → ℕ → List ℕ → List ℕ → List (ℕ × ℕ) → List Attribute → List (ℕ × ℕ) → List Name → ℕ
    → Contents
contents_by_number language files concepts inactive isa attributes members names passed = record {
  release = record {
    concepts = concepts;
    isa = map (row_of_numbers concepts) isa;
    attributes = attributes;
    members = map (row_of_numbers concepts) members;
    names = names;
  };
  inactive = inactive;
  language = language;
  files = files;
  passed = passed;
}

-- if no concept is its own descendant, `finished` is `Ok` of the contents that the concepts, the numbered rows and the
-- other lists mean
pub finished-Ok : (language : List ℕ) (files count : ℕ) (listed : ReleaseLists) (concepts inactive : List ℕ)
    (isa : List (ℕ × ℕ)) (attributes : List Attribute) (members : List (ℕ × ℕ)) (names : List Name) (passed : ℕ)
    → concepts ≡ rising listed.active_concepts → inactive ≡ rising listed.inactive_concepts
    → isa ≡ filter_map (numbered_row concepts) listed.isa_ends
    → attributes ≡ attributes_among concepts listed.attributes
    → members ≡ filter_map (numbered_row concepts) listed.member_ends
    → names ≡ names_among concepts listed.names
    → first_cyclic concepts (rows_among concepts listed.isa_ends) ≡ None
    → passed ≡ count - (length concepts + length isa + length attributes + length members + length names)
    → finished language files count listed
    ≡ Ok (contents_by_number language files concepts inactive isa attributes members names passed)
finished-Ok language files count listed concepts inactive isa attributes members names passed rises inactive_rise isa_is
    attributes_are members_are named acyclic counted = grind (arith, rows_of_numbers, length-map)

-- if a fault names the first concept that is its own descendant, or is want of memory, it is the fault of `finished`
-- (`IsFaultOf`)
pub finished-Err : (language : List ℕ) (files count : ℕ) (listed : ReleaseLists) (concepts : List ℕ) (fault : LoadFault)
    → concepts ≡ rising listed.active_concepts
    → IsCycle fault (first_cyclic concepts (rows_among concepts listed.isa_ends))
    → IsFaultOf fault (finished language files count listed)
finished-Err language files count listed concepts fault rises cycle other = grind (arith, common_steps, nat_tests)

-- `names_among` keeps at most as many names as there are
pub length-names_among : (concepts : List ℕ) (names : List Name) → length (names_among concepts names) ≤ length names
length-names_among concepts names = grind (arith, common_steps, nat_tests, count_by-le-length, length-filter)

-- `attributes_among` keeps only attributes whose value is one of `concepts` or no concept
pub attributes_among-values : (concepts : List ℕ) (attributes : List Attribute)
    → All (λ (row : Attribute). is_value_among concepts row.value ≡ true) (attributes_among concepts attributes)
attributes_among-values concepts attributes =
    grind (arith, common_steps, nat_tests, All-weaker, and_parts, filter_passes)

-- a fault that names the least concept that is its own descendant by numbered rows names the first concept that is its
-- own descendant by the rows of identifiers
pub least_cycle : (fault : LoadFault) (concepts : List ℕ) → IsStrictlyIncreasing concepts → (ends : List (ℕ × ℕ))
    → IsLeastCycle fault concepts (filter_map (numbered_row concepts) ends)
    → IsCycle fault (first_cyclic concepts (rows_among concepts ends))
least_cycle fault concepts ends h0 h1 h2 =
    grind (arith, common_steps, nat_tests, common_steps, first_cyclic-Some, nat_tests)
