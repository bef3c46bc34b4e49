-- The rows in none of a release's lists are as many as all rows less those in its lists.
use Rattle.std.proofs.lemmas.Bool.Decides.{nat_tests}
use Rattle.std.proofs.lemmas.Grind.{common_steps}
use Rattle.std.proofs.Common.{ℕ, suc, ◌≡◌, ◌+◌, ◌&&◌, ◌==◌, List, [], ◌∷◌, ◌++◌, length, map, refl, arith, Bool, false}
use Rattle.std.proofs.Common.{not, nat_eq, filter, count_by}
use Rattle.std.specs.List.{AllByRecursion, IsDistinct}
use Rattle.std.proofs.lemmas.List.{length-map}
use Rattle.std.proofs.lemmas.List.Sums.{sum_by-append}
use Rattle.release_model.specs.Release.{Attribute}
use Rattle.rf2_rows.specs.RowTexts.{RowText, of_concept, of_concrete, of_description, of_member, of_relationship}
use Rattle.rf2_rows.specs.Rows.{ConcreteText}
use Rattle.rf2_rows.specs.declared.row.ConceptRow.{ConceptRow}
use Rattle.rf2_rows.specs.declared.row.RelationshipRow.{RelationshipRow}
use Rattle.row_lists.specs.Marked.{marked}
use Rattle.release_rows.specs.Chosen.{choices}
use Rattle.release_rows.specs.Files.{RowAt}
use Rattle.number_lists.specs.Members.{has}
use Rattle.row_lists.specs.InForce.{attributes_in_force, concept_rows, concrete_rows, description_rows}
use Rattle.row_lists.specs.InForce.{is_concrete_in_force, is_in_force, listed_count, member_rows, relationship_rows}
use Rattle.row_lists.specs.InForce.{release_of}
use Rattle.number_lists.specs.RisingOrder.{put, rising}
use Rattle.row_lists.specs.Metadata.{is_a}
use Rattle.snapshot.specs.Passed.{CountsPassedRows, failing, passed_texts}
use Rattle.release_rows.proofs.ApartLemmas.{active-distinct}
use Rattle.snapshot.proofs.LoadLemmas.{concepts-listed}
use Rattle.number_lists.proofs.RisingOrderLemmas.{has-rising}

-- the rows that pass a test and those that fail it are together all rows
split : {Row : Type 0} (test : Row → Bool) (rows : List Row)
    → length (filter test rows) + failing test rows ≡ length rows
split test [] = refl
split test (row ∷ rows) = grind (arith, common_steps, nat_tests, (split test rows))

-- putting a new number into a rising list makes it longer by one
length-put : (id : ℕ) (xs : List ℕ) → has xs id ≡ false → length (put id xs) ≡ suc (length xs)
length-put id [] new = refl
length-put id (x ∷ xs) new = grind (arith, nat_tests, length-put id xs, new)

-- a list does not contain a number that differs from each of its numbers
not_among : (x : ℕ) (xs : List ℕ) → AllByRecursion (λ y. nat_eq x y ≡ false) xs → has xs x ≡ false
not_among x [] apart = refl
not_among x (y ∷ ys) apart = grind (arith, nat_tests, apart.0, (not_among x ys apart.1))

-- if each number occurs once, putting the numbers in rising order keeps their count
length-rising : (xs : List ℕ) → IsDistinct nat_eq xs → length (rising xs) ≡ length xs
unfolding IsDistinct
length-rising [] apart = refl
length-rising (x ∷ xs) apart =
    grind (arith, common_steps, nat_tests, has-rising, length-put, not_among, (length-rising xs apart.1))

-- how many relationship rows are is-a rows
abbrev isa_count : List ℕ → List RelationshipRow → ℕ
isa_count concepts rows =
    length (filter (λ (row : RelationshipRow). is_in_force concepts row && (row.type_id == is_a)) rows)

abbrev is_listed : List ℕ → ConcreteText → Bool
is_listed concepts row = is_concrete_in_force concepts row && not (row.type_id == is_a)

-- the rows of relationships and of concrete values are together the attribute rows, the is-a rows, and those that a
-- load passes over
abbrev IsCounted : List ℕ → List Attribute → List RelationshipRow → List ConcreteText → Type 0
IsCounted concepts attributes relationships concretes =
    length attributes + isa_count concepts relationships + failing (is_in_force concepts) relationships
    + failing (is_listed concepts) concretes
    ≡ length relationships + length concretes

counts_relationships : (concepts : List ℕ) (rows : List RowText)
    → IsCounted concepts (attributes_in_force concepts rows) (relationship_rows rows) (concrete_rows rows)
counts_relationships concepts [] = omega arith
counts_relationships concepts (of_concept row ∷ rows) = counts_relationships concepts rows
counts_relationships concepts (of_description row ∷ rows) = counts_relationships concepts rows
counts_relationships concepts (of_relationship row ∷ rows) =
    grind (arith, nat_tests, counts_relationships concepts rows)
counts_relationships concepts (of_concrete row ∷ rows) = grind (arith, nat_tests, counts_relationships concepts rows)
counts_relationships concepts (of_member row ∷ rows) = counts_relationships concepts rows

-- the rows of the five kinds are together all rows
all_kinds : (rows : List RowText)
    → length (concept_rows rows) + length (description_rows rows) + length (relationship_rows rows)
    + length (concrete_rows rows) + length (member_rows rows) ≡ length rows
all_kinds [] = refl
all_kinds (of_concept row ∷ rows) = omega (arith, all_kinds rows)
all_kinds (of_description row ∷ rows) = omega (arith, all_kinds rows)
all_kinds (of_relationship row ∷ rows) = omega (arith, all_kinds rows)
all_kinds (of_concrete row ∷ rows) = omega (arith, all_kinds rows)
all_kinds (of_member row ∷ rows) = omega (arith, all_kinds rows)

-- the chosen rows and those that are not chosen are together all rows
choices_split : (rows earlier later : List RowAt)
    → length (marked (choices rows earlier later) later) + count_by not (choices rows earlier later) ≡ length later
choices_split rows earlier [] = refl
choices_split rows earlier (row ∷ later) =
    grind (arith, common_steps, nat_tests, sum_by-append, (choices_split rows (earlier ++ row ∷ []) later))

-- if no two active concepts have one identifier, each row is listed or passed over
listed_or_passed : (rows : List RowText)
    → IsDistinct nat_eq (map (λ (row : ConceptRow). row.id)
    (filter (λ (row : ConceptRow). row.active) (concept_rows rows)))
    → listed_count (release_of rows) + passed_texts rows ≡ length rows
listed_or_passed rows apart =
    grind (arith, common_steps, nat_tests, all_kinds, counts_relationships, length-map, length-rising, split)

-- if places have no fault, the number of rows that the contents report as passed over is the number of rows in none of
-- the lists
pub counts_passed_rows : CountsPassedRows
counts_passed_rows limits language files places clean =
    grind (
      arith,
      common_steps,
      nat_tests,
      active-distinct,
      choices_split,
      concepts-listed,
      length-map,
      listed_or_passed,
      nat_eq,
    )
