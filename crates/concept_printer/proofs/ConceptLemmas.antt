-- Lemmas on concepts in force and their names.
use Rattle.std.proofs.Common.{◌≡◌, ◌∙◌, ℕ, ◌<◌, ◌==◌, Bool, true, false, cond, List, [], ◌∷◌, ◌++◌, None, Some, decimal}
use Rattle.std.proofs.Common.{length, get_or, append-nil, codes, is_some, sym, subst, ap}
use Rattle.std.proofs.lemmas.Bool.{eqb-true}
use Rattle.std.proofs.lemmas.List.Elements.{Contains-get_or}
use Rattle.std.proofs.lemmas.List.Quantifiers.{position-Some}
use Rattle.number_lists.specs.Members.{has}
use Rattle.number_lists.proofs.MemberLemmas.{had_contained}
use Rattle.held_release.specs.Contents.{Contents}
use Rattle.held_release.specs.Line.{concept_line, name_text}
use Rattle.held_release.specs.Name.{name_of}
use Rattle.held_release.specs.Numbering.{concept_number}
use Rattle.held_release.proofs.NumberingLemmas.{number_has}
use Rattle.concept_printer.specs.ConceptText.{concept_text, concept_words, identifier_line, name_in_force, told_of}

-- if `concepts` numbers the identifier `id` with `number`, then `number` is below the count of concepts, and the
-- concept with that number has the identifier `id`
pub number_told : (concepts : List ℕ) (id number : ℕ) → concept_number concepts id ≡ Some number
    → (number < length concepts) × (get_or concepts number 0 ≡ id)
number_told concepts id number is =
    let found = position-Some (λ other. id == other) concepts number 0 is in
    (found.0, sym (eqb-true id (get_or concepts number 0) found.1))

-- for a number below the count of concepts, the concept with that number is in force
pub in_force : (concepts : List ℕ) (number : ℕ) → number < length concepts
    → has concepts (get_or concepts number 0) ≡ true
in_force concepts number below =
    had_contained concepts (get_or concepts number 0) (Contains-get_or concepts number 0 below)

-- for a number below the count of concepts, `name_in_force` of its concept is the name that the release gives it
pub name_by_number : (contents : Contents) (number : ℕ) → number < length contents.release.concepts
    → name_in_force contents (get_or contents.release.concepts number 0)
    ≡ name_of contents.release contents.language (get_or contents.release.concepts number 0)
name_by_number contents number below =
    λ i. cond (in_force contents.release.concepts number below i)
    (name_of contents.release contents.language (get_or contents.release.concepts number 0)) None

-- for a number below the count of concepts, the line of its concept has the name that the release gives it
pub line_by_number : (contents : Contents) (number : ℕ) → number < length contents.release.concepts
    → concept_line (name_in_force contents) (get_or contents.release.concepts number 0)
    ≡ concept_line (name_of contents.release contents.language) (get_or contents.release.concepts number 0)
line_by_number contents number below =
    ap (λ name. (decimal (get_or contents.release.concepts number 0) ++ name_text name) ++ 10 ∷ [])
    (name_by_number contents number below)

-- an identifier without a number is not in `concepts`
not_in_force : (concepts : List ℕ) (id : ℕ) → concept_number concepts id ≡ None → has concepts id ≡ false
not_in_force concepts id none = sym (number_has concepts id) ∙ ap is_some none

-- an identifier that has no number among the concepts is printed without a name
pub words_without : (contents : Contents) (id : ℕ) → concept_number contents.release.concepts id ≡ None
    → concept_words (name_in_force contents) id ≡ decimal id
words_without contents id none =
    (λ i. decimal id
    ++ name_text (cond (not_in_force contents.release.concepts id none i)
    (name_of contents.release contents.language id) None))
    ∙ append-nil (decimal id)

-- if the identifier `id` has a number, then `told_of` for `id` is the text of the concept with that number
pub told_in_force : (contents : Contents) (id number : ℕ) → concept_number contents.release.concepts id ≡ Some number
    → concept_text contents (get_or contents.release.concepts number 0) ≡ told_of contents id
told_in_force contents id number is =
    let told = number_told contents.release.concepts id number is in
    let among : has contents.release.concepts id ≡ true =
    subst (λ (id : ℕ). has contents.release.concepts id ≡ true) told.1
    (in_force contents.release.concepts number told.0) in
    ap (concept_text contents) told.1
    ∙ sym (λ i. cond (among i) (concept_text contents id)
    (cond (has contents.inactive id) (identifier_line (codes "INACTIVE") id) (identifier_line (codes "UNKNOWN") id)))

-- if the identifier `id` has no number, then `told_of` for `id` is the line `INACTIVE` or `UNKNOWN`, by whether it is
-- among the inactive concepts
pub told_otherwise : (contents : Contents) (id : ℕ) (inactive : Bool)
    → concept_number contents.release.concepts id ≡ None
    → has contents.inactive id ≡ inactive
    → cond inactive (identifier_line (codes "INACTIVE") id) (identifier_line (codes "UNKNOWN") id) ≡ told_of contents id
told_otherwise contents id inactive none is =
    sym ((λ i. cond (not_in_force contents.release.concepts id none i) (concept_text contents id)
    (cond (has contents.inactive id) (identifier_line (codes "INACTIVE") id) (identifier_line (codes "UNKNOWN") id)))
    ∙ (λ i. cond (is i) (identifier_line (codes "INACTIVE") id) (identifier_line (codes "UNKNOWN") id)))
