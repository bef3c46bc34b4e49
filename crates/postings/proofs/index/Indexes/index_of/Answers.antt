use Rattle.std.proofs.Common.{ℕ, ◌∙◌, ◌<◌, ◌^◌, List, length, ap, subst, sym}
use Rattle.std.specs.List.Sorted.{IsStrictlyIncreasing}
use Rattle.held_release.specs.Numbering.{concept_number}
use Rattle.postings.specs.Indexed.{Indexed}
use Rattle.postings.proofs.index.Indexes.index_of.Goals as goal

-- the identifiers of the concepts rise
pub number_of-requires-clause-rising : goal.number_of-requires-clause-rising
number_of-requires-clause-rising c =
    subst (λ (ids : List ℕ). IsStrictlyIncreasing ids) (sym c.as_slice.ensures.value) c.self.invariant.rising

-- there are less than 2^31 concepts
pub number_of-requires-clause-few : goal.number_of-requires-clause-few
number_of-requires-clause-few c =
    subst (λ (ids : List ℕ). length ids < 2 ^ 31) (sym c.as_slice.ensures.value) c.self.invariant.few

-- `index_of` returns the number of the concept with the identifier
pub returns : goal.returns
returns c =
    c.number_of.ensures
    ∙ ap (λ (ids : List ℕ). concept_number ids c.args.id) c.as_slice.ensures.value
    ∙ ap (λ (indexed : Indexed). concept_number indexed.concepts c.args.id) c.self.view_is
