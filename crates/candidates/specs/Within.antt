-- Sets of concepts and of groups, by number, restricted to candidates.
use Rattle.std.specs.Prelude.{ℕ, ◌≡◌, ◌&&◌, Bool, true, if◌then◌else◌, List, Option, None, Some, length, slice_get}
use Rattle.std.specs.Prelude.{slice_index}
use Rattle.release_model.specs.Pairs.{Pair}
use Rattle.release_model.specs.Release.{Release}
use Rattle.number_lists.specs.Members.{has}
use Rattle.number_lists.specs.Rising.{numbers_where}
use Rattle.idset.specs.declared.concept_set.ConceptSet.{Ghosts}
use Rattle.postings.specs.Groups.{all_groups}
use Rattle.postings.specs.Indexed.{Indexed}
use Rattle.candidates.specs.Extents.{IsStatsOf, IsGroupStatsOf}
use Rattle.candidates.specs.Groups.{some_group_in}
use Rattle.candidates.specs.declared.candidates.Candidates.{Candidates}
use Rattle.candidates.specs.declared.candidates.CandidateStats.{CandidateStats}
use Rattle.candidates.specs.declared.candidates.Candidates.TheVariants as candidates

-- whether `number` is a candidate
abbrev pub may_be : {S : Type 0} → (S → List ℕ) → Candidates S → ℕ → Bool
may_be items_of candidates.All number = true
may_be items_of (candidates.Within set stats) number = has (items_of set.now) number

-- the set of candidates has the bound `count`; true if every number is a candidate
abbrev pub AreBelow : {S : Type 0} → (S → ℕ) → ℕ → Candidates S → Type 0
AreBelow bound_of count candidates.All = Unit {0}
AreBelow bound_of count (candidates.Within set stats) = bound_of set.now ≡ count

-- the statistics of the candidates; `None` if every number is a candidate. If `back`, their `rows`
-- counts the rows that have a candidate as their value
abbrev pub stats_told : {S : Type 0} → Bool → Candidates S → Option CandidateStats
stats_told back candidates.All = None
stats_told back (candidates.Within set stats) =
    Some (if back then record stats { rows = stats.back_rows } else stats)

-- the statistics of the candidates fulfil `IsStats` for the set of candidates; true if every number
-- is a candidate
abbrev pub HaveStats : {S : Type 0} → (S → List ℕ) → (List ℕ → CandidateStats → Type 0)
    → Candidates S → Type 0
HaveStats items_of IsStats candidates.All = Unit {0}
HaveStats items_of IsStats (candidates.Within set stats) = IsStats (items_of set.now) stats

-- the candidates are concepts of `release`, and their statistics are upper limits for them
pub record AreConcepts {S : Type 0} (sets : Ghosts S) (release : Release) (indexed : Indexed)
    (candidates : Candidates S) : Type 0 where
  -- the set of candidates has the number of concepts as its bound
  pub below : AreBelow sets.bound_of (length release.concepts) candidates
  -- the statistics of the candidates give upper limits for these concepts
  pub stats : HaveStats sets.items_of (IsStatsOf indexed) candidates

-- the candidates are groups of `release`, and their statistics are upper limits for them
pub record AreGroups {S : Type 0} (sets : Ghosts S) (release : Release) (indexed : Indexed)
    (candidates : Candidates S) : Type 0 where
  -- the set of candidates has the number of groups as its bound
  pub below : AreBelow sets.bound_of (length (all_groups release)) candidates
  -- the statistics of the candidates give upper limits for these groups
  pub stats : HaveStats sets.items_of (IsGroupStatsOf indexed) candidates

-- the numbers, in rising order, of the concepts that are candidates (`may`) and whose identifiers
-- pass the test `set`
abbrev pub numbers_within : Release → (ℕ → Bool) → (ℕ → Bool) → List ℕ
numbers_within release may set =
    numbers_where (length release.concepts)
    (λ number. may number && set (slice_index release.concepts number))

-- the numbers, in rising order, of the groups that are candidates (`may`) and whose pairs pass the
-- test `set`
abbrev pub groups_within : Release → (ℕ → Bool) → (List Pair → Bool) → List ℕ
groups_within release may set =
    numbers_where (length (all_groups release))
    (λ number. may number && some_group_in release set (slice_get (all_groups release) number))
