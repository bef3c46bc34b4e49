-- The components of reference sets by the lists of the index.
use Rattle.std.specs.Prelude.{ℕ, ◌≡◌, ◌≤◌, ◌<◌, All, Bool, List, length}
use Rattle.std.specs.List.{list_any}
use Rattle.release_model.specs.Release.{Release}
use Rattle.number_lists.specs.Members.{has}
use Rattle.number_lists.specs.KeyedLists.{list_of}
use Rattle.postings.specs.Indexed.{members_of}
use Rattle.walks.specs.Components.{components_of}
use Rattle.walks.specs.Families.{items_in}

-- whether `number` is in the list of at least one of `refsets`
abbrev pub is_in_one_of : List (List ℕ) → List ℕ → ℕ → Bool
is_in_one_of lists refsets number = list_any (λ refset. has (list_of lists refset) number) refsets

-- the reference sets `refsets` have all components that the concepts `items` have
pub record HaveComponentsOf (release : Release) (items refsets : List ℕ) : Type 0 where
  -- they are numbers of concepts
  pub below : All (λ refset. refset < length release.concepts) refsets
  -- they have the components of `items`, and no others
  pub components : components_of release refsets ≡ components_of release items
  -- their lists have no more items than those of `items`
  pub few : items_in (members_of release) refsets ≤ items_in (members_of release) items
