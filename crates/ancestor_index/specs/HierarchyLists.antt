-- The hierarchy that the is-a rows of a release make (Release File Specification, |Is a|), as lists
-- of concept numbers: for each concept all its ancestors and descendants, its parents and its
-- children.
use Rattle.std.specs.Prelude.{ℕ, ◌==◌, ◌&&◌, Bool, List, length, map, slice_index}
use Rattle.std.specs.List.{list_any, range_with_len}
use Rattle.hierarchy.specs.Hierarchy.{reaches}
use Rattle.release_model.specs.Release.{Release}
use Rattle.number_lists.specs.Rising.{numbers_where}

-- for each concept below `count` the numbers below `count` that `test` relates it to, in rising
-- order and once each
abbrev pub lists_where : ℕ → (ℕ → ℕ → Bool) → List (List ℕ)
lists_where count test =
    map (λ concept. numbers_where count (test concept)) (range_with_len 0 count)

-- whether there is an is-a row from `child` to `parent`
abbrev pub is_child : List (ℕ × ℕ) → ℕ → ℕ → Bool
is_child isa child parent = list_any (λ row. (row.0 == child) && (row.1 == parent)) isa

-- the hierarchy as four lists of lists, each with a list for every concept number
pub record Hierarchy : Type 0 where
  -- for each concept its ancestors: the concepts that it reaches
  pub ancestors : List (List ℕ)
  -- for each concept its descendants: the concepts that reach it
  pub descendants : List (List ℕ)
  -- for each concept its parents: the concepts that an is-a row leads to from it
  pub parents : List (List ℕ)
  -- for each concept its children: the concepts from which an is-a row leads to it
  pub children : List (List ℕ)

-- the hierarchy of a release, with concepts as numbers
abbrev pub hierarchy_of : Release → Hierarchy
hierarchy_of release =
    let count = length release.concepts in
    let id : ℕ → ℕ = slice_index release.concepts in
    record {
      ancestors = lists_where count (λ concept other. reaches release.isa (id concept) (id other));
      descendants = lists_where count
          (λ concept other. reaches release.isa (id other) (id concept));
      parents = lists_where count (λ concept other. is_child release.isa (id concept) (id other));
      children = lists_where count (λ concept other. is_child release.isa (id other) (id concept));
    }
