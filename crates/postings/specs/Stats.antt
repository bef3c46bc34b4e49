-- The six counts of a release, and of its indexes.
use Rattle.std.specs.Prelude.{ℕ, Bool, List, filter, flat_map, length, map}
use Rattle.std.specs.List.{concat}
use Rattle.release_model.specs.Groups.{groups_of}
use Rattle.release_model.specs.Release.{Release}
use Rattle.hierarchy.specs.Hierarchy.{reaches}
use Rattle.held_release.specs.AttributesBySource.{attributes_by_source}
use Rattle.ancestor_index.specs.HierarchyLists.{is_child}
use Rattle.postings.specs.Groups.{groups_in}
use Rattle.postings.specs.Indexed.{Indexed, rows_by_type}
use Rattle.postings.specs.declared.stats.Stats.{Stats}

-- the pairs of two concepts of `concepts` that pass `test`, each once
abbrev pub pairs_where : List ℕ → (ℕ → ℕ → Bool) → List (ℕ × ℕ)
pairs_where concepts test =
    flat_map (λ concept. map (λ other. (concept, other)) (filter (test concept) concepts)) concepts

-- the counts of a release: its concepts; its attribute rows; the groups of its concepts; its pairs
-- of a concept and an ancestor; of a concept and a parent; and of a reference set and a component
abbrev pub stats_of : Release → Stats
stats_of release = record {
  n = length release.concepts;
  a = length (attributes_by_source release);
  g = length (flat_map (groups_of release) release.concepts);
  r = length (pairs_where release.concepts (reaches release.isa));
  l = length (pairs_where release.concepts (is_child release.isa));
  m = length (pairs_where release.concepts (is_child release.members));
}

-- the counts of the indexes, taken from their lists
abbrev pub stats_in : Indexed → Stats
stats_in indexed = record {
  n = length indexed.concepts;
  a = length indexed.rows;
  g = length (groups_in indexed);
  r = length (concat indexed.hierarchy.ancestors);
  l = length (concat indexed.hierarchy.parents);
  m = length (concat indexed.members);
}

-- how many rows have the type `id`
abbrev pub type_row_count : Indexed → ℕ → ℕ
type_row_count indexed id = length (rows_by_type indexed id)
