-- The contents of the sample release.
use Rattle.std.specs.Prelude.{ℕ, List, [], ◌∷◌, codes}
use Rattle.constraint_tree.specs.Sample.{sample}
use Rattle.held_release.specs.Contents.{Contents}

-- the contents of the sample release, if English names are preferred. One concept is inactive, all
-- five files are read, and six of their rows are in none of the five lists
abbrev pub sample_contents : Contents
sample_contents = record {
  release = sample;
  inactive = 109006 ∷ [];
  language = codes "en";
  files = 5;
  passed = 6;
}

-- the names of the five files, in byte order
abbrev pub sample_names : List (List ℕ)
sample_names =
    codes "der2_Refset_SimpleSnapshot_INT_20240101.txt"
    ∷ codes "sct2_Concept_Snapshot_INT_20240101.txt"
    ∷ codes "sct2_Description_Snapshot-en_INT_20240101.txt"
    ∷ codes "sct2_RelationshipConcreteValues_Snapshot_INT_20240101.txt"
    ∷ codes "sct2_Relationship_Snapshot_INT_20240101.txt"
    ∷ []
