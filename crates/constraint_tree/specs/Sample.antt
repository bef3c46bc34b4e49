-- A small release on which the definitions are shown. All its rows are in force.
use Rattle.std.specs.Prelude.{ℕ, pos, List, [], ◌∷◌, codes}
use Rattle.release_model.specs.Release.{Release, Attribute, Name, Value, concept_value, number_value}

-- Alpha, a finding. The concepts of the sample are Alpha and three findings below it, of which
-- Delta lies below both Beta and Gamma; two types of attribute; two values, of which Y lies below
-- X; a reference set; and the root
abbrev pub alpha : ℕ
alpha = 100005

-- Beta, a finding below Alpha
abbrev pub beta : ℕ
beta = 101009

-- Gamma, a finding below Alpha
abbrev pub gamma : ℕ
gamma = 102002

-- Delta, a finding below Beta and Gamma
abbrev pub delta : ℕ
delta = 103007

-- Type T, an attribute
abbrev pub type_t : ℕ
type_t = 104001

-- Type U, an attribute
abbrev pub type_u : ℕ
type_u = 105000

-- Value X
abbrev pub value_x : ℕ
value_x = 106004

-- Value Y, a child of Value X
abbrev pub value_y : ℕ
value_y = 107008

-- the reference set, which has the members Beta and Delta
abbrev pub reference_set : ℕ
reference_set = 108003

-- the root concept
abbrev pub root : ℕ
root = 138875005

-- the concepts in force, in rising order
abbrev pub sample_concepts : List ℕ
sample_concepts =
    alpha ∷ beta ∷ gamma ∷ delta ∷ type_t ∷ type_u ∷ value_x ∷ value_y ∷ reference_set ∷ root ∷ []

-- the is-a rows, each as child and parent
abbrev pub sample_isa : List (ℕ × ℕ)
sample_isa =
    (alpha, root)
    ∷ (value_x, root)
    ∷ (type_t, root)
    ∷ (type_u, root)
    ∷ (reference_set, root)
    ∷ (beta, alpha)
    ∷ (gamma, alpha)
    ∷ (delta, beta)
    ∷ (delta, gamma)
    ∷ (value_y, value_x)
    ∷ []

-- the attribute row with this source, type, value and group number
abbrev pub attribute_row : ℕ → ℕ → Value → ℕ → Attribute
attribute_row source type_id value group =
    record { source = source; type_id = type_id; group = group; value = value }

-- the attribute rows
abbrev pub sample_attributes : List Attribute
sample_attributes =
    attribute_row gamma type_u (number_value (pos 2500000000000000000)) 0
    ∷ attribute_row delta type_u (number_value (pos 3000000000000000000)) 1
    ∷ attribute_row beta type_t (concept_value value_x) 1
    ∷ attribute_row beta type_u (concept_value value_y) 1
    ∷ attribute_row gamma type_t (concept_value value_x) 1
    ∷ attribute_row gamma type_u (concept_value value_y) 2
    ∷ attribute_row delta type_t (concept_value value_y) 0
    ∷ attribute_row delta type_u (concept_value value_y) 0
    ∷ attribute_row delta type_u (concept_value value_y) 2
    ∷ []

-- the English description with this identifier, concept and term
abbrev pub english_name : ℕ → ℕ → List ℕ → Name
english_name id concept term =
    record { id = id; concept = concept; language = codes "en"; term = term }

-- the descriptions: English names, and a Danish one of Delta
abbrev pub sample_names : List Name
sample_names =
    english_name 101013 alpha (codes "Alpha (finding)")
    ∷ english_name 102018 beta (codes "Beta (finding)")
    ∷ english_name 103011 gamma (codes "Gamma (finding)")
    ∷ english_name 104017 delta (codes "Delta (finding)")
    ∷ english_name 105016 type_t (codes "Type T (attribute)")
    ∷ english_name 106015 type_u (codes "Type U (attribute)")
    ∷ english_name 107012 value_x (codes "Value X (value)")
    ∷ english_name 108019 value_y (codes "Value Y (value)")
    ∷ english_name 109010 root (codes "Root (test)")
    ∷ record { id = 110017; concept = delta; language = codes "da"; term = codes "Delta (fund)" }
    ∷ []

-- the sample release
abbrev pub sample : Release
sample = record {
  concepts = sample_concepts;
  isa = sample_isa;
  attributes = sample_attributes;
  members = (reference_set, beta) ∷ (reference_set, delta) ∷ [];
  names = sample_names;
}
