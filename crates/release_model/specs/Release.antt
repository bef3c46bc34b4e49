-- A release as the engine sees it: five lists of rows in force. The definitions of the crate
-- `row_lists` say which rows are in force.
use Rattle.std.specs.Prelude.{ℕ, ℤ, List}

-- the value of an attribute: a concept, a number in units of 10^-18, or another text
pub data Value : Type 0 where
  concept_value : ℕ → Value
  number_value : ℤ → Value
  text_value : List ℕ → Value

-- an attribute row of a concept
pub record Attribute : Type 0 where
  -- the concept that has the attribute
  pub source : ℕ
  -- the type of the attribute
  pub type_id : ℕ
  -- the relationship group, 0 for none
  pub group : ℕ
  -- the value of the attribute
  pub value : Value

-- a fully specified name of a concept, in a language
pub record Name : Type 0 where
  -- the identifier of the description
  pub id : ℕ
  -- the concept that has the name
  pub concept : ℕ
  -- the language code
  pub language : List ℕ
  -- the term in UTF-8
  pub term : List ℕ

-- a release: five lists of rows in force. All lists but the concepts are in the order of the files
-- and their lines
pub record Release : Type 0 where
  -- the identifiers of the concepts in force, rising
  pub concepts : List ℕ
  -- the is-a rows in force, each a child and its parent
  pub isa : List (ℕ × ℕ)
  -- the attribute rows in force
  pub attributes : List Attribute
  -- the member rows in force, each a reference set and its component
  pub members : List (ℕ × ℕ)
  -- the fully specified names in force
  pub names : List Name
