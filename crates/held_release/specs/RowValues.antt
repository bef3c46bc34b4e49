-- The values of attribute rows that are not concepts: decimals, in units of 10^-18, and other
-- texts.
use Rattle.std.specs.Prelude.{ℕ, ℤ, ◌↔◌, List, [], ◌∷◌, Contains}
use Rattle.std.specs.Cmp.Lexicographic.{slice_cmp}
use Rattle.std.specs.List.{flat_map}
use Rattle.std.specs.List.Sorted.{IsStrictlySortedBy}
use Rattle.std.specs.Ordering.{int_cmp, nat_cmp}
use Rattle.std.specs.declared.cmp.Ordering.{Ordering}
use Rattle.row_lists.specs.ConcreteValues.{Concrete, a_number, a_text}
use Rattle.release_model.specs.Release.{Attribute, Value, concept_value, number_value, text_value}

-- a list of the decimal that a value is, or the empty list if it is not a decimal
abbrev pub decimals_at : Value → List ℤ
decimals_at (concept_value concept) = []
decimals_at (number_value decimal) = decimal ∷ []
decimals_at (text_value text) = []

-- a list of the text that a value is, or the empty list if it is not a text
abbrev pub texts_at : Value → List (List ℕ)
texts_at (concept_value concept) = []
texts_at (number_value decimal) = []
texts_at (text_value text) = text ∷ []

-- the decimals among the values of `rows`, row by row
abbrev pub decimals_of : List Attribute → List ℤ
decimals_of rows = flat_map (λ (row : Attribute). decimals_at row.value) rows

-- the texts among the values of `rows`, row by row
abbrev pub texts_of : List Attribute → List (List ℕ)
texts_of rows = flat_map (λ (row : Attribute). texts_at row.value) rows

-- the order of texts by their bytes
abbrev pub text_cmp : List ℕ → List ℕ → Ordering
text_cmp = slice_cmp nat_cmp

-- `decimals` and `texts` rise strictly, so each item is there once
pub record AreTables (decimals : List ℤ) (texts : List (List ℕ)) : Type 0 where
  -- the decimals rise strictly
  pub decimals_rise : IsStrictlySortedBy int_cmp decimals
  -- the texts rise strictly by their bytes
  pub texts_rise : IsStrictlySortedBy text_cmp texts

-- `decimals` and `texts` are those among the values of `rows`, rising and each once
pub record AreTablesOf (rows : List Attribute) (decimals : List ℤ) (texts : List (List ℕ)) : Type 0
  where
    -- the decimals and the texts rise strictly
    pub rising : AreTables decimals texts
    -- a decimal is in `decimals` exactly if it is the value of a row
    pub decimals_are : (decimal : ℤ)
        → ∥ Contains decimals decimal ↔ Contains (decimals_of rows) decimal ∥₁
    -- a text is in `texts` exactly if it is the value of a row
    pub texts_are : (text : List ℕ) → ∥ Contains texts text ↔ Contains (texts_of rows) text ∥₁

-- a value that is not a concept is in its table
abbrev pub IsInTables : List ℤ → List (List ℕ) → Concrete → Type 0
IsInTables decimals texts (a_number decimal) = Contains decimals decimal
IsInTables decimals texts (a_text text) = Contains texts text
