use Rattle.std.proofs.Common.{ℕ, ℤ, List, map, arith, subst, sym}
use Rattle.std.specs.Prelude.{◌↔◌, Contains}
use Rattle.std.proofs.lemmas.List.{length-map}
use Rattle.held_release.specs.RowValues.{decimals_of, texts_of}
use Rattle.held_release.specs.inside.NumberedInside.{attributes_numbered, row_numbered}
use Rattle.held_release.proofs.ValueLemmas.{decimals_numbered, few_values, length-values, texts_numbered}
use Rattle.held_release.proofs.ValueLemmas.{values_known, values_there}
use Rattle.held_release.proofs.values.row_values.Goals as goal
use Rattle.held_release.proofs.values.row_values.Goals.{In_ok-texts}

-- a decimal is in its table exactly if it is the value of a row
decimals_are : (c : In_ok-texts) → (decimal : ℤ)
    → Contains c.in_ok-decimals.decimals.items decimal
    ↔ Contains (decimals_of (attributes_numbered c.args.concepts.now c.args.concrete.now c.args.rows.now)) decimal
decimals_are c decimal =
    subst (λ (all : List ℤ). Contains c.in_ok-decimals.decimals.items decimal ↔ Contains all decimal)
    (sym (decimals_numbered c.args.concepts.now c.args.concrete.now c.args.rows.now))
    (c.in_ok-decimals.ensures.members decimal)

-- a text is in its table exactly if it is the value of a row
texts_are : (c : In_ok-texts) → (text : List ℕ)
    → Contains c.in_ok-texts.texts text
    ↔ Contains (texts_of (attributes_numbered c.args.concepts.now c.args.concrete.now c.args.rows.now)) text
texts_are c text =
    subst (λ (all : List (List ℕ)). Contains c.in_ok-texts.texts text ↔ Contains all text)
    (sym (texts_numbered c.args.concepts.now c.args.concrete.now c.args.rows.now))
    (c.in_ok-texts.ensures.members text)

-- the value of each row is among the values
pub returns-clause-all : goal.returns-clause-all
returns-clause-all c =
    let at = (goal.at.returns-clause-all c).In_ok-texts in
    let concepts = c.args.concepts.now in
    let concrete = c.args.concrete.now in
    values_there concepts c.in_ok-decimals.decimals.items c.in_ok-texts.texts
    (attributes_numbered concepts concrete c.args.rows.now)
    (values_known concepts concrete c.args.rows.now c.requires.numbered)
    (λ decimal. (decimals_are at decimal).1) (λ text. (texts_are at text).1)

-- the decimals and the texts are those among the values of the rows
pub returns-clause-tables : goal.returns-clause-tables
returns-clause-tables c =
    let at = (goal.at.returns-clause-tables c).In_ok-texts in
    record {
      rising = record { decimals_rise = c.in_ok-decimals.ensures.rising; texts_rise = c.in_ok-texts.ensures.rising };
      decimals_are = λ decimal. ∣ decimals_are at decimal ∣₁;
      texts_are = λ text. ∣ texts_are at text ∣₁;
    }

-- there are less than 2^32 values
pub returns-clause-few : goal.returns-clause-few
returns-clause-few c =
    let rows = map (row_numbered c.args.concrete.now) c.args.rows.now in
    omega (
      arith,
      length-values c.args.concepts.now c.in_ok-decimals.decimals.items c.in_ok-texts.texts,
      few_values rows,
      length-map c.args.rows.now (row_numbered c.args.concrete.now),
      c.in_ok-decimals.ensures.few,
      c.in_ok-texts.ensures.few,
      c.requires.few,
      c.len.ensures.few,
    )
