use Rattle.std.proofs.Common.{refl, sym, arith}
use Rattle.postings.proofs.LookUpLemmas.{columns_with_type, few_places, no_columns_with_type, type_listed}
use Rattle.postings.proofs.index.Indexes.type_columns.Goals as goal

-- 32 bits hold the place of a type
pub overflow_cast-type_place : goal.overflow_cast-type_place
overflow_cast-type_place c =
    omega (
      arith,
      few_places c.self.inside c.self.invariant c.args.self.now c.self.view_is c.args.id c.in-Some.type_place
          (sym c.in-Some.ensures.index),
    )

-- there is a list of rows at the place of a type, and so columns
pub columns-columns-requires-clause-key : goal.columns-columns-requires-clause-key
columns-columns-requires-clause-key c =
    type_listed c.self.inside c.self.invariant c.args.self.now c.self.view_is c.args.id c.in-Some.type_place
    (sym c.in-Some.ensures.index)

-- the columns at the place of a type are those of the rows of the type
pub returns-in-Some : goal.returns-in-Some
returns-in-Some c =
    columns_with_type c.self.inside c.self.invariant c.args.self.now c.self.view_is c.args.id c.in-Some.type_place
    (sym c.in-Some.ensures.index)
    _ c.columns-columns.ensures.sources c.columns-columns.ensures.others c.columns-columns.ensures.groups

-- the columns of a type without a place are empty
pub returns-in-None : goal.returns-in-None
returns-in-None c =
    no_columns_with_type c.self.inside c.self.invariant c.args.self.now c.self.view_is c.args.id
    (sym c.in-None.ensures.found) _ refl refl
    refl
