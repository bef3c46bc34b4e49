use Rattle.std.proofs.Common.{◌∙◌, sym, arith}
use Rattle.postings.proofs.LookUpLemmas.{few_places, no_rows_with_type, rows_with_type, type_listed}
use Rattle.postings.proofs.index.Indexes.by_type.Goals as goal

-- 32 bits hold the place of a type
pub overflow_cast-type_place : goal.overflow_cast-type_place
overflow_cast-type_place c =
    omega (
      arith,
      few_places c.self.inside c.self.invariant c.args.self.now c.self.view_is c.args.id c.in-Some.type_place
          (sym c.in-Some.ensures.index),
    )

-- there is a list of rows at the place of a type
pub of-requires : goal.of-requires
of-requires c = type_listed c.self.inside c.self.invariant c.args.self.now c.self.view_is c.args.id c.in-Some.type_place
    (sym c.in-Some.ensures.index)

-- the list at the place of a type has the rows of the type
pub returns-in-Some : goal.returns-in-Some
returns-in-Some c =
    c.of.ensures
    ∙ rows_with_type c.self.inside c.self.invariant c.args.self.now c.self.view_is c.args.id c.in-Some.type_place
    (sym c.in-Some.ensures.index)

-- a type without a place has no rows
pub returns-in-None : goal.returns-in-None
returns-in-None c = no_rows_with_type c.self.inside c.self.invariant c.args.self.now c.self.view_is c.args.id
    (sym c.in-None.ensures.found)
