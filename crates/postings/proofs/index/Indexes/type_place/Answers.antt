use Rattle.std.proofs.Common.{ℕ, List, ◌∙◌, nat_eq, sym, ap, arith}
use Rattle.std.specs.Prelude.{position}
use Rattle.postings.specs.Indexed.{Indexed, types_of}
use Rattle.postings.proofs.LookUpLemmas.{few_places}
use Rattle.postings.proofs.index.Indexes.type_place.Goals as goal

-- 32 bits hold the place of a type
pub overflow_cast-result : goal.overflow_cast-result
overflow_cast-result c =
    omega (
      arith,
      few_places c.self.inside c.self.invariant c.args.self.now c.self.view_is c.args.id c.in-Some.type_place
          (sym c.in-Some.ensures.index),
    )

-- the place found for a type is its place among the types of all rows
pub returns-in-Some : goal.returns-in-Some
returns-in-Some c =
    c.in-Some.ensures.index
    ∙ ap (λ (types : List ℕ). position (nat_eq c.args.id) types) c.self.invariant.rows.coded.types
    ∙ ap (λ (indexed : Indexed). position (nat_eq c.args.id) (types_of indexed.rows)) c.self.view_is

-- a type without a place is none of the types of the rows
pub returns-in-None : goal.returns-in-None
returns-in-None c =
    c.in-None.ensures.index
    ∙ ap (λ (types : List ℕ). position (nat_eq c.args.id) types) c.self.invariant.rows.coded.types
    ∙ ap (λ (indexed : Indexed). position (nat_eq c.args.id) (types_of indexed.rows)) c.self.view_is
