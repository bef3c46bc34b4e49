use Rattle.std.proofs.Common.{◌∙◌, List, ℕ, map, subst, sym}
use Rattle.ecl_lexer.specs.Tokens.{spelled}
use Rattle.ecl_lexer.specs.declared.fault.QueryFault.{QueryFault}
use Rattle.ecl_parser.specs.inside.Answers.{AreFaulty}
use Rattle.ecl_parser.specs.inside.Brackets.{AreEnds}
use Rattle.ecl_parser.specs.inside.Gives.{symbols}
use Rattle.ecl_parser.proofs.MatchLemmas.{all_ended, all_shallow, deep_fault, deep_next, long_next, matched_next}
use Rattle.ecl_parser.proofs.MatchLemmas.{no_tree, read_ahead}
use Rattle.ecl_parser.proofs.brackets.bracket_ends.Goals as goal

-- the fault of a token that opens a bracket too many refuses the tokens for their depth
pub returns-in-Err-clause-fault : goal.returns-in-Err-clause-fault
returns-in-Err-clause-fault c =
    let tokens = c.args.tokens.now in
    let place = c.loop-place.place in
    let deep = c.in-Err.ensures.deep in
    let Faulty : QueryFault → Type 0 = AreFaulty (map spelled tokens) in
    subst Faulty (sym deep.0)
    (deep_fault tokens place _ c.loop-place.brackets (read_ahead tokens place _ c.loop-place-test.true) deep.1 deep.2
    c.loop-place.invariant.deep)

-- one turn of the loop keeps the brackets of the tokens up to the place, their depth and their ends
pub loop-place-preserved : goal.loop-place-preserved
loop-place-preserved c =
    let tokens = c.args.tokens.now in
    let place = c.loop-place.place in
    let old = c.loop-place.brackets in
    let new = c.take.new.self in
    let known = c.loop-place.invariant in
    let made = c.in-Ok.ensures.ok in record {
      long = long_next tokens place _ old new (read_ahead tokens place _ c.loop-place-test.true) made ∙ known.long;
      deep = deep_next tokens place _ old new (read_ahead tokens place _ c.loop-place-test.true) made
          c.in-Ok.ensures.few _ known.deep;
      matched = matched_next tokens place _ old new (read_ahead tokens place _ c.loop-place-test.true) made _
          known.matched;
    }

-- tokens that are read to their end are not too deep
pub returns-in-Some-clause-shallow : goal.returns-in-Some-clause-shallow
returns-in-Some-clause-shallow c =
    all_shallow c.args.tokens.now c.loop-place.place c.loop-place.brackets c.loop-place-test.false
    c.loop-place.invariant.deep

-- the ends are those of all brackets, if all brackets match
pub returns-in-Some-clause-ends : goal.returns-in-Some-clause-ends
returns-in-Some-clause-ends c =
    let Ends : List ℕ → Type 0 = AreEnds (symbols c.args.tokens.now) in
    let matched = c.in-Some.ensures.matched in
    subst Ends (sym c.in-Some.ensures.ends)
    (all_ended c.args.tokens.now c.loop-place.place c.loop-place.brackets c.loop-place-test.false
    c.loop-place.invariant.matched matched.0 matched.1)

-- brackets that do not all match refuse the tokens for their syntax
pub returns-in-None-clause-fault : goal.returns-in-None-clause-fault
returns-in-None-clause-fault c = (
  all_shallow c.args.tokens.now c.loop-place.place c.loop-place.brackets c.loop-place-test.false
      c.loop-place.invariant.deep,
  no_tree c.args.tokens.now c.loop-place.place c.loop-place.brackets c.loop-place-test.false
      c.loop-place.invariant.matched (c.ends.ensures.none c.in-None.is),
)
