use Rattle.std.proofs.Common.{◌≡◌, ◌+◌, ◌-◌, ◌<◌, ◌++◌, ◌∙◌, inr, List, [], ◌∷◌, length, take, drop, map, None, Some}
use Rattle.std.proofs.Common.{refl, sym, ap, subst, arith}
use Rattle.std.specs.List.{prefix_len}
use Rattle.std.proofs.lemmas.List.{length-drop, length-take-le, map_push, take_rest}
use Rattle.std.proofs.lemmas.Result.{err_from_is_err_and}
use Rattle.ecl_lexer.specs.declared.fault.QueryFault.TheVariants.{Memory}
use Rattle.ecl_lexer.specs.declared.token.Token.{Token}
use Rattle.ecl_lexer.specs.Bytes.{is_code_byte}
use Rattle.ecl_lexer.specs.Lexemes.{bytes_of, kind_of}
use Rattle.ecl_lexer.specs.Refusals.{fault_at}
use Rattle.ecl_lexer.specs.Tokens.{IsFaultOf, Spelled, placed, spelled}
use Rattle.ecl_lexer.proofs.CutLemmas.{CutSoFar-empty, has_token, kind_is, no_kind, no_placed, no_spelled, refused_at}
use Rattle.ecl_lexer.proofs.CutLemmas.{run_on, size_of, so_far_is, steps_on, with_placed-Some, with_spelled-Some}
use Rattle.ecl_lexer.proofs.FaultLemmas.{IsFaultOf-at}
use Rattle.ecl_lexer.proofs.lexer.cut.Goals as goal
use Rattle.ecl_lexer.proofs.lexer.cut.Goals.{then-run_end-at, else-run_end-at}

-- a refusal that `read` returns is a fault of the text
pub returns-in_err-lexeme-clause-fault : goal.returns-in_err-lexeme-clause-fault
returns-in_err-lexeme-clause-fault c =
    let p = err_from_is_err_and c.from_residual.result c.from_residual.ensures.1 in
    let refused = refused_at c.args.text.now c.loop-at.at _ _ _ c.loop-at-test.true c.loop-at.invariant.so_far
    c.in_err-lexeme.ensures in
    rw (p.1, p.2) (inr (rw refused.2 (IsFaultOf-at c.args.text.now c.loop-at.at refused.0 c.requires refused.1)))

-- `read` never returns `Memory`
pub returns-in_err-lexeme-clause-memory : goal.returns-in_err-lexeme-clause-memory
returns-in_err-lexeme-clause-memory c = λ was.
    let p = err_from_is_err_and c.from_residual.result c.from_residual.ensures.1 in
    let refused = refused_at c.args.text.now c.loop-at.at _ _ _ c.loop-at-test.true c.loop-at.invariant.so_far
    c.in_err-lexeme.ensures in
    let is : fault_at c.loop-at.at refused.0 ≡ Memory = cc (p.1, p.2, refused.2, was) in
    absurd (subst (IsFaultOf c.args.text.now) is
    (IsFaultOf-at c.args.text.now c.loop-at.at refused.0 c.requires refused.1))

-- the end of a lexeme that is read does not overflow: it is within the text
pub overflow_add-end : goal.overflow_add-end
overflow_add-end c =
    let step = steps_on c.args.text.now c.loop-at.at _ _ _ c.loop-at.invariant.within c.loop-at.invariant.so_far
    c.in_ok-lexeme.ensures in
    let size = size_of _ _ step.1 in
    omega (arith, step.2.within, size, c.requires.0)

-- the bytes of a token are within the text
pub slice_bounds-push-end : goal.slice_bounds-push-end
slice_bounds-push-end c =
    let step = steps_on c.args.text.now c.loop-at.at _ _ _ c.loop-at.invariant.within c.loop-at.invariant.so_far
    c.in_ok-lexeme.ensures in
    let size = size_of _ _ step.1 in
    let left = length-drop c.loop-at.at c.args.text.now in
    rw (take_rest c.args.text.now c.loop-at.at)
    (sym (length-take-le c.in_ok-lexeme.lexeme.length (drop c.loop-at.at c.args.text.now)
    (omega (arith, step.2.within, size, left))))

-- memory can run out only at a token, so the text is cut into lexemes with at least one token
pub returns-in_err-push-clause-memory : goal.returns-in_err-push-clause-memory
returns-in_err-push-clause-memory c = λ was.
    let step = steps_on c.args.text.now c.loop-at.at _ _ _ c.loop-at.invariant.within c.loop-at.invariant.so_far
    c.in_ok-lexeme.ensures in
    let kind : kind_of step.0 ≡ Some c.in-Some.kind = kind_is _ _ _ step.1 c.in-Some.is in
    let some = has_token step.0 c.in-Some.kind (map spelled c.loop-at.tokens.items) kind in
    let so_far = step.2.so_far in
    (so_far.lexemes, _, so_far.cut, subst (λ (tokens : List Spelled). 0 < length tokens) so_far.spelling some)

-- a turn of the loop that adds a token goes on by at least one byte
pub loop-at-smaller-in_ok-push : goal.loop-at-smaller-in_ok-push
loop-at-smaller-in_ok-push c =
    let step = steps_on c.args.text.now c.loop-at.at _ _ _ c.loop-at.invariant.within c.loop-at.invariant.so_far
    c.in_ok-lexeme.ensures in
    let size = size_of _ _ step.1 in
    omega (arith, step.2.within, step.2.some, size)

-- a turn of the loop that adds a token keeps the invariant
pub loop-at-preserved-in_ok-push : goal.loop-at-preserved-in_ok-push
loop-at-preserved-in_ok-push c =
    let text = c.args.text.now in
    let step = steps_on c.args.text.now c.loop-at.at _ _ _ c.loop-at.invariant.within c.loop-at.invariant.so_far
    c.in_ok-lexeme.ensures in
    let size = size_of _ _ step.1 in
    let kind : kind_of step.0 ≡ Some c.in-Some.kind = kind_is _ _ _ step.1 c.in-Some.is in
    let run_end : c.if-run_end-at.run_end ≡ c.loop-at.at + prefix_len is_code_byte (drop c.loop-at.at text) =
    elim c.if-run_end-at.branch [
      | then-run_end-at w ↦ w.run_end-is
          ∙ ap (λ n. c.loop-at.at + n) (w.code_count.ensures.count
          ∙ ap (prefix_len is_code_byte) (take_rest text c.loop-at.at))
      | else-run_end-at w ↦ let same = c.loop-at.invariant.run (omega arith) in omega (arith, w.run_end-is, same)
    ] in
    let slice : take c.in_ok-lexeme.lexeme.length (take (length text - c.loop-at.at) (drop c.loop-at.at text))
    ≡ bytes_of step.0 =
    ap (take c.in_ok-lexeme.lexeme.length) (take_rest text c.loop-at.at)
    ∙ ap (λ n. take n (drop c.loop-at.at text)) size ∙ step.2.slice in
    let place : c.loop-at.at + c.in_ok-lexeme.lexeme.length ≡ c.loop-at.at + length (bytes_of step.0) =
    ap (λ n. c.loop-at.at + n) size in
    let items = c.loop-at.tokens.items in
    let spellings : map spelled c.push.new.self.items ≡ map spelled items ++ _ =
    ap (map spelled) c.in_ok-push.ensures.items ∙ map_push spelled items _
    ∙ ap (λ last. map spelled items ++ last) (with_spelled-Some step.0 c.in-Some.kind _ kind slice) in
    let places : map placed c.push.new.self.items ≡ map placed items ++ _ =
    ap (map placed) c.in_ok-push.ensures.items ∙ map_push placed items _
    ∙ ap (λ last. map placed items ++ last)
    (with_placed-Some step.0 c.in-Some.kind _ c.loop-at.at _ kind slice place) in
    record {
      within = omega (arith, step.2.within, size);
      so_far = so_far_is _ _ _ _ _ _ _ _ size (sym spellings) (sym places) step.2.so_far;
      run = λ inside. run_on text c.loop-at.at c.in_ok-lexeme.lexeme.length c.if-run_end-at.run_end run_end inside;
    }

-- a turn of the loop over a blank goes on by at least one byte
pub loop-at-smaller : goal.loop-at-smaller
loop-at-smaller c =
    let step = steps_on c.args.text.now c.loop-at.at _ _ _ c.loop-at.invariant.within c.loop-at.invariant.so_far
    c.in_ok-lexeme.ensures in
    let size = size_of _ _ step.1 in
    omega (arith, step.2.within, step.2.some, size)

-- a turn of the loop over a blank keeps the invariant
pub loop-at-preserved : goal.loop-at-preserved
loop-at-preserved c =
    let text = c.args.text.now in
    let step = steps_on c.args.text.now c.loop-at.at _ _ _ c.loop-at.invariant.within c.loop-at.invariant.so_far
    c.in_ok-lexeme.ensures in
    let size = size_of _ _ step.1 in
    let kind : kind_of step.0 ≡ None = no_kind _ _ step.1 c.in_default.is in
    let run_end : c.if-run_end-at.run_end ≡ c.loop-at.at + prefix_len is_code_byte (drop c.loop-at.at text) =
    elim c.if-run_end-at.branch [
      | then-run_end-at w ↦ w.run_end-is
          ∙ ap (λ n. c.loop-at.at + n) (w.code_count.ensures.count
          ∙ ap (prefix_len is_code_byte) (take_rest text c.loop-at.at))
      | else-run_end-at w ↦ let same = c.loop-at.invariant.run (omega arith) in omega (arith, w.run_end-is, same)
    ] in
    record {
      within = omega (arith, step.2.within, size);
      so_far = so_far_is _ _ _ _ _ _ _ _ size (no_spelled step.0 _ kind) (no_placed step.0 c.loop-at.at _ kind)
          step.2.so_far;
      run = λ inside. run_on text c.loop-at.at c.in_ok-lexeme.lexeme.length c.if-run_end-at.run_end run_end inside;
    }

-- the empty text has no tokens
pub returns-clause-empty : goal.returns-clause-empty
returns-clause-empty c =
    λ empty. nothing c.loop-at.tokens.items
    (CutSoFar-empty c.args.text.now c.loop-at.at _ _ empty c.loop-at.invariant.so_far)
  where
    nothing : (tokens : List Token) → map spelled tokens ≡ [] → tokens ≡ []
    nothing [] none = refl
    nothing (token ∷ tokens) none = absurd cc
