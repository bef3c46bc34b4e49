use Rattle.std.proofs.Common.{ℕ, ◌≡◌, ◌∙◌, ◌∷◌, [], List, Some, ap, arith, drop, refl, sym, true}
use Rattle.std.proofs.lemmas.Bool.{eqb-true, false≢true}
use Rattle.std.proofs.lemmas.List.{take_rest}
use Rattle.std.proofs.lemmas.List.Sums.{prefix_len-le-length}
use Rattle.ecl_lexer.specs.declared.fault.Feature.{Feature}
use Rattle.ecl_lexer.specs.Bytes.{begins_with, is_code_byte}
use Rattle.ecl_lexer.specs.Refusals.{braces_form, unsupported as unsupported_form}
use Rattle.ecl_lexer.proofs.unsupported.unsupported.Goals as goal

-- a text that begins with `{{` begins with the form that `braces_form` gives for the text after it
two_braces : (first : ℕ) (following : List ℕ) → first ≡ 123 → begins_with 123 following ≡ true
    → unsupported_form (first ∷ following) ≡ Some (braces_form (drop 1 following))
two_braces first [] is second = absurd (false≢true second)
two_braces first (byte ∷ following) is second = rw (is, eqb-true byte 123 second) refl

-- `unsupported` returns the form after `{{`
pub returns-then-begins_with : goal.returns-then-begins_with
returns-then-begins_with c =
    let first = c.in-Some.first.now in
    let following = c.in-Some.following.now in
    ap (λ (f : Feature). Some f) (c.braces.ensures ∙ ap braces_form (take_rest following 1))
    ∙ sym (ap unsupported_form c.in-Some.ensures.cases.0
    ∙ two_braces first following c.if-first-eq123.true (sym c.begins_with.ensures ∙ c.if-begins_with.true))

-- the letters, digits and `-` at the front of a text are within it
pub split_at-requires : goal.split_at-requires
split_at-requires c = omega (arith, prefix_len-le-length is_code_byte c.args.text.now)
