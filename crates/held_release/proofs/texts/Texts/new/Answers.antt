-- Each turn of the loop adds one text.
use Rattle.std.proofs.Common.{◌∙◌, ◌++◌, ◌∷◌, [], List, ℕ, ap, get_or, map, sym, take, take_all}
use Rattle.std.specs.Borrow.{Bor}
use Rattle.std.proofs.lemmas.List.{map-append, take_more}
use Rattle.held_release.proofs.texts.Texts.new.Goals as goal

-- one turn adds the next text
pub loop-text-preserved : goal.loop-text-preserved
loop-text-preserved c =
    let lent = λ (text : Bor (List ℕ)). text.now in
    let texts = c.args.texts.now in
    let i = c.loop-text.text-index in
    let text : Bor (List ℕ) = get_or texts i (record { ref_ptr = (0, 0); now = [] }) in
    c.in_ok-own-2.ensures
    ∙ ap (λ (own : List (List ℕ)). own ++ text.now ∷ []) c.loop-text.invariant
    ∙ sym (ap (map lent) (take_more texts i _ c.loop-text-test.true) ∙ map-append lent (take i texts) (text ∷ []))

-- after the last turn `own` has all texts
pub returns : goal.returns
returns c =
    c.loop-text.invariant
    ∙ ap (map (λ (text : Bor (List ℕ)). text.now))
    (take_all c.loop-text.text-index c.args.texts.now c.loop-text-test.false)
