use Rattle.std.proofs.Common.{ℕ, ◌≡◌, ◌++◌, ◌∷◌, ◌∙◌, [], List, None, Result, Ok, Err, OnOk, ap, append-nil}
use Rattle.std.proofs.Common.{append_assoc, decimal, string_bytes, subst, sym}
use Rattle.std.specs.Bool.{if◌then◌else◌}
use Rattle.std.specs.Result.{is_ok}
use Rattle.held_release.specs.Line.{concept_line}
use Rattle.held_release.proofs.lines.push_bare.Goals as goal

-- the digits of a concept and LF are its line without a name
bare : (before digits : List ℕ) (concept : ℕ) → digits ≡ decimal concept
    → (before ++ digits) ++ 10 ∷ [] ≡ before ++ concept_line (λ _. None) concept
bare before digits concept are =
    append_assoc before digits (10 ∷ [])
    ∙ ap (λ (text : List ℕ). before ++ (text ++ 10 ∷ [])) (are ∙ sym (append-nil (decimal concept)))

-- if the last push succeeded, the text is the longer one
pushed : {E : Type 0} (result : Result (Unit {0}) E) (text more less : List ℕ)
    → text ≡ (if is_ok result then more else less) → OnOk result (text ≡ more)
pushed (Ok done) text more less is = is
pushed (Err refused) text more less is = tt

-- the text grows by the line of the concept without a name
pub returns : goal.returns
returns c =
    let before = string_bytes c.push_str.new.self in
    subst (λ (text : List ℕ). OnOk c.push_str-2.result (string_bytes c.push_str-2.new.self ≡ text))
    (ap (λ (text : List ℕ). text ++ 10 ∷ []) c.in_ok-push_str.ensures.bytes
    ∙ bare (string_bytes c.args.texts.now) c.format.result.now c.args.concept
    (c.format.ensures.text ∙ ap decimal c.number.ensures.number))
    (pushed c.push_str-2.result (string_bytes c.push_str-2.new.self) (before ++ 10 ∷ []) before
    c.push_str-2.ensures.bytes)
