use Rattle.std.proofs.Common.{ℕ, ◌≡◌, ◌∙◌, [], List, ap, arith}
use Rattle.std.proofs.lemmas.Bool.{eqb-true}
use Rattle.std.proofs.lemmas.List.{nil_from_length}
use Rattle.number_lists.specs.Members.{has}
use Rattle.candidates.specs.Within.{may_be}
use Rattle.candidates.proofs.candidates.none_left.Goals as goal

-- a set whose count is 0 has no candidate
pub returns-in-Within : goal.returns-in-Within
returns-in-Within g c = λ none number.
    let items : List ℕ = g.S.ConceptSet.items_of c.in-Within.set.now in
    let no_items : items ≡ [] =
    nil_from_length items (omega (arith, eqb-true c.count.result 0 none, c.count.ensures)) in
    ap (λ candidates. may_be g.S.ConceptSet.items_of candidates number) c.in-Within.is
    ∙ ap (λ (items : List ℕ). has items number) no_items
