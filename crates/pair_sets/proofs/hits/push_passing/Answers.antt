use Rattle.std.proofs.Common.{ℕ, Vec, Bool, List, ◌≡◌, ◌∙◌, ◌++◌, ◌∷◌, ◌+◌, [], ◌&&◌, cond, get_or, true, false, take}
use Rattle.std.proofs.Common.{sym, ap, append-nil, arith}
use Rattle.std.proofs.lemmas.List.{take_all}
use Rattle.postings.specs.Columns.{Flagged}
use Rattle.pair_sets.specs.inside.Hits.{value_of, picked}
use Rattle.pair_sets.specs.Tested.{passes_of}
use Rattle.pair_sets.proofs.HitLemmas.{picked_next}
use Rattle.pair_sets.proofs.hits.push_passing.Goals as goal
use Rattle.pair_sets.proofs.hits.push_passing.Goals.{then-has_passing+in_ok-push, else-has_passing}

-- before the first place, nothing is pushed
pub loop-place-init : goal.loop-place-init
loop-place-init g c = sym (append-nil c.args.hits.now.items)

-- the number of the mark at hand is pushed if the mark is first and its cell has a value that passes
pub loop-place-preserved : goal.loop-place-preserved
loop-place-preserved g c =
    let indexed = c.args.reader.indexes.now in
    let marks = c.args.marks.now in
    let cells = c.args.cells.now in
    let k = c.loop-place.place in
    let mark : Flagged = c.index-marks-place.result in
    let kept : Flagged → ℕ → Bool =
    λ mark cell. mark.is_first
    && passes_of g.S.ConceptSet.items_of indexed.concepts c.args.tested.now (value_of indexed cell) in
    let number : Flagged → ℕ → ℕ = λ mark cell. mark.number in
    let here : kept (get_or marks k mark) (get_or cells k 0) ≡ c.has_passing.result =
    ap (λ (m : Flagged). kept m (get_or cells k 0)) (sym c.index-marks-place.is) ∙ sym c.has_passing.ensures in
    let next : (keep : Bool) → c.has_passing.result ≡ keep → (pushed : List ℕ)
    → pushed ≡ c.loop-place.hits.items ++ cond keep (number (get_or marks k mark) (get_or cells k 0) ∷ []) []
    → pushed ≡ c.args.hits.now.items ++ picked kept number (take (k + 1) marks) (take (k + 1) cells) =
    λ keep told pushed is.
    picked_next kept number mark marks cells k c.loop-place-test.true c.requires.long keep (here ∙ told)
    c.args.hits.now.items c.loop-place.hits.items pushed c.loop-place.invariant is in
    elim c.if-has_passing.branch [
      | then-has_passing+in_ok-push w ↦
          ap (λ (hits : Vec ℕ _). hits.items) w.hits-is
          ∙ next true w.if-has_passing.true _
          (w.in_ok-push.ensures.items ∙ (λ i. c.loop-place.hits.items
          ++ (w.number.ensures.number ∙ ap (λ (m : Flagged). m.number) c.index-marks-place.is) i ∷ []))
      | else-has_passing w ↦
          ap (λ (hits : Vec ℕ _). hits.items) w.hits-is
          ∙ next false w.if-has_passing.false c.loop-place.hits.items (sym (append-nil c.loop-place.hits.items))
    ]

-- after the last place, the numbers of all marks whose value passes are pushed
pub returns : goal.returns
returns g c =
    c.loop-place.invariant
    ∙ (λ i. c.args.hits.now.items
    ++ picked (λ mark cell. mark.is_first
    && passes_of g.S.ConceptSet.items_of c.args.reader.indexes.now.concepts c.args.tested.now
    (value_of c.args.reader.indexes.now cell)) (λ mark cell. mark.number)
    (take_all c.loop-place.place c.args.marks.now (omega arith) i)
    (take_all c.loop-place.place c.args.cells.now (omega arith) i))
