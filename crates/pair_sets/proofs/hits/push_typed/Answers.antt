use Rattle.std.proofs.Common.{ℕ, Vec, Bool, List, ◌≡◌, ◌∙◌, ◌++◌, ◌∷◌, ◌+◌, [], ◌&&◌, cond, get_or, true, false, take}
use Rattle.std.proofs.Common.{sym, ap, append-nil, arith}
use Rattle.std.proofs.lemmas.List.{take_all}
use Rattle.postings.specs.Columns.{Flagged}
use Rattle.pair_sets.specs.inside.Hits.{is_type_in, picked}
use Rattle.pair_sets.proofs.HitLemmas.{picked_next}
use Rattle.pair_sets.proofs.hits.push_typed.Goals as goal
use Rattle.pair_sets.proofs.hits.push_typed.Goals.{then-has_type+in_ok-push, else-has_type}

-- before the first place, nothing is pushed
pub loop-place-init : goal.loop-place-init
loop-place-init g c = sym (append-nil c.args.hits.now.items)

-- the number of the mark at hand is pushed if the mark is first and its cell has a type in the set
pub loop-place-preserved : goal.loop-place-preserved
loop-place-preserved g c =
    let indexed = c.args.reader.indexes.now in
    let marks = c.args.marks.now in
    let cells = c.args.cells.now in
    let k = c.loop-place.place in
    let mark : Flagged = c.index-marks-place.result in
    let kept : Flagged → ℕ → Bool =
    λ mark cell. mark.is_first && is_type_in indexed (g.S.ConceptSet.items_of c.args.types.now) cell in
    let number : Flagged → ℕ → ℕ = λ mark cell. mark.number in
    let here : kept (get_or marks k mark) (get_or cells k 0) ≡ c.has_type.result =
    ap (λ (m : Flagged). kept m (get_or cells k 0)) (sym c.index-marks-place.is) ∙ sym c.has_type.ensures in
    let next : (keep : Bool) → c.has_type.result ≡ keep → (pushed : List ℕ)
    → pushed ≡ c.loop-place.hits.items ++ cond keep (number (get_or marks k mark) (get_or cells k 0) ∷ []) []
    → pushed ≡ c.args.hits.now.items ++ picked kept number (take (k + 1) marks) (take (k + 1) cells) =
    λ keep told pushed is.
    picked_next kept number mark marks cells k c.loop-place-test.true c.requires.long keep (here ∙ told)
    c.args.hits.now.items c.loop-place.hits.items pushed c.loop-place.invariant is in
    elim c.if-has_type.branch [
      | then-has_type+in_ok-push w ↦
          ap (λ (hits : Vec ℕ _). hits.items) w.hits-is
          ∙ next true w.if-has_type.true _
          (w.in_ok-push.ensures.items ∙ (λ i. c.loop-place.hits.items
          ++ (w.number.ensures.number ∙ ap (λ (m : Flagged). m.number) c.index-marks-place.is) i ∷ []))
      | else-has_type w ↦
          ap (λ (hits : Vec ℕ _). hits.items) w.hits-is
          ∙ next false w.if-has_type.false c.loop-place.hits.items (sym (append-nil c.loop-place.hits.items))
    ]

-- after the last place, the numbers of all marks whose type is in the set are pushed
pub returns : goal.returns
returns g c =
    c.loop-place.invariant
    ∙ (λ i. c.args.hits.now.items
    ++ picked (λ mark cell. mark.is_first && is_type_in c.args.reader.indexes.now
    (g.S.ConceptSet.items_of c.args.types.now) cell) (λ mark cell. mark.number)
    (take_all c.loop-place.place c.args.marks.now (omega arith) i)
    (take_all c.loop-place.place c.args.cells.now (omega arith) i))
