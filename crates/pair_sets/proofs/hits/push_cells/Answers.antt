use Rattle.std.proofs.Common.{ℕ, Vec, Bool, List, ◌≡◌, ◌∙◌, ◌++◌, ◌∷◌, ◌+◌, [], ◌&&◌, cond, get_or, true, false, take}
use Rattle.std.proofs.Common.{sym, ap, append-nil, arith, length, ltb}
use Rattle.std.proofs.lemmas.List.{take_all}
use Rattle.postings.specs.Columns.{Flagged}
use Rattle.pair_sets.specs.inside.Hits.{value_of, picked}
use Rattle.pair_sets.specs.Tested.{passes_of}
use Rattle.pair_sets.proofs.HitLemmas.{picked_next}
use Rattle.pair_sets.proofs.hits.push_cells.Goals as goal
use Rattle.pair_sets.proofs.hits.push_cells.Goals.{then-has_passing_source+in_ok-push, else-has_passing_source}

-- before the first place, nothing is pushed
pub loop-place-init : goal.loop-place-init
loop-place-init g c = sym (append-nil c.args.hits.now.items)

-- the cell at hand is pushed if it is a concept and its mark is first and has a source that passes
pub loop-place-preserved : goal.loop-place-preserved
loop-place-preserved g c =
    let indexed = c.args.reader.indexes.now in
    let marks = c.args.marks.now in
    let cells = c.args.cells.now in
    let k = c.loop-place.place in
    let mark : Flagged = c.index-marks-place.result in
    let kept : Flagged → ℕ → Bool =
    λ mark cell. ltb cell (length indexed.concepts)
    && (mark.is_first && passes_of g.S.ConceptSet.items_of indexed.concepts c.args.tested.now
    (value_of indexed mark.number)) in
    let number : Flagged → ℕ → ℕ = λ mark cell. cell in
    let here : kept (get_or marks k mark) (get_or cells k 0) ≡ c.has_passing_source.result =
    ap (λ (m : Flagged). kept m (get_or cells k 0)) (sym c.index-marks-place.is) ∙ sym c.has_passing_source.ensures in
    let next : (keep : Bool) → c.has_passing_source.result ≡ keep → (pushed : List ℕ)
    → pushed ≡ c.loop-place.hits.items ++ cond keep (number (get_or marks k mark) (get_or cells k 0) ∷ []) []
    → pushed ≡ c.args.hits.now.items ++ picked kept number (take (k + 1) marks) (take (k + 1) cells) =
    λ keep told pushed is.
    picked_next kept number mark marks cells k c.loop-place-test.true c.requires.long keep (here ∙ told)
    c.args.hits.now.items c.loop-place.hits.items pushed c.loop-place.invariant is in
    elim c.if-has_passing_source.branch [
      | then-has_passing_source+in_ok-push w ↦
          ap (λ (hits : Vec ℕ _). hits.items) w.hits-is
          ∙ next true w.if-has_passing_source.true _
          (w.in_ok-push.ensures.items)
      | else-has_passing_source w ↦
          ap (λ (hits : Vec ℕ _). hits.items) w.hits-is
          ∙ next false w.if-has_passing_source.false c.loop-place.hits.items (sym (append-nil c.loop-place.hits.items))
    ]

-- after the last place, the cells of all places that pass are pushed
pub returns : goal.returns
returns g c =
    c.loop-place.invariant
    ∙ (λ i. c.args.hits.now.items
    ++ picked (λ mark cell. ltb cell (length c.args.reader.indexes.now.concepts)
    && (mark.is_first && passes_of g.S.ConceptSet.items_of c.args.reader.indexes.now.concepts c.args.tested.now
    (value_of c.args.reader.indexes.now mark.number))) (λ mark cell. cell)
    (take_all c.loop-place.place c.args.marks.now (omega arith) i)
    (take_all c.loop-place.place c.args.cells.now (omega arith) i))
