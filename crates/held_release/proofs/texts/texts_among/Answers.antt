use Rattle.std.proofs.Common.{ℕ, ◌≡◌, ◌∙◌, Bor, List, map, sym, ap, subst, arith, length}
use Rattle.std.specs.Prelude.{Contains, bytes_eq}
use Rattle.std.specs.List.{dedup}
use Rattle.std.specs.List.Sorted.{IsStrictlySortedBy}
use Rattle.std.proofs.lemmas.List.{length-map}
use Rattle.std.proofs.lemmas.List.Filters.{dedup_is}
use Rattle.held_release.specs.RowValues.{text_cmp}
use Rattle.held_release.proofs.TableLemmas.{texts_kept, texts_sorted}
use Rattle.held_release.proofs.texts.texts_among.Goals as goal
use Rattle.held_release.proofs.texts.texts_among.Goals.{In_ok-texts-2}

-- the texts are the sorted ones without repeats
left : (c : In_ok-texts-2) → c.in_ok-texts-2.texts
    ≡ map (λ (text : Bor (List ℕ)). text.now)
    (dedup (λ one other. bytes_eq one.now other.now) c.sort_unstable.new.self.items)
left c =
    c.in_ok-texts-2.ensures
    ∙ ap (λ (texts : List (Bor (List ℕ))). map (λ (text : Bor (List ℕ)). text.now) texts) (c.as_slice.ensures.value
    ∙ dedup_is _ _ _ c.dedup.ensures.filtered)

-- the texts rise strictly by their bytes
pub returns-clause-rising : goal.returns-clause-rising
returns-clause-rising c =
    subst (λ (texts : List (List ℕ)). IsStrictlySortedBy text_cmp texts)
    (sym (left (goal.at.returns-clause-rising c).In_ok-texts-2))
    (texts_sorted (λ (text : Bor (List ℕ)). text.now) c.sort_unstable.new.self.items c.sort_unstable.ensures.sorted)

-- the texts are those among the values of the rows
pub returns-clause-members : goal.returns-clause-members
returns-clause-members c = λ text.
    let is = left (goal.at.returns-clause-members c).In_ok-texts-2 in
    let kept = texts_kept (λ (text : Bor (List ℕ)). text.now) c.in_ok-texts.texts.items c.sort_unstable.new.self.items
    c.sort_unstable.ensures.permutation text in (
      λ there. subst (λ (texts : List (List ℕ)). Contains texts text) c.in_ok-texts.ensures
          (kept.0 (subst (λ (texts : List (List ℕ)). Contains texts text) is there)),
      λ there. subst (λ (texts : List (List ℕ)). Contains texts text) (sym is)
          (kept.1 (subst (λ (texts : List (List ℕ)). Contains texts text) (sym c.in_ok-texts.ensures) there)),
    )

-- there are no more texts than rows with a text
pub returns-clause-few : goal.returns-clause-few
returns-clause-few c =
    let lent = λ (text : Bor (List ℕ)). text.now in
    omega (
      arith,
      ap (λ (texts : List (List ℕ)). length texts) c.in_ok-texts-2.ensures,
      length-map c.as_slice.result.now lent,
      c.as_slice.ensures.len,
      c.dedup.ensures.bound,
      c.sort_unstable.ensures.len,
      length-map c.in_ok-texts.texts.items lent,
      ap (λ (texts : List (List ℕ)). length texts) c.in_ok-texts.ensures,
    )
