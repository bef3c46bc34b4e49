-- Lemmas on the bitmaps of long lists, kept one after another.
use Rattle.std.proofs.Common.{ℕ, ◌+◌, ◌-◌, ◌≡◌, ◌≢◌, ◌≤◌, ◌<◌, ◌++◌, ◌∷◌, [], ◌∙◌, inl, inr, ⊎_elim, List, length}
use Rattle.std.proofs.Common.{get_or, take, refl, sym, subst, arith, length-append}
use Rattle.std.specs.Prelude.{All}
use Rattle.std.specs.List.{slice_range}
use Rattle.std.proofs.lemmas.Bool.{cases_eq, cases_lt}
use Rattle.std.proofs.lemmas.List.{drop_at, take_all, get_or_append_left, get_or_push}
use Rattle.number_lists.specs.Members.{has}
use Rattle.idset.specs.Words.{MarkedBelow, words_for}
use Rattle.number_lists.specs.KeyedLists.{list_of}
use Rattle.number_lists.proofs.CutLemmas.{slice_range-append}
use Rattle.ancestor_index.specs.Wide.{AreWide, IsKept, IsWide}

-- if `words` keeps the bitmap of `list` up to `end`, this stays so if more words are added
pub kept_more : (count : ℕ) (list words added : List ℕ) (end : ℕ) → IsKept count list words end
    → IsKept count list (words ++ added) end
kept_more count list words added end (inl none) = inl none
kept_more count list words added end (inr (some, wide, enough, within, marked)) =
    inr (
      some,
      wide,
      enough,
      omega (arith, within, length-append words added),
      subst (λ (part : List ℕ). MarkedBelow count part (has list))
          (sym (slice_range-append words added (end - words_for count) end (omega arith) within)) marked,
    )

-- if the bitmap of a long list is added to `words`, it is kept there up to the new end
pub kept_new : (count : ℕ) (list words bitmap : List ℕ) (end : ℕ) → IsWide count list
    → All (λ item. item < count) list → MarkedBelow count bitmap (has list) → end ≡ length words + length bitmap
    → IsKept count list (words ++ bitmap) end
kept_new count list words bitmap end wide below marked is =
    let enough : length bitmap ≡ words_for count = marked.below.enough in
    let some : 0 < count = omega (arith, below 0 0 (omega arith)) in
    let part : slice_range (words ++ bitmap) (end - words_for count) end ≡ bitmap =
    (λ i. slice_range (words ++ bitmap) (start i) (is i))
    ∙ whole words bitmap in
    inr (
      omega arith,
      wide,
      omega arith,
      omega (arith, length-append words bitmap),
      subst (λ (found : List ℕ). MarkedBelow count found (has list)) (sym part) marked,
    )
  where
    start : end - words_for count ≡ length words
    start = omega (arith, is, marked.below.enough)

    -- the added words are the slice from the old length to the new one
    whole : (words bitmap : List ℕ) → slice_range (words ++ bitmap) (length words) (length words + length bitmap)
        ≡ bitmap
    whole words bitmap = (λ i. take (size words bitmap i) (drop_at words bitmap (length words) refl i))
        ∙ take_all (length bitmap) bitmap (omega arith)
      where
        size : (words bitmap : List ℕ) → length words + length bitmap - length words ≡ length bitmap
        size words bitmap = omega arith

-- if the bitmaps of the first `place` lists are kept, and after `added` that of the list at `place` is, then those
-- of the first `place + 1` lists are
pub kept_step : (count place : ℕ) (lists : List (List ℕ)) (words added ends : List ℕ) (end : ℕ) → length ends ≡ place
    → ((concept : ℕ) → concept < place → IsKept count (list_of lists concept) words (get_or ends concept 0))
    → IsKept count (list_of lists place) (words ++ added) end
    → (concept : ℕ) → concept < place + 1
    → IsKept count (list_of lists concept) (words ++ added) (get_or (ends ++ end ∷ []) concept 0)
kept_step count place lists words added ends end len known here concept below = ⊎_elim
    (λ (same : concept ≡ place).
    subst (λ (c : ℕ). IsKept count (list_of lists c) (words ++ added) (get_or (ends ++ end ∷ []) c 0)) (sym same)
    (subst (λ (e : ℕ). IsKept count (list_of lists place) (words ++ added) e) (sym (get_or_push ends end 0 place len))
    here))
    (λ (other : concept ≢ place).
    let less = earlier other in
    subst (λ (e : ℕ). IsKept count (list_of lists concept) (words ++ added) e)
    (sym (get_or_append_left ends (end ∷ []) 0 concept (omega arith)))
    (kept_more count (list_of lists concept) words added (get_or ends concept 0) (known concept less)))
    (cases_eq concept place)
  where
    -- a concept below `place + 1` other than `place` is below `place`
    earlier : concept ≢ place → concept < place
    earlier other = ⊎_elim (λ (less : concept < place). less) (λ (past : place ≤ concept). absurd (other (omega arith)))
        (cases_lt concept place)

-- if `words` keeps the bitmaps of `lists`, and with `added` it keeps that of `list`, then it keeps those of `lists`
-- followed by `list`
pub wide_step : (count : ℕ) (lists : List (List ℕ)) (list words added ends : List ℕ) (end : ℕ)
    → AreWide count lists ends words → IsKept count list (words ++ added) end
    → AreWide count (lists ++ list ∷ []) (ends ++ end ∷ []) (words ++ added)
wide_step count lists list words added ends end wide here = record {
  len = omega (arith, wide.len, length-append ends (end ∷ []), length-append lists (list ∷ []));
  kept = λ concept below.
      kept_step count (length lists) (lists ++ list ∷ []) words added ends end wide.len
      (λ concept less. subst (λ (own : List ℕ). IsKept count own words (get_or ends concept 0))
      (sym (get_or_append_left lists (list ∷ []) [] concept less)) (wide.kept concept less))
      (subst (λ (own : List ℕ). IsKept count own (words ++ added) end)
      (sym (get_or_push lists list [] (length lists) refl)) here)
      concept (omega (arith, below, length-append lists (list ∷ [])));
}
