-- Pages of a list: the items after the first `skipped`, at most `most` of them.
use Rattle.std.proofs.Common.{ℕ, zero, suc, ◌-◌, ◌≤◌, ◌≡◌, List, [], ◌∷◌, ◌++◌, length, take, drop}
use Rattle.std.proofs.Common.{refl, sym, ap, ◌∙◌, arith, append-nil}
use Rattle.std.proofs.lemmas.List.{drop_all, length-take, take_all, take-append-le}

-- dropping `n` items of two joined lists drops them of the first, and what is left to drop of the second
drop-both : (n : ℕ) (xs ys : List ℕ) → drop n (xs ++ ys) ≡ drop n xs ++ drop (n - length xs) ys
drop-both zero xs ys = (λ i. xs ++ drop (none i) ys)
  where
    none : 0 ≡ 0 - length xs
    none = omega arith
drop-both (suc n) [] ys = (λ i. drop (whole i) ys)
  where
    whole : suc n ≡ suc n - length {A = ℕ} []
    whole = omega arith
drop-both (suc n) (x ∷ xs) ys = drop-both n xs ys ∙ (λ i. drop n xs ++ drop (one_less i) ys)
  where
    one_less : n - length xs ≡ suc n - length (x ∷ xs)
    one_less = omega arith

-- cutting the first list at `n` before joining does not change the first `n` items of both
take-front : (n : ℕ) (xs ys : List ℕ) → take n (take n xs ++ ys) ≡ take n (xs ++ ys)
take-front zero xs ys = refl
take-front (suc n) [] ys = refl
take-front (suc n) (x ∷ xs) ys = ap (λ rest. x ∷ rest) (take-front n xs ys)

-- the page of the items `done`, and of these items and `more`
module _ (most skipped : ℕ) (done more page : List ℕ) (so_far : page ≡ take most (drop skipped done)) where
  -- the page of `done` and `more` is the page of `done`, followed by the items of `more` that are not skipped, cut
  -- at `most`
  pub page_more : (next : List ℕ) → next ≡ take most (page ++ drop (skipped - length done) more)
      → next ≡ take most (drop skipped (done ++ more))
  page_more next pushed =
      pushed ∙ (λ i. take most (so_far i ++ drop (skipped - length done) more))
      ∙ take-front most (drop skipped done) (drop (skipped - length done) more)
      ∙ ap (take most) (sym (drop-both skipped done more))

  -- a page that has `most` items does not change if more items follow
  pub page_full : most ≤ length page → page ≡ take most (drop skipped (done ++ more))
  page_full full =
      let enough : most ≤ length (drop skipped done) =
      omega (arith, ap length so_far, length-take most (drop skipped done)) in
      so_far
      ∙ sym (ap (take most) (drop-both skipped done more)
      ∙ take-append-le most (drop skipped done) (drop (skipped - length done) more) enough)

-- a list of at most `most` items is the first `most` of itself
pub front_whole : (most : ℕ) (items : List ℕ) → length items ≤ most → items ≡ take most (items ++ [])
front_whole most items short = sym (take_all most items short) ∙ ap (take most) (sym (append-nil items))

-- if `more` has at most `skipped` items, so that all are skipped, adding it to a list of at most `most` items
-- changes nothing
pub none_pushed : (most skipped : ℕ) (items more : List ℕ) → length items ≤ most → length more ≤ skipped
    → items ≡ take most (items ++ drop skipped more)
none_pushed most skipped items more short past =
    front_whole most items short ∙ (λ i. take most (items ++ sym (drop_all skipped more past) i))
