-- Lists of words that the code combines a vector at a time.
use Rattle.std.proofs.Common.{ℕ, ◌+◌, ◌<◌, ◌≤◌, ◌≡◌, List, [], ◌∷◌, ◌++◌, length, take, get_or, set, refl, sym, ap, ◌∙◌}
use Rattle.std.proofs.Common.{arith}
use Rattle.std.specs.Simd.Lanes.{chunk, put_chunk, zip2}
use Rattle.std.proofs.lemmas.List.{take_more, take_more_set, length-take-le}
use Rattle.std.proofs.lemmas.Simd.{length-chunk, length-zip2, take_more_put_chunk}
use Rattle.std.proofs.Math.Seq.{take-add}

-- `zip2` of joined lists is `zip2` of the first parts, followed by `zip2` of the second parts, if the first parts
-- are equally long
zip2-append : (f : ℕ → ℕ → ℕ) (xs ys xs' ys' : List ℕ) → length xs ≡ length ys
    → zip2 f (xs ++ xs') (ys ++ ys') ≡ zip2 f xs ys ++ zip2 f xs' ys'
zip2-append f [] [] xs' ys' long = refl
zip2-append f [] (y ∷ ys) xs' ys' long = absurd (omega arith)
zip2-append f (x ∷ xs) [] xs' ys' long = absurd (omega arith)
zip2-append f (x ∷ xs) (y ∷ ys) xs' ys' long = ap (λ rest. f x y ∷ rest) (zip2-append f xs ys xs' ys' (omega arith))

-- the first `i` items of two equally long lists are equally many
same_takes : (xs ys : List ℕ) (i : ℕ) → i ≤ length xs → length ys ≡ length xs → length (take i xs) ≡ length (take i ys)
same_takes xs ys i in' long = length-take-le i xs in' ∙ sym (length-take-le i ys (omega arith))

-- if the first `i` words of `out` are those of `zip2 f xs ys`, and the results for the next four words are written
-- at `i`, the first `i + 4` words are
pub zip2_vector_step : (f : ℕ → ℕ → ℕ) (xs ys out lanes : List ℕ) (i : ℕ) → i + 4 ≤ length xs → length ys ≡ length xs
    → length out ≡ length xs → lanes ≡ zip2 f (chunk i 4 xs) (chunk i 4 ys)
    → take i out ≡ zip2 f (take i xs) (take i ys)
    → take (i + 4) (put_chunk i out lanes) ≡ zip2 f (take (i + 4) xs) (take (i + 4) ys)
zip2_vector_step f xs ys out lanes i in' long long-out made so_far =
    let long-x : length (chunk i 4 xs) ≡ 4 = length-chunk i 4 xs in' in
    let long-y : length (chunk i 4 ys) ≡ 4 = length-chunk i 4 ys (omega arith) in
    let four : length lanes ≡ 4 = ap length made ∙ length-zip2 f (chunk i 4 xs) (chunk i 4 ys) (long-x ∙ sym long-y)
    ∙ long-x in
    take_more_put_chunk i out lanes (i + 4) (omega arith) (omega arith)
    ∙ (λ j. so_far j ++ made j)
    ∙ sym (zip2-append f (take i xs) (take i ys) (chunk i 4 xs) (chunk i 4 ys) (same_takes xs ys i (omega arith) long))
    ∙ (λ j. zip2 f (sym (take-add i 4 xs) j) (sym (take-add i 4 ys) j))

-- if the first `i` words of `out` are those of `zip2 f xs ys`, and the result for the word at `i` is written there,
-- the first `i + 1` words are
pub zip2_word_step : (f : ℕ → ℕ → ℕ) (xs ys out : List ℕ) (word i : ℕ) → i < length xs → length ys ≡ length xs
    → length out ≡ length xs → word ≡ f (get_or xs i 0) (get_or ys i 0) → take i out ≡ zip2 f (take i xs) (take i ys)
    → take (i + 1) (set out i word) ≡ zip2 f (take (i + 1) xs) (take (i + 1) ys)
zip2_word_step f xs ys out word i in' long long-out made so_far =
    take_more_set out i word (omega arith)
    ∙ (λ j. so_far j ++ made j ∷ [])
    ∙ sym (zip2-append f (take i xs) (take i ys) (get_or xs i 0 ∷ []) (get_or ys i 0 ∷ [])
    (same_takes xs ys i (omega arith) long))
    ∙ (λ j. zip2 f (sym (take_more xs i 0 in') j) (sym (take_more ys i 0 (omega arith)) j))

-- `zip2 f` of a list and its `zip2 g` with another list is `zip2` of `f x (g x y)`
pub zip2-zip2 : (f g : ℕ → ℕ → ℕ) (xs ys : List ℕ) → zip2 f xs (zip2 g xs ys) ≡ zip2 (λ x y. f x (g x y)) xs ys
zip2-zip2 f g [] ys = refl
zip2-zip2 f g (x ∷ xs) [] = refl
zip2-zip2 f g (x ∷ xs) (y ∷ ys) = ap (λ rest. f x (g x y) ∷ rest) (zip2-zip2 f g xs ys)
