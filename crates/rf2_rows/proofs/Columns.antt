-- The texts of a line's fields, by their places.
use Rattle.std.proofs.Common.{◌≡◌, ℕ, List, [], ◌∷◌, length, get_or, map, refl}
use Rattle.std.specs.List.{range_with_len}
use Rattle.std.proofs.lemmas.List.FromFn.{fill_by_all}

-- the text of the field at a place
abbrev pub text_at : List (List ℕ) → ℕ → List ℕ
text_at texts place = get_or texts place []

-- `count` texts are the texts at the places below `count`
texts_by_place : (texts : List (List ℕ)) (count : ℕ) → length texts ≡ count
    → texts ≡ map (text_at texts) (range_with_len 0 count)
texts_by_place texts count same = fill_by_all (text_at texts) texts count [] same (λ place below. refl)

-- five texts are the texts at places 0 to 4
pub five_texts : (texts : List (List ℕ)) → length texts ≡ 5
    → texts ≡ text_at texts 0 ∷ text_at texts 1 ∷ text_at texts 2 ∷ text_at texts 3 ∷ text_at texts 4 ∷ []
five_texts texts same = texts_by_place texts 5 same

-- six texts are the texts at places 0 to 5
pub six_texts : (texts : List (List ℕ)) → length texts ≡ 6
    → texts ≡ text_at texts 0 ∷ text_at texts 1 ∷ text_at texts 2 ∷ text_at texts 3 ∷ text_at texts 4
    ∷ text_at texts 5 ∷ []
six_texts texts same = texts_by_place texts 6 same

-- nine texts are the texts at places 0 to 8
pub nine_texts : (texts : List (List ℕ)) → length texts ≡ 9
    → texts ≡ text_at texts 0 ∷ text_at texts 1 ∷ text_at texts 2 ∷ text_at texts 3 ∷ text_at texts 4
    ∷ text_at texts 5 ∷ text_at texts 6 ∷ text_at texts 7 ∷ text_at texts 8 ∷ []
nine_texts texts same = texts_by_place texts 9 same

-- ten texts are the texts at places 0 to 9
pub ten_texts : (texts : List (List ℕ)) → length texts ≡ 10
    → texts ≡ text_at texts 0 ∷ text_at texts 1 ∷ text_at texts 2 ∷ text_at texts 3 ∷ text_at texts 4
    ∷ text_at texts 5 ∷ text_at texts 6 ∷ text_at texts 7 ∷ text_at texts 8 ∷ text_at texts 9 ∷ []
ten_texts texts same = texts_by_place texts 10 same
