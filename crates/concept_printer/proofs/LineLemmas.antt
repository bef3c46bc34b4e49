-- A line that is appended word by word.
use Rattle.std.proofs.Common.{◌≡◌, ◌∙◌, ℕ, List, [], ◌∷◌, ◌++◌, ap}
use Rattle.std.proofs.lemmas.List.{append_assoc}

-- if three words are appended one by one, with a space after the first and second and LF after the third, then the
-- appended text is the line of the three words
pub three_words : (old one two three four five all first second third : List ℕ) → one ≡ old ++ first
    → two ≡ one ++ 32 ∷ [] → three ≡ two ++ second → four ≡ three ++ 32 ∷ [] → five ≡ four ++ third
    → all ≡ five ++ 10 ∷ [] → all ≡ old ++ (first ++ 32 ∷ second ++ 32 ∷ third ++ 10 ∷ [])
three_words old one two three four five all first second third is_one is_two is_three is_four is_five is_all =
    let space : List ℕ = 32 ∷ [] in
    let end : List ℕ = 10 ∷ [] in
    let onto : List ℕ → List ℕ → List ℕ = λ buffer text. text ++ buffer in
    let two_are : three ≡ old ++ (first ++ 32 ∷ second) =
    is_three
    ∙ ap (onto second) (is_two ∙ ap (onto space) is_one)
    ∙ append_assoc (old ++ first) space second
    ∙ append_assoc old first (32 ∷ second) in
    let three_are : five ≡ old ++ (first ++ 32 ∷ second ++ 32 ∷ third) =
    is_five
    ∙ ap (onto third) (is_four ∙ ap (onto space) two_are)
    ∙ append_assoc (old ++ (first ++ 32 ∷ second)) space third
    ∙ append_assoc old (first ++ 32 ∷ second) (32 ∷ third) in
    is_all ∙ ap (onto end) three_are ∙ append_assoc old (first ++ 32 ∷ second ++ 32 ∷ third) end
