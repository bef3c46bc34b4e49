-- Lines that are answered by one relation are also answered by a weaker one.
use Rattle.std.proofs.Common.{ℕ, List, [], ◌∷◌}
use Rattle.query_run.specs.Lines.{Answers, AreAnswers}

-- if each text that answers a line by `one` also answers it by `other`, then a text that answers `lines` by `one`
-- answers them by `other`
pub AreAnswers-weaker : (one other : Answers) → ((line text : List ℕ) → one line text → other line text)
    → (lines : List (List ℕ)) (text : List ℕ) → AreAnswers one lines text → AreAnswers other lines text
AreAnswers-weaker one other weaker [] text none = none
AreAnswers-weaker one other weaker (line ∷ lines) text (first, rest, answer, answers, same) =
    (first, rest, weaker line first answer, AreAnswers-weaker one other weaker lines rest answers, same)
