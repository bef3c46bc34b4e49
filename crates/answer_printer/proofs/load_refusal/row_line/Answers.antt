use Rattle.std.proofs.Common.{◌≡◌, ◌∙◌, ◌++◌, ◌∷◌, [], List, ℕ, ap, codes, decimal, rules}
use Rattle.std.specs.List.{flat_map}
use Rattle.std.proofs.lemmas.List.{flat_map_more}
use Rattle.answer_printer.specs.LoadRefusal.{cause_word}
use Rattle.answer_printer.specs.ToldName.{told_name}
use Rattle.answer_printer.proofs.load_refusal.row_line.Goals as goal

-- a word with a space before it
abbrev spaced : List ℕ → List ℕ
spaced word = 32 ∷ word

-- a word added after a space is one word more of the line
word_more : (words : List (List ℕ)) (word line next : List ℕ) → line ≡ codes "REFUSED" ++ flat_map spaced words
    → next ≡ line ++ spaced word → next ≡ codes "REFUSED" ++ flat_map spaced (words ++ word ∷ [])
word_more words word line next before is =
    is ∙ ap (λ (text : List ℕ). text ++ spaced word) before ∙ flat_map_more spaced (codes "REFUSED") words word

-- the line has the words of name, line number, column and cause
pub returns : goal.returns
returns c =
    let kind = codes "row" in
    let name = told_name c.args.name.now in
    let number = decimal c.args.number in
    let column = decimal c.args.fault.column in
    let cause = cause_word c.args.fault.cause in
    let column_is : c.push_number-2.new.line.items ≡ c.push_number.new.line.items ++ spaced column = search rules in
    let cause_is =
    c.in_ok-push_word.ensures
    ∙ ap (λ (word : List ℕ). c.push_number-2.new.line.items ++ spaced word) c.cause_word.ensures in
    let with_name = word_more (kind ∷ []) name _ _ c.in_ok-line.ensures c.in_ok-push_name.ensures in
    let with_number = word_more (kind ∷ name ∷ []) number _ _ with_name c.in_ok-push_number.ensures in
    let with_column = word_more (kind ∷ name ∷ number ∷ []) column _ _ with_number column_is in
    let whole = word_more (kind ∷ name ∷ number ∷ column ∷ []) cause _ _ with_column cause_is in
    c.in_ok-push.ensures.items ∙ ap (λ (text : List ℕ). text ++ 10 ∷ []) whole
