use Rattle.std.proofs.Common.{◌≡◌, ◌∙◌, Some, sym, ap}
use Rattle.ecl_lexer.specs.Reading.{lexeme_at}
use Rattle.ecl_lexer.proofs.FoundLemmas.{lexeme_at-stands}
use Rattle.ecl_lexer.proofs.StandsLemmas.{lexeme_at-read}
use Rattle.ecl_lexer.proofs.laws.found_lexemes_stand.Goals as goal

-- `lexeme_at` finds the lexeme that stands where a text begins
pub returns-clause-found : goal.returns-clause-found
returns-clause-found c = lexeme_at-read

-- the lexeme that `lexeme_at` finds stands where the text begins
pub returns-clause-stands : goal.returns-clause-stands
returns-clause-stands c = λ text lexeme found. let stands =
    lexeme_at-stands text lexeme found in (stands.rest, stands.is, stands.stands)

-- at most one lexeme stands where a text begins
pub returns-clause-one : goal.returns-clause-one
returns-clause-one c = λ one other rest following first second same.
    let found : Some one ≡ Some other = sym (lexeme_at-read one rest first) ∙ ap lexeme_at same
    ∙ lexeme_at-read other following second in cc
