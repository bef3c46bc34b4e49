-- The text that answers a line of the input, in each mode of the program.
use Rattle.std.specs.Prelude.{ℕ, ◌≡◌, List, []}
use Rattle.held_release.specs.Contents.{Contents}
use Rattle.answer_printer.specs.declared.form.AnswerForm.{AnswerForm}
use Rattle.command_line.specs.declared.words.Mode.{Mode}
use Rattle.command_line.specs.declared.words.Mode.TheVariants.{Sample, Query, QueryWith, Explain, Describe, Session}
use Rattle.command_line.specs.declared.words.Mode.TheVariants.{Check}
use Rattle.command_line.specs.declared.words.QueryOptions.{QueryOptions}
use Rattle.query_service.specs.Answer.{IsAnswer}
use Rattle.query_service.specs.Explanation.{IsExplanation}
use Rattle.query_service.specs.LimitedAnswer.{IsAnswerWithin}
use Rattle.query_service.specs.SessionAnswer.{IsDescription, IsSessionAnswer}

-- the form of answers that the options of `query` ask for
abbrev pub form_of : QueryOptions → AnswerForm
form_of options = record { offset = 0; first = options.first; names = options.names }

-- the relation between a line and the texts that answer it, for each mode; `check` reads no line,
-- so its text is empty
abbrev pub answers_in : Mode → Contents → List ℕ → List ℕ → Type 0
answers_in Sample = IsAnswer
answers_in Query = IsAnswer
answers_in (QueryWith options) = IsAnswerWithin options.limit (form_of options)
answers_in Explain = IsExplanation
answers_in Describe = IsDescription
answers_in Session = IsSessionAnswer
answers_in Check = λ contents line text. text ≡ []
