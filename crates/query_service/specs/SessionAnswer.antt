-- The texts that answer a line of `describe` and a line of `session`.
use Rattle.std.specs.Prelude.{ℕ, ◌≡◌, ◌-◌, ◌^◌, ◌<◌, ◌≤◌, List, codes, length, unwrap_or}
use Rattle.ecl_lexer.specs.Tokens.{most_bytes}
use Rattle.held_release.specs.Contents.{Contents}
use Rattle.concept_printer.specs.ConceptText.{description_text}
use Rattle.session_line.specs.SessionRequest.{Asked, asked, asks_concept, asks_nothing, asks_page, asks_plan}
use Rattle.session_line.specs.declared.request.Page.{Page}
use Rattle.answer_printer.specs.declared.form.AnswerForm.{AnswerForm}
use Rattle.query_service.specs.Explanation.{IsExplanation}
use Rattle.query_service.specs.LimitedAnswer.{IsAnswerWithin}

-- `text` answers a line of `describe`: it is what the release says of the concept that the line
-- names
abbrev pub IsDescription : Contents → List ℕ → List ℕ → Type 0
IsDescription contents line text = text ≡ description_text contents line

-- the form of answer that a page asks for
abbrev pub page_form : Page → AnswerForm
page_form page = record { offset = page.offset; first = page.count; names = page.names }

-- the limit on the visits of a page's plan; without a limit 2^64 - 1, which no bound exceeds
abbrev pub page_limit : Page → ℕ
page_limit page = unwrap_or page.limit (2 ^ 64 - 1)

-- `text` answers a request of a session
abbrev pub AnswersAsked : Contents → Asked → List ℕ → Type 0
AnswersAsked contents (asks_page page constraint) text =
    IsAnswerWithin (page_limit page) (page_form page) contents constraint text
AnswersAsked contents (asks_plan constraint) text = IsExplanation contents constraint text
AnswersAsked contents (asks_concept id) text = IsDescription contents id text
AnswersAsked contents asks_nothing text = text ≡ codes "ERR request\n"

-- `text` answers a line of `session`: it answers the request in the line, or says that the line is
-- too long
pub record IsSessionAnswer (contents : Contents) (line text : List ℕ) : Type 0 where
  -- a line that is too long has the answer `ERR long`
  pub long : most_bytes < length line → text ≡ codes "ERR long\n"
  -- for any other line, `text` answers the line's request
  pub asked_is : length line ≤ most_bytes → AnswersAsked contents (asked line) text
