-- The text that answers a query, and the lines that refuse one.
use Rattle.std.specs.Prelude.{ℕ, ◌++◌, Bool, true, false, List, [], ◌∷◌, length, drop, take, codes, decimal}
use Rattle.std.specs.Prelude.{Option, None, Some}
use Rattle.std.specs.List.{flat_map}
use Rattle.ecl_lexer.specs.Refusals.{feature_name}
use Rattle.ecl_lexer.specs.declared.fault.QueryFault.{QueryFault}
use Rattle.ecl_lexer.specs.declared.fault.QueryFault.TheVariants.{Long, Utf8, Token, Unsupported, Limit, Depth, Syntax}
use Rattle.ecl_lexer.specs.declared.fault.QueryFault.TheVariants.{Memory}
use Rattle.held_release.specs.Line.{concept_line}
use Rattle.answer_printer.specs.declared.form.AnswerForm.{AnswerForm}

-- a number in decimal on a line of its own
abbrev pub number_line : ℕ → List ℕ
number_line number = decimal number ++ 10 ∷ []

-- the first line of an answer: `OK` and the number of concepts
abbrev pub answer_head : ℕ → List ℕ
answer_head count = codes "OK " ++ number_line count

-- the whole answer: its first line, then a line for each of `concepts`, with its name if `name` has
-- one
abbrev pub answer_text : (ℕ → Option (List ℕ)) → List ℕ → List ℕ
answer_text name concepts = answer_head (length concepts) ++ flat_map (concept_line name) concepts

-- the form of an answer without options: every line, with names
abbrev pub whole_form : AnswerForm
whole_form = record { offset = 0; first = None; names = true }

-- the concepts whose lines are written: `offset` concepts are skipped, and at most `first` of the
-- others are kept (all if `first` is `None`)
abbrev pub shown_of : ℕ → Option ℕ → List ℕ → List ℕ
shown_of offset None concepts = drop offset concepts
shown_of offset (Some first) concepts = take first (drop offset concepts)

-- the names that an answer shows: those of `name`, or none
abbrev pub shown_names : Bool → (ℕ → Option (List ℕ)) → ℕ → Option (List ℕ)
shown_names true name = name
shown_names false name = λ concept. None

-- the answer in a form: `OK` and the count of all concepts, then the lines that the form asks for
abbrev pub answer_in : AnswerForm → (ℕ → Option (List ℕ)) → List ℕ → List ℕ
answer_in form name concepts =
    answer_head (length concepts)
    ++ flat_map (concept_line (shown_names form.names name))
    (shown_of form.offset form.first concepts)

-- the line that refuses a constraint whose plan may visit more items than the limit: `ERR bound`,
-- then the plan's bound `most`
abbrev pub bound_refusal : ℕ → List ℕ
bound_refusal most = codes "ERR bound " ++ number_line most

-- the line that refuses a text; `Memory` has no line
abbrev pub refusal_text : QueryFault → List ℕ
refusal_text Long = codes "ERR long\n"
refusal_text Utf8 = codes "ERR utf8\n"
refusal_text (Token offset) = codes "ERR token " ++ number_line offset
refusal_text (Unsupported offset feature) =
    codes "ERR unsupported " ++ decimal offset ++ codes " " ++ feature_name feature ++ codes "\n"
refusal_text (Limit offset) = codes "ERR limit " ++ number_line offset
refusal_text Depth = codes "ERR depth\n"
refusal_text Syntax = codes "ERR syntax\n"
refusal_text Memory = []
