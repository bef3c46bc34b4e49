-- In each mode, lines with the same first 65,536 bytes have the same answers. So a run keeps no
-- more of a line.
use Rattle.std.proofs.Common.{◌≡◌, ℕ, ◌<◌, List, Some, codes, cond, length, inl, inr, sym, ap, ◌∙◌, subst, min, arith}
use Rattle.std.proofs.lemmas.Bool.{cases_lt, lt-ltb}
use Rattle.std.proofs.lemmas.List.{length-take, take_all}
use Rattle.ecl_lexer.specs.Tokens.{most_bytes}
use Rattle.ecl_lexer.specs.declared.fault.QueryFault.{QueryFault}
use Rattle.ecl_lexer.specs.declared.fault.QueryFault.TheVariants.{Long, Utf8, Token, Unsupported, Limit, Depth, Syntax}
use Rattle.ecl_lexer.specs.declared.fault.QueryFault.TheVariants.{Memory}
use Rattle.constraint_tree.specs.Refusal.{IsRefusalOf}
use Rattle.constraint_tree.specs.Tree.{Tree}
use Rattle.held_release.specs.Contents.{Contents}
use Rattle.answer_printer.specs.AnswerText.{refusal_text}
use Rattle.query_run.specs.KeptLine.{kept_of}
use Rattle.query_service.specs.Answer.{IsForLine, constraint_answer}
use Rattle.query_service.specs.Explanation.{Explains}
use Rattle.query_service.specs.LimitedAnswer.{AnswersWithin}
use Rattle.query_service.specs.ModeAnswer.{answers_in, form_of}
use Rattle.concept_printer.specs.ConceptText.{description_text, told_unless}
use Rattle.concept_printer.specs.NamedConcept.{short_fault}
use Rattle.concept_printer.specs.declared.named_concept.LineFault.TheVariants.{Long as TooLong}
use Rattle.query_service.specs.SessionAnswer.{IsDescription, IsSessionAnswer}
use Rattle.command_line.specs.declared.words.Mode.{Mode}
use Rattle.command_line.specs.declared.words.Mode.TheVariants.{Sample, Query, QueryWith, Explain, Describe, Session}
use Rattle.command_line.specs.declared.words.Mode.TheVariants.{Check}

-- a line that is too long has only one text, the refusal `Long`
long_text : (IsFor : Tree → List ℕ → Type 0) (line text : List ℕ) → most_bytes < length line
    → IsForLine IsFor line text → text ≡ refusal_text Long
long_text IsFor line text long (inl (tree, is, found)) = absurd (omega (arith, long, is.readable.0))
long_text IsFor line text long (inr (fault, is, same)) = by fault is same
  where
    by : (fault : QueryFault) → IsRefusalOf line fault → text ≡ refusal_text fault
        → text ≡ refusal_text Long
    by Long is same = same
    by Utf8 is same = absurd (omega (arith, long, is.0))
    by (Token offset) is same = absurd (omega (arith, long, is.0.0))
    by (Unsupported offset feature) is same = absurd (omega (arith, long, is.0.0))
    by (Limit offset) is same = absurd (omega (arith, long, is.0.0))
    by Depth is same = absurd (omega (arith, long, is.0.0))
    by Syntax is same = absurd (omega (arith, long, is.0.0))
    by Memory is same = absurd is

-- if any two lines that are too long have the same answers, then any two lines with the same first
-- 65,536 bytes have the same answers: either they are equal, or both are too long
same_front_of : (answers : List ℕ → List ℕ → Type 0)
    → ((one other text : List ℕ) → most_bytes < length one → most_bytes < length other
    → answers one text → answers other text)
    → (one other text : List ℕ) → kept_of one ≡ kept_of other → answers one text
    → answers other text
same_front_of answers alike one other text same answered =
    let lengths : min 65536 (length one) ≡ min 65536 (length other) =
    sym (length-take 65536 one) ∙ ap length same ∙ length-take 65536 other in
    elim (cases_lt most_bytes (length one)) [
      | inl long ↦ alike one other text long (omega (arith, lengths)) answered
      | inr short ↦
          let whole : one ≡ other =
          sym (take_all 65536 one (omega arith)) ∙ same
          ∙ take_all 65536 other (omega (arith, lengths)) in
          subst (λ (line : List ℕ). answers line text) whole answered
    ]

-- lines with the same first 65,536 bytes have the same texts by `IsForLine`
same_front_for : (IsFor : Tree → List ℕ → Type 0) (one other text : List ℕ)
    → kept_of one ≡ kept_of other
    → IsForLine IsFor one text → IsForLine IsFor other text
same_front_for IsFor =
    same_front_of (IsForLine IsFor)
    (λ one other text long also answered. inr (Long, also, long_text IsFor one text long answered))

-- a line of `describe` that is too long has the answer `ERR long`
long_described : (contents : Contents) (line : List ℕ) → most_bytes < length line
    → description_text contents line ≡ codes "ERR long\n"
long_described contents line long =
    ap (told_unless contents line)
    (λ i. cond (lt-ltb most_bytes (length line) long i) (Some TooLong) (short_fault line))

-- lines with the same first 65,536 bytes have the same descriptions
same_front_described : (contents : Contents) (one other text : List ℕ) → kept_of one ≡ kept_of other
    → IsDescription contents one text → IsDescription contents other text
same_front_described contents =
    same_front_of (IsDescription contents)
    (λ one other text long also told.
    told ∙ long_described contents one long ∙ sym (long_described contents other also))

-- lines with the same first 65,536 bytes have the same answers in a session
same_front_requested : (contents : Contents) (one other text : List ℕ) → kept_of one ≡ kept_of other
    → IsSessionAnswer contents one text → IsSessionAnswer contents other text
same_front_requested contents =
    same_front_of (IsSessionAnswer contents)
    (λ one other text long also answered. record {
      long = λ _. answered.long long;
      asked_is = λ short. absurd (omega (arith, also, short));
    })

-- in each mode, if two lines have the same first 65,536 bytes, what answers the one answers the
-- other
pub same_front_in : (mode : Mode) (contents : Contents) (one other text : List ℕ)
    → kept_of one ≡ kept_of other
    → answers_in mode contents one text → answers_in mode contents other text
same_front_in Sample contents = same_front_for (λ tree text. text ≡ constraint_answer contents tree)
same_front_in Query contents = same_front_for (λ tree text. text ≡ constraint_answer contents tree)
same_front_in (QueryWith options) contents =
    same_front_for (AnswersWithin options.limit (form_of options) contents)
same_front_in Explain contents = same_front_for (Explains contents)
same_front_in Describe contents = same_front_described contents
same_front_in Session contents = same_front_requested contents
same_front_in Check contents = λ one other text same none. none
