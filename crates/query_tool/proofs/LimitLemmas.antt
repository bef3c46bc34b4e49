-- The text for the result of a query line answers the line under the limit.
use Rattle.std.proofs.Common.{ℕ, ◌≡◌, ◌∙◌, ◌+◌, ◌-◌, ◌^◌, ◌<◌, ◌≤◌, ◌≢◌}
use Rattle.std.proofs.Common.{arith, if◌then◌else◌, inl, inr, List, ap, refl, sym, subst}
use Rattle.std.specs.Prelude.{⊤}
use Rattle.std.proofs.lemmas.Bool.{cases_lt, le-ltb, lt-ltb}
use Rattle.std.proofs.Math.Nat.{min-eq_left, min-eq_right, min-le_right}
use Rattle.ecl_lexer.specs.declared.fault.QueryFault.TheVariants.{Memory}
use Rattle.constraint_tree.specs.Refusal.{IsConstraint, IsRefusalOf}
use Rattle.constraint_tree.specs.Tree.{Tree}
use Rattle.held_release.specs.Contents.{Contents}
use Rattle.held_release.specs.Name.{name_of}
use Rattle.postings.specs.Indexed.{Indexed, IsIndexOf}
use Rattle.plan_bounds.specs.Bounds.{bound, capped}
use Rattle.answer_printer.specs.AnswerText.{answer_in, bound_refusal, whole_form}
use Rattle.answer_printer.specs.declared.form.AnswerForm.{AnswerForm}
use Rattle.query_service.specs.Answer.{IsAnswer}
use Rattle.query_service.specs.LimitedAnswer.{IsAnswerCounted, IsAnswerWithin, constraint_answer_in}
use Rattle.query_service.specs.LimitedAnswer.{least_plan, told_bound, unless_above}
use Rattle.query_tool.specs.declared.finding.LineFound.{LineFound}
use Rattle.query_tool.specs.declared.finding.LineFound.TheVariants.{Refused, Above, Concepts}
use Rattle.query_tool.specs.inside.LineFound.{AreFound, IsAbove, MatchFound, found_text}

-- if the bound `most` is above the limit, `unless_above` is the line with the bound
above_stands : (limit most : ℕ) (answer : List ℕ) → limit < most → unless_above limit most answer ≡ bound_refusal most
above_stands limit most answer above = ap (λ b. if b then bound_refusal most else answer) (lt-ltb limit most above)

-- if the bound `most` is not above the limit, `unless_above` is the answer
answer_stands : (limit most : ℕ) (answer : List ℕ) → most ≤ limit → unless_above limit most answer ≡ answer
answer_stands limit most answer within = ap (λ b. if b then bound_refusal most else answer) (le-ltb limit most within)

-- ---- the result of a query line, and its answer
module _ {S : Type 0} (items : S → List ℕ) (limit : ℕ) (form : AnswerForm) (contents : Contents) (indexed : Indexed)
    (of_release : IsIndexOf indexed contents.release) (line : List ℕ) (early late : ℕ) where
  -- if `found` is the result of a line under a limit, with the counts of visits, then its text answers the line under
  -- the limit, with these counts
  pub found_answers : (found : LineFound S)
      → MatchFound found (λ fault. IsRefusalOf line fault × (late ≡ early))
      (λ most. (tree : Tree) × IsConstraint line tree × IsAbove limit contents indexed tree early late most)
      (λ set. (tree : Tree) × IsConstraint line tree × AreFound limit contents indexed tree early late (items set))
      → IsAnswerCounted limit form contents line early late (found_text items form contents found)
  found_answers (Refused fault) (refused, unread) = inr (fault, refused, refl, unread)
  found_answers (Above most) (tree, is, above) =
      let over : limit < told_bound indexed tree = subst (λ (number : ℕ). limit < number) above.most_is above.above in
      inl (
        tree,
        is,
        record {
          answers = record {
            indexed = indexed;
            of_release = of_release;
            explained = above.explained;
            written = ap bound_refusal above.most_is ∙ sym (above_stands limit (told_bound indexed tree) _ over);
          };
          reads = record {
            refused = λ _. above.unread;
            within = omega (arith, above.unread);
            floor_is_read = λ under. absurd (omega (arith, over, under));
          };
        },
      )
  found_answers (Concepts set) (tree, is, found) = inl (
    tree,
    is,
    record {
      answers = record {
        indexed = indexed;
        of_release = of_release;
        explained = found.explained;
        written = ap (answer_in form (name_of contents.release contents.language)) found.concepts
            ∙ sym (answer_stands limit (told_bound indexed tree) _ found.not_above);
      };
      reads = record {
        refused = λ over. absurd (omega (arith, over, found.not_above));
        within = found.within;
        floor_is_read = λ _. found.floor_is_read;
      };
    },
  )

-- an answer under a limit with counts of visits is an answer under the limit
pub counted_answers : (limit : ℕ) (form : AnswerForm) (contents : Contents) (line : List ℕ) (early late : ℕ)
    (text : List ℕ) → IsAnswerCounted limit form contents line early late text
    → IsAnswerWithin limit form contents line text
counted_answers limit form contents line early late text (inl (tree, is, counted)) = inl (tree, is, counted.answers)
counted_answers limit form contents line early late text (inr (fault, refused, told, unread)) =
    inr (fault, refused, told)

-- an answer over the contents `own` is an answer over equal contents, with the same counts
pub same_counted : {own contents : Contents} (limit : ℕ) (form : AnswerForm) (line : List ℕ) (early late : ℕ)
    (text : List ℕ) → own ≡ contents → IsAnswerCounted limit form own line early late text
    → IsAnswerCounted limit form contents line early late text
same_counted limit form line early late text same counted =
    subst (λ (contents : Contents). IsAnswerCounted limit form contents line early late text) same counted

-- a capped number is at most 2^64 - 1
capped_within : (number : ℕ) → capped number ≤ 2 ^ 64 - 1
capped_within number = min-le_right number (2 ^ 64 - 1)

-- an answer under the limit 2^64 - 1, with all lines and names, is the answer to the line
pub unlimited_answers : (contents : Contents) (line text : List ℕ)
    → IsAnswerWithin (2 ^ 64 - 1) whole_form contents line text
    → IsAnswer contents line text
unlimited_answers contents line text (inl (tree, is, answers)) =
    inl (
      tree,
      is,
      answers.written ∙ answer_stands (2 ^ 64 - 1) (told_bound answers.indexed tree)
          (constraint_answer_in whole_form contents tree)
          (capped_within (bound answers.indexed (least_plan answers.indexed tree))),
    )
unlimited_answers contents line text (inr refused) = inr refused

-- if the visits are at most the plan's bound `most`, and the capped bound is at most `limit`, then the visits are at
-- most `limit`
pub within_limit : (limit early late most : ℕ) → capped most ≤ limit → late ≤ early + most → late < 2 ^ 64
    → late ≤ early + limit
within_limit limit early late most under within small = elim (cases_lt (2 ^ 64 - 1) most) [
  | inl over ↦
      let full : capped most ≡ 2 ^ 64 - 1 = min-eq_right (omega (arith, over)) in
      omega (arith, full, under, small)
  | inr fits ↦
      let same : capped most ≡ most = min-eq_left fits in
      omega (arith, same, under, within)
]

-- the result of a line is never the refusal `Memory`, so its text exists
pub told_found : {S : Type 0} (HasBound : S → Type 0) (IsUnread : Type 0) (IsOver : ℕ → Type 0) (IsFound : S → Type 0)
    (line : List ℕ) (found : LineFound S) → MatchFound found (λ fault. IsRefusalOf line fault × IsUnread) IsOver IsFound
    → MatchFound found (λ _. ⊤) (λ _. ⊤) HasBound → MatchFound found (λ fault. fault ≢ Memory) (λ _. ⊤) HasBound
told_found HasBound IsUnread IsOver IsFound line (Refused fault) (refused, unread) bound =
    λ memory. subst (IsRefusalOf line) memory refused
told_found HasBound IsUnread IsOver IsFound line (Above most) over bound = tt
told_found HasBound IsUnread IsOver IsFound line (Concepts set) found bound = bound
