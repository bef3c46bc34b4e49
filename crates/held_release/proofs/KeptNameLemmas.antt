-- Stored name rows keep their texts while the buffer and the spans of language codes grow.
use Rattle.std.proofs.Common.{arith, ℕ, ◌≡◌, ◌<◌, ◌+◌, ◌++◌, ◌∙◌, length, get_or, List, [], ◌∷◌, map, ap, All, Option}
use Rattle.std.proofs.Common.{None, Some, set, take, length-append, slice_get, get_or-set_other, get_or-set_same}
use Rattle.std.proofs.Common.{length-set}
use Rattle.std.proofs.lemmas.Bool.Decides.{nat_tests}
use Rattle.std.proofs.lemmas.Grind.{common_steps}
use Rattle.std.proofs.lemmas.Bool.{cases_eq}
use Rattle.std.proofs.lemmas.List.{get_or_append_left, take_more}
use Rattle.std.proofs.lemmas.Option.{IfSome_then, slice_get_within}
use Rattle.release_model.specs.Release.{Name}
use Rattle.row_lists.specs.Spans.{AreSpansOf, Extends, StandsAt, no_span, text_at}
use Rattle.row_lists.specs.declared.spans.Span.{Span}
use Rattle.row_lists.proofs.SpanLemmas.{all-push, rows-push, span-extends, stands-extends, text-extends}
use Rattle.held_release.specs.inside.NamesInLines.{AreNoted, IsKept, name_kept, term_span}
use Rattle.held_release.specs.declared.kept_names.KeptName.{KeptName}

-- if `spans` are right for the terms in `texts`, they are right in each text that begins with `texts`
pub noted-extends : (names : List Name) (texts grown : List ℕ) (spans : List (Option Span))
    → AreNoted names texts spans → Extends texts grown → AreNoted names grown spans
noted-extends names texts grown spans noted extends = record {
  each = noted.each;
  stand = λ place name there. IfSome_then (get_or spans place None) (noted.stand place name there)
      (λ span stands. stands-extends texts grown extends name.term span stands);
}

-- if `span` is the span of the term of the row at the index `place`, `spans` stay right if the entry of this row is set
-- to it
pub noted-set : (names : List Name) (texts : List ℕ) (spans : List (Option Span)) (place : ℕ) (name : Name)
    (span : Span)
    → AreNoted names texts spans → slice_get names place ≡ Some name → StandsAt texts name.term span
    → AreNoted names texts (set spans place (Some span))
noted-set names texts spans place name span noted there stands =
    grind (arith, common_steps, nat_tests, cases_eq, get_or-set_other, get_or-set_same, length-set, slice_get_within)

-- one kept row more, while the buffer and the spans of language codes grow
module _ (texts grown : List ℕ) (languages more : List Span) (kept items : List KeptName) (row : KeptName)
    (extends : Extends texts grown) (extends_languages : Extends languages more) (pushed : items ≡ kept ++ row ∷ [])
    (are : All (IsKept texts languages) kept) where
  -- if the new row is kept in the grown buffer, so are all rows
  pub kept-push : IsKept grown more row → All (IsKept grown more) items
  kept-push is =
      all-push (IsKept texts languages) (IsKept grown more) (λ row kept. record {
        language = omega (
          arith,
          kept.language,
          ap length extends_languages.1,
          length-append languages
              extends_languages.0,
        );
        term = span-extends texts grown extends (term_span row) kept.term;
      }) kept items row pushed are is

  -- if the rows so far stand for the first `place` names and the new row for the next one, they stand for `place + 1`
  -- names
  pub names-push : AreSpansOf texts languages → (names : List Name) (place : ℕ) (name : Name)
      → map (name_kept texts languages) kept ≡ take place names
      → name_kept grown more row ≡ name → place < length names → name ≡ get_or names place name
      → map (name_kept grown more) items ≡ take (place + 1) names
  names-push placed names place name so_far is within there =
      rows-push (name_kept texts languages) (name_kept grown more) (IsKept texts languages) same kept items row
      (get_or names place name) pushed are (is ∙ there)
      ∙ grind (arith, so_far, (take_more names place name within))
    where
      same : (row : KeptName) → IsKept texts languages row → name_kept grown more row ≡ name_kept texts languages row
      same row is =
          let language : get_or more row.language no_span ≡ get_or languages row.language no_span =
          ap (λ (spans : List Span). get_or spans row.language no_span) extends_languages.1
          ∙ get_or_append_left languages extends_languages.0 no_span row.language is.language in
          λ i. record {
            id = row.id;
            concept = row.concept;
            language = ((ap (text_at grown) language
                ∙ text-extends texts grown extends (get_or languages row.language no_span)
                (placed row.language no_span is.language)) i);
            term = text-extends texts grown extends (term_span row) is.term i;
          }
