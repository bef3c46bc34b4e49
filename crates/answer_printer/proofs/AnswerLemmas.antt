-- Lemmas on the concepts whose lines an answer shows, and on texts that are written item by item.
use Rattle.std.proofs.Common.{◌≡◌, ◌∙◌, ℕ, ◌+◌, ◌<◌, ◌≤◌, ◌-◌, ◌^◌, ◌++◌, ◌∷◌, [], All, List, Option}
use Rattle.std.proofs.Common.{append-nil, append_assoc, ap, unwrap_or}
use Rattle.std.proofs.Common.{arith, drop, get_or, length, map, None, Some, subst, sym, take}
use Rattle.std.specs.Prelude.{slice_index}
use Rattle.std.specs.List.{flat_map}
use Rattle.std.proofs.Math.Seq.{take-append_seam}
use Rattle.std.proofs.lemmas.List.{at_drop_all, at_drop_more, drop-map, length-map, length-take, take_all}
use Rattle.std.proofs.lemmas.List.{take-append-drop, take-append-le, take-map}
use Rattle.std.proofs.lemmas.List.Elements.{All-drop, All-take}
use Rattle.number_lists.specs.Rising.{IsRisingBelow}
use Rattle.idset.proofs.WordLemmas.{items_below}
use Rattle.held_release.specs.Line.{concept_line}
use Rattle.answer_printer.specs.AnswerText.{answer_head, answer_in, shown_names, shown_of}
use Rattle.answer_printer.specs.declared.form.AnswerForm.{AnswerForm}
use Rattle.answer_printer.specs.inside.Prefix.{IsPrefixOf}

-- if `shown` are at most `first` items after `offset` (at most 2^64 - 1 if `first` is `None`) and fewer than 2^63,
-- then `shown` is `shown_of offset first items`
pub most_shown : (offset : ℕ) (first : Option ℕ) (items shown : List ℕ)
    → shown ≡ take (unwrap_or first (2 ^ 64 - 1)) (drop offset items) → length shown < 2 ^ 63
    → shown ≡ shown_of offset first items
most_shown offset (Some first) items shown is small = is
most_shown offset None items shown is small =
    is ∙ take_all (2 ^ 64 - 1) (drop offset items)
    (omega (arith, ap length is, length-take (2 ^ 64 - 1) (drop offset items)))

-- if the rising items of a set are below `bound`, and `bound` is the number of concepts, then each shown item is
-- below the number of concepts
pub shown_are_concepts : (bound count offset : ℕ) (first : Option ℕ) (items shown : List ℕ)
    → shown ≡ shown_of offset first items → IsRisingBelow bound items → bound ≡ count
    → All (λ concept. concept < count) shown
shown_are_concepts bound count offset first items shown is rising same =
    subst (λ (those : List ℕ). All (λ concept. concept < count) those) (sym is) (of_each first)
  where
    all : All (λ concept. concept < count) items
    all = subst (λ (least : ℕ). All (λ concept. concept < least) items) same (items_below bound items rising)

    -- each item after the offset is below the count of concepts
    following : All (λ concept. concept < count) (drop offset items)
    following = All-drop (λ concept. concept < count) offset items all

    -- whatever `first` is, each shown item is below the count of concepts
    of_each : (first : Option ℕ) → All (λ concept. concept < count) (shown_of offset first items)
    of_each None = following
    of_each (Some first) = All-take (λ concept. concept < count) first (drop offset items) following

-- mapping numbers to identifiers and then choosing the shown ones gives the same list as choosing first
shown_mapped : (concepts : List ℕ) (offset : ℕ) (first : Option ℕ) (items : List ℕ)
    → map (slice_index concepts) (shown_of offset first items)
    ≡ shown_of offset first (map (slice_index concepts) items)
shown_mapped concepts offset None items = sym (drop-map (slice_index concepts) offset items)
shown_mapped concepts offset (Some first) items =
    sym (take-map (slice_index concepts) first (drop offset items))
    ∙ ap (take first) (sym (drop-map (slice_index concepts) offset items))

-- the first line of an answer, followed by the lines of the shown concepts, is the answer in the form `form`
pub lines_answer : (form : AnswerForm) (name : ℕ → Option (List ℕ)) (concepts items shown head : List ℕ) (count : ℕ)
    → head ≡ answer_head count → count ≡ length items → shown ≡ shown_of form.offset form.first items
    → head ++ flat_map (concept_line (shown_names form.names name)) (map (slice_index concepts) shown)
    ≡ answer_in form name (map (slice_index concepts) items)
lines_answer form name concepts items shown head count head_is count_is shown_is =
    let lines = λ (those : List ℕ). flat_map (concept_line (shown_names form.names name)) those in
    let counted = head_is ∙ ap answer_head (count_is ∙ sym (length-map items (slice_index concepts))) in
    let among = ap (map (slice_index concepts)) shown_is ∙ shown_mapped concepts form.offset form.first items in
    (λ i. counted i ++ lines (among i))

-- ---- the texts of the items of a list are written one after the other
module _ {X : Type 0} (texts : List X → List ℕ) (items : List X) (place : ℕ) (so_far whole : List ℕ)
    (before : so_far ++ texts (drop place items) ≡ whole) where
  -- invariant step: if `so_far` and the texts of the items from `place` on are `whole`, then so are `so_far` with the
  -- text of item `place`, and the texts of the items after it
  pub text_turn : (d : X) (text next : List ℕ) → place < length items
      → text ++ texts (drop (place + 1) items) ≡ texts (get_or items place d ∷ drop (place + 1) items)
      → next ≡ so_far ++ text → next ++ texts (drop (place + 1) items) ≡ whole
  text_turn d text next within text_is next_is =
      ap (λ (done : List ℕ). done ++ texts (drop (place + 1) items)) next_is
      ∙ append_assoc so_far text (texts (drop (place + 1) items))
      ∙ ap (λ (left : List ℕ). so_far ++ left) (text_is ∙ sym (at_drop_more texts items place d within))
      ∙ before

  -- invariant end: if no item remains at `place`, then `so_far` is `whole`
  pub text_end : length items ≤ place → texts [] ≡ [] → so_far ≡ whole
  text_end past none =
      sym (append-nil so_far)
      ∙ ap (λ (left : List ℕ). so_far ++ left) (sym (at_drop_all texts items place past ∙ none))
      ∙ before

-- `bytes` is a prefix of `bytes ++ more`
pub prefix_of : (bytes more : List ℕ) → IsPrefixOf bytes (bytes ++ more)
prefix_of bytes more = take-append_seam bytes more

-- each list of bytes is a prefix of itself
pub prefix_same : (bytes : List ℕ) → IsPrefixOf bytes bytes
prefix_same bytes = ap (take (length bytes)) (sym (append-nil bytes)) ∙ prefix_of bytes []

-- if `front` is a prefix of `bytes`, it is also a prefix of `bytes ++ more`
pub prefix_more : (front bytes more : List ℕ) → IsPrefixOf front bytes → IsPrefixOf front (bytes ++ more)
prefix_more front bytes more begun =
    let as_long = ap (λ (found : List ℕ). length found) begun in
    let shorter : length front ≤ length bytes = omega (arith, length-take (length front) bytes, as_long) in
    take-append-le (length front) bytes more shorter ∙ begun

-- the prefix relation is transitive
pub prefix_joined : (front middle bytes : List ℕ) → IsPrefixOf front middle → IsPrefixOf middle bytes
    → IsPrefixOf front bytes
prefix_joined front middle bytes begun goes_on =
    let whole : middle ++ drop (length middle) bytes ≡ bytes =
    ap (λ (part : List ℕ). part ++ drop (length middle) bytes) (sym goes_on) ∙ take-append-drop (length middle) bytes in
    subst (λ (text : List ℕ). IsPrefixOf front text) whole (prefix_more front middle (drop (length middle) bytes) begun)
