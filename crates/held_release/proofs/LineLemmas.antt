-- The lines of concepts, added one after another.
use Rattle.std.proofs.Common.{rules, ℕ, ◌≡◌, ◌≤◌, ◌<◌, ◌+◌, ◌++◌, ◌∷◌, [], All, List, Option, None, Some, length}
use Rattle.std.proofs.Common.{get_or, map, take, ap, arith, length-append, IfSome, option_and_then, option_map}
use Rattle.std.proofs.Common.{slice_get, slice_range}
use Rattle.std.proofs.lemmas.Bool.Decides.{nat_tests}
use Rattle.std.proofs.lemmas.Grind.{common_steps}
use Rattle.std.proofs.lemmas.List.{get_or-map, get_or_default, get_or_read, map_more}
use Rattle.std.proofs.lemmas.Option.{slice_get_within}
use Rattle.release_model.specs.Release.{Name}
use Rattle.held_release.specs.inside.FirstRows.{AreFirstPlaces}
use Rattle.number_lists.specs.inside.KeyedListsInside.{AreStarts}
use Rattle.held_release.specs.Line.{concept_line}
use Rattle.held_release.specs.Name.{first_name, name_among, names_of}
use Rattle.number_lists.proofs.CutLemmas.{below_cut, cut, cut-push, end_within, found, slice_range-append, starts-push}
use Rattle.number_lists.proofs.ListLemmas.{same_maps}

-- if `place` is the index of the row that comes first, or there is neither, it is below the number of rows
pub place_within : (names : List Name) (place : Option ℕ) (first : Option Name)
    → option_map (slice_get names) place ≡ option_map Some first → IfSome place (λ at. at < length names)
place_within names place first h0 = grind (arith, common_steps, nat_tests, slice_get_within)

-- each index in `places`, which has the rows that name the concepts, is below the number of rows
pub places_within : (language concepts : List ℕ) (names some : List Name) (places : List (Option ℕ))
    → AreFirstPlaces language concepts names some places
    → All (λ (place : Option ℕ). IfSome place (λ at. at < length names)) places
places_within language concepts names some places are =
    λ k d within. grind (
      arith,
      (get_or_default places k None d within),
      (place_within names (get_or places k None) (first_name language (names_of (get_or concepts k 0) some))),
      are.0,
      (are.1 k),
    )

-- the lines of the first `number` concepts and the line of the next one are the lines of `number + 1` concepts
pub lines-more : (language concepts : List ℕ) (names : List Name) (places : List (Option ℕ)) (number concept : ℕ)
    (name : Option (List ℕ))
    → AreFirstPlaces language concepts names names places → number < length concepts
    → concept ≡ get_or concepts number concept
    → name ≡ option_map (λ (row : Name). row.term) (option_and_then (slice_get names) (get_or places number None))
    → map (concept_line (name_among language names)) (take number concepts) ++ concept_line (λ _. name) concept ∷ []
    ≡ map (concept_line (name_among language names)) (take (number + 1) concepts)
lines-more language concepts names places number concept name are within concept_is name_is =
    grind (arith, common_steps, nat_tests, get_or_read, map_more)

-- a line is put after the others, and its end after the other starts
module _ (starts starts_after texts texts_after line : List ℕ) (end : ℕ) (grown : texts_after ≡ texts ++ line)
    (ends : end ≡ length texts_after) (pushed : starts_after ≡ starts ++ end ∷ []) (kept : AreStarts starts texts) where
  -- a text that grows by a line, whose end is pushed to the starts, is cut into one line more
  pub line-pushed : cut starts_after texts_after ≡ cut starts texts ++ line ∷ []
  line-pushed = grind (arith, cut, cut-push, length-append)

  -- starts stay valid if a line comes and its end is pushed
  pub starts-pushed : AreStarts starts_after texts_after
  starts-pushed = grind (arith, common_steps, nat_tests, starts-push, length-append)

-- the lines that `starts` cut out of a text stay the same if more text is appended
pub lines-append : (starts lines more : List ℕ) → AreStarts starts lines → cut starts (lines ++ more) ≡ cut starts lines
lines-append starts lines more kept = search (rules, end_within, get_or, same_maps, slice_range-append)

-- if the text begins with the lines, the line `number` is the text between its start and the next start, and both are
-- within the text
pub line_places : (starts texts : List ℕ) (lists : List (List ℕ)) (number : ℕ)
    → (lines more : List ℕ) × (texts ≡ lines ++ more) × AreStarts starts lines → cut starts texts ≡ lists
    → number < length lists
    → (number + 1 < length starts) × (get_or starts number 0 ≤ get_or starts (number + 1) 0)
    × (get_or starts (number + 1) 0 ≤ length texts)
    × (get_or lists number [] ≡ slice_range texts (get_or starts number 0) (get_or starts (number + 1) 0))
line_places starts texts lists number (lines, more, grown, kept) are below =
    let next = below_cut starts texts lists number are below in
    let end = end_within starts lines kept (number + 1) next in (
      next,
      kept.rise number next,
      omega (arith, end, ap (λ (text : List ℕ). length text) grown, length-append lines more),
      found starts texts lists number are below,
    )

-- the item `number` of the lines of all concepts is the line of the concept with this number
pub line_among : (name : ℕ → Option (List ℕ)) (concepts : List ℕ) (number : ℕ) → number < length concepts
    → get_or (map (concept_line name) concepts) number [] ≡ concept_line name (get_or concepts number 0)
line_among name concepts number below = get_or-map (concept_line name) concepts number 0 [] below
