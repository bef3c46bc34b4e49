-- The loop over the rows that were read and the items that one list has of them.
use Rattle.std.proofs.lemmas.Bool.Decides.{nat_tests}
use Rattle.std.proofs.lemmas.Grind.{common_steps}
use Rattle.std.proofs.Common.{ℕ, ◌≡◌, ◌+◌, ◌<◌, ◌≤◌, ◌∙◌, List, [], ◌∷◌, length, true, false, Bool, Option, ap, arith}
use Rattle.std.proofs.Common.{cond, drop, drop-cons, get_or, map, refl, suc, All, is_some, filter_map}
use Rattle.std.specs.List.{cons_option}
use Rattle.std.proofs.lemmas.List.{drop_all}
use Rattle.std.proofs.lemmas.List.Elements.{All-cons, All-drop, All-nil}
use Rattle.rf2_rows.specs.RowTexts.{RowText}
use Rattle.row_lists.specs.Marked.{marked}
use Rattle.row_lists.specs.ChosenLists.{in_list, items_chosen, same_listing}
use Rattle.row_lists.specs.declared.row_lists.Listing.{Listing}

-- the chosen items that are still to come from row `place` on, if `left` are the items of the rows from there on
abbrev pub to_come : {X : Type 0} → Listing → List Listing → List Bool → ℕ → List X → List X
to_come list marks choices place left = items_chosen (in_list list (drop place marks)) (drop place choices) left

open_marks : (marks : List Listing) (place : ℕ) (d : Listing) → place < length marks
    → drop place marks ≡ get_or marks place d ∷ drop (place + 1) marks
open_marks marks place d within = let next : suc place ≡ place + 1 = omega arith in
    rw (drop-cons marks place d) (ap (λ (at : ℕ). get_or marks place d ∷ drop at marks) next)

open_choices : (choices : List Bool) (place : ℕ) (e : Bool) → place < length choices
    → drop place choices ≡ get_or choices place e ∷ drop (place + 1) choices
open_choices choices place e within = let next : suc place ≡ place + 1 = omega arith in
    rw (drop-cons choices place e) (ap (λ (at : ℕ). get_or choices place e ∷ drop at choices) next)

module _ {X : Type 0} (list : Listing) where
  passed-step : (mark : Listing) (marks : List Listing) (choice : Bool) (choices : List Bool) (left : List X)
      → same_listing mark list ≡ false
      → items_chosen (in_list list (mark ∷ marks)) (choice ∷ choices) left
      ≡ items_chosen (in_list list marks) choices left
  passed-step mark marks choice choices left other = grind (arith, common_steps, nat_tests)

  no_choices : (heres : List Bool) (left : List X) → items_chosen heres [] left ≡ []
  no_choices [] [] = refl
  no_choices [] (item ∷ left) = refl
  no_choices (here ∷ heres) [] = refl
  no_choices (here ∷ heres) (item ∷ left) = refl

  no_marks : (choices : List Bool) (left : List X) → items_chosen [] choices left ≡ []
  no_marks choices left = grind (arith, common_steps, nat_tests)

  module _ (marks : List Listing) (choices : List Bool) (place : ℕ) (d : Listing) where
    -- a row that is not in the list has no item to come
    pub row_passed : (e : Bool) (left : List X) → place < length marks → place < length choices
        → same_listing (get_or marks place d) list ≡ false
        → to_come list marks choices place left ≡ to_come list marks choices (place + 1) left
    row_passed e left in_marks in_choices other =
        (λ i. items_chosen (in_list list (open_marks marks place d in_marks i))
        (open_choices choices place e in_choices i) left)
        ∙ passed-step (get_or marks place d) (drop (place + 1) marks) (get_or choices place e)
        (drop (place + 1) choices) left other

    -- a row that is in the list has the next item, which comes if the row is chosen
    pub row_listed : (e : Bool) (left : List X) → place < length marks → place < length choices
        → same_listing (get_or marks place d) list ≡ true
        → to_come list marks choices place left
        ≡ marked (get_or choices place e ∷ marked (in_list list (drop (place + 1) marks)) (drop (place + 1) choices))
        left
    row_listed e left in_marks in_choices same = grind (arith, common_steps, nat_tests, get_or)

    -- if a row is in the list but no item is left, no chosen item is to come
    pub row_missing : (e : Bool) (left : List X) → place < length marks → place < length choices
        → same_listing (get_or marks place d) list ≡ true → length left ≡ 0 → to_come list marks choices place left ≡ []
    row_missing e [] in_marks in_choices same none = row_listed e [] in_marks in_choices same
    row_missing e (x ∷ left) in_marks in_choices same none = absurd (omega arith)

    -- after the last choice no chosen item is to come
    pub choices_ended : (left : List X) → length choices ≤ place → to_come list marks choices place left ≡ []
    choices_ended left following =
        ap (λ (rest : List Bool). items_chosen (in_list list (drop place marks)) rest left)
        (drop_all place choices following) ∙ no_choices (in_list list (drop place marks)) left

    -- after the last mark no chosen item is to come
    pub marks_ended : (left : List X) → length marks ≤ place → to_come list marks choices place left ≡ []
    marks_ended left following =
        ap (λ (rest : List Listing). items_chosen (in_list list rest) (drop place choices) left)
        (drop_all place marks following) ∙ no_marks (drop place choices) left

-- ---- the lists of the chosen rows
-- if a list has the items that `pick` gives for `rows`, its items of chosen rows are those that `pick` gives for the
-- chosen rows
pub chosen-picked : {X : Type 0} (pick : RowText → Option X) (rows : List RowText) (choices : List Bool)
    → items_chosen (map (λ row. is_some (pick row)) rows) choices (filter_map pick rows)
    ≡ filter_map pick (marked choices rows)
chosen-picked {X} pick [] [] = refl
chosen-picked {X} pick [] (choice ∷ choices) = refl
chosen-picked {X} pick (row ∷ rows) [] = grind (arith, common_steps, nat_tests)
chosen-picked {X} pick (row ∷ rows) (choice ∷ choices) =
    grind (arith, marked, is_some, filter_map, items_chosen, cons_option, cond, (chosen-picked pick rows choices))

-- ---- the marked items of a list
-- applying `f` to the marked items of a list gives the marked items of the list after `f` was applied
pub map-marked : {X Y : Type 0} (f : X → Y) (marks : List Bool) (items : List X)
    → map f (marked marks items) ≡ marked marks (map f items)
map-marked f [] items = refl
map-marked f (mark ∷ marks) [] = refl
map-marked {X} {Y} f (mark ∷ marks) (item ∷ items) = grind (arith, marked, cond, (map-marked f marks items))

-- if `P` holds of all items, it holds of all marked items
pub All-marked : {X : Type 0} (P : X → Type 0) (marks : List Bool) (items : List X) → All P items
    → All P (marked marks items)
All-marked P [] items all = All-nil P
All-marked P (mark ∷ marks) [] all = All-nil P
All-marked P (mark ∷ marks) (item ∷ items) all = by mark (All-marked P marks items (All-drop P 1 (item ∷ items) all))
  where
    by : (mark : Bool) → All P (marked marks items) → All P (cond mark (item ∷ marked marks items) (marked marks items))
    by true rest = All-cons P item (marked marks items) (all 0 item (omega arith)) rest
    by false rest = rest

-- a list has no more marked items than items
pub length-marked : {X : Type 0} (marks : List Bool) (items : List X) → length (marked marks items) ≤ length items
length-marked [] items = omega arith
length-marked (mark ∷ marks) [] = omega arith
length-marked (mark ∷ marks) (item ∷ items) = grind (arith, common_steps, nat_tests, (length-marked marks items))
