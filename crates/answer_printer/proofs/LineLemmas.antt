-- Lemmas on lines one after another, and the invariants of loops over the parts of a node.
use Rattle.std.proofs.Common.{ℕ, suc, ◌+◌, ◌++◌, ◌∷◌, [], ◌≡◌, ◌≤◌, ◌<◌, ◌∙◌, List, drop, length, get_or, refl, sym}
use Rattle.std.proofs.Common.{ap, append-nil, append_assoc, length-append}
use Rattle.std.proofs.Math.Seq.{drop-nil}
use Rattle.set_algebra.specs.declared.plan.ConceptPlan.{ConceptPlan}
use Rattle.set_algebra.specs.declared.plan.UnitPlan.{UnitPlan}
use Rattle.set_algebra.specs.Physical.{Physical, PhysicalGroups, physical_all, physical_and, physical_groups_and}
use Rattle.set_algebra.specs.Physical.{physical_empty, physical_every, physical_members, physical_minus}
use Rattle.set_algebra.specs.Physical.{physical_groups_minus, physical_nothing, physical_one, physical_or}
use Rattle.set_algebra.specs.Physical.{physical_groups_or, physical_pairs, physical_groups_pairs, physical_of}
use Rattle.set_algebra.specs.Physical.{physicals_of, physical_groups_of, physical_groups_list_of, physical_groups}
use Rattle.set_algebra.specs.Physical.{physical_values, physical_walk}
use Rattle.std.proofs.lemmas.List.{drop-drop}
use Rattle.plan_bounds.proofs.LoopLemmas.{Lists, joined_end, joined_turn}
use Rattle.answer_printer.specs.inside.PlanLines.{before_bound, below, below_group, first_bound, with_bounds}
use Rattle.answer_printer.specs.PlanText.{bound_line, group_outline, group_words, groups_outline, node_words, outline}
use Rattle.answer_printer.specs.PlanText.{plans_outline}

-- dropping one item and then `count` drops `count + 1` items
pub drop_after : {X : Type 0} (count : ℕ) (xs : List X) → drop count (drop 1 xs) ≡ drop (suc count) xs
drop_after count [] = drop-nil count ∙ sym (drop-nil (suc count))
drop_after count (x ∷ xs) = refl

-- dropping `length one` items and then `length other` items drops `length (one ++ other)` items
pub drop_both : {X Y : Type 0} (one other : List X) (ys : List Y)
    → drop (length other) (drop (length one) ys) ≡ drop (length (one ++ other)) ys
drop_both one other ys = drop-drop (length other) (length one) ys ∙ (λ i. drop (sym (length-append one other) i) ys)

-- the lines of `one ++ other` are the lines of `one` with the first bounds, then those of `other` with the remaining
-- bounds
pub with_bounds-append : (one other : List (List ℕ)) (bounds : List ℕ)
    → with_bounds (one ++ other) bounds ≡ with_bounds one bounds ++ with_bounds other (drop (length one) bounds)
with_bounds-append [] other bounds = refl
with_bounds-append (before ∷ one) other bounds =
    let line = bound_line before (first_bound bounds) in
    ap (λ (more : List ℕ). line ++ more) (with_bounds-append one other (drop 1 bounds))
    ∙ ap (λ (following : List ℕ). line ++ (with_bounds one (drop 1 bounds) ++ with_bounds other following))
    (drop_after (length one) bounds)
    ∙ sym (append_assoc line (with_bounds one (drop 1 bounds)) (with_bounds other (drop (suc (length one)) bounds)))

-- the state after the texts `outlined` were written with the first of `bounds`: `last` is the text after `given` and
-- these lines, and `rest` are the bounds that they did not use
pub record LinesWritten (given : List ℕ) (outlined : List (List ℕ)) (bounds last rest : List ℕ) : Type 0 where
  -- `last` is `given` and the lines of `outlined` with their bounds
  pub lines : last ≡ given ++ with_bounds outlined bounds
  -- `rest` are the bounds after the first `length outlined` bounds
  pub following : rest ≡ drop (length outlined) bounds

-- if a node's line was written after `given`, and a call then wrote the lines of the parts below it with the
-- remaining bounds, then the lines `outlined` of the node and its parts are written
pub after_written : (given before : List ℕ) (parts : List ℕ → List (List ℕ))
    (spaces bounds : List ℕ) {outlined : List (List ℕ)} {line following inner last rest : List ℕ}
    → outlined ≡ before ∷ parts spaces → line ≡ given ++ bound_line before (first_bound bounds)
    → following ≡ drop 1 bounds → inner ≡ spaces → last ≡ line ++ with_bounds (parts inner) following
    → rest ≡ drop (length (parts inner)) following → LinesWritten given outlined bounds last rest
after_written given before parts spaces bounds outlined_is line_is after_is inner_is last_is rest_is = record {
  lines =
      last_is
      ∙ (λ i. line_is i ++ with_bounds (parts (inner_is i)) (after_is i))
      ∙ append_assoc given (bound_line before (first_bound bounds)) (with_bounds (parts spaces) (drop 1 bounds))
      ∙ ap (λ (all : List (List ℕ)). given ++ with_bounds all bounds) (sym outlined_is);
  following =
      rest_is
      ∙ (λ i. drop (length (parts (inner_is i))) (after_is i))
      ∙ drop_after (length (parts spaces)) bounds
      ∙ ap (λ (all : List (List ℕ)). drop (length all) bounds) (sym outlined_is);
}

-- ---- a node's outline is its own line, then the outline below the node
module _ (spaces : List ℕ) where
  -- the outline of a concept plan is its own line, then the outline below it with one space more
  pub outline_is : (plan : Physical)
      → outline before_bound spaces plan ≡ (spaces ++ node_words plan) ∷ below before_bound (32 ∷ spaces) plan
  outline_is physical_empty = refl
  outline_is physical_all = refl
  outline_is (physical_one number) = refl
  outline_is (physical_walk operator operand) = refl
  outline_is (physical_members operand) = refl
  outline_is (physical_and parts) = refl
  outline_is (physical_or parts) = refl
  outline_is (physical_minus first second) = refl
  outline_is (physical_values start names) = refl
  outline_is (physical_pairs back count types test choice) = refl
  outline_is (physical_groups count units) = refl

  -- the outline of a group plan is its own line, then the outline below it with one space more
  pub group_outline_is : (plan : PhysicalGroups)
      → group_outline before_bound spaces plan
      ≡ (spaces ++ group_words plan) ∷ below_group before_bound (32 ∷ spaces) plan
  group_outline_is physical_nothing = refl
  group_outline_is physical_every = refl
  group_outline_is (physical_groups_and parts) = refl
  group_outline_is (physical_groups_or parts) = refl
  group_outline_is (physical_groups_minus first second) = refl
  group_outline_is (physical_groups_pairs count types test choice) = refl

-- parts `one` and `two` are written one after the other: if part `one` has led from `given` to `inner` and has left
-- the bounds `left`, then a call that writes part `two` has written both
pub record Both (given bounds inner left : List ℕ) (one two : List (List ℕ)) : Type 0 where
  -- a call that appends the lines of `two` to `inner` ends with the lines of `one ++ two` after `given`
  pub lines : {last : List ℕ} → last ≡ inner ++ with_bounds two left → last ≡ given ++ with_bounds (one ++ two) bounds
  -- a call that uses the bounds of `two` has used the bounds of `one ++ two`
  pub bounds_left : {rest : List ℕ} → rest ≡ drop (length two) left → rest ≡ drop (length (one ++ two)) bounds

-- if `inner` has the lines of `one` after `given`, and `left` are the bounds that they did not use, then writing
-- `two` next writes both parts
pub both_written : (given bounds : List ℕ) (one two : List (List ℕ)) {inner left : List ℕ}
    → inner ≡ given ++ with_bounds one bounds
    → left ≡ drop (length one) bounds → Both given bounds inner left one two
both_written given bounds one two inner_is left_is = record {
  lines = λ last_is.
      last_is
      ∙ (λ i. inner_is i ++ with_bounds two (left_is i))
      ∙ append_assoc given (with_bounds one bounds) (with_bounds two (drop (length one) bounds))
      ∙ ap (λ (more : List ℕ). given ++ more) (sym (with_bounds-append one two bounds));
  bounds_left = λ rest_is. rest_is ∙ ap (drop (length two)) left_is ∙ drop_both one two bounds;
}

-- the outlines of concept plans and of lists of them: for each node, the text before its bound
abbrev pub concept_outlines : List ℕ → Lists ConceptPlan (List ℕ)
concept_outlines spaces = record {
  of_part = λ part. outline before_bound spaces (physical_of part);
  of_parts = λ parts. plans_outline before_bound spaces (physicals_of parts);
  none = refl;
  more = λ part parts. refl;
}

-- the outlines of group plans and of lists of them: for each node, the text before its bound
abbrev pub group_outlines : List ℕ → Lists UnitPlan (List ℕ)
group_outlines spaces = record {
  of_part = λ part. group_outline before_bound spaces (physical_groups_of part);
  of_parts = λ parts. groups_outline before_bound spaces (physical_groups_list_of parts);
  none = refl;
  more = λ part parts. refl;
}

-- loop invariant: `so_far` and the lines of the parts from `place` on, with the bounds `rest`, are `given` and the
-- lines of all parts, and use the same bounds
pub record LinesLeft {Part : Type 0} (outlines : Lists Part (List ℕ)) (given bounds : List ℕ) (parts : List Part)
    (place : ℕ)
    (so_far rest : List ℕ) : Type 0 where
  -- `so_far` and the lines of the remaining parts are the whole text
  pub lines : so_far ++ with_bounds (outlines.of_parts (drop place parts)) rest
      ≡ given ++ with_bounds (outlines.of_parts parts) bounds
  -- the remaining parts leave the same bounds as all parts together
  pub following : drop (length (outlines.of_parts (drop place parts))) rest
      ≡ drop (length (outlines.of_parts parts)) bounds

-- ---- the lines of parts, one part after another
module _ {Part : Type 0} {outlines : Lists Part (List ℕ)} {given bounds : List ℕ} {parts : List Part} {place : ℕ}
    {so_far rest : List ℕ}
    (kept : LinesLeft outlines given bounds parts place so_far rest) where
  -- invariant step: after the lines of the part at `place` are written, the invariant holds at `place + 1`
  pub lines_turn : {part : Part} {next left : List ℕ} → place < length parts → part ≡ get_or parts place part
      → next ≡ so_far ++ with_bounds (outlines.of_part part) rest → left ≡ drop (length (outlines.of_part part)) rest
      → LinesLeft outlines given bounds parts (place + 1) next left
  lines_turn {part} within is next_is left_is =
      let here = outlines.of_part part in
      let others = outlines.of_parts (drop (place + 1) parts) in
      let all_are : outlines.of_parts (drop place parts) ≡ here ++ others =
      joined_turn outlines parts place part within is in
      record {
        lines =
            (λ i. next_is i ++ with_bounds others (left_is i))
            ∙ append_assoc so_far (with_bounds here rest) (with_bounds others (drop (length here) rest))
            ∙ ap (λ (more : List ℕ). so_far ++ more) (sym (with_bounds-append here others rest))
            ∙ ap (λ (before : List (List ℕ)). so_far ++ with_bounds before rest) (sym all_are)
            ∙ kept.lines;
        following =
            ap (drop (length others)) left_is
            ∙ drop_both here others rest
            ∙ ap (λ (before : List (List ℕ)). drop (length before) rest) (sym all_are)
            ∙ kept.following;
      }

  -- invariant end: if no part remains, the lines of all parts are written
  pub lines_end : length parts ≤ place → LinesWritten given (outlines.of_parts parts) bounds so_far rest
  lines_end past =
      let none : outlines.of_parts (drop place parts) ≡ [] = joined_end outlines parts place past in
      record {
        lines =
            sym (append-nil so_far)
            ∙ ap (λ (before : List (List ℕ)). so_far ++ with_bounds before rest) (sym none)
            ∙ kept.lines;
        following = ap (λ (before : List (List ℕ)). drop (length before) rest) (sym none) ∙ kept.following;
      }
