-- If the bounds are the nodes' own bounds, the lines of a plan's outline are those that `plan_lines` defines.
use Rattle.std.proofs.Common.{ℕ, suc, ◌+◌, ◌++◌, ◌∷◌, [], ◌≡◌, ◌∙◌, List, length, refl, sym, ap, append-nil}
use Rattle.std.proofs.Common.{append_assoc, length-append}
use Rattle.std.specs.List.{flat_map}
use Rattle.std.proofs.lemmas.List.{drop_at}
use Rattle.std.proofs.lemmas.List.Concat.{flat_map-append}
use Rattle.set_algebra.specs.Physical.{Physical, physical_empty, physical_all, physical_one, physical_walk}
use Rattle.set_algebra.specs.Physical.{physical_members, physical_and, physical_or, physical_minus, physical_values}
use Rattle.set_algebra.specs.Physical.{physical_pairs, physical_groups, Physicals, no_physicals, physical_then}
use Rattle.set_algebra.specs.Physical.{PhysicalGroups, physical_nothing, physical_every, physical_groups_and}
use Rattle.set_algebra.specs.Physical.{physical_groups_or, physical_groups_minus, physical_groups_pairs}
use Rattle.set_algebra.specs.Physical.{PhysicalGroupsList, no_physical_groups, physical_groups_then, PhysicalTest}
use Rattle.set_algebra.specs.Physical.{physical_within, physical_outside, physical_number}
use Rattle.postings.specs.Indexed.{Indexed}
use Rattle.plan_bounds.specs.Bounds.{capped, group_own_bound, own_bound, own_bounds, own_list}
use Rattle.plan_bounds.specs.Nodes.{group_list, groups_list, node_list, plans_list, test_list}
use Rattle.answer_printer.specs.inside.PlanLines.{before_bound, with_bounds}
use Rattle.answer_printer.specs.PlanText.{bound_line, group_outline, group_words, groups_outline, node_line}
use Rattle.answer_printer.specs.PlanText.{node_words, outline, plan_lines, plans_outline, test_outline}
use Rattle.answer_printer.proofs.LineLemmas.{with_bounds-append}

-- `bounds` has one bound for each text of `before`, and the texts with these bounds are `lines`, whatever bounds
-- follow
pub record AreLined (before : List (List ℕ)) (bounds : List ℕ) (lines : List (List ℕ)) : Type 0 where
  -- there are as many bounds as texts
  pub count : length before ≡ length bounds
  -- the texts with `bounds`, and any bounds `more` after them, are the lines `lines`
  pub same : (more : List ℕ) → with_bounds before (bounds ++ more) ≡ flat_map (λ line. line) lines

-- an outline without lines needs no bounds
none_lined : AreLined [] [] []
none_lined = record { count = refl; same = λ more. refl }

-- if the bounds of the nodes below a node give their lines, then the node's bound in front of them gives the node's
-- line in front of theirs
node_lined : (before : List ℕ) (most : ℕ) {others : List (List ℕ)} {bounds : List ℕ} {lines : List (List ℕ)}
    → AreLined others bounds lines
    → AreLined (before ∷ others) (most ∷ bounds) (bound_line before most ∷ lines)
node_lined before most inner = record {
  count = ap suc inner.count;
  same = λ more. ap (λ (text : List ℕ). bound_line before most ++ text) (inner.same more);
}

-- if the bounds of two parts give the lines of each, then the joined bounds give the joined lines
both_lined : {one other : List (List ℕ)} {bounds more_bounds : List ℕ} {lines more_lines : List (List ℕ)}
    → AreLined one bounds lines
    → AreLined other more_bounds more_lines → AreLined (one ++ other) (bounds ++ more_bounds) (lines ++ more_lines)
both_lined {one} {other} {bounds} {more_bounds} {lines} {more_lines} first second = record {
  count =
      length-append one other
      ∙ (λ i. first.count i + second.count i)
      ∙ sym (length-append bounds more_bounds);
  same = λ more.
      ap (with_bounds (one ++ other)) (append_assoc bounds more_bounds more)
      ∙ with_bounds-append one other (bounds ++ (more_bounds ++ more))
      ∙ ap (λ (following : List ℕ). with_bounds one (bounds ++ (more_bounds ++ more)) ++ with_bounds other following)
      (drop_at bounds (more_bounds ++ more) (length one) (sym first.count))
      ∙ (λ i. first.same (more_bounds ++ more) i ++ second.same more i)
      ∙ sym (flat_map-append (λ (line : List ℕ). line) lines more_lines);
}

-- ---- the lines of a plan and its own bounds
module _ (indexed : Indexed) where
  -- if `bounds` give the lines `lines`, then a concept plan's own bound in front of them gives the plan's line in
  -- front of `lines`
  plan_lined : (spaces : List ℕ) (plan : Physical) {others : List (List ℕ)} {bounds : List ℕ} {lines : List (List ℕ)}
      → AreLined others bounds lines
      → AreLined ((spaces ++ node_words plan) ∷ others) (capped (own_bound indexed plan) ∷ bounds)
      (bound_line (spaces ++ node_words plan) (capped (own_bound indexed plan)) ∷ lines)
  plan_lined spaces plan inner = node_lined (spaces ++ node_words plan) (capped (own_bound indexed plan)) inner

  -- if `bounds` give the lines `lines`, then a group plan's own bound in front of them gives the plan's line in front
  -- of `lines`
  group_plan_lined : (spaces : List ℕ) (plan : PhysicalGroups) {others : List (List ℕ)} {bounds : List ℕ}
      {lines : List (List ℕ)}
      → AreLined others bounds lines
      → AreLined ((spaces ++ group_words plan) ∷ others) (capped (group_own_bound indexed plan) ∷ bounds)
      (bound_line (spaces ++ group_words plan) (capped (group_own_bound indexed plan)) ∷ lines)
  group_plan_lined spaces plan inner =
      node_lined (spaces ++ group_words plan) (capped (group_own_bound indexed plan)) inner

  mutual
    -- for a concept plan: the outline's texts with the nodes' own bounds are the nodes' lines
    pub lined : (spaces : List ℕ) (plan : Physical)
        → AreLined (outline before_bound spaces plan) (node_list (own_list indexed) plan)
        (outline (node_line indexed) spaces plan)
    lined spaces physical_empty = plan_lined spaces physical_empty none_lined
    lined spaces physical_all = plan_lined spaces physical_all none_lined
    lined spaces (physical_one number) = plan_lined spaces (physical_one number) none_lined
    lined spaces (physical_walk operator operand) =
        plan_lined spaces (physical_walk operator operand) (lined (32 ∷ spaces) operand)
    lined spaces (physical_members operand) = plan_lined spaces (physical_members operand) (lined (32 ∷ spaces) operand)
    lined spaces (physical_and parts) = plan_lined spaces (physical_and parts) (plans_lined (32 ∷ spaces) parts)
    lined spaces (physical_or parts) = plan_lined spaces (physical_or parts) (plans_lined (32 ∷ spaces) parts)
    lined spaces (physical_minus first second) =
        plan_lined spaces (physical_minus first second)
        (both_lined (lined (32 ∷ spaces) first) (lined (32 ∷ spaces) second))
    lined spaces (physical_values start names) =
        plan_lined spaces (physical_values start names)
        (both_lined (lined (32 ∷ spaces) start) (plans_lined (32 ∷ spaces) names))
    lined spaces (physical_pairs back count types test choice) =
        plan_lined spaces (physical_pairs back count types test choice)
        (both_lined (lined (32 ∷ spaces) types) (test_lined (32 ∷ spaces) test))
    lined spaces (physical_groups count units) =
        plan_lined spaces (physical_groups count units) (group_lined (32 ∷ spaces) units)

    -- for several concept plans: the outlines' texts with the nodes' own bounds are the nodes' lines
    plans_lined : (spaces : List ℕ) (parts : Physicals)
        → AreLined (plans_outline before_bound spaces parts) (plans_list (own_list indexed) parts)
        (plans_outline (node_line indexed) spaces parts)
    plans_lined spaces no_physicals = none_lined
    plans_lined spaces (physical_then first rest) =
        both_lined (lined spaces first) (plans_lined spaces rest)

    -- for a group plan: the outline's texts with the nodes' own bounds are the nodes' lines
    group_lined : (spaces : List ℕ) (plan : PhysicalGroups)
        → AreLined (group_outline before_bound spaces plan) (group_list (own_list indexed) plan)
        (group_outline (node_line indexed) spaces plan)
    group_lined spaces physical_nothing = group_plan_lined spaces physical_nothing none_lined
    group_lined spaces physical_every = group_plan_lined spaces physical_every none_lined
    group_lined spaces (physical_groups_and parts) =
        group_plan_lined spaces (physical_groups_and parts) (groups_lined (32 ∷ spaces) parts)
    group_lined spaces (physical_groups_or parts) =
        group_plan_lined spaces (physical_groups_or parts) (groups_lined (32 ∷ spaces) parts)
    group_lined spaces (physical_groups_minus first second) =
        group_plan_lined spaces (physical_groups_minus first second)
        (both_lined (group_lined (32 ∷ spaces) first) (group_lined (32 ∷ spaces) second))
    group_lined spaces (physical_groups_pairs count types test choice) =
        group_plan_lined spaces (physical_groups_pairs count types test choice)
        (both_lined (lined (32 ∷ spaces) types) (test_lined (32 ∷ spaces) test))

    -- for several group plans: the outlines' texts with the nodes' own bounds are the nodes' lines
    groups_lined : (spaces : List ℕ) (parts : PhysicalGroupsList)
        → AreLined (groups_outline before_bound spaces parts) (groups_list (own_list indexed) parts)
        (groups_outline (node_line indexed) spaces parts)
    groups_lined spaces no_physical_groups = none_lined
    groups_lined spaces (physical_groups_then first rest) =
        both_lined (group_lined spaces first) (groups_lined spaces rest)

    -- for a test: the texts of the outline of its plan, with the nodes' own bounds, are the nodes' lines
    test_lined : (spaces : List ℕ) (test : PhysicalTest)
        → AreLined (test_outline before_bound spaces test) (test_list (own_list indexed) test)
        (test_outline (node_line indexed) spaces test)
    test_lined spaces (physical_within operand) = lined spaces operand
    test_lined spaces (physical_outside operand) = lined spaces operand
    test_lined spaces (physical_number compare number) = none_lined

-- if `bounds` are the own bounds of a plan's nodes, its outline with `bounds` is `plan_lines`
pub lines_are : (indexed : Indexed) (plan : Physical) (bounds : List ℕ) → bounds ≡ own_bounds indexed plan
    → with_bounds (outline before_bound [] plan) bounds ≡ plan_lines indexed plan
lines_are indexed plan bounds is =
    ap (with_bounds (outline before_bound [] plan)) (is ∙ sym (append-nil (own_bounds indexed plan)))
    ∙ (lined indexed [] plan).same []
