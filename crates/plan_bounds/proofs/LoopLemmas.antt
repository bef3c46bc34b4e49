-- Invariants of loops over the parts of a node, of concepts or of groups: the result for the parts that were visited,
-- joined with that for the parts that are left, is the result for all parts.
use Rattle.std.proofs.Common.{ℕ, ◌+◌, ◌-◌, ◌++◌, ◌∷◌, [], ◌≡◌, ◌≤◌, ◌<◌, ◌^◌, ◌∙◌, List, drop, length, get_or, refl}
use Rattle.std.proofs.Common.{sym, ap, arith, add-one}
use Rattle.std.proofs.Common.{append-nil, append_assoc}
use Rattle.std.proofs.Math.Seq.{drop-cons}
use Rattle.std.proofs.lemmas.List.{drop_all}
use Rattle.set_algebra.specs.declared.choice.Choice.{Choice}
use Rattle.set_algebra.specs.declared.plan.ConceptPlan.{ConceptPlan}
use Rattle.set_algebra.specs.declared.plan.UnitPlan.{UnitPlan}
use Rattle.set_algebra.specs.Physical.{physical_of, physical_groups_list_of, physical_groups_of, physicals_of}
use Rattle.postings.specs.Indexed.{Indexed}
use Rattle.plan_bounds.specs.declared.summary.SizeSummary.{SizeSummary}
use Rattle.plan_bounds.specs.Bounds.{capped}
use Rattle.plan_bounds.specs.Leaves.{choices_in, choices_in_each, choices_in_each_groups, choices_in_groups}
use Rattle.plan_bounds.specs.Nodes.{NodeList, NodeNumber, group_list, group_sum, groups_list, groups_sum, node_list}
use Rattle.plan_bounds.specs.Nodes.{node_sum}
use Rattle.plan_bounds.specs.Nodes.{plans_list, plans_sum}
use Rattle.plan_bounds.specs.Sizes.{group_size, group_sizes, size, sizes}
use Rattle.plan_bounds.specs.SizeSummaries.{IsSummaryOf, summary_of, summary_on, summary_with}
use Rattle.plan_bounds.proofs.SizeSummaryLemmas.{is_summary_of}

-- ---- what a part gives, and what several parts give, joined
-- a function on parts and one on lists of parts, whose result for a list joins the results for its parts
pub record Joined (Part X Y : Type 0) (nothing : Y) (join : X → Y → Y) : Type 0 where
  -- the result for one part
  pub of_part : Part → X
  -- the result for a list of parts
  pub of_parts : List Part → Y
  -- the result for the empty list is `nothing`
  pub none : of_parts [] ≡ nothing
  -- the result for a list is that for its first part, joined with that for the others
  pub more : (part : Part) (parts : List Part) → of_parts (part ∷ parts) ≡ join (of_part part) (of_parts parts)

-- a number for each part, and the list of the numbers for a list of parts
abbrev pub Numbers : Type 0 → Type 0
Numbers Part = Joined Part ℕ (List ℕ) [] (λ number numbers. number ∷ numbers)

-- a number for each part, and the sum of the numbers for a list of parts
abbrev pub Sum : Type 0 → Type 0
Sum Part = Joined Part ℕ ℕ 0 ◌+◌

-- a list for each part, and the lists one after the other for a list of parts
abbrev pub Lists : Type 0 → Type 0 → Type 0
Lists Part X = Joined Part (List X) (List X) [] ◌++◌

-- the sizes of plans of concepts, as a list
abbrev pub concept_sizes : Indexed → Numbers ConceptPlan
concept_sizes indexed = record {
  of_part = λ part. size indexed (physical_of part);
  of_parts = λ parts. sizes indexed (physicals_of parts);
  none = refl;
  more = λ part parts. refl;
}

-- the sum of the numbers of all nodes, for a plan of concepts and for lists of them
abbrev pub concept_sum : NodeNumber → Sum ConceptPlan
concept_sum node = record {
  of_part = λ part. node_sum node (physical_of part);
  of_parts = λ parts. plans_sum node (physicals_of parts);
  none = refl;
  more = λ part parts. refl;
}

-- the lists of all nodes one after the other, for a plan of concepts and for lists of them
abbrev pub concept_list : NodeList → Lists ConceptPlan ℕ
concept_list node = record {
  of_part = λ part. node_list node (physical_of part);
  of_parts = λ parts. plans_list node (physicals_of parts);
  none = refl;
  more = λ part parts. refl;
}

-- the choices of all leaves, for a plan of concepts and for lists of them
abbrev pub concept_choices : Lists ConceptPlan Choice
concept_choices = record {
  of_part = λ part. choices_in (physical_of part);
  of_parts = λ parts. choices_in_each (physicals_of parts);
  none = refl;
  more = λ part parts. refl;
}

-- the sizes of plans of groups, as a list
abbrev pub group_plan_sizes : Indexed → Numbers UnitPlan
group_plan_sizes indexed = record {
  of_part = λ part. group_size indexed (physical_groups_of part);
  of_parts = λ parts. group_sizes indexed (physical_groups_list_of parts);
  none = refl;
  more = λ part parts. refl;
}

-- the sum of the numbers of all nodes, for a plan of groups and for lists of them
abbrev pub group_plan_sum : NodeNumber → Sum UnitPlan
group_plan_sum node = record {
  of_part = λ part. group_sum node (physical_groups_of part);
  of_parts = λ parts. groups_sum node (physical_groups_list_of parts);
  none = refl;
  more = λ part parts. refl;
}

-- the lists of all nodes one after the other, for a plan of groups and for lists of them
abbrev pub group_plan_list : NodeList → Lists UnitPlan ℕ
group_plan_list node = record {
  of_part = λ part. group_list node (physical_groups_of part);
  of_parts = λ parts. groups_list node (physical_groups_list_of parts);
  none = refl;
  more = λ part parts. refl;
}

-- the choices of all leaves, for a plan of groups and for lists of them
abbrev pub group_choices : Lists UnitPlan Choice
group_choices = record {
  of_part = λ part. choices_in_groups (physical_groups_of part);
  of_parts = λ parts. choices_in_each_groups (physical_groups_list_of parts);
  none = refl;
  more = λ part parts. refl;
}

-- ---- invariants: what is left from a place on
-- loop invariant: `summary`, continued with the sizes of the parts from `place` on, is the summary of all parts
pub record SizesLeft {Part : Type 0} (sizes : Numbers Part) (all : ℕ) (parts : List Part) (place : ℕ)
    (summary : SizeSummary) : Type 0 where
  -- `summary` continued with the sizes of the parts from `place` on is the summary of all parts
  pub more : summary_on place summary (sizes.of_parts (drop place parts)) ≡ summary_of all (sizes.of_parts parts)

-- loop invariant: `so_far` plus the sum for the parts from `place` on, capped, is the capped sum for all parts
pub record SumLeft {Part : Type 0} (sum : Sum Part) (parts : List Part) (place so_far : ℕ) : Type 0 where
  -- `so_far` has at most 64 bits
  pub fits : so_far ≤ 2 ^ 64 - 1
  -- `so_far` plus the sum for the parts from `place` on, capped, is the capped sum for all parts
  pub more : capped (so_far + sum.of_parts (drop place parts)) ≡ capped (sum.of_parts parts)

-- loop invariant: `so_far`, followed by the lists of the parts from `place` on, is `given`, followed by the lists of
-- all parts
pub record ListLeft {Part X : Type 0} (lists : Lists Part X) (given : List X) (parts : List Part) (place : ℕ)
    (so_far : List X)
    : Type 0 where
  -- `so_far`, followed by the lists of the parts from `place` on, is `given`, followed by the lists of all parts
  pub more : so_far ++ lists.of_parts (drop place parts) ≡ given ++ lists.of_parts parts

module _ {Part : Type 0} where
  -- if `part` is the part at `place`, the result for the parts from `place` on is that for `part`, joined with that
  -- for the parts after it
  pub joined_turn : {X Y : Type 0} {nothing : Y} {join : X → Y → Y} (joined : Joined Part X Y nothing join)
      (parts : List Part) (place : ℕ)
      (part : Part) → place < length parts → part ≡ get_or parts place part
      → joined.of_parts (drop place parts) ≡ join (joined.of_part part) (joined.of_parts (drop (place + 1) parts))
  joined_turn joined parts place part within is =
      ap joined.of_parts (drop-cons parts place part within ∙ (λ i. sym is i ∷ drop (sym (add-one place) i) parts))
      ∙ joined.more part (drop (place + 1) parts)

  -- if `place` is at least the number of parts, the result for the parts from `place` on is `nothing`
  pub joined_end : {X Y : Type 0} {nothing : Y} {join : X → Y → Y} (joined : Joined Part X Y nothing join)
      (parts : List Part) (place : ℕ)
      → length parts ≤ place → joined.of_parts (drop place parts) ≡ nothing
  joined_end joined parts place past = ap joined.of_parts (drop_all place parts past) ∙ joined.none

  -- ---- a turn, and the end
  -- loop step: adding the size of the part at `place` to the summary keeps `SizesLeft`
  pub sizes_turn : {sizes : Numbers Part} {all : ℕ} {parts : List Part} {place : ℕ} {summary : SizeSummary}
      → SizesLeft sizes all parts place summary
      → {part : Part} {found : ℕ} {next : SizeSummary} → place < length parts → part ≡ get_or parts place part
      → found ≡ sizes.of_part part → next ≡ summary_with place summary found
      → SizesLeft sizes all parts (place + 1) next
  sizes_turn {sizes} {all} {parts} {place} {summary} left {part} {found} {next} within is found_is next_is =
      record {
        more =
            ap (λ (next : SizeSummary). summary_on (place + 1) next (sizes.of_parts (drop (place + 1) parts)))
            (next_is ∙ ap (summary_with place summary) found_is)
            ∙ ap (summary_on place summary) (sym (joined_turn sizes parts place part within is))
            ∙ left.more;
      }

  -- if `SizesLeft` holds after the last part, the summary is that of the sizes of all parts
  pub sizes_end : {sizes : Numbers Part} {all : ℕ} {parts : List Part} {place : ℕ} {summary : SizeSummary}
      → SizesLeft sizes all parts place summary
      → length parts ≤ place → IsSummaryOf all (sizes.of_parts parts) summary
  sizes_end {sizes} {all} {parts} {place} {summary} left past =
      is_summary_of all (sizes.of_parts parts) summary
      (ap (summary_on place summary) (sym (joined_end sizes parts place past)) ∙ left.more)

  -- loop step: adding the capped number of the part at `place` to the sum keeps `SumLeft`
  pub sum_turn : {sum : Sum Part} {parts : List Part} {place so_far : ℕ} → SumLeft sum parts place so_far
      → {part : Part} {found next : ℕ} → place < length parts → part ≡ get_or parts place part
      → found ≡ capped (sum.of_part part) → next ≡ capped (so_far + found) → SumLeft sum parts (place + 1) next
  sum_turn {sum} {parts} {place} left {part} within is found_is next_is =
      record {
        fits = omega (arith, next_is);
        more = omega (arith, left.more, found_is, next_is, joined_turn sum parts place part within is);
      }

  -- if `SumLeft` holds after the last part, `so_far` is the capped sum for all parts
  pub sum_end : {sum : Sum Part} {parts : List Part} {place so_far : ℕ} → SumLeft sum parts place so_far
      → length parts ≤ place
      → so_far ≡ capped (sum.of_parts parts)
  sum_end {sum} {parts} {place} left past = omega (arith, left.fits, left.more, joined_end sum parts place past)

  -- loop step: appending the list of the part at `place` keeps `ListLeft`
  pub list_turn : {X : Type 0} {lists : Lists Part X} {given : List X} {parts : List Part} {place : ℕ} {so_far : List X}
      → ListLeft lists given parts place so_far → {part : Part} {next : List X} → place < length parts
      → part ≡ get_or parts place part
      → next ≡ so_far ++ lists.of_part part → ListLeft lists given parts (place + 1) next
  list_turn {X} {lists} {given} {parts} {place} {so_far} left {part} {next} within is next_is =
      record {
        more =
            ap (λ (xs : List X). xs ++ lists.of_parts (drop (place + 1) parts)) next_is
            ∙ append_assoc so_far (lists.of_part part) (lists.of_parts (drop (place + 1) parts))
            ∙ ap (λ (xs : List X). so_far ++ xs) (sym (joined_turn lists parts place part within is))
            ∙ left.more;
      }

  -- if `ListLeft` holds after the last part, `so_far` is `given`, followed by the lists of all parts
  pub list_end : {X : Type 0} {lists : Lists Part X} {given : List X} {parts : List Part} {place : ℕ} {so_far : List X}
      → ListLeft lists given parts place so_far → length parts ≤ place → so_far ≡ given ++ lists.of_parts parts
  list_end {X} {lists} {given} {parts} {place} {so_far} left past =
      sym (append-nil so_far) ∙ ap (λ (xs : List X). so_far ++ xs) (sym (joined_end lists parts place past)) ∙ left.more
