-- A pass over the parts of a node, which changes them one by one. The change of a part may depend on a state that the
-- parts before it left.
use Rattle.std.proofs.Common.{ℕ, zero, suc, ◌+◌, ◌≡◌, ◌<◌, ◌∷◌, [], ◌∙◌, inl, inr, List, length, get_or, set, take}
use Rattle.std.proofs.Common.{refl, sym, ap, add-one, arith}
use Rattle.std.proofs.lemmas.Bool.{cases_lt}
use Rattle.std.proofs.lemmas.Grind.{get_or-set_at}
use Rattle.std.proofs.lemmas.List.{get_or-set_other}
use Rattle.set_algebra.specs.declared.choice.Choice.{Choice}
use Rattle.set_algebra.specs.declared.plan.ConceptPlan.{ConceptPlan}
use Rattle.set_algebra.specs.declared.plan.UnitPlan.{UnitPlan}
use Rattle.set_algebra.specs.Physical.{Physical, PhysicalGroups, PhysicalGroupsList, Physicals, physical_of}
use Rattle.set_algebra.specs.Physical.{physical_then}
use Rattle.set_algebra.specs.Physical.{physical_groups_list_of, physical_groups_of, physical_groups_then, physicals_of}
use Rattle.set_algebra.specs.Plan.{plan_of, plans_of, group_plan_of, group_plans_of}
use Rattle.postings.specs.Indexed.{Indexed}
use Rattle.plan_bounds.specs.Sizes.{group_size, group_sizes, size, sizes}
use Rattle.plan_bounds.proofs.LoopLemmas.{Numbers}
use Rattle.planner.specs.Chosen.{all_chosen, chosen, group_chosen, groups_chosen}
use Rattle.planner.specs.inside.AskedInPlace.{all_with_asked, group_with_asked, groups_with_asked, with_asked}

-- a pass over a list of parts, which changes the parts one by one. The change of a part may depend on a state, and
-- the part changes the state
pub record Pass (Part Out Outs State : Type 0) : Type 0 where
  -- the data of one part
  pub of_part : Part → Out
  -- the data of a list of parts
  pub of_parts : List Part → Outs
  -- the data of a part after it was changed in a state
  pub makes : State → Part → Out
  -- the data of a list of parts after all were changed, from a state on
  pub makes_all : State → List Part → Outs
  -- the state after one part was changed
  pub next : State → Part → State
  -- the state after all parts of a list were changed
  pub rest : State → List Part → State
  -- the data of a list from the data of its first part and of the others
  pub join : Out → Outs → Outs
  -- the empty list has the same data before and after
  pub none : (state : State) → of_parts [] ≡ makes_all state []
  -- the data of a list is that of its first part and of the others, joined
  pub more : (part : Part) (parts : List Part) → of_parts (part ∷ parts) ≡ join (of_part part) (of_parts parts)
  -- the data of a list after the changes is that of its first part and, from the next state on, of the others, joined
  pub made : (state : State) (part : Part) (parts : List Part)
      → makes_all state (part ∷ parts) ≡ join (makes state part) (makes_all (next state part) parts)
  -- the empty list leaves the state as it is
  pub still : (state : State) → rest state [] ≡ state
  -- the state after a list is the one that the other parts leave, from the state after the first part on
  pub goes_on : (state : State) (part : Part) (parts : List Part)
      → rest state (part ∷ parts) ≡ rest (next state part) parts

module _ {Part Out Outs State : Type 0} (pass : Pass Part Out Outs State) where
  -- each part below index `place` has the data that it should have after its change, in the state that the parts
  -- before it left
  abbrev pub Each : State → List Part → List Part → ℕ → Type 0
  Each state now before place =
      (k : ℕ) (d : Part) → k < place
      → pass.of_part (get_or now k d) ≡ pass.makes (pass.rest state (take k before)) (get_or before k d)

  -- the state after one part more is the next state of that part
  rest_more : (state : State) (before : List Part) (place : ℕ) (old : Part) → place < length before
      → ((d : Part) → old ≡ get_or before place d)
      → pass.rest state (take (suc place) before) ≡ pass.next (pass.rest state (take place before)) old
  rest_more state [] place old within is = absurd (omega (arith, within))
  rest_more state (first ∷ before) zero old within is =
      pass.goes_on state first []
      ∙ pass.still (pass.next state first)
      ∙ (λ i. pass.next (sym (pass.still state) i) (sym (is first) i))
  rest_more state (first ∷ before) (suc place) old within is =
      pass.goes_on state first (take (suc place) before)
      ∙ rest_more (pass.next state first) before place old (omega (arith, within)) is
      ∙ ap (λ (state : State). pass.next state old) (sym (pass.goes_on state first (take place before)))

  -- the state after the parts below `place + 1` is the one that the part at `place` makes of the state after the
  -- parts below `place`
  pub rest_next : (state : State) (before : List Part) (place : ℕ) (old : Part) → place < length before
      → ((d : Part) → old ≡ get_or before place d)
      → pass.rest state (take (place + 1) before) ≡ pass.next (pass.rest state (take place before)) old
  rest_next state before place old within is =
      (λ i. pass.rest state (take (add-one place i) before)) ∙ rest_more state before place old within is

  -- loop step: if the parts below `place` were changed, and the part at `place` is replaced by one with the data that
  -- it should have, then the parts below `place + 1` were changed
  pub each_more : (state : State) (items before : List Part) (place : ℕ) (old new : Part)
      → Each state items before place
      → place < length items → ((d : Part) → old ≡ get_or before place d)
      → pass.of_part new ≡ pass.makes (pass.rest state (take place before)) old
      → Each state (set items place new) before (place + 1)
  each_more state items before place old new each within is made k d below = elim (cases_lt k place) [
    | inl less ↦ ap pass.of_part (get_or-set_other items place k new d (λ same. omega (arith, less, same)))
        ∙ each k d less
    | inr past ↦
        let here : k ≡ place = omega (arith, below, past) in
        ap pass.of_part (get_or-set_at items place k new d here within)
        ∙ made
        ∙ (λ i. pass.makes (pass.rest state (take (sym here i) before))
        ((is d ∙ ap (λ (k : ℕ). get_or before k d) (sym here)) i))
  ]

  -- if all parts below the length of the list were changed, the list has the data that it should have after the pass
  pub each_all : (state : State) (now before : List Part) → length now ≡ length before
      → Each state now before (length before)
      → pass.of_parts now ≡ pass.makes_all state before
  each_all state [] [] same each = pass.none state
  each_all state [] (first ∷ before) same each = absurd (omega (arith, same))
  each_all state (own ∷ now) [] same each = absurd (omega (arith, same))
  each_all state (own ∷ now) (first ∷ before) same each =
      let here : pass.of_part own ≡ pass.makes state first =
      each 0 own (omega arith) ∙ ap (λ (state : State). pass.makes state first) (pass.still state) in
      let later : Each (pass.next state first) now before (length before) =
      λ k d below. each (suc k) d (omega (arith, below))
      ∙ ap (λ (state : State). pass.makes state (get_or before k d)) (pass.goes_on state first (take k before)) in
      pass.more own now
      ∙ (λ i. pass.join (here i) (each_all (pass.next state first) now before (omega (arith, same)) later i))
      ∙ sym (pass.made state first before)

-- ---- passes that give parts their choices of least bound, which needs no state
-- the pass that gives plans of concepts the choices of least bound; it needs no state
abbrev pub choosing_concepts : Indexed → Pass ConceptPlan Physical Physicals (Unit {0})
choosing_concepts indexed = record {
  of_part = physical_of;
  of_parts = physicals_of;
  makes = λ state part. chosen indexed (plan_of part);
  makes_all = λ state parts. all_chosen indexed (plans_of parts);
  next = λ state part. state;
  rest = λ state parts. state;
  join = physical_then;
  none = λ state. refl;
  more = λ part parts. refl;
  made = λ state part parts. refl;
  still = λ state. refl;
  goes_on = λ state part parts. refl;
}

-- the pass that gives plans of groups the choices of least bound; it needs no state
abbrev pub choosing_groups : Indexed → Pass UnitPlan PhysicalGroups PhysicalGroupsList (Unit {0})
choosing_groups indexed = record {
  of_part = physical_groups_of;
  of_parts = physical_groups_list_of;
  makes = λ state part. group_chosen indexed (group_plan_of part);
  makes_all = λ state parts. groups_chosen indexed (group_plans_of parts);
  next = λ state part. state;
  rest = λ state parts. state;
  join = physical_groups_then;
  none = λ state. refl;
  more = λ part parts. refl;
  made = λ state part parts. refl;
  still = λ state. refl;
  goes_on = λ state part parts. refl;
}

-- the sizes of plans of concepts after they got the choices of least bound, as a list
abbrev pub chosen_sizes : Indexed → Numbers ConceptPlan
chosen_sizes indexed = record {
  of_part = λ part. size indexed (chosen indexed (plan_of part));
  of_parts = λ parts. sizes indexed (all_chosen indexed (plans_of parts));
  none = refl;
  more = λ part parts. refl;
}

-- the sizes of plans of groups after they got the choices of least bound, as a list
abbrev pub group_chosen_sizes : Indexed → Numbers UnitPlan
group_chosen_sizes indexed = record {
  of_part = λ part. group_size indexed (group_chosen indexed (group_plan_of part));
  of_parts = λ parts. group_sizes indexed (groups_chosen indexed (group_plans_of parts));
  none = refl;
  more = λ part parts. refl;
}

-- ---- passes that give parts requested choices, and leave the rest of the list to later parts
-- the pass that gives plans of concepts requested choices; its state is the list of the choices that no leaf took yet
abbrev pub asking_concepts : Pass ConceptPlan Physical Physicals (List Choice)
asking_concepts = record {
  of_part = physical_of;
  of_parts = physicals_of;
  makes = λ asked part. (with_asked asked (physical_of part)).plan;
  makes_all = λ asked parts. (all_with_asked asked (physicals_of parts)).plan;
  next = λ asked part. (with_asked asked (physical_of part)).rest;
  rest = λ asked parts. (all_with_asked asked (physicals_of parts)).rest;
  join = physical_then;
  none = λ asked. refl;
  more = λ part parts. refl;
  made = λ asked part parts. refl;
  still = λ asked. refl;
  goes_on = λ asked part parts. refl;
}

-- the pass that gives plans of groups requested choices; its state is the list of the choices that no leaf took yet
abbrev pub asking_groups : Pass UnitPlan PhysicalGroups PhysicalGroupsList (List Choice)
asking_groups = record {
  of_part = physical_groups_of;
  of_parts = physical_groups_list_of;
  makes = λ asked part. (group_with_asked asked (physical_groups_of part)).plan;
  makes_all = λ asked parts. (groups_with_asked asked (physical_groups_list_of parts)).plan;
  next = λ asked part. (group_with_asked asked (physical_groups_of part)).rest;
  rest = λ asked parts. (groups_with_asked asked (physical_groups_list_of parts)).rest;
  join = physical_groups_then;
  none = λ asked. refl;
  more = λ part parts. refl;
  made = λ asked part parts. refl;
  still = λ asked. refl;
  goes_on = λ asked part parts. refl;
}
