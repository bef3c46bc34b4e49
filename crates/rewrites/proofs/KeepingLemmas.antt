-- The node that a rule makes means the same, at the root and at every place.
use Rattle.std.proofs.Common.{ℕ, ◌≡◌, Option, Some, None, List, [], ◌∷◌, option_map, refl, sym, ap, ◌∙◌, subst}
use Rattle.std.specs.Prelude.{slice_get}
use Rattle.release_model.specs.Release.{Release}
use Rattle.set_algebra.specs.Plan.{Plan, PlanOfGroups}
use Rattle.set_algebra.specs.Places.{Node, concept_node, group_node, children, inside, with_child, with_changed}
use Rattle.set_algebra.specs.Places.{node_at, put_at, MeanTheSame}
use Rattle.set_algebra.proofs.PlaceLemmas.{keeps_meaning_at_places}
use Rattle.rewrites.specs.declared.rule.Rule.{Rule}
use Rattle.rewrites.specs.RulesAtPlaces.{KeepsMeaningAtRoot, KeepsMeaning, IsThereAlone}
use Rattle.rewrites.specs.Rules.{rewritten, rewritten_group}
use Rattle.rewrites.specs.RulesAtPlaces.{rewritten_node, in_child, rewritten_at}
use Rattle.rewrites.proofs.RuleLemmas.{Keeps, plan_keeps}
use Rattle.rewrites.proofs.GroupRuleLemmas.{KeepsGroup, group_keeps}

-- the node made of a plan of concepts means the same if the rule keeps the meaning of plans
plan_root : (release : Release) (old : Plan) (made : Option Plan) (new : Node) → Keeps release old made
    → option_map concept_node made ≡ Some new → MeanTheSame release (concept_node old) new
plan_root release old None new keeps is = absurd (cc)
plan_root release old (Some made) new keeps is =
    let new_is : concept_node made ≡ new = cc in
    subst (λ (node : Node). MeanTheSame release (concept_node old) node) new_is keeps

-- the node made of a plan of groups means the same if the rule keeps the meaning of plans of groups
group_root : (release : Release) (old : PlanOfGroups) (made : Option PlanOfGroups) (new : Node)
    → KeepsGroup release old made
    → option_map group_node made ≡ Some new → MeanTheSame release (group_node old) new
group_root release old None new keeps is = absurd (cc)
group_root release old (Some made) new keeps is =
    let new_is : group_node made ≡ new = cc in
    subst (λ (node : Node). MeanTheSame release (group_node old) node) new_is keeps

-- each rule keeps the meaning of a node at its root
pub keeps_meaning_at_root : KeepsMeaningAtRoot
keeps_meaning_at_root release rule (concept_node plan) new is =
    plan_root release plan (rewritten rule plan) new (plan_keeps release rule plan) is
keeps_meaning_at_root release rule (group_node plan) new is =
    group_root release plan (rewritten_group rule plan) new (group_keeps release rule plan) is

-- `new` is `whole` with the node at a place replaced by what the rule makes of it
record IsThere (rule : Rule) (place : List ℕ) (whole new : Node) : Type 0 where
  here : Node
  there : Node
  found : node_at place whole ≡ Some here
  taken : rewritten_node rule here ≡ Some there
  put : new ≡ put_at place there whole

-- a node made at a place in child `number` is the whole with the node at that place replaced
in_child_there : (rule : Rule) (number : ℕ) (place : List ℕ) (whole new child : Node) (made : Option Node)
    → slice_get (children whole) number ≡ Some child
    → ((node : Node) → made ≡ Some node → IsThere rule place child node)
    → option_map (with_child whole number) made ≡ Some new → IsThere rule (number ∷ place) whole new
in_child_there rule number place whole new child None is inner made = absurd (cc)
in_child_there rule number place whole new child (Some node) is inner made =
    let in_it = inner node refl in
    let new_is : with_child whole number node ≡ new = cc in
    record {
      here = in_it.here;
      there = in_it.there;
      found = ap (inside (node_at place)) is ∙ in_it.found;
      taken = in_it.taken;
      put =
          sym new_is
          ∙ ap (with_child whole number) in_it.put
          ∙ sym (ap (with_changed whole number (put_at place in_it.there)) is);
    }

-- a node that a rule makes at a place in child `number` is the whole with the node at that place replaced, and there
-- is such a child
found_there : (rule : Rule) (number : ℕ) (place : List ℕ) (whole new : Node) (found : Option Node)
    → slice_get (children whole) number ≡ found
    → ((child node : Node) → rewritten_at rule place child ≡ Some node → IsThere rule place child node)
    → in_child whole number (rewritten_at rule place) found ≡ Some new → IsThere rule (number ∷ place) whole new
found_there rule number place whole new None is inner made = absurd (cc)
found_there rule number place whole new (Some child) is inner made =
    in_child_there rule number place whole new child (rewritten_at rule place child) is
    (λ node made_is. inner child node made_is) made

-- a node that a rule makes at a place is the whole with the node at that place replaced
is_there : (rule : Rule) (place : List ℕ) (whole new : Node) → rewritten_at rule place whole ≡ Some new
    → IsThere rule place whole new
is_there rule [] whole new made = record { here = whole; there = new; found = refl; taken = made; put = refl }
is_there rule (number ∷ place) whole new made =
    found_there rule number place whole new (slice_get (children whole) number) refl
    (λ child node made_is. is_there rule place child node made_is) made

-- a rule makes at a place in a child the whole with the node there replaced if it does so in the child
made_in_child : (rule : Rule) (number : ℕ) (place : List ℕ) (whole here there : Node) (found : Option Node)
    → slice_get (children whole) number ≡ found
    →
    ((child : Node) → node_at place child ≡ Some here → rewritten_at rule place child ≡ Some (put_at place there child))
    → inside (node_at place) found ≡ Some here
    → in_child whole number (rewritten_at rule place) found
    ≡ Some (with_changed whole number (put_at place there) found)
made_in_child rule number place whole here there None is inner at = absurd (cc)
made_in_child rule number place whole here there (Some child) is inner at =
    ap (option_map (with_child whole number)) (inner child at)

-- a rule that makes `there` of the node `here` at a place makes of the whole the one with `there` put at that place
made_there : (rule : Rule) (place : List ℕ) (whole here there : Node) → node_at place whole ≡ Some here
    → rewritten_node rule here ≡ Some there → rewritten_at rule place whole ≡ Some (put_at place there whole)
made_there rule [] whole here there at taken = let same : whole ≡ here = cc in ap (rewritten_node rule) same ∙ taken
made_there rule (number ∷ place) whole here there at taken =
    made_in_child rule number place whole here there (slice_get (children whole) number) refl
    (λ child at_child. made_there rule place child here there at_child taken) at

-- a rule makes a node of `whole` at a place exactly if the place names a node and the rule makes another of it; the
-- result is `whole` with that node put there
pub is_there_alone : IsThereAlone
is_there_alone rule place whole new = (
  λ made. let is = is_there rule place whole new made in (is.here, is.there, is.found, is.taken, is.put),
  λ (here, there, found, taken, put). made_there rule place whole here there found taken ∙ ap Some (sym put),
)

-- each rule keeps the meaning of a node at every place
pub keeps_meaning : KeepsMeaning
keeps_meaning release rule place whole new made =
    let is = is_there rule place whole new made in
    subst (λ (node : Node). MeanTheSame release whole node) (sym is.put)
    (keeps_meaning_at_places release place whole is.here is.there is.found
    (keeps_meaning_at_root release rule is.here is.there is.taken))
