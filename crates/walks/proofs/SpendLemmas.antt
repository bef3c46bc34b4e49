-- How many items of lists are read before a pass over the is-a rows takes their place.
use Rattle.std.proofs.Common.{ℕ, ◌+◌, ◌-◌, [], ◌≡◌, ◌<◌, ◌≤◌, ◌∙◌, Bool, true, List, length, drop, get_or, take}
use Rattle.std.proofs.Common.{refl, sym, ap, subst, arith}
use Rattle.std.specs.Bool.{beq}
use Rattle.std.specs.Prelude.{filter, Option, None, Some, IfSome, IsSome, MatchOption}
use Rattle.std.specs.List.{concat, sum_by}
use Rattle.std.proofs.lemmas.Bool.{false≢true}
use Rattle.std.proofs.lemmas.List.{take-append-drop}
use Rattle.std.proofs.lemmas.List.Elements.{filter-append}
use Rattle.std.proofs.lemmas.List.Sums.{sum_by-append, sum_by_push}
use Rattle.number_lists.specs.KeyedLists.{list_of}
use Rattle.ancestor_index.specs.HierarchyLists.{Hierarchy}
use Rattle.reading.specs.Counted.{CountsWithin}
use Rattle.reading.specs.declared.counter.Counter.{Counter}
use Rattle.walks.specs.Families.{all_items_of, items_in}
use Rattle.walks.specs.declared.family.Family.{Family}
use Rattle.walks.specs.declared.family.Family.TheVariants as family
use Rattle.walks.specs.inside.Counts.{LeavesPass, Spends, pass_items}
use Rattle.walks.specs.inside.Joined.{is_long, is_whole, with_length}
use Rattle.walks.proofs.JoinedLemmas.{with_length_more}

-- a call that reads nothing takes nothing off the limit
pub spends_none : (left : Option ℕ) (visits : Counter) → Spends left left visits visits
spends_none None visits = tt
spends_none (Some left) visits = omega arith

-- if the limit is lowered by `items` and the next call counts at most `items`, then all visits from `early` on were
-- taken off the limit
pub spends_more : (first left next : Option ℕ) (items : ℕ) (early between late : Counter)
    → Spends first left early between
    → MatchOption left (next ≡ None) (λ before. (items ≤ before) × (next ≡ Some (before - items)))
    → CountsWithin items between late → Spends first next early late
spends_more None None next items early between late spent taken counts =
    subst (λ (after : Option ℕ). Spends None after early late) (sym taken) tt
spends_more None (Some left) next items early between late spent taken counts = absurd spent
spends_more (Some first) None next items early between late spent taken counts = absurd spent
spends_more (Some first) (Some left) next items early between late spent taken counts =
    subst (λ (after : Option ℕ). Spends (Some first) after early late) (sym taken.1)
    (omega (arith, spent, taken.0, counts.within))

-- two successive calls take the visits of both off the limit
pub spends_both : (first left next : Option ℕ) (early between late : Counter) → Spends first left early between
    → Spends left next between late → Spends first next early late
spends_both None None None early between late one other = tt
spends_both None None (Some next) early between late one other = absurd other
spends_both None (Some left) next early between late one other = absurd one
spends_both (Some first) None next early between late one other = absurd one
spends_both (Some first) (Some left) None early between late one other = absurd other
spends_both (Some first) (Some left) (Some next) early between late one other = omega (arith, one, other)

-- reading within the limit and then making a pass counts at most the total of all lists of the family
pub pass_within : (hierarchy : Hierarchy) (f : Family) (count : ℕ) (first left : Option ℕ)
    (early between late : Counter)
    → IfSome first (LeavesPass hierarchy f count) → IsSome first → early.count ≤ between.count
    → Spends first left early between
    → CountsWithin (pass_items hierarchy count) between late → CountsWithin (all_items_of hierarchy f) early late
pass_within hierarchy f count None left early between late leaves limited grows spent passed =
    absurd (false≢true limited)
pass_within hierarchy f count (Some first) None early between late leaves limited grows spent passed = absurd spent
pass_within hierarchy f count (Some first) (Some left) early between late leaves limited grows spent passed = record {
  grows = omega (arith, grows, passed.grows);
  within = omega (arith, leaves.room, spent, passed.within);
}

-- the lists of ancestors, and those of descendants, have together as many items as there are pairs of a concept and an
-- ancestor
pub whole_items : (hierarchy : Hierarchy) (f : Family) → is_whole f ≡ true
    → all_items_of hierarchy f ≡ length (concat hierarchy.ancestors)
whole_items hierarchy family.Ancestors whole = refl
whole_items hierarchy family.Descendants whole = refl
whole_items hierarchy family.Parents whole = absurd (false≢true whole)
whole_items hierarchy family.Children whole = absurd (false≢true whole)

-- if the list of concept `k` has the chosen length, the chosen lists of the first `k + 1` concepts have the items of
-- those of the first `k`, and those of its list
pub items_more : (lists : List (List ℕ)) (long : Bool) (concepts : List ℕ) (k : ℕ) → k < length concepts
    → beq (is_long (list_of lists (get_or concepts k 0))) long ≡ true
    → items_in lists (with_length lists long (take (k + 1) concepts))
    ≡ items_in lists (with_length lists long (take k concepts)) + length (list_of lists (get_or concepts k 0))
items_more lists long concepts k inside tested =
    ap (items_in lists) (with_length_more lists long concepts [] k inside tested)
    ∙ sum_by_push (λ concept. length (list_of lists concept)) (with_length lists long (take k concepts))
    (get_or concepts k 0)

-- the chosen lists of the first `k` concepts have together at most as many items as those of all concepts
pub items_so_far : (lists : List (List ℕ)) (long : Bool) (concepts : List ℕ) (k : ℕ)
    → items_in lists (with_length lists long (take k concepts)) ≤ items_in lists (with_length lists long concepts)
items_so_far lists long concepts k =
    let test : ℕ → Bool = λ concept. beq (is_long (list_of lists concept)) long in
    let items : ℕ → ℕ = λ concept. length (list_of lists concept) in
    omega (
      arith,
      ap (λ (some : List ℕ). sum_by items (filter test some)) (take-append-drop k concepts),
      ap (sum_by items) (filter-append test (take k concepts) (drop k concepts)),
      sum_by-append items (filter test (take k concepts)) (filter test (drop k concepts)),
    )
