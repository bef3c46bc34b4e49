use Rattle.std.proofs.Common.{ℕ, List, ◌≡◌, ◌<◌, ◌∙◌, ◌∷◌, length, sym, ap, subst, arith}
use Rattle.std.specs.Prelude.{All}
use Rattle.std.specs.List.{flat_map}
use Rattle.std.proofs.lemmas.Result.{IfOk-weaker}
use Rattle.number_lists.specs.KeyedLists.{list_of}
use Rattle.number_lists.specs.Members.{has}
use Rattle.number_lists.specs.Rising.{listed_numbers}
use Rattle.walks.specs.Asked.{AreEnough}
use Rattle.candidates.proofs.SumLemmas.{listed_few}
use Rattle.walks.specs.Families.{items_in, lists_of}
use Rattle.number_lists.proofs.RisingLemmas.{all_below}
use Rattle.walks.proofs.AskedLemmas.{with_lists_below, with_lists_enough}
use Rattle.walks.proofs.ReadLemmas.{asked_counted, with_lists_length}
use Rattle.walks.proofs.related.enough_for.Goals as goal

-- the items of `wanted` are below the bound of the set
pub with_lists-requires-clause-below : goal.with_lists-requires-clause-below
with_lists-requires-clause-below g c =
    subst (λ (bound : ℕ). All (λ concept. concept < bound) c.as_slice.result.now) (sym c.bound.ensures)
    (subst (All (λ concept. concept < g.S.ConceptSet.bound_of c.args.wanted.now))
    (sym (c.as_slice.ensures.value ∙ c.in_ok-own.ensures.items))
    (all_below (g.S.ConceptSet.bound_of c.args.wanted.now) (g.S.ConceptSet.items_of c.args.wanted.now)
    (g.met.S.ConceptSet.rising c.args.wanted.now)))

-- the items of `wanted`, each followed by its list, are below the bound of the set
pub from_numbers-requires : goal.from_numbers-requires
from_numbers-requires g c =
    let count = g.S.ConceptSet.bound_of c.args.wanted.now in
    let wanted = g.S.ConceptSet.items_of c.args.wanted.now in
    let each : ℕ → List ℕ = λ concept. concept
    ∷ list_of (lists_of c.args.reader.indexes.now.hierarchy c.asked-family.result) concept in
    let own : c.as_slice.result.now ≡ wanted = c.as_slice.ensures.value ∙ c.in_ok-own.ensures.items in
    let numbers : c.as_slice-2.result.now ≡ flat_map each wanted = c.as_slice-2.ensures.value
    ∙ c.in_ok-numbers.ensures.items ∙ ap (flat_map each) own in
    subst (λ (bound : ℕ). All (λ n. n < bound) c.as_slice-2.result.now) (sym c.bound-2.ensures)
    (subst (All (λ n. n < count)) (sym numbers)
    (with_lists_below count c.args.reader.indexes.now.hierarchy c.requires.over c.asked-family.result wanted
    (all_below count wanted (g.met.S.ConceptSet.rising c.args.wanted.now))))

-- the items of `wanted` and their lists are enough to test `wanted`
pub returns-clause-enough : goal.returns-clause-enough
returns-clause-enough g c =
    let count = g.S.ConceptSet.bound_of c.args.wanted.now in
    let wanted = g.S.ConceptSet.items_of c.args.wanted.now in
    let hierarchy = c.args.reader.indexes.now.hierarchy in
    let family = c.asked-family.result in
    let each : ℕ → List ℕ = λ concept. concept ∷ list_of (lists_of hierarchy family) concept in
    let own : c.as_slice.result.now ≡ wanted = c.as_slice.ensures.value ∙ c.in_ok-own.ensures.items in
    let numbers : c.as_slice-2.result.now ≡ flat_map each wanted = c.as_slice-2.ensures.value
    ∙ c.in_ok-numbers.ensures.items ∙ ap (flat_map each) own in
    IfOk-weaker c.from_numbers.result _ _
    (λ enough is.
    subst (λ (lists : List (List ℕ)). AreEnough lists (has wanted) (has (g.S.ConceptSet.items_of enough)))
    (ap (lists_of hierarchy) c.asked-family.ensures ∙ c.of.ensures.asked hierarchy)
    (subst (λ (items : List ℕ). AreEnough (lists_of hierarchy family) (has wanted) (has items))
    (sym (is ∙ (λ i. listed_numbers (c.bound-2.ensures i) (numbers i))))
    (with_lists_enough count hierarchy c.requires.over family wanted
    (all_below count wanted (g.met.S.ConceptSet.rising c.args.wanted.now)))))
    c.from_numbers.ensures.items

-- if memory is refused for the lists, no more is counted than testing `wanted` reads
pub returns-in_err-numbers-clause-counted : goal.returns-in_err-numbers-clause-counted
returns-in_err-numbers-clause-counted g c =
    asked_counted c.args.reader.indexes.now.hierarchy c.args.operator c.asked-family.result
    (ap (lists_of c.args.reader.indexes.now.hierarchy) c.asked-family.ensures
    ∙ c.of.ensures.asked c.args.reader.indexes.now.hierarchy)
    (c.as_slice.ensures.value ∙ c.in_ok-own.ensures.items) c.items.ensures.counted c.with_lists.ensures.counted

-- no more is counted than testing `wanted` reads
pub returns-clause-counted : goal.returns-clause-counted
returns-clause-counted g c =
    asked_counted c.args.reader.indexes.now.hierarchy c.args.operator c.asked-family.result
    (ap (lists_of c.args.reader.indexes.now.hierarchy) c.asked-family.ensures
    ∙ c.of.ensures.asked c.args.reader.indexes.now.hierarchy)
    (c.as_slice.ensures.value ∙ c.in_ok-own.ensures.items) c.items.ensures.counted c.with_lists.ensures.counted

-- the set has no more numbers than are listed: the items of `wanted` and of their lists
pub returns-clause-few : goal.returns-clause-few
returns-clause-few g c =
    let wanted = g.S.ConceptSet.items_of c.args.wanted.now in
    let hierarchy = c.args.reader.indexes.now.hierarchy in
    let family = c.asked-family.result in
    let each : ℕ → List ℕ = λ concept. concept ∷ list_of (lists_of hierarchy family) concept in
    let own : c.as_slice.result.now ≡ wanted = c.as_slice.ensures.value ∙ c.in_ok-own.ensures.items in
    let numbers : c.as_slice-2.result.now ≡ flat_map each wanted =
    c.as_slice-2.ensures.value ∙ c.in_ok-numbers.ensures.items ∙ ap (flat_map each) own in
    let asked = ap (lists_of hierarchy) c.asked-family.ensures ∙ c.of.ensures.asked hierarchy in
    IfOk-weaker c.from_numbers.result _ _
    (λ enough listed.
    omega (
      arith,
      ap (λ (xs : List ℕ). length xs) listed,
      listed_few c.bound-2.result c.as_slice-2.result.now,
      ap (λ (xs : List ℕ). length xs) numbers,
      with_lists_length (lists_of hierarchy family) wanted,
      ap (λ (lists : List (List ℕ)). items_in lists wanted) asked,
    ))
    c.from_numbers.ensures.items
