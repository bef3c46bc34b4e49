use Rattle.std.proofs.Common.{ℕ, Vec, Bool, List, true, false, ◌≡◌, ◌<◌, ◌∙◌, length, get_or, append-nil, sym, ap}
use Rattle.std.proofs.Common.{subst, arith}
use Rattle.std.specs.Prelude.{All}
use Rattle.std.proofs.lemmas.List.{get_or_default}
use Rattle.number_lists.specs.Members.{has}
use Rattle.number_lists.specs.Rising.{numbers_where}
use Rattle.number_lists.proofs.WhereLemmas.{has-numbers_where}
use Rattle.number_lists.proofs.RisingLemmas.{numbers_where-rising, all_below}
use Rattle.candidates.specs.Numbers.{is_one_of}
use Rattle.pair_sets.proofs.ChoiceLemmas.{place_more}
use Rattle.pair_sets.proofs.types.places_of_types.Goals as goal
use Rattle.pair_sets.proofs.types.places_of_types.Goals.{then-is_in+in_ok-push, else-is_in}

-- 32 bits hold the place of a type
pub overflow_cast-place : goal.overflow_cast-place
overflow_cast-place g c =
    omega (
      arith,
      c.loop-place-test.true,
      c.type_count.ensures.few,
      ap (λ (ids : List ℕ). length ids)
          c.types-types.ensures.items,
    )

-- the place at hand is appended exactly if the type there is in the set
pub loop-place-preserved : goal.loop-place-preserved
loop-place-preserved g c =
    let test : ℕ → Bool = is_one_of c.args.reader.indexes.now.concepts (g.S.ConceptSet.items_of c.args.set.now) in
    let types = c.types-types.result.now in
    let k = c.loop-place.place in
    let here : c.number.result ≡ get_or types k 0 =
    c.number.ensures.number ∙ c.index-types-place.is
    ∙ get_or_default types k c.index-types-place.result 0 c.loop-place-test.true in
    let asked : test (get_or types k 0) ≡ c.is_in.result = ap test (sym here) ∙ sym c.is_in.ensures in
    elim c.if-is_in.branch [
      | then-is_in+in_ok-push w ↦
          ap (λ (places : Vec ℕ _). places.items) w.places-is ∙ w.in_ok-push.ensures.items
          ∙ place_more test types k c.loop-place-test.true true (asked ∙ w.if-is_in.true) c.loop-place.places.items
          c.loop-place.invariant
      | else-is_in w ↦
          ap (λ (places : Vec ℕ _). places.items) w.places-is ∙ sym (append-nil c.loop-place.places.items)
          ∙ place_more test types k c.loop-place-test.true false (asked ∙ w.if-is_in.false) c.loop-place.places.items
          c.loop-place.invariant
    ]

-- after the last type, the places are those of all types in the set
pub returns-clause-places : goal.returns-clause-places
returns-clause-places g c =
    let types = c.types-types.result.now in
    let test : ℕ → Bool = is_one_of c.args.reader.indexes.now.concepts (g.S.ConceptSet.items_of c.args.set.now) in
    let at : ℕ → Bool = λ place. test (get_or types place 0) in
    let long : c.loop-place.place ≡ length types = omega arith in
    record {
      within = subst (λ (all : List ℕ). All (λ place. place < length all) c.loop-place.places.items)
          c.types-types.ensures.items
          (subst (All (λ place. place < length types)) (sym c.loop-place.invariant)
          (subst (λ (count : ℕ). All (λ place. place < count) (numbers_where c.loop-place.place at)) long
          (all_below c.loop-place.place (numbers_where c.loop-place.place at)
          (numbers_where-rising c.loop-place.place at))));
      told = λ place within.
          ap (λ (places : List ℕ). has places place) c.loop-place.invariant
          ∙ has-numbers_where c.loop-place.place at place
          (omega (arith, within, long, ap (λ (ids : List ℕ). length ids) c.types-types.ensures.items))
          ∙ ap (λ (ids : List ℕ). test (get_or ids place 0)) c.types-types.ensures.items;
    }
