-- Answers of the nodes of dotted attributes.
use Rattle.std.proofs.Common.{subst, le_trans, ℕ, List, ◌≡◌, ◌+◌, ◌∷◌, ◌∙◌, Bool}
use Rattle.std.proofs.Common.{length, get_or, ap, refl, sym, arith, le_of_lt}
use Rattle.std.proofs.lemmas.List.{take_all}
use Rattle.set_algebra.specs.declared.plan.ConceptPlan.{ConceptPlan}
use Rattle.constraint_tree.specs.Denotation.{is_value}
use Rattle.set_algebra.specs.Meaning.{leads, means}
use Rattle.candidates.specs.Numbers.{is_one_of, numbers_in}
use Rattle.set_algebra.specs.Plan.{Plan}
use Rattle.set_algebra.specs.Plan.{no_plans, plan_then, values_plan}
use Rattle.set_algebra.specs.Physical.{physical_of}
use Rattle.executor.specs.inside.Logical.{logical_of, logicals_of}
use Rattle.candidates.specs.Within.{AreBelow, may_be}
use Rattle.reading.proofs.CountLemmas.{counted_thrice}
use Rattle.executor.proofs.NamedLemmas.{named_again}
use Rattle.plan_bounds.specs.Bounds.{values_bound}
use Rattle.plan_bounds.proofs.FloorLemmas.{floor-le-bound}
use Rattle.plan_bounds.proofs.PartLemmas.{plan_count-parts}
use Rattle.pair_sets.proofs.LeafLemmas.{sources_known}
use Rattle.executor.proofs.AlongLemmas.{dotted_counted, dotted_floor, first_along, values_of_few}
use Rattle.executor.proofs.NodeLemmas.{name_step, one_meant, values_node}
use Rattle.executor.proofs.PartWork.{few_of_candidates, few_values}
use Rattle.executor.proofs.WithinNodes.{kept_node}
use Rattle.executor.proofs.WorkLemmas.{along_le}
use Rattle.executor.proofs.WorkLemmas.{along_more}
use Rattle.executor.proofs.WorkLemmas.{some_end, some_next, some_start, some_turn}
use Rattle.executor.proofs.+execute.Goals as goal

-- before the first name, the set that the attributes start from meets the invariant
pub execute_attributes-loop-name-init : goal.dotted_plans::execute_attributes-loop-name-init
execute_attributes-loop-name-init g t c = record {
  items = λ plan from. from;
  bound = c.requires.bound;
  few = λ some. absurd (omega (arith, some));
  start = λ none. refl;
  work = some_start c.args.visits.now.count;
  known = c.requires.known;
}

-- a turn that goes along one attribute name keeps the invariant of the names
pub execute_attributes-loop-name-preserved : goal.dotted_plans::execute_attributes-loop-name-preserved
execute_attributes-loop-name-preserved g t c =
    let release = c.args.reader.snapshot.now.release in
    let indexed = c.args.reader.indexes.now in
    let sources : ℕ → Bool = is_one_of indexed.concepts (g.S.ConceptSet.items_of c.loop-name.found) in
    let one : ℕ → Bool = is_one_of indexed.concepts (g.S.ConceptSet.items_of c.in_ok-named.named) in
    record {
      items = λ plan from.
          name_step release plan c.args.names.now c.loop-name.name-index c.name-item.result c.loop-name-test.true
          c.name-item.is
          indexed.concepts (g.S.ConceptSet.items_of c.loop-name.found) (g.S.ConceptSet.items_of c.in_ok-named.named)
          (g.S.ConceptSet.items_of c.in_ok-found.found)
          c.args.reader.index.concepts c.in_ok-named.ensures.found.items c.in_ok-found.ensures.found.items
          (c.loop-name.invariant.items plan from);
      bound = c.in_ok-found.ensures.found.bound;
      few = λ some.
          few_values release indexed c.args.reader.index c.concept_count.ensures.rising
          (sources_known release c.concept_count.ensures.rising c.attribute_count.ensures.by_source) sources one
          (g.S.ConceptSet.items_of c.in_ok-found.found) c.in_ok-found.ensures.found.items;
      start = λ none. absurd (omega (arith, none));
      work = some_turn c.loop-name.invariant.work c.name-item.result c.loop-name-test.true c.name-item.is
          (length (g.S.ConceptSet.items_of c.loop-name.found) + length indexed.rows)
          (along_more indexed c.loop-name.name-index (length (g.S.ConceptSet.items_of c.args.from))
          (length (g.S.ConceptSet.items_of c.loop-name.found)) c.loop-name.invariant.start c.loop-name.invariant.few)
          (omega (arith, c.named_by.ensures.counted.grows, c.values_along.ensures.counted.grows))
          (omega (arith, c.named_by.ensures.counted.within, c.values_along.ensures.counted.within))
          (omega (arith, c.in_ok-named.ensures.found.floor, c.values_along.ensures.counted.grows));
      known = record { items_are = c.in_ok-named.ensures.found.items; bound_is = c.in_ok-named.ensures.found.bound };
    }

-- if memory is refused while a name is executed, the visits are within the bound of the values along all names
pub execute_attributes-returns-in_err-named-clause-counted :
    goal.dotted_plans::execute_attributes-returns-in_err-named-clause-counted
execute_attributes-returns-in_err-named-clause-counted g t c =
    let indexed = c.args.reader.indexes.now in
    let first : ℕ = length (g.S.ConceptSet.items_of c.args.from) in
    record {
      grows = le_trans c.loop-name.invariant.work.grows c.named_by.ensures.counted.grows;
      within = omega (
        arith,
        some_next {next = c.named_by.new.visits.count} c.loop-name.invariant.work c.name-item.result
            c.loop-name-test.true c.name-item.is 0
            (omega (
              arith,
              along_le indexed c.loop-name.name-index (length c.args.names.now) first
                  (le_of_lt c.loop-name-test.true),
            ))
            (omega (arith, c.named_by.ensures.counted.within)),
        ap (λ (count : ℕ). values_bound indexed count first) (plan_count-parts c.args.names.now),
      );
    }

-- if memory is refused while the values along a name are found, the visits are within the bound of the values along
-- all names
pub execute_attributes-returns-in_err-found-clause-counted :
    goal.dotted_plans::execute_attributes-returns-in_err-found-clause-counted
execute_attributes-returns-in_err-found-clause-counted g t c =
    let indexed = c.args.reader.indexes.now in
    let first : ℕ = length (g.S.ConceptSet.items_of c.args.from) in
    let found : ℕ = length (g.S.ConceptSet.items_of c.loop-name.found) in
    let read = along_more indexed c.loop-name.name-index first found c.loop-name.invariant.start
    c.loop-name.invariant.few in
    let more = along_le indexed (c.loop-name.name-index + 1) (length c.args.names.now) first
    (omega (arith, c.loop-name-test.true)) in
    record {
      grows = omega (
        arith,
        c.loop-name.invariant.work.grows,
        c.named_by.ensures.counted.grows,
        c.values_along.ensures.counted.grows,
      );
      within = omega (
        arith,
        some_next {next = c.values_along.new.visits.count} c.loop-name.invariant.work c.name-item.result
            c.loop-name-test.true
            c.name-item.is (found + length indexed.rows)
            (omega (arith, read, more)) (omega (
              arith,
              c.named_by.ensures.counted.within,
              c.values_along.ensures.counted.within,
            )),
        ap (λ (count : ℕ). values_bound indexed count first) (plan_count-parts c.args.names.now),
      );
    }

-- at the end the visits are within the bound of the values along all names
pub execute_attributes-returns-clause-counted : goal.dotted_plans::execute_attributes-returns-clause-counted
execute_attributes-returns-clause-counted g t c =
    let indexed = c.args.reader.indexes.now in
    let first : ℕ = length (g.S.ConceptSet.items_of c.args.from) in
    record {
      grows = c.loop-name.invariant.work.grows;
      within = omega (
        arith,
        (some_end c.loop-name.invariant.work (omega arith)).within,
        ap (λ (count : ℕ). values_bound indexed count first) (plan_count-parts c.args.names.now),
      );
    }

-- at the end what was found is what all names lead to from the start, and the floors of the names are counted
pub execute_attributes-returns-clause-found : goal.dotted_plans::execute_attributes-returns-clause-found
execute_attributes-returns-clause-found g t c =
    let release = c.args.reader.snapshot.now.release in
    λ plan from.
    record {
      items = c.loop-name.invariant.items plan from
          ∙ ap (λ (names : List ConceptPlan). numbers_in release
          (leads release (means release plan) (logicals_of names)))
          (take_all c.loop-name.name-index c.args.names.now (omega arith));
      bound = c.loop-name.invariant.bound;
      floor = (some_end c.loop-name.invariant.work (omega arith)).floor;
    }

-- if the name before is equal, its set is what the name means, and the floor of the name is counted
pub named_by-returns-then-eq-clause-found : goal.dotted_plans::named_by-returns-then-eq-clause-found
named_by-returns-then-eq-clause-found g t c =
    let release = c.args.reader.snapshot.now.release in
    let named = named_again release c.args.known.0.now c.args.name.now (c.eq.ensures.data.0 c.if-eq.true)
    c.requires.known in
    record {
      items = named.items_are;
      bound = named.bound_is;
      floor = omega (arith, (rw c.lengths.ensures at c.plan_floor.ensures), c.add.ensures.count);
    }

-- if the name before is equal, the floor that is counted is within the bound of the name
pub named_by-returns-then-eq-clause-counted : goal.dotted_plans::named_by-returns-then-eq-clause-counted
named_by-returns-then-eq-clause-counted g t c = record {
  grows = c.add.ensures.grows;
  within = omega (
    arith,
    (rw c.lengths.ensures at c.plan_floor.ensures),
    c.add.ensures.count,
    floor-le-bound c.args.reader.indexes.now (physical_of c.args.name.now),
  );
}

-- what the start has found among the sources of rows with the types has all values along these types
pub execute_from_few-returns-clause-found : goal.dotted_plans::execute_from_few-returns-clause-found
execute_from_few-returns-clause-found g t c =
    let release = c.args.reader.snapshot.now.release in
    let concepts = c.args.reader.indexes.now.concepts in
    let types : ℕ → Bool = is_one_of concepts (g.S.ConceptSet.items_of c.args.named.now) in
    record {
      items = values_of_few release (logical_of c.args.start.now) types concepts
          (g.S.ConceptSet.items_of c.args.sources.now)
          (g.S.ConceptSet.items_of c.in_ok-from.from)
          (g.S.ConceptSet.items_of c.in_ok-found.found) c.args.reader.index.concepts c.requires.sources
          c.in_ok-from.ensures.found.items c.in_ok-found.ensures.found.items;
      bound = c.in_ok-found.ensures.found.bound;
      floor = omega (
        arith,
        c.stats_of.ensures.counted.grows,
        c.in_ok-from.ensures.found.floor,
        c.values_along.ensures.counted.grows,
      );
    }

-- the sources are read once to measure them, and what the start has found among them are no more
pub execute_from_few-returns-clause-counted : goal.dotted_plans::execute_from_few-returns-clause-counted
execute_from_few-returns-clause-counted g t c =
    counted_thrice c.stats_of.ensures.counted c.execute_within.ensures.counted c.values_along.ensures.counted
    (omega (
      arith,
      few_of_candidates (length c.args.reader.snapshot.now.release.concepts)
          (g.S.ConceptSet.items_of c.args.sources.now)
          (λ n. means c.args.reader.snapshot.now.release (logical_of c.args.start.now)
          (get_or c.args.reader.snapshot.now.release.concepts n 0))
          (g.S.ConceptSet.items_of c.in_ok-from.from) c.in_ok-from.ensures.found.items,
    ))

-- if memory is refused while the values are found, the visits are within the same bound
pub execute_from_few-returns-in_err-found-clause-counted :
    goal.dotted_plans::execute_from_few-returns-in_err-found-clause-counted
execute_from_few-returns-in_err-found-clause-counted g t c =
    counted_thrice c.stats_of.ensures.counted c.execute_within.ensures.counted c.values_along.ensures.counted
    (omega (
      arith,
      few_of_candidates (length c.args.reader.snapshot.now.release.concepts)
          (g.S.ConceptSet.items_of c.args.sources.now)
          (λ n. means c.args.reader.snapshot.now.release (logical_of c.args.start.now)
          (get_or c.args.reader.snapshot.now.release.concepts n 0))
          (g.S.ConceptSet.items_of c.in_ok-from.from) c.in_ok-from.ensures.found.items,
    ))

-- if the start is executed for all concepts, the values of what it has found are those of what it means
pub execute_start-returns-in_ok-found-in-None-clause-found :
    goal.dotted_plans::execute_start-returns-in_ok-found-in-None-clause-found
execute_start-returns-in_ok-found-in-None-clause-found g t c =
    let release = c.args.reader.snapshot.now.release in
    let concepts = c.args.reader.indexes.now.concepts in
    let types : ℕ → Bool = is_one_of concepts (g.S.ConceptSet.items_of c.args.named.now) in
    record {
      items = c.in_ok-found-in-None.ensures.found.items
          ∙ ap (λ (set : ℕ → Bool). numbers_in release (is_value release set types))
          (one_meant release (logical_of c.args.start.now) concepts
          (g.S.ConceptSet.items_of c.in_ok-from-in-None.from)
          c.args.reader.index.concepts c.in_ok-from-in-None.ensures.found.items);
      bound = c.in_ok-found-in-None.ensures.found.bound;
      floor = omega (
        arith,
        c.sources_within.ensures.counted.grows,
        c.in_ok-from-in-None.ensures.found.floor,
        c.values_along.ensures.counted.grows,
      );
    }

-- the values along the first name are no more than the concepts and the rows, so those along the other names fit
-- beside them
pub execute_dotted-returns-in_ok-found-in-Some-clause-counted :
    goal.dotted_plans::execute_dotted-returns-in_ok-found-in-Some-clause-counted
execute_dotted-returns-in_ok-found-in-Some-clause-counted g t c =
    let release = c.args.reader.snapshot.now.release in
    let indexed = c.args.reader.indexes.now in
    dotted_counted indexed (physical_of c.args.start.now) c.in-Some.ensures.cases.0
    (few_values release indexed c.args.reader.index c.concept_count.ensures.rising
    (sources_known release c.concept_count.ensures.rising c.attribute_count.ensures.by_source)
    (means release (logical_of c.args.start.now))
    (is_one_of indexed.concepts (g.S.ConceptSet.items_of c.in_ok-named-in-Some.named))
    (g.S.ConceptSet.items_of c.in_ok-along-in-Some.along) c.in_ok-along-in-Some.ensures.found.items)
    c.execute_within-in-Some.ensures.counted c.execute_start.ensures.counted c.execute_attributes.ensures.counted

-- if memory is refused while the values along the other names are found, the visits are within the bound of the plan
-- of values
pub execute_dotted-returns-in_err-driven-in-Some-clause-counted :
    goal.dotted_plans::execute_dotted-returns-in_err-driven-in-Some-clause-counted
execute_dotted-returns-in_err-driven-in-Some-clause-counted g t c =
    let release = c.args.reader.snapshot.now.release in
    let indexed = c.args.reader.indexes.now in
    dotted_counted indexed (physical_of c.args.start.now) c.in-Some.ensures.cases.0
    (few_values release indexed c.args.reader.index c.concept_count.ensures.rising
    (sources_known release c.concept_count.ensures.rising c.attribute_count.ensures.by_source)
    (means release (logical_of c.args.start.now))
    (is_one_of indexed.concepts (g.S.ConceptSet.items_of c.in_ok-named-in-Some.named))
    (g.S.ConceptSet.items_of c.in_ok-along-in-Some.along) c.in_ok-along-in-Some.ensures.found.items)
    c.execute_within-in-Some.ensures.counted c.execute_start.ensures.counted c.execute_attributes.ensures.counted

-- if memory is refused while the values found are restricted to the candidates, the visits are within the bound of
-- the plan of values
pub execute_dotted-returns-in_err-found-in-Some-clause-counted :
    goal.dotted_plans::execute_dotted-returns-in_err-found-in-Some-clause-counted
execute_dotted-returns-in_err-found-in-Some-clause-counted g t c =
    let release = c.args.reader.snapshot.now.release in
    let indexed = c.args.reader.indexes.now in
    dotted_counted indexed (physical_of c.args.start.now) c.in-Some.ensures.cases.0
    (few_values release indexed c.args.reader.index c.concept_count.ensures.rising
    (sources_known release c.concept_count.ensures.rising c.attribute_count.ensures.by_source)
    (means release (logical_of c.args.start.now))
    (is_one_of indexed.concepts (g.S.ConceptSet.items_of c.in_ok-named-in-Some.named))
    (g.S.ConceptSet.items_of c.in_ok-along-in-Some.along) c.in_ok-along-in-Some.ensures.found.items)
    c.execute_within-in-Some.ensures.counted c.execute_start.ensures.counted c.execute_attributes.ensures.counted

-- what the names lead to from the start, restricted to the candidates, is what the plan of values means among them
pub execute_dotted-returns-in_ok-found-in-Some-clause-found :
    goal.dotted_plans::execute_dotted-returns-in_ok-found-in-Some-clause-found
execute_dotted-returns-in_ok-found-in-Some-clause-found g t c =
    let release = c.args.reader.snapshot.now.release in
    let indexed = c.args.reader.indexes.now in
    let may : ℕ → Bool = may_be g.S.ConceptSet.items_of c.args.candidates.now in
    let start : Plan = logical_of c.args.start.now in
    let first : Plan = logical_of c.in-Some.first.now in
    let are : c.args.names.now ≡ c.in-Some.first.now ∷ c.in-Some.others.now = c.in-Some.ensures.cases.0 in
    let plan : Plan = values_plan start (logicals_of c.args.names.now) in
    let along : g.S.ConceptSet.items_of c.in_ok-along-in-Some.along
    ≡ numbers_in release (is_value release (means release start) (means release first)) =
    first_along release start first indexed.concepts (g.S.ConceptSet.items_of c.in_ok-named-in-Some.named)
    (g.S.ConceptSet.items_of c.in_ok-along-in-Some.along) c.args.reader.index.concepts
    c.in_ok-named-in-Some.ensures.found.items c.in_ok-along-in-Some.ensures.found.items in
    let driven = c.in_ok-driven-in-Some.ensures.found (values_plan start (plan_then first no_plans)) along in
    record {
      items = kept_node release may plan (g.S.ConceptSet.items_of c.in_ok-driven-in-Some.driven)
          (g.S.ConceptSet.items_of c.in_ok-found-in-Some.found)
          (values_node release plan (g.S.ConceptSet.items_of c.in_ok-driven-in-Some.driven) start c.args.names.now refl
          (driven.items ∙ ap (λ (names : List ConceptPlan). numbers_in release
          (leads release (means release start) (logicals_of names))) (sym are)))
          c.in_ok-found-in-Some.ensures.items;
      bound = c.in_ok-found-in-Some.ensures.bound ∙ driven.bound;
      floor = dotted_floor indexed (physical_of c.args.start.now) are c.args.visits.now.count
          c.in_ok-named-in-Some.ensures.found.floor
          c.in_ok-along-in-Some.ensures.found.floor driven.floor;
    }

-- the candidates lie below the bound of the values found, as `restricted` requires
pub execute_dotted-restricted-requires : goal.dotted_plans::execute_dotted-restricted-requires
execute_dotted-restricted-requires g t c =
    let release = c.args.reader.snapshot.now.release in
    let start : Plan = logical_of c.args.start.now in
    let first : Plan = logical_of c.in-Some.first.now in
    let along : g.S.ConceptSet.items_of c.in_ok-along-in-Some.along
    ≡ numbers_in release (is_value release (means release start) (means release first)) =
    first_along release start first c.args.reader.indexes.now.concepts
    (g.S.ConceptSet.items_of c.in_ok-named-in-Some.named)
    (g.S.ConceptSet.items_of c.in_ok-along-in-Some.along) c.args.reader.index.concepts
    c.in_ok-named-in-Some.ensures.found.items c.in_ok-along-in-Some.ensures.found.items in
    let driven = c.in_ok-driven-in-Some.ensures.found (values_plan start (plan_then first no_plans)) along in
    record {
      bound = subst (λ (count : ℕ). AreBelow g.S.ConceptSet.bound_of count c.args.candidates.now) (sym driven.bound)
          c.requires.candidates.below;
    }
