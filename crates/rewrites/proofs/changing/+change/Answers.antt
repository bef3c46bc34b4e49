use Rattle.std.proofs.Common.{suc, ◌-◌, ◌≡◌, arith, rules}
use Rattle.std.proofs.lemmas.Result.{IfOk-weaker}
use Rattle.set_algebra.proofs.PlanLemmas.{plan_of-And, plan_of-Or, plan_of-Values, group_plan_of-And, group_plan_of-Or}
use Rattle.rewrites.proofs.ChildLemmas.{none_and, none_or, none_values, part_and, part_or, part_values, no_group_and}
use Rattle.rewrites.proofs.ChildLemmas.{no_group_or, group_and, group_or}
use Rattle.rewrites.proofs.changing.+change.Goals as goal

-- `change_first` makes of an `And` of concepts what the rule makes at a place in a first part
pub change_first-returns-in-And : goal.change_first-returns-in-And
change_first-returns-in-And t c = search (rules, plan_of-And)

-- `change_first` makes of an `Or` of concepts what the rule makes at a place in a first part
pub change_first-returns-in-Or : goal.change_first-returns-in-Or
change_first-returns-in-Or t c = search (rules, plan_of-Or)

-- `change_later` makes of an `And` of concepts what the rule makes at a place in a later part
pub change_later-returns-in-And : goal.change_later-returns-in-And
change_later-returns-in-And t c = search (rules, plan_of-And)

-- `change_later` makes of an `Or` of concepts what the rule makes at a place in a later part
pub change_later-returns-in-Or : goal.change_later-returns-in-Or
change_later-returns-in-Or t c = search (rules, plan_of-Or)

-- `change_later` makes of a `Values` what the rule makes at a place in a name
pub change_later-returns-in-Values : goal.change_later-returns-in-Values
change_later-returns-in-Values t c =
    let is : suc (c.args.number - 1) ≡ c.args.number = omega (arith, c.requires) in search (rules, plan_of-Values, is)

-- `change_group_first` makes of an `And` of groups what the rule makes at a place in a first part
pub change_group_first-returns-in-And : goal.change_group_first-returns-in-And
change_group_first-returns-in-And t c = search (rules, group_plan_of-And)

-- `change_group_first` makes of an `Or` of groups what the rule makes at a place in a first part
pub change_group_first-returns-in-Or : goal.change_group_first-returns-in-Or
change_group_first-returns-in-Or t c = search (rules, group_plan_of-Or)

-- `change_group_later` makes of an `And` of groups what the rule makes at a place in a later part
pub change_group_later-returns-in-And : goal.change_group_later-returns-in-And
change_group_later-returns-in-And t c = search (rules, group_plan_of-And)

-- `change_group_later` makes of an `Or` of groups what the rule makes at a place in a later part
pub change_group_later-returns-in-Or : goal.change_group_later-returns-in-Or
change_group_later-returns-in-Or t c = search (rules, group_plan_of-Or)

-- `change_part` rightly returns false if an `And` of concepts has no part with that number
pub change_part-returns-then-number-len-clause-and : goal.change_part-returns-then-number-len-clause-and
change_part-returns-then-number-len-clause-and t c =
    none_and c.args.rule c.args.place.now c.args.parts.now.items c.args.number (omega (arith, c.len.ensures))

-- `change_part` rightly returns false if an `Or` of concepts has no part with that number
pub change_part-returns-then-number-len-clause-or : goal.change_part-returns-then-number-len-clause-or
change_part-returns-then-number-len-clause-or t c =
    none_or c.args.rule c.args.place.now c.args.parts.now.items c.args.number (omega (arith, c.len.ensures))

-- `change_part` rightly returns false if a `Values` has no name with that number
pub change_part-returns-then-number-len-clause-values : goal.change_part-returns-then-number-len-clause-values
change_part-returns-then-number-len-clause-values t c =
    λ start.
    none_values c.args.rule c.args.place.now c.args.parts.now.items c.args.number start (omega (arith, c.len.ensures))

-- `change_part` changes a part of an `And` of concepts as the rule does at a place in it
pub change_part-returns-clause-and : goal.change_part-returns-clause-and
change_part-returns-clause-and t c =
    IfOk-weaker c.change.result _ _
    (λ fits.
    part_and c.args.rule c.args.place.now c.args.parts.now.items c.args.number c.index_mut.result.now c.change.new.plan
    fits
    (omega (arith, c.len.ensures)) c.index_mut.ensures.value)
    c.change.ensures

-- `change_part` changes a part of an `Or` of concepts as the rule does at a place in it
pub change_part-returns-clause-or : goal.change_part-returns-clause-or
change_part-returns-clause-or t c =
    IfOk-weaker c.change.result _ _
    (λ fits.
    part_or c.args.rule c.args.place.now c.args.parts.now.items c.args.number c.index_mut.result.now c.change.new.plan
    fits
    (omega (arith, c.len.ensures)) c.index_mut.ensures.value)
    c.change.ensures

-- `change_part` changes a name of a `Values` as the rule does at a place in it
pub change_part-returns-clause-values : goal.change_part-returns-clause-values
change_part-returns-clause-values t c =
    IfOk-weaker c.change.result _ _
    (λ fits.
    part_values c.args.rule c.args.place.now c.args.parts.now.items c.args.number c.index_mut.result.now
    c.change.new.plan fits (omega (arith, c.len.ensures)) c.index_mut.ensures.value)
    c.change.ensures

-- `change_group_part` rightly returns false if an `And` of groups has no part with that number
pub change_group_part-returns-then-number-len-clause-and : goal.change_group_part-returns-then-number-len-clause-and
change_group_part-returns-then-number-len-clause-and t c =
    no_group_and c.args.rule c.args.place.now c.args.parts.now.items c.args.number (omega (arith, c.len.ensures))

-- `change_group_part` rightly returns false if an `Or` of groups has no part with that number
pub change_group_part-returns-then-number-len-clause-or : goal.change_group_part-returns-then-number-len-clause-or
change_group_part-returns-then-number-len-clause-or t c =
    no_group_or c.args.rule c.args.place.now c.args.parts.now.items c.args.number (omega (arith, c.len.ensures))

-- `change_group_part` changes a part of an `And` of groups as the rule does at a place in it
pub change_group_part-returns-clause-and : goal.change_group_part-returns-clause-and
change_group_part-returns-clause-and t c =
    IfOk-weaker c.change_group.result _ _
    (λ fits.
    group_and c.args.rule c.args.place.now c.args.parts.now.items c.args.number c.index_mut.result.now
    c.change_group.new.plan fits (omega (arith, c.len.ensures)) c.index_mut.ensures.value)
    c.change_group.ensures

-- `change_group_part` changes a part of an `Or` of groups as the rule does at a place in it
pub change_group_part-returns-clause-or : goal.change_group_part-returns-clause-or
change_group_part-returns-clause-or t c =
    IfOk-weaker c.change_group.result _ _
    (λ fits.
    group_or c.args.rule c.args.place.now c.args.parts.now.items c.args.number c.index_mut.result.now
    c.change_group.new.plan fits (omega (arith, c.len.ensures)) c.index_mut.ensures.value)
    c.change_group.ensures
