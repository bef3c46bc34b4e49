use Rattle.std.proofs.Common.{ℕ, ◌≡◌, ◌≤◌, ◌+◌, ◌-◌, ◌^◌, ◌∙◌, ap, arith, min, subst, sym}
use Rattle.release_model.specs.Release.{Release}
use Rattle.constraint_tree.specs.Tree.{tree_of}
use Rattle.set_algebra.specs.Meaning.{means}
use Rattle.set_algebra.specs.Physical.{Physical, physical_of}
use Rattle.set_algebra.specs.Plan.{Plan}
use Rattle.plan_bounds.specs.Bounds.{bound, capped}
use Rattle.plan_bounds.specs.Floors.{floor}
use Rattle.query_service.specs.LimitedAnswer.{told_bound}
use Rattle.query_tool.proofs.ExplanationLemmas.{explains_least}
use Rattle.query_tool.proofs.LimitLemmas.{within_limit}
use Rattle.query_tool.proofs.finding.constraint_within.Goals as goal

-- if memory was refused, the visits stay within the limit, because the bound of the plan is
pub returns-in_err-found-clause-limit : goal.returns-in_err-found-clause-limit
returns-in_err-found-clause-limit g c =
    let plan = physical_of c.in_ok-physical.physical.plan in
    let under : capped (bound c.args.indexes.now plan) ≤ c.args.limit =
    omega (arith, c.bound-most.ensures, c.if-most-limit.false) in
    within_limit c.args.limit c.args.visits.now.count c.found_by.new.visits.count (bound c.args.indexes.now plan) under
    c.found_by.ensures.within c.found_by.ensures.fits

-- the bound is not above the limit, and the concepts were found by the plan
pub returns-clause-found : goal.returns-clause-found
returns-clause-found g c =
    let tree = tree_of c.args.constraint.now in
    let indexed = c.args.indexes.now in
    let early = c.args.visits.now.count in
    let late = c.found_by.new.visits.count in
    let least = c.in_ok-physical.ensures in
    let plan = physical_of c.in_ok-physical.physical.plan in
    let meaning = λ (release : Release) (concept : ℕ).
    ap (λ (own : Plan). means release own concept) (sym least.plan) ∙ least.meaning release concept in
    let most_is : c.bound-most.result ≡ told_bound indexed tree =
    c.bound-most.ensures ∙ ap (λ (own : Physical). capped (bound indexed own)) least.chosen in
    record {
      explained = explains_least c.args.snapshot.now tree indexed plan c.requires least.chosen least.least meaning;
      not_above = omega (arith, most_is, c.if-most-limit.false);
      concepts = c.in_ok-found.ensures.concepts tree (least.meaning c.args.snapshot.now.release);
      within = subst (λ (own : Physical). late ≤ early + bound indexed own) least.chosen c.in_ok-found.ensures.within;
      floor_is_read = subst (λ (own : Physical). min (early + floor indexed own) (2 ^ 64 - 1) ≤ late) least.chosen
          c.in_ok-found.ensures.floor;
    }

-- the visits stay within the limit, because the bound of the plan is
pub returns-clause-limit : goal.returns-clause-limit
returns-clause-limit g c =
    let plan = physical_of c.in_ok-physical.physical.plan in
    let under : capped (bound c.args.indexes.now plan) ≤ c.args.limit =
    omega (arith, c.bound-most.ensures, c.if-most-limit.false) in
    within_limit c.args.limit c.args.visits.now.count c.found_by.new.visits.count (bound c.args.indexes.now plan) under
    c.found_by.ensures.within c.found_by.ensures.fits
