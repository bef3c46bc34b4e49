use Rattle.std.proofs.Common.{◌∙◌, sym, arith}
use Rattle.std.proofs.lemmas.Result.{IfOk-weaker}
use Rattle.walks.specs.Families.{lists_of}
use Rattle.walks.proofs.JoinedLemmas.{over_length}
use Rattle.walks.proofs.RelatedLemmas.{none_left, one_left}
use Rattle.walks.proofs.walks.one_apart.Goals as goal

-- the concept has a list in the family
pub has_itself-requires-clause-below : goal.has_itself-requires-clause-below
has_itself-requires-clause-below g c =
    omega (
      arith,
      c.requires.below,
      over_length c.args.count c.args.reader.indexes.now.hierarchy c.requires.over c.args.family,
    )

-- of a single concept that is in its own list nothing is kept apart
pub returns-then-has_itself-clause-items : goal.returns-then-has_itself-clause-items
returns-then-has_itself-clause-items g c =
    let lists = lists_of c.args.reader.indexes.now.hierarchy c.args.family in
    IfOk-weaker c.from_items.result _ _
    (λ found same. same ∙ sym (none_left lists c.args.concept (sym c.has_itself.ensures ∙ c.if-has_itself.true)))
    c.from_items.ensures.items

-- a single concept that is not in its own list is kept apart
pub returns-else-has_itself-clause-items : goal.returns-else-has_itself-clause-items
returns-else-has_itself-clause-items g c =
    let lists = lists_of c.args.reader.indexes.now.hierarchy c.args.family in
    IfOk-weaker c.from_items-else-has_itself.result _ _
    (λ found same. same ∙ sym (one_left lists c.args.concept (sym c.has_itself.ensures ∙ c.if-has_itself.false)))
    c.from_items-else-has_itself.ensures.items
