use Rattle.std.proofs.Common.{◌∙◌, ℕ, List, ap, arith, length, subst, sym}
use Rattle.number_lists.specs.KeyedLists.{list_of}
use Rattle.number_lists.specs.Rising.{IsRising}
use Rattle.postings.proofs.MemberLists.{members_rise}
use Rattle.concept_printer.proofs.members.is_member.Goals as goal

-- the components of a reference set rise, so binary search finds the component
pub has_number-requires : goal.has_number-requires
has_number-requires c =
    let (release, is) = c.requires.indexes in
    subst IsRising (sym (c.members.ensures ∙ ap (λ (members : List (List ℕ)). list_of members c.args.set) is.members))
    (members_rise release c.args.set
    (omega (arith, c.requires.set, c.stats.ensures.members, ap (λ (concepts : List ℕ). length concepts) is.concepts))
    (omega (arith, c.concept_count.ensures.few, ap (λ (concepts : List ℕ). length concepts) is.concepts)))
