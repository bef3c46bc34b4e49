use Rattle.std.proofs.Common.{ℕ, List, ◌<◌, ◌∙◌, arith, length, sym, ap, subst}
use Rattle.number_lists.specs.Rising.{IsRising}
use Rattle.number_lists.specs.KeyedLists.{list_of}
use Rattle.postings.proofs.MemberLists.{members_rise}
use Rattle.reading.proofs.reader.Reader.is_member.Goals as goal

-- the components of a reference set rise below 2^32, as `has_number` requires
pub has_number-requires : goal.has_number-requires
has_number-requires c =
    let release = c.args.self.snapshot.now.release in
    let refset = c.args.refset in
    let below : refset < length release.concepts =
    subst (λ (ids : List ℕ). refset < length ids) c.args.self.index.concepts c.requires in
    subst IsRising (sym (c.members.ensures
    ∙ ap (λ (lists : List (List ℕ)). list_of lists refset) c.args.self.index.members))
    (members_rise release refset below (omega (arith, c.concept_count.ensures.few)))
