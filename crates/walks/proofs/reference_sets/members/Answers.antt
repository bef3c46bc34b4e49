use Rattle.std.proofs.Common.{ℕ, List, ◌<◌, ◌≡◌, ◌∙◌, length, sym, ap, subst}
use Rattle.std.specs.Prelude.{All}
use Rattle.std.specs.List.{flat_map}
use Rattle.std.proofs.lemmas.Result.{IfOk-weaker}
use Rattle.number_lists.specs.Rising.{listed_numbers}
use Rattle.number_lists.specs.KeyedLists.{list_of}
use Rattle.postings.specs.Indexed.{members_of}
use Rattle.walks.proofs.MemberLemmas.{members_below, members_listed}
use Rattle.walks.proofs.reference_sets.members.Goals as goal

-- the components in the lists are numbers of concepts
pub from_numbers-requires : goal.from_numbers-requires
from_numbers-requires g c =
    let release = c.args.reader.snapshot.now.release in
    let refsets : List ℕ = c.args.refsets.now in
    let below : All (λ refset. refset < length release.concepts) refsets =
    subst (λ (ids : List ℕ). All (λ refset. refset < length ids) refsets) c.args.reader.index.concepts
    c.requires.below in
    let found_are : c.as_slice.result.now ≡ flat_map (list_of (members_of release)) refsets =
    c.as_slice.ensures.value ∙ c.in_ok-found.ensures.items
    ∙ ap (λ (lists : List (List ℕ)). flat_map (list_of lists) refsets) c.args.reader.index.members in
    subst (λ (count : ℕ). All (λ number. number < count) c.as_slice.result.now) (sym c.concept_count.ensures.count)
    (subst (All (λ number. number < length release.concepts)) (sym found_are)
    (members_below release refsets below))

-- the numbers in the lists of the reference sets are the components that the release denotes
pub returns-clause-items : goal.returns-clause-items
returns-clause-items g c =
    let release = c.args.reader.snapshot.now.release in
    let refsets : List ℕ = c.args.refsets.now in
    let below : All (λ refset. refset < length release.concepts) refsets =
    subst (λ (ids : List ℕ). All (λ refset. refset < length ids) refsets) c.args.reader.index.concepts
    c.requires.below in
    let found_are : c.as_slice.result.now ≡ flat_map (list_of (members_of release)) refsets =
    c.as_slice.ensures.value ∙ c.in_ok-found.ensures.items
    ∙ ap (λ (lists : List (List ℕ)). flat_map (list_of lists) refsets) c.args.reader.index.members in
    IfOk-weaker c.from_numbers.result _ _
    (λ found listed.
    listed ∙ (λ i. listed_numbers (c.concept_count.ensures.count i) (found_are i))
    ∙ members_listed release refsets below)
    c.from_numbers.ensures.items
