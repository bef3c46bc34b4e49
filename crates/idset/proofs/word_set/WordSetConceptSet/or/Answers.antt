use Rattle.std.proofs.Common.{◌≡◌, ◌∙◌, ap, sym, length, bit_or}
use Rattle.std.specs.Simd.Lanes.{zip2}
use Rattle.idset.proofs.WordLemmas.{holds_or, same_words}
use Rattle.idset.proofs.word_set.WordSetConceptSet.or.Goals as goal

-- the words of both sets are equally many, because their bounds are equal
pub or_words-requires : goal.or_words-requires
or_words-requires c =
    let mine = c.args.self.now in
    let theirs = c.args.other.now in
    ap length c.deref-2.ensures.value
    ∙ same_words mine.bound theirs.bound mine.words.items theirs.words.items c.requires mine.held theirs.held
    ∙ sym (ap length c.deref.ensures.value)

-- `bit_or` of the words of both sets stays within the bound
pub invariant_of-result : goal.invariant_of-result
invariant_of-result c =
    let mine = c.args.self.now in
    let theirs = c.args.other.now in
    let made : c.in_ok-words.words.items ≡ zip2 bit_or mine.words.items theirs.words.items = c.in_ok-words.ensures
    ∙ (λ i. zip2 bit_or (c.deref.ensures.value i) (c.deref-2.ensures.value i)) in
    let holds = holds_or mine.bound theirs.bound mine.words.items theirs.words.items c.in_ok-words.words.items
    c.requires mine.held theirs.held made in
    record { held = holds.held; small = mine.small; rising = holds.rising }

-- `bit_or` of the words of both sets holds their union
pub returns-clause-items : goal.returns-clause-items
returns-clause-items c =
    let mine = c.args.self.now in
    let theirs = c.args.other.now in
    let made : c.in_ok-words.words.items ≡ zip2 bit_or mine.words.items theirs.words.items = c.in_ok-words.ensures
    ∙ (λ i. zip2 bit_or (c.deref.ensures.value i) (c.deref-2.ensures.value i)) in
    (holds_or mine.bound theirs.bound mine.words.items theirs.words.items c.in_ok-words.words.items c.requires mine.held
    theirs.held made).items
