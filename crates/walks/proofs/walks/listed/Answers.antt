use Rattle.std.proofs.Common.{ℕ, List, ◌≡◌, ◌<◌, ◌≤◌, ◌∷◌, [], ◌∙◌, length, get_or, refl, sym, arith}
use Rattle.std.proofs.lemmas.Result.{IfOk-weaker}
use Rattle.walks.specs.Related.{joined}
use Rattle.walks.specs.Families.{lists_of}
use Rattle.std.proofs.lemmas.List.{nil_from_length}
use Rattle.walks.proofs.JoinedLemmas.{joined_none}
use Rattle.walks.proofs.MemberLemmas.{numbers_below}
use Rattle.walks.proofs.walks.listed.Goals as goal

-- a list of one item is the list of its first item
only_item : (items : List ℕ) → 1 ≤ length items → length items < 2 → get_or items 0 0 ∷ [] ≡ items
only_item [] some few = absurd (omega arith)
only_item (item ∷ []) some few = refl
only_item (item ∷ (other ∷ items)) some few = absurd (omega arith)

-- the single concept is below the bound of the set
pub list_of_one-requires-clause-below : goal.list_of_one-requires-clause-below
list_of_one-requires-clause-below g c =
    numbers_below (g.met.S.ConceptSet.rising c.args.operand.now) (sym c.bound-in-len1.ensures) c.requires.concepts
    0 0 (omega arith)

-- the list of a set's single concept is the joined lists of the set
pub returns-in-len1-clause-items : goal.returns-in-len1-clause-items
returns-in-len1-clause-items g c =
    let only = only_item c.args.concepts.now c.in-len1.len_at_least c.in-len1.len_below ∙ c.requires.concepts in
    IfOk-weaker c.list_of_one.result _ _
    (λ found same. same ∙ (λ i. joined (c.bound-in-len1.ensures i)
    (lists_of c.args.reader.indexes.now.hierarchy c.args.family) (only i)))
    c.list_of_one.ensures.items

-- the joined lists of an empty set have no number
pub returns-in-empty-clause-items : goal.returns-in-empty-clause-items
returns-in-empty-clause-items g c = IfOk-weaker c.from_items.result _ _
    (λ found same.
    same ∙ sym (joined_none (g.S.ConceptSet.bound_of c.args.operand.now)
    (lists_of c.args.reader.indexes.now.hierarchy c.args.family))
    ∙ (λ i. joined (g.S.ConceptSet.bound_of c.args.operand.now)
    (lists_of c.args.reader.indexes.now.hierarchy c.args.family)
    ((sym (nil_from_length c.args.concepts.now (omega arith)) ∙ c.requires.concepts) i)))
    c.from_items.ensures.items
