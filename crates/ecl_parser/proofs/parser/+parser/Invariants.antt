-- The descent ends: each bracket lowers the depth, and at one depth each function calls only functions with a smaller
-- measure.
use Rattle.std.proofs.Common.{◌≡◌, ◌+◌, ◌-◌, ◌*◌, map}
use Rattle.constraint_tree.specs.Tree.{refinement_tree_of, set_tree_of, tree_of}
use Rattle.ecl_parser.specs.inside.Gives.{symbols_from}
use Rattle.ecl_parser.specs.inside.Reading.{all_after, item_in, many, part_in, readers, sub_in, with_front}
use Rattle.ecl_parser.proofs.parser.+parser.Given as goal

abbrev pub decreases-constraint : goal.decreases-constraint
decreases-constraint l = 24 * l.depth + 18

abbrev pub decreases-constraint_after : goal.decreases-constraint_after
decreases-constraint_after l = 24 * l.depth + 17

abbrev pub decreases-joined : goal.decreases-joined
decreases-joined l = 24 * l.depth + 16

abbrev pub decreases-dotted : goal.decreases-dotted
decreases-dotted l = 24 * l.depth + 16

abbrev pub decreases-refined : goal.decreases-refined
decreases-refined l = 24 * l.depth + 16

abbrev pub decreases-subtracted : goal.decreases-subtracted
decreases-subtracted l = 24 * l.depth + 16

abbrev pub decreases-refinement : goal.decreases-refinement
decreases-refinement l = 24 * l.depth + 14

abbrev pub decreases-set : goal.decreases-set
decreases-set l = 24 * l.depth + 14

abbrev pub decreases-items : goal.decreases-items
decreases-items l = 24 * l.depth + 12

abbrev pub decreases-item : goal.decreases-item
decreases-item l = 24 * l.depth + 11

abbrev pub decreases-counted_item : goal.decreases-counted_item
decreases-counted_item l = 24 * l.depth + 10

abbrev pub decreases-parts : goal.decreases-parts
decreases-parts l = 24 * l.depth + 9

abbrev pub decreases-part : goal.decreases-part
decreases-part l = 24 * l.depth + 8

abbrev pub decreases-pair : goal.decreases-pair
decreases-pair l = 24 * l.depth + 7

abbrev pub decreases-test : goal.decreases-test
decreases-test l = 24 * l.depth + 6

abbrev pub decreases-subs : goal.decreases-subs
decreases-subs l = 24 * l.depth + 5

abbrev pub decreases-sub : goal.decreases-sub
decreases-sub l = 24 * l.depth + 4

abbrev pub decreases-member : goal.decreases-member
decreases-member l = 24 * l.depth + 3

abbrev pub decreases-focus : goal.decreases-focus
decreases-focus l = 24 * l.depth + 2

-- the operands read so far, with what the remaining turns read after them, are what the whole loop reads
abbrev pub invariant-subs-loop-turn : goal.invariant-subs-loop-turn
invariant-subs-loop-turn l =
    with_front (map tree_of l.parts.items)
    (many (sub_in (readers l.depth)) l.joint (l._turn-end - l._turn) (symbols_from l.tokens l.at))
    ≡ with_front (map tree_of l.fn.parts.items)
    (all_after (sub_in (readers l.depth)) l.joint (symbols_from l.tokens l.fn.at))

-- the items read so far, with what the remaining turns read after them, are what the whole loop reads
abbrev pub invariant-items-loop-turn : goal.invariant-items-loop-turn
invariant-items-loop-turn l =
    with_front (map refinement_tree_of l.parts.items)
    (many (item_in (readers l.depth)) l.joint (l._turn-end - l._turn) (symbols_from l.tokens l.at))
    ≡ with_front (map refinement_tree_of l.fn.parts.items)
    (all_after (item_in (readers l.depth)) l.joint (symbols_from l.tokens l.fn.at))

-- the parts read so far, with what the remaining turns read after them, are what the whole loop reads
abbrev pub invariant-parts-loop-turn : goal.invariant-parts-loop-turn
invariant-parts-loop-turn l =
    with_front (map set_tree_of l.list.items)
    (many (part_in (readers l.depth)) l.joint (l._turn-end - l._turn) (symbols_from l.tokens l.at))
    ≡ with_front (map set_tree_of l.fn.list.items)
    (all_after (part_in (readers l.depth)) l.joint (symbols_from l.tokens l.fn.at))
