use Rattle.constraint_tree.proofs.TreeLemmas.{refinement_tree_of-And, refinement_tree_of-Or, set_tree_of-And}
use Rattle.constraint_tree.proofs.TreeLemmas.{set_tree_of-Or}
use Rattle.constraint_tree.proofs.TreeLemmas.{tree_of-And, tree_of-Dotted, tree_of-Or}
use Rattle.std.proofs.Common.{rules, map, Some, ap, refl, sym, ◌∙◌, arith}
use Rattle.constraint_tree.specs.Tree.{dotted_tree, member_tree, minus_tree, refined_tree, refinement_tree_of}
use Rattle.constraint_tree.specs.Tree.{set_tree_of, tree_of, trees_of, within_test}
use Rattle.ecl_parser.specs.inside.Gives.{symbols_from}
use Rattle.ecl_parser.specs.inside.Reading.{constraint_after, constraint_in, item_in, member_in, pair_in, part_in}
use Rattle.ecl_parser.specs.inside.Reading.{readers}
use Rattle.ecl_parser.specs.inside.Reading.{refinement_after, refinement_in, set_after, set_in, sub_in}
use Rattle.ecl_parser.proofs.ReadLemmas.{all_items_read, all_parts_read, focus_in_brackets, focus_not_closed}
use Rattle.ecl_parser.proofs.ReadLemmas.{group_in_braces}
use Rattle.ecl_parser.proofs.ReadLemmas.{group_not_closed, group_too_deep, item_in_brackets, item_not_closed, many_done}
use Rattle.ecl_parser.proofs.ReadLemmas.{many_end}
use Rattle.ecl_parser.proofs.ReadLemmas.{many_fails, member_read, no_turn, pair_read, part_in_brackets, part_not_closed}
use Rattle.ecl_parser.proofs.ReadLemmas.{part_read}
use Rattle.ecl_parser.proofs.ReadLemmas.{part_too_deep, reverse_read, some_items_read, some_parts_read, turn_read}
use Rattle.ecl_parser.proofs.ReadLemmas.{within_read}
use Rattle.ecl_parser.proofs.parser.+parser.Goals.{subs-else-loop-turn-test, subs-then-loop-turn-test+then-not-take}
use Rattle.ecl_parser.proofs.parser.+parser.Goals.{items-else-loop-turn-test}
use Rattle.ecl_parser.proofs.parser.+parser.Goals.{items-then-loop-turn-test+then-not-take, parts-else-loop-turn-test}
use Rattle.ecl_parser.proofs.parser.+parser.Goals.{parts-then-loop-turn-test+then-not-take}
use Rattle.ecl_parser.proofs.parser.+parser.Goals as goal

-- an attribute set in braces, after a cardinality, is read as a group
pub counted_item-returns-then-take : goal.counted_item-returns-then-take
counted_item-returns-then-take t c =
    group_in_braces c.args.depth c.args.cardinality _ _ _ _ _ (omega arith)
    (search (rules, c.take.ensures.taken)) c.in_ok-found.ensures (search (rules, c.take-then-take.ensures.taken))

-- a constraint in round brackets is read as a focus
pub focus-returns : goal.focus-returns
focus-returns t c =
    focus_in_brackets c.args.depth _ (symbols_from c.args.tokens.now c.args.at.now)
    (symbols_from c.args.tokens.now c.take-2.new.at) _ _ (omega arith)
    (search (rules, c.take_digits.ensures.left)) (search (rules, c.take.ensures.left, c.take_digits.ensures.same))
    (search (rules, c.take-2.ensures.taken, c.take.ensures.same, c.take_digits.ensures.same)) c.in_ok-found.ensures
    (search (rules, c.take-3.ensures.taken))

-- a refinement in round brackets is read as an item
pub item-returns-then-take_bracket : goal.item-returns-then-take_bracket
item-returns-then-take_bracket t c =
    item_in_brackets c.args.depth _ _ _ _ _ (omega arith)
    (search (rules, c.take_bracket.ensures.taken)) c.in_ok-found.ensures (search (rules, c.take.ensures.taken))

-- an attribute set in round brackets is read as a part
pub part-returns-then-take_bracket : goal.part-returns-then-take_bracket
part-returns-then-take_bracket t c =
    part_in_brackets c.args.depth _ _ _ _ _ (omega arith)
    (search (rules, c.take_bracket.ensures.taken)) c.in_ok-found.ensures (search (rules, c.take.ensures.taken))

-- a constraint without a `)` after it is not read as a focus
pub focus-returns-then-not-take-2 : goal.focus-returns-then-not-take-2
focus-returns-then-not-take-2 t c =
    let same = c.take_digits.ensures.same c.in_default.is in
    let same_still = c.take.ensures.same c.if-take.false ∙ same in
    focus_not_closed c.args.depth _ (symbols_from c.args.tokens.now c.args.at.now) _ _ (omega arith)
    (c.take_digits.ensures.left c.in_default.is) (rw same at (c.take.ensures.left c.if-take.false))
    (rw same_still at (c.take-2.ensures.taken c.if-not-take.false)) c.in_ok-found.ensures
    (c.take-3.ensures.left c.if-not-take-2.true)

-- a refinement without a `)` after it is not read as an item
pub item-returns-then-not-take : goal.item-returns-then-not-take
item-returns-then-not-take t c =
    item_not_closed c.args.depth _ _ _ _ (omega arith)
    (c.take_bracket.ensures.taken c.if-take_bracket.true) c.in_ok-found.ensures (c.take.ensures.left c.if-not-take.true)

-- an attribute set without a `)` after it is not read as a part
pub part-returns-then-not-take : goal.part-returns-then-not-take
part-returns-then-not-take t c =
    part_not_closed c.args.depth _ _ _ _ (omega arith)
    (c.take_bracket.ensures.taken c.if-take_bracket.true) c.in_ok-found.ensures (c.take.ensures.left c.if-not-take.true)

-- an attribute set in brackets is not read if no bracket may be opened
pub part-returns-then-depth-eq0 : goal.part-returns-then-depth-eq0
part-returns-then-depth-eq0 t c =
    part_too_deep c.args.depth _ _ c.if-depth-eq0.true (c.take_bracket.ensures.taken c.if-take_bracket.true)

-- an attribute set without a `}` after it is not read as an item
pub counted_item-returns-then-not-take : goal.counted_item-returns-then-not-take
counted_item-returns-then-not-take t c =
    group_not_closed c.args.depth c.args.cardinality _ _ _ _ (omega arith)
    (c.take.ensures.taken c.if-take.true) c.in_ok-found.ensures (c.take-then-take.ensures.left c.if-not-take.true)

-- an attribute set in braces is not read if no bracket may be opened
pub counted_item-returns-then-depth-eq0 : goal.counted_item-returns-then-depth-eq0
counted_item-returns-then-depth-eq0 t c =
    group_too_deep c.args.depth c.args.cardinality _ _ c.if-depth-eq0.true (c.take.ensures.taken c.if-take.true)

-- a pair after `R` is read as an item that is read backwards
pub counted_item-returns-then-take-2 : goal.counted_item-returns-then-take-2
counted_item-returns-then-take-2 t c =
    let same = c.take.ensures.same c.if-take.false in
    reverse_read (readers c.args.depth) c.args.cardinality _ _ _ _ (c.take.ensures.left c.if-take.false)
    (rw same at (c.take-2.ensures.taken c.if-take-2.true)) c.in_ok-found-2.ensures

-- a pair without a brace or `R` in front is read as an item
pub counted_item-returns : goal.counted_item-returns
counted_item-returns t c =
    let same = c.take.ensures.same c.if-take.false in
    let same_still = c.take-2.ensures.same c.if-take-2.false ∙ same in
    pair_read (readers c.args.depth) c.args.cardinality _ _ _ (c.take.ensures.left c.if-take.false)
    (rw same at (c.take-2.ensures.left c.if-take-2.false)) (rw same_still at c.in_ok-found-3.ensures)

-- a cardinality and a pair, without a bracket in front, are read as a part
pub part-returns : goal.part-returns
part-returns t c =
    let same = c.take_bracket.ensures.same c.if-take_bracket.false in
    part_read (readers c.args.depth) _ _ _ _ _ (c.take_bracket.ensures.left c.if-take_bracket.false)
    (rw same at c.in_ok-cardinality.ensures) c.in_ok-found-2.ensures

-- a focus after `^` is read as the members of its reference sets
pub member-returns-then-take : goal.member-returns-then-take
member-returns-then-take t c =
    member_read (readers c.args.depth) _ _ _ _ (c.take.ensures.taken c.if-take.true) c.in_ok-sets.ensures
    ∙ ap (λ sets. Some (member_tree (tree_of sets), symbols_from c.args.tokens.now c.focus.new.at))
    (sym c.in_ok-sets-2.ensures.ok)

-- a Sub after `=` is read as the value of the test
pub test-returns-in_ok-value-in-Equal-2 : goal.test-returns-in_ok-value-in-Equal-2
test-returns-in_ok-value-in-Equal-2 t c =
    let same = c.take_number.ensures.same c.in_default.is in
    within_read (readers c.args.depth) c.args.compare _ _ _ c.in-Equal.is (c.take_number.ensures.left c.in_default.is)
    (rw same at c.in_ok-value-in-Equal.ensures)
    ∙ ap (λ value. Some (within_test (tree_of value), symbols_from c.args.tokens.now c.sub.new.at))
    (sym c.in_ok-value-in-Equal-2.ensures.ok)

-- a pair without a comparison is not read
pub pair-returns-in_default : goal.pair-returns-in_default
unfolding pair_in
pair-returns-in_default t c = rw (c.in_ok-name.ensures, c.take_compare.ensures.left c.in_default.is) refl

-- a name, a comparison and a value are read as a pair
pub pair-returns : goal.pair-returns
unfolding pair_in
pair-returns t c = rw (c.in_ok-name.ensures, c.in-Some.ensures.taken, c.in_ok-test.ensures) refl

-- an operator and its operand are read as an operand
pub sub-returns-in_ok-operand-in-Some-2 : goal.sub-returns-in_ok-operand-in-Some-2
unfolding sub_in
sub-returns-in_ok-operand-in-Some-2 t c =
    rw (c.in-Some.ensures.taken, c.in_ok-operand-in-Some.ensures, c.in_ok-operand-in-Some-2.ensures.ok) refl

-- a part that no AND or OR follows is read as the whole set
pub set-returns : goal.set-returns
unfolding set_in set_after
set-returns t c =
    let no_and = sym c.is_ahead.ensures.kind ∙ c.if-is_ahead.false in
    let no_or = sym c.is_ahead-2.ensures.kind ∙ c.if-is_ahead-2.false in
    rw (c.in_ok-first.ensures, no_and, no_or) refl

-- an item that no AND or OR follows is read as the whole refinement
pub refinement-returns : goal.refinement-returns
unfolding refinement_in refinement_after
refinement-returns t c =
    let no_and = sym c.is_ahead.ensures.kind ∙ c.if-is_ahead.false in
    let no_or = sym c.is_ahead-2.ensures.kind ∙ c.if-is_ahead-2.false in
    rw (c.in_ok-first.ensures, no_and, no_or) refl

-- parts joined by AND are read as a conjunction of sets
pub set-returns-then-is_ahead : goal.set-returns-then-is_ahead
set-returns-then-is_ahead t c =
    all_parts_read (readers c.args.depth) (set_tree_of c.in_ok-first.first) _
    (symbols_from c.args.tokens.now c.part.new.at) c.in_ok-first.ensures
    (map set_tree_of c.in_ok-list-2.list.items) _ (sym c.is_ahead.ensures.kind ∙ c.if-is_ahead.true)
    (rw c.in_ok-list.ensures at c.in_ok-list-2.ensures)
    ∙ ap (λ tree. Some (tree, symbols_from c.args.tokens.now c.parts.new.at))
    (sym (set_tree_of-And c.in_ok-list-2.list))

-- parts joined by OR are read as a disjunction of sets
pub set-returns-then-is_ahead-2 : goal.set-returns-then-is_ahead-2
set-returns-then-is_ahead-2 t c =
    some_parts_read (readers c.args.depth) (set_tree_of c.in_ok-first.first) _
    (symbols_from c.args.tokens.now c.part.new.at) c.in_ok-first.ensures
    (map set_tree_of c.in_ok-list-4.list.items) _ (sym c.is_ahead.ensures.kind ∙ c.if-is_ahead.false)
    (sym c.is_ahead-2.ensures.kind ∙ c.if-is_ahead-2.true) (rw c.in_ok-list-3.ensures at c.in_ok-list-4.ensures)
    ∙ ap (λ tree. Some (tree, symbols_from c.args.tokens.now c.parts-then-is_ahead-2.new.at))
    (sym (set_tree_of-Or c.in_ok-list-4.list))

-- items joined by AND are read as a conjunction of refinements
pub refinement-returns-then-is_ahead : goal.refinement-returns-then-is_ahead
refinement-returns-then-is_ahead t c =
    all_items_read (readers c.args.depth) (refinement_tree_of c.in_ok-first.first) _
    (symbols_from c.args.tokens.now c.item.new.at) c.in_ok-first.ensures
    (map refinement_tree_of c.in_ok-parts-2.parts.items) _ (sym c.is_ahead.ensures.kind ∙ c.if-is_ahead.true)
    (rw c.in_ok-parts.ensures at c.in_ok-parts-2.ensures)
    ∙ ap (λ tree. Some (tree, symbols_from c.args.tokens.now c.items.new.at))
    (sym (refinement_tree_of-And c.in_ok-parts-2.parts))

-- items joined by OR are read as a disjunction of refinements
pub refinement-returns-then-is_ahead-2 : goal.refinement-returns-then-is_ahead-2
refinement-returns-then-is_ahead-2 t c =
    some_items_read (readers c.args.depth) (refinement_tree_of c.in_ok-first.first) _
    (symbols_from c.args.tokens.now c.item.new.at) c.in_ok-first.ensures
    (map refinement_tree_of c.in_ok-parts-4.parts.items) _ (sym c.is_ahead.ensures.kind ∙ c.if-is_ahead.false)
    (sym c.is_ahead-2.ensures.kind ∙ c.if-is_ahead-2.true) (rw c.in_ok-parts-3.ensures at c.in_ok-parts-4.ensures)
    ∙ ap (λ tree. Some (tree, symbols_from c.args.tokens.now c.items-then-is_ahead-2.new.at))
    (sym (refinement_tree_of-Or c.in_ok-parts-4.parts))

-- an operand without an operator is read as a focus with an optional `^`
pub sub-returns-in-None : goal.sub-returns-in-None
unfolding sub_in
sub-returns-in-None t c =
    let same = c.take_operator.ensures.same c.in-None.is in
    rw (c.take_operator.ensures.left c.in-None.is) (rw same at c.member-in-None.ensures)

-- a focus without `^` is read as the focus alone
pub member-returns : goal.member-returns
unfolding member_in
member-returns t c =
    let same = c.take.ensures.same c.if-take.false in
    rw (c.take.ensures.left c.if-take.false) (rw same at c.focus-2.ensures)

-- a cardinality and an item after it are read as an item
pub item-returns : goal.item-returns
unfolding item_in
item-returns t c =
    let same = c.take_bracket.ensures.same c.if-take_bracket.false in
    rw (c.take_bracket.ensures.left c.if-take_bracket.false, rw same at c.in_ok-cardinality.ensures)
    c.counted_item.ensures

-- a Sub and the rest of a constraint after it are read as a constraint
pub constraint-returns : goal.constraint-returns
unfolding constraint_in
constraint-returns t c = rw c.in_ok-first.ensures c.constraint_after.ensures

-- operands joined by AND are read as a conjunction
pub constraint_after-returns-then-is_ahead : goal.constraint_after-returns-then-is_ahead
unfolding constraint_after
constraint_after-returns-then-is_ahead t c =
    rw (sym c.is_ahead.ensures.kind ∙ c.if-is_ahead.true, c.in_ok-parts.ensures)
    (ap (λ tree. Some (tree, symbols_from c.args.tokens.now c.joined.new.at)) (sym (tree_of-And c.in_ok-parts.parts)))

-- operands joined by OR are read as a disjunction
pub constraint_after-returns-then-is_ahead-2 : goal.constraint_after-returns-then-is_ahead-2
unfolding constraint_after
constraint_after-returns-then-is_ahead-2 t c =
    let no_and = sym c.is_ahead.ensures.kind ∙ c.if-is_ahead.false in
    rw (no_and, sym c.is_ahead-2.ensures.kind ∙ c.if-is_ahead-2.true, c.in_ok-parts-2.ensures)
    (ap (λ tree. Some (tree, symbols_from c.args.tokens.now c.joined-then-is_ahead-2.new.at))
    (sym (tree_of-Or c.in_ok-parts-2.parts)))

-- an operand and the names after it are read as a dotted constraint
pub constraint_after-returns-then-is_ahead-3 : goal.constraint_after-returns-then-is_ahead-3
unfolding constraint_after
constraint_after-returns-then-is_ahead-3 t c =
    let no_and = sym c.is_ahead.ensures.kind ∙ c.if-is_ahead.false in
    let no_or = sym c.is_ahead-2.ensures.kind ∙ c.if-is_ahead-2.false in
    rw (no_and, no_or, sym c.is_ahead-3.ensures.kind ∙ c.if-is_ahead-3.true) c.dotted.ensures

-- an operand, a colon and a refinement are read as a refined constraint
pub constraint_after-returns-then-take : goal.constraint_after-returns-then-take
unfolding constraint_after
constraint_after-returns-then-take t c =
    let no_and = sym c.is_ahead.ensures.kind ∙ c.if-is_ahead.false in
    let no_or = sym c.is_ahead-2.ensures.kind ∙ c.if-is_ahead-2.false in
    let no_dot = sym c.is_ahead-3.ensures.kind ∙ c.if-is_ahead-3.false in
    rw (no_and, no_or, no_dot, c.take.ensures.taken c.if-take.true) c.refined.ensures

-- two operands with MINUS between them are read as a difference
pub constraint_after-returns-then-take-2 : goal.constraint_after-returns-then-take-2
unfolding constraint_after
constraint_after-returns-then-take-2 t c =
    let no_and = sym c.is_ahead.ensures.kind ∙ c.if-is_ahead.false in
    let no_or = sym c.is_ahead-2.ensures.kind ∙ c.if-is_ahead-2.false in
    let no_dot = sym c.is_ahead-3.ensures.kind ∙ c.if-is_ahead-3.false in
    let same = c.take.ensures.same c.if-take.false in
    rw (
      no_and,
      no_or,
      no_dot,
      c.take.ensures.left c.if-take.false,
      rw same at
          (c.take-2.ensures.taken c.if-take-2.true),
    )
    c.subtracted.ensures

-- an operand that none of the joining tokens follow is read alone
pub constraint_after-returns : goal.constraint_after-returns
unfolding constraint_after
constraint_after-returns t c =
    let no_and = sym c.is_ahead.ensures.kind ∙ c.if-is_ahead.false in
    let no_or = sym c.is_ahead-2.ensures.kind ∙ c.if-is_ahead-2.false in
    let no_dot = sym c.is_ahead-3.ensures.kind ∙ c.if-is_ahead-3.false in
    let same = c.take.ensures.same c.if-take.false in
    let same_still = c.take-2.ensures.same c.if-take-2.false ∙ same in
    rw (
      no_and,
      no_or,
      no_dot,
      c.take.ensures.left c.if-take.false,
      rw same at
          (c.take-2.ensures.left c.if-take-2.false),
    )
    (ap (λ at. Some (tree_of c.args.first, symbols_from c.args.tokens.now at)) (sym same_still))

-- `joined` reads `first` and the operands that `subs` reads after it
pub joined-returns : goal.joined-returns
joined-returns t c = rw c.in_ok-parts.ensures at c.subs.ensures

-- a focus, a colon and a refinement are read as a refined constraint
pub refined-returns : goal.refined-returns
refined-returns t c =
    rw c.in_ok-what.ensures (λ i. Some (
      refined_tree (tree_of (sym c.in_ok-focus.ensures.ok i)) (refinement_tree_of (sym c.in_ok-what-2.ensures.ok i)),
      symbols_from c.args.tokens.now c.refinement.new.at,
    ))

-- two operands of MINUS are read as a difference
pub subtracted-returns : goal.subtracted-returns
subtracted-returns t c =
    rw c.in_ok-second.ensures (λ i. Some (
      minus_tree (tree_of (sym c.in_ok-first.ensures.ok i)) (tree_of (sym c.in_ok-second-2.ensures.ok i)),
      symbols_from c.args.tokens.now c.sub.new.at,
    ))

-- the start and the names that the loop reads are read as a dotted constraint
pub dotted-returns : goal.dotted-returns
dotted-returns t c =
    rw (rw c.new-2.ensures.items at c.in_ok-names.ensures)
    (ap (λ start. Some (
      dotted_tree (tree_of start) (trees_of c.in_ok-names.names.items),
      symbols_from c.args.tokens.now
          c.subs.new.at,
    ))
    (sym c.in_ok-start.ensures.ok)
    ∙ ap (λ tree. Some (tree, symbols_from c.args.tokens.now c.subs.new.at))
    (sym (tree_of-Dotted c.in_ok-start.start c.in_ok-names.names)))

-- before the first turn of `subs` no operand is read
pub subs-loop-turn-init : goal.subs-loop-turn-init
subs-loop-turn-init t c =
    no_turn (sub_in (readers c.args.depth)) c.args.joint c.args.tokens.now c.args.at.now c.len-turn-end.result
    (map tree_of c.args.parts.items) c.len-turn-end.ensures

-- one turn of `subs` moves an operand from the rest to the operands that are read
pub subs-loop-turn-preserved : goal.subs-loop-turn-preserved
subs-loop-turn-preserved t c =
    turn_read (sub_in (readers c.args.depth)) c.args.joint tree_of c.loop-turn.parts.items c.push.new.self.items
    c.in-Ok.part
    c.loop-turn._turn c.len-turn-end.result (symbols_from c.args.tokens.now c.loop-turn.at)
    (symbols_from c.args.tokens.now c.take.new.at) _ _ (omega arith) (search rules)
    (search (rules, c.take.ensures.taken))
    c.in-Ok.ensures c.loop-turn.invariant

-- an operand that cannot be read makes `subs` fail with its fault
pub subs-returns-in-Err : goal.subs-returns-in-Err
subs-returns-in-Err t c =
    many_fails (sub_in (readers c.args.depth)) c.args.joint c.in-Err.fault c.loop-turn._turn c.len-turn-end.result
    (map tree_of c.loop-turn.parts.items) (symbols_from c.args.tokens.now c.loop-turn.at)
    (symbols_from c.args.tokens.now c.take.new.at) _ (omega arith) (search (rules, c.take.ensures.taken))
    c.in-Err.ensures c.loop-turn.invariant

-- after the loop of `subs` every further operand is read
pub subs-returns : goal.subs-returns
subs-returns t c =
    sym c.loop-turn.invariant
    ∙ elim c.loop-turn-test.branch [
      | subs-else-loop-turn-test w ↦
          many_done (sub_in (readers c.args.depth)) c.args.joint _ (map tree_of c.loop-turn.parts.items)
          (symbols_from c.args.tokens.now c.loop-turn.at) (omega arith)
          ∙ ap (λ at. Some (map tree_of c.loop-turn.parts.items, symbols_from c.args.tokens.now at)) (sym w.at-is)
      | subs-then-loop-turn-test+then-not-take w ↦
          many_end (sub_in (readers c.args.depth)) c.args.joint _ (map tree_of c.loop-turn.parts.items)
          (symbols_from c.args.tokens.now c.loop-turn.at) (search (rules, w.take.ensures.left))
          ∙ ap (λ at. Some (map tree_of c.loop-turn.parts.items, symbols_from c.args.tokens.now at))
          (search (rules, w.take.ensures.same, w.at-is))
    ]

-- before the first turn of `items` no item is read
pub items-loop-turn-init : goal.items-loop-turn-init
items-loop-turn-init t c =
    no_turn (item_in (readers c.args.depth)) c.args.joint c.args.tokens.now c.args.at.now c.len-turn-end.result
    (map refinement_tree_of c.args.parts.items) c.len-turn-end.ensures

-- one turn of `items` moves an item from the rest to the items that are read
pub items-loop-turn-preserved : goal.items-loop-turn-preserved
items-loop-turn-preserved t c =
    turn_read (item_in (readers c.args.depth)) c.args.joint refinement_tree_of c.loop-turn.parts.items
    c.push.new.self.items c.in-Ok.part
    c.loop-turn._turn c.len-turn-end.result (symbols_from c.args.tokens.now c.loop-turn.at)
    (symbols_from c.args.tokens.now c.take.new.at) _ _ (omega arith) (search rules)
    (search (rules, c.take.ensures.taken))
    c.in-Ok.ensures c.loop-turn.invariant

-- an item that cannot be read makes `items` fail with its fault
pub items-returns-in-Err : goal.items-returns-in-Err
items-returns-in-Err t c =
    many_fails (item_in (readers c.args.depth)) c.args.joint c.in-Err.fault c.loop-turn._turn c.len-turn-end.result
    (map refinement_tree_of c.loop-turn.parts.items) (symbols_from c.args.tokens.now c.loop-turn.at)
    (symbols_from c.args.tokens.now c.take.new.at) _ (omega arith) (search (rules, c.take.ensures.taken))
    c.in-Err.ensures c.loop-turn.invariant

-- after the loop of `items` every further item is read
pub items-returns : goal.items-returns
items-returns t c =
    sym c.loop-turn.invariant
    ∙ elim c.loop-turn-test.branch [
      | items-else-loop-turn-test w ↦
          many_done (item_in (readers c.args.depth)) c.args.joint _ (map refinement_tree_of c.loop-turn.parts.items)
          (symbols_from c.args.tokens.now c.loop-turn.at) (omega arith)
          ∙ ap (λ at. Some (map refinement_tree_of c.loop-turn.parts.items, symbols_from c.args.tokens.now at))
          (sym w.at-is)
      | items-then-loop-turn-test+then-not-take w ↦
          many_end (item_in (readers c.args.depth)) c.args.joint _ (map refinement_tree_of c.loop-turn.parts.items)
          (symbols_from c.args.tokens.now c.loop-turn.at) (search (rules, w.take.ensures.left))
          ∙ ap (λ at. Some (map refinement_tree_of c.loop-turn.parts.items, symbols_from c.args.tokens.now at))
          (search (rules, w.take.ensures.same, w.at-is))
    ]

-- before the first turn of `parts` no part is read
pub parts-loop-turn-init : goal.parts-loop-turn-init
parts-loop-turn-init t c =
    no_turn (part_in (readers c.args.depth)) c.args.joint c.args.tokens.now c.args.at.now c.len-turn-end.result
    (map set_tree_of c.args.list.items) c.len-turn-end.ensures

-- one turn of `parts` moves a part from the rest to the parts that are read
pub parts-loop-turn-preserved : goal.parts-loop-turn-preserved
parts-loop-turn-preserved t c =
    turn_read (part_in (readers c.args.depth)) c.args.joint set_tree_of c.loop-turn.list.items c.push.new.self.items
    c.in-Ok.found
    c.loop-turn._turn c.len-turn-end.result (symbols_from c.args.tokens.now c.loop-turn.at)
    (symbols_from c.args.tokens.now c.take.new.at) _ _ (omega arith) (search rules)
    (search (rules, c.take.ensures.taken))
    c.in-Ok.ensures c.loop-turn.invariant

-- a part that cannot be read makes `parts` fail with its fault
pub parts-returns-in-Err : goal.parts-returns-in-Err
parts-returns-in-Err t c =
    many_fails (part_in (readers c.args.depth)) c.args.joint c.in-Err.fault c.loop-turn._turn c.len-turn-end.result
    (map set_tree_of c.loop-turn.list.items) (symbols_from c.args.tokens.now c.loop-turn.at)
    (symbols_from c.args.tokens.now c.take.new.at) _ (omega arith) (search (rules, c.take.ensures.taken))
    c.in-Err.ensures c.loop-turn.invariant

-- after the loop of `parts` every further part is read
pub parts-returns : goal.parts-returns
parts-returns t c =
    sym c.loop-turn.invariant
    ∙ elim c.loop-turn-test.branch [
      | parts-else-loop-turn-test w ↦
          many_done (part_in (readers c.args.depth)) c.args.joint _ (map set_tree_of c.loop-turn.list.items)
          (symbols_from c.args.tokens.now c.loop-turn.at) (omega arith)
          ∙ ap (λ at. Some (map set_tree_of c.loop-turn.list.items, symbols_from c.args.tokens.now at)) (sym w.at-is)
      | parts-then-loop-turn-test+then-not-take w ↦
          many_end (part_in (readers c.args.depth)) c.args.joint _ (map set_tree_of c.loop-turn.list.items)
          (symbols_from c.args.tokens.now c.loop-turn.at) (search (rules, w.take.ensures.left))
          ∙ ap (λ at. Some (map set_tree_of c.loop-turn.list.items, symbols_from c.args.tokens.now at))
          (search (rules, w.take.ensures.same, w.at-is))
    ]
