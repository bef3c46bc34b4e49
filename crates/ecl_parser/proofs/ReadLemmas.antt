-- Steps of reading: lists, one item at a time, and forms in brackets.
use Rattle.std.proofs.Common.{◌≡◌, ◌<◌, ◌-◌, ◌+◌, ℕ, zero, suc, true, false, List, [], ◌∷◌, ◌++◌, length, length-drop}
use Rattle.std.proofs.Common.{map, None, Some, refl, ap, sym, ◌∙◌, arith, append_assoc}
use Rattle.std.proofs.lemmas.List.{append-nil, length-map, map_push}
use Rattle.ecl_lexer.specs.declared.fault.QueryFault.{QueryFault}
use Rattle.ecl_lexer.specs.declared.fault.QueryFault.TheVariants.{Syntax, Memory}
use Rattle.constraint_tree.specs.Grammar.{Symbol, symbol_of}
use Rattle.constraint_tree.specs.Tree.{Tree, member_tree, RefinementTree, and_refinement, group_refinement}
use Rattle.constraint_tree.specs.Tree.{one_refinement, or_refinement, refinements_from, AttributeSetTree, and_set}
use Rattle.constraint_tree.specs.Tree.{one_set, or_set, sets_from, AttributeTree, within_test}
use Rattle.constraint_tree.specs.declared.operator.Cardinality.{Cardinality}
use Rattle.constraint_tree.specs.declared.operator.Compare.{Compare}
use Rattle.constraint_tree.specs.declared.operator.Compare.TheVariants as compare
use Rattle.ecl_lexer.specs.Tokens.{spelled}
use Rattle.ecl_lexer.specs.declared.token.Token.{Token}
use Rattle.ecl_parser.specs.inside.Gives.{Fails, symbols, symbols_from}
use Rattle.ecl_parser.specs.inside.Reading.{◌>>=◌, Found, Readers, all_after, following, bracketed_at, constraint_in}
use Rattle.ecl_parser.specs.inside.Reading.{count_at, digits_at, focus_in, item_after, item_in, many, member_in}
use Rattle.ecl_parser.specs.inside.Reading.{number_at, pair_in, part_in, readers, refinement_after, refinement_in}
use Rattle.ecl_parser.specs.inside.Reading.{set_after, set_in, stands, sub_in, test_in, with_front}
use Rattle.ecl_parser.specs.declared.tokens.Mark.{Mark}
use Rattle.ecl_parser.specs.declared.tokens.Mark.TheVariants as marks

module _ {T : Type 0} (reader : List Symbol → Found T) (wanted : Mark) where
  -- an item read in front of a list may as well be put at the end of `front`
  with_more : (front : List T) (item : T) (found : Found (List T))
      → with_front front (found >>= λ more end. Some (item ∷ more, end)) ≡ with_front (front ++ item ∷ []) found
  with_more front item None = refl
  with_more front item (Some more) =
      ap (λ (items : List T). Some (items, more.1)) (sym (append_assoc front (item ∷ []) more.0))

  -- if a joining token and an item stand in front, `many` with one more turn reads this item, and then the items that
  -- `many` reads after it
  pub many_more : (turns left : ℕ) (front : List T) (item : T) (tokens rest after : List Symbol) → turns ≡ suc left
      → following wanted tokens ≡ Some rest → reader rest ≡ Some (item, after)
      → with_front (front ++ item ∷ []) (many reader wanted left after)
      ≡ with_front front (many reader wanted turns tokens)
  unfolding many
  many_more turns left front item tokens rest after is found read =
      rw (is, found, read) (sym (with_more front item (many reader wanted left after)))

  -- with as many turns as there are tokens, `many` reads all items
  pub no_turn : (tokens : List Token) (at end : ℕ) (front : List T) → end ≡ length tokens
      → with_front front (many reader wanted (end - at) (symbols_from tokens at))
      ≡ with_front front (all_after reader wanted (symbols_from tokens at))
  no_turn tokens at end front whole =
      let counted = length-map tokens (λ (token : Token). symbol_of (spelled token)) in
      let left : length (symbols_from tokens at) ≡ end - at =
      length-drop at (symbols tokens) ∙ ap (λ (count : ℕ). count - at) (counted ∙ sym whole) in
      ap (λ (turns : ℕ). with_front front (many reader wanted turns (symbols_from tokens at))) (sym left)

  -- loop step: if a joining token and an item stand in front, then reading on after the item, with the item appended
  -- to `things`, gives the same list as reading on before it
  pub turn_read : {Thing : Type 0} (view : Thing → T) (things pushed : List Thing) (thing : Thing) (turn end : ℕ)
      (tokens rest after : List Symbol) (whole : Found (List T)) → turn < end → pushed ≡ things ++ thing ∷ []
      → following wanted tokens ≡ Some rest → reader rest ≡ Some (view thing, after)
      → with_front (map view things) (many reader wanted (end - turn) tokens) ≡ whole
      → with_front (map view pushed) (many reader wanted (end - (turn + 1)) after) ≡ whole
  turn_read view things pushed thing turn end tokens rest after whole within is found read before =
      let viewed : map view pushed ≡ map view things ++ view thing ∷ [] =
      ap (map view) is ∙ map_push view things thing in
      ap (λ (front : List T). with_front front (many reader wanted (end - (turn + 1)) after)) viewed
      ∙ many_more (end - turn) (end - (turn + 1)) (map view things) (view thing) tokens rest after (omega arith) found
      read
      ∙ before

  -- with no turns left, `many` reads nothing more: the result is the list `front`
  pub many_done : (turns : ℕ) (front : List T) (tokens : List Symbol) → turns ≡ 0
      → with_front front (many reader wanted turns tokens) ≡ Some (front, tokens)
  unfolding many
  many_done turns front tokens is = rw is (ap (λ (items : List T). Some (items, tokens)) (append-nil front))

  -- if no joining token stands in front, `many` reads nothing more: the result is the list `front`
  pub many_end : (turns : ℕ) (front : List T) (tokens : List Symbol) → following wanted tokens ≡ None
      → with_front front (many reader wanted turns tokens) ≡ Some (front, tokens)
  unfolding many
  many_end zero front tokens none = ap (λ (items : List T). Some (items, tokens)) (append-nil front)
  many_end (suc turns) front tokens none = rw none (ap (λ (items : List T). Some (items, tokens)) (append-nil front))

  -- if a joining token stands in front and no item can be read after it, `many` has no result
  pub many_fault : (turns left : ℕ) (front : List T) (tokens rest : List Symbol) → turns ≡ suc left
      → following wanted tokens ≡ Some rest → reader rest ≡ None
      → with_front front (many reader wanted turns tokens) ≡ None
  unfolding many
  many_fault turns left front tokens rest is found read = rw (is, found, read) refl

  -- if a joining token stands in front, and `fault` is a right answer to reading the item after it, then `fault` is a
  -- right answer to reading the whole list
  pub many_fails : (fault : QueryFault) (turn end : ℕ) (front : List T) (tokens rest : List Symbol)
      (whole : Found (List T)) → turn < end
      → following wanted tokens ≡ Some rest → Fails fault (reader rest)
      → with_front front (many reader wanted (end - turn) tokens) ≡ whole → Fails fault whole
  many_fails Memory turn end front tokens rest whole within found fails same = tt
  many_fails Syntax turn end front tokens rest whole within found fails same =
      sym same ∙ many_fault (end - turn) (end - (turn + 1)) front tokens rest (omega arith) found fails
  many_fails other turn end front tokens rest whole within found fails same = fails

-- the readers for `depth` brackets read the forms in brackets with the readers for `depth - 1`
readers_inside : (depth : ℕ) → 0 < depth → readers depth ≡ record {
  constraint = constraint_in (readers (depth - 1));
  refinement = refinement_in (readers (depth - 1));
  set = set_in (readers (depth - 1));
}
unfolding readers
readers_inside zero more = absurd (omega arith)
readers_inside (suc depth) more = let inner : suc depth - 1 ≡ depth = omega arith in rw inner refl

-- if a bracket may be opened, the tokens begin with `(`, and a constraint and `)` follow, then reading a focus gives
-- this constraint
pub focus_in_brackets : (depth : ℕ) (tree : Tree) (tokens rest after last : List Symbol) → 0 < depth
    → digits_at 6 tokens ≡ None → following marks.Wildcard tokens ≡ None → following marks.RoundOpen tokens ≡ Some rest
    → constraint_in (readers (depth - 1)) rest ≡ Some (tree, after) → following marks.RoundClose after ≡ Some last
    → focus_in (readers depth) tokens ≡ Some (tree, last)
unfolding focus_in
focus_in_brackets depth tree tokens rest after last more no_digits no_star found read close =
    rw (readers_inside depth more, no_digits, no_star, found, read, close) refl

-- if a bracket may be opened, the tokens begin with a `(` that begins no name, and a refinement and `)` follow, then
-- reading an item gives this refinement
pub item_in_brackets : (depth : ℕ) (tree : RefinementTree) (tokens rest after last : List Symbol) → 0 < depth
    → bracketed_at tokens ≡ Some rest → refinement_in (readers (depth - 1)) rest ≡ Some (tree, after)
    → following marks.RoundClose after ≡ Some last → item_in (readers depth) tokens ≡ Some (tree, last)
unfolding item_in
item_in_brackets depth tree tokens rest after last more found read close =
    rw (readers_inside depth more, found, read, close) refl

-- if a bracket may be opened, the tokens begin with a `(` that begins no name, and an attribute set and `)` follow,
-- then reading a part gives this attribute set
pub part_in_brackets : (depth : ℕ) (tree : AttributeSetTree) (tokens rest after last : List Symbol) → 0 < depth
    → bracketed_at tokens ≡ Some rest → set_in (readers (depth - 1)) rest ≡ Some (tree, after)
    → following marks.RoundClose after ≡ Some last → part_in (readers depth) tokens ≡ Some (tree, last)
unfolding part_in
part_in_brackets depth tree tokens rest after last more found read close =
    rw (readers_inside depth more, found, read, close) refl

-- if a bracket may be opened, the tokens begin with `{`, and an attribute set and `}` follow, then reading an item
-- after its cardinality gives the group with this set
pub group_in_braces : (depth : ℕ) (count : Cardinality) (tree : AttributeSetTree) (tokens rest after last : List Symbol)
    → 0 < depth
    → following marks.BraceOpen tokens ≡ Some rest → set_in (readers (depth - 1)) rest ≡ Some (tree, after)
    → following marks.BraceClose after ≡ Some last
    → item_after (readers depth) count tokens ≡ Some (group_refinement count tree, last)
unfolding item_after
group_in_braces depth count tree tokens rest after last more found read close =
    rw (readers_inside depth more, found, read, close) refl

-- if the tokens begin with `(` and a constraint, and no `)` follows, they are not read as a focus
pub focus_not_closed : (depth : ℕ) (tree : Tree) (tokens rest after : List Symbol) → 0 < depth
    → digits_at 6 tokens ≡ None → following marks.Wildcard tokens ≡ None → following marks.RoundOpen tokens ≡ Some rest
    → constraint_in (readers (depth - 1)) rest ≡ Some (tree, after) → following marks.RoundClose after ≡ None
    → focus_in (readers depth) tokens ≡ None
unfolding focus_in
focus_not_closed depth tree tokens rest after more no_digits no_star found read unclosed =
    rw (readers_inside depth more, no_digits, no_star, found, read, unclosed) refl

-- if the tokens begin with a `(` that begins no name, and a refinement, and no `)` follows, they are not read as an
-- item
pub item_not_closed : (depth : ℕ) (tree : RefinementTree) (tokens rest after : List Symbol) → 0 < depth
    → bracketed_at tokens ≡ Some rest → refinement_in (readers (depth - 1)) rest ≡ Some (tree, after)
    → following marks.RoundClose after ≡ None → item_in (readers depth) tokens ≡ None
unfolding item_in
item_not_closed depth tree tokens rest after more found read unclosed =
    rw (readers_inside depth more, found, read, unclosed) refl

-- if the tokens begin with a `(` that begins no name, and an attribute set, and no `)` follows, they are not read as
-- a part
pub part_not_closed : (depth : ℕ) (tree : AttributeSetTree) (tokens rest after : List Symbol) → 0 < depth
    → bracketed_at tokens ≡ Some rest → set_in (readers (depth - 1)) rest ≡ Some (tree, after)
    → following marks.RoundClose after ≡ None → part_in (readers depth) tokens ≡ None
unfolding part_in
part_not_closed depth tree tokens rest after more found read unclosed =
    rw (readers_inside depth more, found, read, unclosed) refl

-- if the tokens after a cardinality begin with `{` and an attribute set, and no `}` follows, they are not read as an
-- item
pub group_not_closed : (depth : ℕ) (count : Cardinality) (tree : AttributeSetTree) (tokens rest after : List Symbol)
    → 0 < depth
    → following marks.BraceOpen tokens ≡ Some rest → set_in (readers (depth - 1)) rest ≡ Some (tree, after)
    → following marks.BraceClose after ≡ None → item_after (readers depth) count tokens ≡ None
unfolding item_after
group_not_closed depth count tree tokens rest after more found read unclosed =
    rw (readers_inside depth more, found, read, unclosed) refl

-- if no bracket may be opened and the tokens begin with a `(` that begins no name, they are not read as a part
pub part_too_deep : (depth : ℕ) (tokens rest : List Symbol) → depth ≡ 0 → bracketed_at tokens ≡ Some rest
    → part_in (readers depth) tokens ≡ None
unfolding part_in readers
part_too_deep depth tokens rest is found = rw (is, found) refl

-- if no bracket may be opened and the tokens after a cardinality begin with `{`, they are not read as an item
pub group_too_deep : (depth : ℕ) (count : Cardinality) (tokens rest : List Symbol) → depth ≡ 0
    → following marks.BraceOpen tokens ≡ Some rest
    → item_after (readers depth) count tokens ≡ None
unfolding item_after readers
group_too_deep depth count tokens rest is found = rw (is, found) refl

-- Each form of the grammar without brackets is read from its parts.
module _ (inner : Readers) where
  -- if the tokens begin with no `(` of a set, and with a cardinality and a pair, reading a part gives the attribute
  -- of that pair
  pub part_read : (count : Cardinality) (pair : AttributeTree) (tokens after rest : List Symbol)
      → bracketed_at tokens ≡ None
      → count_at tokens ≡ Some (count, after) → pair_in inner count false after ≡ Some (pair, rest)
      → part_in inner tokens ≡ Some (one_set pair, rest)
  unfolding part_in
  part_read count pair tokens after rest none counted read = rw (none, counted, read) refl

  -- if the tokens after a cardinality begin with neither `{` nor `R`, but with a pair, reading an item gives the
  -- attribute of that pair
  pub pair_read : (count : Cardinality) (pair : AttributeTree) (tokens rest : List Symbol)
      → following marks.BraceOpen tokens ≡ None
      → following marks.Reverse tokens ≡ None → pair_in inner count false tokens ≡ Some (pair, rest)
      → item_after inner count tokens ≡ Some (one_refinement pair, rest)
  unfolding item_after
  pair_read count pair tokens rest no_brace no_reverse read = rw (no_brace, no_reverse, read) refl

  -- if the tokens after a cardinality begin with `R` and a pair, reading an item gives the attribute of that pair,
  -- read backwards
  pub reverse_read : (count : Cardinality) (pair : AttributeTree) (tokens after rest : List Symbol)
      → following marks.BraceOpen tokens ≡ None
      → following marks.Reverse tokens ≡ Some after → pair_in inner count true after ≡ Some (pair, rest)
      → item_after inner count tokens ≡ Some (one_refinement pair, rest)
  unfolding item_after
  reverse_read count pair tokens after rest no_brace reverse read = rw (no_brace, reverse, read) refl

  -- if the tokens begin with `^` and the focus `sets`, reading them gives the members of the reference sets in `sets`
  pub member_read : (sets : Tree) (tokens after rest : List Symbol) → following marks.MemberOf tokens ≡ Some after
      → focus_in inner after ≡ Some (sets, rest) → member_in inner tokens ≡ Some (member_tree sets, rest)
  unfolding member_in
  member_read sets tokens after rest found read = rw (found, read) refl

  -- if the comparison is `=` and an operand follows, not a number, reading the value gives the test `Within` of the
  -- operand
  pub within_read : (c : Compare) (value : Tree) (tokens rest : List Symbol) → c ≡ compare.Equal
      → number_at tokens ≡ None
      → sub_in inner tokens ≡ Some (value, rest) → test_in inner c tokens ≡ Some (within_test value, rest)
  unfolding test_in
  within_read c value tokens rest is none read = rw (is, none, read) refl

  -- An item is read, and `after` are the tokens after it.
  module _ (first : RefinementTree) (tokens after : List Symbol)
      (read : item_in inner tokens ≡ Some (first, after)) where
    -- if AND follows the first item, reading a refinement gives the conjunction of the first and of the items that
    -- are joined with it
    pub all_items_read : (trees : List RefinementTree) (rest : List Symbol) → stands marks.And after ≡ true
        → with_front (first ∷ []) (all_after (item_in inner) marks.And after) ≡ Some (trees, rest)
        → refinement_in inner tokens ≡ Some (and_refinement (refinements_from trees), rest)
    unfolding refinement_in refinement_after
    all_items_read trees rest is_and others = rw (read, is_and, others) refl

    -- if OR follows the first item, reading a refinement gives the disjunction of the first and of the items that are
    -- joined with it
    pub some_items_read : (trees : List RefinementTree) (rest : List Symbol) → stands marks.And after ≡ false
        → stands marks.Or after ≡ true
        → with_front (first ∷ []) (all_after (item_in inner) marks.Or after) ≡ Some (trees, rest)
        → refinement_in inner tokens ≡ Some (or_refinement (refinements_from trees), rest)
    unfolding refinement_in refinement_after
    some_items_read trees rest no_and is_or others = rw (read, no_and, is_or, others) refl

  -- A part is read, and `after` are the tokens after it.
  module _ (first : AttributeSetTree) (tokens after : List Symbol)
      (read : part_in inner tokens ≡ Some (first, after)) where
    -- if AND follows the first part, reading an attribute set gives the conjunction of the first and of the parts
    -- that are joined with it
    pub all_parts_read : (trees : List AttributeSetTree) (rest : List Symbol) → stands marks.And after ≡ true
        → with_front (first ∷ []) (all_after (part_in inner) marks.And after) ≡ Some (trees, rest)
        → set_in inner tokens ≡ Some (and_set (sets_from trees), rest)
    unfolding set_in set_after
    all_parts_read trees rest is_and others = rw (read, is_and, others) refl

    -- if OR follows the first part, reading an attribute set gives the disjunction of the first and of the parts that
    -- are joined with it
    pub some_parts_read : (trees : List AttributeSetTree) (rest : List Symbol) → stands marks.And after ≡ false
        → stands marks.Or after ≡ true
        → with_front (first ∷ []) (all_after (part_in inner) marks.Or after) ≡ Some (trees, rest)
        → set_in inner tokens ≡ Some (or_set (sets_from trees), rest)
    unfolding set_in set_after
    some_parts_read trees rest no_and is_or others = rw (read, no_and, is_or, others) refl
