-- How deep the brackets of a form are. The round brackets of a form's tokens close, and the tokens in front of a rest
-- are no fewer than the rest.
use Rattle.std.proofs.Common.{◌≡◌, ◌≤◌, ℕ, suc, Bool, true, false, List, ◌∷◌, length, Option, None, Some, max, refl}
use Rattle.std.proofs.Common.{◌∙◌, arith}
use Rattle.constraint_tree.specs.declared.operator.Compare.{Compare}
use Rattle.constraint_tree.specs.declared.operator.Compare.TheVariants as compare
use Rattle.constraint_tree.specs.declared.operator.Operator.{Operator}
use Rattle.constraint_tree.specs.declared.operator.Operator.TheVariants as operator
use Rattle.ecl_lexer.specs.declared.token.TokenKind.{TokenKind}
use Rattle.ecl_lexer.specs.declared.token.TokenKind.TheVariants as token
use Rattle.constraint_tree.specs.Grammar.{Symbol, digits, decimal, mark, CountForm, at_least, between, ConstraintForm}
use Rattle.constraint_tree.specs.Grammar.{alone, refined, conjunction, disjunction, exclusion, dotted, SubForms}
use Rattle.constraint_tree.specs.Grammar.{no_subs, sub_then, SubForm, plain, member, walk, walk_member, FocusForm}
use Rattle.constraint_tree.specs.Grammar.{concept, concept_term, any, round, RefinementForm, one_item, all_items}
use Rattle.constraint_tree.specs.Grammar.{some_items, ItemForms, no_items, item_then, ItemForm, attribute, group}
use Rattle.constraint_tree.specs.Grammar.{round_refinement, SetForm, one_part, all_parts, some_parts, PartForms}
use Rattle.constraint_tree.specs.Grammar.{no_parts, part_then, PartForm, counted_part, round_set, PairForm, within}
use Rattle.constraint_tree.specs.Grammar.{outside, number, operator_kind, compare_kind, counted_tokens, reverse_tokens}
use Rattle.constraint_tree.specs.Grammar.{constraint_tokens, subs_tokens, sub_tokens, focus_tokens, refinement_tokens}
use Rattle.constraint_tree.specs.Grammar.{items_tokens, item_tokens, set_tokens, parts_tokens, part_tokens, pair_tokens}
use Rattle.constraint_tree.proofs.LevelLemmas.{kind_of_symbol}
use Rattle.ecl_parser.specs.inside.Reading.{after_close}

-- how many brackets are open at once inside a form
abbrev mutual
  -- how many brackets are open at once in a constraint form
  pub constraint_depth : ConstraintForm → ℕ
  constraint_depth (alone sub) = sub_depth sub
  constraint_depth (refined focus refinement) = max (sub_depth focus) (refinement_depth refinement)
  constraint_depth (conjunction first second more) = max (sub_depth first) (max (sub_depth second) (subs_depth more))
  constraint_depth (disjunction first second more) = max (sub_depth first) (max (sub_depth second) (subs_depth more))
  constraint_depth (exclusion first second) = max (sub_depth first) (sub_depth second)
  constraint_depth (dotted start name more) = max (sub_depth start) (max (sub_depth name) (subs_depth more))

  -- how many brackets are open at once in further operands
  pub subs_depth : SubForms → ℕ
  subs_depth no_subs = 0
  subs_depth (sub_then sub more) = max (sub_depth sub) (subs_depth more)

  -- how many brackets are open at once in an operand
  pub sub_depth : SubForm → ℕ
  sub_depth (plain focus) = focus_depth focus
  sub_depth (member focus) = focus_depth focus
  sub_depth (walk operator focus) = focus_depth focus
  sub_depth (walk_member operator focus) = focus_depth focus

  -- how many brackets are open at once in a focus
  pub focus_depth : FocusForm → ℕ
  focus_depth (concept run is) = 0
  focus_depth (concept_term run is) = 0
  focus_depth any = 0
  focus_depth (round constraint) = suc (constraint_depth constraint)

  -- how many brackets are open at once in a refinement form
  pub refinement_depth : RefinementForm → ℕ
  refinement_depth (one_item item) = item_depth item
  refinement_depth (all_items first second more) = max (item_depth first) (max (item_depth second) (items_depth more))
  refinement_depth (some_items first second more) = max (item_depth first) (max (item_depth second) (items_depth more))

  -- how many brackets are open at once in further items
  pub items_depth : ItemForms → ℕ
  items_depth no_items = 0
  items_depth (item_then item more) = max (item_depth item) (items_depth more)

  -- how many brackets are open at once in an item
  pub item_depth : ItemForm → ℕ
  item_depth (attribute count reverse pair) = pair_depth pair
  item_depth (group count set) = suc (set_depth set)
  item_depth (round_refinement refinement) = suc (refinement_depth refinement)

  -- how many brackets are open at once in an attribute set form
  pub set_depth : SetForm → ℕ
  set_depth (one_part part) = part_depth part
  set_depth (all_parts first second more) = max (part_depth first) (max (part_depth second) (parts_depth more))
  set_depth (some_parts first second more) = max (part_depth first) (max (part_depth second) (parts_depth more))

  -- how many brackets are open at once in further parts
  pub parts_depth : PartForms → ℕ
  parts_depth no_parts = 0
  parts_depth (part_then part more) = max (part_depth part) (parts_depth more)

  -- how many brackets are open at once in a part
  pub part_depth : PartForm → ℕ
  part_depth (counted_part count pair) = pair_depth pair
  part_depth (round_set set) = suc (set_depth set)

  -- how many brackets are open at once in a pair
  pub pair_depth : PairForm → ℕ
  pair_depth (within name value) = max (sub_depth name) (sub_depth value)
  pair_depth (outside name value) = max (sub_depth name) (sub_depth value)
  pair_depth (number name compare text value is) = sub_depth name

-- whether a kind of token is a bracket of a constraint: `(`, `)`, `{` or `}`
abbrev pub is_bracket : TokenKind → Bool
is_bracket token.RoundOpen = true
is_bracket token.RoundClose = true
is_bracket token.BraceOpen = true
is_bracket token.BraceClose = true
is_bracket other = false

-- no operator is a bracket
operator_no_bracket : (o : Operator) → is_bracket (operator_kind o) ≡ false
operator_no_bracket operator.Descendants = refl
operator_no_bracket other = refl

-- no comparison is a bracket
compare_no_bracket : (c : Compare) → is_bracket (compare_kind c) ≡ false
compare_no_bracket compare.Equal = refl
compare_no_bracket other = refl

-- `Is depth tokens` is a property that the tokens of each form have, if `depth` is the depth of the form's brackets:
-- it holds for the empty list, and each step that builds the tokens of a form keeps it
pub record HoldsOfForms (Is : ℕ → (List Symbol → List Symbol) → Type 0) : Type 0 where
  -- the property holds for the empty list of tokens, with depth 0
  pub nothing : Is 0 (λ rest. rest)
  -- adding a token that is no bracket in front keeps the property and the depth
  pub symbol : {depth : ℕ} {tokens : List Symbol → List Symbol} (next : Symbol)
      → is_bracket (kind_of_symbol next) ≡ false
      → Is depth tokens → Is depth (λ rest. next ∷ tokens rest)
  -- two lists of tokens one after the other have the property, with the greater of the two depths
  pub following : {depth further : ℕ} {tokens more : List Symbol → List Symbol} → Is depth tokens → Is further more
      → Is (max depth further) (λ rest. tokens (more rest))
  -- tokens in round brackets have the property, with the depth plus 1
  pub round : {depth : ℕ} {tokens : List Symbol → List Symbol} → Is depth tokens
      → Is (suc depth) (λ rest. mark token.RoundOpen ∷ tokens (mark token.RoundClose ∷ rest))
  -- tokens in braces have the property, with the depth plus 1
  pub brace : {depth : ℕ} {tokens : List Symbol → List Symbol} → Is depth tokens
      → Is (suc depth) (λ rest. mark token.BraceOpen ∷ tokens (mark token.BraceClose ∷ rest))
  -- the property also holds with each smaller depth
  pub lower : {depth less : ℕ} {tokens : List Symbol → List Symbol} → less ≤ depth → Is depth tokens → Is less tokens

-- If a property has `HoldsOfForms`, the tokens of each form have the property.
module _ {Is : ℕ → (List Symbol → List Symbol) → Type 0} (along : HoldsOfForms Is) where
  -- two forms with a token between them, and further forms after them, have the property
  joined : {first second further : ℕ} {one two others : List Symbol → List Symbol} (kind : TokenKind)
      → is_bracket kind ≡ false
      → Is first one → Is second two → Is further others
      → Is (max first (max second further)) (λ rest. one (mark kind ∷ two (others rest)))
  joined kind none first second more =
      along.following first (along.symbol (mark kind) none (along.following second more))

  -- a form after an optional cardinality has the property
  counted : {depth : ℕ} {tokens : List Symbol → List Symbol} (count : Option CountForm) → Is depth tokens
      → Is depth (λ rest. counted_tokens count (tokens rest))
  counted None inside = inside
  counted (Some (at_least least is)) inside =
      along.symbol (mark token.BracketOpen) refl (along.symbol (digits least) refl (along.symbol (mark token.Dots) refl
      (along.symbol (mark token.Wildcard) refl (along.symbol (mark token.BracketClose) refl inside))))
  counted (Some (between least most is also)) inside =
      along.symbol (mark token.BracketOpen) refl (along.symbol (digits least) refl (along.symbol (mark token.Dots) refl
      (along.symbol (digits most) refl (along.symbol (mark token.BracketClose) refl inside))))

  -- a form after an optional `R` has the property
  reversed : {depth : ℕ} {tokens : List Symbol → List Symbol} (reverse : Bool) → Is depth tokens
      → Is depth (λ rest. reverse_tokens reverse (tokens rest))
  reversed true inside = along.symbol (mark token.Reverse) refl inside
  reversed false inside = inside

  mutual
    -- the tokens of each constraint form have the property, with the depth of the form
    pub constraint_holds : (form : ConstraintForm) → Is (constraint_depth form) (constraint_tokens form)
    constraint_holds (alone sub) = sub_holds sub
    constraint_holds (refined focus refinement) =
        along.following (sub_holds focus) (along.symbol (mark token.Colon) refl (refinement_holds refinement))
    constraint_holds (conjunction first second more) =
        joined token.And refl (sub_holds first) (sub_holds second) (subs_hold token.And refl more)
    constraint_holds (disjunction first second more) =
        joined token.Or refl (sub_holds first) (sub_holds second) (subs_hold token.Or refl more)
    constraint_holds (exclusion first second) =
        along.following (sub_holds first) (along.symbol (mark token.Minus) refl (sub_holds second))
    constraint_holds (dotted start name more) =
        joined token.Dot refl (sub_holds start) (sub_holds name) (subs_hold token.Dot refl more)

    -- further operands have the property
    subs_hold : (kind : TokenKind) → is_bracket kind ≡ false → (forms : SubForms)
        → Is (subs_depth forms) (subs_tokens kind forms)
    subs_hold kind none no_subs = along.nothing
    subs_hold kind none (sub_then sub more) =
        along.symbol (mark kind) none (along.following (sub_holds sub) (subs_hold kind none more))

    -- the tokens of each operand have the property, with the depth of the operand
    pub sub_holds : (form : SubForm) → Is (sub_depth form) (sub_tokens form)
    sub_holds (plain focus) = focus_holds focus
    sub_holds (member focus) = along.symbol (mark token.MemberOf) refl (focus_holds focus)
    sub_holds (walk o focus) = along.symbol (mark (operator_kind o)) (operator_no_bracket o) (focus_holds focus)
    sub_holds (walk_member o focus) =
        along.symbol (mark (operator_kind o)) (operator_no_bracket o)
        (along.symbol (mark token.MemberOf) refl (focus_holds focus))

    -- a focus has the property
    focus_holds : (form : FocusForm) → Is (focus_depth form) (focus_tokens form)
    focus_holds (concept run is) = along.symbol (digits run) refl along.nothing
    focus_holds (concept_term run is) =
        along.symbol (digits run) refl (along.symbol (mark token.Term) refl along.nothing)
    focus_holds any = along.symbol (mark token.Wildcard) refl along.nothing
    focus_holds (round constraint) = along.round (constraint_holds constraint)

    -- the tokens of each refinement form have the property, with the depth of the form
    pub refinement_holds : (form : RefinementForm) → Is (refinement_depth form) (refinement_tokens form)
    refinement_holds (one_item item) = item_holds item
    refinement_holds (all_items first second more) =
        joined token.And refl (item_holds first) (item_holds second) (items_hold token.And refl more)
    refinement_holds (some_items first second more) =
        joined token.Or refl (item_holds first) (item_holds second) (items_hold token.Or refl more)

    -- further items have the property
    items_hold : (kind : TokenKind) → is_bracket kind ≡ false → (forms : ItemForms)
        → Is (items_depth forms) (items_tokens kind forms)
    items_hold kind none no_items = along.nothing
    items_hold kind none (item_then item more) =
        along.symbol (mark kind) none (along.following (item_holds item) (items_hold kind none more))

    -- the tokens of each item have the property, with the depth of the item
    pub item_holds : (form : ItemForm) → Is (item_depth form) (item_tokens form)
    item_holds (attribute count reverse pair) = counted count (reversed reverse (pair_holds pair))
    item_holds (group count set) = counted count (along.brace (set_holds set))
    item_holds (round_refinement refinement) = along.round (refinement_holds refinement)

    -- the tokens of each attribute set form have the property, with the depth of the form
    pub set_holds : (form : SetForm) → Is (set_depth form) (set_tokens form)
    set_holds (one_part part) = part_holds part
    set_holds (all_parts first second more) =
        joined token.And refl (part_holds first) (part_holds second) (parts_hold token.And refl more)
    set_holds (some_parts first second more) =
        joined token.Or refl (part_holds first) (part_holds second) (parts_hold token.Or refl more)

    -- further parts have the property
    parts_hold : (kind : TokenKind) → is_bracket kind ≡ false → (forms : PartForms)
        → Is (parts_depth forms) (parts_tokens kind forms)
    parts_hold kind none no_parts = along.nothing
    parts_hold kind none (part_then part more) =
        along.symbol (mark kind) none (along.following (part_holds part) (parts_hold kind none more))

    -- the tokens of each part have the property, with the depth of the part
    pub part_holds : (form : PartForm) → Is (part_depth form) (part_tokens form)
    part_holds (counted_part count pair) = counted count (pair_holds pair)
    part_holds (round_set set) = along.round (set_holds set)

    -- a pair has the property
    pair_holds : (form : PairForm) → Is (pair_depth form) (pair_tokens form)
    pair_holds (within name value) =
        along.following (sub_holds name) (along.symbol (mark token.Equal) refl (sub_holds value))
    pair_holds (outside name value) =
        along.following (sub_holds name) (along.symbol (mark token.NotEqual) refl (sub_holds value))
    pair_holds (number name c text value is) =
        along.lower (omega arith) (along.following (sub_holds name)
        (along.symbol (mark (compare_kind c)) (compare_no_bracket c) (along.symbol (decimal text) refl along.nothing)))

-- each `(` in `tokens` is closed in `tokens`, and `tokens` in front of any `rest` are at least as many as `rest`
pub record IsClosed (tokens : List Symbol → List Symbol) : Type 0 where
  -- the search for the `)` that closes an earlier `(` passes over `tokens` and finds it in `rest`
  pub closes : (level : ℕ) (rest : List Symbol) → after_close level (tokens rest) ≡ after_close level rest
  -- `tokens` in front of `rest` are at least as many as `rest`
  pub longer : (rest : List Symbol) → length rest ≤ length (tokens rest)

-- the search for the `)` that closes an earlier `(` passes over a token that is no bracket
pub no_bracket_closes : (symbol : Symbol) → is_bracket (kind_of_symbol symbol) ≡ false
    → (level : ℕ) (rest : List Symbol)
    → after_close level (symbol ∷ rest) ≡ after_close level rest
no_bracket_closes (mark token.RoundOpen) none level rest = absurd (cc)
no_bracket_closes (mark token.RoundClose) none level rest = absurd (cc)
no_bracket_closes other none level rest = refl

-- in the tokens of each form each `(` is closed, and the tokens in front of any `rest` are at least as many as `rest`
pub forms_closed : HoldsOfForms (λ depth tokens. IsClosed tokens)
forms_closed = record {
  nothing = record { closes = λ level rest. refl; longer = λ rest. omega arith };
  symbol = λ {tokens = tokens} symbol none inside. record {
    closes = λ level rest. no_bracket_closes symbol none level (tokens rest) ∙ inside.closes level rest;
    longer = λ rest. omega (arith, inside.longer rest);
  };
  following = λ {more = more} first second. record {
    closes = λ level rest. first.closes level (more rest) ∙ second.closes level rest;
    longer = λ rest. omega (arith, first.longer (more rest), second.longer rest);
  };
  round = λ inside. record {
    closes = λ level rest. inside.closes (suc level) (mark token.RoundClose ∷ rest);
    longer = λ rest. omega (arith, inside.longer (mark token.RoundClose ∷ rest));
  };
  brace = λ inside. record {
    closes = λ level rest. inside.closes level (mark token.BraceClose ∷ rest);
    longer = λ rest. omega (arith, inside.longer (mark token.BraceClose ∷ rest));
  };
  lower = λ less inside. inside;
}
