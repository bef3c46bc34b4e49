-- Which answers the readers of marks, lists and joined forms give, as needed by `Sound`.
use Rattle.std.proofs.Common.{◌≡◌, ◌⊎◌, inl, inr, ℕ, zero, suc, ℤ, Bool, true, false, cond, List, [], ◌∷◌, ◌++◌, length}
use Rattle.std.proofs.Common.{drop, Option, None, Some, option_map, refl, ap, sym, ◌∙◌}
use Rattle.std.specs.Prelude.{IsTrue, is_some}
use Rattle.numerals.specs.Numbers.{is_number, number_of}
use Rattle.numerals.specs.Decimals.{decimal_of}
use Rattle.constraint_tree.specs.declared.operator.Cardinality.{Cardinality}
use Rattle.constraint_tree.specs.declared.operator.Compare.{Compare}
use Rattle.constraint_tree.specs.declared.operator.Compare.TheVariants as compare
use Rattle.constraint_tree.specs.declared.operator.Operator.{Operator}
use Rattle.constraint_tree.specs.declared.operator.Operator.TheVariants as operator
use Rattle.ecl_lexer.specs.declared.token.TokenKind.{TokenKind}
use Rattle.ecl_lexer.specs.declared.token.TokenKind.TheVariants as token
use Rattle.constraint_tree.specs.Grammar.{Symbol, digits, decimal, mark, CountForm, at_least, between, conjunction}
use Rattle.constraint_tree.specs.Grammar.{disjunction, no_subs, sub_then}
use Rattle.constraint_tree.specs.Grammar.{one_item, all_items, some_items, no_items, item_then, one_part, all_parts}
use Rattle.constraint_tree.specs.Grammar.{some_parts, no_parts, part_then}
use Rattle.constraint_tree.specs.Grammar.{operator_kind, compare_kind, counted_tokens, constraint_tokens, subs_tokens}
use Rattle.constraint_tree.specs.Grammar.{sub_tokens, refinement_tokens}
use Rattle.constraint_tree.specs.Grammar.{items_tokens, item_tokens, set_tokens, parts_tokens, part_tokens}
use Rattle.constraint_tree.specs.Grammar.{cardinality_of, constraint_tree}
use Rattle.constraint_tree.specs.Grammar.{sub_trees, sub_tree, refinement_tree, item_trees, item_tree, set_tree}
use Rattle.constraint_tree.specs.Grammar.{part_trees, part_tree}
use Rattle.constraint_tree.specs.Tree.{trees_from, tree_then, and_tree, or_tree, refinements_from, refinement_then}
use Rattle.constraint_tree.specs.Tree.{and_refinement, or_refinement}
use Rattle.constraint_tree.specs.Tree.{sets_from, set_then, and_set, or_set, AttributeTree}
use Rattle.ecl_parser.specs.inside.Reading.{◌>>=◌, Found, Readers, all_after, following, after_close, bounds_at}
use Rattle.ecl_parser.specs.inside.Reading.{bracketed_at, closed, compare_at}
use Rattle.ecl_parser.specs.inside.Reading.{compare_of, count_at, digits_at, is_mark, many, most_at, number_at}
use Rattle.ecl_parser.specs.inside.Reading.{operator_at, operator_of, otherwise}
use Rattle.ecl_parser.specs.inside.Reading.{some_or_more, stands, with_front}
use Rattle.ecl_parser.specs.declared.tokens.Mark.{Mark}
use Rattle.ecl_parser.specs.declared.tokens.Mark.TheVariants as marks
use Rattle.ecl_parser.proofs.MarkLemmas.{kind_of, mark_kind}
use Rattle.std.proofs.lemmas.Bool.{false≢true}

-- if `Some one` and `Some other` are equal, `one` and `other` are equal
pub some_is : {A : Type 0} {one other : A} → Some one ≡ Some other → one ≡ other
some_is same = (cc)

-- if `found >>= next` has a result, then `found` has an item and tokens after it, and the result is what `next` gives
-- for these
pub bind_some : {S T : Type 0} (found : Found S) (next : S → List Symbol → Option T) (answer : T)
    → (found >>= next) ≡ Some answer
    → (read : S × List Symbol) × (found ≡ Some read) × (next read.0 read.1 ≡ Some answer)
bind_some None next answer is = (cc)
bind_some (Some read) next answer is = (read, refl, is)

-- if `otherwise item absent present` has a result, it is that of `absent` if `item` is `None`, and that of `present`
-- if `item` has a value
pub otherwise_some : {A B : Type 0} (item : Option A) (absent : Option B) (present : A → Option B) (answer : B)
    → otherwise item absent present ≡ Some answer
    → ((item ≡ None) × (absent ≡ Some answer)) ⊎ ((found : A) × (item ≡ Some found) × (present found ≡ Some answer))
otherwise_some None absent present answer is = inl (refl, is)
otherwise_some (Some found) absent present answer is = inr (found, refl, is)

-- the answer of `option_map` comes from an item of the option
map_some : {A B : Type 0} (f : A → B) (item : Option A) (answer : B) → option_map f item ≡ Some answer
    → (found : A) × (item ≡ Some found) × (f found ≡ answer)
map_some f None answer is = (cc)
map_some f (Some found) answer is = (found, refl, (cc))

-- an item that is read with the same tokens after it is the item of the option
front_some : {A : Type 0} (item : Option A) (answer : A) (more rest : List Symbol)
    → option_map {U = A × List Symbol} (λ found. (found, more)) item ≡ Some (answer, rest)
    → (item ≡ Some answer) × (more ≡ rest)
front_some {A} item answer more rest is =
    let found = map_some (λ (found : A). (found, more)) item (answer, rest) is in
    (found.1 ∙ ap (λ x. Some x) (ap (λ (p : A × List Symbol). p.0) found.2), ap (λ (p : A × List Symbol). p.1) found.2)

-- a conditional that has an item passed its test
if_some : {A : Type 0} (test : Bool) (found : A) (answer : A) → cond test (Some found) None ≡ Some answer
    → (test ≡ true) × (found ≡ answer)
if_some true found answer is = (refl, (cc))
if_some false found answer is = (cc)

-- if `closed wanted found` gives an item and leaves `rest`, then `found` has this item, and the token of the mark
-- `wanted` and then `rest` follow it
pub closed_some : {T : Type 0} (wanted : Mark) (found : Found T) (item : T) (rest : List Symbol)
    → closed wanted found ≡ Some (item, rest)
    → (left : List Symbol) × (found ≡ Some (item, left)) × (following wanted left ≡ Some rest)
closed_some wanted None item rest is = (cc)
closed_some wanted (Some read) item rest is =
    let close = map_some (λ (left : List Symbol). (read.0, left)) (following wanted read.1) (item, rest) is in (
      read.1,
      ap (λ x. Some (x, read.1)) (ap (λ (p : _ × List Symbol). p.0) close.2),
      close.1
          ∙ ap (λ left. Some left) (ap (λ (p : _ × List Symbol). p.1) close.2),
    )

-- if `following wanted tokens` is `rest`, then `tokens` are the token of the mark `wanted` in front of `rest`
pub after_is : (wanted : Mark) (tokens rest : List Symbol) → following wanted tokens ≡ Some rest
    → tokens ≡ mark (kind_of wanted) ∷ rest
after_is wanted (mark kind ∷ more) rest is =
    let found = if_some (is_mark wanted kind) more rest is in
    ap (λ k. mark k ∷ more) (mark_kind wanted kind found.0) ∙ ap (λ left. mark (kind_of wanted) ∷ left) found.1
after_is wanted other rest is = (cc)

-- the kind of token that reads as an operator is the operator's kind
operator_kind_is : (kind : TokenKind) (o : Operator) → operator_of kind ≡ Some o → kind ≡ operator_kind o
operator_kind_is token.DescendantOf o is = let same : operator.Descendants ≡ o = (cc) in ap operator_kind same
operator_kind_is token.DescendantOrSelfOf o is = let same : operator.DescendantsOrSelf ≡ o =
    (cc) in ap operator_kind same
operator_kind_is token.ChildOf o is = let same : operator.Children ≡ o = (cc) in ap operator_kind same
operator_kind_is token.ChildOrSelfOf o is = let same : operator.ChildrenOrSelf ≡ o = (cc) in ap operator_kind same
operator_kind_is token.AncestorOf o is = let same : operator.Ancestors ≡ o = (cc) in ap operator_kind same
operator_kind_is token.AncestorOrSelfOf o is = let same : operator.AncestorsOrSelf ≡ o = (cc) in ap operator_kind same
operator_kind_is token.ParentOf o is = let same : operator.Parents ≡ o = (cc) in ap operator_kind same
operator_kind_is token.ParentOrSelfOf o is = let same : operator.ParentsOrSelf ≡ o = (cc) in ap operator_kind same
operator_kind_is token.Top o is = let same : operator.Top ≡ o = (cc) in ap operator_kind same
operator_kind_is token.Bottom o is = let same : operator.Bottom ≡ o = (cc) in ap operator_kind same
operator_kind_is kind o is = (cc)

-- if a hierarchy operator is read from `tokens`, they are the token of this operator in front of `rest`
pub operator_is : (tokens rest : List Symbol) (o : Operator) → operator_at tokens ≡ Some (o, rest)
    → tokens ≡ mark (operator_kind o) ∷ rest
operator_is (mark kind ∷ more) rest o is =
    let found = front_some (operator_of kind) o more rest is in
    ap (λ k. mark k ∷ more) (operator_kind_is kind o found.0) ∙ ap (λ left. mark (operator_kind o) ∷ left) found.1
operator_is other rest o is = (cc)

-- the kind of token that reads as a comparison is the comparison's kind
compare_kind_is : (kind : TokenKind) (c : Compare) → compare_of kind ≡ Some c → kind ≡ compare_kind c
compare_kind_is token.Equal c is = let same : compare.Equal ≡ c = (cc) in ap compare_kind same
compare_kind_is token.NotEqual c is = let same : compare.NotEqual ≡ c = (cc) in ap compare_kind same
compare_kind_is token.DescendantOf c is = let same : compare.Less ≡ c = (cc) in ap compare_kind same
compare_kind_is token.LessOrEqual c is = let same : compare.LessOrEqual ≡ c = (cc) in ap compare_kind same
compare_kind_is token.AncestorOf c is = let same : compare.Greater ≡ c = (cc) in ap compare_kind same
compare_kind_is token.GreaterOrEqual c is = let same : compare.GreaterOrEqual ≡ c = (cc) in ap compare_kind same
compare_kind_is kind c is = (cc)

-- if a comparison is read from `tokens`, they are the token of this comparison in front of `rest`
pub compare_is : (tokens rest : List Symbol) (c : Compare) → compare_at tokens ≡ Some (c, rest)
    → tokens ≡ mark (compare_kind c) ∷ rest
compare_is (mark kind ∷ more) rest c is =
    let found = front_some (compare_of kind) c more rest is in
    ap (λ k. mark k ∷ more) (compare_kind_is kind c found.0) ∙ ap (λ left. mark (compare_kind c) ∷ left) found.1
compare_is other rest c is = (cc)

-- if digits are read from `tokens` as the number `n`, then `tokens` are `least` to 18 digits that spell `n`, in front
-- of `rest`
pub digits_is : (least : ℕ) (tokens rest : List Symbol) (n : ℕ) → digits_at least tokens ≡ Some (n, rest)
    → (run : List ℕ) × (IsTrue (is_number least 18 run)) × (tokens ≡ digits run ∷ rest) × (n ≡ number_of run)
digits_is least (digits run ∷ more) rest n is =
    let found = if_some (is_number least 18 run) (number_of run, more) (n, rest) is in (
      run,
      found.0,
      ap (λ left. digits run ∷ left) (ap (λ (p : ℕ × List Symbol). p.1) found.1),
      sym (ap (λ (p : ℕ × List Symbol). p.0) found.1),
    )
digits_is least other rest n is = (cc)

-- if a number is read from `tokens` as `value`, then `tokens` are a token whose text spells `value`, in front of
-- `rest`
pub number_is : (tokens rest : List Symbol) (value : ℤ) → number_at tokens ≡ Some (value, rest)
    → (text : List ℕ) × (decimal_of (drop 1 text) ≡ Some value) × (tokens ≡ decimal text ∷ rest)
number_is (decimal text ∷ more) rest value is =
    let found = front_some (decimal_of (drop 1 text)) value more rest is in
    (text, found.0, ap (λ left. decimal text ∷ left) found.1)
number_is other rest value is = (cc)

-- some form has the tree `tree`, and its tokens in front of `rest` are `tokens`
abbrev pub Derives : {Form Tree : Type 0} → (Form → List Symbol → List Symbol) → (Form → Tree) → List Symbol → Tree
    → List Symbol → Type 0
Derives {Form} tokens_of tree_of tokens tree rest =
    (form : Form) × (tokens ≡ tokens_of form rest) × (tree ≡ tree_of form)

-- a reader is sound: if it gives a tree and leaves `rest`, some form has this tree and derives the tokens before
-- `rest`
abbrev pub IsSound : {Form Tree : Type 0} → (Form → List Symbol → List Symbol) → (Form → Tree)
    → (List Symbol → Found Tree) → Type 0
IsSound {Form} {Tree} tokens_of tree_of reader = (tokens rest : List Symbol) (tree : Tree)
    → reader tokens ≡ Some (tree, rest) → Derives tokens_of tree_of tokens tree rest

-- the readers of forms in brackets are sound
pub record AreSound (inner : Readers) : Type 0 where
  -- the reader of constraints is sound
  pub constraint : IsSound constraint_tokens constraint_tree inner.constraint
  -- the reader of refinements is sound
  pub refinement : IsSound refinement_tokens refinement_tree inner.refinement
  -- the reader of attribute sets is sound
  pub set : IsSound set_tokens set_tree inner.set

-- lists of forms of one rule, each after a token of one kind: a list is empty, or a form in front of a list, and so
-- are its tokens and its trees
pub record Several {Form Forms Tree Trees : Type 0} (tokens_of : Form → List Symbol → List Symbol) (tree_of : Form
    → Tree)
    (list_tokens : TokenKind → Forms → List Symbol → List Symbol) (list_trees : Forms → Trees) (from : List Tree
    → Trees) : Type 0 where
  -- the empty list of forms
  pub none : Forms
  -- the list of a form in front of a list of forms
  pub next : Form → Forms → Forms
  -- the empty list of forms has no tokens
  pub none_tokens : (kind : TokenKind) (rest : List Symbol) → rest ≡ list_tokens kind none rest
  -- the tokens of a form in front of a list are the joining token, those of the form, and those of the list
  pub next_tokens : (kind : TokenKind) (form : Form) (forms : Forms) (rest : List Symbol)
      → mark kind ∷ tokens_of form (list_tokens kind forms rest) ≡ list_tokens kind (next form forms) rest
  -- the empty list of forms has no trees
  pub none_trees : from [] ≡ list_trees none
  -- the trees of a form in front of a list are the tree of the form and those of the list
  pub next_trees : (form : Form) (forms : Forms) (trees : List Tree) → from trees ≡ list_trees forms
      → from (tree_of form ∷ trees) ≡ list_trees (next form forms)

-- the further operands of a constraint, as lists of forms
abbrev pub several_subs : Several sub_tokens sub_tree subs_tokens sub_trees trees_from
several_subs = record {
  none = no_subs;
  next = sub_then;
  none_tokens = λ kind rest. refl;
  next_tokens = λ kind form forms rest. refl;
  none_trees = refl;
  next_trees = λ form forms trees same. ap (tree_then (sub_tree form)) same;
}

-- the further items of a refinement, as lists of forms
abbrev pub several_items : Several item_tokens item_tree items_tokens item_trees refinements_from
several_items = record {
  none = no_items;
  next = item_then;
  none_tokens = λ kind rest. refl;
  next_tokens = λ kind form forms rest. refl;
  none_trees = refl;
  next_trees = λ form forms trees same. ap (refinement_then (item_tree form)) same;
}

-- the further parts of an attribute set, as lists of forms
abbrev pub several_parts : Several part_tokens part_tree parts_tokens part_trees sets_from
several_parts = record {
  none = no_parts;
  next = part_then;
  none_tokens = λ kind rest. refl;
  next_tokens = λ kind form forms rest. refl;
  none_trees = refl;
  next_trees = λ form forms trees same. ap (set_then (part_tree form)) same;
}

-- a minimum, `..`, a maximum and `]` are the tokens of a cardinality form
bounds_are : (run : List ℕ) → IsTrue (is_number 1 18 run)
    → (tokens left after rest : List Symbol) (most : Option ℕ) (found : Cardinality)
    → tokens ≡ digits run ∷ mark token.Dots ∷ left → most_at left ≡ Some (most, after)
    → after ≡ mark token.BracketClose ∷ rest
    → found ≡ record { min = number_of run; max = most }
    → (count : CountForm) × (mark token.BracketOpen ∷ tokens ≡ counted_tokens (Some count) rest)
    × (found ≡ cardinality_of (Some count))
bounds_are run holds tokens left after rest most found front read close whole =
    elim (otherwise_some (following marks.Wildcard left)
    (digits_at 1 left >>= λ most end. Some (Some most, end)) (λ end. Some (None, end)) (most, after) read) [
      | inl (none, next) ↦
          let (bound, bound_read, bound_is) =
          bind_some (digits_at 1 left) (λ most end. Some (Some most, end)) (most, after) next in
          let (other, also, left_is, value) = digits_is 1 left bound.1 bound.0 bound_read in
          let same : (Some bound.0, bound.1) ≡ (most, after) = (cc) in (
            between run other holds also,
            ap (λ symbols. mark token.BracketOpen ∷ symbols) front
                ∙ ap (λ symbols. mark token.BracketOpen ∷ digits run ∷ mark token.Dots ∷ symbols)
                (left_is ∙ ap (λ symbols. digits other ∷ symbols) (ap (λ (p : Option ℕ × List Symbol). p.1) same
                ∙ close)),
            whole ∙ ap (λ m. record { min = number_of run; max = m })
                (sym (ap (λ (p : Option ℕ × List Symbol). p.0) same) ∙ ap (λ n. Some n) value),
          )
      | inr (end, star, open_is) ↦
          let same : (None, end) ≡ (most, after) = (cc) in (
            at_least run holds,
            ap (λ symbols. mark token.BracketOpen ∷ symbols) front
                ∙ ap (λ symbols. mark token.BracketOpen ∷ digits run ∷ mark token.Dots ∷ symbols)
                (after_is marks.Wildcard left end star
                ∙ ap (λ symbols. mark token.Wildcard ∷ symbols) (ap (λ (p : Option ℕ × List Symbol). p.1) same
                ∙ close)),
            whole ∙ ap (λ m. record { min = number_of run; max = m })
                (sym (ap (λ (p : Option ℕ × List Symbol). p.0) same)),
          )
    ]

-- bounds that are read are those of a cardinality form, up to its closing bracket
bounds_sound : (tokens rest : List Symbol) (found : Cardinality) → bounds_at tokens ≡ Some (found, rest)
    → (count : CountForm) × (mark token.BracketOpen ∷ tokens ≡ counted_tokens (Some count) rest)
    × (found ≡ cardinality_of (Some count))
unfolding bounds_at
bounds_sound tokens rest found is =
    let first = bind_some (closed marks.Dots (digits_at 1 tokens))
    (λ least left. closed marks.BracketClose (most_at left) >>= λ most after. Some
    (record { min = least; max = most }, after)) (found, rest) is in
    let second = bind_some (closed marks.BracketClose (most_at first.0.1))
    (λ most after. Some (record { min = first.0.0; max = most }, after)) (found, rest) first.2 in
    let dots = closed_some marks.Dots (digits_at 1 tokens) first.0.0 first.0.1 first.1 in
    let least = digits_is 1 tokens dots.0 first.0.0 dots.1 in
    let close = closed_some marks.BracketClose (most_at first.0.1) second.0.0 second.0.1 second.1 in
    let same : (record { min = first.0.0; max = second.0.0 }, second.0.1) ≡ (found, rest) = (cc) in
    bounds_are least.0 least.1 tokens first.0.1 close.0 rest second.0.0 found
    (least.2 ∙ ap (λ after. digits least.0 ∷ after) (after_is marks.Dots dots.0 first.0.1 dots.2)) close.1
    (after_is marks.BracketClose close.0 second.0.1 close.2
    ∙ ap (λ (p : Cardinality × List Symbol). mark token.BracketClose ∷ p.1) same)
    (sym (ap (λ (p : Cardinality × List Symbol). p.0) same) ∙ ap (λ n. record { min = n; max = second.0.0 }) least.3)

-- if a cardinality, perhaps the default one, is read from `tokens`, then a cardinality form, or none, has this
-- cardinality, and its tokens in front of `rest` are `tokens`
pub count_sound : (tokens rest : List Symbol) (found : Cardinality) → count_at tokens ≡ Some (found, rest)
    → (count : Option CountForm) × (tokens ≡ counted_tokens count rest) × (found ≡ cardinality_of count)
count_sound tokens rest found is =
    elim (otherwise_some (following marks.BracketOpen tokens) (Some (some_or_more, tokens)) bounds_at (found, rest)
    is) [
      | inl (none, end) ↦
          let same : (some_or_more, tokens) ≡ (found, rest) = (cc) in (
            None,
            ap (λ (p : Cardinality × List Symbol). p.1) same,
            sym (ap (λ (p : Cardinality × List Symbol). p.0) same),
          )
      | inr (left, open_is, read) ↦
          let bounds = bounds_sound left rest found read in
          (Some bounds.0, after_is marks.BracketOpen tokens left open_is ∙ bounds.1, bounds.2)
    ]

-- if a mark stands in front, there are tokens after it
stands_some : (wanted : Mark) (tokens : List Symbol) → stands wanted tokens ≡ true
    → (left : List Symbol) × (following wanted tokens ≡ Some left)
stands_some wanted tokens is = by (following wanted tokens) refl is
  where
    by : (found : Option (List Symbol)) → following wanted tokens ≡ found → is_some found ≡ true
        → (left : List Symbol) × (following wanted tokens ≡ Some left)
    by None found is = absurd (false≢true is)
    by (Some left) found is = (left, found)

module _ {Form Forms Tree Trees : Type 0} {tokens_of : Form → List Symbol → List Symbol} {tree_of : Form → Tree}
    {list_tokens : TokenKind → Forms → List Symbol → List Symbol} {list_trees : Forms → Trees} {from : List Tree
    → Trees}
    (several : Several tokens_of tree_of list_tokens list_trees from) (reader : List Symbol → Found Tree)
    (sound : IsSound tokens_of tree_of reader) (wanted : Mark) where
  -- `tokens` with the trees `trees` are those of a list of forms, in front of `rest`
  abbrev AreDerived : List Symbol → List Tree → List Symbol → Type 0
  AreDerived tokens trees rest = Derives (list_tokens (kind_of wanted)) list_trees tokens (from trees) rest

  -- `tokens` with the trees `trees` are those of a list of at least one form, in front of `rest`
  abbrev FirstDerived : List Symbol → List Tree → List Symbol → Type 0
  FirstDerived tokens trees rest =
      (first : Form) × (more : Forms) × (tokens ≡ list_tokens (kind_of wanted) (several.next first more) rest)
      × (from trees ≡ list_trees (several.next first more))

  -- if no form is read, the tokens are those of the empty list of forms
  none_derived : (tokens rest : List Symbol) (trees : List Tree)
      → ◌≡◌ {A = Found (List Tree)} (Some ([], tokens)) (Some (trees, rest)) → AreDerived tokens trees rest
  none_derived tokens rest trees is =
      let same : ([], tokens) ≡ (trees, rest) = (cc) in (
        several.none,
        ap (λ (p : List Tree × List Symbol). p.1) same ∙ several.none_tokens (kind_of wanted) rest,
        ap (λ (p : List Tree × List Symbol). from p.0) (sym same) ∙ several.none_trees,
      )

  -- a form read after `wanted` and the forms read after it make a list of at least one form
  first_derived : (turns : ℕ)
      → ((tokens rest : List Symbol) (trees : List Tree) → many reader wanted turns tokens ≡ Some (trees, rest)
      → AreDerived tokens trees rest)
      → (tokens left rest : List Symbol) (trees : List Tree) → following wanted tokens ≡ Some left
      → ◌>>=◌ {T = List Tree × List Symbol} (reader left)
      (λ item after. many reader wanted turns after >>= λ more end. Some (item ∷ more, end)) ≡ Some (trees, rest)
      → FirstDerived tokens trees rest
  first_derived turns others tokens left rest trees found read =
      let one = bind_some (reader left)
      (λ item after. many reader wanted turns after >>= λ more end. Some (item ∷ more, end)) (trees, rest) read in
      let more = bind_some (many reader wanted turns one.0.1) (λ more end. Some (one.0.0 ∷ more, end)) (trees, rest)
      one.2 in
      let form = sound left one.0.1 one.0.0 one.1 in
      let forms = others one.0.1 more.0.1 more.0.0 more.1 in
      let same : (one.0.0 ∷ more.0.0, more.0.1) ≡ (trees, rest) = (cc) in (
        form.0,
        forms.0,
        after_is wanted tokens left found
            ∙ ap (λ after. mark (kind_of wanted) ∷ after) (form.1 ∙ ap (tokens_of form.0)
            (forms.1 ∙ ap (λ (p : List Tree × List Symbol). list_tokens (kind_of wanted) forms.0 p.1) same))
            ∙ several.next_tokens (kind_of wanted) form.0 forms.0 rest,
        ap (λ (p : List Tree × List Symbol). from p.0) (sym same) ∙ ap (λ tree. from (tree ∷ more.0.0)) form.2
            ∙ several.next_trees form.0 forms.0 more.0.0 forms.2,
      )

  -- what `many` reads are the tokens and trees of a list of forms
  many_derived : (turns : ℕ) (tokens rest : List Symbol) (trees : List Tree)
      → many reader wanted turns tokens ≡ Some (trees, rest)
      → AreDerived tokens trees rest
  unfolding many
  many_derived zero tokens rest trees is = none_derived tokens rest trees is
  many_derived (suc turns) tokens rest trees is =
      elim (otherwise_some (following wanted tokens) (Some ([], tokens))
      (λ left. reader left >>= λ item after. many reader wanted turns after >>= λ more end. Some (item ∷ more, end))
      (trees, rest) is) [
        | inl (none, end) ↦ none_derived tokens rest trees end
        | inr (left, found, next) ↦
            let first = first_derived turns (many_derived turns) tokens left rest trees found next in
            (several.next first.0 first.1, first.2, first.3)
      ]

  -- if `wanted` stands in front, what `many` reads are the tokens and trees of at least one form
  stood_derived : (turns : ℕ) (tokens left rest : List Symbol) (trees : List Tree) → following wanted tokens ≡ Some left
      → many reader wanted (suc turns) tokens ≡ Some (trees, rest) → FirstDerived tokens trees rest
  unfolding many
  stood_derived turns tokens left rest trees found is =
      first_derived turns (many_derived turns) tokens left rest trees found (rw found at is)

  -- if a token that joins stands in front, and the trees read after it are put after `front` and given to `make`,
  -- then at least one form derives the tokens before `rest`, and `make` got `front` and the trees of these forms
  pub joined_sound : {Whole : Type 0} (make : List Tree → Whole) (front : List Tree) (tokens rest : List Symbol)
      (whole : Whole)
      → stands wanted tokens ≡ true
      → ◌>>=◌ {T = Whole × List Symbol} (with_front front (all_after reader wanted tokens))
      (λ parts left. Some (make parts, left)) ≡ Some (whole, rest)
      → (trees : List Tree) × FirstDerived tokens trees rest × (whole ≡ make (front ++ trees))
  joined_sound {Whole} make front tokens rest whole stood is =
      let left = stands_some wanted tokens stood in
      let parts = bind_some (with_front front (all_after reader wanted tokens)) (λ parts left. Some (make parts, left))
      (whole, rest) is in
      let more = bind_some (all_after reader wanted tokens) (λ more end. Some (front ++ more, end)) parts.0 parts.1 in
      let same : (make parts.0.0, parts.0.1) ≡ (whole, rest) = (cc) in
      let same' : (front ++ more.0.0, more.0.1) ≡ parts.0 = (cc) in
      let ends : more.0.1 ≡ rest = ap (λ (p : List Tree × List Symbol). p.1) same'
      ∙ ap (λ (p : Whole × List Symbol). p.1) same in
      let long : length tokens ≡ suc (length left.0) = ap length (after_is wanted tokens left.0 left.1) in
      let read : many reader wanted (suc (length left.0)) tokens ≡ Some (more.0.0, rest) =
      ap (λ n. many reader wanted n tokens) (sym long) ∙ more.1 ∙ ap (λ end. Some (more.0.0, end)) ends in (
        more.0.0,
        stood_derived (length left.0) tokens left.0 rest more.0.0 left.1 read,
        sym (ap (λ (p : Whole × List Symbol). p.0) same) ∙ ap (λ (p : List Tree × List Symbol). make p.0) (sym same'),
      )

-- if a conditional has a result, it is that of the case that its test selects
pub either_some : {A : Type 0} (test : Bool) (one other : Option A) (answer : A) → cond test one other ≡ Some answer
    → ((test ≡ true) × (one ≡ Some answer)) ⊎ ((test ≡ false) × (other ≡ Some answer))
either_some true one other answer is = inl (refl, is)
either_some false one other answer is = inr (refl, is)

-- a rule that joins at least two parts by a token of `kind`: the form that it makes of the first two parts and the
-- others, with its tokens and its tree
pub record Joint {Part Parts Form Tree Trees : Type 0} {part_tokens : Part → List Symbol → List Symbol}
    {part_tree : Part → Tree}
    {parts_tokens : TokenKind → Parts → List Symbol → List Symbol} {part_trees : Parts → Trees} {from : List Tree
    → Trees}
    (several : Several part_tokens part_tree parts_tokens part_trees from)
    (form_tokens : Form → List Symbol → List Symbol) (form_tree : Form → Tree) (kind : TokenKind) (make : Trees
    → Tree) : Type 0 where
  -- the form of the first part, the second, and the others
  pub form : Part → Part → Parts → Form
  -- the tokens of that form are those of its parts, joined by the token
  pub tokens : (first second : Part) (more : Parts) (rest : List Symbol)
      → part_tokens first (parts_tokens kind (several.next second more) rest)
      ≡ form_tokens (form first second more) rest
  -- the tree of that form is what `make` makes of the trees of its parts
  pub tree : (first second : Part) (more : Parts)
      → make (part_trees (several.next first (several.next second more))) ≡ form_tree (form first second more)

-- a rule with three alternatives: one part alone, parts that are joined by AND, and parts that are joined by OR
pub record Joined {Part Parts Form Tree Trees : Type 0} {part_tokens : Part → List Symbol → List Symbol}
    {part_tree : Part → Tree}
    {parts_tokens : TokenKind → Parts → List Symbol → List Symbol} {part_trees : Parts → Trees} {from : List Tree
    → Trees}
    (several : Several part_tokens part_tree parts_tokens part_trees from)
    (form_tokens : Form → List Symbol → List Symbol) (form_tree : Form → Tree) (make_and make_or : Trees → Tree) : Type
    0 where
  -- the form of one part
  pub one : Part → Form
  -- the tokens of the form of one part are those of the part
  pub one_tokens : (part : Part) (rest : List Symbol) → part_tokens part rest ≡ form_tokens (one part) rest
  -- the tree of the form of one part is the tree of the part
  pub one_tree : (part : Part) → part_tree part ≡ form_tree (one part)
  -- parts that are joined by AND
  pub all : Joint several form_tokens form_tree token.And make_and
  -- parts that are joined by OR
  pub some : Joint several form_tokens form_tree token.Or make_or

-- what is read after a first part: the parts that `wanted` joins if it stands there, or `other`
abbrev joined_by : {Tree : Type 0} → (List Symbol → Found Tree) → Mark → (List Tree → Tree) → Tree → List Symbol
    → Found Tree → Found Tree
joined_by reader wanted make first tail other =
    cond (stands wanted tail)
    (with_front (first ∷ []) (all_after reader wanted tail) >>= λ parts left. Some (make parts, left)) other

module _ {Part Parts Form Tree Trees : Type 0} {part_tokens : Part → List Symbol → List Symbol} {part_tree : Part
    → Tree}
    {parts_tokens : TokenKind → Parts → List Symbol → List Symbol} {part_trees : Parts → Trees} {from : List Tree
    → Trees}
    {form_tokens : Form → List Symbol → List Symbol} {form_tree : Form → Tree}
    (several : Several part_tokens part_tree parts_tokens part_trees from) (reader : List Symbol → Found Tree)
    (sound : IsSound part_tokens part_tree reader) where
  -- if `wanted` joins the parts that are read, they make a joined form; otherwise the answer is that of `other`
  joint_sound : (wanted : Mark) {make : Trees → Tree} → Joint several form_tokens form_tree (kind_of wanted) make
      → (tokens tail rest : List Symbol) (first tree : Tree) (other : Found Tree)
      → Derives part_tokens part_tree tokens first tail
      → joined_by reader wanted (λ parts. make (from parts)) first tail other ≡ Some (tree, rest)
      → (Derives form_tokens form_tree tokens tree rest) ⊎ (other ≡ Some (tree, rest))
  joint_sound wanted {make} joint tokens tail rest first tree other (part, front, first_is) is =
      elim (either_some (stands wanted tail) (with_front (first ∷ []) (all_after reader wanted tail) >>= λ parts left.
      Some (make (from parts), left)) other (tree, rest) is) [
        | inl (stood, read) ↦
            let (trees, (second, more, tail_is, trees_are), whole) =
            joined_sound several reader sound wanted (λ parts. make (from parts)) (first ∷ []) tail rest tree stood
            read in
            inl (
              joint.form part second more,
              front ∙ ap (part_tokens part) tail_is ∙ joint.tokens part second more rest,
              whole ∙ ap (λ (t : Tree). make (from (t ∷ trees))) first_is
                  ∙ ap make (several.next_trees part (several.next second more) trees trees_are)
                  ∙ joint.tree part second more,
            )
        | inr (none, read) ↦ inr read
      ]

  -- if the parts that are read are joined by AND or by OR, the joined form derives them; otherwise the result is that
  -- of `other`
  pub joints_sound : {make_and make_or : Trees → Tree} → Joint several form_tokens form_tree token.And make_and
      → Joint several form_tokens form_tree token.Or make_or
      → (tokens tail rest : List Symbol) (first tree : Tree) (other : Found Tree)
      → Derives part_tokens part_tree tokens first tail
      → joined_by reader marks.And (λ parts. make_and (from parts)) first tail
      (joined_by reader marks.Or (λ parts. make_or (from parts)) first tail other) ≡ Some (tree, rest)
      → (Derives form_tokens form_tree tokens tree rest) ⊎ (other ≡ Some (tree, rest))
  joints_sound {make_and} {make_or} all some tokens tail rest first tree other part is =
      elim (joint_sound marks.And all tokens tail rest first tree
      (joined_by reader marks.Or (λ parts. make_or (from parts)) first tail other) part is) [
        | inl form ↦ inl form
        | inr next ↦ joint_sound marks.Or some tokens tail rest first tree other part next
      ]

  -- a reader is sound that reads one part, or parts that are joined by AND or by OR, if the reader of parts is
  pub forms_sound : {make_and make_or : Trees → Tree} → Joined several form_tokens form_tree make_and make_or
      → IsSound form_tokens form_tree
      (λ tokens. reader tokens >>= λ first tail. joined_by reader marks.And (λ parts. make_and (from parts)) first tail
      (joined_by reader marks.Or (λ parts. make_or (from parts)) first tail (Some (first, tail))))
  forms_sound {make_and} {make_or} forms tokens rest tree is =
      let ((first, tail), read, next) =
      bind_some (reader tokens)
      (λ first tail. joined_by reader marks.And (λ parts. make_and (from parts)) first tail
      (joined_by reader marks.Or (λ parts. make_or (from parts)) first tail (Some (first, tail)))) (tree, rest) is in
      let part = sound tokens tail first read in
      elim (joints_sound forms.all forms.some tokens tail rest first tree (Some (first, tail)) part next) [
        | inl form ↦ form
        | inr end ↦
            let same : (first, tail) ≡ (tree, rest) = (cc) in (
              forms.one part.0,
              part.1 ∙ ap (λ (p : Tree × List Symbol). part_tokens part.0 p.1) same ∙ forms.one_tokens part.0 rest,
              sym (ap (λ (p : Tree × List Symbol). p.0) same) ∙ part.2 ∙ forms.one_tree part.0,
            )
      ]

-- the rule of attribute sets: one part, or parts joined by AND or by OR
pub joined_sets : Joined several_parts set_tokens set_tree and_set or_set
joined_sets = record {
  one = one_part;
  one_tokens = λ part rest. refl;
  one_tree = λ part. refl;
  all = record { form = all_parts; tokens = λ first second more rest. refl; tree = λ first second more. refl };
  some = record { form = some_parts; tokens = λ first second more rest. refl; tree = λ first second more. refl };
}

-- the rule of refinements: one item, or items joined by AND or by OR
pub joined_refinements : Joined several_items refinement_tokens refinement_tree and_refinement or_refinement
joined_refinements = record {
  one = one_item;
  one_tokens = λ item rest. refl;
  one_tree = λ item. refl;
  all = record { form = all_items; tokens = λ first second more rest. refl; tree = λ first second more. refl };
  some = record { form = some_items; tokens = λ first second more rest. refl; tree = λ first second more. refl };
}

-- the rule of conjunctions: operands joined by AND
pub conjunctions : Joint several_subs constraint_tokens constraint_tree token.And and_tree
conjunctions = record { form = conjunction; tokens = λ first second more rest. refl; tree = λ first second more. refl }

-- the rule of disjunctions: operands joined by OR
pub disjunctions : Joint several_subs constraint_tokens constraint_tree token.Or or_tree
disjunctions = record { form = disjunction; tokens = λ first second more rest. refl; tree = λ first second more. refl }

-- the result of `make` for the attribute of a pair that was read
abbrev pub made : {Tree : Type 0} → (AttributeTree → Tree) → Found AttributeTree → Found Tree
made make found = found >>= λ pair left. Some (make pair, left)

-- if `bracketed_at tokens` is `rest`, then `tokens` are a `(` in front of `rest`
pub bracketed_is : (tokens rest : List Symbol) → bracketed_at tokens ≡ Some rest → tokens ≡ mark token.RoundOpen ∷ rest
bracketed_is tokens rest is =
    elim (otherwise_some (following marks.RoundOpen tokens) None
    (λ left. cond (is_some {T = Compare × List Symbol} (compare_at (after_close 0 left))) None (Some left)) rest is) [
      | inl (none, end) ↦ (cc)
      | inr (left, found, end) ↦ after_is marks.RoundOpen tokens left found
          ∙ ap (λ after. mark token.RoundOpen ∷ after)
          (kept (is_some {T = Compare × List Symbol} (compare_at (after_close 0 left))) left end)
    ]
  where
    kept : (b : Bool) (left : List Symbol) → cond b None (Some left) ≡ Some rest → left ≡ rest
    kept true left end = (cc)
    kept false left end = (cc)
