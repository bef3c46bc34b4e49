-- Reading finds the tree of each form, in front of tokens that may follow it.
use Rattle.std.proofs.Common.{◌≡◌, ◌≤◌, ℕ, zero, suc, Bool, true, false, List, [], ◌∷◌, length, Option, None, Some}
use Rattle.std.proofs.Common.{cond, option_map, refl, ap, ◌∙◌, arith}
use Rattle.std.specs.Prelude.{is_some}
use Rattle.constraint_tree.specs.declared.operator.Compare.{Compare}
use Rattle.constraint_tree.specs.declared.operator.Compare.TheVariants as compare
use Rattle.constraint_tree.specs.declared.operator.Operator.{Operator}
use Rattle.ecl_lexer.specs.declared.token.TokenKind.{TokenKind}
use Rattle.ecl_lexer.specs.declared.token.TokenKind.TheVariants as token
use Rattle.constraint_tree.specs.Grammar.{Symbol, decimal, mark, CountForm, at_least, between, ConstraintForm, alone}
use Rattle.constraint_tree.specs.Grammar.{refined, conjunction, disjunction, exclusion, dotted, SubForms, no_subs}
use Rattle.constraint_tree.specs.Grammar.{sub_then, SubForm, plain, member, walk, walk_member, FocusForm, concept}
use Rattle.constraint_tree.specs.Grammar.{concept_term, any, round, RefinementForm, one_item, all_items, some_items}
use Rattle.constraint_tree.specs.Grammar.{ItemForms, no_items, item_then, ItemForm, attribute, group, round_refinement}
use Rattle.constraint_tree.specs.Grammar.{SetForm, one_part, all_parts, some_parts, PartForms, no_parts, part_then}
use Rattle.constraint_tree.specs.Grammar.{PartForm, counted_part, round_set, PairForm, within, outside, number}
use Rattle.constraint_tree.specs.Grammar.{operator_kind, compare_kind, count_tokens, counted_tokens, constraint_tokens}
use Rattle.constraint_tree.specs.Grammar.{subs_tokens, sub_tokens, focus_tokens, refinement_tokens, items_tokens}
use Rattle.constraint_tree.specs.Grammar.{item_tokens, set_tokens, parts_tokens, part_tokens, pair_tokens}
use Rattle.constraint_tree.specs.Grammar.{cardinality_of, constraint_tree, sub_trees, sub_tree, focus_tree}
use Rattle.constraint_tree.specs.Grammar.{refinement_tree, item_trees, item_tree, set_tree, part_trees, part_tree}
use Rattle.constraint_tree.specs.Grammar.{pair_tree}
use Rattle.constraint_tree.specs.Tree.{trees_from, tree_then, refinements_from, refinement_then, sets_from, set_then}
use Rattle.ecl_parser.specs.inside.Reading.{Found, Readers, all_after, following, after_close, bounds_at, bracketed_at}
use Rattle.ecl_parser.specs.inside.Reading.{compare_at, compare_of, constraint_after, constraint_in, count_at, focus_in}
use Rattle.ecl_parser.specs.inside.Reading.{is_mark, item_after, item_in, many, member_in, number_at, operator_of}
use Rattle.ecl_parser.specs.inside.Reading.{otherwise, pair_in, part_in, readers, refinement_after, refinement_in}
use Rattle.ecl_parser.specs.inside.Reading.{set_after, set_in, sub_in, test_in}
use Rattle.ecl_parser.specs.declared.tokens.Mark.{Mark}
use Rattle.ecl_parser.specs.declared.tokens.Mark.TheVariants as marks
use Rattle.ecl_parser.proofs.MarkLemmas.{compare_back, kind_of, operator_back, read_is_no_mark}
use Rattle.ecl_parser.proofs.Forms.{constraint_depth, subs_depth, sub_depth, focus_depth, refinement_depth, items_depth}
use Rattle.ecl_parser.proofs.Forms.{item_depth, set_depth, parts_depth, part_depth, pair_depth, constraint_holds}
use Rattle.ecl_parser.proofs.Forms.{sub_holds, refinement_holds, item_holds, set_holds, part_holds, IsClosed}
use Rattle.ecl_parser.proofs.Forms.{forms_closed}

-- `rest` may follow an item of the grammar: it begins with no term and no comparison
pub record AfterItem (rest : List Symbol) : Type 0 where
  -- `rest` begins with no term
  pub term : following marks.Term rest ≡ None
  -- `rest` begins with no comparison
  pub compare : compare_at rest ≡ None

-- `rest` may follow a constraint: it begins with no term, no comparison, and none of AND, OR, MINUS, a dot and a
-- colon
pub record AfterWhole (rest : List Symbol) : Type 0 where
  -- `rest` may follow an item
  pub item : AfterItem rest
  -- `rest` does not begin with AND
  pub joins_and : following marks.And rest ≡ None
  -- `rest` does not begin with OR
  pub joins_or : following marks.Or rest ≡ None
  -- `rest` does not begin with a dot
  pub joins_dot : following marks.Dot rest ≡ None
  -- `rest` does not begin with a colon
  pub colon : following marks.Colon rest ≡ None
  -- `rest` does not begin with MINUS
  pub minus : following marks.Minus rest ≡ None

-- the empty list of tokens may follow a constraint
pub at_end : AfterWhole []
at_end = record {
  item = record { term = refl; compare = refl };
  joins_and = refl;
  joins_or = refl;
  joins_dot = refl;
  colon = refl;
  minus = refl;
}

-- `)` may follow a whole form
before_round : (rest : List Symbol) → AfterWhole (mark token.RoundClose ∷ rest)
before_round rest = record {
  item = record { term = refl; compare = refl };
  joins_and = refl;
  joins_or = refl;
  joins_dot = refl;
  colon = refl;
  minus = refl;
}

-- `}` may follow a whole form
before_brace : (rest : List Symbol) → AfterWhole (mark token.BraceClose ∷ rest)
before_brace rest = record {
  item = record { term = refl; compare = refl };
  joins_and = refl;
  joins_or = refl;
  joins_dot = refl;
  colon = refl;
  minus = refl;
}

-- the mark `wanted` joins forms: it is neither a term nor a comparison
pub record Joins (wanted : Mark) : Type 0 where
  -- `is_mark` is true for the mark and its own kind of token
  pub is : is_mark wanted (kind_of wanted) ≡ true
  -- the mark is no term
  pub no_term : is_mark marks.Term (kind_of wanted) ≡ false
  -- the mark is no comparison
  pub no_compare : compare_of (kind_of wanted) ≡ None

-- the mark AND joins forms
by_and : Joins marks.And
by_and = record { is = refl; no_term = refl; no_compare = refl }

-- the mark OR joins forms
by_or : Joins marks.Or
by_or = record { is = refl; no_term = refl; no_compare = refl }

-- the mark of a dot joins forms
by_dot : Joins marks.Dot
by_dot = record { is = refl; no_term = refl; no_compare = refl }

-- a token that joins forms may follow an item
before_joint : {wanted : Mark} → Joins wanted → (rest : List Symbol) → AfterItem (mark (kind_of wanted) ∷ rest)
before_joint joint rest = record {
  term = ap (λ (b : Bool). cond b (Some rest) None) joint.no_term;
  compare = ap (λ (c : Option Compare). option_map (λ compare. (compare, rest)) c) joint.no_compare;
}

-- the token of an operator is not read as a mark whose kind is no operator
no_operator : (wanted : Mark) → operator_of (kind_of wanted) ≡ None → (o : Operator)
    → is_mark wanted (operator_kind o) ≡ false
no_operator wanted none o = read_is_no_mark operator_of (operator_kind o) o (operator_back o) wanted none

-- the token of a comparison is not read as a mark whose kind is no comparison
no_compare : (wanted : Mark) → compare_of (kind_of wanted) ≡ None → (c : Compare)
    → is_mark wanted (compare_kind c) ≡ false
no_compare wanted none c = read_is_no_mark compare_of (compare_kind c) c (compare_back c) wanted none

-- a mark with which no Sub begins
record BeginsNoSub (wanted : Mark) : Type 0 where
  any : is_mark wanted token.Wildcard ≡ false
  round : is_mark wanted token.RoundOpen ≡ false
  member : is_mark wanted token.MemberOf ≡ false
  walk : operator_of (kind_of wanted) ≡ None

-- no Sub begins with `{`
no_brace : BeginsNoSub marks.BraceOpen
no_brace = record { any = refl; round = refl; member = refl; walk = refl }

-- no Sub begins with `[`
no_bracket : BeginsNoSub marks.BracketOpen
no_bracket = record { any = refl; round = refl; member = refl; walk = refl }

-- no Sub begins with `R`
no_reverse : BeginsNoSub marks.Reverse
no_reverse = record { any = refl; round = refl; member = refl; walk = refl }

-- tokens that begin with a token of another kind do not begin with the mark `wanted`
after_other : (wanted : Mark) (kind : TokenKind) (rest : List Symbol) → is_mark wanted kind ≡ false
    → following wanted (mark kind ∷ rest) ≡ None
after_other wanted kind rest other = ap (λ (b : Bool). cond b (Some rest) None) other

-- the tokens of a Sub do not begin with a mark with which no Sub begins
sub_begins : (wanted : Mark) → BeginsNoSub wanted → (form : SubForm) (rest : List Symbol)
    → following wanted (sub_tokens form rest) ≡ None
sub_begins wanted free (plain (concept run is)) rest = refl
sub_begins wanted free (plain (concept_term run is)) rest = refl
sub_begins wanted free (plain any) rest = after_other wanted token.Wildcard rest free.any
sub_begins wanted free (plain (round constraint)) rest =
    after_other wanted token.RoundOpen (constraint_tokens constraint (mark token.RoundClose ∷ rest)) free.round
sub_begins wanted free (member focus) rest = after_other wanted token.MemberOf (focus_tokens focus rest) free.member
sub_begins wanted free (walk o focus) rest =
    after_other wanted (operator_kind o) (focus_tokens focus rest) (no_operator wanted free.walk o)
sub_begins wanted free (walk_member o focus) rest =
    after_other wanted (operator_kind o) (mark token.MemberOf ∷ focus_tokens focus rest)
    (no_operator wanted free.walk o)

-- the tokens of a pair do not begin with a mark with which no Sub begins
pair_begins : (wanted : Mark) → BeginsNoSub wanted → (form : PairForm) (rest : List Symbol)
    → following wanted (pair_tokens form rest) ≡ None
pair_begins wanted free (within name value) rest =
    sub_begins wanted free name (mark token.Equal ∷ sub_tokens value rest)
pair_begins wanted free (outside name value) rest =
    sub_begins wanted free name (mark token.NotEqual ∷ sub_tokens value rest)
pair_begins wanted free (number name c text value is) rest =
    sub_begins wanted free name (mark (compare_kind c) ∷ decimal text ∷ rest)

-- the tokens of a Sub do not begin with a number
sub_no_number : (form : SubForm) (rest : List Symbol) → number_at (sub_tokens form rest) ≡ None
sub_no_number (plain any) rest = refl
sub_no_number other rest = refl

-- a Sub with a comparison after it is not read as brackets around a refinement or set
name_no_brackets : (form : SubForm) (c : Compare) (rest : List Symbol)
    → bracketed_at (sub_tokens form (mark (compare_kind c) ∷ rest)) ≡ None
name_no_brackets (plain (concept run is)) c rest = refl
name_no_brackets (plain (concept_term run is)) c rest = refl
name_no_brackets (plain any) c rest = refl
name_no_brackets (plain (round constraint)) c rest =
    ap (λ (left : List Symbol). cond (is_some {T = Compare × List Symbol} (compare_at left)) None
    (Some (constraint_tokens constraint (mark token.RoundClose ∷ mark (compare_kind c) ∷ rest))))
    ((constraint_holds forms_closed constraint).closes 0 (mark token.RoundClose ∷ mark (compare_kind c) ∷ rest))
    ∙ ap (λ (found : Option Compare). cond (is_some {T = Compare × List Symbol}
    (option_map (λ compare. (compare, rest)) found)) None
    (Some (constraint_tokens constraint (mark token.RoundClose ∷ mark (compare_kind c) ∷ rest)))) (compare_back c)
name_no_brackets (member focus) c rest = refl
name_no_brackets (walk o focus) c rest =
    ap (λ (b : Bool). otherwise (cond b (Some (focus_tokens focus (mark (compare_kind c) ∷ rest))) None) None
    (λ left. cond (is_some {T = Compare × List Symbol} (compare_at (after_close 0 left))) None (Some left)))
    (no_operator marks.RoundOpen refl o)
name_no_brackets (walk_member o focus) c rest =
    ap (λ (b : Bool). otherwise (cond b (Some (mark token.MemberOf
    ∷ focus_tokens focus (mark (compare_kind c) ∷ rest))) None) None
    (λ left. cond (is_some {T = Compare × List Symbol} (compare_at (after_close 0 left))) None (Some left)))
    (no_operator marks.RoundOpen refl o)

-- the tokens of a pair are not read as brackets around a refinement or set
pair_no_brackets : (form : PairForm) (rest : List Symbol) → bracketed_at (pair_tokens form rest) ≡ None
pair_no_brackets (within name value) rest = name_no_brackets name compare.Equal (sub_tokens value rest)
pair_no_brackets (outside name value) rest = name_no_brackets name compare.NotEqual (sub_tokens value rest)
pair_no_brackets (number name c text value is) rest = name_no_brackets name c (decimal text ∷ rest)

-- the tokens of an optional cardinality are read as that cardinality, if no `[` follows them
count_complete : (count : Option CountForm) (rest : List Symbol) → following marks.BracketOpen rest ≡ None
    → count_at (counted_tokens count rest) ≡ Some (cardinality_of count, rest)
unfolding bounds_at
count_complete None rest none = rw none refl
count_complete (Some (at_least least is)) rest none = rw is refl
count_complete (Some (between least most is also)) rest none = rw (is, also) refl

-- the reader reads `tokens` as forms with the trees `trees`, each after a token, up to `rest`
record AreRead {Tree Trees : Type 0} (reader : List Symbol → Found Tree) (from : List Tree → Trees) (wanted : Mark)
    (tokens rest : List Symbol) (trees : Trees) : Type 0 where
  found : List Tree
  read : (turns : ℕ) → length tokens ≤ turns → many reader wanted turns tokens ≡ Some (found, rest)
  are : from found ≡ trees

-- forms that are read one after another are read by `all_after`
all_read : {Tree Trees : Type 0} {reader : List Symbol → Found Tree} {from : List Tree → Trees} {wanted : Mark}
    {tokens rest : List Symbol} {trees : Trees} (forms : AreRead reader from wanted tokens rest trees)
    → all_after reader wanted tokens ≡ Some (forms.found, rest)
all_read {tokens} forms = forms.read (length tokens) (omega arith)

-- no form is read if no token that joins stands in front
none_read : {Tree Trees : Type 0} (reader : List Symbol → Found Tree) (from : List Tree → Trees) (wanted : Mark)
    (rest : List Symbol)
    → following wanted rest ≡ None → AreRead reader from wanted rest rest (from [])
unfolding many
none_read {Tree} reader from wanted rest none = record { found = []; read = λ turns enough. by turns; are = refl }
  where
    by : (turns : ℕ) → many reader wanted turns rest ≡ Some ([], rest)
    by zero = refl
    by (suc turns) = rw none refl

-- a form after a token, with forms after it that are read, is read in front of them
one_read : {Tree Trees : Type 0} {reader : List Symbol → Found Tree} {from : List Tree → Trees} {wanted : Mark}
    {item : Tree}
    {tokens_of : List Symbol → List Symbol} {after rest : List Symbol} {trees : Trees} → Joins wanted
    → (next : Trees → Trees)
    → ((items : List Tree) → from (item ∷ items) ≡ next (from items)) → IsClosed tokens_of
    → reader (tokens_of after) ≡ Some (item, after)
    → AreRead reader from wanted after rest trees
    → AreRead reader from wanted (mark (kind_of wanted) ∷ tokens_of after) rest (next trees)
unfolding many
one_read {reader} {wanted} {item} {tokens_of} {after} {rest} joint next goes_on closed first others = record {
  found = item ∷ others.found;
  read = by;
  are = goes_on others.found ∙ ap next others.are;
}
  where
    by : (turns : ℕ) → suc (length (tokens_of after)) ≤ turns
        → many reader wanted turns (mark (kind_of wanted) ∷ tokens_of after) ≡ Some (item ∷ others.found, rest)
    by zero enough = absurd (omega arith)
    by (suc turns) enough = rw (joint.is, first, others.read turns (omega (arith, closed.longer after))) refl

-- the tokens of a focus are read as a Sub without an operator
sub_plain : (inner : Readers) (form : FocusForm) (rest : List Symbol)
    → sub_in inner (focus_tokens form rest) ≡ member_in inner (focus_tokens form rest)
unfolding sub_in
sub_plain inner any rest = refl
sub_plain inner other rest = refl

-- the tokens of a focus are read as an operand without `^`
member_plain : (inner : Readers) (form : FocusForm) (rest : List Symbol)
    → member_in inner (focus_tokens form rest) ≡ focus_in inner (focus_tokens form rest)
unfolding member_in
member_plain inner any rest = refl
member_plain inner other rest = refl

-- a cardinality is not read as brackets around a refinement or set
count_no_brackets : (count : CountForm) (rest : List Symbol) → bracketed_at (count_tokens count rest) ≡ None
count_no_brackets (at_least least is) rest = refl
count_no_brackets (between least most is also) rest = refl

-- Each form is read as its tree, if the brackets in it may be opened and the tokens after it may follow it.
mutual
  unfolding constraint_in constraint_after sub_in member_in focus_in readers refinement_in refinement_after item_in
      item_after set_in set_after part_in pair_in test_in

  -- if at most `most` brackets are open at once in a constraint form, and `rest` may follow a constraint, then
  -- reading the form's tokens in front of `rest` gives the form's tree and leaves `rest`
  pub constraint_complete : (most : ℕ) (form : ConstraintForm) (rest : List Symbol) → constraint_depth form ≤ most
      → AfterWhole rest
      → constraint_in (readers most) (constraint_tokens form rest) ≡ Some (constraint_tree form, rest)
  constraint_complete most (alone sub) rest fits after =
      rw (
        sub_complete most sub rest fits after.item.term,
        after.joins_and,
        after.joins_or,
        after.joins_dot,
        after.colon,
        after.minus,
      ) refl
  constraint_complete most (refined focus refinement) rest fits after =
      rw (
        sub_complete most focus (mark token.Colon ∷ refinement_tokens refinement rest) (omega arith) refl,
        refinement_complete most refinement rest (omega arith) after,
      ) refl
  constraint_complete most (conjunction first second more) rest fits after =
      let others = one_read by_and (tree_then (sub_tree second)) (λ trees. refl) (sub_holds forms_closed second)
      (sub_complete most second (subs_tokens token.And more rest) (omega arith)
      (subs_term by_and more rest after.item.term))
      (subs_complete most by_and more rest (omega arith) after.joins_and after.item.term) in
      rw (
        sub_complete most first (subs_tokens token.And (sub_then second more) rest) (omega arith) refl,
        all_read
            others,
        others.are,
      ) refl
  constraint_complete most (disjunction first second more) rest fits after =
      let others = one_read by_or (tree_then (sub_tree second)) (λ trees. refl) (sub_holds forms_closed second)
      (sub_complete most second (subs_tokens token.Or more rest) (omega arith)
      (subs_term by_or more rest after.item.term))
      (subs_complete most by_or more rest (omega arith) after.joins_or after.item.term) in
      rw (
        sub_complete most first (subs_tokens token.Or (sub_then second more) rest) (omega arith) refl,
        all_read
            others,
        others.are,
      ) refl
  constraint_complete most (exclusion first second) rest fits after =
      rw (
        sub_complete most first (mark token.Minus ∷ sub_tokens second rest) (omega arith) refl,
        sub_complete most second rest (omega arith) after.item.term,
      ) refl
  constraint_complete most (dotted start name more) rest fits after =
      let others = one_read by_dot (tree_then (sub_tree name)) (λ trees. refl) (sub_holds forms_closed name)
      (sub_complete most name (subs_tokens token.Dot more rest) (omega arith)
      (subs_term by_dot more rest after.item.term))
      (subs_complete most by_dot more rest (omega arith) after.joins_dot after.item.term) in
      rw (
        sub_complete most start (subs_tokens token.Dot (sub_then name more) rest) (omega arith) refl,
        all_read others,
        others.are,
      ) refl

  -- further operands are read as their trees, if at most `most` brackets are open in them
  subs_complete : (most : ℕ) {wanted : Mark} → Joins wanted → (forms : SubForms) (rest : List Symbol)
      → subs_depth forms ≤ most
      → following wanted rest ≡ None → following marks.Term rest ≡ None
      → AreRead (sub_in (readers most)) trees_from wanted (subs_tokens (kind_of wanted) forms rest) rest
      (sub_trees forms)
  subs_complete most {wanted} joint no_subs rest fits none term =
      none_read (sub_in (readers most)) trees_from wanted rest none
  subs_complete most {wanted} joint (sub_then sub more) rest fits none term =
      one_read joint (tree_then (sub_tree sub)) (λ trees. refl) (sub_holds forms_closed sub)
      (sub_complete most sub (subs_tokens (kind_of wanted) more rest) (omega arith) (subs_term joint more rest term))
      (subs_complete most joint more rest (omega arith) none term)

  -- further operands do not begin with a term, if the tokens after them do not
  subs_term : {wanted : Mark} → Joins wanted → (forms : SubForms) (rest : List Symbol)
      → following marks.Term rest ≡ None → following marks.Term (subs_tokens (kind_of wanted) forms rest) ≡ None
  subs_term joint no_subs rest term = term
  subs_term {wanted} joint (sub_then sub more) rest term =
      (before_joint joint (sub_tokens sub (subs_tokens (kind_of wanted) more rest))).term

  -- an operand is read as its tree, if at most `most` brackets are open in it and no term follows it
  sub_complete : (most : ℕ) (form : SubForm) (rest : List Symbol) → sub_depth form ≤ most
      → following marks.Term rest ≡ None
      → sub_in (readers most) (sub_tokens form rest) ≡ Some (sub_tree form, rest)
  sub_complete most (plain focus) rest fits term = sub_plain (readers most) focus rest
      ∙ member_plain (readers most) focus rest ∙ focus_complete most focus rest fits term
  sub_complete most (member focus) rest fits term = rw (focus_complete most focus rest fits term) refl
  sub_complete most (walk o focus) rest fits term =
      rw (operator_back o, member_plain (readers most) focus rest, focus_complete most focus rest fits term) refl
  sub_complete most (walk_member o focus) rest fits term =
      rw (operator_back o, focus_complete most focus rest fits term) refl

  -- a focus is read as its tree, if at most `most` brackets are open in it and no term follows it
  focus_complete : (most : ℕ) (form : FocusForm) (rest : List Symbol) → focus_depth form ≤ most
      → following marks.Term rest ≡ None
      → focus_in (readers most) (focus_tokens form rest) ≡ Some (focus_tree form, rest)
  focus_complete most (concept run is) rest fits term = rw (is, term) refl
  focus_complete most (concept_term run is) rest fits term = rw is refl
  focus_complete most any rest fits term = refl
  focus_complete zero (round constraint) rest fits term = absurd (omega arith)
  focus_complete (suc most) (round constraint) rest fits term =
      rw (constraint_complete most constraint (mark token.RoundClose ∷ rest) (omega arith) (before_round rest)) refl

  -- a refinement form is read as its tree, if at most `most` brackets are open in it and the rest may follow it
  refinement_complete : (most : ℕ) (form : RefinementForm) (rest : List Symbol) → refinement_depth form ≤ most
      → AfterWhole rest
      → refinement_in (readers most) (refinement_tokens form rest) ≡ Some (refinement_tree form, rest)
  refinement_complete most (one_item item) rest fits after =
      rw (item_complete most item rest fits after.item, after.joins_and, after.joins_or) refl
  refinement_complete most (all_items first second more) rest fits after =
      let others = one_read by_and (refinement_then (item_tree second)) (λ trees. refl) (item_holds forms_closed second)
      (item_complete most second (items_tokens token.And more rest) (omega arith)
      (items_after by_and more rest after.item))
      (items_complete most by_and more rest (omega arith) after.joins_and after.item) in
      rw (
        item_complete most first (items_tokens token.And (item_then second more) rest) (omega arith)
            (before_joint by_and (item_tokens second (items_tokens token.And more rest))),
        all_read others,
        others.are,
      ) refl
  refinement_complete most (some_items first second more) rest fits after =
      let others = one_read by_or (refinement_then (item_tree second)) (λ trees. refl) (item_holds forms_closed second)
      (item_complete most second (items_tokens token.Or more rest) (omega arith)
      (items_after by_or more rest after.item))
      (items_complete most by_or more rest (omega arith) after.joins_or after.item) in
      rw (
        item_complete most first (items_tokens token.Or (item_then second more) rest) (omega arith)
            (before_joint by_or (item_tokens second (items_tokens token.Or more rest))),
        all_read others,
        others.are,
      ) refl

  -- further items are read as their trees, if at most `most` brackets are open in them
  items_complete : (most : ℕ) {wanted : Mark} → Joins wanted → (forms : ItemForms) (rest : List Symbol)
      → items_depth forms ≤ most
      → following wanted rest ≡ None → AfterItem rest
      → AreRead (item_in (readers most)) refinements_from wanted (items_tokens (kind_of wanted) forms rest) rest
      (item_trees forms)
  items_complete most {wanted} joint no_items rest fits none after =
      none_read (item_in (readers most)) refinements_from wanted rest none
  items_complete most {wanted} joint (item_then item more) rest fits none after =
      one_read joint (refinement_then (item_tree item)) (λ trees. refl) (item_holds forms_closed item)
      (item_complete most item (items_tokens (kind_of wanted) more rest) (omega arith)
      (items_after joint more rest after))
      (items_complete most joint more rest (omega arith) none after)

  -- further items may follow an item, if the tokens after them may
  items_after : {wanted : Mark} → Joins wanted → (forms : ItemForms) (rest : List Symbol)
      → AfterItem rest → AfterItem (items_tokens (kind_of wanted) forms rest)
  items_after joint no_items rest after = after
  items_after {wanted} joint (item_then item more) rest after =
      before_joint joint (item_tokens item (items_tokens (kind_of wanted) more rest))

  -- an item is read as its tree, if at most `most` brackets are open in it and the rest may follow it
  item_complete : (most : ℕ) (form : ItemForm) (rest : List Symbol) → item_depth form ≤ most → AfterItem rest
      → item_in (readers most) (item_tokens form rest) ≡ Some (item_tree form, rest)
  item_complete most (attribute None false pair) rest fits after =
      rw (
        pair_no_brackets pair rest,
        pair_begins marks.BracketOpen no_bracket pair rest,
        pair_begins marks.BraceOpen no_brace pair rest,
        pair_begins marks.Reverse no_reverse pair rest,
        pair_complete most None false pair rest fits after.term,
      ) refl
  item_complete most (attribute None true pair) rest fits after =
      rw (pair_complete most None true pair rest fits after.term) refl
  item_complete most (attribute (Some count) false pair) rest fits after =
      rw (
        count_no_brackets count (pair_tokens pair rest),
        count_complete (Some count) (pair_tokens pair rest) (pair_begins marks.BracketOpen no_bracket pair rest),
        pair_begins marks.BraceOpen no_brace pair rest,
        pair_begins marks.Reverse no_reverse pair rest,
        pair_complete most (Some count) false pair rest fits after.term,
      ) refl
  item_complete most (attribute (Some count) true pair) rest fits after =
      rw (
        count_no_brackets count (mark token.Reverse ∷ pair_tokens pair rest),
        count_complete (Some count) (mark token.Reverse ∷ pair_tokens pair rest) refl,
        pair_complete most (Some count) true pair rest fits after.term,
      ) refl
  item_complete zero (group count set) rest fits after = absurd (omega arith)
  item_complete (suc most) (group None set) rest fits after =
      rw (set_complete most set (mark token.BraceClose ∷ rest) (omega arith) (before_brace rest)) refl
  item_complete (suc most) (group (Some count) set) rest fits after =
      rw (
        count_no_brackets count (mark token.BraceOpen ∷ set_tokens set (mark token.BraceClose ∷ rest)),
        count_complete (Some count) (mark token.BraceOpen ∷ set_tokens set (mark token.BraceClose ∷ rest)) refl,
        set_complete most set (mark token.BraceClose ∷ rest) (omega arith) (before_brace rest),
      ) refl
  item_complete zero (round_refinement refinement) rest fits after = absurd (omega arith)
  item_complete (suc most) (round_refinement refinement) rest fits after =
      rw (
        (refinement_holds forms_closed refinement).closes 0 (mark token.RoundClose ∷ rest),
        after.compare,
        refinement_complete most refinement (mark token.RoundClose ∷ rest) (omega arith) (before_round rest),
      ) refl

  -- an attribute set form is read as its tree, if at most `most` brackets are open in it and the rest may follow it
  set_complete : (most : ℕ) (form : SetForm) (rest : List Symbol) → set_depth form ≤ most → AfterWhole rest
      → set_in (readers most) (set_tokens form rest) ≡ Some (set_tree form, rest)
  set_complete most (one_part part) rest fits after =
      rw (part_complete most part rest fits after.item, after.joins_and, after.joins_or) refl
  set_complete most (all_parts first second more) rest fits after =
      let others = one_read by_and (set_then (part_tree second)) (λ trees. refl) (part_holds forms_closed second)
      (part_complete most second (parts_tokens token.And more rest) (omega arith)
      (parts_after by_and more rest after.item))
      (parts_complete most by_and more rest (omega arith) after.joins_and after.item) in
      rw (
        part_complete most first (parts_tokens token.And (part_then second more) rest) (omega arith)
            (before_joint by_and (part_tokens second (parts_tokens token.And more rest))),
        all_read others,
        others.are,
      ) refl
  set_complete most (some_parts first second more) rest fits after =
      let others = one_read by_or (set_then (part_tree second)) (λ trees. refl) (part_holds forms_closed second)
      (part_complete most second (parts_tokens token.Or more rest) (omega arith)
      (parts_after by_or more rest after.item))
      (parts_complete most by_or more rest (omega arith) after.joins_or after.item) in
      rw (
        part_complete most first (parts_tokens token.Or (part_then second more) rest) (omega arith)
            (before_joint by_or (part_tokens second (parts_tokens token.Or more rest))),
        all_read others,
        others.are,
      ) refl

  -- further parts are read as their trees, if at most `most` brackets are open in them
  parts_complete : (most : ℕ) {wanted : Mark} → Joins wanted → (forms : PartForms) (rest : List Symbol)
      → parts_depth forms ≤ most
      → following wanted rest ≡ None → AfterItem rest
      → AreRead (part_in (readers most)) sets_from wanted (parts_tokens (kind_of wanted) forms rest) rest
      (part_trees forms)
  parts_complete most {wanted} joint no_parts rest fits none after =
      none_read (part_in (readers most)) sets_from wanted rest none
  parts_complete most {wanted} joint (part_then part more) rest fits none after =
      one_read joint (set_then (part_tree part)) (λ trees. refl) (part_holds forms_closed part)
      (part_complete most part (parts_tokens (kind_of wanted) more rest) (omega arith)
      (parts_after joint more rest after))
      (parts_complete most joint more rest (omega arith) none after)

  -- further parts may follow a part, if the tokens after them may
  parts_after : {wanted : Mark} → Joins wanted → (forms : PartForms) (rest : List Symbol)
      → AfterItem rest → AfterItem (parts_tokens (kind_of wanted) forms rest)
  parts_after joint no_parts rest after = after
  parts_after {wanted} joint (part_then part more) rest after =
      before_joint joint (part_tokens part (parts_tokens (kind_of wanted) more rest))

  -- a part is read as its tree, if at most `most` brackets are open in it and the rest may follow it
  part_complete : (most : ℕ) (form : PartForm) (rest : List Symbol) → part_depth form ≤ most → AfterItem rest
      → part_in (readers most) (part_tokens form rest) ≡ Some (part_tree form, rest)
  part_complete most (counted_part None pair) rest fits after =
      rw (
        pair_no_brackets pair rest,
        pair_begins marks.BracketOpen no_bracket pair rest,
        pair_complete most None false
            pair rest fits after.term,
      ) refl
  part_complete most (counted_part (Some count) pair) rest fits after =
      rw (
        count_no_brackets count (pair_tokens pair rest),
        count_complete (Some count) (pair_tokens pair rest) (pair_begins marks.BracketOpen no_bracket pair rest),
        pair_complete most (Some count) false pair rest fits after.term,
      ) refl
  part_complete zero (round_set set) rest fits after = absurd (omega arith)
  part_complete (suc most) (round_set set) rest fits after =
      rw (
        (set_holds forms_closed set).closes 0 (mark token.RoundClose ∷ rest),
        after.compare,
        set_complete most set (mark token.RoundClose ∷ rest) (omega arith) (before_round rest),
      ) refl

  -- a pair is read as its tree, if at most `most` brackets are open in it and no term follows it
  pair_complete : (most : ℕ) (count : Option CountForm) (reverse : Bool) (form : PairForm) (rest : List Symbol)
      → pair_depth form ≤ most → following marks.Term rest ≡ None
      → pair_in (readers most) (cardinality_of count) reverse (pair_tokens form rest)
      ≡ Some (pair_tree count reverse form, rest)
  pair_complete most count reverse (within name value) rest fits term =
      rw (
        sub_complete most name (mark token.Equal ∷ sub_tokens value rest) (omega arith) refl,
        sub_no_number value rest,
        sub_complete most value rest (omega arith) term,
      ) refl
  pair_complete most count reverse (outside name value) rest fits term =
      rw (
        sub_complete most name (mark token.NotEqual ∷ sub_tokens value rest) (omega arith) refl,
        sub_no_number value rest,
        sub_complete most value rest (omega arith) term,
      ) refl
  pair_complete most count reverse (number name c text value is) rest fits term =
      rw (
        sub_complete most name (mark (compare_kind c) ∷ decimal text ∷ rest) fits
            (ap (λ (b : Bool). cond b (Some (decimal text ∷ rest)) None) (no_compare marks.Term refl c)),
        compare_back c,
        is,
      ) refl
