-- The tree that reading finds is the one tree of the tokens, and if reading finds none, the tokens have none.
use Rattle.std.proofs.Common.{◌≡◌, ◌⊎◌, inl, inr, ◌<◌, ◌≤◌, ◌+◌, ℕ, zero, suc, false, List, [], ◌∷◌, length, drop, map}
use Rattle.std.proofs.Common.{None, Some, Result, Ok, Err, refl, ap, sym, ◌∙◌, subst, arith}
use Rattle.std.specs.Prelude.{IfErr, IfOk, MatchResult}
use Rattle.std.proofs.lemmas.Bool.{false≢true}
use Rattle.std.proofs.lemmas.List.{length-map}
use Rattle.ecl_lexer.specs.Tokens.{AreTokensOf, IsFaultOf, IsReadable, Spelled, spelled}
use Rattle.ecl_lexer.specs.declared.fault.QueryFault.{QueryFault}
use Rattle.ecl_lexer.specs.declared.fault.QueryFault.TheVariants.{Depth, Syntax, Memory}
use Rattle.ecl_lexer.specs.declared.token.Token.{Token}
use Rattle.ecl_lexer.proofs.FaultLemmas.{same_fault, same_tokens, tokens_no_fault}
use Rattle.constraint_tree.specs.Grammar.{HaveOneTree, IsTreeOf, Symbol, constraint_tree, symbol_of}
use Rattle.constraint_tree.specs.Refusal.{IsConstraint, IsRefusalOf, is_deep}
use Rattle.constraint_tree.specs.Tree.{Tree, tree_of}
use Rattle.constraint_tree.specs.declared.tree.Constraint.{Constraint}
use Rattle.ecl_parser.specs.inside.Answers.{AreFaulty}
use Rattle.ecl_parser.specs.inside.Gives.{Fails, symbols, symbols_from}
use Rattle.ecl_parser.specs.inside.Reading.{Found, Readers, constraint_in, focus_in, member_in, readers, sub_in}
use Rattle.ecl_parser.proofs.Complete.{at_end, constraint_complete}
use Rattle.ecl_parser.proofs.Forms.{constraint_depth}
use Rattle.ecl_parser.proofs.Shallow.{fits_most}
use Rattle.ecl_parser.proofs.Sound.{constraint_derives}

-- the symbols of tokens of the code are the symbols of the same tokens as the grammar sees them
pub symbols-spelled : (tokens : List Token) → symbols tokens ≡ map symbol_of (map spelled tokens)
symbols-spelled [] = refl
symbols-spelled (token ∷ tokens) = ap (λ rest. symbol_of (spelled token) ∷ rest) (symbols-spelled tokens)

-- dropping at least as many items as a list has leaves the empty list
pub drop_all : {A : Type 0} (items : List A) (n : ℕ) → length items ≤ n → drop n items ≡ []
drop_all [] zero enough = refl
drop_all [] (suc n) enough = refl
drop_all (item ∷ items) zero enough = absurd (omega arith)
drop_all (item ∷ items) (suc n) enough = drop_all items n (omega arith)

-- dropping fewer items than there are leaves at least one
drop_some : {A : Type 0} (items : List A) (n : ℕ) → n < length items → drop n items ≡ [] → ⊥
drop_some [] n fewer is = absurd (omega arith)
drop_some (item ∷ items) zero fewer is = (cc)
drop_some (item ∷ items) (suc n) fewer is = drop_some items n (omega arith) is

-- if reading tokens from their beginning gives `tree` and leaves no tokens, they have the tree `tree`
pub tree_found : (tokens : List Token) (at : ℕ) (tree : Tree) → length tokens ≤ at
    → constraint_in (readers 64) (symbols_from tokens 0) ≡ Some (tree, symbols_from tokens at)
    → IsTreeOf (map spelled tokens) tree
tree_found tokens at tree enough read =
    let none : symbols_from tokens at ≡ [] =
    drop_all (symbols tokens) at (omega (arith, length-map tokens (λ token. symbol_of (spelled token)))) in
    let form = constraint_derives 64 (symbols tokens) [] tree (read
    ∙ ap (λ (rest : List Symbol). Some (tree, rest)) none) in
    (form.0, sym (symbols-spelled tokens) ∙ form.1, form.2)

-- if tokens have the tree `tree` and are not too deep, reading them gives `tree` and leaves no tokens
pub tokens_read : (tokens : List Spelled) (tree : Tree) → is_deep 0 tokens ≡ false → IsTreeOf tokens tree
    → constraint_in (readers 64) (map symbol_of tokens) ≡ Some (tree, [])
tokens_read tokens tree shallow (form, same, tree_is) =
    ap (constraint_in (readers 64)) same
    ∙ constraint_complete 64 form [] (fits_most form tokens same shallow) at_end
    ∙ ap (λ (t : Tree). Some (t, [])) (sym tree_is)

-- tokens of the code that have a tree are read to their end, if they are not too deep
tree_read : (tokens : List Token) (tree : Tree) → is_deep 0 (map spelled tokens) ≡ false
    → IsTreeOf (map spelled tokens) tree
    → constraint_in (readers 64) (symbols_from tokens 0) ≡ Some (tree, [])
tree_read tokens tree shallow is =
    ap (constraint_in (readers 64)) (symbols-spelled tokens) ∙ tokens_read (map spelled tokens) tree shallow is

-- if tokens are not too deep, and `fault` is a right answer to what reading them gives, then `fault` is a right
-- refusal of the tokens, or `Memory`
pub none_read : (fault : QueryFault) (tokens : List Token) → is_deep 0 (map spelled tokens) ≡ false
    → Fails fault (constraint_in (readers 64) (symbols_from tokens 0)) → AreFaulty (map spelled tokens) fault
none_read Memory tokens shallow fails = tt
none_read Syntax tokens shallow fails = (shallow, λ tree is. let read = tree_read tokens tree shallow is in (cc))
none_read other tokens shallow fails = absurd fails

-- if tokens are not too deep, and reading them gives a tree but leaves tokens, then `Syntax` is their refusal
pub left_over : (tokens : List Token) (at : ℕ) (found : Tree) → is_deep 0 (map spelled tokens) ≡ false
    → at < length tokens
    → constraint_in (readers 64) (symbols_from tokens 0) ≡ Some (found, symbols_from tokens at)
    → AreFaulty (map spelled tokens) Syntax
left_over tokens at found shallow fewer read = (
  shallow,
  λ tree is.
      let same : Some (found, symbols_from tokens at) ≡ Some (tree, []) = sym read ∙ tree_read tokens tree shallow is in
      let pair : (found, symbols_from tokens at) ≡ (tree, []) = (cc) in
      drop_some (symbols tokens) at (omega (arith, length-map tokens (λ token. symbol_of (spelled token))))
      (ap (λ (p : Tree × List Symbol). p.1) pair),
)

-- a list of length 0 is the empty list
pub none_of_none : {A : Type 0} (items : List A) → length items ≡ 0 → items ≡ []
none_of_none [] is = refl
none_of_none (item ∷ items) is = absurd (omega arith)

-- an empty list of tokens is not too deep
pub none_shallow : (tokens : List Token) → tokens ≡ [] → is_deep 0 (map spelled tokens) ≡ false
none_shallow tokens none = ap (λ (found : List Token). is_deep 0 (map spelled found)) none

-- reading the empty list of tokens as a constraint gives nothing
pub nothing_read : (inner : Readers) → constraint_in inner [] ≡ None
unfolding constraint_in sub_in member_in focus_in
nothing_read inner = refl

-- a fault of a text that the lexer finds is a refusal of the text
pub refusal_of_text : (text : List ℕ) (fault : QueryFault) → IsFaultOf text fault → IsRefusalOf text fault
refusal_of_text text Depth is = absurd is
refusal_of_text text Syntax is = absurd is
refusal_of_text text other is = is

-- each list of tokens has at most one tree
pub trees_equal : HaveOneTree
trees_equal tokens one other (form, same, one_is) (form', same', other_is) =
    let first = constraint_complete (constraint_depth form + constraint_depth form') form [] (omega arith) at_end in
    let second = constraint_complete (constraint_depth form + constraint_depth form') form' [] (omega arith) at_end in
    let equal : ◌≡◌ {A = Found Tree} (Some (constraint_tree form, [])) (Some (constraint_tree form', [])) =
    sym first ∙ ap (constraint_in (readers (constraint_depth form + constraint_depth form'))) (sym same ∙ same')
    ∙ second in
    let pair : ◌≡◌ {A = Tree × List Symbol} (constraint_tree form, []) (constraint_tree form', []) = (cc) in
    one_is ∙ ap (λ (p : Tree × List Symbol). p.0) pair ∙ sym other_is

-- a text has at most one tree: two trees with which it is a constraint are equal
pub same_tree : (text : List ℕ) (one other : Tree) → IsConstraint text one → IsConstraint text other → one ≡ other
same_tree text one other first second =
    let same = same_tokens text first.tokens second.tokens first.are_tokens second.are_tokens in
    trees_equal first.tokens one other first.is_tree
    (subst (λ (tokens : List Spelled). IsTreeOf tokens other) (sym same) second.is_tree)

-- a text that is a constraint has no refusal
pub constraint_not_refused : (text : List ℕ) (tree : Tree) (fault : QueryFault) → IsConstraint text tree
    → IsRefusalOf text fault → ⊥
constraint_not_refused text tree Depth is (readable, tokens, are, deep) =
    false≢true (sym is.shallow ∙ ap (is_deep 0) (same_tokens text is.tokens tokens is.are_tokens are) ∙ deep)
constraint_not_refused text tree Syntax is (readable, tokens, are, shallow, none) =
    none tree (subst (λ (ts : List Spelled). IsTreeOf ts tree) (same_tokens text is.tokens tokens is.are_tokens are)
    is.is_tree)
constraint_not_refused text tree other is refused =
    tokens_no_fault text is.tokens other is.readable is.are_tokens refused

-- no text is refused both for depth and for syntax
deep_not_syntax : (text : List ℕ) → IsRefusalOf text Depth → IsRefusalOf text Syntax → ⊥
deep_not_syntax text (readable, tokens, are, deep) (readable', tokens', are', shallow, none) =
    false≢true (sym shallow ∙ ap (is_deep 0) (same_tokens text tokens' tokens are' are) ∙ deep)

-- no text is refused both for depth and by the lexer
deep_not_lexical : (text : List ℕ) (fault : QueryFault) → IsRefusalOf text Depth → IsFaultOf text fault → ⊥
deep_not_lexical text fault (readable, tokens, are, deep) faulty = tokens_no_fault text tokens fault readable are faulty

-- no text is refused both for syntax and by the lexer
syntax_not_lexical : (text : List ℕ) (fault : QueryFault) → IsRefusalOf text Syntax → IsFaultOf text fault → ⊥
syntax_not_lexical text fault (readable, tokens, are, shallow, none) faulty =
    tokens_no_fault text tokens fault readable are faulty

-- a refusal is for depth, for syntax, or by the lexer
data Kinds (text : List ℕ) (fault : QueryFault) : Type 0 where
  is_deep_one : fault ≡ Depth → IsRefusalOf text Depth → Kinds text fault
  is_syntax_one : fault ≡ Syntax → IsRefusalOf text Syntax → Kinds text fault
  is_lexical : IsFaultOf text fault → Kinds text fault

-- every refusal is of one of the three kinds
kind_of_refusal : (text : List ℕ) (fault : QueryFault) → IsRefusalOf text fault → Kinds text fault
kind_of_refusal text Depth is = is_deep_one refl is
kind_of_refusal text Syntax is = is_syntax_one refl is
kind_of_refusal text other is = is_lexical is

-- two refusals of a text, each of one kind, are equal
same_kinds : (text : List ℕ) (one other : QueryFault) → Kinds text one → Kinds text other → one ≡ other
same_kinds text one other (is_deep_one a first) (is_deep_one b second) = a ∙ sym b
same_kinds text one other (is_deep_one a first) (is_syntax_one b second) = absurd (deep_not_syntax text first second)
same_kinds text one other (is_deep_one a first) (is_lexical second) = absurd (deep_not_lexical text other first second)
same_kinds text one other (is_syntax_one a first) (is_deep_one b second) = absurd (deep_not_syntax text second first)
same_kinds text one other (is_syntax_one a first) (is_syntax_one b second) = a ∙ sym b
same_kinds text one other (is_syntax_one a first) (is_lexical second) =
    absurd (syntax_not_lexical text other first second)
same_kinds text one other (is_lexical first) (is_deep_one b second) = absurd (deep_not_lexical text one second first)
same_kinds text one other (is_lexical first) (is_syntax_one b second) =
    absurd (syntax_not_lexical text one second first)
same_kinds text one other (is_lexical first) (is_lexical second) = same_fault text one other first second

-- a text has at most one refusal: two refusals of it are equal
pub same_refusal : (text : List ℕ) (one other : QueryFault) → IsRefusalOf text one → IsRefusalOf text other
    → one ≡ other
same_refusal text one other first second =
    same_kinds text one other (kind_of_refusal text one first) (kind_of_refusal text other second)

-- an answer to `text` is right: the constraint that `text` is, the refusal of `text`, or `Memory`
abbrev pub IsRight : List ℕ → Result Constraint QueryFault → Type 0
IsRight text result = (IfOk result (λ found. IsConstraint text (tree_of found)))
    × (IfErr result (λ fault. (fault ≡ Memory) ⊎ IsRefusalOf text fault))

-- if a text is a constraint with the tree `tree`, each right answer to it is a constraint with this tree, or `Memory`
pub right_whole : (text : List ℕ) (result : Result Constraint QueryFault) → IsRight text result → (tree : Tree)
    → IsConstraint text tree
    → MatchResult result (λ found. tree_of found ≡ tree) (λ fault. fault ≡ Memory)
right_whole text (Ok found) right tree is = same_tree text (tree_of found) tree right.0 is
right_whole text (Err fault) right tree is = elim right.1 [
  | inl memory ↦ memory
  | inr refused ↦ absurd (constraint_not_refused text tree fault is refused)
]

-- if a text has the refusal `fault`, each right answer to it is `fault` or `Memory`
pub right_only : (text : List ℕ) (result : Result Constraint QueryFault) → IsRight text result → (fault : QueryFault)
    → IsRefusalOf text fault
    → (result ≡ Err fault) ⊎ (result ≡ Err Memory)
right_only text (Ok found) right fault is = absurd (constraint_not_refused text (tree_of found) fault right.0 is)
right_only text (Err other) right fault is = elim right.1 [
  | inl memory ↦ inr (ap (λ f. Err f) memory)
  | inr refused ↦ inl (ap (λ f. Err f) (same_refusal text other fault refused is))
]

-- if `tokens` are the tokens of a readable text, and an answer is a tree of `tokens` that are not too deep or a right
-- refusal of `tokens`, then the answer is right for the text
pub right_of_tokens : (text : List ℕ) (tokens : List Spelled) (result : Result Constraint QueryFault) → IsReadable text
    → AreTokensOf text tokens
    → IfOk result (λ _. is_deep 0 tokens ≡ false) → IfOk result (λ found. IsTreeOf tokens (tree_of found))
    → IfErr result (AreFaulty tokens) → IsRight text result
right_of_tokens text tokens (Ok found) readable are shallow tree fault =
    (record { readable = readable; tokens = tokens; are_tokens = are; shallow = shallow; is_tree = tree }, tt)
right_of_tokens text tokens (Err Memory) readable are shallow tree fault = (tt, inl refl)
right_of_tokens text tokens (Err Depth) readable are shallow tree fault = (tt, inr (readable, tokens, are, fault))
right_of_tokens text tokens (Err Syntax) readable are shallow tree fault =
    (tt, inr (readable, tokens, are, fault.0, fault.1))
right_of_tokens text tokens (Err other) readable are shallow tree fault = absurd fault

-- `Memory`, and each fault of a text that the lexer finds, are right answers to the text
pub right_of_fault : (text : List ℕ) (fault : QueryFault) → (fault ≡ Memory) ⊎ IsFaultOf text fault
    → IsRight text (Err fault)
right_of_fault text fault (inl memory) = (tt, inl memory)
right_of_fault text fault (inr faulty) = (tt, inr (refusal_of_text text fault faulty))
