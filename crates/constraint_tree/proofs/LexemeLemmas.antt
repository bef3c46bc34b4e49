-- The symbols and words of a printed text as lexemes, each in front of the lexemes that follow it.
use Rattle.std.proofs.Common.{ℕ, ◌≡◌, ◌==◌, ◌||◌, inl, Bool, true, false, List, [], ◌∷◌, ◌++◌, None, Some, map, refl}
use Rattle.std.proofs.Common.{ap, ◌∙◌, sym, subst, arith}
use Rattle.std.specs.Prelude.{nat_lt}
use Rattle.std.specs.Char.{is_ascii_digit}
use Rattle.std.specs.List.{list_all}
use Rattle.std.specs.Str.{IsAscii, IsUtf8}
use Rattle.std.proofs.lemmas.Bool.{and_parts, ltb-true}
use Rattle.std.proofs.lemmas.Str.{IsUtf8-append, IsUtf8-from_ascii, IsUtf8-nil}
use Rattle.std.proofs.lemmas.Str.Ascii.{IsAscii-cons, IsAscii-nil}
use Rattle.ecl_lexer.specs.Bytes.{begins, begins_with}
use Rattle.ecl_lexer.specs.Lexemes.{Lexeme, space, symbol, word, bytes_of, kind_of, lexeme_text, symbol_kind}
use Rattle.ecl_lexer.specs.Refusals.{IsRead, unsupported}
use Rattle.ecl_lexer.specs.Tokens.{IsCut, Spelled, spelled_tokens, with_spelled}
use Rattle.ecl_lexer.specs.declared.token.TokenKind.{TokenKind}
use Rattle.ecl_lexer.specs.declared.token.TokenKind.TheVariants.{DescendantOf, DescendantOrSelfOf, ChildOf}
use Rattle.ecl_lexer.specs.declared.token.TokenKind.TheVariants.{ChildOrSelfOf, AncestorOf, AncestorOrSelfOf, ParentOf}
use Rattle.ecl_lexer.specs.declared.token.TokenKind.TheVariants.{ParentOrSelfOf, Top as TopOf, Bottom as BottomOf}
use Rattle.ecl_lexer.specs.declared.token.TokenKind.TheVariants.{MemberOf, Wildcard, RoundOpen, RoundClose, BraceOpen}
use Rattle.ecl_lexer.specs.declared.token.TokenKind.TheVariants.{BraceClose, BracketOpen, BracketClose, Colon, Dot}
use Rattle.ecl_lexer.specs.declared.token.TokenKind.TheVariants.{Dots, Equal as EqualSign, NotEqual as NotEqualSign}
use Rattle.ecl_lexer.specs.declared.token.TokenKind.TheVariants.{LessOrEqual as LessOrEqualSign}
use Rattle.ecl_lexer.specs.declared.token.TokenKind.TheVariants.{GreaterOrEqual as GreaterOrEqualSign, And, Or, Minus}
use Rattle.ecl_lexer.specs.declared.token.TokenKind.TheVariants.{Reverse}
use Rattle.ecl_lexer.proofs.ReadLemmas.{lexeme_text-bytes}
use Rattle.constraint_tree.specs.declared.operator.Compare.{Compare}
use Rattle.constraint_tree.specs.declared.operator.Compare.TheVariants.{Equal, NotEqual, Less, LessOrEqual, Greater}
use Rattle.constraint_tree.specs.declared.operator.Compare.TheVariants.{GreaterOrEqual}
use Rattle.constraint_tree.specs.declared.operator.Operator.{Operator}
use Rattle.constraint_tree.specs.declared.operator.Operator.TheVariants.{Descendants, DescendantsOrSelf, Children}
use Rattle.constraint_tree.specs.declared.operator.Operator.TheVariants.{ChildrenOrSelf, Ancestors, AncestorsOrSelf}
use Rattle.constraint_tree.specs.declared.operator.Operator.TheVariants.{Parents, ParentsOrSelf, Top, Bottom}
use Rattle.constraint_tree.specs.Grammar.{Symbol, symbol_of, mark, operator_kind, compare_kind}
use Rattle.constraint_tree.specs.Text.{operator_text, compare_text}
use Rattle.constraint_tree.proofs.SymbolLemmas.{ends_before, other_byte, symbol_read, swapped}

-- the lexer reads `text` as `symbols`: `text` is UTF-8 and is cut into lexemes, whose tokens have these symbols
pub record Reads (text : List ℕ) (symbols : List Symbol) : Type 0 where
  -- the lexemes of the text
  pub lexemes : List Lexeme
  -- the text is cut into exactly `lexemes`
  pub cut : IsCut text lexemes []
  -- the tokens among the lexemes have the symbols `symbols`
  pub spells : map symbol_of (spelled_tokens lexemes) ≡ symbols
  -- the text is UTF-8
  pub utf8 : IsUtf8 text

-- the lexer reads the empty text as no symbols
pub nothing_reads : Reads [] []
nothing_reads = record { lexemes = []; cut = record { whole = refl; each = tt }; spells = refl; utf8 = IsUtf8-nil }

-- if the lexer reads `text` as `symbols`, it reads each text that is equal to `text` so
pub along : {text other : List ℕ} (symbols : List Symbol) → text ≡ other → Reads text symbols → Reads other symbols
along symbols same reads = subst (λ (found : List ℕ). Reads found symbols) same reads

-- if the lexer may read `lexeme` before `rest` and reads `rest` as `symbols`, it reads `lexeme` and `rest` as `front
-- symbols`, where `front` adds the symbol of `lexeme`, if it has one. The bytes of `lexeme` must be UTF-8
pub lexeme_then : (lexeme : Lexeme) (rest : List ℕ) (front : List Symbol → List Symbol) (symbols : List Symbol)
    → ((tokens : List Spelled)
    → map symbol_of (with_spelled (kind_of lexeme) (bytes_of lexeme) tokens) ≡ front (map symbol_of tokens))
    → IsRead lexeme rest → IsUtf8 (bytes_of lexeme) → Reads rest symbols
    → Reads (lexeme_text lexeme rest) (front symbols)
lexeme_then lexeme rest front symbols spelled read utf8 more = record {
  lexemes = lexeme ∷ more.lexemes;
  cut = record {
    whole = ap (lexeme_text lexeme) more.cut.whole;
    each = (subst (λ (text : List ℕ). IsRead lexeme text) more.cut.whole read, more.cut.each);
  };
  spells = spelled (spelled_tokens more.lexemes) ∙ ap front more.spells;
  utf8 = subst IsUtf8 (sym (lexeme_text-bytes lexeme rest)) (IsUtf8-append (bytes_of lexeme) rest utf8 more.utf8);
}

-- bytes below 128 are ASCII
ascii_from : (bytes : List ℕ) → list_all (λ byte. nat_lt byte 128) bytes ≡ true → IsAscii bytes
ascii_from [] each = IsAscii-nil
ascii_from (byte ∷ bytes) each =
    let parts = and_parts (nat_lt byte 128) (list_all (λ other. nat_lt other 128) bytes) each in
    IsAscii-cons byte bytes (ltb-true byte 128 parts.0) (ascii_from bytes parts.1)

-- bytes that are all below 128 are UTF-8
pub low_bytes : (bytes : List ℕ) → list_all (λ byte. nat_lt byte 128) bytes ≡ true → IsUtf8 bytes
low_bytes bytes each = IsUtf8-from_ascii bytes (ascii_from bytes each)

-- a symbol in front of a text whose first byte ends it is read
mark_then : (bytes : List ℕ) (kind : TokenKind) (rest : List ℕ) (symbols : List Symbol)
    → ((tokens : List Spelled)
    → map symbol_of (with_spelled (Some kind) (bytes ++ []) tokens) ≡ mark kind ∷ map symbol_of tokens)
    → symbol_kind bytes ≡ Some kind
    → ((byte : ℕ) (following : List ℕ) → rest ≡ byte ∷ following → ends_before bytes byte ≡ true)
    → unsupported (bytes ++ rest) ≡ None → list_all (λ byte. nat_lt byte 128) (bytes ++ []) ≡ true
    → Reads rest symbols → Reads (bytes ++ rest) (mark kind ∷ symbols)
mark_then bytes kind rest symbols spelled known ends supported low more =
    lexeme_then (symbol bytes kind) rest (λ found. mark kind ∷ found) symbols spelled
    (symbol_read bytes kind rest known ends supported) (low_bytes (bytes ++ []) low) more

-- if the lexer reads `rest` as `symbols`, it reads `(` and `rest` as the symbol of `(` and `symbols`
pub round_open : (rest : List ℕ) (symbols : List Symbol) → Reads rest symbols
    → Reads (40 ∷ rest) (mark RoundOpen ∷ symbols)
round_open rest symbols more =
    mark_then (40 ∷ []) RoundOpen rest symbols (λ tokens. refl) refl (λ byte following is. refl) refl refl more

-- if the lexer reads `rest` as `symbols`, it reads `)` and `rest` as the symbol of `)` and `symbols`
pub round_close : (rest : List ℕ) (symbols : List Symbol) → Reads rest symbols
    → Reads (41 ∷ rest) (mark RoundClose ∷ symbols)
round_close rest symbols more =
    mark_then (41 ∷ []) RoundClose rest symbols (λ tokens. refl) refl (λ byte following is. refl) refl refl more

-- if the lexer reads `rest` as `symbols`, it reads `}` and `rest` as the symbol of `}` and `symbols`
pub brace_close : (rest : List ℕ) (symbols : List Symbol) → Reads rest symbols
    → Reads (125 ∷ rest) (mark BraceClose ∷ symbols)
brace_close rest symbols more =
    mark_then (125 ∷ []) BraceClose rest symbols (λ tokens. refl) refl (λ byte following is. refl) refl refl more

-- if the lexer reads `rest` as `symbols`, it reads `[` and `rest` as the symbol of `[` and `symbols`
pub bracket_open : (rest : List ℕ) (symbols : List Symbol) → Reads rest symbols
    → Reads (91 ∷ rest) (mark BracketOpen ∷ symbols)
bracket_open rest symbols more =
    mark_then (91 ∷ []) BracketOpen rest symbols (λ tokens. refl) refl (λ byte following is. refl) refl refl more

-- if the lexer reads `rest` as `symbols`, it reads `]` and `rest` as the symbol of `]` and `symbols`
pub bracket_close : (rest : List ℕ) (symbols : List Symbol) → Reads rest symbols
    → Reads (93 ∷ rest) (mark BracketClose ∷ symbols)
bracket_close rest symbols more =
    mark_then (93 ∷ []) BracketClose rest symbols (λ tokens. refl) refl (λ byte following is. refl) refl refl more

-- if the lexer reads `rest` as `symbols`, it reads `*` and `rest` as the symbol of `*` and `symbols`
pub wildcard : (rest : List ℕ) (symbols : List Symbol) → Reads rest symbols
    → Reads (42 ∷ rest) (mark Wildcard ∷ symbols)
wildcard rest symbols more =
    mark_then (42 ∷ []) Wildcard rest symbols (λ tokens. refl) refl (λ byte following is. refl) refl refl more

-- if the lexer reads `rest` as `symbols`, it reads `:` and `rest` as the symbol of `:` and `symbols`
pub colon : (rest : List ℕ) (symbols : List Symbol) → Reads rest symbols → Reads (58 ∷ rest) (mark Colon ∷ symbols)
colon rest symbols more =
    mark_then (58 ∷ []) Colon rest symbols (λ tokens. refl) refl (λ byte following is. refl) refl refl more

-- if the lexer reads `rest` as `symbols`, it reads `,` and `rest` as the symbol of AND and `symbols`
pub comma : (rest : List ℕ) (symbols : List Symbol) → Reads rest symbols → Reads (44 ∷ rest) (mark And ∷ symbols)
comma rest symbols more =
    mark_then (44 ∷ []) And rest symbols (λ tokens. refl) refl (λ byte following is. refl) refl refl more

-- if the lexer reads `rest` as `symbols`, it reads `..` and `rest` as the symbol of `..` and `symbols`
pub dots : (rest : List ℕ) (symbols : List Symbol) → Reads rest symbols → Reads (46 ∷ 46 ∷ rest) (mark Dots ∷ symbols)
dots rest symbols more =
    mark_then (46 ∷ 46 ∷ []) Dots rest symbols (λ tokens. refl) refl (λ byte following is. refl) refl refl more

-- if the lexer reads `rest` as `symbols`, it reads `=` and `rest` as the symbol of `=` and `symbols`
pub equal_sign : (rest : List ℕ) (symbols : List Symbol) → Reads rest symbols
    → Reads (61 ∷ rest) (mark EqualSign ∷ symbols)
equal_sign rest symbols more =
    mark_then (61 ∷ []) EqualSign rest symbols (λ tokens. refl) refl (λ byte following is. refl) refl refl more

-- if the lexer reads `rest` as `symbols`, it reads `!=` and `rest` as the symbol of `!=` and `symbols`
pub not_equal_sign : (rest : List ℕ) (symbols : List Symbol) → Reads rest symbols
    → Reads (33 ∷ 61 ∷ rest) (mark NotEqualSign ∷ symbols)
not_equal_sign rest symbols more =
    mark_then (33 ∷ 61 ∷ []) NotEqualSign rest symbols (λ tokens. refl) refl (λ byte following is. refl) refl refl more

-- whether a byte may begin a focus: a digit, `*` or `(`
abbrev pub focus_byte : ℕ → Bool
focus_byte byte = is_ascii_digit byte || byte == 42 || byte == 40

-- whether a byte may follow a hierarchy operator: a byte that may begin a focus, or `^`
abbrev pub member_byte : ℕ → Bool
member_byte byte = focus_byte byte || byte == 94

-- whether a byte may begin an operand: a byte that may follow a hierarchy operator, or `<`, `>` or `!`
abbrev pub operand_byte : ℕ → Bool
operand_byte byte = member_byte byte || byte == 60 || byte == 62 || byte == 33

-- the first byte of a text that begins with a passing byte passes
first_passes : (test : ℕ → Bool) (text : List ℕ) (byte : ℕ) (following : List ℕ) → begins test text ≡ true
    → text ≡ byte ∷ following → test byte ≡ true
first_passes test text byte following starts is = sym (ap (λ (found : List ℕ). begins test found) is) ∙ starts

-- `<` ends in front of a byte that may follow an operator
ends_descendant : (byte : ℕ) → member_byte byte ≡ true → ends_before (60 ∷ []) byte ≡ true
ends_descendant byte is =
    let no_more = other_byte member_byte byte 60 is refl in
    let no_mark = other_byte member_byte byte 33 is refl in
    let no_equal = other_byte member_byte byte 61 is refl in
    rw (no_more, no_mark, no_equal) refl

-- `<<` ends in front of a byte that may follow an operator
ends_descendant_or_self : (byte : ℕ) → member_byte byte ≡ true → ends_before (60 ∷ 60 ∷ []) byte ≡ true
ends_descendant_or_self byte is = let no_mark = other_byte member_byte byte 33 is refl in rw no_mark refl

-- `>` ends in front of a byte that may follow an operator
ends_ancestor : (byte : ℕ) → member_byte byte ≡ true → ends_before (62 ∷ []) byte ≡ true
ends_ancestor byte is =
    let no_more = other_byte member_byte byte 62 is refl in
    let no_mark = other_byte member_byte byte 33 is refl in
    let no_equal = other_byte member_byte byte 61 is refl in
    rw (no_more, no_mark, no_equal) refl

-- `>>` ends in front of a byte that may follow an operator
ends_ancestor_or_self : (byte : ℕ) → member_byte byte ≡ true → ends_before (62 ∷ 62 ∷ []) byte ≡ true
ends_ancestor_or_self byte is = let no_mark = other_byte member_byte byte 33 is refl in rw no_mark refl

-- if `rest` begins with a byte that may follow a hierarchy operator, and the lexer reads `rest` as `symbols`, it
-- reads the operator and `rest` as the operator's symbol and `symbols`
pub operator_reads : (operator : Operator) (rest : List ℕ) (symbols : List Symbol) → begins member_byte rest ≡ true
    → Reads rest symbols → Reads (operator_text operator ++ rest) (mark (operator_kind operator) ∷ symbols)
operator_reads Descendants rest symbols starts more =
    mark_then (60 ∷ []) DescendantOf rest symbols (λ tokens. refl) refl
    (λ byte following is. ends_descendant byte (first_passes member_byte rest byte following starts is)) refl refl more
operator_reads DescendantsOrSelf rest symbols starts more =
    mark_then (60 ∷ 60 ∷ []) DescendantOrSelfOf rest symbols (λ tokens. refl) refl
    (λ byte following is. ends_descendant_or_self byte (first_passes member_byte rest byte following starts is)) refl
    refl more
operator_reads Children rest symbols starts more =
    mark_then (60 ∷ 33 ∷ []) ChildOf rest symbols (λ tokens. refl) refl (λ byte following is. refl) refl refl more
operator_reads ChildrenOrSelf rest symbols starts more =
    mark_then (60 ∷ 60 ∷ 33 ∷ []) ChildOrSelfOf rest symbols (λ tokens. refl) refl (λ byte following is. refl) refl refl
    more
operator_reads Ancestors rest symbols starts more =
    mark_then (62 ∷ []) AncestorOf rest symbols (λ tokens. refl) refl
    (λ byte following is. ends_ancestor byte (first_passes member_byte rest byte following starts is)) refl refl more
operator_reads AncestorsOrSelf rest symbols starts more =
    mark_then (62 ∷ 62 ∷ []) AncestorOrSelfOf rest symbols (λ tokens. refl) refl
    (λ byte following is. ends_ancestor_or_self byte (first_passes member_byte rest byte following starts is)) refl refl
    more
operator_reads Parents rest symbols starts more =
    mark_then (62 ∷ 33 ∷ []) ParentOf rest symbols (λ tokens. refl) refl (λ byte following is. refl) refl refl more
operator_reads ParentsOrSelf rest symbols starts more =
    mark_then (62 ∷ 62 ∷ 33 ∷ []) ParentOrSelfOf rest symbols (λ tokens. refl) refl (λ byte following is. refl) refl
    refl more
operator_reads Top rest symbols starts more =
    mark_then (33 ∷ 33 ∷ 62 ∷ []) TopOf rest symbols (λ tokens. refl) refl (λ byte following is. refl) refl refl more
operator_reads Bottom rest symbols starts more =
    mark_then (33 ∷ 33 ∷ 60 ∷ []) BottomOf rest symbols (λ tokens. refl) refl (λ byte following is. refl) refl refl more

-- the first byte of a text that begins with `#` is `#`
hash_is : (rest : List ℕ) (byte : ℕ) (following : List ℕ) → 35 ∷ rest ≡ byte ∷ following → byte ≡ 35
hash_is rest byte following is = cc

-- a symbol that ends in front of `#` ends in front of every text that begins with `#`
ends_at_hash : (bytes : List ℕ) → ends_before bytes 35 ≡ true → (rest : List ℕ) (byte : ℕ) (following : List ℕ)
    → 35 ∷ rest ≡ byte ∷ following → ends_before bytes byte ≡ true
ends_at_hash bytes ends rest byte following is = ap (ends_before bytes) (hash_is rest byte following is) ∙ ends

-- if the lexer reads `#` and `rest` as `symbols`, it reads a comparison in front of `#` and `rest` as the
-- comparison's symbol and `symbols`
pub compare_reads : (compare : Compare) (rest : List ℕ) (symbols : List Symbol) → Reads (35 ∷ rest) symbols
    → Reads (compare_text compare ++ 35 ∷ rest) (mark (compare_kind compare) ∷ symbols)
compare_reads Equal rest symbols more = equal_sign (35 ∷ rest) symbols more
compare_reads NotEqual rest symbols more = not_equal_sign (35 ∷ rest) symbols more
compare_reads Less rest symbols more =
    mark_then (60 ∷ []) DescendantOf (35 ∷ rest) symbols (λ tokens. refl) refl (ends_at_hash (60 ∷ []) refl rest) refl
    refl more
compare_reads LessOrEqual rest symbols more =
    mark_then (60 ∷ 61 ∷ []) LessOrEqualSign (35 ∷ rest) symbols (λ tokens. refl) refl (λ byte following is. refl) refl
    refl more
compare_reads Greater rest symbols more =
    mark_then (62 ∷ []) AncestorOf (35 ∷ rest) symbols (λ tokens. refl) refl (ends_at_hash (62 ∷ []) refl rest) refl
    refl more
compare_reads GreaterOrEqual rest symbols more =
    mark_then (62 ∷ 61 ∷ []) GreaterOrEqualSign (35 ∷ rest) symbols (λ tokens. refl) refl (λ byte following is. refl)
    refl refl more

-- `^` in front of a text that begins with a focus has no fields
no_fields : (rest : List ℕ) → begins focus_byte rest ≡ true → unsupported (94 ∷ rest) ≡ None
no_fields [] starts = absurd (cc)
no_fields (byte ∷ rest) starts =
    let no_space = other_byte focus_byte byte 32 starts refl in
    let no_tab = other_byte focus_byte byte 9 starts refl in
    let no_return = other_byte focus_byte byte 13 starts refl in
    let no_feed = other_byte focus_byte byte 10 starts refl in
    let no_bracket = other_byte focus_byte byte 91 starts refl in
    rw (no_space, no_tab, no_return, no_feed, no_bracket) refl

-- if `rest` begins with a byte that may begin a focus, and the lexer reads `rest` as `symbols`, it reads `^` and
-- `rest` as the symbol of `^` and `symbols`
pub caret : (rest : List ℕ) (symbols : List Symbol) → begins focus_byte rest ≡ true → Reads rest symbols
    → Reads (94 ∷ rest) (mark MemberOf ∷ symbols)
caret rest symbols starts more =
    mark_then (94 ∷ []) MemberOf rest symbols (λ tokens. refl) refl (λ byte following is. refl) (no_fields rest starts)
    refl more

-- `{` in front of a text that does not begin with `{` begins no filter
no_filter : (rest : List ℕ) → begins_with 123 rest ≡ false → unsupported (123 ∷ rest) ≡ None
no_filter [] starts = refl
no_filter (byte ∷ rest) starts = let apart = swapped byte 123 starts in rw apart refl

-- if `rest` does not begin with `{`, and the lexer reads `rest` as `symbols`, it reads `{` and `rest` as the symbol
-- of `{` and `symbols`
pub brace_open : (rest : List ℕ) (symbols : List Symbol) → begins_with 123 rest ≡ false → Reads rest symbols
    → Reads (123 ∷ rest) (mark BraceOpen ∷ symbols)
brace_open rest symbols starts more =
    mark_then (123 ∷ []) BraceOpen rest symbols (λ tokens. refl) refl (λ byte following is. refl)
    (no_filter rest starts) refl more

-- `.` ends in front of a byte that may begin an operand
ends_dot : (byte : ℕ) → operand_byte byte ≡ true → ends_before (46 ∷ []) byte ≡ true
ends_dot byte is = let no_dot = other_byte operand_byte byte 46 is refl in rw no_dot refl

-- if `rest` begins with a byte that may begin an operand, and the lexer reads `rest` as `symbols`, it reads `.` and
-- `rest` as the symbol of `.` and `symbols`
pub dot : (rest : List ℕ) (symbols : List Symbol) → begins operand_byte rest ≡ true → Reads rest symbols
    → Reads (46 ∷ rest) (mark Dot ∷ symbols)
dot rest symbols starts more =
    mark_then (46 ∷ []) Dot rest symbols (λ tokens. refl) refl
    (λ byte following is. ends_dot byte (first_passes operand_byte rest byte following starts is)) refl refl more

-- a blank in front of a text that is read is skipped
space_then : (rest : List ℕ) (symbols : List Symbol) → Reads rest symbols → Reads (32 ∷ rest) symbols
space_then rest symbols more =
    lexeme_then (space 32) rest (λ found. found) symbols (λ tokens. refl)
    (record { stands = refl; supported = refl; within = refl }) (low_bytes (32 ∷ []) refl) more

-- if the lexer reads `rest` as `symbols`, it reads ` OR ` and `rest` as the symbol of OR and `symbols`
pub or_word : (rest : List ℕ) (symbols : List Symbol) → Reads rest symbols
    → Reads (32 ∷ 79 ∷ 82 ∷ 32 ∷ rest) (mark Or ∷ symbols)
or_word rest symbols more =
    space_then (79 ∷ 82 ∷ 32 ∷ rest) (mark Or ∷ symbols)
    (lexeme_then (word (79 ∷ 82 ∷ []) Or) (32 ∷ rest) (λ found. mark Or ∷ found) symbols (λ tokens. refl)
    (record {
      stands = (record { some = omega arith; each = refl; ended = refl }, refl, inl refl);
      supported = refl;
      within = refl;
    }) (low_bytes (79 ∷ 82 ∷ []) refl)
    (space_then rest symbols more))

-- if the lexer reads `rest` as `symbols`, it reads ` MINUS ` and `rest` as the symbol of MINUS and `symbols`
pub minus_word : (rest : List ℕ) (symbols : List Symbol) → Reads rest symbols
    → Reads (32 ∷ 77 ∷ 73 ∷ 78 ∷ 85 ∷ 83 ∷ 32 ∷ rest) (mark Minus ∷ symbols)
minus_word rest symbols more =
    let letters : List ℕ = 77 ∷ 73 ∷ 78 ∷ 85 ∷ 83 ∷ [] in
    space_then (77 ∷ 73 ∷ 78 ∷ 85 ∷ 83 ∷ 32 ∷ rest) (mark Minus ∷ symbols)
    (lexeme_then (word letters Minus) (32 ∷ rest) (λ found. mark Minus ∷ found) symbols (λ tokens. refl)
    (record {
      stands = (record { some = omega arith; each = refl; ended = refl }, refl, inl refl);
      supported = refl;
      within = refl;
    }) (low_bytes letters refl)
    (space_then rest symbols more))

-- if the lexer reads `rest` as `symbols`, it reads `R ` and `rest` as the symbol of `R` and `symbols`
pub reverse_word : (rest : List ℕ) (symbols : List Symbol) → Reads rest symbols
    → Reads (82 ∷ 32 ∷ rest) (mark Reverse ∷ symbols)
reverse_word rest symbols more =
    lexeme_then (word (82 ∷ []) Reverse) (32 ∷ rest) (λ found. mark Reverse ∷ found) symbols (λ tokens. refl)
    (record {
      stands = (record { some = omega arith; each = refl; ended = refl }, refl, tt);
      supported = refl;
      within = refl;
    }) (low_bytes (82 ∷ []) refl)
    (space_then rest symbols more)
