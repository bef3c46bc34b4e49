-- The longest symbol that begins a text.
use Rattle.std.proofs.Common.{ℕ, ◌≡◌, ◌+◌, ◌<◌, ◌≤◌, ◌++◌, ◌==◌, ◌&&◌, ◌∙◌, ◌⊎◌, inl, inr, List, [], ◌∷◌, Bool, true}
use Rattle.std.proofs.Common.{length, take, drop, get_or, Option, None, Some, refl, sym, ap, subst, arith}
use Rattle.std.specs.Prelude.{option_map, not, nat_le, IsSome}
use Rattle.std.specs.Char.{is_ascii_alphabetic, is_ascii_digit}
use Rattle.std.specs.List.{list_all}
use Rattle.std.specs.Str.{bytes_eq}
use Rattle.std.proofs.lemmas.Bool.{false≢true, cases_Bool, and_parts, eqb-true, eqb-false, leb-true, le-leb, lt-leb}
use Rattle.std.proofs.lemmas.Bool.{not-true}
use Rattle.std.proofs.lemmas.Option.{none-some}
use Rattle.std.proofs.lemmas.List.{length-append, length-take-le, take-append-drop, take_at}
use Rattle.ecl_lexer.specs.declared.token.TokenKind.{TokenKind}
use Rattle.ecl_lexer.specs.Bytes.{is_space, begins}
use Rattle.ecl_lexer.specs.Lexemes.{Lexeme, symbol, kind_in, symbols, symbol_kind}
use Rattle.ecl_lexer.specs.Reading.{found, lexeme_at, lexeme_by, sized_kind, sized_symbol, symbol_at, symbol_or}

-- if `bytes_eq` is true for two lists of bytes, they are equal
pub bytes_eq-true : (xs ys : List ℕ) → bytes_eq xs ys ≡ true → xs ≡ ys
bytes_eq-true [] [] same = refl
bytes_eq-true [] (y ∷ ys) same = absurd cc
bytes_eq-true (x ∷ xs) [] same = absurd cc
bytes_eq-true (x ∷ xs) (y ∷ ys) same =
    let parts = and_parts (x == y) (bytes_eq xs ys) same in
    let first = eqb-true x y parts.0 in
    let more = bytes_eq-true xs ys parts.1 in
    cc

-- bytes that have a kind in a table pass each test that all bytes of the table pass
kind_in-passes : (test : List ℕ → Bool) (entries : List (List ℕ × TokenKind)) (bytes : List ℕ) (kind : TokenKind)
    → list_all (λ (entry : List ℕ × TokenKind). test entry.0) entries ≡ true → kind_in entries bytes ≡ Some kind
    → test bytes ≡ true
kind_in-passes test [] bytes kind each is = absurd cc
kind_in-passes test (entry ∷ entries) bytes kind each is =
    let parts = and_parts (test entry.0) (list_all (λ (entry : List ℕ × TokenKind). test entry.0) entries) each in
    elim (cases_Bool (bytes_eq entry.0 bytes)) [
      | inl same ↦ subst (λ (bytes : List ℕ). test bytes ≡ true) (bytes_eq-true entry.0 bytes same) parts.0
      | inr other ↦ kind_in-passes test entries bytes kind parts.1 (rw other at is)
    ]

-- whether no lexeme but a symbol can begin with a byte
abbrev opens_symbol : ℕ → Bool
opens_symbol byte =
    not (is_ascii_digit byte)
    && (not (is_ascii_alphabetic byte) && (not (byte == 35)
    && (not (byte == 124) && (not (byte == 47) && not (is_space byte)))))

-- whether bytes begin with a byte that only a symbol can begin with, and are at most three
abbrev is_symbol_like : List ℕ → Bool
is_symbol_like bytes = begins opens_symbol bytes && nat_le (length bytes) 3

symbol_like : (bytes : List ℕ) (kind : TokenKind) → symbol_kind bytes ≡ Some kind → is_symbol_like bytes ≡ true
symbol_like bytes kind is = kind_in-passes is_symbol_like symbols bytes kind refl is

-- a symbol has at most three bytes
pub symbol_few : (bytes : List ℕ) (kind : TokenKind) → symbol_kind bytes ≡ Some kind → length bytes ≤ 3
symbol_few bytes kind is =
    leb-true (length bytes) 3 (and_parts (begins opens_symbol bytes) _ (symbol_like bytes kind is)).1

-- a symbol has at least one byte
pub symbol_some : (bytes : List ℕ) (kind : TokenKind) → symbol_kind bytes ≡ Some kind → 0 < length bytes
symbol_some [] kind is = absurd (none-some kind is)
symbol_some (byte ∷ more) kind _ = omega arith

-- `lexeme_by` looks for a symbol at a byte that only a symbol can begin with
lexeme_by-symbol : (first : ℕ) (following : List ℕ) → opens_symbol first ≡ true
    → lexeme_by first following ≡ symbol_at (first ∷ following)
lexeme_by-symbol first following opens =
    let digit = and_parts (not (is_ascii_digit first)) _ opens in
    let letter = and_parts (not (is_ascii_alphabetic first)) _ digit.1 in
    let hash = and_parts (not (first == 35)) _ letter.1 in
    let bar = and_parts (not (first == 124)) _ hash.1 in
    let slash = and_parts (not (first == 47)) _ bar.1 in
    let no_digit = not-true (is_ascii_digit first) digit.0 in
    let no_letter = not-true (is_ascii_alphabetic first) letter.0 in
    let no_hash = not-true (first == 35) hash.0 in
    let no_bar = not-true (first == 124) bar.0 in
    let no_slash = not-true (first == 47) slash.0 in
    let no_space = not-true (is_space first) slash.1 in
    rw (no_digit, no_letter, no_hash, no_bar, no_slash, no_space) refl

-- if a text begins with a symbol, `lexeme_at` returns what `symbol_at` returns
pub lexeme_at-symbol : (bytes rest : List ℕ) (kind : TokenKind) → symbol_kind bytes ≡ Some kind
    → lexeme_at (bytes ++ rest) ≡ symbol_at (bytes ++ rest)
lexeme_at-symbol bytes rest kind is =
    by_first bytes (and_parts (begins opens_symbol bytes) _ (symbol_like bytes kind is)).0
  where
    by_first : (bytes : List ℕ) → begins opens_symbol bytes ≡ true
        → lexeme_at (bytes ++ rest) ≡ symbol_at (bytes ++ rest)
    by_first [] opens = absurd (false≢true opens)
    by_first (first ∷ more) opens = lexeme_by-symbol first (more ++ rest) opens

-- no symbol that begins the text `bytes ++ rest` is longer than `bytes`
abbrev pub IsLongest : List ℕ → List ℕ → Type 0
IsLongest bytes rest = (other more : List ℕ) → IsSome (symbol_kind other) → bytes ++ rest ≡ other ++ more
    → length other ≤ length bytes

sized_kind-cases : (size : ℕ) (text : List ℕ)
    → (sized_kind size text ≡ None)
    ⊎ ((kind : TokenKind) × (size ≤ length text) × (symbol_kind (take size text) ≡ Some kind)
    × (sized_kind size text ≡ Some kind))
sized_kind-cases size text = elim (cases_Bool (nat_le size (length text))) [
  | inr short ↦ inl (rw short refl)
  | inl fits ↦ by_kind fits (symbol_kind (take size text)) refl
] where
  by_kind : nat_le size (length text) ≡ true → (o : Option TokenKind) → symbol_kind (take size text) ≡ o
      → (sized_kind size text ≡ None)
      ⊎ ((kind : TokenKind) × (size ≤ length text) × (symbol_kind (take size text) ≡ Some kind)
      × (sized_kind size text ≡ Some kind))
  by_kind fits None is = inl (rw fits is)
  by_kind fits (Some kind) is = inr (kind, leb-true size (length text) fits, is, rw fits is)

-- `sized_symbol` finds no symbol of `size` bytes if `size` is more than the longest symbol there has
sized_symbol-longer : (size : ℕ) (bytes rest : List ℕ) (other : Option Lexeme) → IsLongest bytes rest
    → length bytes < size
    → sized_symbol size (bytes ++ rest) other ≡ other
sized_symbol-longer size bytes rest other longest more = elim (sized_kind-cases size (bytes ++ rest)) [
  | inl none ↦ ap (λ (o : Option TokenKind). symbol_or size (bytes ++ rest) o other) none
  | inr (kind, fits, is, found) ↦
      let some : IsSome (symbol_kind (take size (bytes ++ rest))) = rw is refl in
      let few = longest (take size (bytes ++ rest)) (drop size (bytes ++ rest)) some
      (sym (take-append-drop size (bytes ++ rest))) in
      absurd (omega (arith, few, length-take-le size (bytes ++ rest) fits))
]

-- `sized_symbol` finds a symbol of `size` bytes that begins a text
sized_symbol-here : (size : ℕ) (bytes rest : List ℕ) (kind : TokenKind) (other : Option Lexeme)
    → symbol_kind bytes ≡ Some kind → length bytes ≡ size
    → sized_symbol size (bytes ++ rest) other ≡ Some (symbol bytes kind)
sized_symbol-here size bytes rest kind other is sized =
    let front : take size (bytes ++ rest) ≡ bytes =
    take_at bytes rest size sized in
    let fits : nat_le size (length (bytes ++ rest)) ≡ true =
    le-leb size (length (bytes ++ rest)) (omega (arith, length-append bytes rest)) in
    let found : sized_kind size (bytes ++ rest) ≡ Some kind = rw fits (ap symbol_kind front ∙ is) in
    ap (λ (o : Option TokenKind). symbol_or size (bytes ++ rest) o other) found
    ∙ ap (λ (front : List ℕ). Some (symbol front kind)) front

-- if the text of `bytes` and `rest` begins with the symbol `bytes` and with no longer symbol, `symbol_at` returns
-- this symbol
pub symbol_at-read : (bytes rest : List ℕ) (kind : TokenKind) → symbol_kind bytes ≡ Some kind → IsLongest bytes rest
    → symbol_at (bytes ++ rest) ≡ Some (symbol bytes kind)
symbol_at-read bytes rest kind is longest =
    let text : List ℕ = bytes ++ rest in
    let two : Option Lexeme = sized_symbol 2 text (sized_symbol 1 text None) in
    elim (cases_Bool (length bytes == 3)) [
      | inl three ↦ sized_symbol-here 3 bytes rest kind two is (eqb-true (length bytes) 3 three)
      | inr less ↦
          let few = symbol_few bytes kind is in
          let not_three = eqb-false (length bytes) 3 less in
          sized_symbol-longer 3 bytes rest two longest (omega (arith, not_three, few))
          ∙ elim (cases_Bool (length bytes == 2)) [
            | inl pair ↦ sized_symbol-here 2 bytes rest kind (sized_symbol 1 text None) is
                (eqb-true (length bytes) 2 pair)
            | inr other ↦
                let not_two = eqb-false (length bytes) 2 other in
                sized_symbol-longer 2 bytes rest (sized_symbol 1 text None) longest
                (omega (arith, not_two, not_three, few))
                ∙ sized_symbol-here 1 bytes rest kind None is
                (omega (arith, not_two, not_three, few, symbol_some bytes kind is))
          ]
    ]

-- `lexeme` is the longest symbol that begins `text`
pub record IsSymbol (text : List ℕ) (lexeme : Lexeme) : Type 0 where
  -- the bytes of the symbol
  pub bytes : List ℕ
  -- the text after the symbol
  pub rest : List ℕ
  -- the kind of the symbol
  pub kind : TokenKind
  -- `text` is the bytes of the symbol, followed by `rest`
  pub is : text ≡ bytes ++ rest
  -- the bytes are a symbol of that kind
  pub known : symbol_kind bytes ≡ Some kind
  -- no symbol that begins the text is longer
  pub longest : IsLongest bytes rest
  -- `lexeme` is the symbol of `bytes` and `kind`
  pub same : symbol bytes kind ≡ lexeme

-- no symbol of `size` bytes begins a text
abbrev NoSymbol : ℕ → List ℕ → Type 0
NoSymbol size text = (other more : List ℕ) → IsSome (symbol_kind other) → text ≡ other ++ more → length other ≡ size → ⊥

sized_none : (size : ℕ) (text : List ℕ) → sized_kind size text ≡ None → NoSymbol size text
sized_none size text none other more some is sized =
    let front : take size text ≡ other =
    ap (take size) is ∙ take_at other more size sized in
    let fits : nat_le size (length text) ≡ true =
    le-leb size (length text) (omega (arith, ap length is, length-append other more)) in
    let nothing : symbol_kind (take size text) ≡ None = rw fits at none in
    let nothing_of_other : symbol_kind other ≡ None = ap symbol_kind (sym front) ∙ nothing in
    false≢true (subst (λ (o : Option TokenKind). IsSome o) nothing_of_other some)

-- the symbol of the first `size` bytes of a text is the longest, if no symbol that begins the text has more
symbol_of : (size : ℕ) (text : List ℕ) (kind : TokenKind) (lexeme : Lexeme) → size ≤ length text
    → symbol_kind (take size text) ≡ Some kind
    → ((other more : List ℕ) → IsSome (symbol_kind other) → text ≡ other ++ more → length other ≤ size)
    → symbol (take size text) kind ≡ lexeme → IsSymbol text lexeme
symbol_of size text kind lexeme fits known longest same =
    let whole : text ≡ take size text ++ drop size text = sym (take-append-drop size text) in
    let sized = length-take-le size text fits in
    record {
      bytes = take size text;
      rest = drop size text;
      kind = kind;
      is = whole;
      known = known;
      longest = λ (other more : List ℕ) (some : IsSome (symbol_kind other)) (is : take size text ++ drop size text
          ≡ other ++ more).
          let few = longest other more some (whole ∙ is) in omega (arith, few, sized);
      same = same;
    }

few_bytes : (other : List ℕ) → IsSome (symbol_kind other) → length other ≤ 3
few_bytes other some = by_kind (symbol_kind other) refl some
  where
    by_kind : (o : Option TokenKind) → symbol_kind other ≡ o → IsSome o → length other ≤ 3
    by_kind None _ some = absurd (false≢true some)
    by_kind (Some kind) is some = symbol_few other kind is

-- if `symbol_at` returns `lexeme` for `text`, it is the longest symbol that begins `text`
pub symbol_at-found : (text : List ℕ) (lexeme : Lexeme) → symbol_at text ≡ Some lexeme → IsSymbol text lexeme
symbol_at-found text lexeme found = elim (sized_kind-cases 3 text) [
  | inr (kind, fits, known, is) ↦
      let same : Some (symbol (take 3 text) kind) ≡ Some lexeme = rw is at found in
      symbol_of 3 text kind lexeme fits known
      (λ (other more : List ℕ) (some : IsSome (symbol_kind other)) (is : text ≡ other ++ more). few_bytes other
      some) cc
  | inl no_three ↦
      let rest : sized_symbol 2 text (sized_symbol 1 text None) ≡ Some lexeme = rw no_three at found in
      elim (sized_kind-cases 2 text) [
        | inr (kind, fits, known, is) ↦
            let same : Some (symbol (take 2 text) kind) ≡ Some lexeme = rw is at rest in
            symbol_of 2 text kind lexeme fits known
            (λ (other more : List ℕ) (some : IsSome (symbol_kind other)) (is : text ≡ other ++ more).
            below 2 (length other) (few_bytes other some) (sized_none 3 text no_three other more some is)) cc
        | inl no_two ↦
            let last : sized_symbol 1 text None ≡ Some lexeme = rw no_two at rest in
            elim (sized_kind-cases 1 text) [
              | inr (kind, fits, known, is) ↦
                  let same : Some (symbol (take 1 text) kind) ≡ Some lexeme = rw is at last in
                  symbol_of 1 text kind lexeme fits known
                  (λ (other more : List ℕ) (some : IsSome (symbol_kind other)) (is : text ≡ other ++ more).
                  below 1 (length other) (below 2 (length other) (few_bytes other some)
                  (sized_none 3 text no_three other more some is)) (sized_none 2 text no_two other more some is)) cc
              | inl no_one ↦ let nothing : None ≡ Some lexeme = rw no_one at last in absurd cc
            ]
      ]
] where
  below : (n m : ℕ) → m ≤ n + 1 → (m ≡ n + 1 → ⊥) → m ≤ n
  below n m most not = omega (arith, not)

-- if `text` has at least `size` bytes, `sized_kind` returns the kind of the symbol that the first `size` bytes spell
pub sized_kind-fits : (size : ℕ) (text bytes : List ℕ) → size ≤ length text → bytes ≡ take size text
    → sized_kind size text ≡ symbol_kind bytes
sized_kind-fits size text bytes fits is = rw (le-leb size (length text) fits) (ap symbol_kind (sym is))

-- if `text` has fewer than `size` bytes, `sized_kind` returns `None`
pub sized_kind-short : (size : ℕ) (text : List ℕ) → length text < size → sized_kind size text ≡ None
sized_kind-short size text short = rw (lt-leb size (length text) short) refl

-- the first three bytes of a text with at least three are its bytes at the indexes 0, 1 and 2
pub front_three : (text : List ℕ) → 3 ≤ length text
    → get_or text 0 0 ∷ get_or text 1 0 ∷ get_or text 2 0 ∷ [] ≡ take 3 text
front_three [] fits = absurd (omega arith)
front_three (a ∷ []) fits = absurd (omega arith)
front_three (a ∷ b ∷ []) fits = absurd (omega arith)
front_three (a ∷ b ∷ d ∷ text) fits = refl

-- the first two bytes of a text with at least two are its bytes at the indexes 0 and 1
pub front_two : (text : List ℕ) → 2 ≤ length text → get_or text 0 0 ∷ get_or text 1 0 ∷ [] ≡ take 2 text
front_two [] fits = absurd (omega arith)
front_two (a ∷ []) fits = absurd (omega arith)
front_two (a ∷ b ∷ text) fits = refl

-- if the first `size` bytes of `text` are a symbol of the kind `kind`, the code's result is a token of this kind and
-- of `size` bytes
pub handed_here : (size : ℕ) (text : List ℕ) (kind : TokenKind) (other : Option Lexeme)
    → size ≤ length text → sized_kind size text ≡ Some kind
    → option_map found (sized_symbol size text other)
    ≡ Some (record { kind = Some kind; length = size; is_within_limit = true })
handed_here size text kind other fits is =
    let long : length (take size text ++ []) ≡ size =
    omega (arith, length-append (take size text) [], length-take-le size text fits) in
    ap (λ (o : Option TokenKind). option_map found (symbol_or size text o other)) is
    ∙ ap (λ (n : ℕ). Some (record { kind = Some kind; length = n; is_within_limit = true })) long

-- if the first `size` bytes of `text` are no symbol, the code's result is the lexeme `other`
pub handed_other : (size : ℕ) (text : List ℕ) (other : Option Lexeme) → sized_kind size text ≡ None
    → option_map found (sized_symbol size text other) ≡ option_map found other
handed_other size text other none = ap (λ (o : Option TokenKind). option_map found (symbol_or size text o other)) none
