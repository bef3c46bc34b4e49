-- Cuts of a text, lexeme by lexeme.
use Rattle.std.proofs.Common.{ℕ, ◌≡◌, ◌+◌, ◌-◌, ◌<◌, ◌≤◌, ◌++◌, ◌∙◌, List, [], ◌∷◌, length, take, drop, Option, None}
use Rattle.std.proofs.Common.{Some, refl, sym, ap, subst, arith}
use Rattle.std.specs.Prelude.{Result, Ok, Err}
use Rattle.std.specs.List.{prefix_len}
use Rattle.std.proofs.lemmas.List.{drop-drop, length-append, length-drop, take_rest}
use Rattle.ecl_lexer.specs.declared.lexemes.Lexeme.{Lexeme as Found}
use Rattle.ecl_lexer.specs.declared.fault.QueryFault.{QueryFault}
use Rattle.ecl_lexer.specs.declared.token.TokenKind.{TokenKind}
use Rattle.ecl_lexer.specs.Lexemes.{Lexeme, lexeme_text, bytes_of, kind_of}
use Rattle.ecl_lexer.specs.Bytes.{is_code_byte}
use Rattle.ecl_lexer.specs.Refusals.{Cause, IsRead, Refuses, fault_at}
use Rattle.ecl_lexer.specs.Reading.{found, found_of, reading}
use Rattle.ecl_lexer.specs.Tokens.{AreRead, IsCut, IsRefusedAt, Placed, Spelled, lexemes_text, placed_tokens}
use Rattle.ecl_lexer.specs.Tokens.{spelled_tokens, with_placed, with_spelled}
use Rattle.ecl_lexer.proofs.ReadLemmas.{reading-read, reading-Ok, reading-Err, reading-refused, length-lexeme_text}
use Rattle.ecl_lexer.proofs.ReadLemmas.{drop-lexeme_text, take-lexeme_text, some_bytes}
use Rattle.ecl_lexer.proofs.RunLemmas.{prefix_len-drop}

-- the front of `text` up to the offset `at` is cut into lexemes, and `spelled` and `placed` are the tokens among them
pub record CutSoFar (text : List ℕ) (at : ℕ) (spelled : List Spelled) (placed : List Placed) : Type 0 where
  -- the lexemes up to the offset
  pub lexemes : List Lexeme
  -- `text` is cut into these lexemes and the text from the offset on
  pub cut : IsCut text lexemes (drop at text)
  -- `spelled` are the tokens among the lexemes
  pub spelling : spelled ≡ spelled_tokens lexemes
  -- `placed` are the tokens among the lexemes, with their offsets
  pub places : placed ≡ placed_tokens 0 lexemes

-- adding one lexeme to a cut

lexemes_text-push : (lexemes : List Lexeme) (lexeme : Lexeme) (rest : List ℕ)
    → lexemes_text (lexemes ++ lexeme ∷ []) rest ≡ lexemes_text lexemes (lexeme_text lexeme rest)
lexemes_text-push [] lexeme rest = refl
lexemes_text-push (first ∷ lexemes) lexeme rest = ap (lexeme_text first) (lexemes_text-push lexemes lexeme rest)

AreRead-push : (lexemes : List Lexeme) (lexeme : Lexeme) (rest : List ℕ) → AreRead lexemes (lexeme_text lexeme rest)
    → IsRead lexeme rest → AreRead (lexemes ++ lexeme ∷ []) rest
AreRead-push [] lexeme rest each read = (read, tt)
AreRead-push (first ∷ lexemes) lexeme rest each read = (
  subst (IsRead first) (sym (lexemes_text-push lexemes lexeme rest)) each.0,
  AreRead-push lexemes lexeme rest each.1
      read,
)

IsCut-push : (text : List ℕ) (lexemes : List Lexeme) (lexeme : Lexeme) (rest : List ℕ)
    → IsCut text lexemes (lexeme_text lexeme rest) → IsRead lexeme rest → IsCut text (lexemes ++ lexeme ∷ []) rest
IsCut-push text lexemes lexeme rest cut read = record {
  whole = cut.whole ∙ sym (lexemes_text-push lexemes lexeme rest);
  each = AreRead-push lexemes lexeme rest cut.each read;
}

with_spelled-append : (kind : Option TokenKind) (bytes : List ℕ) (xs ys : List Spelled)
    → with_spelled kind bytes (xs ++ ys) ≡ with_spelled kind bytes xs ++ ys
with_spelled-append None bytes xs ys = refl
with_spelled-append (Some kind) bytes xs ys = refl

with_placed-append : (kind : Option TokenKind) (bytes : List ℕ) (start : ℕ) (xs ys : List Placed)
    → with_placed kind bytes start (xs ++ ys) ≡ with_placed kind bytes start xs ++ ys
with_placed-append None bytes start xs ys = refl
with_placed-append (Some kind) bytes start xs ys = refl

spelled_tokens-push : (lexemes : List Lexeme) (lexeme : Lexeme)
    → spelled_tokens (lexemes ++ lexeme ∷ []) ≡ spelled_tokens lexemes
    ++ with_spelled (kind_of lexeme) (bytes_of lexeme) []
spelled_tokens-push [] lexeme = refl
spelled_tokens-push (first ∷ lexemes) lexeme =
    ap (with_spelled (kind_of first) (bytes_of first)) (spelled_tokens-push lexemes lexeme)
    ∙ with_spelled-append (kind_of first) (bytes_of first) (spelled_tokens lexemes)
    (with_spelled (kind_of lexeme) (bytes_of lexeme) [])

-- the number of bytes of the lexemes
abbrev lexemes_length : List Lexeme → ℕ
lexemes_length [] = 0
lexemes_length (lexeme ∷ lexemes) = length (bytes_of lexeme) + lexemes_length lexemes

length-lexemes_text : (lexemes : List Lexeme) (rest : List ℕ)
    → length (lexemes_text lexemes rest) ≡ lexemes_length lexemes + length rest
length-lexemes_text [] rest = omega arith
length-lexemes_text (lexeme ∷ lexemes) rest =
    omega (arith, length-lexeme_text lexeme (lexemes_text lexemes rest), length-lexemes_text lexemes rest)

placed_tokens-push : (start : ℕ) (lexemes : List Lexeme) (lexeme : Lexeme)
    → placed_tokens start (lexemes ++ lexeme ∷ []) ≡ placed_tokens start lexemes
    ++ with_placed (kind_of lexeme) (bytes_of lexeme) (start + lexemes_length lexemes) []
placed_tokens-push start [] lexeme = let same : start ≡ start + 0 =
    omega arith in ap (λ (n : ℕ). with_placed (kind_of lexeme) (bytes_of lexeme) n []) same
placed_tokens-push start (first ∷ lexemes) lexeme =
    let next : ℕ = start + length (bytes_of first) in
    let same : next + lexemes_length lexemes ≡ start + (length (bytes_of first) + lexemes_length lexemes) =
    omega arith in
    let last : List Placed = with_placed (kind_of lexeme) (bytes_of lexeme) (next + lexemes_length lexemes) [] in
    ap (with_placed (kind_of first) (bytes_of first) start) (placed_tokens-push next lexemes lexeme)
    ∙ with_placed-append (kind_of first) (bytes_of first) start (placed_tokens next lexemes) last
    ∙ ap (λ (n : ℕ). with_placed (kind_of first) (bytes_of first) start (placed_tokens next lexemes)
    ++ with_placed (kind_of lexeme) (bytes_of lexeme) n []) same

-- `lexeme` can be added to the cut of `text` up to the offset `at`
pub record StepsOn (text : List ℕ) (at : ℕ) (spelled : List Spelled) (placed : List Placed) (lexeme : Lexeme) : Type 0
  where
    -- the lexeme ends within the text
    pub within : at + length (bytes_of lexeme) ≤ length text
    -- the lexeme has at least one byte
    pub some : 0 < length (bytes_of lexeme)
    -- the bytes of the lexeme are those of the text from the offset on
    pub slice : take (length (bytes_of lexeme)) (drop at text) ≡ bytes_of lexeme
    -- `text` is cut up to the end of the lexeme; the lexeme adds its token, or none if it is a blank
    pub so_far : CutSoFar text (at + length (bytes_of lexeme))
        (spelled ++ with_spelled (kind_of lexeme) (bytes_of lexeme) [])
        (placed ++ with_placed (kind_of lexeme) (bytes_of lexeme) at [])

-- if `text` is cut up to the offset `at` and `reading` returns `lexeme` there, `lexeme` can be added to the cut
pub next_lexeme : (text : List ℕ) (at : ℕ) (spelled : List Spelled) (placed : List Placed) (lexeme : Lexeme)
    → at ≤ length text
    → CutSoFar text at spelled placed → reading at (drop at text) ≡ Ok lexeme → StepsOn text at spelled placed lexeme
next_lexeme text at spelled placed lexeme within so_far found =
    let n : ℕ = length (bytes_of lexeme) in
    let here = reading-Ok at (drop at text) lexeme found in
    let left : length text - at ≡ n + length here.rest = sym (length-drop at text) ∙ ap length here.is
    ∙ length-lexeme_text lexeme here.rest in
    let following : here.rest ≡ drop (at + n) text = sym (drop-lexeme_text lexeme here.rest) ∙ ap (drop n) (sym here.is)
    ∙ drop-drop n at text in
    let cut = IsCut-push text so_far.lexemes lexeme here.rest (subst (IsCut text so_far.lexemes) here.is so_far.cut)
    here.read in
    let place : lexemes_length so_far.lexemes ≡ at =
    omega (arith, ap length so_far.cut.whole, length-lexemes_text so_far.lexemes (drop at text), length-drop at text) in
    record {
      within = omega arith;
      some = some_bytes lexeme here.rest here.read.stands;
      slice = ap (take n) here.is ∙ take-lexeme_text lexeme here.rest;
      so_far = record {
        lexemes = so_far.lexemes ++ lexeme ∷ [];
        cut = subst (IsCut text (so_far.lexemes ++ lexeme ∷ [])) following cut;
        spelling = ap (λ (tokens : List Spelled). tokens ++ with_spelled (kind_of lexeme) (bytes_of lexeme) [])
            so_far.spelling ∙ sym (spelled_tokens-push so_far.lexemes lexeme);
        places =
            ap (λ (tokens : List Placed). tokens ++ with_placed (kind_of lexeme) (bytes_of lexeme) at []) so_far.places
            ∙ ap (λ (k : ℕ). placed_tokens 0 so_far.lexemes ++ with_placed (kind_of lexeme) (bytes_of lexeme) k [])
            (sym place ∙ zero_add (lexemes_length so_far.lexemes))
            ∙ sym (placed_tokens-push 0 so_far.lexemes lexeme);
      };
    }
  where
    zero_add : (k : ℕ) → k ≡ 0 + k
    zero_add k = omega arith

-- an answer of a lexeme is not a refusal
no_fault : (x : Found) (fault : QueryFault) → ◌≡◌ {A = Result Found QueryFault} (Ok x) (Err fault) → ⊥
no_fault x fault is = cc

same_answer : (x y : Found) → ◌≡◌ {A = Result Found QueryFault} (Ok x) (Ok y) → x ≡ y
same_answer x y is = cc

same_refusal : (one other : QueryFault) → ◌≡◌ {A = Result Found QueryFault} (Err one) (Err other) → one ≡ other
same_refusal one other is = cc

-- if `text` is cut up to the offset `at` and the code has read `x` there, `x` is the code's form of a lexeme that can
-- be added to the cut
pub steps_on : (text : List ℕ) (at : ℕ) (spelled : List Spelled) (placed : List Placed) (x : Found) → at ≤ length text
    → CutSoFar text at spelled placed
    → Ok x ≡ found_of (reading at (take (length text - at) (drop at text))) → (lexeme : Lexeme) × (found lexeme ≡ x)
    × StepsOn text at spelled placed lexeme
steps_on text at spelled placed x within so_far read =
    by_result (reading at (drop at text)) refl (read
    ∙ ap (λ (rest : List ℕ). found_of (reading at rest)) (take_rest text at))
  where
    by_result : (r : Result Lexeme QueryFault) → reading at (drop at text) ≡ r → Ok x ≡ found_of r
        → (lexeme : Lexeme) × (found lexeme ≡ x) × StepsOn text at spelled placed lexeme
    by_result (Err fault) is read = absurd (no_fault x fault read)
    by_result (Ok lexeme) is read =
        (lexeme, sym (same_answer x (found lexeme) read), next_lexeme text at spelled placed lexeme within so_far is)

-- if `text` is cut up to the offset `at`, which is before its end, and the code returns `fault` there, then `text` is
-- refused at this offset for a cause whose fault is `fault`
pub refused_at : (text : List ℕ) (at : ℕ) (spelled : List Spelled) (placed : List Placed) (fault : QueryFault)
    → at < length text → CutSoFar text at spelled placed
    → Err fault ≡ found_of (reading at (take (length text - at) (drop at text)))
    → (cause : Cause) × IsRefusedAt text at cause × (fault ≡ fault_at at cause)
refused_at text at spelled placed fault within so_far read =
    by_result (reading at (drop at text)) refl (read
    ∙ ap (λ (rest : List ℕ). found_of (reading at rest)) (take_rest text at))
  where
    by_result : (r : Result Lexeme QueryFault) → reading at (drop at text) ≡ r → Err fault ≡ found_of r
        → (cause : Cause) × IsRefusedAt text at cause × (fault ≡ fault_at at cause)
    by_result (Ok lexeme) is read = absurd (no_fault (found lexeme) fault (sym read))
    by_result (Err other) is read =
        let left = length-drop at text in
        let refused = reading-Err at (drop at text) other (omega arith) is in
        let place : at + length (drop at text) ≡ length text = omega arith in
        let same = same_refusal fault other read ∙ refused.is in
        (refused.cause, (so_far.lexemes, drop at text, so_far.cut, place, refused.refuses), same)

-- a lexeme of the kind `kind` adds one token, which has this kind and the bytes of the lexeme
pub with_spelled-Some : (lexeme : Lexeme) (kind : TokenKind) (bytes : List ℕ) → kind_of lexeme ≡ Some kind
    → bytes ≡ bytes_of lexeme
    → record { kind = kind; bytes = bytes } ∷ [] ≡ with_spelled (kind_of lexeme) (bytes_of lexeme) []
with_spelled-Some lexeme kind bytes is same =
    ap (λ (text : List ℕ). with_spelled (Some kind) text []) same
    ∙ ap (λ (o : Option TokenKind). with_spelled o (bytes_of lexeme) []) (sym is)

-- a lexeme of the kind `kind` that begins at `start` adds one token, which has this kind, the bytes of the lexeme,
-- and the offsets of its first byte and after its last byte
pub with_placed-Some : (lexeme : Lexeme) (kind : TokenKind) (bytes : List ℕ) (start end : ℕ)
    → kind_of lexeme ≡ Some kind → bytes ≡ bytes_of lexeme → end ≡ start + length (bytes_of lexeme)
    → record { token = record { kind = kind; bytes = bytes }; start = start; end = end } ∷ []
    ≡ with_placed (kind_of lexeme) (bytes_of lexeme) start []
with_placed-Some lexeme kind bytes start end is same ends =
    ap (λ (n : ℕ). record { token = record { kind = kind; bytes = bytes }; start = start; end = n } ∷ []) ends
    ∙ ap (λ (text : List ℕ). record {
      token = record { kind = kind; bytes = text };
      start = start;
      end = start + length (bytes_of lexeme);
    } ∷ []) same
    ∙ ap (λ (o : Option TokenKind). with_placed o (bytes_of lexeme) start []) (sym is)

-- if a run of letters, digits and `-` from the offset `at` ends at `end`, the run from the offset `at + n`, which is
-- before `end`, ends there too
pub run_on : (text : List ℕ) (at n end : ℕ) → end ≡ at + prefix_len is_code_byte (drop at text) → at + n < end
    → prefix_len is_code_byte (drop (at + n) text) + (at + n) ≡ end
run_on text at n end is inside =
    let more = prefix_len-drop is_code_byte n (drop at text) (omega arith) in
    let same : prefix_len is_code_byte (drop n (drop at text)) ≡ prefix_len is_code_byte (drop (at + n) text) =
    ap (prefix_len is_code_byte) (drop-drop n at text) in
    omega (arith, more, same)

-- if the empty text is cut up to an offset, there are no tokens among the lexemes
pub CutSoFar-empty : (text : List ℕ) (at : ℕ) (spelled : List Spelled) (placed : List Placed) → text ≡ []
    → CutSoFar text at spelled placed → spelled ≡ []
CutSoFar-empty text at spelled placed empty so_far = so_far.spelling ∙ none so_far.lexemes so_far.cut
  where
    none : (lexemes : List Lexeme) → IsCut text lexemes (drop at text) → spelled_tokens lexemes ≡ []
    none [] cut = refl
    none (lexeme ∷ lexemes) cut =
        let following : List ℕ = lexemes_text lexemes (drop at text) in
        absurd (omega (
          arith,
          ap length cut.whole,
          ap length empty,
          length-lexeme_text lexeme following,
          some_bytes
              lexeme following cut.each.0.stands,
        ))

-- if a lexeme that is a token is added, the list of tokens is not empty
pub has_token : (lexeme : Lexeme) (kind : TokenKind) (tokens : List Spelled) → kind_of lexeme ≡ Some kind
    → 0 < length (tokens ++ with_spelled (kind_of lexeme) (bytes_of lexeme) [])
has_token lexeme kind tokens is =
    let one : length (with_spelled (kind_of lexeme) (bytes_of lexeme) []) ≡ 1 = rw is refl in
    omega (arith, one, length-append tokens (with_spelled (kind_of lexeme) (bytes_of lexeme) []))

-- the length and the kind that the code has of a lexeme

-- if `x` is the code's form of `lexeme`, its length is the number of the lexeme's bytes
pub size_of : (lexeme : Lexeme) (x : Found) → found lexeme ≡ x → x.length ≡ length (bytes_of lexeme)
size_of lexeme x is = ap (λ (x : Found). x.length) (sym is)

-- if `x` is the code's form of `lexeme` and has the kind `kind`, the lexeme has this kind
pub kind_is : (lexeme : Lexeme) (x : Found) (kind : TokenKind) → found lexeme ≡ x → x.kind ≡ Some kind
    → kind_of lexeme ≡ Some kind
kind_is lexeme x kind is some = ap (λ (x : Found). x.kind) is ∙ some

-- if `x` is the code's form of `lexeme` and has no kind, the lexeme is a blank
pub no_kind : (lexeme : Lexeme) (x : Found) → found lexeme ≡ x → x.kind ≡ None → kind_of lexeme ≡ None
no_kind lexeme x is none = ap (λ (x : Found). x.kind) is ∙ none

append-nil : {A : Type 0} (xs : List A) → xs ++ [] ≡ xs
append-nil [] = refl
append-nil (x ∷ xs) = ap (λ (more : List _). x ∷ more) (append-nil xs)

-- a lexeme that is a blank adds no token
pub no_spelled : (lexeme : Lexeme) (tokens : List Spelled) → kind_of lexeme ≡ None
    → tokens ++ with_spelled (kind_of lexeme) (bytes_of lexeme) [] ≡ tokens
no_spelled lexeme tokens none = ap (λ (o : Option TokenKind). tokens ++ with_spelled o (bytes_of lexeme) []) none
    ∙ append-nil tokens

-- a lexeme that is a blank adds no token with offsets
pub no_placed : (lexeme : Lexeme) (start : ℕ) (tokens : List Placed) → kind_of lexeme ≡ None
    → tokens ++ with_placed (kind_of lexeme) (bytes_of lexeme) start [] ≡ tokens
no_placed lexeme start tokens none =
    ap (λ (o : Option TokenKind). tokens ++ with_placed o (bytes_of lexeme) start []) none ∙ append-nil tokens

-- `CutSoFar` may replace the size of the last lexeme and the lists of tokens by equal ones
pub so_far_is : (text : List ℕ) (at : ℕ) (size other_size : ℕ) (spelled other_spelled : List Spelled)
    (placed other_placed : List Placed)
    → size ≡ other_size → other_spelled ≡ spelled → other_placed ≡ placed
    → CutSoFar text (at + other_size) other_spelled other_placed → CutSoFar text (at + size) spelled placed
so_far_is text at size other_size spelled other_spelled placed other_placed sizes spellings places so_far = record {
  lexemes = so_far.lexemes;
  cut = subst (λ (n : ℕ). IsCut text so_far.lexemes (drop (at + n) text)) (sym sizes) so_far.cut;
  spelling = sym spellings ∙ so_far.spelling;
  places = sym places ∙ so_far.places;
}

-- no text has two different cuts

-- the lexer reads no lexeme at the beginning of the text
abbrev pub Ends : List ℕ → Type 0
Ends text = (lexeme : Lexeme) → reading 0 text ≡ Ok lexeme → ⊥

-- the lexer reads no lexeme at the beginning of the empty text
pub Ends-nil : Ends []
Ends-nil lexeme found = absurd cc

-- if a text is refused for a cause, the lexer reads no lexeme at its beginning
pub Ends-refused : (text : List ℕ) (cause : Cause) → Refuses text cause → Ends text
Ends-refused text cause refuses lexeme found = let refused = reading-refused 0 text cause refuses in absurd cc

same_lexemes : (ps qs : List Lexeme) (r s : List ℕ) → lexemes_text ps r ≡ lexemes_text qs s → AreRead ps r
    → AreRead qs s → Ends r → Ends s → (ps ≡ qs) × (r ≡ s)
same_lexemes [] [] r s same first second r_ends s_ends = (refl, same)
same_lexemes [] (q ∷ qs) r s same first second r_ends s_ends =
    absurd (r_ends q (ap (reading 0) same ∙ reading-read 0 q (lexemes_text qs s) second.0))
same_lexemes (p ∷ ps) [] r s same first second r_ends s_ends =
    absurd (s_ends p (ap (reading 0) (sym same) ∙ reading-read 0 p (lexemes_text ps r) first.0))
same_lexemes (p ∷ ps) (q ∷ qs) r s same first second r_ends s_ends =
    let read : Ok p ≡ Ok q = sym (reading-read 0 p (lexemes_text ps r) first.0) ∙ ap (reading 0) same
    ∙ reading-read 0 q (lexemes_text qs s) second.0 in
    let lexeme : p ≡ q = cc in
    let following : lexemes_text ps r ≡ lexemes_text qs s =
    sym (drop-lexeme_text p (lexemes_text ps r)) ∙ ap (drop (length (bytes_of p))) same
    ∙ ap (λ (k : Lexeme). drop (length (bytes_of k)) (lexeme_text q (lexemes_text qs s))) lexeme
    ∙ drop-lexeme_text q (lexemes_text qs s) in
    let more = same_lexemes ps qs r s following first.1 second.1 r_ends s_ends in
    (cc, more.1)

-- if a text is cut into `ps` and `r`, and into `qs` and `s`, and no lexeme can be read at the beginning of `r` and of
-- `s`, then `ps` is `qs` and `r` is `s`
pub same_cut : (text : List ℕ) (ps qs : List Lexeme) (r s : List ℕ) → IsCut text ps r → IsCut text qs s → Ends r
    → Ends s → (ps ≡ qs) × (r ≡ s)
same_cut text ps qs r s first second r_ends s_ends =
    same_lexemes ps qs r s (sym first.whole ∙ second.whole) first.each second.each r_ends s_ends
