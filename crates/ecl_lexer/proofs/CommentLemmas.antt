-- The first `*/` of a text, which closes a comment.
use Rattle.std.proofs.Common.{ℕ, zero, suc, ◌≡◌, ◌+◌, ◌<◌, ◌≤◌, ◌++◌, ◌==◌, ◌&&◌, ◌∙◌, inl, inr, List, [], ◌∷◌, Bool}
use Rattle.std.proofs.Common.{true, false, length, get_or, Option, None, Some, refl, sym, ap, subst, arith}
use Rattle.std.specs.Prelude.{option_map, ◌⊎◌, nat_lt as ltb}
use Rattle.std.proofs.lemmas.Bool.{cases_Bool, and_parts, or_parts, eqb-true, ltb-true, ltb-false}
use Rattle.bstr.specs.Find.{OccursAt, FindsNeedle}
use Rattle.ecl_lexer.specs.Bytes.{begins_with}
use Rattle.ecl_lexer.specs.Lexemes.{has_close}
use Rattle.ecl_lexer.specs.Reading.{close_place}

-- if `option_map f o` is `Some y`, then `o` is `Some x` for some x with `f x ≡ y`
pub option_map-Some : {A B : Type 0} (f : A → B) (o : Option A) (y : B) → option_map f o ≡ Some y
    → (x : A) × (o ≡ Some x) × (f x ≡ y)
option_map-Some f None y is = absurd cc
option_map-Some f (Some x) y is = (x, refl, cc)

-- whether bytes begin with `/` does not change if a `*` and more follow them
begins_with-front : (inside rest : List ℕ) → begins_with 47 (inside ++ 42 ∷ rest) ≡ begins_with 47 inside
begins_with-front [] rest = refl
begins_with-front (x ∷ inside) rest = refl

-- if `inside` contains no `*/`, then `close_place` of `inside`, `*/` and `rest` is the length of `inside`
pub close_place-read : (inside rest : List ℕ) → has_close inside ≡ false
    → close_place (inside ++ 42 ∷ 47 ∷ rest) ≡ Some (length inside)
close_place-read [] rest without = refl
close_place-read (x ∷ inside) rest without =
    let parts = or_parts (x == 42 && begins_with 47 inside) (has_close inside) without in
    let here : (x == 42 && begins_with 47 (inside ++ 42 ∷ 47 ∷ rest)) ≡ false =
    ap (λ (b : Bool). x == 42 && b) (begins_with-front inside (47 ∷ rest)) ∙ parts.0 in
    let more = close_place-read inside rest parts.1 in
    let one : 1 + length inside ≡ suc (length inside) = omega arith in
    rw (here, more) (ap (λ (n : ℕ). Some n) one)

-- the first `*/` of `text` is at the index `place`
pub record Closes (text : List ℕ) (place : ℕ) : Type 0 where
  -- the bytes before the first `*/`
  pub inside : List ℕ
  -- the bytes after the first `*/`
  pub rest : List ℕ
  -- `text` is `inside`, `*/` and `rest`
  pub is : text ≡ inside ++ 42 ∷ 47 ∷ rest
  -- `inside` contains no `*/`
  pub without : has_close inside ≡ false
  -- `inside` has `place` bytes
  pub size : length inside ≡ place

-- a text whose first bytes are a `*` and a `/` begins with a close
close_here : (x : ℕ) (text : List ℕ) → (x == 42 && begins_with 47 text) ≡ true
    → (rest : List ℕ) × (x ∷ text ≡ 42 ∷ 47 ∷ rest)
close_here x [] here = absurd (let none = (and_parts (x == 42) false here).1 in cc)
close_here x (y ∷ rest) here =
    let parts = and_parts (x == 42) (y == 47) here in
    let first = eqb-true x 42 parts.0 in
    let second = eqb-true y 47 parts.1 in
    (rest, cc)

-- if `close_place` returns `place` for `text`, the first `*/` of `text` is at this index
pub close_place-found : (text : List ℕ) (place : ℕ) → close_place text ≡ Some place → Closes text place
close_place-found [] place found = absurd cc
close_place-found (x ∷ text) place found = elim (cases_Bool (x == 42 && begins_with 47 text)) [
  | inl here ↦
      let first : Some 0 ≡ Some place = rw here at found in
      let begin = close_here x text here in
      record { inside = []; rest = begin.0; is = begin.1; without = refl; size = cc }
  | inr other ↦
      let later : option_map (λ (n : ℕ). 1 + n) (close_place text) ≡ Some place = rw other at found in
      let more = option_map-Some (λ (n : ℕ). 1 + n) (close_place text) place later in
      let closes = close_place-found text more.0 more.1 in
      let first : begins_with 47 text ≡ begins_with 47 closes.inside =
      ap (begins_with 47) closes.is ∙ begins_with-front closes.inside (47 ∷ closes.rest) in
      let here : (x == 42 && begins_with 47 closes.inside) ≡ false = ap (λ (b : Bool). x == 42 && b) (sym first)
      ∙ other in
      record {
        inside = x ∷ closes.inside;
        rest = closes.rest;
        is = ap (λ (following : List ℕ). x ∷ following) closes.is;
        without = rw here closes.without;
        size = omega (arith, closes.size, more.2);
      }
]

-- the two bytes of a close, `*/`
abbrev pub close : List ℕ
close = 42 ∷ 47 ∷ []

occurs-cons : (x : ℕ) (text : List ℕ) (place : ℕ) → OccursAt text close place → OccursAt (x ∷ text) close (suc place)
occurs-cons x text place occurs = record {
  fits = omega (arith, occurs.fits);
  reads = λ (j : ℕ) (within : j < 2). let same : suc place + j ≡ suc (place + j) =
      omega arith in rw same (occurs.reads j within);
}

occurs-tail : (x : ℕ) (text : List ℕ) (place : ℕ) → OccursAt (x ∷ text) close (suc place) → OccursAt text close place
occurs-tail x text place occurs = record {
  fits = omega (arith, occurs.fits);
  reads = λ (j : ℕ) (within : j < 2).
      let same : suc place + j ≡ suc (place + j) = omega arith in
      let read = occurs.reads j within in
      ap (λ (k : ℕ). get_or (x ∷ text) k 0) (sym same) ∙ read;
}

occurs-here : (text : List ℕ) → OccursAt (42 ∷ 47 ∷ text) close 0
occurs-here text = record {
  fits = omega arith;
  reads = λ (j : ℕ) (within : j < 2). reads j within;
} where
  reads : (j : ℕ) → j < 2 → get_or (42 ∷ 47 ∷ text) (0 + j) 0 ≡ get_or close j 0
  reads zero within = refl
  reads (suc zero) within = refl
  reads (suc (suc j)) within = absurd (omega arith)

-- a close occurs at the place that `close_place` finds
close_place-occurs : (text : List ℕ) (place : ℕ) → close_place text ≡ Some place → OccursAt text close place
close_place-occurs [] place found = absurd cc
close_place-occurs (x ∷ text) place found = elim (cases_Bool (x == 42 && begins_with 47 text)) [
  | inl here ↦
      let first : Some 0 ≡ Some place = rw here at found in
      let begin = close_here x text here in
      let same : 0 ≡ place = cc in
      subst (OccursAt (x ∷ text) close) same
      (subst (λ (all : List ℕ). OccursAt all close 0) (sym begin.1) (occurs-here begin.0))
  | inr other ↦
      let later : option_map (λ (n : ℕ). 1 + n) (close_place text) ≡ Some place = rw other at found in
      let more = option_map-Some (λ (n : ℕ). 1 + n) (close_place text) place later in
      let same : suc more.0 ≡ place = omega (arith, more.2) in
      subst (OccursAt (x ∷ text) close) same (occurs-cons x text more.0 (close_place-occurs text more.0 more.1))
]

-- `close_place` finds a place at or before each place at which a close occurs
occurs-place : (text : List ℕ) (place : ℕ) → OccursAt text close place → (n : ℕ) × (close_place text ≡ Some n)
    × (n ≤ place)
occurs-place [] place occurs = absurd (omega (arith, occurs.fits))
occurs-place (x ∷ text) zero occurs = begins-close x text occurs
  where
    begins-close : (x : ℕ) (text : List ℕ) → OccursAt (x ∷ text) close 0 → (n : ℕ) × (close_place (x ∷ text) ≡ Some n)
        × (n ≤ 0)
    begins-close x [] occurs = absurd (omega (arith, occurs.fits))
    begins-close x (y ∷ text) occurs =
        let first : x ≡ 42 = occurs.reads 0 (omega arith) in
        let second : y ≡ 47 = occurs.reads 1 (omega arith) in
        (0, rw (first, second) refl, omega arith)
occurs-place (x ∷ text) (suc place) occurs =
    let more = occurs-place text place (occurs-tail x text place occurs) in
    elim (cases_Bool (x == 42 && begins_with 47 text)) [
      | inl here ↦ (0, rw here refl, omega arith)
      | inr other ↦ (1 + more.0, rw (other, more.1) refl, omega (arith, more.2))
    ]

-- if `found` is what a search for the first `*/` in `text` may return, it is what `close_place` returns
pub close_place-is : (text : List ℕ) (found : Option ℕ) → FindsNeedle text close 0 found → found ≡ close_place text
close_place-is text None none = elim (first (close_place text) refl) [
  | inl without ↦ sym without
  | inr some ↦
      let occurs = close_place-occurs text some.0 some.1 in
      absurd (none some.0 (omega arith) (omega (arith, occurs.fits)) occurs)
] where
  first : (o : Option ℕ) → close_place text ≡ o → (close_place text ≡ None) ⊎ ((n : ℕ) × (close_place text ≡ Some n))
  first None is = inl is
  first (Some n) is = inr (n, is)
close_place-is text (Some place) found =
    let some = occurs-place text place found.1 in
    let occurs = close_place-occurs text some.0 some.1 in
    elim (cases_Bool (ltb some.0 place)) [
      | inl before ↦ absurd (found.0.before some.0 (omega arith) (ltb-true some.0 place before) occurs)
      | inr following ↦
          let same : place ≡ some.0 = omega (arith, ltb-false some.0 place following, some.2) in
          ap (λ (n : ℕ). Some n) same ∙ sym some.1
    ]
