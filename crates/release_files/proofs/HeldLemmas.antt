-- How the bytes in a reader's buffer begin with a part, and how they grow by reading.
use Rattle.std.proofs.Common.{◌≡◌, ◌≢◌, ℕ, suc, ◌+◌, ◌<◌, ◌≤◌, zero, min, true, eqb, List, [], ◌∷◌, ◌++◌, length}
use Rattle.std.proofs.Common.{get_or, take, drop, slice_range, ◌-◌, None, Some, refl, sym, ap, ◌∙◌, append-nil}
use Rattle.std.proofs.Common.{append_assoc, length-append, length-take, length-drop, ◌^◌, arith}
use Rattle.std.specs.Prelude.{Option, Result}
use Rattle.std.proofs.Math.Seq.{take-add, take-suc}
use Rattle.std.proofs.lemmas.Bool.{eqb-true, eq-eqb}
use Rattle.std.proofs.lemmas.List.{get_or-take, get_or_default, take-take, take_all, drop_all, nil_from_length}
use Rattle.std.proofs.lemmas.List.{take-append-drop, take_at, drop-drop, drop-take}
use Rattle.std.proofs.lemmas.List.Elements.{All-append}
use Rattle.std.specs.Io.KnownBytes.{Consumes, IsAtEnd}
use Rattle.release_files.specs.Held.{BeginsWithPart, GrowsBy, IsEndedPart, KeepsBytes, ReadsOn, TakesWithin, reachable}
use Rattle.release_files.specs.Source.{History, IsReading, given}
use Rattle.release_files.specs.declared.source.SourceFault.{SourceFault}
use Rattle.release_files.specs.Lines.{parts, HasNoFeed}
use Rattle.release_files.proofs.Parts.{NoFeed, parts_ended, parts_last}

-- if no index below `at` has a line feed, the first `at` bytes have none
front_clear : (bytes : List ℕ) (at : ℕ) → at ≤ length bytes → NoFeed bytes at → HasNoFeed (take at bytes)
front_clear bytes at fits none k d below is =
    let here : k < at = omega (arith, length-take at bytes) in
    none k here (eq-eqb (get_or bytes k 0) 10 (get_or_default bytes k 0 d (omega arith)
    ∙ sym (get_or-take at bytes k d here) ∙ is))

-- if the bytes searched so far and the next `at` bytes have no line feed, the bytes up to there have none
pub clear_further : (bytes : List ℕ) (searched at : ℕ) → HasNoFeed (take searched bytes)
    → at ≤ length (drop searched bytes) → NoFeed (drop searched bytes) at
    → HasNoFeed (take (searched + at) bytes)
clear_further bytes searched at clear fits none =
    rw (take-add searched at bytes) (All-append (λ byte. byte ≢ 10) (take searched bytes)
    (take at (drop searched bytes)) clear (front_clear (drop searched bytes) at fits none))

-- the bytes up to the first line feed, including it, are a whole part
pub ended_part : (bytes : List ℕ) (at : ℕ) → at < length bytes → HasNoFeed (take at bytes)
    → eqb (get_or bytes at 0) 10 ≡ true → IsEndedPart (take (suc at) bytes)
ended_part bytes at fits clear is rest =
    let whole : take (suc at) bytes ≡ take at bytes ++ 10 ∷ [] =
    take-suc bytes at 0 fits ∙ ap (λ (byte : ℕ). take at bytes ++ byte ∷ []) (eqb-true (get_or bytes at 0) 10 is) in
    rw whole (ap parts (append_assoc (take at bytes) (10 ∷ []) rest) ∙ parts_ended (take at bytes) rest clear)

-- if the first `count` bytes of the buffer `held` are a whole part, the buffer and the rest of the file begin with this
-- part
pub begins_ended : (rest : Option (List ℕ)) (held : List ℕ) (count : ℕ) → 0 < count → IsEndedPart (take count held)
    → BeginsWithPart rest held count
begins_ended None held count some part = tt
begins_ended (Some rest) held count some part = (
  λ none. absurd (omega arith),
  λ _.
      ap (λ (bytes : List ℕ). parts (bytes ++ rest)) (sym (take-append-drop count held))
      ∙ ap parts (append_assoc (take count held) (drop count held) rest)
      ∙ part (drop count held ++ rest),
)

-- at the end of the file, bytes without a line feed are the last part
all_last : (held : List ℕ) (count : ℕ) → count ≡ length held → HasNoFeed held → BeginsWithPart (Some []) held count
all_last held count all clear = (
  λ none. ap (λ (bytes : List ℕ). parts (bytes ++ [])) (nil_from_length held (sym all ∙ none)),
  λ some.
      ap parts (append-nil held)
      ∙ parts_last held (omega arith) (λ k below is. clear k 0 below (eqb-true _ 10 is))
      ∙ ap (λ (part : List ℕ). part ∷ []) (sym (take_all count held (omega arith)))
      ∙ ap (λ (following : List ℕ). take count held ∷ parts (following ++ []))
      (sym (drop_all count held (omega arith))),
)

-- if the file has ended and the buffer `held` has no line feed, all its bytes are the last part; if it is empty, there
-- is none
pub begins_last : (rest : Option (List ℕ)) (held : List ℕ) (count : ℕ) → IsAtEnd rest → count ≡ length held
    → HasNoFeed held → BeginsWithPart rest held count
begins_last None held count end all clear = tt
begins_last (Some rest) held count end all clear = rw end (all_last held count all clear)

-- `KeepsBytes` holds if nothing changes
pub KeepsBytes-refl : (rest : Option (List ℕ)) (held : List ℕ) → KeepsBytes rest rest held held
KeepsBytes-refl None held = tt
KeepsBytes-refl (Some rest) held = refl

-- `KeepsBytes` holds for two steps together if it holds for each
pub KeepsBytes-trans : (first next last : Option (List ℕ)) (old mid new : List ℕ) → KeepsBytes first next old mid
    → KeepsBytes next last mid new → KeepsBytes first last old new
KeepsBytes-trans None next last old mid new before after = tt
KeepsBytes-trans (Some first) None last old mid new before after = absurd before
KeepsBytes-trans (Some first) (Some next) None old mid new before after = absurd after
KeepsBytes-trans (Some first) (Some next) (Some last) old mid new before after = before ∙ after

-- reading a piece from the file into the buffer keeps the bytes of both together
pub GrowsBy-keeps : (before after : Option (List ℕ)) (old new : List ℕ) (count : ℕ) → GrowsBy before after old new count
    → KeepsBytes before after old new
GrowsBy-keeps None after old new count grows = tt
GrowsBy-keeps (Some before) None old new count grows = absurd grows.consumed
GrowsBy-keeps (Some before) (Some after) old new count grows =
    ap (λ (bytes : List ℕ). old ++ bytes) grows.consumed
    ∙ sym (append_assoc old grows.piece after)
    ∙ ap (λ (bytes : List ℕ). bytes ++ after) (sym grows.held)

-- reading a piece of 0 bytes leaves the buffer as it was
pub GrowsBy-none : (before after : Option (List ℕ)) (old new : List ℕ) → GrowsBy before after old new 0 → new ≡ old
GrowsBy-none before after old new grows =
    grows.held ∙ ap (λ (bytes : List ℕ). old ++ bytes) (nil_from_length grows.piece grows.counted) ∙ append-nil old

-- the buffer grows by the length of the piece that was read
pub GrowsBy-length : (before after : Option (List ℕ)) (old new : List ℕ) (count : ℕ)
    → GrowsBy before after old new count → length new ≡ length old + count
GrowsBy-length before after old new count grows =
    omega (arith, ap length grows.held, length-append old grows.piece, grows.counted)

-- after a piece was read, the bytes that the buffer had before are still its first, and so have no line feed
pub GrowsBy-clear : (before after : Option (List ℕ)) (old new : List ℕ) (count searched : ℕ)
    → GrowsBy before after old new count → searched ≡ length old → HasNoFeed old → HasNoFeed (take searched new)
GrowsBy-clear before after old new count searched grows all clear =
    rw (grows.held, take_at old grows.piece searched (sym all)) clear

-- `TakesWithin` holds for two steps together if it holds for each
pub TakesWithin-trans : (first next last : Option (List ℕ)) (old mid new : ℕ) → TakesWithin first next old mid
    → TakesWithin next last mid new → TakesWithin first last old new
TakesWithin-trans None None last old mid new before after = omega arith
TakesWithin-trans None (Some next) None old mid new before after = absurd after
TakesWithin-trans None (Some next) (Some last) old mid new before after = omega (arith, after.0)
TakesWithin-trans (Some first) None last old mid new before after = absurd before
TakesWithin-trans (Some first) (Some next) None old mid new before after = absurd after
TakesWithin-trans (Some first) (Some next) (Some last) old mid new before after =
    (omega (arith, before.0, after.0), omega (arith, before.1, after.1))

-- `ReadsOn` holds for two readings together if it holds for each
pub ReadsOn-trans : (first next last : History) (old mid new : ℕ) → ReadsOn first next old mid
    → ReadsOn next last mid new
    → ReadsOn first last old new
ReadsOn-trans first next last old mid new before after = record {
  less = omega (arith, before.less, after.less);
  taken = omega (arith, before.taken, after.taken);
  most = omega (arith, before.most, after.most, before.taken);
  opened = after.opened ∙ before.opened;
  unlisted = after.unlisted ∙ before.unlisted;
}

-- a read that gives at most `left` bytes lowers the number of bytes that may be read by the number that it gives
pub reads_on : (result : Result ℕ SourceFault) (old new : History) (left : ℕ) → IsReading result old new
    → given result ≤ left
    → ReadsOn old new left (left - given result)
reads_on result old new left read few = record {
  less = omega arith;
  taken = omega (arith, read.taken, few);
  most = omega (arith, read.most, few);
  opened = read.opened;
  unlisted = read.unlisted;
}

-- a slice that ends below 2^64 has fewer than 2^64 bytes
pub few_bytes : (bytes : List ℕ) (from until : ℕ) → until < 2 ^ 64 → length (slice_range bytes from until) < 2 ^ 64
few_bytes bytes from until few = omega (arith, length-take (until - from) (drop from bytes))

-- a slice of `count` bytes within the bytes has the length `count`
length-slice : (bytes : List ℕ) (at count : ℕ) → at + count ≤ length bytes
    → length (slice_range bytes at (at + count)) ≡ count
length-slice bytes at count within = omega (arith, length-take (at + count - at) (drop at bytes), length-drop at bytes)

-- the slice that begins `count` bytes later is the slice without its first `count` bytes
pub slice_after : (bytes : List ℕ) (start count filled : ℕ) → count ≤ length (slice_range bytes start filled)
    → slice_range bytes (start + count) filled ≡ drop count (slice_range bytes start filled)
slice_after bytes start count filled few =
    let left = filled - (start + count) in
    let following = drop start bytes in
    let split : filled - start ≡ count + left = omega (arith, few, length-take (filled - start) following) in
    sym (ap (λ (n : ℕ). drop count (take n following)) split
    ∙ drop-take count left following ∙ ap (take left) (drop-drop count start bytes))

-- if `left` bytes may be read and a read gives `count` of them, at most 65,536, it takes no more bytes of the file than
-- that number falls by
pub takes_read : (before after : Option (List ℕ)) (read : List ℕ) (at count left old room : ℕ)
    → Consumes before after (slice_range read at (at + count)) → at + count ≤ length read
    → count ≤ room → room ≡ min left 65536 → left ≡ old → TakesWithin before after old (left - count)
takes_read before after read at count left old room consumes within few fits same =
    by_rest before after consumes
  where
    piece : List ℕ
    piece = slice_range read at (at + count)

    by_rest : (before after : Option (List ℕ)) → Consumes before after piece
        → TakesWithin before after old (left - count)
    by_rest None after consumes = omega arith
    by_rest (Some before) None consumes = absurd consumes
    by_rest (Some before) (Some after) consumes =
        (omega arith, omega (arith, ap length consumes, length-append piece after, length-slice read at count within))

-- if the bytes in a buffer are moved to its front and `count` bytes of the file are read after them, the buffer grew by
-- these bytes (`GrowsBy`)
pub grows_read : (before after : Option (List ℕ)) (held items moved grown read : List ℕ) (start filled count : ℕ)
    → held ≡ slice_range items start filled
    → take (filled - start) moved ≡ slice_range items start filled
    → filled - start ≤ length moved
    → take (length moved) grown ≡ moved
    → take (filled - start) read ≡ take (filled - start) grown
    → (filled - start) + count ≤ length read
    → Consumes before after (slice_range read (filled - start) ((filled - start) + count))
    → (count ≡ 0 → IsAtEnd after)
    → GrowsBy before after held (slice_range read 0 ((filled - start) + count)) count
grows_read before after held items moved grown read start filled count is move room grow kept within consumes end =
    let at = filled - start in
    let piece : List ℕ = slice_range read at (at + count) in
    let count_is : count ≡ at + count - at = omega arith in
    let all_is : at + count - 0 ≡ at + count = omega arith in
    let front : take at read ≡ held =
    kept ∙ sym (take-take at (length moved) grown room) ∙ ap (take at) grow ∙ move ∙ sym is in record {
      piece = piece;
      held = ap (λ (n : ℕ). take n read) all_is ∙ take-add at count read
          ∙ ap (λ (bytes : List ℕ). bytes ++ take count (drop at read)) front
          ∙ ap (λ (n : ℕ). held ++ take n (drop at read)) count_is;
      counted = length-slice read at count within;
      consumed = consumes;
      end = end;
    }

-- taking `count` bytes takes all of `front` and the remaining ones of `rest`
take_after : (count : ℕ) (front rest : List ℕ) → length front ≤ count
    → take count (front ++ rest) ≡ front ++ take (count - length front) rest
take_after count [] rest within =
    let same : count - 0 ≡ count = omega arith in
    ap (λ (n : ℕ). take n rest) (sym same)
take_after zero (byte ∷ front) rest within = absurd (omega arith)
take_after (suc count) (byte ∷ front) rest within =
    let same : count - length front ≡ suc count - suc (length front) = omega arith in
    ap (λ (bytes : List ℕ). byte ∷ bytes) (take_after count front rest (omega arith)
    ∙ ap (λ (n : ℕ). front ++ take n rest) same)

take_nothing : (count : ℕ) → take {A = ℕ} count [] ≡ []
take_nothing zero = refl
take_nothing (suc count) = refl

-- bytes that are read are taken from the bytes that may be read
reached_bytes : (before after : Option (List ℕ)) (piece : List ℕ) (left new_left count : ℕ)
    → Consumes before after piece → length piece ≡ count → count ≤ left → new_left ≡ left - count
    → Consumes (reachable left before) (reachable new_left after) piece
unfolding reachable
reached_bytes None after piece left new_left count consumes counted few less = tt
reached_bytes (Some before) None piece left new_left count consumes counted few less = absurd consumes
reached_bytes (Some before) (Some after) piece left new_left count consumes counted few less =
    let same : left - length piece ≡ new_left = omega arith in
    ap (λ (bytes : List ℕ). take left bytes) consumes ∙ take_after left piece after (omega arith)
    ∙ ap (λ (n : ℕ). piece ++ take n after) same

-- if the file has ended, or no byte may be read, the bytes that may be read have ended
reached_end : (after : Option (List ℕ)) (left : ℕ) → ((0 < left) → IsAtEnd after) → IsAtEnd (reachable left after)
unfolding reachable
reached_end None left end = tt
reached_end (Some after) zero end = refl
reached_end (Some after) (suc left) end = ap (λ (bytes : List ℕ). take (suc left) bytes) (end (omega arith))
    ∙ take_nothing (suc left)

-- if the bytes in a buffer are moved to its front and at most `left` bytes of the file are read after them, the buffer
-- grew by bytes that were allowed to be read
pub grows_reached : (before after : Option (List ℕ)) (held items moved grown read : List ℕ)
    (start filled count left new_left room : ℕ)
    → held ≡ slice_range items start filled
    → take (filled - start) moved ≡ slice_range items start filled
    → filled - start ≤ length moved
    → take (length moved) grown ≡ moved
    → take (filled - start) read ≡ take (filled - start) grown
    → (filled - start) + count ≤ length read
    → Consumes before after (slice_range read (filled - start) ((filled - start) + count))
    → (count ≡ 0 → 0 < room → IsAtEnd after)
    → count ≤ room
    → room ≡ min left 65536
    → new_left ≡ left - count
    → GrowsBy (reachable left before) (reachable new_left after) held (slice_range read 0 ((filled - start) + count))
    count
grows_reached before after held items moved grown read start filled count left new_left room is move size grow kept
    within consumes end few fits less =
    let at = filled - start in
    let counted = length-slice read at count within in
    grows_read (reachable left before) (reachable new_left after) held items moved grown read start filled count is move
    size grow kept within
    (reached_bytes before after (slice_range read at (at + count)) left new_left count consumes counted (omega arith)
    less)
    (λ none. reached_end after new_left (λ some. end none (omega arith)))

-- if the source tells the rest of the file, the bytes that a reader may still read are the first `left` of it
pub reachable_told : (left : ℕ) (rest : Option (List ℕ)) (bytes : List ℕ) → rest ≡ Some bytes
    → reachable left rest ≡ Some (take left bytes)
unfolding reachable
reachable_told left rest bytes told = ap (λ (some : Option (List ℕ)). reachable left some) told
