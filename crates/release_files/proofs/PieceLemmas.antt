-- The lines to come of a file that is read in pieces, at its beginning and after a byte order mark.
use Rattle.std.proofs.Common.{◌≡◌, ◌⊎◌, ℕ, ◌+◌, ◌^◌, ◌<◌, ◌≤◌, Bool, true, false, List, [], ◌∷◌, ◌++◌, length, take}
use Rattle.std.proofs.Common.{drop, refl, sym, ap, ◌∙◌, inl, inr, append-nil, length-append, length-drop, if◌then◌else◌}
use Rattle.std.proofs.Common.{bytes_eq, arith}
use Rattle.std.specs.List.{concat}
use Rattle.std.proofs.lemmas.List.{take-append-le, drop-append-le}
use Rattle.release_files.specs.Lines.{byte_order_mark, lines_of, mark_length, numbered, parts}
use Rattle.release_files.specs.PieceLines.{KeepsLines, counted, counted_lines, lines_at}
use Rattle.release_files.specs.Held.{KeepsBytes}
use Rattle.release_files.specs.declared.piece_lines.PieceLines.{PieceLines}
use Rattle.std.specs.Io.KnownBytes.{IsAtEnd}
use Rattle.std.specs.Prelude.{Option, None, Some}
use Rattle.release_files.specs.declared.piece_lines.Stage.TheVariants.{Fresh, Begun}
use Rattle.release_files.proofs.Parts.{length-parts, lines_of_parts}

-- if no count reaches u64::MAX, counted lines are numbered lines
counted_numbered : (number end : ℕ) (cut : List (List ℕ)) → number + length cut < 2 ^ 64
    → end + length (concat cut) < 2 ^ 64 → counted_lines number end cut ≡ numbered number end cut
counted_numbered number end [] few short = refl
counted_numbered number end (part ∷ cut) few short =
    let same_number : counted number 1 ≡ number + 1 = omega arith in
    let same_end : counted end (length part) ≡ end + length part = omega (arith, length-append part (concat cut)) in
    let others = counted_numbered (number + 1) (end + length part) cut (omega arith)
    (omega (arith, length-append part (concat cut))) in
    rw (same_number, same_end, others) refl

mark_of-le : (has : Bool) → (if has then 3 else 0) ≤ 3
mark_of-le true = omega arith
mark_of-le false = omega arith

-- a byte order mark has at most three bytes
mark_length-le : (bytes : List ℕ) → mark_length bytes ≤ 3
mark_length-le bytes = mark_of-le (bytes_eq (take 3 bytes) byte_order_mark)

-- if nothing was read of a file of less than 2^64 bytes, the lines to come are all its lines
pub fresh_lines : (held bytes : List ℕ) → held ≡ [] → length bytes < 2 ^ 64
    → counted_lines 0 (mark_length (held ++ bytes)) (parts (drop (mark_length (held ++ bytes)) (held ++ bytes)))
    ≡ lines_of bytes
unfolding lines_of
fresh_lines held bytes none short =
    let mark = mark_length bytes in
    let following : List ℕ = drop mark bytes in
    rw none (counted_numbered 0 mark (parts following)
    (omega (arith, length-parts following, length-drop mark bytes))
    (omega (arith, ap length (lines_of_parts following).1, length-drop mark bytes, mark_length-le bytes)))

-- the first three bytes of a file, or all if there are fewer, tell its byte order mark
mark_length-front : (held rest : List ℕ) → (3 ≤ length held) ⊎ (rest ≡ [])
    → mark_length (held ++ rest) ≡ mark_length held
mark_length-front held rest (inl enough) =
    ap (λ (front : List ℕ). if bytes_eq front byte_order_mark then 3 else 0) (take-append-le 3 held rest enough)
mark_length-front held rest (inr end) = ap mark_length (ap (λ (bytes : List ℕ). held ++ bytes) end ∙ append-nil held)

-- the lines before the first one was cut are those after the byte order mark was dropped
begun_lines : (held rest : List ℕ) (number end mark : ℕ) → (3 ≤ length held) ⊎ (rest ≡ []) → mark ≡ mark_length held
    → mark ≤ length held
    → lines_at Fresh number end (held ++ rest) ≡ lines_at Begun 0 mark (drop mark held ++ rest)
begun_lines held rest number end mark enough is within =
    let same : mark_length (held ++ rest) ≡ mark = mark_length-front held rest enough ∙ sym is in
    ap (λ (n : ℕ). counted_lines 0 n (parts (drop n (held ++ rest)))) same
    ∙ ap (λ (bytes : List ℕ). counted_lines 0 mark (parts bytes)) (drop-append-le mark held rest within)

-- the lines to come stay the same if a reader first reads 3 bytes, or all there are, and then drops a byte order mark
-- at the front of them
pub begun_keeps : (old new : PieceLines) (before after : Option (List ℕ)) (held : List ℕ)
    → old.stage ≡ Fresh → new.stage ≡ Begun → new.number ≡ 0 → new.end ≡ mark_length held → new.end ≤ length held
    → new.held.bytes ≡ drop new.end held → (3 ≤ length held) ⊎ IsAtEnd after
    → KeepsBytes before after old.held.bytes held → KeepsLines old new before after
begun_keeps old new None after held fresh begun none is within following enough kept = tt
begun_keeps old new (Some before) None held fresh begun none is within following enough kept = absurd kept
begun_keeps old new (Some before) (Some after) held fresh begun none is within following enough kept =
    rw (fresh, begun, none, following) (ap (lines_at Fresh old.number old.end) kept
    ∙ begun_lines held after old.number old.end new.end enough is within)
