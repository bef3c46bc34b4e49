-- The search begins after the bytes that were searched.
use Rattle.std.proofs.Common.{◌≡◌, ◌<◌, ℕ, ◌+◌, length, drop, take, sym, subst, add-one, length-drop, arith, get_or}
use Rattle.std.proofs.Common.{true, eqb}
use Rattle.std.proofs.lemmas.List.{get_or-drop, take_rest, take_all}
use Rattle.release_files.specs.Held.{IsEndedPart}
use Rattle.release_files.specs.Lines.{HasNoFeed}
use Rattle.release_files.proofs.HeldLemmas.{clear_further, ended_part}
use Rattle.release_files.proofs.held.ended_length.Goals as goal

-- the bytes up to the line feed that is found, with it, are an ended part
pub returns-in-Some : goal.returns-in-Some
returns-in-Some c =
    let bytes = c.args.bytes.now in
    let searched = c.args.searched in
    let at = c.in-Some.at in
    let found = rw (take_rest bytes searched) at c.in-Some.ensures in
    let below : at < length (drop searched bytes) = found.0 in
    let clear : HasNoFeed (take (searched + at) bytes) =
    clear_further bytes searched at c.requires.clear (omega arith) found.1 in
    let fits : searched + at < length bytes = omega (arith, length-drop searched bytes) in
    let is : eqb (get_or bytes (searched + at) 0) 10 ≡ true = rw (get_or-drop searched bytes at 0) at found.2 in (
      omega arith,
      omega arith,
      subst (λ (n : ℕ). IsEndedPart (take n bytes)) (sym (add-one (searched + at)))
          (ended_part bytes (searched + at) fits clear is),
    )

-- if no line feed is found after the searched bytes, there is none
pub returns-in-None : goal.returns-in-None
returns-in-None c =
    let bytes = c.args.bytes.now in
    let searched = c.args.searched in
    let found = rw (take_rest bytes searched) at c.in-None.ensures in
    let long = length (drop searched bytes) in
    let clear : HasNoFeed (take (searched + long) bytes) =
    clear_further bytes searched long c.requires.clear (omega arith) found in
    subst HasNoFeed (take_all (searched + long) bytes (omega (arith, length-drop searched bytes))) clear
