-- The piece follows the bytes that were held.
use Rattle.std.proofs.Common.{◌≡◌, ◌+◌, ◌-◌, ◌∙◌, ℕ, List, ap, sym, arith, length, take}
use Rattle.std.specs.Vec.{with_items}
use Rattle.std.proofs.lemmas.List.{with_items_is}
use Rattle.release_files.proofs.HeldLemmas.{few_bytes, grows_reached, takes_read}
use Rattle.release_files.proofs.held.Held.read_piece.Goals as goal

-- the bytes that are held grow by the piece that was read
pub returns-clause-piece : goal.returns-clause-piece
returns-clause-piece g c =
    let inside = c.self.inside in
    let at = inside.filled - inside.start in
    let moved = c.move_to_front.new.buffer in
    let grown = c.grow.new.buffer in
    let read = c.read_after.new.buffer in
    let moved_long : length moved ≡ inside.buffer.len = c.move_to_front.auto.buffer ∙ c.as_mut_slice.ensures.len in
    let moved_is : (with_items inside.buffer moved).items ≡ moved = with_items_is inside.buffer moved moved_long in
    let read_is : (with_items grown read).items ≡ read =
    with_items_is grown read (c.read_after.auto.buffer ∙ c.as_mut_slice-2.ensures.len) in
    let left_is : inside.left ≡ c.args.self.now.left = ap (λ held. held.left) c.self.view_is in
    rw read_is (grows_reached
    (g.S.FileSource.rest c.args.source.now) (g.S.FileSource.rest c.read_after.new.source)
    c.args.self.now.bytes inside.buffer.items moved grown.items read inside.start inside.filled c.in_ok-count.count
    c.args.self.now.left (inside.left - c.in_ok-count.count) c.min-room.result
    (ap (λ held. held.bytes) (sym c.self.view_is))
    (rw c.as_mut_slice.ensures.value at c.move_to_front.ensures)
    (omega arith)
    (ap (λ (n : ℕ). take n grown.items) moved_long ∙ c.grow.ensures.kept ∙ moved_is)
    (c.in_ok-count.ensures.kept ∙ ap (λ (items : List ℕ). take at items) c.as_mut_slice-2.ensures.value)
    c.in_ok-count.ensures.within
    c.in_ok-count.ensures.piece
    c.in_ok-count.ensures.end
    c.in_ok-count.ensures.few
    (omega (arith, c.min-room.ensures, left_is))
    (omega (arith, left_is)))

-- if the source fails, fewer than 2^64 bytes are held
pub returns-in_err-count-clause-room : goal.returns-in_err-count-clause-room
returns-in_err-count-clause-room g c = few_bytes _ 0 (c.self.inside.filled - c.self.inside.start) (omega arith)

-- after a read fewer than 2^64 bytes are held
pub returns-clause-room : goal.returns-clause-room
returns-clause-room g c =
    few_bytes _ 0 (c.self.inside.filled - c.self.inside.start + c.in_ok-count.count)
    (omega (arith, c.in_ok-count.ensures.few, c.min-room.ensures))

-- a read takes no more bytes than may be read
pub returns-clause-bounded : goal.returns-clause-bounded
returns-clause-bounded g c =
    let inside = c.self.inside in
    takes_read (g.S.FileSource.rest c.args.source.now) (g.S.FileSource.rest c.read_after.new.source)
    c.read_after.new.buffer
    (inside.filled - inside.start) c.in_ok-count.count inside.left c.args.self.now.left c.min-room.result
    c.in_ok-count.ensures.piece c.in_ok-count.ensures.within c.in_ok-count.ensures.few c.min-room.ensures
    (ap (λ held. held.left) c.self.view_is)

-- the number of bytes that may be read falls by as many as were read
pub returns-clause-counted : goal.returns-clause-counted
returns-clause-counted g c =
    omega (arith, c.in_ok-count.ensures.few, c.min-room.ensures, ap (λ held. held.left) c.self.view_is)
