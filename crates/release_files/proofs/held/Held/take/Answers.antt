use Rattle.std.proofs.Common.{◌∙◌, ap, ◌-◌, arith, drop, length, length-take}
use Rattle.release_files.proofs.HeldLemmas.{slice_after}
use Rattle.release_files.proofs.held.Held.take.Goals as goal

-- the sum of `start` and `count` does not overflow, since that many bytes are held
pub overflow_add-self : goal.overflow_add-self
overflow_add-self c =
    let inside = c.self.inside in
    let following = drop inside.start inside.buffer.items in
    record {
      fits = omega (
        arith,
        ap (λ held. length held.bytes) c.self.view_is,
        length-take (inside.filled - inside.start) following,
      );
    }

-- the bytes that are left are those held, without the first `count`
pub returns-clause-bytes : goal.returns-clause-bytes
returns-clause-bytes c =
    slice_after c.self.inside.buffer.items c.self.inside.start c.args.count c.self.inside.filled
    (omega (arith, ap (λ held. length held.bytes) c.self.view_is))
    ∙ ap (λ held. drop c.args.count held.bytes) c.self.view_is
