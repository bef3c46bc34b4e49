-- A line takes its bytes from the rest.
use Rattle.std.proofs.Common.{ap, arith, length, length-append}
use Rattle.release_files.proofs.lines.LinesIterator.next.Goals as goal

-- the offset after the line does not overflow
pub overflow_add-self-2 : goal.overflow_add-self-2
overflow_add-self-2 c =
    let (part, rest) = c.first_part.result in
    record { fits = omega (arith, ap length c.first_part.ensures.joined, length-append part.now rest.now) }

-- after a line the number and the offset keep to the invariant
pub invariant_of-self : goal.invariant_of-self
invariant_of-self c =
    let (part, rest) = c.first_part.result in
    (omega arith, omega (arith, ap length c.first_part.ensures.joined, length-append part.now rest.now))
