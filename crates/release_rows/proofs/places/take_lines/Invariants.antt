use Rattle.std.proofs.Common.{map}
use Rattle.release_rows.specs.Files.{later_line}
use Rattle.release_rows.proofs.TakingLemmas.{Leads}
use Rattle.release_rows.proofs.places.take_lines.Given as goal

-- before each line the lines left decide about all lines
abbrev pub invariant-loop-line : goal.invariant-loop-line
invariant-loop-line g l =
    Leads g.T.PlaceTaker.takes g.T.PlaceTaker.refuses l.initial.taker
    (map (later_line l.file l.kind) l.fn.lines) l.taker (map (later_line l.file l.kind) l.line-iterator)
