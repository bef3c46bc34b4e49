use Rattle.std.proofs.Common.{◌∙◌, ap, string_bytes}
use Rattle.held_release.specs.inside.LinesInside.{lines_between}
use Rattle.held_release.proofs.LineLemmas.{lines-append}
use Rattle.held_release.proofs.lines.lines_by_place.Goals as goal

-- the lines do not change when language codes and terms follow them in the buffer
pub returns-clause-lines : goal.returns-clause-lines
returns-clause-lines c = λ language are.
    ap (lines_between c.in_ok-starts.starts.items) (c.shrink_to_fit.ensures.bytes ∙ c.in_ok-kept.ensures.grown.1)
    ∙ lines-append c.in_ok-starts.starts.items (string_bytes c.write_lines.new.texts) c.in_ok-kept.ensures.grown.0
    c.in_ok-starts.ensures.starts
    ∙ c.in_ok-starts.ensures.lines language are
