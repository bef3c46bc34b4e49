use Rattle.std.proofs.Common.{sym}
use Rattle.session_line.proofs.RequestLemmas.{digits_utf8}
use Rattle.session_line.proofs.request.number.Goals as goal

-- `from_utf8` does not refuse digits, since they are UTF-8
pub returns-in-Err : goal.returns-in-Err
returns-in-Err c =
    absurd (c.in-Err.ensures.cases.0 (digits_utf8 c.args.text.now (sym c.if-not-is_all_digits.ensures)))
