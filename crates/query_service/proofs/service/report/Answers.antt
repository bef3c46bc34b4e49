use Rattle.std.proofs.Common.{◌∙◌, ap}
use Rattle.answer_printer.specs.ReportText.{report_text}
use Rattle.query_service.proofs.ServeLemmas.{fault_loaded, report_loaded, text_refused}
use Rattle.query_service.proofs.service.report.Goals as goal

-- the printed text is the report of the loaded release
pub returns-in_ok-printed-in-Ok-clause-ok : goal.returns-in_ok-printed-in-Ok-clause-ok
returns-in_ok-printed-in-Ok-clause-ok g c =
    let (loaded, tells, loads) = c.in-Ok.ensures in
    let (contents, is, whole) = report_loaded _ _ _ _ _ _ loaded c.in-Ok.report tells c.standard.ensures loads in
    (contents, c.in_ok-printed-in-Ok.ensures ∙ ap report_text is, whole)

-- the release was loaded, but memory for the text of its report was refused
pub returns-in_err-printed-in-Ok-clause-err : goal.returns-in_err-printed-in-Ok-clause-err
returns-in_err-printed-in-Ok-clause-err g c =
    let (loaded, tells, loads) = c.in-Ok.ensures in
    let (contents, is, whole) = report_loaded _ _ _ _ _ _ loaded c.in-Ok.report tells c.standard.ensures loads in
    text_refused _ _ _ _ _ contents c.from_residual.result c.from_residual.ensures.1 whole

-- the files were refused
pub returns-in-Err-clause-err : goal.returns-in-Err-clause-err
returns-in-Err-clause-err g c =
    let (loaded, tells, loads) = c.in-Err.ensures in
    fault_loaded _ _ _ _ _ _ loaded c.in-Err.fault tells c.standard.ensures loads
