use Rattle.query_service.proofs.ServeLemmas.{ends_sample, refuses_sample}
use Rattle.query_service.proofs.service.answer_sample.Goals as goal

-- the built-in release was loaded and served, so the request ends with the status of that
pub returns-in-Ok : goal.returns-in-Ok
returns-in-Ok g c =
    ends_sample g.R.QueryInput g.W.AnswerOutput g.E.AnswerOutput
    (g.Q.QueryEngine.contents c.in-Ok.engine) c.answer_lines.result _ _ c.in-Ok.ensures.ok c.answer_lines.ensures

-- the built-in release could not be loaded, so memory was refused
pub returns-in-Err : goal.returns-in-Err
returns-in-Err g c =
    refuses_sample g.R.QueryInput g.W.AnswerOutput g.E.AnswerOutput c.in-Err.fault c.refuse.result _ _ _ _
    c.in-Err.ensures.err c.refuse.ensures
