use Rattle.query_tool.proofs.PromiseLemmas.{limited_promise_kept}
use Rattle.query_tool.proofs.laws.limited_promise_is_kept.Goals as goal

-- a query request with options that ends with status 0 keeps the promise under a limit
pub returns : goal.returns
returns g c = limited_promise_kept c.rising_keeps_the_members.ensures g.R.QueryInput g.W.AnswerOutput g.E.AnswerOutput
