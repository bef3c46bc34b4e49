use Rattle.query_tool.proofs.PromiseLemmas.{promise_kept}
use Rattle.query_tool.proofs.laws.promise_is_kept.Goals as goal

-- a query request that ends with status 0 keeps the promise
pub returns : goal.returns
returns g c = promise_kept c.rising_keeps_the_members.ensures g.R.QueryInput g.W.AnswerOutput g.E.AnswerOutput
