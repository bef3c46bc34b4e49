use Rattle.query_tool.proofs.AnswerLemmas.{an_answer_each, one_answer_each}
use Rattle.query_tool.proofs.laws.one_answer.Goals as goal

-- each query line has an answer
pub returns-clause-some : goal.returns-clause-some
returns-clause-some c = an_answer_each c.one_reading.ensures.either

-- no query line has two answers
pub returns-clause-one : goal.returns-clause-one
returns-clause-one c =
    one_answer_each c.one_reading.ensures.tree c.one_reading.ensures.refusal c.one_reading.ensures.not_both
