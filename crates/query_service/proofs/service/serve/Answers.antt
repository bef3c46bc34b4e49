use Rattle.std.proofs.Common.{refl}
use Rattle.query_service.specs.Serve.{sample_task}
use Rattle.query_service.proofs.ServeLemmas.{asked_as}
use Rattle.query_service.proofs.service.serve.Goals as goal

-- in the mode `Sample` the built-in release is served
pub returns-in-Sample-clause-served : goal.returns-in-Sample-clause-served
returns-in-Sample-clause-served g c = (
  sample_task,
  asked_as _ _ _ _ _ _ _ sample_task c.in-Sample.is refl (record { mode_is = refl; loaded = refl }),
  c.answer_sample.ensures,
)

-- in the mode `Check` the report of the files' release is written
pub returns-in-Check-clause-served : goal.returns-in-Check-clause-served
returns-in-Check-clause-served g c =
    let (task, is, ends) = c.report_source.ensures in
    (task, asked_as _ _ _ _ _ _ _ task c.in-Check.is c.as_str-lang.ensures.value is, ends)

-- in every other mode the lines are answered over the files' release
pub returns-in_default-clause-served : goal.returns-in_default-clause-served
returns-in_default-clause-served g c =
    let (task, is, ends) = c.answer_source.ensures in
    (task, asked_as _ _ _ _ _ _ _ task refl c.as_str-lang.ensures.value is, ends)
