use Rattle.std.proofs.Common.{Ok, Err, ap, refl}
use Rattle.query_tool.proofs.serving.EngineQueryEngine.report_from.Goals as goal

-- the report is that of the loaded release
pub returns-in-Ok : goal.returns-in-Ok
returns-in-Ok g c = (Ok c.in-Ok.snapshot, ap Ok c.report_and_drop.ensures, c.in-Ok.ensures.loads)

-- the files were refused
pub returns-in-Err : goal.returns-in-Err
returns-in-Err g c = (Err c.in-Err.fault, refl, c.in-Err.ensures.loads)
