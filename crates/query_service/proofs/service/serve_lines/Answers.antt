use Rattle.std.proofs.Common.{refl}
use Rattle.query_service.specs.Streams.{streams}
use Rattle.query_service.proofs.ServeLemmas.{cut_in, served_in, stops_with}
use Rattle.query_service.proofs.service.serve_lines.Goals as goal

-- the lines were answered to the end of the input
pub returns-in-Ok : goal.returns-in-Ok
returns-in-Ok g c = record {
  served = served_in g.R.QueryInput g.W.AnswerOutput c.args.mode (g.Q.QueryEngine.contents c.args.engine.now)
      (streams c.args.input.now c.args.output.now c.args.errors.now)
      (streams c.run_in.new.input c.run_in.new.output c.args.errors.now) c.requires.lines
      (record { read = c.in-Ok.ensures.end; written = c.in-Ok.ensures.answers });
  not_failed = c.in-Ok.ensures.not_failed;
  told = refl;
}

-- the lines were answered until a fault, which was told
pub returns-in-Err : goal.returns-in-Err
returns-in-Err g c =
    let contents = g.Q.QueryEngine.contents c.args.engine.now in
    let before = streams c.args.input.now c.args.output.now c.args.errors.now in
    let after = streams c.run_in.new.input c.run_in.new.output c.tell_fault.new.errors in
    stops_with g.R.QueryInput g.W.AnswerOutput g.E.AnswerOutput c.args.mode contents c.in-Err.fault c.tell_fault.result
    before after c.tell_fault.ensures.status
    (cut_in g.R.QueryInput g.W.AnswerOutput c.args.mode c.in-Err.fault contents before after c.requires.lines
    c.in-Err.ensures.fault)
    c.in-Err.ensures.failed c.in-Err.ensures.turns c.tell_fault.ensures.told
