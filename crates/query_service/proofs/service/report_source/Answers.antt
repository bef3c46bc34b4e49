use Rattle.std.proofs.Common.{Global, List, ℕ, Ok, Err, String, map, refl, string_bytes, subst, ◌∙◌}
use Rattle.query_service.specs.Serve.{Task, TellsLoadFault}
use Rattle.command_line.specs.declared.words.Mode.TheVariants.{Check}
use Rattle.query_service.proofs.ServeLemmas.{ends_cut, ends_reported, refuses_with}
use Rattle.query_service.proofs.service.report_source.Goals as goal

-- the report was written whole, so the request is done
pub returns-in-Ok-write_all : goal.returns-in-Ok-write_all
returns-in-Ok-write_all g c =
    let (contents, text, loads) = c.in-Ok.ensures.ok in
    let task : Task = record {
      mode = Check;
      loaded = Ok contents;
      names = map string_bytes c.report.new.names.items;
    } in
    let wrote = c.in-Ok-write_all.ensures in (
      task,
      record {
        mode_is = refl;
        loaded = loads;
      },
      ends_reported g.R.QueryInput g.W.AnswerOutput g.E.AnswerOutput task contents c.as_slice.result.now
          c.args.input.now
          c.args.output.now c.write_all.new.output c.args.errors.now refl refl (c.as_slice.ensures.value ∙ text)
          wrote.ok c.requires.input wrote.failure,
    )

-- the report was written in part, so the output has failed
pub returns-in-Ok : goal.returns-in-Ok
returns-in-Ok g c =
    let (contents, text, loads) = c.in-Ok.ensures.ok in
    let task : Task = record {
      mode = Check;
      loaded = Ok contents;
      names = map string_bytes c.report.new.names.items;
    } in
    let wrote = c.in-Err-write_all.ensures in (
      task,
      record {
        mode_is = refl;
        loaded = loads;
      },
      ends_cut g.R.QueryInput g.W.AnswerOutput g.E.AnswerOutput task contents c.as_slice.result.now c.args.input.now
          c.args.output.now c.write_all.new.output c.args.errors.now c.tell_fault.new.errors c.tell_fault.result refl
          refl (c.as_slice.ensures.value ∙ text)
          c.tell_fault.ensures.status wrote.err c.requires.input wrote.failure c.tell_fault.ensures.told,
    )

-- the files were refused, and nothing was written
pub returns : goal.returns
returns g c =
    let names : List (List ℕ) = map string_bytes c.report.new.names.items in
    let task : Task = record { mode = Check; loaded = Err c.in-Err.fault; names = names } in (
      task,
      record {
        mode_is = refl;
        loaded = c.in-Err.ensures.err;
      },
      refuses_with g.R.QueryInput g.W.AnswerOutput g.E.AnswerOutput task c.in-Err.fault c.refuse.result _ _ _ _ refl
          (subst (λ (texts : List (String Global)). TellsLoadFault g.E.AnswerOutput
          (map string_bytes texts) c.in-Err.fault c.refuse.result c.args.errors.now c.refuse.new.errors)
          c.as_slice-in-Err.ensures.value c.refuse.ensures),
    )
