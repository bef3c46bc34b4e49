use Rattle.std.proofs.Common.{Global, List, ℕ, Ok, Err, String, inl, map, refl, string_bytes, subst}
use Rattle.query_service.specs.Serve.{Task, TellsLoadFault}
use Rattle.query_service.proofs.ServeLemmas.{asked_of_files, refuses_with, within_standard}
use Rattle.query_service.proofs.service.answer_source.Goals as goal

-- the release of the files was loaded and served, so the request ends with the status of that
pub returns-in-Ok : goal.returns-in-Ok
returns-in-Ok g c =
    let names : List (List ℕ) = map string_bytes c.load_from.new.names.items in
    let contents = g.Q.QueryEngine.contents c.in-Ok.engine in
    let task : Task = record { mode = c.args.mode; loaded = Ok contents; names = names } in (
      task,
      record {
        mode_is = refl;
        loaded = asked_of_files task c.args.mode c.requires.files
            (within_standard _ _ _ c.standard.result c.args.lang.now names (Ok contents) c.standard.ensures
            c.in-Ok.ensures);
      },
      inl (record { contents = contents; loaded = refl; ended = c.answer_lines.ensures }),
    )

-- the files were refused, and nothing was read or written
pub returns : goal.returns
returns g c =
    let names : List (List ℕ) = map string_bytes c.load_from.new.names.items in
    let task : Task = record { mode = c.args.mode; loaded = Err c.in-Err.fault; names = names } in (
      task,
      record {
        mode_is = refl;
        loaded = asked_of_files task c.args.mode c.requires.files
            (within_standard _ _ _ c.standard.result c.args.lang.now names (Err c.in-Err.fault) c.standard.ensures
            c.in-Err.ensures);
      },
      refuses_with g.R.QueryInput g.W.AnswerOutput g.E.AnswerOutput task c.in-Err.fault c.refuse.result _ _ _ _ refl
          (subst (λ (texts : List (String Global)). TellsLoadFault g.E.AnswerOutput
          (map string_bytes texts) c.in-Err.fault c.refuse.result c.args.errors.now c.refuse.new.errors)
          c.as_slice.ensures.value c.refuse.ensures),
    )
