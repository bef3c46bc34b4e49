use Rattle.std.proofs.Common.{◌≡◌, arith, map}
use Rattle.release_files.specs.MemorySource.{nothing_done}
use Rattle.release_files.specs.Source.{file_text}
use Rattle.snapshot.specs.Load.{load_of, loaded_from}
use Rattle.release_rows.specs.Files.{places_from}
use Rattle.snapshot.proofs.LoadLemmas.{kind_count-is, load_of-named, load_of-none, names_concepts-is}
use Rattle.release_rows.proofs.TakingLemmas.{if_both, no_device}
use Rattle.snapshot.proofs.load.SnapshotLoadSnapshot.load.Goals as goal
use Rattle.std.proofs.lemmas.Grind.{common_steps}
use Rattle.std.proofs.lemmas.Bool.Decides.{nat_tests}

-- if no file has the name of a Concept file, the load of the files answers that fault
pub returns-then-not-has_concept_file-clause-err : goal.returns-then-not-has_concept_file-clause-err
returns-then-not-has_concept_file-clause-err c other =
    grind (
      arith,
      common_steps,
      nat_tests,
      load_of-none,
      (names_concepts-is file_text c.args.files.now),
      c.if-not-has_concept_file.ensures,
    )

-- a snapshot that is answered is the load of the files
pub returns-clause-ok : goal.returns-clause-ok
returns-clause-ok c = grind (
  arith,
  c.in_force.ensures,
  (load_of-named c.args.limits c.args.lang.now
      (map file_text c.args.files.now) c.kind_count.result),
  (names_concepts-is file_text c.args.files.now),
  c.if-not-has_concept_file.ensures,
  c.kind_count.ensures,
  (kind_count-is file_text c.args.files.now),
  c.load_places.ensures.ok,
)

-- a fault that is answered is that of the load of the files, or want of memory
pub returns-clause-err : goal.returns-clause-err
returns-clause-err c =
    let loaded : loaded_from c.in_force.result c.args.lang.now c.kind_count.result
    (places_from 0 (map file_text c.args.files.now))
    ≡ load_of c.args.limits c.args.lang.now (map file_text c.args.files.now) =
    grind (
      arith,
      c.in_force.ensures,
      (load_of-named c.args.limits c.args.lang.now (map file_text c.args.files.now) c.kind_count.result),
      (names_concepts-is file_text c.args.files.now),
      c.if-not-has_concept_file.ensures,
      c.kind_count.ensures,
      (kind_count-is file_text c.args.files.now),
    ) in
    if_both _ _ _ c.load_places.result (λ fault said failed. grind
    (arith, loaded, said, (no_device _ nothing_done fault (omega arith) failed))) c.load_places.ensures.err
    c.load_places.ensures.device
