use Rattle.std.proofs.Common.{ℕ, ◌≡◌, ◌<◌, ◌∷◌, [], List, arith, ap, length, map, string_bytes, sym, true, option_map}
use Rattle.std.proofs.lemmas.Bool.{false≢true}
use Rattle.std.proofs.lemmas.Bool.Decides.{nat_tests}
use Rattle.std.proofs.lemmas.Grind.{common_steps}
use Rattle.release_rows.specs.Files.{name_concepts}
use Rattle.snapshot.proofs.LoadLemmas.{load_named-is, load_of-none, names_concepts-listed}
use Rattle.release_rows.proofs.TakingLemmas.{at_told, if_told}
use Rattle.snapshot.proofs.load.SnapshotLoadSnapshot.load_named.Goals as goal

-- if one of the names is that of a Concept file, there is at least one name
some_name : {Item : Type 0} (name_of : Item → List ℕ) (items : List Item)
    → true ≡ name_concepts name_of items → 0 < length (map name_of items)
some_name name_of [] named = absurd (false≢true (sym named))
some_name name_of (item ∷ items) named = omega arith

-- there is at least one name, as `load_places` requires
pub load_places-requires-clause-some : goal.load_places-requires-clause-some
load_places-requires-clause-some g c = some_name string_bytes c.args.names.now c.if-not-name_concept_file.ensures

-- if no name is that of a Concept file, the load of the files answers that fault
pub returns-then-not-name_concept_file-clause-err : goal.returns-then-not-name_concept_file-clause-err
returns-then-not-name_concept_file-clause-err g c =
    grind (arith, common_steps, nat_tests, if_told, load_of-none, names_concepts-listed, string_bytes)

-- a snapshot that is answered is the load of the named files
pub returns-clause-ok : goal.returns-clause-ok
returns-clause-ok g c = if_told _ (g.S.FileSource.files c.args.source.now) (λ known told.
    grind (
      arith,
      (load_named-is c.args.limits c.in_force-limits.result c.args.lang.now known string_bytes
          c.args.names.now c.named_kind_count-kinds.result c.in_force-limits.ensures
          (sym c.if-not-name_concept_file.ensures) c.named_kind_count-kinds.ensures),
      (at_told _ _ _ (ap (option_map _) told) c.load_places.ensures.ok),
    ))

-- a fault that is answered, unless it is the device's, is that of the load of the named files, or want of memory
pub returns-clause-err : goal.returns-clause-err
returns-clause-err g c = if_told _ (g.S.FileSource.files c.args.source.now) (λ known told.
    grind (
      arith,
      (load_named-is c.args.limits c.in_force-limits.result c.args.lang.now known string_bytes
          c.args.names.now c.named_kind_count-kinds.result c.in_force-limits.ensures
          (sym c.if-not-name_concept_file.ensures) c.named_kind_count-kinds.ensures),
      told,
      c.load_places.ensures.err,
    ))
