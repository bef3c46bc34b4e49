use Rattle.release_rows.specs.inside.VersionsInside.{taken_in}
use Rattle.release_rows.proofs.VersionLemmas.{chosen_are}
use Rattle.release_rows.proofs.versions.Versions.chosen.Goals as goal

-- the marks without those of outdated versions are the choices among the rows
pub returns : goal.returns
returns c = rw (← c.self.view_is) (λ rows before covers. chosen_are
    (taken_in c.self.inside) c.self.invariant.rising rows before covers c.leave_latest.new.chosen.items
    c.leave_latest.ensures)
