use Rattle.release_rows.specs.inside.VersionsInside.{taken_in}
use Rattle.release_rows.proofs.VersionLemmas.{taken_skip}
use Rattle.release_rows.proofs.versions.Versions.skip.Goals as goal

-- a row whose key is not repeated is taken
pub returns-clause-taken : goal.returns-clause-taken
returns-clause-taken c =
    rw (← c.self.view_is) (λ rows row. taken_skip (taken_in c.self.inside) c.push.new.self.items rows row
    c.in_ok-push.ensures.items)
