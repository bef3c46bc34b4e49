use Rattle.std.proofs.Common.{List, subst}
use Rattle.release_model.specs.Release.{Attribute}
use Rattle.held_release.specs.AttributesBySource.{attributes_by_source}
use Rattle.held_release.specs.CodedRows.{AreCodedRows}
use Rattle.held_release.specs.Contents.{Contents}
use Rattle.held_release.proofs.held_release.Snapshot.coded_rows.Goals as goal

-- the stored rows encode the attribute rows by source
pub returns : goal.returns
returns c =
    let inside = c.self.inside in
    subst (λ (contents : Contents).
    AreCodedRows contents.release.concepts (attributes_by_source contents.release) inside.attributes) c.self.view_is
    (subst (λ (rows : List Attribute). AreCodedRows inside.concepts rows inside.attributes)
    c.self.invariant.5.by_source c.self.invariant.6)
