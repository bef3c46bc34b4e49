use Rattle.std.proofs.Common.{rules, ◌≡◌, filter, string_bytes, arith}
use Rattle.std.proofs.lemmas.Fn.{filter_same}
use Rattle.std.proofs.lemmas.List.Elements.{All-filter}
use Rattle.release_model.specs.Release.{Name}
use Rattle.row_lists.specs.inside.NamesInside.{IsPlaced, name_in}
use Rattle.row_lists.specs.declared.names.NameRow.{NameRow}
use Rattle.row_lists.proofs.NameLemmas.{map-filter}
use Rattle.row_lists.proofs.names.Names.retain_among.Goals as goal

-- the texts of the rows that are retained stand in the buffer
pub invariant_of-self : goal.invariant_of-self
invariant_of-self g c =
    let left =
    filter_same _ (λ (row : NameRow). g.C.KnownConcepts.knows c.args.concepts.now row.concept) _
    (λ x b f' k. search rules) _ _ c.retain.ensures.filtered in
    grind (
      arith,
      left,
      (All-filter (λ (row : NameRow). g.C.KnownConcepts.knows c.args.concepts.now row.concept)
          (IsPlaced (string_bytes c.self.inside.texts)) c.self.inside.rows.items c.self.invariant),
    )

-- the rows that are retained are those of the known concepts
pub returns : goal.returns
returns g c =
    let left : c.retain.new.self.items
    ≡ filter (λ (row : NameRow). g.C.KnownConcepts.knows c.args.concepts.now row.concept) c.self.inside.rows.items =
    filter_same _ _ _ (λ x b f' k. search rules) _ _ c.retain.ensures.filtered in
    grind (
      arith,
      left,
      (map-filter (name_in (string_bytes c.self.inside.texts))
          (λ (name : Name). g.C.KnownConcepts.knows c.args.concepts.now name.concept) c.self.inside.rows.items),
      c.self.view_is,
    )
