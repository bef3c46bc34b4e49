use Rattle.std.proofs.Common.{Some, string_bytes, arith}
use Rattle.std.proofs.lemmas.Option.{slice_get-get_or}
use Rattle.std.proofs.lemmas.Result.{on_ok_weaker}
use Rattle.held_release.specs.Line.{concept_line}
use Rattle.row_lists.specs.LentRows.{name_read}
use Rattle.held_release.proofs.KeptNameLemmas.{noted-extends, noted-set}
use Rattle.held_release.proofs.lines.write_line.Goals as goal

-- the line has the term of the row at `place` as name
pub returns-in_ok-span-in-Some-clause-line : goal.returns-in_ok-span-in-Some-clause-line
returns-in_ok-span-in-Some-clause-line c =
    let names = c.args.names.now in
    let name = name_read c.row.result in
    let there = slice_get-get_or names c.in-Some.place name in
    grind (arith, c.in_ok-span-in-Some.ensures.line, c.in-Some.is, c.requires.within, there, (c.row.ensures name))

-- the span of the name is noted for the row at `place`
pub returns-in_ok-span-in-Some-clause-noted : goal.returns-in_ok-span-in-Some-clause-noted
returns-in_ok-span-in-Some-clause-noted c =
    let names = c.args.names.now in
    let name = name_read c.row.result in
    let kept = noted-extends names (string_bytes c.args.texts.now)
    (string_bytes c.push_named.new.texts) c.args.spans.now.items c.requires.noted
    (concept_line (λ _. Some name.term) c.args.concept, c.in_ok-span-in-Some.ensures.line) in
    noted-set names (string_bytes c.push_named.new.texts) c.args.spans.now.items c.in-Some.place name
    c.in_ok-span-in-Some.span kept (grind (
      arith,
      c.in-Some.is,
      c.requires.within,
      (slice_get-get_or names c.in-Some.place name),
      (c.row.ensures name),
    )) c.in_ok-span-in-Some.ensures.span

-- the spans noted before stay valid when a line without a name follows
pub returns-in-None-clause-noted : goal.returns-in-None-clause-noted
returns-in-None-clause-noted c =
    grind (
      arith,
      on_ok_weaker,
      (noted-extends c.args.names.now (string_bytes c.args.texts.now)
          (string_bytes c.push_bare.new.texts) c.args.spans.now.items c.requires.noted),
      c.push_bare.ensures,
    )
