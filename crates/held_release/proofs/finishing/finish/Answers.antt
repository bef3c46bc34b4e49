use Rattle.std.proofs.lemmas.Bool.Decides.{nat_tests}
use Rattle.std.proofs.lemmas.Grind.{common_steps}
use Rattle.std.proofs.Common.{ℕ, ◌≡◌, ◌∙◌, ◌<◌, ◌^◌, All, List, ap, arith, filter_map, length, map, string_bytes, subst}
use Rattle.std.proofs.Common.{sym, true}
use Rattle.row_lists.specs.ListsRead.{read_in}
use Rattle.release_model.specs.Release.{Attribute, Name}
use Rattle.hierarchy.specs.Hierarchy.{IsWithin}
use Rattle.std.proofs.lemmas.List.{length-map}
use Rattle.held_release.specs.CodedRows.{row_coded, values_in}
use Rattle.held_release.specs.Line.{concept_line}
use Rattle.held_release.specs.Name.{name_among}
use Rattle.held_release.specs.Numbering.{numbered_row}
use Rattle.held_release.specs.ValuesInForce.{is_value_among}
use Rattle.held_release.specs.inside.Sorted.{in_file_order, sorted_in}
use Rattle.held_release.proofs.FinishLemmas.{attributes_among-values, finished-Ok, finished-Err}
use Rattle.held_release.proofs.FinishLemmas.{length-names_among, length-rising}
use Rattle.held_release.proofs.NumberingLemmas.{IsWithin-numbered, length-numbered}
use Rattle.held_release.proofs.finishing.finish.Goals as goal
use Rattle.held_release.proofs.finishing.finish.Goals.{After-len-in-Ok}

-- if there are fewer than 2^31 rows, there are fewer than 2^31 numbered rows
few_numbered : (concepts : List ℕ) (rows numbered : List (ℕ × ℕ)) → numbered ≡ filter_map (numbered_row concepts) rows
    → length rows < 2 ^ 31 → length numbered < 2 ^ 31
few_numbered concepts rows numbered are few =
    omega (arith, ap (λ (rows : List (ℕ × ℕ)). length rows) are, length-numbered concepts rows, few)

-- there are fewer than 2^31 is-a rows
few_isa : (c : After-len-in-Ok) → length c.in-Ok.hierarchy.isa.items < 2 ^ 31
few_isa c =
    few_numbered c.in_ok-concepts.concepts c.as_slice.result.now c.in-Ok.hierarchy.isa.items c.in-Ok.ensures.rows
    (omega (
      arith,
      ap (λ (rows : List (ℕ × ℕ)). length rows) c.as_slice.ensures.value,
      c.requires.few,
      c.requires.few_isa,
    ))

-- there are fewer than 2^31 member rows
few_members : (c : After-len-in-Ok) → length c.in_ok-lists-in-Ok.lists.members.items < 2 ^ 31
few_members c =
    few_numbered c.in_ok-concepts.concepts c.as_slice-in-Ok.result.now c.in_ok-lists-in-Ok.lists.members.items
    c.in_ok-lists-in-Ok.ensures.members
    (omega (
      arith,
      ap (λ (rows : List (ℕ × ℕ)). length rows) c.as_slice-in-Ok.ensures.value,
      c.requires.few,
      c.requires.few_members,
    ))

-- there are fewer than 2^31 attribute rows
few_attributes : (c : After-len-in-Ok) → length c.in_ok-lists-in-Ok.lists.attributes.rows.items < 2 ^ 31
few_attributes c =
    let coded = c.in_ok-lists-in-Ok.lists.attributes in
    omega (
      arith,
      c.in_ok-lists-in-Ok.ensures.coded.few,
      length-map coded.rows.items (row_coded c.in_ok-concepts.concepts coded.types.items
          (values_in c.in_ok-concepts.concepts coded.values)),
    )

-- there are fewer than 2^31 name rows
few_names : (c : After-len-in-Ok) → length c.in_ok-lists-in-Ok.lists.lines.names < 2 ^ 31
few_names c =
    omega (
      arith,
      ap (λ (names : List Name). length names) c.in_ok-lists-in-Ok.ensures.names,
      length-names_among c.in_ok-concepts.concepts c.args.read.lists.names,
      c.requires.few,
      c.requires.few_names,
    )

-- there are fewer than 2^31 concepts
pub new-requires-clause-few : goal.new-requires-clause-few
new-requires-clause-few c = grind (arith, common_steps, nat_tests, length-rising)

-- there are fewer than 2^32 name rows
pub lists_among-requires-clause-few : goal.lists_among-requires-clause-few
lists_among-requires-clause-few c = omega (arith, c.requires.few, c.requires.few_names)

-- there are fewer than 2^31 attribute rows before any is left out
pub lists_among-requires-clause-few_attributes : goal.lists_among-requires-clause-few_attributes
lists_among-requires-clause-few_attributes c = omega (arith, c.requires.few, c.requires.few_attributes)

-- the concepts, is-a rows and attribute rows together fit into 64 bits
pub overflow_add-listed-in-Ok : goal.overflow_add-listed-in-Ok
overflow_add-listed-in-Ok c =
    let known = (goal.at.overflow_add-listed-in-Ok c).After-len-in-Ok in
    omega (
      arith,
      c.from.ensures,
      c.len.type_inv,
      few_isa known,
      c.len-in-Ok.ensures,
      c.in-Ok.hierarchy.isa.ok.0,
      few_attributes known,
      c.len-in-Ok-2.ensures,
    )

-- the concepts, is-a rows, attribute rows and member rows together fit into 64 bits
pub overflow_add-listed-in-Ok-2 : goal.overflow_add-listed-in-Ok-2
overflow_add-listed-in-Ok-2 c =
    let known = (goal.at.overflow_add-listed-in-Ok-2 c).After-len-in-Ok in
    omega (
      arith,
      c.from.ensures,
      c.len.type_inv,
      few_isa known,
      c.len-in-Ok.ensures,
      c.in-Ok.hierarchy.isa.ok.0,
      few_attributes known,
      c.len-in-Ok-2.ensures,
      few_members known,
      c.len-in-Ok-3.ensures,
      c.in_ok-lists-in-Ok.lists.members.ok.0,
    )

-- all listed rows together, with the name rows, fit into 64 bits
pub overflow_add-listed-in-Ok-3 : goal.overflow_add-listed-in-Ok-3
overflow_add-listed-in-Ok-3 c =
    let known = (goal.at.overflow_add-listed-in-Ok-3 c).After-len-in-Ok in
    omega (
      arith,
      c.from.ensures,
      c.len.type_inv,
      few_isa known,
      c.len-in-Ok.ensures,
      c.in-Ok.hierarchy.isa.ok.0,
      few_attributes known,
      c.len-in-Ok-2.ensures,
      few_members known,
      c.len-in-Ok-3.ensures,
      c.in_ok-lists-in-Ok.lists.members.ok.0,
      few_names known,
      c.name_count.ensures,
    )

-- the fields of the snapshot agree: numbers are those of concepts, lines are the lines of concepts, and rows are
-- sorted and few
pub invariant_of-result : goal.invariant_of-result
invariant_of-result c =
    let known = (goal.at.invariant_of-result c).After-len-in-Ok in
    let concepts = c.in_ok-concepts.concepts in
    let lists = c.in_ok-lists-in-Ok.lists in
    let kept = c.in_ok-lists-in-Ok.ensures in (
      c.len.ensures.rising,
      subst (IsWithin (length concepts)) (sym c.in-Ok.ensures.rows) (IsWithin-numbered concepts c.as_slice.result.now),
      subst (IsWithin (length concepts)) (sym kept.members) (IsWithin-numbered concepts c.as_slice-in-Ok.result.now),
      kept.lines
          ∙ ap (λ (language : List ℕ). map (concept_line (name_among language lists.lines.names)) concepts)
          c.as_str.ensures.value,
      c.in-Ok.ensures.order,
      kept.sorted,
      kept.coded,
      subst (All (λ (row : Attribute). is_value_among concepts row.value ≡ true)) (sym kept.attributes)
          (attributes_among-values concepts c.args.read.lists.attributes),
      few_isa known,
      few_members known,
      c.rising-inactive.ensures.increasing,
    )

-- the snapshot that is answered is the one that `finished` makes of the rows that were read
pub returns-in_ok-lists-in-Ok-clause-ok : goal.returns-in_ok-lists-in-Ok-clause-ok
returns-in_ok-lists-in-Ok-clause-ok c =
    let listed = read_in c.args.read.lists in
    let concepts = c.in_ok-concepts.concepts in
    let lists = c.in_ok-lists-in-Ok.lists in
    finished-Ok (string_bytes c.args.language) c.args.files c.args.read.count listed concepts
    c.rising-inactive.result.items c.in-Ok.hierarchy.isa.items
    (in_file_order (sorted_in concepts lists.attributes)) lists.members.items lists.lines.names c.saturating_sub.result
    (grind (arith, c.in_ok-concepts.ensures, c.rising.ensures.rising)) c.rising-inactive.ensures.rising
    (grind (arith, c.in-Ok.ensures.rows, c.as_slice.ensures.value))
    c.in_ok-lists-in-Ok.ensures.attributes
    (grind (arith, c.in_ok-lists-in-Ok.ensures.members, c.as_slice-in-Ok.ensures.value))
    c.in_ok-lists-in-Ok.ensures.names
    (grind (arith, c.in-Ok.ensures.acyclic, c.as_slice.ensures.value))
    (omega (
      arith,
      c.in_ok-lists-in-Ok.ensures.sorted.count,
      length-map lists.attributes.rows.items (row_coded concepts lists.attributes.types.items
          (values_in concepts lists.attributes.values)),
    ))

-- the fault that is answered is the fault of `finished`
pub returns-in-Err-clause-err : goal.returns-in-Err-clause-err
returns-in-Err-clause-err c =
    finished-Err (string_bytes c.args.language) c.args.files c.args.read.count (read_in c.args.read.lists)
    c.in_ok-concepts.concepts
    c.in-Err.fault (grind (arith, c.in_ok-concepts.ensures, c.rising.ensures.rising))
    (grind (arith, c.in-Err.ensures.cycle, c.as_slice.ensures.value))
