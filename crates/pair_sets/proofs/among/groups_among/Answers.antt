use Rattle.std.proofs.Common.{ℕ, Bool, Vec, ◌≡◌, ◌<◌, ◌∙◌, ◌∷◌, ◌++◌, [], All, List, sym, ap, subst, true, false, cond}
use Rattle.std.proofs.Common.{get_or, length, arith, take, append-nil}
use Rattle.std.specs.Prelude.{filter, slice_get}
use Rattle.std.proofs.lemmas.List.{take_all}
use Rattle.std.proofs.lemmas.List.Elements.{All-append}
use Rattle.std.proofs.lemmas.List.Elements.{filter_more}
use Rattle.release_model.specs.Release.{Value}
use Rattle.constraint_tree.specs.Passing.{lies_in}
use Rattle.postings.specs.Groups.{groups_in}
use Rattle.pair_sets.specs.inside.Among.{pairs_among, rows_of_group_number}
use Rattle.reading.specs.Counted.{CountsWithin}
use Rattle.reading.proofs.CountLemmas.{counted_all, counted_next, counted_out, counted_some}
use Rattle.candidates.specs.Extents.{group_row_count}
use Rattle.pair_sets.proofs.AmongLemmas.{group_below, group_count, group_told}
use Rattle.pair_sets.proofs.TimesLemmas.{one_below}
use Rattle.candidates.specs.Numbers.{is_one_of}
use Rattle.pair_sets.specs.Tested.{passes_of}
use Rattle.pair_sets.proofs.among.groups_among.Goals as goal
use Rattle.pair_sets.proofs.among.groups_among.Goals.{then-lies_in+in_ok-push, else-lies_in}

-- the rows of the group at hand are numbers of rows
pub pairs_among-pairs-requires-clause-rows : goal.pairs_among-pairs-requires-clause-rows
pairs_among-pairs-requires-clause-rows g c =
    let groups = groups_in c.args.reader.indexes.now in
    let group : ℕ = get_or c.args.groups.now c.loop-group.group-index 0 in
    subst (All (λ n. n < length c.args.reader.indexes.now.rows)) (sym
    (group_told c.args.reader.indexes.now group c.unit_rows-rows.result.now
    (c.requires.groups c.loop-group.group-index 0 c.loop-group-test.true) c.unit_rows-rows.ensures.items))
    (group_below c.args.reader.indexes.now (slice_get groups group))

-- the group at hand is kept if `count` has the number of its pairs, and its rows are counted
pub loop-group-preserved : goal.loop-group-preserved
loop-group-preserved g c =
    let indexed = c.args.reader.indexes.now in
    let one : ℕ → Bool = is_one_of indexed.concepts (g.S.ConceptSet.items_of c.args.types.now) in
    let passes : Value → Bool = passes_of g.S.ConceptSet.items_of indexed.concepts c.args.tested.now in
    let concepts = c.args.groups.now in
    let k = c.loop-group.group-index in
    let concept : ℕ = get_or concepts k 0 in
    let rows_are : c.unit_rows-rows.result.now ≡ rows_of_group_number indexed (slice_get (groups_in indexed) concept) =
    group_told indexed concept c.unit_rows-rows.result.now (c.requires.groups k 0 c.loop-group-test.true)
    c.unit_rows-rows.ensures.items in
    let test : ℕ → Bool =
    λ number. lies_in c.args.count
    (pairs_among indexed true one passes (rows_of_group_number indexed (slice_get (groups_in indexed) number))) in
    let read : CountsWithin (group_row_count indexed concept) c.loop-group.visits c.unit_rows-rows.new.visits =
    counted_out c.unit_rows-rows.ensures.counted
    (omega (
      arith,
      ap (λ (rows : List ℕ). length rows) rows_are,
      group_count indexed
          (slice_get (groups_in indexed) concept),
    )) in
    elim c.if-lies_in.branch [
      | then-lies_in+in_ok-push w ↦ record {
        within = subst (All (λ number. number < length (groups_in indexed)))
            (sym (ap (λ (v : Vec ℕ _). v.items) w.kept-is ∙ w.in_ok-push.ensures.items))
            (All-append (λ number. number < length (groups_in indexed)) c.loop-group.kept.items (concept ∷ [])
            c.loop-group.invariant.within
            (one_below (length (groups_in indexed)) concept (c.requires.groups k 0 c.loop-group-test.true)));
        kept =
            let here : test concept ≡ true =
            ap (lies_in c.args.count) (ap (pairs_among indexed true one passes) (sym rows_are)
            ∙ sym c.pairs_among-pairs.ensures) ∙ sym c.lies_in.ensures ∙ w.if-lies_in.true in
            ap (λ (v : Vec ℕ _). v.items) w.kept-is ∙ w.in_ok-push.ensures.items
            ∙ (λ i. c.loop-group.invariant.kept i ++ cond (sym here i) (concept ∷ []) [])
            ∙ sym (filter_more test concepts k 0 c.loop-group-test.true);
        counted = counted_next (group_row_count indexed) concepts k c.loop-group-test.true
            c.loop-group.invariant.counted read;
      }
      | else-lies_in w ↦ record {
        within = subst (All (λ number. number < length (groups_in indexed)))
            (sym (ap (λ (v : Vec ℕ _). v.items) w.kept-is)) c.loop-group.invariant.within;
        kept =
            let here : test concept ≡ false =
            ap (lies_in c.args.count) (ap (pairs_among indexed true one passes) (sym rows_are)
            ∙ sym c.pairs_among-pairs.ensures) ∙ sym c.lies_in.ensures ∙ w.if-lies_in.false in
            ap (λ (v : Vec ℕ _). v.items) w.kept-is
            ∙ c.loop-group.invariant.kept
            ∙ sym (append-nil (filter test (take k concepts)))
            ∙ (λ i. filter test (take k concepts) ++ cond (sym here i) (concept ∷ []) [])
            ∙ sym (filter_more test concepts k 0 c.loop-group-test.true);
        counted = counted_next (group_row_count indexed) concepts k c.loop-group-test.true
            c.loop-group.invariant.counted read;
      }
    ]

-- after the last group, those of all are kept whose number of pairs lies in `count`
pub returns-clause-kept : goal.returns-clause-kept
returns-clause-kept g c =
    let indexed = c.args.reader.indexes.now in
    let one : ℕ → Bool = is_one_of indexed.concepts (g.S.ConceptSet.items_of c.args.types.now) in
    let passes : Value → Bool = passes_of g.S.ConceptSet.items_of indexed.concepts c.args.tested.now in
    c.loop-group.invariant.kept
    ∙ ap (filter (λ number. lies_in c.args.count (pairs_among c.args.reader.indexes.now true one passes
    (rows_of_group_number c.args.reader.indexes.now (slice_get (groups_in c.args.reader.indexes.now) number)))))
    (take_all c.loop-group.group-index c.args.groups.now (omega arith))

-- if memory is refused at a group, the rows up to its own are counted
pub returns-in_err-push-clause-counted : goal.returns-in_err-push-clause-counted
returns-in_err-push-clause-counted g c =
    let indexed = c.args.reader.indexes.now in
    let k = c.loop-group.group-index in
    let group : ℕ = get_or c.args.groups.now k 0 in
    let rows_are : c.unit_rows-rows.result.now ≡ rows_of_group_number indexed (slice_get (groups_in indexed) group) =
    group_told indexed group c.unit_rows-rows.result.now (c.requires.groups k 0 c.loop-group-test.true)
    c.unit_rows-rows.ensures.items in
    let read : CountsWithin (group_row_count indexed group) c.loop-group.visits c.unit_rows-rows.new.visits =
    counted_out c.unit_rows-rows.ensures.counted
    (omega (
      arith,
      ap (λ (rows : List ℕ). length rows) rows_are,
      group_count indexed
          (slice_get (groups_in indexed) group),
    )) in
    counted_some (group_row_count indexed) c.args.groups.now k c.loop-group-test.true c.loop-group.invariant.counted
    read

-- after the last group, the rows of all are counted
pub returns-clause-counted : goal.returns-clause-counted
returns-clause-counted g c =
    counted_all (group_row_count c.args.reader.indexes.now) c.args.groups.now c.loop-group.group-index
    c.loop-group.invariant.counted
