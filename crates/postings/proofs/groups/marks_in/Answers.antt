use Rattle.std.proofs.Common.{ℕ, suc, ◌+◌, ◌-◌, ◌≡◌, ◌<◌, ◌++◌, ◌∷◌, [], ◌≤◌, ◌∙◌, List, ap, arith, get_or, length}
use Rattle.std.proofs.Common.{refl, subst, sym}
use Rattle.std.specs.Prelude.{All}
use Rattle.std.proofs.lemmas.List.Elements.{All-weaker}
use Rattle.held_release.proofs.SortedLemmas.{flat_map-more}
use Rattle.postings.specs.inside.Coded.{AreRowMarks, group_codes, group_marks, groups_ahead, of_source, source_marks}
use Rattle.held_release.specs.declared.coded_rows.CodedRow.{CodedRow}
use Rattle.postings.proofs.SourceLemmas.{groups_ahead-more, of_source-own, rows_left, starts_more}
use Rattle.postings.proofs.SourceRangeLemmas.{from_source, sources_from}
use Rattle.postings.proofs.groups.marks_in.Goals as goal
use Rattle.postings.proofs.groups.marks_in.Goals.{After-split_source}

-- the rows of a source and those of the sources after it; the former and the groups before are no more than all rows
record Turn (rows own others : List CodedRow) (count source : ℕ) : Type 0 where
  below : source < count
  own_is : own ≡ of_source rows source
  others_are : others ≡ from_source rows (source + 1) (count - (source + 1))
  room : groups_ahead rows source + length own ≤ length rows

-- the rows that are left are split into those of the source and the others
turn : (c : After-split_source) → Turn c.args.rows.now c.split_source.result.0.now c.split_source.result.1.now
    c.args.count c.loop-source.source
turn c =
    let rows : List CodedRow = c.args.rows.now in
    let source : ℕ = c.loop-source.source in
    let more : ℕ = c.args.count - (source + 1) in
    let below : source < c.args.count = c.loop-source-test.true in
    let next : c.args.count - source ≡ suc more = omega (arith, below) in
    let split : c.loop-source.left.now ≡ of_source rows source ++ from_source rows (source + 1) more =
    c.loop-source.invariant.left ∙ ap (from_source rows source) next in
    let parts = c.split_source.ensures (of_source rows source) (from_source rows (source + 1) more) split
    (of_source-own rows source)
    (All-weaker (λ (row : CodedRow). source + 1 ≤ row.source) (λ (row : CodedRow). source < row.source)
    (λ row least. omega (arith, least)) (from_source rows (source + 1) more) (sources_from rows (source + 1) more)) in
    record {
      below = below;
      own_is = parts.0;
      others_are = parts.1;
      room = omega (
        arith,
        rows_left rows c.args.count source c.requires.sorted below,
        ap (λ (own : List CodedRow). length own) parts.0,
      );
    }

-- the source of each of the rows is below 2^31
pub push_sources-requires : goal.push_sources-requires
push_sources-requires c =
    let rows : List CodedRow = c.args.rows.now in
    let source : ℕ = c.loop-source.source in
    let now = turn (goal.at.push_sources-requires c).After-split_source in
    let own = subst (λ (own : List CodedRow). All (λ (row : CodedRow). row.source ≡ source) own)
    (sym now.own_is) (of_source-own rows source) in
    λ k d inside. omega (arith, own k d inside, now.below, c.requires.few_sources)

-- the groups so far and the rows of the source are less than 2^31
pub push_groups-requires : goal.push_groups-requires
push_groups-requires c =
    let now = turn (goal.at.push_groups-requires c).After-split_source in
    omega (arith, c.requires.few, c.loop-source.invariant.ahead, now.room)

-- 32 bits hold the number of groups before the next source
pub overflow_add-ahead : goal.overflow_add-ahead
overflow_add-ahead c =
    let now = turn (goal.at.overflow_add-ahead c).After-split_source in
    omega (arith, c.requires.few, c.loop-source.invariant.ahead, c.in_ok-ahead.ensures.few, now.room)

-- no group is before the first source
first_start : (rows : List CodedRow) (source : ℕ) → source ≤ 0 → get_or (0 ∷ []) source 0 ≡ groups_ahead rows source
first_start rows source le =
    let first : 0 ≡ source = omega (arith, le) in
    subst (λ (source : ℕ). get_or (0 ∷ []) source 0 ≡ groups_ahead rows source) first refl

-- before the first source there are no marks, one start, 0, and all rows are left
pub loop-source-init : goal.loop-source-init
loop-source-init c =
    let all : c.args.count ≡ c.args.count - 0 = omega arith in record {
      marks = record {
        sources = c.in_ok-with_capacity.ensures.items;
        groups = c.in_ok-with_capacity-2.ensures.items;
        starts_len = c.in_ok-push.ensures.len ∙ ap (λ (n : ℕ). n + 1) c.in_ok-with_capacity-3.ensures.len;
        starts = λ source le.
            ap (λ (starts : List ℕ). get_or starts source 0)
            (c.in_ok-push.ensures.items
            ∙ ap (λ (starts : List ℕ). starts ++ 0 ∷ []) c.in_ok-with_capacity-3.ensures.items)
            ∙ first_start c.args.rows.now source le;
      };
      ahead = refl;
      left = c.requires.sorted ∙ ap (from_source c.args.rows.now 0) all;
    }

-- the marks of one source more are those so far, and the marks of its rows
pub loop-source-preserved : goal.loop-source-preserved
loop-source-preserved c =
    let rows : List CodedRow = c.args.rows.now in
    let source : ℕ = c.loop-source.source in
    let so_far = c.loop-source.invariant in
    let now = turn (goal.at.loop-source-preserved c).After-split_source in
    let own = now.own_is in
    let ahead : c.loop-source.ahead + c.in_ok-ahead.field-0 ≡ groups_ahead rows (source + 1) =
    (λ i. so_far.ahead i + (c.in_ok-ahead.ensures.count ∙ ap (λ (own : List CodedRow). length (group_codes own)) own) i)
    ∙ sym (groups_ahead-more rows source) in
    record {
      marks = record {
        sources = c.in_ok-push_sources.ensures
            ∙ (λ i. so_far.marks.sources i ++ source_marks (own i))
            ∙ sym (flat_map-more (λ source. source_marks (of_source rows source)) source);
        groups = c.in_ok-ahead.ensures.groups
            ∙ (λ i. so_far.marks.groups i ++ group_marks (so_far.ahead i) (own i))
            ∙ sym (flat_map-more (λ source. group_marks (groups_ahead rows source) (of_source rows source)) source);
        starts_len = c.in_ok-push-2.ensures.len ∙ ap (λ (n : ℕ). n + 1) so_far.marks.starts_len;
        starts = λ k le.
            ap (λ (starts : List ℕ). get_or starts k 0) c.in_ok-push-2.ensures.items
            ∙ starts_more rows c.loop-source.marks.starts.items source (c.loop-source.ahead + c.in_ok-ahead.field-0)
            (sym c.loop-source.marks.starts.ok.0 ∙ so_far.marks.starts_len) so_far.marks.starts ahead k le;
      };
      ahead = ahead;
      left = now.others_are;
    }

-- after the last source the marks are those of all rows
pub returns : goal.returns
returns c =
    let all : c.loop-source.source ≡ c.args.count =
    omega (arith, c.loop-source-test.false, c.loop-source.auto.source-end) in
    subst (λ (count : ℕ). AreRowMarks count c.args.rows.now c.loop-source.marks) all c.loop-source.invariant.marks
