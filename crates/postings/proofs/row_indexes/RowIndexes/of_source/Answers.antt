use Rattle.std.proofs.Common.{◌+◌, ◌-◌, ◌≤◌, ◌∙◌, arith}
use Rattle.std.proofs.lemmas.List.{get_or_default}
use Rattle.postings.proofs.SpanLemmas.{lengths_rise}
use Rattle.postings.proofs.row_indexes.RowIndexes.of_source.Goals as goal
use Rattle.postings.proofs.row_indexes.RowIndexes.of_source.Goals.{After-span-to}

-- the rows of the concept's first group start no later than those of its last group end
in_order : (c : After-span-to) → c.span-from.result.0 ≤ c.span-to.result.1
in_order c =
    let starts = c.args.self.now.groups.starts.items in
    let concept = c.args.concept in
    omega (
      arith,
      c.span-from.ensures.start,
      c.span-to.ensures.end,
      lengths_rise c.args.self.now.groups.rows c.index-first.result.now (c.index-next.result.now - 1 + 1)
          (omega (
            arith,
            c.requires.starts,
            c.requires.rise,
            c.index-first.ensures ∙ get_or_default starts concept c.index-first.result.now 0
                (omega (arith, c.requires.starts)),
            c.index-next.ensures ∙ get_or_default starts (concept + 1) c.index-next.result.now 0
                (omega (arith, c.requires.starts)),
          )),
    )

-- the length of the slice of the concept's rows is no negative number
pub slice_bounds-result-count : goal.slice_bounds-result-count
slice_bounds-result-count c = in_order (goal.at.slice_bounds-result-count c).After-span-to

-- the slice of the concept's rows starts no later than it ends
pub slice_bounds-result-start : goal.slice_bounds-result-start
slice_bounds-result-start c = in_order (goal.at.slice_bounds-result-start c).After-span-to
