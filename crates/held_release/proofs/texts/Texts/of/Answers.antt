use Rattle.std.proofs.Common.{ℕ, ◌+◌, ◌≤◌, ◌<◌, ◌≡◌, ◌∙◌, List, length, get_or, sym, subst, arith}
use Rattle.std.specs.List.{slice_range}
use Rattle.std.proofs.lemmas.List.{get_or_default}
use Rattle.number_lists.proofs.CutLemmas.{below_cut, end_within, found}
use Rattle.held_release.proofs.texts.Texts.of.Goals as goal
use Rattle.held_release.proofs.texts.Texts.of.Goals.{After-index-to}

-- the two ends of a text are its start and the next start, and they are within the bytes
record Ends (starts bytes : List ℕ) (place from to : ℕ) : Type 0 where
  start : from ≡ get_or starts place 0
  end : to ≡ get_or starts (place + 1) 0
  rise : from ≤ to
  within : to ≤ length bytes

-- the code reads the two ends of the text
ends : (c : After-index-to)
    → Ends c.self.inside.starts.items c.self.inside.bytes.items c.args.place c.index-from.result.now
    c.index-to.result.now
ends c =
    let starts = c.self.inside.starts.items in
    let bytes = c.self.inside.bytes.items in
    let next : c.args.place + 1 < length starts =
    below_cut starts bytes c.args.self.now c.args.place c.self.view_is c.requires in
    let start = c.index-from.ensures
    ∙ get_or_default starts c.args.place c.index-from.result.now 0 (omega (arith, next)) in
    let end = c.index-to.ensures ∙ get_or_default starts (c.args.place + 1) c.index-to.result.now 0 next in
    record {
      start = start;
      end = end;
      rise = omega (arith, start, end, c.self.invariant.rise c.args.place next);
      within = omega (arith, end, end_within starts bytes c.self.invariant (c.args.place + 1) next);
    }

-- the text has a start
pub index-from-requires : goal.index-from-requires
index-from-requires c =
    omega (
      arith,
      below_cut c.self.inside.starts.items c.self.inside.bytes.items c.args.self.now c.args.place
          c.self.view_is c.requires,
    )

-- the place after the text fits in a `usize`
pub overflow_add-place : goal.overflow_add-place
overflow_add-place c =
    record {
      fits = omega (
        arith,
        below_cut c.self.inside.starts.items c.self.inside.bytes.items c.args.self.now c.args.place c.self.view_is
            c.requires,
      );
    }

-- there is a start after that of the text
pub index-to-requires : goal.index-to-requires
index-to-requires c =
    omega (
      arith,
      below_cut c.self.inside.starts.items c.self.inside.bytes.items c.args.self.now c.args.place
          c.self.view_is c.requires,
    )

-- the length of the slice of the text is no negative number
pub slice_bounds-result-count : goal.slice_bounds-result-count
slice_bounds-result-count c = (ends (goal.at.slice_bounds-result-count c).After-index-to).rise

-- the slice of the text starts no later than it ends
pub slice_bounds-result-start : goal.slice_bounds-result-start
slice_bounds-result-start c = (ends (goal.at.slice_bounds-result-start c).After-index-to).rise

-- the slice of the text ends within the bytes
pub slice_bounds-result-end : goal.slice_bounds-result-end
slice_bounds-result-end c =
    subst (λ (bytes : List ℕ). c.index-to.result.now ≤ length bytes) (sym c.deref.ensures.value)
    (ends (goal.at.slice_bounds-result-end c).After-index-to).within

-- the slice from the text's start to the next start is the text
pub returns : goal.returns
returns c =
    let at = ends (goal.at.returns c).After-index-to in
    (λ i. slice_range (c.deref.ensures.value i) (at.start i) (at.end i))
    ∙ sym (found c.self.inside.starts.items c.self.inside.bytes.items c.args.self.now c.args.place c.self.view_is
    c.requires)
