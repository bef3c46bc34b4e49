use Rattle.std.proofs.Common.{ℕ, ◌≡◌, ◌<◌, ◌+◌, All, length, take}
use Rattle.std.specs.Prelude.{count_by, slice_get}
use Rattle.postings.specs.Entries.{entries_of}
use Rattle.pair_sets.specs.inside.Among.{at_entry}
use Rattle.number_lists.specs.Members.{times}
use Rattle.pair_sets.specs.inside.Hits.{counts_for_value}
use Rattle.candidates.specs.Numbers.{is_one_of}
use Rattle.pair_sets.proofs.hits.push_values.Given as goal

-- each number is pushed as often as rows so far count for it, and is that of a concept
abbrev pub invariant-loop-n : goal.invariant-loop-n
invariant-loop-n g l = record {
  within : All (λ number. number < length l.reader.indexes.now.concepts) l.fn.hits.items
      → All (λ number. number < length l.reader.indexes.now.concepts) l.hits.items;
  times : (number : ℕ) → number < length l.reader.indexes.now.concepts
      → times number l.hits.items
      ≡ times number l.fn.hits.items
      + count_by (λ n. at_entry (counts_for_value l.reader.indexes.now.concepts
      (λ row. is_one_of l.reader.indexes.now.concepts (g.S.ConceptSet.items_of l.types) row.type_id) number)
      (slice_get (entries_of l.reader.indexes.now.rows) n))
      (take l.n-index l.rows);
}
