-- Sets of lemmas that functions name in their `using`.
use Rattle.number_lists.proofs.CutLemmas.{starts_long}
use Rattle.number_lists.proofs.KeyedLemmas.{none_counts, few_left, few_more, length-lengths, length-transposed, lengths}
use Rattle.number_lists.proofs.KeyedLemmas.{lengths_at_pair, transposed_from-more}

-- the lemmas on counting how many items each key has
pub ruleset counts_by = (
  few_left,
  few_more,
  length-lengths,
  lengths,
  lengths_at_pair,
  none_counts,
  transposed_from-more,
)

-- the lemmas on how many items and lists there are
pub ruleset lists_long_by = (starts_long, length-transposed)
