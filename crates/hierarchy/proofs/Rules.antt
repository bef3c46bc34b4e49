-- Rule sets that functions name.
use Rattle.number_lists.proofs.KeyedLemmas.{length-lists_by, lengths}
use Rattle.std.proofs.Common.{append-nil}
use Rattle.std.proofs.lemmas.List.{get_or_read, length-map}

-- rules for `grind` about the lists of parents and their lengths
pub ruleset order_by = (append-nil, get_or_read, length-lists_by, length-map, lengths)
