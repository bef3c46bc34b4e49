use Rattle.std.proofs.Common.{◌≡◌, take}
use Rattle.postings.proofs.type_table.type_table.Given as goal

-- the interner has the types so far
abbrev pub invariant-loop-id : goal.invariant-loop-id
invariant-loop-id l = l.numbers ≡ take l.id-index l.ids
