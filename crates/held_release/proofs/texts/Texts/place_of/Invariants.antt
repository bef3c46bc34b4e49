use Rattle.std.proofs.Common.{ℕ, ◌-◌, ◌≡◌, ◌≤◌, ◌<◌, [], length, get_or}
use Rattle.held_release.proofs.texts.Texts.place_of.Given as goal

-- the text stands at no place but from `from` to `to`
abbrev pub invariant-loop-from : goal.invariant-loop-from
invariant-loop-from l = record {
  within : l.to ≤ length l.self;
  between : (place : ℕ) → place < length l.self → get_or l.self place [] ≡ l.text → (l.from ≤ place) × (place ≤ l.to);
}

-- how many places are left to search, which gets less with each turn
abbrev pub decreases-loop-from : goal.decreases-loop-from
decreases-loop-from l = l.to - l.from
