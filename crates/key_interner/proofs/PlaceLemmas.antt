-- The place of a key that is new.
use Rattle.std.proofs.Common.{arith, ℕ, ◌≡◌, false, List, [], ◌∷◌, length, nat_eq}
use Rattle.std.specs.List.{list_any, position_or_len}
use Rattle.std.proofs.lemmas.Bool.Decides.{nat_tests}
use Rattle.std.proofs.lemmas.Grind.{common_steps}

-- the place that `intern` gives to a key that is not among `keys` is the number of `keys`
pub after_all : (keys : List ℕ) (key : ℕ) → list_any (nat_eq key) keys ≡ false
    → position_or_len (nat_eq key) keys ≡ length keys
after_all [] key is = grind (arith, common_steps)
after_all (first ∷ keys) key is = grind (arith, common_steps, nat_tests, (after_all keys key))
