-- The tests of values and of pairs hold exactly for equal ones, and `distinct` keeps each pair once.
use Rattle.std.proofs.Common.{arith}
use Rattle.std.proofs.lemmas.Bool.Decides.{nat_tests, Decides-and, Decides-eqb, Decides-like}
use Rattle.std.proofs.lemmas.Grind.{common_steps}
use Rattle.std.proofs.lemmas.Bool.{false≢true}
use Rattle.std.proofs.lemmas.Slice.Eq.{bytes_eq-Decides}
use Rattle.release_model.specs.Release.{concept_value, number_value, text_value}
use Rattle.std.specs.Cmp.{IsEquivalence}
use Rattle.number_lists.proofs.DistinctLemmas.{keeps_each_once}
use Rattle.release_model.specs.Pairs.{KeepsEachPairOnce, pair_eq, value_eq, TellsSameValue, TellsSamePair}

-- `value_eq` holds exactly if the two values are equal
pub tells_same_value : TellsSameValue
tells_same_value one other =
    grind (arith, value_eq, concept_value, number_value, text_value, bytes_eq-Decides, false≢true)

-- `pair_eq` holds exactly if the two pairs are equal
pub tells_same_pair : TellsSamePair
tells_same_pair one other =
    grind (arith, common_steps, nat_tests, Decides-and, Decides-eqb, Decides-like, tells_same_value)

-- `pair_eq` is an equivalence, because it holds exactly for equal pairs
pair_eq_equiv : IsEquivalence pair_eq
pair_eq_equiv = grind (arith, common_steps, nat_tests, tells_same_pair)

-- for every list of pairs, `distinct` by `pair_eq` has no repeats and exactly its members
pub keeps_each_pair_once : KeepsEachPairOnce
keeps_each_pair_once pairs = keeps_each_once pair_eq pair_eq_equiv (λ x y alike. (tells_same_pair x y).0 alike) pairs
