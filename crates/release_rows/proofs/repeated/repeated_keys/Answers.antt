use Rattle.std.proofs.Common.{nat_eq, arith}
use Rattle.std.proofs.lemmas.List.Filters.{dedup_is}
use Rattle.release_rows.proofs.NeighbourLemmas.{once_members, once_rises, rising_once}
use Rattle.release_rows.proofs.repeated.repeated_keys.Goals as goal

-- if the keys rise, no key occurs twice, and the empty list has all that do
pub returns-then-rises-clause-members : goal.returns-then-rises-clause-members
returns-then-rises-clause-members c =
    λ key. grind (arith, c.new.ensures.items, rising_once c.args.keys.now c.if-rises.ensures key)

-- the sorted repeated keys without repetitions rise, are the keys that occur twice, and are no more than the list has
pub returns : goal.returns
returns c =
    let sorted = c.sort_unstable.new.self.items in
    let are = dedup_is nat_eq sorted c.dedup.new.self.items c.dedup.ensures.filtered in record {
      rising = once_rises c.in_ok-repeated.repeated.items sorted c.dedup.new.self.items
          c.sort_unstable.ensures.permutation c.sort_unstable.ensures.sorted are;
      members = λ key.
          let once = once_members c.in_ok-repeated.repeated.items sorted c.dedup.new.self.items
          c.sort_unstable.ensures.permutation c.sort_unstable.ensures.sorted are key in
          let again = c.in_ok-repeated.ensures.members key in
          ((λ there. again.0 (once.0 there)), (λ twice. once.1 (again.1 twice)));
      few = omega (arith, c.in_ok-repeated.ensures.few, c.sort_unstable.ensures.len, c.dedup.ensures.bound);
    }
