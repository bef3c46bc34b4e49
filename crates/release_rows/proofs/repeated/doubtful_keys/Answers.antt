use Rattle.std.proofs.Common.{◌∙◌, nat_eq, arith}
use Rattle.std.proofs.lemmas.Grind.{common_steps}
use Rattle.std.proofs.lemmas.List.Filters.{dedup_is}
use Rattle.std.proofs.lemmas.List.Sums.{length-filter, count_by-le-length}
use Rattle.std.proofs.lemmas.Map.Keys.{IsStrictlyIncreasing-dedup}
use Rattle.number_lists.specs.Members.{has}
use Rattle.release_rows.proofs.NeighbourLemmas.{twice_among}
use Rattle.release_rows.proofs.repeated.doubtful_keys.Goals as goal

-- the sorted late keys without repetitions rise, as `RisingKeys::new` requires
pub new-requires : goal.new-requires
new-requires c = rw (dedup_is nat_eq c.sort_unstable.new.self.items c.dedup.new.self.items c.dedup.ensures.filtered)
    (IsStrictlyIncreasing-dedup c.sort_unstable.new.self.items c.sort_unstable.ensures.sorted)

-- a key occurs twice among the doubtful keys exactly if it does in the list, and the list has at least as many keys
pub returns : goal.returns
returns c =
    let once = dedup_is nat_eq c.sort_unstable.new.self.items c.dedup.new.self.items c.dedup.ensures.filtered in
    record {
      twice = λ key.
          rw c.in_ok-doubtful.ensures
          (twice_among c.args.keys.now c.in_ok-following.following.items c.sort_unstable.new.self.items c.new.result
          c.in_ok-following.ensures c.sort_unstable.ensures.permutation (c.new.ensures ∙ once) key);
      few = grind (
        arith,
        common_steps,
        length-filter (has c.new.result) c.args.keys.now,
        count_by-le-length
            (has c.new.result) c.args.keys.now,
      );
    }
