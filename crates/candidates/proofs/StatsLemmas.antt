-- Some of the concepts, or groups, with known statistics have no more than all of them.
use Rattle.std.proofs.Common.{ℕ, ◌+◌, ◌≡◌, ◌≤◌, ◌∙◌, Bool, true, false, not, ◌&&◌, List, length, refl, sym, ap, arith}
use Rattle.std.specs.Prelude.{All, filter}
use Rattle.std.specs.List.{sum_by}
use Rattle.std.proofs.lemmas.List.Elements.{All-contains}
use Rattle.std.proofs.lemmas.List.Filters.{sum_by-filter_both}
use Rattle.number_lists.specs.Members.{has}
use Rattle.number_lists.specs.Rising.{IsRisingBelow}
use Rattle.number_lists.proofs.MemberLemmas.{contains_had}
use Rattle.number_lists.proofs.RisingLemmas.{rises_within-filter, rises_within-wider, same_rising}
use Rattle.postings.specs.Indexed.{Indexed}
use Rattle.reading.specs.Counted.{full_sum}
use Rattle.candidates.specs.Extents.{IsStatsOf, IsGroupStatsOf}
use Rattle.candidates.specs.declared.candidates.CandidateStats.{CandidateStats}
use Rattle.candidates.proofs.WithinLemmas.{has_kept}

module _ (xs ys : List ℕ) (low high : ℕ) (xs_rise : IsRisingBelow low xs) (ys_rise : IsRisingBelow high ys)
    (among : All (λ number. has ys number ≡ true) xs) where
  -- a rising list whose items are all in another rising list is what a filter keeps of that one
  kept : xs ≡ filter (has xs) ys
  kept =
      same_rising 0 (low + high) xs (filter (has xs) ys)
      (rises_within-wider 0 low 0 (low + high) xs (omega arith) (omega arith) xs_rise)
      (rises_within-filter 0 (low + high) (has xs) ys
      (rises_within-wider 0 high 0 (low + high) ys (omega arith) (omega arith) ys_rise))
      (λ n.
      both (has xs n) (has ys n)
      (λ had. All-contains (λ number. has ys number ≡ true) xs n among (contains_had xs n had))
      ∙ sym (has_kept (has xs) ys n))
    where
      both : (a b : Bool) → (a ≡ true → b ≡ true) → a ≡ (b && a)
      both true b had = λ i. sym (had refl) i && true
      both false true had = refl
      both false false had = refl

  -- a sum over `xs`, whose items are all in `ys`, is no more than the sum over `ys`
  pub sum_among : (f : ℕ → ℕ) → sum_by f xs ≤ sum_by f ys
  sum_among f =
      omega (
        arith,
        ap (λ (items : List ℕ). sum_by f items) kept,
        sum_by-filter_both (has xs) (λ n. not (has xs n)) (λ n. refl) f ys,
      )

  -- a limit of the saturated sum over `ys` is a limit of the saturated sum over `xs`
  full_among : (f : ℕ → ℕ) (most : ℕ) → full_sum f ys ≤ most → full_sum f xs ≤ most
  full_among f most within = omega (arith, sum_among f, within)

  -- if `xs` are among the concepts `ys` and at most `items`, then limits for `ys`, with `items` as the count, are
  -- limits for `xs`
  pub stats_among : (indexed : Indexed) (stats : CandidateStats) (items : ℕ) → length xs ≤ items
      → IsStatsOf indexed ys stats → IsStatsOf indexed xs (record stats { items = items })
  stats_among indexed stats items few is = record {
    items = few;
    rows = full_among _ _ is.rows;
    back_rows = full_among _ _ is.back_rows;
    groups = full_among _ _ is.groups;
    lists = record {
      ancestors = full_among _ _ is.lists.ancestors;
      descendants = full_among _ _ is.lists.descendants;
      parents = full_among _ _ is.lists.parents;
      children = full_among _ _ is.lists.children;
    };
  }

  -- if `xs` are among the groups `ys` and at most `items`, then limits for `ys`, with `items` as the count, are limits
  -- for `xs`
  pub group_stats_among : (indexed : Indexed) (stats : CandidateStats) (items : ℕ) → length xs ≤ items
      → IsGroupStatsOf indexed ys stats → IsGroupStatsOf indexed xs (record stats { items = items })
  group_stats_among indexed stats items few is = record { items = few; rows = full_among _ _ is.rows }
