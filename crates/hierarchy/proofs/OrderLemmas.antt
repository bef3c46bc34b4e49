-- Lemmas for an order with parents first: the concepts that wait for no parent, and the counts of parents that are not
-- done.
use Rattle.std.proofs.Common.{ℕ, zero, suc, ◌+◌, ◌==◌, ◌≡◌, ◌≢◌, ◌<◌, ◌++◌, ◌∷◌, [], ◌∙◌, ⊎_elim, Bool, true, false}
use Rattle.std.proofs.Common.{cond, not, List, length, get_or, refl, ap, arith, zero-add, add-zero, Contains, count_by}
use Rattle.std.proofs.Common.{filter, eq-eqb, ne_eqb}
use Rattle.std.specs.List.{IsDistinct}
use Rattle.std.specs.Cmp.{nat_eq_equiv}
use Rattle.std.proofs.lemmas.Bool.{cases_eq, cases_Bool}
use Rattle.std.proofs.lemmas.List.Sums.{count_by_more_yes, sum_by-cons, sum_by-take-le}
use Rattle.std.proofs.lemmas.Map.Keys.{IsDistinct-push}
use Rattle.number_lists.specs.Members.{has, times}
use Rattle.number_lists.specs.KeyedLists.{items_of, lists_by, list_of, transposed, transposed_from, with_key}
use Rattle.hierarchy.specs.inside.Released.{AreRoots}
use Rattle.number_lists.proofs.ListLemmas.{first_contained, rest_contained}
use Rattle.number_lists.proofs.KeyedLemmas.{items_of-append, list_of-lists_by}
use Rattle.number_lists.proofs.MemberLemmas.{any-has, had_not, members-push, times-append}
use Rattle.std.proofs.lemmas.Grind.{common_steps}
use Rattle.std.proofs.lemmas.Bool.Decides.{nat_tests}

-- ---- the concepts that wait for no parent
-- if there are no concepts, there are no roots
pub roots_none : (waiting : List ℕ) → AreRoots 0 waiting []
unfolding IsDistinct
roots_none waiting = record { once = tt; members = λ concept. grind arith }

-- if `roots` are the roots among the concepts below `count`, and concept `count` waits for no parent, then `roots`
-- followed by `count` are the roots below `count + 1`
pub roots_one : (count : ℕ) (waiting roots : List ℕ) → AreRoots count waiting roots → get_or waiting count 0 ≡ 0
    → AreRoots (count + 1) waiting (roots ++ count ∷ [])
roots_one count waiting roots known none = record {
  once = IsDistinct-push nat_eq_equiv roots count known.once
      (any-has roots count ∙ had_not roots count (λ there. absurd (omega (arith, ((known.members count).0 there).0))));
  members = members-push (λ c. (c < count + 1) × (get_or waiting c 0 ≡ 0)) roots count (omega arith, none)
      (λ c apart. grind (arith, (known.members c)));
}

-- if `roots` are the roots among the concepts below `count`, and concept `count` waits for a parent, then `roots`
-- are the roots below `count + 1`
pub roots_other : (count : ℕ) (waiting roots : List ℕ) → AreRoots count waiting roots → get_or waiting count 0 ≢ 0
    → AreRoots (count + 1) waiting roots
roots_other count waiting roots known some =
    record { once = known.once; members = λ concept. grind (arith, ⊎_elim, cases_eq, (known.members concept)) }

-- ---- how many rows of a concept lead to parents that are not done
-- how many of `parents` are not in `done`, each counted as often as it is listed
abbrev pub open_count : List ℕ → List ℕ → ℕ
open_count done parents = count_by (λ parent. not (has done parent)) parents

-- if `parent` was not in `done` and is added to it, the count of open parents gets less by the number of times that
-- `parent` is in `parents`
pub open_less : (done : List ℕ) (parent : ℕ) (parents : List ℕ) → has done parent ≡ false
    → open_count (done ++ parent ∷ []) parents + times parent parents ≡ open_count done parents
open_less done parent [] new = refl
open_less done parent (x ∷ parents) new =
    grind (
      arith,
      common_steps,
      nat_tests,
      sum_by-cons,
      cond,
      not,
      has,
      ⊎_elim,
      eq-eqb,
      ne_eqb,
      (open_less done parent parents new),
    )

-- if no concept is done, all parents are open
pub open_all : (parents : List ℕ) → open_count [] parents ≡ length parents
open_all [] = refl
open_all (x ∷ parents) = omega (arith, sum_by-cons (λ p. cond {A = ℕ} (not (has [] p)) 1 0) x parents, open_all parents)

-- an item of a list that passes a test makes the count of passing items positive
pub counted : (p : ℕ → Bool) (xs : List ℕ) (x : ℕ) → Contains xs x → p x ≡ true → 0 < count_by p xs
counted p xs x (k, within, is) holds =
    omega (
      arith,
      count_by_more_yes p xs k x within (ap p is ∙ holds),
      sum_by-take-le (λ y. cond {A = ℕ} (p y) 1 0) xs
          (k + 1),
    )

-- if no parent is open, each parent is done
pub all_done : (done parents : List ℕ) (parent : ℕ) → open_count done parents ≡ 0 → Contains parents parent
    → has done parent ≡ true
all_done done parents parent none there =
    grind (arith, nat_tests, not, cases_Bool, ⊎_elim, (counted (λ q. not (has done q)) parents parent there))

-- if the count of open parents is positive, one of the parents is not done
pub some_open : (done parents : List ℕ) → 0 < open_count done parents → (parent : ℕ) × Contains parents parent
    × (has done parent ≡ false)
some_open done [] some = absurd (omega arith)
some_open done (x ∷ parents) some = ⊎_elim
    (λ (told : has done x ≡ true).
    let rest = some_open done parents
    (grind (arith, not, cond, told, (sum_by-cons (λ p. cond {A = ℕ} (not (has done p)) 1 0) x parents))) in
    (rest.0, rest_contained x parents rest.0 rest.1, rest.2))
    (λ (told : has done x ≡ false). (x, first_contained x parents, told))
    (cases_Bool (has done x))

-- in the pairs of `list` with `key`, `child` is an item of `parent` as often as `list` has `parent` if `child` is
-- `key`, and otherwise never
times-with_key : (child key parent : ℕ) (list : List ℕ) → times child (items_of (with_key key list) parent)
    ≡ cond (key == child) (times parent list) 0
times-with_key child key parent [] = grind (arith, nat_tests)
times-with_key child key parent (x ∷ list) =
    grind (
      arith,
      common_steps,
      nat_tests,
      items_of,
      filter,
      with_key,
      sum_by-cons,
      cond,
      (times-with_key child key parent list),
    )

-- `child` is an item of `parent` among the transposed pairs of `list` and `lists` as often as in those of `lists`,
-- and besides, if it is the first key, as often as `list` has `parent`
times-transposed_cons : (list : List ℕ) (lists : List (List ℕ)) (key child parent : ℕ)
    → times child (items_of (transposed_from key (list ∷ lists)) parent)
    ≡ cond (key == child) (times parent list) 0 + times child (items_of (transposed_from (key + 1) lists) parent)
times-transposed_cons list lists key child parent =
    grind (
      arith,
      common_steps,
      nat_tests,
      times,
      items_of-append,
      with_key,
      transposed_from,
      times-append,
      items_of,
      times-with_key,
    )

-- a child that is less than the first key is in none of the transposed lists
times-turned_out : (lists : List (List ℕ)) (key child parent : ℕ) → child < key
    → times child (items_of (transposed_from key lists) parent) ≡ 0
times-turned_out [] key child parent below = refl
times-turned_out (list ∷ lists) key child parent below =
    grind (
      arith,
      nat_tests,
      (times-transposed_cons list lists key child parent),
      (times-turned_out lists (key + 1) child parent),
    )

-- a child is in the transposed list of a parent as often as its own list has the parent
times-transposed : (lists : List (List ℕ)) (key i parent : ℕ)
    → times (key + i) (items_of (transposed_from key lists) parent) ≡ times parent (get_or lists i [])
times-transposed [] key i parent = refl
times-transposed (list ∷ lists) key zero parent =
    rw add-zero (grind (
      arith,
      nat_tests,
      (times-transposed_cons list lists key key parent),
      (times-turned_out lists (key + 1) key parent),
    ))
times-transposed (list ∷ lists) key (suc i) parent =
    grind (
      arith,
      nat_tests,
      (times-transposed_cons list lists key (key + 1 + i) parent),
      (times-transposed lists (key + 1) i parent),
    )

-- a concept is in the list of children of `parent` as often as `parent` is in the list of parents of the concept
pub times-children : (count : ℕ) (rows : List (ℕ × ℕ)) (concept parent : ℕ) → parent < count
    → times concept (list_of (transposed count (lists_by count rows)) parent)
    ≡ times parent (list_of (lists_by count rows) concept)
times-children count rows concept parent near =
    grind (arith, times, list_of-lists_by, transposed_from, lists_by, zero-add, items_of, times-transposed)
