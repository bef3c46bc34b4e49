-- Lemmas on gathering the lists of concepts: the short ones in a list, and the long ones in a set.
use Rattle.std.proofs.Common.{arith, ℕ, ◌≡◌, ◌<◌, ◌+◌, ◌∙◌, ◌++◌, ◌∷◌, ◌||◌, [], Bool, List, Option}
use Rattle.std.proofs.Common.{None, Some, ap, append-nil, append_assoc, get_or, length, refl, subst, sym, take}
use Rattle.std.specs.Prelude.{All, Contains, IfSome}
use Rattle.std.proofs.lemmas.Bool.Decides.{nat_tests}
use Rattle.std.proofs.lemmas.Grind.{common_steps}
use Rattle.std.proofs.lemmas.List.{take_more}
use Rattle.std.proofs.lemmas.List.Elements.{All-append, All-cons, All-nil, Contains-get_or}
use Rattle.std.proofs.lemmas.List.Concat.{flat_map-append}
use Rattle.std.proofs.lemmas.List.Folds.{list_any-append}
use Rattle.number_lists.specs.KeyedLists.{AreItemsBelow, list_of}
use Rattle.number_lists.specs.Rising.{IsRisingBelow, listed_numbers, numbers_where}
use Rattle.idset.specs.Sets.{all_items}
use Rattle.number_lists.specs.Members.{has}
use Rattle.number_lists.proofs.RisingLemmas.{numbers_where-rising, rising_is_where}
use Rattle.number_lists.proofs.WhereLemmas.{there_where, has-numbers_where, numbers_where-agree}
use Rattle.idset.specs.Words.{is_set}
use Rattle.ancestor_index.specs.inside.Gathered.{AreRisingBelow, gathered_by}

-- the union of the set `others` and the numbers of the bitmap `words` has a number exactly if `others` has it or
-- its bit is set
pub with_words_has : (count number : ℕ) (others words : List ℕ) → number < count
    → has (all_items count others (numbers_where count (is_set words))) number
    ≡ (has others number || is_set words number)
with_words_has count number others words below =
    has-numbers_where count (λ n. has others n || has (numbers_where count (is_set words)) n) number below
    ∙ ap (λ (is : Bool). has others number || is) (has-numbers_where count (is_set words) number below)

-- if `list` and the set together have exactly the numbers of `all`, this stays so if the list `own` is added to
-- `all` and, by its bitmap, to the set
pub gathered_words : (all list own : List ℕ) (number : ℕ) (joined now words : Bool)
    → has all number ≡ (has list number || joined)
    → now ≡ (joined || words) → words ≡ has own number → has (all ++ own) number ≡ (has list number || now)
gathered_words all list own number joined now words before with_words is =
    grind (arith, common_steps, nat_tests, list_any-append)

-- if `list` and the set together have exactly the numbers of `all`, this stays so if the list `own` is added to
-- `all` and to `list`
pub gathered_list : (all list own : List ℕ) (number : ℕ) (joined : Bool) → has all number ≡ (has list number || joined)
    → has (all ++ own) number ≡ (has (list ++ own) number || joined)
gathered_list all list own number joined before = grind (arith, common_steps, nat_tests, list_any-append)

-- if `list` and the set together have exactly the numbers of `all`, this stays so if `concept` is added to both
-- `all` and `list`
pub gathered_item : (all list : List ℕ) (concept number : ℕ) (joined : Bool)
    → has all number ≡ (has list number || joined)
    → has (all ++ concept ∷ []) number ≡ (has (list ++ concept ∷ []) number || joined)
gathered_item all list concept number joined before = grind (arith, common_steps, nat_tests, list_any-append)

-- what is gathered for the first `i + 1` concepts is what is gathered for the first `i`, followed by concept
-- `i` and its list
pub gathered_more : (places : List ℕ) (lists : List (List ℕ)) (concepts : List ℕ) (i : ℕ) → i < length concepts
    → gathered_by places lists (take (i + 1) concepts)
    ≡ (gathered_by places lists (take i concepts) ++ get_or concepts i 0 ∷ [])
    ++ list_of lists (get_or places (get_or concepts i 0) 0)
gathered_more places lists concepts i within =
    let own = λ (concept : ℕ). concept ∷ list_of lists (get_or places concept 0) in
    let concept = get_or concepts i 0 in
    ap (gathered_by places lists) (take_more concepts i 0 within)
    ∙ flat_map-append own (take i concepts) (concept ∷ [])
    ∙ ap (λ (last : List ℕ). gathered_by places lists (take i concepts) ++ last) (append-nil (own concept))
    ∙ sym (append_assoc (gathered_by places lists (take i concepts)) (concept ∷ [])
    (list_of lists (get_or places concept 0)))

-- the union of `numbers_where count test` and `items` has the numbers below `count` that pass the test or are in
-- `items`
pub joined_list : (count : ℕ) (test : ℕ → Bool) (items list : List ℕ) → list ≡ numbers_where count test
    → all_items count items list ≡ numbers_where count (λ number. test number || has items number)
joined_list count test items list is = numbers_where-agree count _ _ (λ number below.
    grind (
      arith,
      common_steps,
      nat_tests,
      (ap (λ (xs : List ℕ). has xs number) is),
      (has-numbers_where count test number below),
    ))

-- `numbers_where count test` rises below the bound of a set, if this bound is `count`
pub rises_below : {S : Type 0} (bound_of : S → ℕ) (count : ℕ) (test : ℕ → Bool) (list : List ℕ) (joined : Option S)
    → IfSome joined (λ set. bound_of set ≡ count)
    → list ≡ numbers_where count test → IfSome joined (λ set. IsRisingBelow (bound_of set) list)
rises_below bound_of count test list None bound is = tt
rises_below bound_of count test list (Some set) bound is =
    subst (λ (most : ℕ). IsRisingBelow most list) (sym bound)
    (subst (IsRisingBelow count) (sym is) (numbers_where-rising count test))

-- all numbers in `numbers_where count test` are below `count`
pub where_below : (count : ℕ) (test : ℕ → Bool) (list : List ℕ) → list ≡ numbers_where count test
    → All (λ number. number < count) list
where_below count test list is i d inside =
    (there_where count test (get_or list i d) (subst (λ (xs : List ℕ). Contains xs (get_or list i d)) is
    (Contains-get_or list i d inside))).0

-- if the items of all lists are below `count`, this stays so if a list of items below `count` is added
pub items_more : (count : ℕ) (lists : List (List ℕ)) (list : List ℕ) → AreItemsBelow count lists
    → All (λ item. item < count) list
    → AreItemsBelow count (lists ++ list ∷ [])
items_more count lists list below own =
    let are_below = λ (items : List ℕ). All (λ item. item < count) items in
    All-append are_below lists (list ∷ []) below (All-cons are_below list [] own (All-nil are_below))

-- ---- lists that are merged one after another
-- `listed_numbers` of nothing is nothing
pub none_gathered : (count : ℕ) → [] ≡ listed_numbers count []
none_gathered count = rising_is_where count [] (has []) refl (λ n below. refl)

-- if `list` has the numbers of `all` in rising order, and `more` is the rising list `own` with `concept` added, the
-- union of both has the numbers of `all`, `concept` and `own` in rising order
pub union_more : (count : ℕ) (all own list more union : List ℕ) (concept : ℕ)
    → list ≡ listed_numbers count all → IsRisingBelow count own → concept < count
    → ((bound : ℕ) → IsRisingBelow bound own → concept < bound
    → more ≡ all_items bound own (concept ∷ []))
    → ((bound : ℕ) → IsRisingBelow bound list → IsRisingBelow bound more
    → union ≡ all_items bound list more)
    → union ≡ listed_numbers count ((all ++ concept ∷ []) ++ own)
union_more count all own list more union concept listed rises below added united =
    let with_own = added count rises below in
    united count (subst (IsRisingBelow count) (sym listed) (numbers_where-rising count (has all)))
    (subst (IsRisingBelow count) (sym with_own) (numbers_where-rising count _))
    ∙ (λ i. all_items count (listed i) (with_own i))
    ∙ numbers_where-agree count _ _ (λ n within.
    (λ i. has-numbers_where count (has all) n within i
    || has-numbers_where count (λ n. has own n || has (concept ∷ []) n) n within i)
    ∙ grind (arith, common_steps, nat_tests, list_any-append))

-- the list at a place of rising lists rises
pub own_rises : (count place : ℕ) (lists : List (List ℕ)) (own : List ℕ) → AreRisingBelow count lists
    → place < length lists → own ≡ list_of lists place → IsRisingBelow count own
own_rises count place lists own rise within is = subst (IsRisingBelow count) (sym is) (rise place [] within)

-- if all lists rise below `count`, this stays so if a list that rises below `count` is added
pub rising_more : (count : ℕ) (lists : List (List ℕ)) (list : List ℕ) → AreRisingBelow count lists
    → IsRisingBelow count list → AreRisingBelow count (lists ++ list ∷ [])
rising_more count lists list rise own =
    let rises = λ (xs : List ℕ). IsRisingBelow count xs in
    All-append rises lists (list ∷ []) rise (All-cons rises list [] own (All-nil rises))
