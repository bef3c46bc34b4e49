-- Groups stand source by source, as rows do: as many rows have the groups of the concepts before one as the rows of
-- these concepts.
use Rattle.std.proofs.Common.{ℕ, zero, suc, ◌+◌, ◌-◌, ◌==◌, ◌≡◌, ◌≢◌, ◌≤◌, ◌<◌, ◌++◌, ◌∷◌, [], ◌∙◌, ⊎_elim, Bool, true}
use Rattle.std.proofs.Common.{false, cond}
use Rattle.std.proofs.Common.{List, Some, length, get_or, map, take, drop, refl, sym, ap, subst, arith, length-append}
use Rattle.std.proofs.Common.{length-take, length-drop}
use Rattle.std.specs.Prelude.{All, Contains, nat_lt, slice_get}
use Rattle.std.specs.List.{concat, filter}
use Rattle.std.specs.List.Sorted.{IsStrictlyIncreasing}
use Rattle.std.proofs.lemmas.Bool.{cases_eq, cases_lt, eq-eqb, le-ltb, lt-ltb, ne_eqb}
use Rattle.std.proofs.lemmas.Grind.{flat_map-append}
use Rattle.std.proofs.lemmas.List.{get_or-append-add, get_or-drop, get_or-map, get_or-take, get_or_append_left}
use Rattle.std.proofs.lemmas.List.{get_or_default, length-map}
use Rattle.std.proofs.lemmas.List.{same_lists, take-append-drop, take_all}
use Rattle.std.proofs.lemmas.List.Elements.{All-map}
use Rattle.std.proofs.lemmas.List.Sums.{count_by-le-length, length-filter}
use Rattle.std.proofs.lemmas.Option.{get_or_from_slice_get, slice_get_within}
use Rattle.std.proofs.lemmas.Simd.{map-map}
use Rattle.release_model.specs.Release.{Attribute, Release}
use Rattle.held_release.specs.AttributesBySource.{attributes_by_source}
use Rattle.number_lists.specs.KeyedLists.{list_of}
use Rattle.number_lists.proofs.PlaceLemmas.{place_of, place_of-get_or}
use Rattle.number_lists.proofs.ListLemmas.{concat-take_more}
use Rattle.held_release.specs.CodedRows.{AreCodedRows, row_coded}
use Rattle.postings.specs.inside.Coded.{AreRowMarks}
use Rattle.postings.specs.Columns.{Flagged}
use Rattle.postings.specs.Groups.{ConceptGroup, all_groups, group_of, groups_among, keys_of, rows_alone}
use Rattle.postings.specs.Places.{places_by}
use Rattle.held_release.specs.CodedRows.{values_in}
use Rattle.postings.specs.declared.groups.RowMarks.{RowMarks}
use Rattle.held_release.specs.declared.coded_rows.CodedRow.{CodedRow}
use Rattle.held_release.specs.declared.coded_rows.CodedRows.{CodedRows}
use Rattle.number_lists.proofs.BlockLemmas.{All-flat_map, filter-map, filter-none}
use Rattle.postings.proofs.KeptLemmas.{group_marked, many_groups}
use Rattle.postings.proofs.KeyLemmas.{group_with, groups_at}
use Rattle.postings.proofs.PlaceLemmas.{length-places_by, length-places_from, list_of-places_by}
use Rattle.postings.proofs.RowIndexLemmas.{starts_are}

-- ---- how many items have the first keys
none_below : (keys : List ℕ) → length (filter (λ key. nat_lt key 0) keys) ≡ 0
none_below keys = ap (λ (xs : List ℕ). length xs)
    (filter-none (λ key. nat_lt key 0) keys (λ k d inside. le-ltb (get_or keys k d) 0 (omega arith)))

-- there are as many keys below `k + 1` as below `k` and equal to `k`
more_below : (k : ℕ) (keys : List ℕ)
    → length (filter (λ key. nat_lt key (k + 1)) keys) ≡ length (filter (λ key. nat_lt key k) keys)
    + length (filter (λ key. key == k) keys)
more_below k [] = refl
more_below k (x ∷ xs) =
    let rest : length (filter (λ key. nat_lt key (k + 1)) xs) ≡ length (filter (λ key. nat_lt key k) xs)
    + length (filter (λ key. key == k) xs) =
    more_below k xs in
    ⊎_elim (λ (less : x < k). by true true false (lt-ltb x (k + 1) (omega (arith, less))) (lt-ltb x k less)
    (ne_eqb x k (λ (same : x ≡ k). absurd (omega (arith, less, same)))) (omega (arith, rest)))
    (λ (more : k ≤ x).
    ⊎_elim (λ (same : x ≡ k). by true false true (lt-ltb x (k + 1) (omega (arith, same))) (le-ltb x k more)
    (eq-eqb x k same)
    (omega (arith, rest)))
    (λ (other : x ≢ k). by false false false (le-ltb x (k + 1) (omega (arith, more, other))) (le-ltb x k more)
    (ne_eqb x k other)
    (omega (arith, rest)))
    (cases_eq x k))
    (cases_lt x k)
  where
    next : List ℕ
    next = filter (λ key. nat_lt key (k + 1)) xs

    before : List ℕ
    before = filter (λ key. nat_lt key k) xs

    own : List ℕ
    own = filter (λ key. key == k) xs

    by : (a b c : Bool) → nat_lt x (k + 1) ≡ a → nat_lt x k ≡ b → (x == k) ≡ c
        → length (cond a (x ∷ next) next) ≡ length (cond b (x ∷ before) before) + length (cond c (x ∷ own) own)
        → length (cond (nat_lt x (k + 1)) (x ∷ next) next)
        ≡ length (cond (nat_lt x k) (x ∷ before) before) + length (cond (x == k) (x ∷ own) own)
    by a b c first second third is =
        (λ i. length (cond (first i) (x ∷ next) next)) ∙ is
        ∙ (λ i. length (cond (sym second i) (x ∷ before) before) + length (cond (sym third i) (x ∷ own) own))

-- the lists of the keys below `k` have together as many places as `keys` has keys below `k`
pub length-ahead : (count : ℕ) (keys : List ℕ) (k : ℕ) → k ≤ count
    → length (concat (take k (places_by count keys))) ≡ length (filter (λ key. nat_lt key k) keys)
length-ahead count keys zero within = sym (none_below keys)
length-ahead count keys (suc k) within =
    let lists = places_by count keys in
    let next : suc k ≡ k + 1 = omega arith in
    ap (λ (n : ℕ). length (concat (take n lists))) next
    ∙ ap (λ (xs : List ℕ). length xs) (concat-take_more lists k (omega (arith, within, length-places_by count keys)))
    ∙ length-append (concat (take k lists)) (list_of lists k)
    ∙ (λ i. length-ahead count keys k (omega (arith, within)) i
    + (ap (λ (xs : List ℕ). length xs) (list_of-places_by count keys k (omega (arith, within)))
    ∙ length-places_from (λ key. key == k) 0 keys) i)
    ∙ sym (more_below k keys)
    ∙ ap (λ (n : ℕ). length (filter (λ key. nat_lt key n) keys)) (sym next)

-- the lists of all keys below `count` have together at most as many places as `keys` is long
pub length-places : (count : ℕ) (keys : List ℕ) → length (concat (places_by count keys)) ≤ length keys
length-places count keys =
    omega (
      arith,
      ap (λ (lists : List (List ℕ)). length (concat lists))
          (take_all count (places_by count keys) (omega (arith, length-places_by count keys))),
      length-ahead count keys count (omega arith),
      length-filter (λ key. nat_lt key count) keys,
      count_by-le-length (λ key. nat_lt key count) keys,
    )

-- two lists have equally many items that pass, if their tests give equal answers item by item
many_pass : {X Y : Type 0} (p : X → Bool) (q : Y → Bool) (xs : List X) (ys : List Y) → map p xs ≡ map q ys
    → length (filter p xs) ≡ length (filter q ys)
many_pass p q xs ys same =
    sym (length-map (filter p xs) p)
    ∙ ap (λ (tests : List Bool). length tests) (sym (filter-map (λ b. b) p xs) ∙ ap (filter (λ b. b)) same
    ∙ filter-map (λ b. b) q ys)
    ∙ length-map (filter q ys) q

module _ (release : Release) (rises : IsStrictlyIncreasing release.concepts) (coded : CodedRows)
    (are : AreCodedRows release.concepts (attributes_by_source release) coded) (marks : RowMarks)
    (marked : AreRowMarks (length release.concepts) coded.rows.items marks) where
  abbrev rows : List Attribute
  rows = attributes_by_source release

  abbrev codes : List CodedRow
  codes = coded.rows.items

  abbrev alone : Release
  alone = rows_alone release.concepts rows

  abbrev id : ℕ → ℕ
  id k = get_or release.concepts k 0

  abbrev stands : CodedRow → Attribute
  stands = row_coded release.concepts coded.types.items (values_in release.concepts coded.values)

  -- concepts with equal identifiers have equal numbers
  same_number : (i j : ℕ) → i < length release.concepts → j < length release.concepts → id i ≡ id j → i ≡ j
  same_number i j near far same =
      sym (place_of-get_or release.concepts rises i near) ∙ ap (place_of release.concepts) same
      ∙ place_of-get_or release.concepts rises j far

  -- each group of `concepts` is of one of these concepts
  groups_of_own : (concepts : List ℕ)
      → All (λ (group : ConceptGroup). Contains concepts group.concept) (groups_among alone concepts)
  groups_of_own concepts =
      All-flat_map (λ (group : ConceptGroup). Contains concepts group.concept) (groups_at alone) concepts
      (λ concept there. All-map (λ (group : ConceptGroup). Contains concepts group.concept) (group_with concept)
      (keys_of alone concept)
      (λ k d below. there))

  module _ (c : ℕ) (within : c ≤ length release.concepts) where
    abbrev before : List ConceptGroup
    before = groups_among alone (take c release.concepts)

    abbrev following : List ConceptGroup
    following = groups_among alone (drop c release.concepts)

    start : get_or marks.starts.items c 0 ≡ length before
    start = starts_are release rises coded are marks marked c within

    split : all_groups alone ≡ before ++ following
    split = ap (groups_among alone) (sym (take-append-drop c release.concepts))
        ∙ flat_map-append (groups_at alone) (take c release.concepts) (drop c release.concepts)

    -- row `n`, its group and its source
    module _ (n : ℕ) (d : Flagged) (e : CodedRow) (below : n < length codes) where
      abbrev unit : ℕ
      unit = (get_or marks.groups.items n d).number

      abbrev source : ℕ
      source = (get_or codes n e).source

      known : source < length release.concepts
      known = (are.within n e below).source

      abbrev group : ConceptGroup
      group = group_of (stands (get_or codes n e))

      told : slice_get (all_groups alone) unit ≡ Some group
      told = group_marked release rises coded are marks marked n d (stands e) below
          ∙ ap (λ (row : Attribute). Some (group_of row))
          (ap (λ (xs : List Attribute). get_or xs n (stands e)) (sym are.stand_for)
          ∙ get_or-map stands codes n e (stands e) below)

      at : get_or (before ++ following) unit group ≡ group
      at = ap (λ (xs : List ConceptGroup). get_or xs unit group) (sym split)
          ∙ get_or_from_slice_get (all_groups alone) unit group group told

      earlier : unit < length before → source < c
      earlier less =
          let own : get_or before unit group ≡ group = sym (get_or_append_left before following group unit less) ∙ at in
          let there : Contains (take c release.concepts) (id source) =
          subst (λ (found : ConceptGroup). Contains (take c release.concepts) found.concept) own
          (groups_of_own (take c release.concepts) unit group less) in
          let near : there.0 < c = omega (arith, there.1, length-take c release.concepts) in
          let same : id there.0 ≡ id source =
          get_or_default release.concepts there.0 0 (id source) (omega (arith, near, within))
          ∙ sym (get_or-take c release.concepts there.0 (id source) near) ∙ there.2 in
          omega (arith, near, same_number there.0 source (omega (arith, near, within)) known same)

      later : length before ≤ unit → c ≤ source
      later more =
          let rest : ℕ = unit - length before in
          let whole : length before + rest ≡ unit = omega (arith, more) in
          let inside : rest < length following =
          omega (
            arith,
            slice_get_within (all_groups alone) unit group told,
            ap (λ (xs : List ConceptGroup). length xs) split,
            length-append before following,
            whole,
          ) in
          let own : get_or following rest group ≡ group =
          sym (get_or-append-add before following rest group)
          ∙ ap (λ (k : ℕ). get_or (before ++ following) k group) whole ∙ at in
          let there : Contains (drop c release.concepts) (id source) =
          subst (λ (found : ConceptGroup). Contains (drop c release.concepts) found.concept) own
          (groups_of_own (drop c release.concepts) rest group inside) in
          let near : c + there.0 < length release.concepts = omega (arith, there.1, length-drop c release.concepts) in
          let same : id (c + there.0) ≡ id source =
          get_or_default release.concepts (c + there.0) 0 (id source) near
          ∙ sym (get_or-drop c release.concepts there.0 (id source)) ∙ there.2 in
          omega (arith, same_number (c + there.0) source near known same)

      -- the group of row `n` comes before the first group of concept `c` exactly if the row's source comes before `c`
      pub before_told : nat_lt unit (get_or marks.starts.items c 0) ≡ nat_lt source c
      before_told = ⊎_elim
          (λ (less : unit < length before).
          ap (nat_lt unit) start ∙ lt-ltb unit (length before) less ∙ sym (lt-ltb source c (earlier less)))
          (λ (more : length before ≤ unit).
          ap (nat_lt unit) start ∙ le-ltb unit (length before) more ∙ sym (le-ltb source c (later more)))
          (cases_lt unit (length before))

    -- the first group of a concept is at most the number of all groups
    pub start_within : get_or marks.starts.items c 0 ≤ length (all_groups alone)
    start_within = omega (
      arith,
      start,
      ap (λ (xs : List ConceptGroup). length xs) split,
      length-append before
          following,
    )

    -- the groups before the first group of concept `c` have as many rows as the concepts before `c`
    pub ahead_told : (count : ℕ) → get_or marks.starts.items c 0 ≤ count
        → length (concat (take (get_or marks.starts.items c 0)
        (places_by count (map (λ (mark : Flagged). mark.number) marks.groups.items))))
        ≡ length (concat (take c (places_by (length release.concepts) (map (λ (row : CodedRow). row.source) codes))))
    ahead_told count near =
        length-ahead count (map (λ (mark : Flagged). mark.number) marks.groups.items) s near
        ∙ many_pass (λ key. nat_lt key s) (λ key. nat_lt key c)
        (map (λ (mark : Flagged). mark.number) marks.groups.items)
        (map (λ (row : CodedRow). row.source) codes)
        (map-map (λ key. nat_lt key s) (λ (mark : Flagged). mark.number) marks.groups.items ∙ each
        ∙ sym (map-map (λ key. nat_lt key c) (λ (row : CodedRow). row.source) codes))
        ∙ sym (length-ahead (length release.concepts) (map (λ (row : CodedRow). row.source) codes) c within)
      where
        s : ℕ
        s = get_or marks.starts.items c 0

        long : length marks.groups.items ≡ length codes
        long = many_groups release rises coded are marks marked

        mark : Flagged
        mark = record { number = 0; is_first = true }

        row : CodedRow
        row = record { source = 0; type_place = 0; group = 0; value = 0 }

        each : map (λ (mark : Flagged). nat_lt mark.number s) marks.groups.items
            ≡ map (λ (row : CodedRow). nat_lt row.source c) codes
        each =
            same_lists (map (λ (mark : Flagged). nat_lt mark.number s) marks.groups.items)
            (map (λ (row : CodedRow). nat_lt row.source c) codes)
            (length-map marks.groups.items (λ (mark : Flagged). nat_lt mark.number s) ∙ long
            ∙ sym (length-map codes (λ (row : CodedRow). nat_lt row.source c)))
            (λ n d inside.
            let here : n < length marks.groups.items =
            omega (arith, inside, length-map marks.groups.items (λ (mark : Flagged). nat_lt mark.number s)) in
            get_or-map (λ (mark : Flagged). nat_lt mark.number s) marks.groups.items n mark d here
            ∙ before_told n mark row (omega (arith, here, long))
            ∙ sym (get_or-map (λ (row : CodedRow). nat_lt row.source c) codes n row d (omega (arith, here, long))))
