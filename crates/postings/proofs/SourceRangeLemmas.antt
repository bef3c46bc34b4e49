-- Coded rows that stand source by source: the rows of a source are a range.
use Rattle.std.proofs.Common.{ℕ, zero, suc, ◌+◌, ◌==◌, ◌≡◌, ◌≤◌, ◌++◌, ◌∷◌, [], ◌∙◌, Bool, true, false, cond}
use Rattle.std.proofs.Common.{List, length, map, refl, sym, ap, arith, length-append, add-zero, zero-add}
use Rattle.std.specs.Prelude.{All}
use Rattle.std.specs.List.{concat, flat_map, range_with_len}
use Rattle.std.proofs.lemmas.Bool.{eq-eqb, ne_eqb}
use Rattle.std.proofs.lemmas.List.{append-nil}
use Rattle.std.proofs.lemmas.List.Elements.{All-append, All-nil, All-tail, All-weaker}
use Rattle.number_lists.proofs.ListLemmas.{same_maps}
use Rattle.postings.specs.inside.Coded.{IsBySource, of_source}
use Rattle.postings.specs.Places.{places_by, places_from, places_where}
use Rattle.held_release.specs.declared.coded_rows.CodedRow.{CodedRow}
use Rattle.postings.proofs.PlaceLemmas.{places_from-append, places_where-map}
use Rattle.postings.proofs.SourceLemmas.{of_source-own}

-- ---- places in a list whose items all pass, or none
module _ {X : Type 0} (test : X → Bool) where
  -- if all items pass, the places are all, counted from `place`
  places_from-all : (place : ℕ) (xs : List X) → All (λ x. test x ≡ true) xs
      → places_from place test xs ≡ range_with_len place (length xs)
  places_from-all place [] all = refl
  places_from-all place (x ∷ xs) all =
      (λ i. cond (all 0 x (omega arith) i) (place ∷ places_from (place + 1) test xs)
      (places_from (place + 1) test xs))
      ∙ ap (λ places. place ∷ places) (places_from-all (place + 1) xs (All-tail (λ x. test x ≡ true) x xs all))

  -- if no item passes, there is no place
  places_from-none : (place : ℕ) (xs : List X) → All (λ x. test x ≡ false) xs
      → places_from place test xs ≡ []
  places_from-none place [] none = refl
  places_from-none place (x ∷ xs) none =
      (λ i. cond (none 0 x (omega arith) i) (place ∷ places_from (place + 1) test xs)
      (places_from (place + 1) test xs))
      ∙ places_from-none (place + 1) xs (All-tail (λ x. test x ≡ false) x xs none)

-- the numbers from `from` on are the first `n` and the others
range-append : (from n more : ℕ) → range_with_len from (n + more)
    ≡ range_with_len from n ++ range_with_len (from + n) more
range-append from zero more = λ i. range_with_len (sym (add-zero from) i) (zero-add more i)
range-append from (suc n) more =
    let one : suc n + more ≡ suc (n + more) = omega arith in
    let next : (from + 1) + n ≡ from + suc n = omega arith in
    ap (range_with_len from) one
    ∙ ap (λ rest. from ∷ rest)
    (range-append (from + 1) n more ∙ ap (λ at. range_with_len (from + 1) n ++ range_with_len at more) next)

module _ (rows : List CodedRow) where
  -- the rows of `n` sources from `from` on, source by source
  abbrev pub from_source : ℕ → ℕ → List CodedRow
  from_source from n = flat_map (of_source rows) (range_with_len from n)

  -- their sources are `from` or more
  pub sources_from : (from n : ℕ) → All (λ (row : CodedRow). from ≤ row.source) (from_source from n)
  sources_from from zero = All-nil (λ (row : CodedRow). from ≤ row.source)
  sources_from from (suc n) =
      let least : ℕ → CodedRow → Type 0 = λ from row. from ≤ row.source in
      All-append (least from) (of_source rows from) (from_source (from + 1) n)
      (All-weaker (λ (row : CodedRow). row.source ≡ from) (least from) (λ row is. omega (arith, is))
      (of_source rows from) (of_source-own rows from))
      (All-weaker (least (from + 1)) (least from) (λ row more. omega (arith, more)) (from_source (from + 1) n)
      (sources_from (from + 1) n))

  -- the places of a source are counted from `place`
  abbrev places_of : ℕ → ℕ → List CodedRow → List ℕ
  places_of place source among = places_from place (λ (row : CodedRow). row.source == source) among

  -- the rows of each source from `from` on have the next places in turn
  places_in_turn : (place from n : ℕ) → concat (map (λ source. places_of place source (from_source from n))
      (range_with_len from n)) ≡ range_with_len place (length (from_source from n))
  places_in_turn place from zero = refl
  places_in_turn place from (suc n) =
      let own : List CodedRow = of_source rows from in
      let others : List CodedRow = from_source (from + 1) n in
      let first : places_of place from (own ++ others) ≡ range_with_len place (length own) =
      places_from-append (λ (row : CodedRow). row.source == from) place own others
      ∙ (λ i. places_from-all (λ (row : CodedRow). row.source == from) place own (All-weaker
      (λ (row : CodedRow). row.source ≡ from) (λ (row : CodedRow). (row.source == from) ≡ true)
      (λ row is. eq-eqb row.source from is) own (of_source-own rows from)) i
      ++ places_from-none (λ (row : CodedRow). row.source == from) (place + length own) others (All-weaker
      (λ (row : CodedRow). from + 1 ≤ row.source) (λ (row : CodedRow). (row.source == from) ≡ false)
      (λ row more. ne_eqb row.source from (λ is. omega (arith, more, is))) others (sources_from (from + 1) n)) i)
      ∙ append-nil (range_with_len place (length own)) in
      let later : map (λ source. places_of place source (own ++ others)) (range_with_len (from + 1) n)
      ≡ map (λ source. places_of (place + length own) source others) (range_with_len (from + 1) n) =
      same_maps (λ source. places_of place source (own ++ others)) (λ source. places_of (place + length own) source
      others) (from + 1) n (λ source least below.
      places_from-append (λ (row : CodedRow). row.source == source) place own others
      ∙ ap (λ places. places ++ places_of (place + length own) source others)
      (places_from-none (λ (row : CodedRow). row.source == source) place own (All-weaker
      (λ (row : CodedRow). row.source ≡ from) (λ (row : CodedRow). (row.source == source) ≡ false)
      (λ row is. ne_eqb row.source source (λ same. omega (arith, is, same, least))) own
      (of_source-own rows from)))) in
      (λ i. first i ++ concat (later i))
      ∙ ap (λ rest. range_with_len place (length own) ++ rest) (places_in_turn (place + length own) (from + 1) n)
      ∙ sym (range-append place (length own) (length others))
      ∙ ap (range_with_len place) (sym (length-append own others))

  -- if the rows stand source by source, the places of all sources in turn are all places
  pub sources_in_turn : (count : ℕ) → IsBySource count rows
      → concat (places_by count (map (λ (row : CodedRow). row.source) rows)) ≡ range_with_len 0 (length rows)
  sources_in_turn count sorted =
      ap concat (same_maps
      (λ source. places_where (λ other. other == source) (map (λ (row : CodedRow). row.source) rows))
      (λ source. places_of 0 source (from_source 0 count)) 0 count (λ source least below.
      places_where-map (λ (row : CodedRow). row.source) (λ other. other == source) rows
      ∙ ap (places_of 0 source) sorted))
      ∙ places_in_turn 0 0 count
      ∙ ap (λ (all : List CodedRow). range_with_len 0 (length all)) (sym sorted)
