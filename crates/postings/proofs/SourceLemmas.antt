-- The rows and the groups of the sources, one source after another.
use Rattle.std.proofs.Common.{ℕ, zero, suc, ◌+◌, ◌==◌, ◌≡◌, ◌≤◌, ◌<◌, ◌++◌, ◌∷◌, [], ◌∙◌, inl}
use Rattle.std.proofs.Common.{inr, List, length, get_or, sym, ap, arith, length-append}
use Rattle.std.specs.Prelude.{All}
use Rattle.std.specs.List.{flat_map, range_with_len}
use Rattle.std.proofs.lemmas.Bool.{cases_eq, eqb-true}
use Rattle.std.proofs.lemmas.List.{get_or_append_left, get_or_push}
use Rattle.std.proofs.lemmas.List.Elements.{filter_passes}
use Rattle.held_release.proofs.SortedLemmas.{flat_map-more}
use Rattle.postings.specs.inside.Coded.{IsBySource, group_codes, groups_ahead, of_source}
use Rattle.held_release.specs.declared.coded_rows.CodedRow.{CodedRow}
use Rattle.postings.proofs.GroupLemmas.{length-group_codes-le}

-- the lists of more numbers are no shorter
length-flat_map-range : {X : Type 0} (f : ℕ → List X) (from n more : ℕ) → n ≤ more
    → length (flat_map f (range_with_len from n)) ≤ length (flat_map f (range_with_len from more))
length-flat_map-range f from zero more le = omega arith
length-flat_map-range f from (suc n) zero le = absurd (omega arith)
length-flat_map-range f from (suc n) (suc more) le =
    omega (
      arith,
      length-append (f from) (flat_map f (range_with_len (from + 1) n)),
      length-append (f from) (flat_map f (range_with_len (from + 1) more)),
      length-flat_map-range f (from + 1) n more (omega arith),
    )

-- lists that are each no longer than another are together no longer
length-flat_map-le : {X Y : Type 0} (f : ℕ → List X) (g : ℕ → List Y) → ((k : ℕ) → length (f k) ≤ length (g k))
    → (from n : ℕ) → length (flat_map f (range_with_len from n)) ≤ length (flat_map g (range_with_len from n))
length-flat_map-le f g le from zero = omega arith
length-flat_map-le f g le from (suc n) =
    omega (
      arith,
      length-append (f from) (flat_map f (range_with_len (from + 1) n)),
      length-append (g from) (flat_map g (range_with_len (from + 1) n)),
      le from,
      length-flat_map-le f g le (from + 1) n,
    )

-- the sources up to and including `source` have the groups of those before it, and its own
pub groups_ahead-more : (rows : List CodedRow) (source : ℕ)
    → groups_ahead rows (source + 1) ≡ groups_ahead rows source + length (group_codes (of_source rows source))
groups_ahead-more rows source =
    let codes : ℕ → List (ℕ × (ℕ × ℕ)) = λ other. group_codes (of_source rows other) in
    ap (λ (all : List (ℕ × (ℕ × ℕ))). length all) (flat_map-more codes source)
    ∙ length-append {A = ℕ × (ℕ × ℕ)} (flat_map codes (range_with_len 0 source)) (codes source)

-- the sources before `source` have at most as many groups as there are rows
pub groups_ahead-le : (rows : List CodedRow) (count source : ℕ) → IsBySource count rows → source ≤ count
    → groups_ahead rows source ≤ length rows
groups_ahead-le rows count source sorted le =
    omega (
      arith,
      length-flat_map-le (λ other. group_codes (of_source rows other)) (of_source rows)
          (λ other. length-group_codes-le (of_source rows other)) 0 source,
      length-flat_map-range (of_source rows) 0 source count le,
      ap (λ (own : List CodedRow). length own) sorted,
    )

-- the groups of the sources before `source` and its own rows are together at most as many as all rows
pub rows_left : (rows : List CodedRow) (count source : ℕ) → IsBySource count rows → source < count
    → groups_ahead rows source + length (of_source rows source) ≤ length rows
rows_left rows count source sorted below =
    omega (
      arith,
      length-flat_map-le (λ other. group_codes (of_source rows other)) (of_source rows)
          (λ other. length-group_codes-le (of_source rows other)) 0 source,
      ap (λ (own : List CodedRow). length own) (flat_map-more (of_source rows) source),
      length-append (flat_map (of_source rows) (range_with_len 0 source)) (of_source rows source),
      length-flat_map-range (of_source rows) 0 (source + 1) count (omega arith),
      ap (λ (own : List CodedRow). length own) sorted,
    )

-- each row that `of_source` returns has `source` as its source
pub of_source-own : (rows : List CodedRow) (source : ℕ)
    → All (λ (row : CodedRow). row.source ≡ source) (of_source rows source)
of_source-own rows source k d within =
    eqb-true (get_or (of_source rows source) k d).source source
    (filter_passes (λ (row : CodedRow). row.source == source) rows k d within)

-- if `starts` has for each source up to `source` the number of groups before it, then adding `ahead`, the number before
-- the next source, makes it so for that one
pub starts_more : (rows : List CodedRow) (starts : List ℕ) (source ahead : ℕ) → length starts ≡ source + 1
    → ((k : ℕ) → k ≤ source → get_or starts k 0 ≡ groups_ahead rows k) → ahead ≡ groups_ahead rows (source + 1)
    → (k : ℕ) → k ≤ source + 1 → get_or (starts ++ ahead ∷ []) k 0 ≡ groups_ahead rows k
starts_more rows starts source ahead len known more k le =
    elim (cases_eq k (source + 1)) [
      | inl last ↦
          get_or_push starts ahead 0 k (omega (arith, len, last))
          ∙ more
          ∙ ap (groups_ahead rows) (sym last)
      | inr other ↦ get_or_append_left starts (ahead ∷ []) 0 k (omega (arith, len, other, le))
          ∙ known k (omega (arith, le, other))
    ]
