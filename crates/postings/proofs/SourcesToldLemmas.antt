-- Coded rows source by source: their order, and the marks with their sources.
use Rattle.std.proofs.Common.{ℕ, ◌==◌, ◌≡◌, ◌<◌, ◌&&◌, [], ◌∙◌, List, length, get_or, map, Bool, true, false}
use Rattle.std.proofs.Common.{nat_eq, sym, ap, arith}
use Rattle.std.specs.Prelude.{All}
use Rattle.std.specs.List.{IsDistinct, filter, flat_map, range_with_len}
use Rattle.std.specs.List.Sorted.{IsStrictlyIncreasing}
use Rattle.std.proofs.lemmas.Bool.{eq-eqb, eqb-true, ne_eqb}
use Rattle.std.proofs.lemmas.List.Elements.{All-filter, All-map, All-nil, All-same, All-weaker, filter_passes}
use Rattle.std.proofs.lemmas.Simd.{map-map}
use Rattle.release_model.specs.Pairs.{value_eq}
use Rattle.release_model.specs.Release.{Attribute, Value}
use Rattle.held_release.specs.CodedRows.{IsCoded, row_coded}
use Rattle.postings.specs.inside.Coded.{IsBySource, all_source_marks, has_same_pair, of_source}
use Rattle.postings.specs.inside.Coded.{source_marks}
use Rattle.postings.specs.Columns.{AreSources, Flagged}
use Rattle.postings.specs.Entries.{Entry, entries_of, is_alike}
use Rattle.postings.specs.Indexed.{value_at}
use Rattle.held_release.specs.declared.coded_rows.CodedRow.{CodedRow}
use Rattle.number_lists.proofs.BlockLemmas.{All-blocks, All-mapped, blocks-same, blocks_by_place, filter-map}
use Rattle.number_lists.proofs.BlockLemmas.{filter-within, map-flat_map}
use Rattle.postings.proofs.CodeLemmas.{alike_coded, same_all_coded, same_concept}
use Rattle.postings.proofs.EntryLemmas.{firsts_of_entries, firsts_of_marks, numbers_of_marks, rows_of_entries}
use Rattle.postings.proofs.FlagLemmas.{flags-blocks, flags-map, flags_after}

-- each row that `of_source coded k` returns has the source `k`
pub source_of_block : (coded : List CodedRow) (k : ℕ) → All (λ (row : CodedRow). row.source ≡ k) (of_source coded k)
source_of_block coded k =
    All-weaker (λ (row : CodedRow). (row.source == k) ≡ true) (λ (row : CodedRow). row.source ≡ k)
    (λ row told. eqb-true row.source k told) (of_source coded k)
    (filter_passes (λ (row : CodedRow). row.source == k) coded)

-- a test that first compares sources fails for rows of different sources
pub apart_by_source : (a b : CodedRow) (rest : Bool) → b.source < a.source → ((a.source == b.source) && rest) ≡ false
apart_by_source a b rest less =
    ap (λ (test : Bool). test && rest) (ne_eqb a.source b.source (λ same. absurd (omega arith)))

-- for rows of one source, a test that first compares sources is the rest of that test
pub same_by_source : (a b : CodedRow) (rest : Bool) → a.source ≡ b.source → ((a.source == b.source) && rest) ≡ rest
same_by_source a b rest same = ap (λ (test : Bool). test && rest) (eq-eqb a.source b.source same)

-- if rows of different sources are never equal, the flags of rows ordered by source are, source by source, the flags of
-- the source's rows
pub flags_by_source : (coded : List CodedRow) (count : ℕ) (other : CodedRow → CodedRow → Bool) (same : CodedRow
    → CodedRow → Bool)
    → ((a b : CodedRow) → b.source < a.source → same a b ≡ false)
    → ((a b : CodedRow) → a.source ≡ b.source → same a b ≡ other a b) → IsBySource count coded
    → flags_after same [] coded ≡ flat_map (λ source. flags_after other [] (of_source coded source))
    (range_with_len 0 count)
flags_by_source coded count other same apart agree sorted =
    ap (flags_after same []) sorted
    ∙ flags-blocks (λ (row : CodedRow). row.source) same other apart agree (of_source coded) (source_of_block coded) 0
    count []
    (All-nil (λ (row : CodedRow). row.source < 0))

module _ (concepts types : List ℕ) (values : List Value) (rising : IsStrictlyIncreasing concepts)
    (once : IsDistinct nat_eq types)
    (exact : (v w : ℕ) → v < length values → w < length values
    → value_eq (value_at values v) (value_at values w) ≡ (v == w))
    (coded : List CodedRow) (within : All (IsCoded concepts types values) coded) (rows : List Attribute)
    (are : rows ≡ map (row_coded concepts types values) coded) where
  -- the attribute rows with concept `k` as source are those that the coded rows with the source `k` encode
  pub rows_of_source : (k : ℕ) → k < length concepts
      → filter (λ (row : Attribute). row.source == get_or concepts k 0) rows
      ≡ map (row_coded concepts types values) (of_source coded k)
  rows_of_source k below =
      ap (filter (λ (row : Attribute). row.source == get_or concepts k 0)) are
      ∙ filter-map (λ (row : Attribute). row.source == get_or concepts k 0) (row_coded concepts types values) coded
      ∙ ap (map (row_coded concepts types values))
      (filter-within (λ (row : CodedRow). get_or concepts row.source 0 == get_or concepts k 0)
      (λ (row : CodedRow). row.source == k) coded
      (All-weaker (IsCoded concepts types values)
      (λ (row : CodedRow). (get_or concepts row.source 0 == get_or concepts k 0)
      ≡ (row.source == k))
      (λ row is. same_concept concepts rising row.source k is.source below) coded within))

  -- if the attribute rows are ordered by source, so are the coded rows that encode them
  pub by_source_coded : rows ≡ flat_map (λ concept. filter (λ (row : Attribute). row.source == concept) rows) concepts
      → IsBySource (length concepts) coded
  by_source_coded sorted =
      same_all_coded concepts types values rising once exact coded
      (flat_map (of_source coded) (range_with_len 0 (length concepts))) within
      (All-blocks (IsCoded concepts types values) (of_source coded) 0 (length concepts)
      (λ k above below. All-filter (λ (row : CodedRow). row.source == k) (IsCoded concepts types values) coded within))
      (sym are ∙ sorted
      ∙ blocks_by_place (λ concept. filter (λ (row : Attribute). row.source == concept) rows) concepts 0
      ∙ blocks-same (λ k. filter (λ (row : Attribute). row.source == get_or concepts k 0) rows)
      (λ k. map (row_coded concepts types values) (of_source coded k)) 0 (length concepts)
      (λ k below. rows_of_source k (omega arith))
      ∙ sym (map-flat_map (row_coded concepts types values) (of_source coded) (range_with_len 0 (length concepts))))

  module _ (sorted : IsBySource (length concepts) coded) where
    -- the numbers of the marks by source are the sources of the rows
    source_numbers : map (λ (mark : Flagged). mark.number) (all_source_marks coded (length concepts))
        ≡ map (λ (row : CodedRow). row.source) coded
    source_numbers =
        map-flat_map (λ (mark : Flagged). mark.number) (λ source. source_marks (of_source coded source))
        (range_with_len 0 (length concepts))
        ∙ blocks-same (λ source. map (λ (mark : Flagged). mark.number) (source_marks (of_source coded source)))
        (λ source. map (λ (row : CodedRow). row.source) (of_source coded source)) 0 (length concepts)
        (λ k below. numbers_of_marks has_same_pair (λ (row : CodedRow). row.source) [] (of_source coded k))
        ∙ sym (map-flat_map (λ (row : CodedRow). row.source) (of_source coded) (range_with_len 0 (length concepts)))
        ∙ ap (map (λ (row : CodedRow). row.source)) (sym sorted)

    -- the flags of the marks by source are those of the entries
    source_firsts : map (λ (mark : Flagged). mark.is_first) (all_source_marks coded (length concepts))
        ≡ map (λ (entry : Entry). entry.is_first) (entries_of rows)
    source_firsts =
        map-flat_map (λ (mark : Flagged). mark.is_first) (λ source. source_marks (of_source coded source))
        (range_with_len 0 (length concepts))
        ∙ blocks-same (λ source. map (λ (mark : Flagged). mark.is_first) (source_marks (of_source coded source)))
        (λ source. flags_after has_same_pair [] (of_source coded source)) 0 (length concepts)
        (λ k below. firsts_of_marks has_same_pair (λ (row : CodedRow). row.source) [] (of_source coded k))
        ∙ sym (flags_by_source coded (length concepts) has_same_pair
        (λ a b. (a.source == b.source) && has_same_pair a b)
        (λ a b less. apart_by_source a b (has_same_pair a b) less)
        (λ a b same. same_by_source a b (has_same_pair a b) same) sorted)
        ∙ sym (flags-map (IsCoded concepts types values) (row_coded concepts types values) is_alike
        (λ a b. (a.source == b.source) && has_same_pair a b)
        (alike_coded concepts types values rising once exact) [] coded (All-nil (IsCoded concepts types values)) within)
        ∙ ap (flags_after is_alike []) (sym are)
        ∙ sym (firsts_of_entries [] rows)

    -- the marks of coded rows by source are a column of sources for the rows that they encode
    pub sources_told : AreSources concepts (entries_of rows) (all_source_marks coded (length concepts))
    sources_told = record {
      within = told_within;
      sources = sym (map-map (λ k. get_or concepts k 0) (λ (mark : Flagged). mark.number)
          (all_source_marks coded (length concepts)))
          ∙ ap (map (λ k. get_or concepts k 0)) source_numbers
          ∙ map-map (λ k. get_or concepts k 0) (λ (row : CodedRow). row.source) coded
          ∙ sym (map-map (λ (row : Attribute). row.source) (row_coded concepts types values) coded)
          ∙ ap (map (λ (row : Attribute). row.source)) (sym are ∙ sym (rows_of_entries [] rows))
          ∙ map-map (λ (row : Attribute). row.source) (λ (entry : Entry). entry.row) (entries_of rows);
      firsts = source_firsts;
    }
      where
        told_within : All (λ (mark : Flagged). mark.number < length concepts) (all_source_marks coded (length concepts))
        told_within =
            All-mapped (λ number. number < length concepts) (λ (mark : Flagged). mark.number)
            (all_source_marks coded (length concepts))
            (All-same (λ number. number < length concepts)
            (map (λ (mark : Flagged). mark.number) (all_source_marks coded (length concepts)))
            (map (λ (row : CodedRow). row.source) coded) source_numbers
            (All-map (λ number. number < length concepts) (λ (row : CodedRow). row.source) coded
            (All-weaker (IsCoded concepts types values) (λ (row : CodedRow). row.source < length concepts)
            (λ row is. is.source) coded
            within)))
