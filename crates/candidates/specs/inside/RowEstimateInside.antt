-- What the fields of a `RowEstimate` mean.
use Rattle.std.specs.Prelude.{Option, None, Some}
use Rattle.postings.specs.Indexed.{Indexed}
use Rattle.reading.specs.declared.reader.Reader.{Reader}
use Rattle.candidates.specs.RowEstimates.{Estimate}
use Rattle.candidates.specs.declared.estimate.RowEstimate.TheInside.{Inside}

-- the indexes of a reader; `None` without a reader
abbrev pub indexes_told : Option Reader → Option Indexed
indexes_told None = None
indexes_told (Some reader) = Some reader.indexes.now

-- the estimate that the fields of a `RowEstimate` mean
abbrev pub estimate_in : Inside → Estimate
estimate_in inside = record {
  indexed = indexes_told inside.reader;
  back = inside.back;
  rows = inside.rows;
}
