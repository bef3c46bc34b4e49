-- A source of files in memory, and what each of its calls counts.
use Rattle.std.specs.Prelude.{ℕ, ◌≡◌, ◌≢◌, ◌+◌, ◌-◌, ◌^◌, Bool, false, List, [], None, Some, max, min}
use Rattle.release_files.specs.Source.{FileText, History, bytes_of}

-- a source of files in memory, as contracts see it
pub record MemorySource : Type 0 where
  -- the files of the source
  pub files : List FileText
  -- the bytes of the open file that were not read yet
  pub rest : List ℕ
  -- how many bytes one read gives at most
  pub piece : ℕ
  -- the number of the call that fails; 0 if none does
  pub fail_at : ℕ
  -- how many calls there were
  pub calls : ℕ
  -- the history of the source
  pub history : History

-- the history of a source that has done nothing
abbrev pub nothing_done : History
nothing_done = record {
  failures = 0;
  opened = None;
  failed = None;
  taken = 0;
  most = 0;
  unlisted = false;
}

-- a source of `files` before its first call, when no file is open
abbrev pub asked_source : List FileText → ℕ → ℕ → MemorySource
asked_source files piece fail_at =
    record {
      files = files;
      rest = [];
      piece = piece;
      fail_at = fail_at;
      calls = 0;
      history = nothing_done;
    }

-- the files and settings of the source stay the same, and its count of calls is `count`
pub record IsCounted (count : ℕ) (old new : MemorySource) : Type 0 where
  -- the files stay the same
  pub files : new.files ≡ old.files
  -- the size of a read stays the same
  pub piece : new.piece ≡ old.piece
  -- the number of the call that fails stays the same
  pub fail_at : new.fail_at ≡ old.fail_at
  -- the count of calls is `count`
  pub calls : new.calls ≡ count

-- the source counted one more call; the count stops at u64::MAX
abbrev pub IsCall : MemorySource → MemorySource → Type 0
IsCall old new = IsCounted (min (old.calls + 1) (2 ^ 64 - 1)) old new

-- the source counted one more failure, at the file that was opened last
abbrev pub IsFailed : History → History → Type 0
IsFailed old new = new ≡ record old
    { failures = max old.failures (min (old.failures + 1) (2 ^ 64 - 1)); failed = old.opened }

-- if a file is called `name`, the source tells that it opened `name` last
abbrev pub IsToldOpened : List ℕ → MemorySource → Type 0
IsToldOpened name new = bytes_of name new.files ≢ None → new.history.opened ≡ Some name

-- the history after `count` more bytes of the open file were read; both counts stop at u64::MAX
abbrev pub with_bytes : ℕ → History → History
with_bytes count old =
    let taken : ℕ = min (old.taken + count) (2 ^ 64 - 1) in
    record old { taken = taken; most = max old.most taken }
