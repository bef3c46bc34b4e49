-- The streams of the program, and the texts reported on the stream for errors.
use Rattle.std.specs.Prelude.{ℕ, ◌≡◌, false, List, take}
use Rattle.std.specs.Io.KnownBytes.{Appends}
use Rattle.streams.specs.declared.output.AnswerOutput.{Ghosts}

-- the three streams of the program
pub record Streams (R W E : Type 0) : Type 0 where
  -- query lines are read from this stream
  pub input : R
  -- answers and reports are written to this stream
  pub output : W
  -- refusals and faults are reported on this stream
  pub errors : E

-- the record of three streams
abbrev pub streams : {R W E : Type 0} → R → W → E → Streams R W E
streams input output errors = record { input = input; output = output; errors = errors }

-- the two streams that are written to
pub record Outputs (W E : Type 0) : Type 0 where
  -- answers and reports are written to this stream
  pub output : W
  -- refusals and faults are reported on this stream
  pub errors : E

-- the record of two streams
abbrev pub outputs : {W E : Type 0} → W → E → Outputs W E
outputs output errors = record { output = output; errors = errors }

-- `text` was reported: a prefix of it was written, and all of it unless the stream has failed
pub record IsTold {E : Type 0} (e : Ghosts E) (before after : E) (text : List ℕ) : Type 0 where
  -- if the stream has not failed, all of the text was written
  pub whole : e.has_failed after ≡ false → Appends (e.written before) (e.written after) text
  -- a prefix of the text was written
  pub front : (place : ℕ) × Appends (e.written before) (e.written after) (take place text)
