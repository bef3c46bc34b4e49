use Rattle.std.proofs.Common.{◌≡◌, ◌+◌, ◌-◌, ◌<◌, ◌≤◌, length, drop, map}
use Rattle.std.specs.List.{prefix_len}
use Rattle.ecl_lexer.specs.Bytes.{is_code_byte}
use Rattle.ecl_lexer.specs.Tokens.{spelled, placed}
use Rattle.ecl_lexer.proofs.CutLemmas.{CutSoFar}
use Rattle.ecl_lexer.proofs.lexer.cut.Given as goal

-- the text up to `at` is cut into lexemes, and `tokens` are the tokens among them. Within a run of letters, digits and
-- `-`, `run_end` is its end
abbrev pub invariant-loop-at : goal.invariant-loop-at
invariant-loop-at l = record {
  within : l.at ≤ length l.text;
  so_far : CutSoFar l.text l.at (map spelled l.tokens.items) (map placed l.tokens.items);
  run : l.at < l.run_end → prefix_len is_code_byte (drop l.at l.text) + l.at ≡ l.run_end;
}

abbrev pub decreases-loop-at : goal.decreases-loop-at
decreases-loop-at l = length l.text - l.at
