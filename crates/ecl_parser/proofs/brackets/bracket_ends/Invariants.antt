-- The remaining tokens, read after the brackets found so far, give the depth and the brackets of all tokens.
use Rattle.std.proofs.Common.{◌≡◌, length}
use Rattle.constraint_tree.proofs.LevelLemmas.{symbols_deep}
use Rattle.ecl_parser.specs.inside.Brackets.{nothing_matched}
use Rattle.ecl_parser.specs.inside.Gives.{symbols, symbols_from}
use Rattle.ecl_parser.proofs.BracketLemmas.{all_matched}
use Rattle.ecl_parser.proofs.brackets.bracket_ends.Given as goal

abbrev pub invariant-loop-place : goal.invariant-loop-place
invariant-loop-place l = record {
  long : length l.brackets.ends ≡ length l.tokens;
  deep : symbols_deep (length l.brackets.unclosed) (symbols_from l.tokens l.place) ≡ symbols_deep 0 (symbols l.tokens);
  matched : all_matched l.place (symbols_from l.tokens l.place) l.brackets
      ≡ all_matched 0 (symbols l.tokens) (nothing_matched (length l.tokens));
}
