use Rattle.std.proofs.Common.{[]}
use Rattle.ecl_lexer.proofs.CutLemmas.{same_cut, Ends-nil}
use Rattle.ecl_lexer.proofs.FaultLemmas.{same_fault, same_tokens, tokens_no_fault}
use Rattle.ecl_lexer.proofs.LawLemmas.{each_text}
use Rattle.ecl_lexer.proofs.laws.one_cut.Goals as goal

-- a text is cut to its end in at most one way
pub returns-clause-cut : goal.returns-clause-cut
returns-clause-cut c = λ text one other first second. (same_cut text one other [] [] first second Ends-nil Ends-nil).0

-- a text has at most one list of tokens
pub returns-clause-tokens : goal.returns-clause-tokens
returns-clause-tokens c = same_tokens

-- a text has at most one fault
pub returns-clause-fault : goal.returns-clause-fault
returns-clause-fault c = same_fault

-- a readable text that has tokens has no fault
pub returns-clause-not_both : goal.returns-clause-not_both
returns-clause-not_both c = tokens_no_fault

-- each readable text has tokens or a fault
pub returns-clause-either : goal.returns-clause-either
returns-clause-either c = each_text
