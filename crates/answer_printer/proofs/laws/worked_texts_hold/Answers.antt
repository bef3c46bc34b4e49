use Rattle.std.proofs.Common.{refl}
use Rattle.std.specs.Fmt.{digits}
use Rattle.answer_printer.proofs.laws.worked_texts_hold.Goals as goal

-- the text of `TextByValue` follows by computing
pub returns-clause-by_value : goal.returns-clause-by_value
unfolding digits
returns-clause-by_value c = refl

-- the text of `TextByType` follows by computing
pub returns-clause-by_type : goal.returns-clause-by_type
unfolding digits
returns-clause-by_type c = refl

-- the text of `TextInBraces` follows by computing
pub returns-clause-in_braces : goal.returns-clause-in_braces
unfolding digits
returns-clause-in_braces c = refl

-- the text of `TextOfOne` follows by computing
pub returns-clause-of_one : goal.returns-clause-of_one
unfolding digits
returns-clause-of_one c = refl
