use Rattle.number_lists.proofs.RisingOrderLemmas.{keeps_rising}
use Rattle.release_rows.proofs.laws.rising_keeps_the_members.Goals as goal

-- identifiers in rising order are the members of the list, each once
pub returns : goal.returns
returns c = keeps_rising
