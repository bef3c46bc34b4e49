use Rattle.streams.proofs.NamesOnceLemmas.{no_name_twice}
use Rattle.streams.proofs.laws.no_name_is_listed_twice.Goals as goal

-- no two files of folders have one name
pub returns : goal.returns
returns c = λ tree folders names once. no_name_twice tree once folders names
