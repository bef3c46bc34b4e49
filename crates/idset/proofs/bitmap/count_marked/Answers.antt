use Rattle.std.proofs.Common.{◌≡◌, ◌∙◌, arith, length}
use Rattle.number_lists.specs.Rising.{numbers_where}
use Rattle.idset.specs.Words.{is_set}
use Rattle.idset.proofs.Counting.{length-words}
use Rattle.number_lists.proofs.WhereLemmas.{length-numbers_where-le}
use Rattle.idset.proofs.bitmap.count_marked.Goals as goal

-- the ones of the words are as many as their numbers below `bound`
pub returns : goal.returns
returns c = c.count_words.ensures
    ∙ length-words c.args.bound c.args.words.now c.requires (λ k. (c.type_inv.words k).fits)

-- the number of ones fits into 32 bits
pub overflow_cast-result : goal.overflow_cast-result
overflow_cast-result c =
    let counted : c.count_words.result ≡ length (numbers_where c.args.bound (is_set c.args.words.now)) =
    c.count_words.ensures ∙ length-words c.args.bound c.args.words.now c.requires (λ k. (c.type_inv.words k).fits) in
    record { fits = omega (arith, counted, length-numbers_where-le c.args.bound (is_set c.args.words.now)) }
