use Rattle.std.proofs.Common.{ℕ, ◌≡◌, ◌<◌, ◌++◌, ◌∷◌, [], ◌∙◌, List, length, get_or, sym, subst, ap, arith}
use Rattle.std.specs.Prelude.{All}
use Rattle.number_lists.specs.Rising.{listed_numbers}
use Rattle.ancestor_index.proofs.ListLemmas.{map_more}
use Rattle.ancestor_index.proofs.rising.rising_lists.Goals as goal

-- one list more is sorted, without repeats
pub loop-key-preserved : goal.loop-key-preserved
loop-key-preserved c =
    let key = c.loop-key.key in
    let lists = c.args.lists.now in
    let within : key < length lists = omega arith in
    let list = get_or lists key [] in
    let below : All (λ number. number < c.args.bound) list = c.requires.items key [] within in
    let gathered : c.extend_from_slice.new.self.items ≡ list = c.in_ok-extend_from_slice.ensures.items
    ∙ (λ i. c.clear.ensures.items i ++ c.of.ensures i) in
    let made : c.as_slice.result.now ≡ listed_numbers c.args.bound list =
    c.as_slice.ensures.value
    ∙ c.keep_rising.ensures c.args.bound (subst (λ (xs : List ℕ). All (λ number. number < c.args.bound) xs)
    (sym gathered) below) ∙ ap (listed_numbers c.args.bound) gathered in
    c.in_ok-push_list.ensures
    ∙ (λ i. c.loop-key.invariant i ++ made i ∷ [])
    ∙ sym (map_more (listed_numbers c.args.bound) lists key [] within)
