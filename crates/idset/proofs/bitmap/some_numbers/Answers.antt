use Rattle.std.proofs.Common.{◌≡◌, ◌∙◌, ◌+◌, ◌-◌, ◌*◌, ◌++◌, ap, arith, drop, filter, get_or, length, length-append}
use Rattle.std.proofs.Common.{refl, sym, take, List, ℕ}
use Rattle.std.specs.List.{range_with_len}
use Rattle.number_lists.specs.Rising.{numbers_where}
use Rattle.number_lists.proofs.WhereLemmas.{numbers_where-add}
use Rattle.idset.specs.Words.{is_set, numbers_in}
use Rattle.idset.proofs.MarkLemmas.{numbers_all, numbers_step}
use Rattle.idset.proofs.Pages.{page_full, page_more}
use Rattle.idset.proofs.bitmap.some_numbers.Goals as goal

-- if the page is full, the words that are not read do not change it
pub returns-then-len-most : goal.returns-then-len-most
returns-then-len-most c =
    let words = c.args.words.now in
    let so_far = 64 * c.loop-place.place in
    let more = 64 * length words - so_far in
    let long : so_far + more ≡ 64 * length words = omega arith in
    let done = numbers_where so_far (is_set words) in
    let whole : done ++ filter (is_set words) (range_with_len so_far more) ≡ numbers_where c.args.bound (is_set words) =
    sym (numbers_where-add so_far more (is_set words)) ∙ (λ i. numbers_where (long i) (is_set words))
    ∙ numbers_all c.args.bound words c.requires in
    page_full c.args.most c.args.skipped done (filter (is_set words) (range_with_len so_far more))
    c.loop-place.numbers.items c.loop-place.invariant.told (omega arith)
    ∙ ap (λ (numbers : List ℕ). take c.args.most (drop c.args.skipped numbers)) whole

-- with one word more, the page is that of the numbers of the first `place + 1` words
pub loop-place-preserved : goal.loop-place-preserved
loop-place-preserved c =
    let words = c.args.words.now in
    let place = c.loop-place.place in
    let done = numbers_where (64 * place) (is_set words) in
    let more = numbers_in (64 * place) (get_or words place 0) in
    let whole : done ++ more ≡ numbers_where (64 * (place + 1)) (is_set words) =
    numbers_step words done (done ++ more) place refl refl in
    let told : c.push_some_bits.new.numbers.items ≡ take c.args.most (drop c.args.skipped (done ++ more)) =
    page_more c.args.most c.args.skipped done more c.loop-place.numbers.items c.loop-place.invariant.told
    c.push_some_bits.new.numbers.items
    (c.in_ok-left.ensures.items
    ∙ (λ i. take c.args.most (c.loop-place.numbers.items ++ drop (c.loop-place.invariant.left i) more))) in
    record {
      told = told ∙ ap (λ (numbers : List ℕ). take c.args.most (drop c.args.skipped numbers)) whole;
      left = omega (
        arith,
        c.in_ok-left.ensures.left,
        c.loop-place.invariant.left,
        ap length whole,
        length-append done more,
      );
    }

-- the page of the numbers of all words is the page of the numbers below `bound`
pub returns : goal.returns
returns c =
    let words = c.args.words.now in
    let end : c.loop-place.place ≡ length words = omega arith in
    c.loop-place.invariant.told
    ∙ ap (λ (numbers : List ℕ). take c.args.most (drop c.args.skipped numbers))
    ((λ i. numbers_where (64 * end i) (is_set words)) ∙ numbers_all c.args.bound words c.requires)
