use Rattle.std.proofs.Common.{ℕ, ◌+◌, ◌-◌, ◌/◌, ◌≡◌, ◌<◌, ◌∙◌, [], length, get_or, ltb, slice_get, Some, sym, ap, arith}
use Rattle.std.specs.Ordering.{is_lt}
use Rattle.std.proofs.lemmas.Bool.{ltb-true, ltb-false}
use Rattle.std.proofs.lemmas.Cmp.{nat_list_cmp_total}
use Rattle.std.proofs.lemmas.List.{get_or_default}
use Rattle.std.proofs.lemmas.Option.{slice_get-get_or}
use Rattle.held_release.specs.RowValues.{text_cmp}
use Rattle.held_release.proofs.TableLemmas.{is_before}
use Rattle.held_release.proofs.texts.Texts.place_of.Goals as goal
use Rattle.held_release.proofs.texts.Texts.place_of.Goals.{After-is_lt}

-- whether the text in the middle stands before one that is the text
asked : (c : After-is_lt) → (place : ℕ) → place < length c.args.self.now
    → get_or c.args.self.now place [] ≡ c.args.text.now
    → c.is_lt.result ≡ ltb (c.loop-from.from + (c.loop-from.to - c.loop-from.from) / 2) place
asked c place below is =
    let middle = c.loop-from.from + (c.loop-from.to - c.loop-from.from) / 2 in
    c.is_lt.ensures
    ∙ ap is_lt (c.cmp.ensures ∙ ap (λ text. text_cmp text c.args.text.now) c.of.ensures)
    ∙ is_before nat_list_cmp_total c.args.self.now c.requires.rising c.args.text.now place [] below is middle
    (omega (arith, c.loop-from-test.true, c.loop-from.invariant.within))

-- if the middle text is less than the text, the text stands after it
pub loop-from-preserved-then-is_lt : goal.loop-from-preserved-then-is_lt
loop-from-preserved-then-is_lt c = record {
  within = c.loop-from.invariant.within;
  between = λ place below is. (
    omega (
      arith,
      ltb-true _ place (sym (asked (goal.at.loop-from-preserved-then-is_lt c).After-is_lt place below is)
          ∙ c.if-is_lt.true),
    ),
    (c.loop-from.invariant.between place below is).1,
  );
}

-- if the middle text is not less than the text, the text stands there or before it
pub loop-from-preserved : goal.loop-from-preserved
loop-from-preserved c = record {
  within = omega (arith, c.loop-from-test.true, c.loop-from.invariant.within);
  between = λ place below is. (
    (c.loop-from.invariant.between place below is).0,
    omega (
      arith,
      ltb-false _ place (sym (asked (goal.at.loop-from-preserved c).After-is_lt place below is)
          ∙ c.if-is_lt.false),
    ),
  );
}

-- the place at which the search ends is that of the text
pub returns : goal.returns
returns c =
    let texts = c.args.self.now in
    let place = c.requires.there.0 in
    let below = c.requires.there.1 in
    let is : get_or texts place [] ≡ c.args.text.now = get_or_default texts place [] c.args.text.now below
    ∙ c.requires.there.2 in
    let between = c.loop-from.invariant.between place below is in
    let at : c.loop-from.from ≡ place = omega (arith, between.0, between.1, c.loop-from-test.false) in
    ap (λ (n : ℕ). slice_get texts n) at ∙ slice_get-get_or texts place [] below ∙ ap (λ text. Some text) is
