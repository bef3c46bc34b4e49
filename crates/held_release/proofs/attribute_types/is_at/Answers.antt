use Rattle.std.proofs.Common.{ℕ, ◌≡◌, ◌∙◌, ◌<◌, Bool, true, false, List, Some, ap, eqb, eqb-true, get_or, length}
use Rattle.std.proofs.Common.{slice_get, subst, sym, refl}
use Rattle.std.specs.Bool.{OnTrue}
use Rattle.std.proofs.lemmas.Option.{slice_get_read}
use Rattle.held_release.proofs.attribute_types.is_at.Goals as goal

-- if the type that is read at a place equals `id`, `id` stands there
at_place : (ids : List ℕ) (place found id : ℕ) → place < length ids → found ≡ get_or ids place found
    → OnTrue (eqb found id) (slice_get ids place ≡ Some id)
at_place ids place found id within is = by (eqb found id) refl
  where
    by : (same : Bool) → eqb found id ≡ same → OnTrue same (slice_get ids place ≡ Some id)
    by true same = slice_get_read ids (length ids) place found refl within is ∙ ap Some (eqb-true found id same)
    by false same = tt

-- if the answer is true, the type stands at the place
pub returns-in-Some : goal.returns-in-Some
returns-in-Some c =
    let lookup = c.in-Some.ensures.lookup in
    subst (λ (same : Bool). OnTrue same (slice_get c.args.ids.now c.args.place ≡ Some c.args.id)) (sym c.eq.ensures)
    (at_place c.args.ids.now c.args.place c.in-Some.found.now c.args.id lookup.3.0 lookup.1)
