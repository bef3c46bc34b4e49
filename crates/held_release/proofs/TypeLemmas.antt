-- The indexes of types, while new types are added.
use Rattle.std.proofs.Common.{ℕ, ◌≡◌, ◌≤◌, ◌++◌, ◌∷◌, [], ◌∙◌, Bool, true, false, cond, not, List, length}
use Rattle.std.proofs.Common.{nat_eq, Some, refl, sym, ap, arith}
use Rattle.std.specs.List.{list_any, position_or_len, slice_get}
use Rattle.std.proofs.lemmas.List.{get_or_at, length_push}
use Rattle.std.proofs.lemmas.List.Sums.{prefix_len-le-length}
use Rattle.std.proofs.lemmas.Option.{slice_get-get_or}
use Rattle.key_interner.specs.KeyInterner.{keys_after}
use Rattle.key_interner.proofs.PlaceLemmas.{after_all}
use Rattle.number_lists.proofs.MemberLemmas.{any-has}
use Rattle.number_lists.proofs.PlaceLemmas.{get_or-place_of, place_below}

-- the position of a key, or the number of keys if it is missing, is at most the number of keys
pub place_near : (keys : List ℕ) (key : ℕ) → position_or_len (nat_eq key) keys ≤ length keys
place_near keys key = prefix_len-le-length (λ other. not (nat_eq key other)) keys

-- after `id` was added to `types`, unless it was there, it is at the index that it had, or at the end
pub placed_type : (types : List ℕ) (id : ℕ) → slice_get (keys_after types id) (position_or_len (nat_eq id) types)
    ≡ Some id
placed_type types id = by (list_any (nat_eq id) types) refl
  where
    by : (known : Bool) → list_any (nat_eq id) types ≡ known
        → slice_get (cond known types (types ++ id ∷ [])) (position_or_len (nat_eq id) types) ≡ Some id
    by true had =
        let there = sym (any-has types id) ∙ had in
        slice_get-get_or types (position_or_len (nat_eq id) types) 0 (place_below types id there)
        ∙ ap (λ (id : ℕ). Some id) (get_or-place_of types id there)
    by false new =
        ap (slice_get (types ++ id ∷ [])) (after_all types id new)
        ∙ slice_get-get_or (types ++ id ∷ []) (length types) 0 (omega (arith, length_push types id))
        ∙ ap (λ (id : ℕ). Some id) (get_or_at types id [] 0 (length types) refl)
