-- Lists whose items differ from one another.
use Rattle.std.proofs.Common.{◌≡◌, ◌≢◌, suc, ◌++◌, List, [], ◌∷◌, arith, get_or, map}
use Rattle.std.proofs.lemmas.List.Elements.{All-append, All-head, All-map, All-tail, All-weaker}
use Rattle.std.proofs.lemmas.List.Kept.{AllPairs-cons}
use Rattle.std.specs.List.{All, AllPairs}

-- if `P` holds of every item, it holds of all items of a list
pub each : {X : Type 0} (P : X → Type 0) (items : List X) → ((item : X) → P item) → All P items
each P items holds k default within = holds (get_or items k default)

-- no item of the list equals one after it
abbrev pub Differ : {X : Type 0} → List X → Type 0
Differ items = AllPairs (λ one other. one ≢ other) items

-- the items of the empty list differ
pub differ_none : {X : Type 0} → Differ {X = X} []
differ_none i j default before within = absurd (omega arith)

-- the items of a list of one item differ
pub differ_one : {X : Type 0} (only : X) → Differ (only ∷ [])
differ_one only i j default before within = absurd (omega arith)

-- if the items of a list differ, the first differs from all others
pub differ_first : {X : Type 0} (first : X) (rest : List X) → Differ (first ∷ rest)
    → All (λ other. first ≢ other) rest
differ_first first rest differ k default within = differ 0 (suc k) default (omega arith) (omega arith)

-- if the items of a list differ, those after the first differ
pub differ_rest : {X : Type 0} (first : X) (rest : List X) → Differ (first ∷ rest) → Differ rest
differ_rest first rest differ i j default before within = differ (suc i) (suc j) default (omega arith) (omega arith)

-- if the items of `one` differ, those of `other` differ, and no item is in both lists, the items of `one ++ other`
-- differ
pub differ_append : {X : Type 0} (one other : List X) → Differ one → Differ other
    → All (λ item. All (λ later. item ≢ later) other) one → Differ (one ++ other)
differ_append [] other first second apart = second
differ_append (item ∷ items) other first second apart =
    AllPairs-cons (λ one other. one ≢ other) item (items ++ other)
    (All-append (λ later. item ≢ later) items other (differ_first item items first)
    (All-head (λ item. All (λ later. item ≢ later) other) item items apart))
    (differ_append items other (differ_rest item items first) second
    (All-tail (λ item. All (λ later. item ≢ later) other) item items apart))

-- if different items have different values of the function `take`, the values for the items of a list differ if the
-- items do
pub differ_map : {X Y : Type 0} (take : X → Y) → ((one other : X) → take one ≡ take other → one ≡ other)
    → (items : List X) → Differ items → Differ (map take items)
differ_map take own [] differ = differ_none
differ_map take own (item ∷ items) differ =
    AllPairs-cons (λ one other. one ≢ other) (take item) (map take items)
    (All-map (λ later. take item ≢ later) take items
    (All-weaker (λ later. item ≢ later) (λ later. take item ≢ take later)
    (λ later apart same. apart (own item later same)) items (differ_first item items differ)))
    (differ_map take own items (differ_rest item items differ))
