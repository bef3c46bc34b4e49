-- The release of the children of a concept that is done, one child after another.
use Rattle.std.proofs.Common.{ℕ, ◌+◌, ◌-◌, ◌==◌, ◌≡◌, ◌≢◌, ◌≤◌, ◌<◌, ◌++◌, ◌∷◌, [], ◌∙◌, ⊎_elim, cond, List, length}
use Rattle.std.proofs.Common.{get_or, take, set, refl, arith, length-set, get_or-set_same, get_or-set_other, ap, sym}
use Rattle.std.proofs.Common.{eq-eqb, ne_eqb}
use Rattle.std.specs.List.{IsDistinct}
use Rattle.std.proofs.lemmas.Bool.{cases_eq}
use Rattle.std.proofs.lemmas.List.{get_or_read}
use Rattle.std.proofs.lemmas.List.Sums.{sum_by_more}
use Rattle.std.proofs.lemmas.Map.Keys.{IsDistinct-push}
use Rattle.std.specs.Cmp.{nat_eq_equiv}
use Rattle.number_lists.specs.Members.{times}
use Rattle.number_lists.proofs.MemberLemmas.{any-has, had_not, members-push, times-own}
use Rattle.hierarchy.specs.inside.Released.{IsReleased}
use Rattle.std.proofs.lemmas.Grind.{common_steps, get_or-set_at}
use Rattle.std.proofs.lemmas.Bool.Decides.{nat_tests}

-- the release of no child changes no count and adds no concept
pub release_none : (before : List ℕ) → IsReleased [] before before []
unfolding IsDistinct
release_none before = record { len = refl; less = λ concept. omega arith; once = tt; members = λ concept. grind arith }

-- if each concept waited for at least as many parents as it is times in `children`, child `i` still waits for at
-- least one after the release of the first `i` children
pub still_waits : (children before after added : List ℕ) (i : ℕ) → i < length children
    → IsReleased (take i children) before after added
    → ((concept : ℕ) → times concept children ≤ get_or before concept 0) → 1 ≤ get_or after (get_or children i 0) 0
still_waits children before after added i within released enough = grind (arith, common_steps, nat_tests, times-own)

-- if the count of child `i` is lowered by one, and the child is added exactly if its count is then 0, the first `i
-- + 1` children are released
pub release_next : (children : List ℕ) (i : ℕ) {before after added : List ℕ} {left : ℕ} → i < length children
    → get_or children i 0 < length after → IsReleased (take i children) before after added
    → ((concept : ℕ) → times concept children ≤ get_or before concept 0)
    → left ≡ get_or after (get_or children i 0) left
    → (left - 1 ≡ 0 → IsReleased (take (i + 1) children) before (set after (get_or children i 0) (left - 1))
    (added ++ get_or children i 0 ∷ []))
    × (left - 1 ≢ 0 → IsReleased (take (i + 1) children) before (set after (get_or children i 0) (left - 1)) added)
release_next children i {before} {after} {added} {left} within below released enough is =
    let child = get_or children i 0 in
    let read : left ≡ get_or after child 0 = get_or_read after child left below is 0 in
    let waits = still_waits children before after added i within released enough in
    let less : (concept : ℕ) → get_or (set after child (left - 1)) concept 0 + times concept (take (i + 1) children)
    ≡ get_or before concept 0 =
    λ concept.
    let more = sum_by_more (λ x. cond {A = ℕ} (x == concept) 1 0) children i 0 within in ⊎_elim
    (λ (same : concept ≡ child). omega (
      arith,
      more,
      ap (λ b. cond {A = ℕ} b 1 0) (eq-eqb child concept (sym same)),
      get_or-set_at after child concept (left - 1) 0 same below,
      ap (λ c. get_or after c 0) same,
      released.less concept,
      waits,
    ))
    (λ (other : concept ≢ child). omega (
      arith,
      more,
      ap (λ b. cond {A = ℕ} b 1 0) (ne_eqb child concept (λ same. other (sym same))),
      get_or-set_other after child concept (left - 1) 0 other,
      released.less concept,
    ))
    (cases_eq concept child) in (
      (λ none. record {
        len = length-set after child (left - 1) ∙ released.len;
        less = less;
        once = IsDistinct-push nat_eq_equiv added child released.once
            (any-has added child ∙ had_not added child
            (λ there. absurd (omega (arith, waits, ((released.members child).0 there).1))));
        members = members-push (λ c. (0 < get_or before c 0) × (get_or (set after child (left - 1)) c 0 ≡ 0)) added
            child
            (omega (arith, released.less child, waits), get_or-set_same after child (left - 1) 0 below ∙ none)
            (λ c apart. rw (get_or-set_other after child c (left - 1) 0 apart) (released.members c));
      }),
      (λ some. record {
        len = length-set after child (left - 1) ∙ released.len;
        less = less;
        once = released.once;
        members = λ concept. ⊎_elim
            (λ (same : concept ≡ child). (
              λ there. absurd (omega (
                arith,
                ((released.members concept).0 there).1,
                ap (λ c. get_or after c 0) same,
                waits,
              )),
              λ both. absurd (some (sym (get_or-set_at after child concept (left - 1) 0 same below) ∙ both.1)),
            ))
            (λ (other : concept ≢ child).
            rw (get_or-set_other after child concept (left - 1) 0 other) (released.members concept))
            (cases_eq concept child);
      }),
    )
