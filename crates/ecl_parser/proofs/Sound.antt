-- The tree that reading finds is the tree of a form that derives the tokens up to the tokens that are left.
use Rattle.std.proofs.Common.{◌≡◌, ◌⊎◌, inl, inr, ℕ, zero, suc, ℤ, Bool, true, false, cond, List, [], ◌∷◌, drop, Option}
use Rattle.std.proofs.Common.{None, Some, refl, ap, sym, ◌∙◌, subst}
use Rattle.std.specs.Prelude.{IsTrue}
use Rattle.std.proofs.lemmas.Option.{none-some}
use Rattle.numerals.specs.Numbers.{is_number, number_of}
use Rattle.numerals.specs.Decimals.{decimal_of}
use Rattle.constraint_tree.specs.declared.operator.Cardinality.{Cardinality}
use Rattle.constraint_tree.specs.declared.operator.Compare.{Compare}
use Rattle.constraint_tree.specs.declared.operator.Compare.TheVariants as compare
use Rattle.ecl_lexer.specs.declared.token.TokenKind.TheVariants as token
use Rattle.constraint_tree.specs.Grammar.{Symbol, digits, decimal, mark, CountForm, ConstraintForm, alone, refined}
use Rattle.constraint_tree.specs.Grammar.{exclusion, dotted, SubForm, plain, member, walk, walk_member, concept}
use Rattle.constraint_tree.specs.Grammar.{concept_term, any, round, attribute, group, round_refinement, counted_part}
use Rattle.constraint_tree.specs.Grammar.{round_set, PairForm, within, outside, number, operator_kind, compare_kind}
use Rattle.constraint_tree.specs.Grammar.{counted_tokens, constraint_tokens, sub_tokens, focus_tokens}
use Rattle.constraint_tree.specs.Grammar.{refinement_tokens, item_tokens, set_tokens, part_tokens, pair_tokens}
use Rattle.constraint_tree.specs.Grammar.{cardinality_of, constraint_tree, sub_tree, focus_tree, refinement_tree}
use Rattle.constraint_tree.specs.Grammar.{item_tree, set_tree, part_tree, pair_tree}
use Rattle.constraint_tree.specs.Tree.{Tree, concept_tree, any_tree, member_tree, walk_tree, minus_tree, refined_tree}
use Rattle.constraint_tree.specs.Tree.{trees_from, dotted_tree, RefinementTree, one_refinement, group_refinement}
use Rattle.constraint_tree.specs.Tree.{one_set, AttributeTree, attribute_tree, TestTree, within_test, outside_test}
use Rattle.constraint_tree.specs.Tree.{number_test}
use Rattle.ecl_parser.specs.inside.Reading.{◌>>=◌, Readers, all_after, following, after_term, bracketed_at, closed}
use Rattle.ecl_parser.specs.inside.Reading.{compare_at, constraint_after, constraint_in, count_at, digits_at, focus_in}
use Rattle.ecl_parser.specs.inside.Reading.{item_after, item_in, member_in, number_at, operator_at, otherwise, pair_in}
use Rattle.ecl_parser.specs.inside.Reading.{part_in, readers, refinement_after, refinement_in, set_after, set_in}
use Rattle.ecl_parser.specs.inside.Reading.{stands, sub_in, test_in, value_test, with_front}
use Rattle.ecl_parser.specs.declared.tokens.Mark.TheVariants as marks
use Rattle.ecl_parser.proofs.SoundParts.{AreSound, Derives, IsSound, after_is, bind_some, bracketed_is, closed_some}
use Rattle.ecl_parser.proofs.SoundParts.{compare_is, conjunctions, count_sound, digits_is, disjunctions, either_some}
use Rattle.ecl_parser.proofs.SoundParts.{forms_sound, joined_refinements, joined_sets, joined_sound, joints_sound, made}
use Rattle.ecl_parser.proofs.SoundParts.{number_is, operator_is, otherwise_some, several_items, several_parts}
use Rattle.ecl_parser.proofs.SoundParts.{several_subs, some_is}

module _ (inner : Readers) (sound : AreSound inner) where
  -- `focus_in` reads only the tokens of a focus form, and finds its tree
  focus_sound : IsSound focus_tokens focus_tree (focus_in inner)
  unfolding focus_in
  focus_sound tokens rest tree is =
      elim (otherwise_some (digits_at 6 tokens)
      (otherwise (following marks.Wildcard tokens)
      (otherwise (following marks.RoundOpen tokens) None (λ left. closed marks.RoundClose (inner.constraint left)))
      (λ left. Some (any_tree, left))) (λ found. Some (concept_tree found.0, after_term found.1)) (tree, rest) is) [
        | inl (none, next) ↦
            elim (otherwise_some (following marks.Wildcard tokens)
            (otherwise (following marks.RoundOpen tokens) None
            (λ left. closed marks.RoundClose (inner.constraint left))) (λ left. Some (any_tree, left)) (tree, rest)
            next) [
              | inl (none', next') ↦
                  elim (otherwise_some (following marks.RoundOpen tokens) None
                  (λ left. closed marks.RoundClose (inner.constraint left)) (tree, rest) next') [
                    | inl (none'', end) ↦ absurd (none-some (tree, rest) end)
                    | inr (left, found, read) ↦
                        let close = closed_some marks.RoundClose (inner.constraint left) tree rest read in
                        let form = sound.constraint left close.0 tree close.1 in (
                          round form.0,
                          after_is marks.RoundOpen tokens left found
                              ∙ ap (λ after. mark token.RoundOpen ∷ after) form.1
                              ∙ ap (λ after. mark token.RoundOpen ∷ constraint_tokens form.0 after)
                              (after_is marks.RoundClose close.0 rest close.2),
                          form.2,
                        )
                  ]
              | inr (left, found, end) ↦
                  let same : (any_tree, left) ≡ (tree, rest) = some_is end in (
                    any,
                    after_is marks.Wildcard tokens left found
                        ∙ ap (λ (p : Tree × List Symbol). mark token.Wildcard ∷ p.1) same,
                    sym (ap (λ (p : Tree × List Symbol). p.0) same),
                  )
            ]
        | inr (read, found, end) ↦
            let run = digits_is 6 tokens read.1 read.0 found in
            let same : (concept_tree read.0, after_term read.1) ≡ (tree, rest) = some_is end in
            let tree_is : tree ≡ concept_tree (number_of run.0) = sym (ap (λ (p : Tree × List Symbol). p.0) same)
            ∙ ap concept_tree run.3 in
            termed run.0 run.1 tokens read.1 rest tree run.2 (ap (λ (p : Tree × List Symbol). p.1) same) tree_is
      ]
    where
      -- digits with an optional term after them are the tokens of a concept form
      termed : (run : List ℕ) → IsTrue (is_number 6 18 run) → (tokens left rest : List Symbol) (tree : Tree)
          → tokens ≡ digits run ∷ left → after_term left ≡ rest → tree ≡ concept_tree (number_of run)
          → Derives focus_tokens focus_tree tokens tree rest
      termed run holds tokens left rest tree front after_is_rest tree_is =
          by (following marks.Term left) refl after_is_rest
        where
          by : (found : Option (List Symbol)) → following marks.Term left ≡ found
              → otherwise found left (λ after. after) ≡ rest → Derives focus_tokens focus_tree tokens tree rest
          by None is same = (concept run holds, front ∙ ap (λ after. digits run ∷ after) same, tree_is)
          by (Some after) is same = (
            concept_term run holds,
            front ∙ ap (λ more. digits run ∷ more) (after_is marks.Term left after is)
                ∙ ap (λ more. digits run ∷ mark token.Term ∷ more) same,
            tree_is,
          )

  -- `member_in` reads only the tokens of a focus form with an optional `^` in front, and finds its tree
  member_sound : (tokens rest : List Symbol) (tree : Tree) → member_in inner tokens ≡ Some (tree, rest)
      → (Derives focus_tokens focus_tree tokens tree rest)
      ⊎ ((left : List Symbol) × (operand : Tree) × (tokens ≡ mark token.MemberOf ∷ left)
      × (Derives focus_tokens focus_tree left operand rest) × (tree ≡ member_tree operand))
  unfolding member_in
  member_sound tokens rest tree is =
      elim (otherwise_some (following marks.MemberOf tokens) (focus_in inner tokens)
      (λ left. focus_in inner left >>= λ focus after. Some (member_tree focus, after)) (tree, rest) is) [
        | inl (none, read) ↦ inl (focus_sound tokens rest tree read)
        | inr (left, found, next) ↦
            let read = bind_some (focus_in inner left) (λ focus after. Some (member_tree focus, after)) (tree, rest)
            next in
            let same : (member_tree read.0.0, read.0.1) ≡ (tree, rest) = some_is read.2 in
            let ends : read.0.1 ≡ rest = ap (λ (p : Tree × List Symbol). p.1) same in
            inr (
              left,
              read.0.0,
              after_is marks.MemberOf tokens left found,
              focus_sound left rest read.0.0 (read.1 ∙ ap (λ after. Some (read.0.0, after)) ends),
              sym (ap (λ (p : Tree × List Symbol). p.0) same),
            )
      ]

  -- `sub_in` reads only the tokens of an operand form, and finds its tree
  sub_sound : IsSound sub_tokens sub_tree (sub_in inner)
  unfolding sub_in
  sub_sound tokens rest tree is =
      elim (otherwise_some (operator_at tokens) (member_in inner tokens)
      (λ found. member_in inner found.1 >>= λ operand after. Some (walk_tree found.0 operand, after)) (tree, rest) is) [
        | inl (none, read) ↦
            elim (member_sound tokens rest tree read) [
              | inl form ↦ (plain form.0, form.1, form.2)
              | inr (left, operand, front, form, tree_is) ↦ (
                member form.0,
                front ∙ ap (λ after. mark token.MemberOf ∷ after) form.1,
                tree_is
                    ∙ ap member_tree form.2,
              )
            ]
        | inr (op, found, next) ↦
            let read = bind_some (member_in inner op.1) (λ operand after. Some (walk_tree op.0 operand, after))
            (tree, rest) next in
            let same : (walk_tree op.0 read.0.0, read.0.1) ≡ (tree, rest) = some_is read.2 in
            let ends : read.0.1 ≡ rest = ap (λ (p : Tree × List Symbol). p.1) same in
            let tree_is : tree ≡ walk_tree op.0 read.0.0 = sym (ap (λ (p : Tree × List Symbol). p.0) same) in
            let first : tokens ≡ mark (operator_kind op.0) ∷ op.1 = operator_is tokens op.1 op.0 found in
            elim (member_sound op.1 rest read.0.0 (read.1 ∙ ap (λ after. Some (read.0.0, after)) ends)) [
              | inl form ↦ (
                walk op.0 form.0,
                first ∙ ap (λ after. mark (operator_kind op.0) ∷ after) form.1,
                tree_is
                    ∙ ap (walk_tree op.0) form.2,
              )
              | inr (left, operand, front, form, operand_is) ↦ (
                walk_member op.0 form.0,
                first
                    ∙ ap (λ after. mark (operator_kind op.0) ∷ after)
                    (front ∙ ap (λ after. mark token.MemberOf ∷ after) form.1),
                tree_is
                    ∙ ap (walk_tree op.0) (operand_is ∙ ap member_tree form.2),
              )
            ]
      ]

  -- `test_in` reads only the tokens of a number, or of a Sub after `=` or `!=`, and finds its test
  test_sound : (c : Compare) (tokens rest : List Symbol) (test : TestTree) → test_in inner c tokens ≡ Some (test, rest)
      → ((text : List ℕ) × (value : ℤ) × (decimal_of (drop 1 text) ≡ Some value) × (tokens ≡ decimal text ∷ rest)
      × (test ≡ number_test c value))
      ⊎ (((c ≡ compare.Equal) × ((value : SubForm) × (tokens ≡ sub_tokens value rest)
      × (test ≡ within_test (sub_tree value))))
      ⊎ ((c ≡ compare.NotEqual) × ((value : SubForm) × (tokens ≡ sub_tokens value rest)
      × (test ≡ outside_test (sub_tree value)))))
  unfolding test_in
  test_sound c tokens rest test is =
      elim (otherwise_some (number_at tokens) (value_test inner c tokens)
      (λ found. Some (number_test c found.0, found.1)) (test, rest) is) [
        | inl (none, read) ↦ inr (by c read)
        | inr (found, read, end) ↦
            let text = number_is tokens found.1 found.0 read in
            let same : (number_test c found.0, found.1) ≡ (test, rest) = some_is end in
            inl (
              text.0,
              found.0,
              text.1,
              text.2
                  ∙ ap (λ (p : TestTree × List Symbol). decimal text.0 ∷ p.1) same,
              sym (ap (λ (p : TestTree × List Symbol). p.0) same),
            )
      ]
    where
      by : (c : Compare) → value_test inner c tokens ≡ Some (test, rest)
          → ((c ≡ compare.Equal) × ((value : SubForm) × (tokens ≡ sub_tokens value rest)
          × (test ≡ within_test (sub_tree value))))
          ⊎ ((c ≡ compare.NotEqual) × ((value : SubForm) × (tokens ≡ sub_tokens value rest)
          × (test ≡ outside_test (sub_tree value))))
      by compare.Equal read =
          let found = bind_some (sub_in inner tokens) (λ value after. Some (within_test value, after)) (test, rest)
          read in
          let same : (within_test found.0.0, found.0.1) ≡ (test, rest) = some_is found.2 in
          let form = sub_sound tokens rest found.0.0 (found.1
          ∙ ap (λ (p : TestTree × List Symbol). Some (found.0.0, p.1)) same) in
          inl (refl, (form.0, form.1, sym (ap (λ (p : TestTree × List Symbol). p.0) same) ∙ ap within_test form.2))
      by compare.NotEqual read =
          let found = bind_some (sub_in inner tokens) (λ value after. Some (outside_test value, after)) (test, rest)
          read in
          let same : (outside_test found.0.0, found.0.1) ≡ (test, rest) = some_is found.2 in
          let form = sub_sound tokens rest found.0.0 (found.1
          ∙ ap (λ (p : TestTree × List Symbol). Some (found.0.0, p.1)) same) in
          inr (refl, (form.0, form.1, sym (ap (λ (p : TestTree × List Symbol). p.0) same) ∙ ap outside_test form.2))
      by compare.Less read = absurd (none-some (test, rest) read)
      by compare.LessOrEqual read = absurd (none-some (test, rest) read)
      by compare.Greater read = absurd (none-some (test, rest) read)
      by compare.GreaterOrEqual read = absurd (none-some (test, rest) read)

  -- `pair_in` reads only the tokens of a pair form, and finds its tree
  pair_sound : (count : Option CountForm) (reverse : Bool) (tokens rest : List Symbol) (tree : AttributeTree)
      → pair_in inner (cardinality_of count) reverse tokens ≡ Some (tree, rest)
      → (form : PairForm) × (tokens ≡ pair_tokens form rest) × (tree ≡ pair_tree count reverse form)
  unfolding pair_in
  pair_sound count reverse tokens rest tree is =
      let name = bind_some (sub_in inner tokens)
      (λ name after. compare_at after >>= λ c following. test_in inner c following >>= λ test left. Some
      (attribute_tree (cardinality_of count) reverse name test, left)) (tree, rest) is in
      let c = bind_some (compare_at name.0.1)
      (λ c following. test_in inner c following >>= λ test left. Some
      (attribute_tree (cardinality_of count) reverse name.0.0 test, left)) (tree, rest) name.2 in
      let test = bind_some (test_in inner c.0.0 c.0.1)
      (λ test left. Some (attribute_tree (cardinality_of count) reverse name.0.0 test, left)) (tree, rest) c.2 in
      let same : (attribute_tree (cardinality_of count) reverse name.0.0 test.0.0, test.0.1) ≡ (tree, rest) =
      some_is test.2 in
      let form = sub_sound tokens name.0.1 name.0.0 name.1 in
      let front : tokens ≡ sub_tokens form.0 (mark (compare_kind c.0.0) ∷ c.0.1) =
      form.1 ∙ ap (sub_tokens form.0) (compare_is name.0.1 c.0.1 c.0.0 c.1) in
      let tree_is : tree ≡ attribute_tree (cardinality_of count) reverse (sub_tree form.0) test.0.0 =
      sym (ap (λ (p : AttributeTree × List Symbol). p.0) same)
      ∙ ap (λ (t : Tree). attribute_tree (cardinality_of count) reverse t test.0.0) form.2 in
      elim (test_sound c.0.0 c.0.1 rest test.0.0 (test.1
      ∙ ap (λ (p : AttributeTree × List Symbol). Some (test.0.0, p.1)) same)) [
        | inl (text, value, holds, read, test_is) ↦ (
          number form.0 c.0.0 text value holds,
          front
              ∙ ap (λ after. sub_tokens form.0 (mark (compare_kind c.0.0) ∷ after)) read,
          tree_is
              ∙ ap (attribute_tree (cardinality_of count) reverse (sub_tree form.0)) test_is,
        )
        | inr (inl (c_is, (value, read, test_is))) ↦ (
          within form.0 value,
          front ∙ ap (λ k. sub_tokens form.0 (mark (compare_kind k) ∷ c.0.1)) c_is
              ∙ ap (λ after. sub_tokens form.0 (mark token.Equal ∷ after)) read,
          tree_is
              ∙ ap (attribute_tree (cardinality_of count) reverse (sub_tree form.0)) test_is,
        )
        | inr (inr (c_is, (value, read, test_is))) ↦ (
          outside form.0 value,
          front ∙ ap (λ k. sub_tokens form.0 (mark (compare_kind k) ∷ c.0.1)) c_is
              ∙ ap (λ after. sub_tokens form.0 (mark token.NotEqual ∷ after)) read,
          tree_is
              ∙ ap (attribute_tree (cardinality_of count) reverse (sub_tree form.0)) test_is,
        )
      ]

  -- a result made of the pair that `pair_in` reads is made of the tree of a pair form
  counted_sound : {Tree : Type 0} (make : AttributeTree → Tree) (count : Option CountForm) (reverse : Bool)
      (tokens rest : List Symbol) (tree : Tree)
      → made make (pair_in inner (cardinality_of count) reverse tokens) ≡ Some (tree, rest)
      → (form : PairForm) × (tokens ≡ pair_tokens form rest) × (tree ≡ make (pair_tree count reverse form))
  counted_sound {Tree} make count reverse tokens rest tree is =
      let read = bind_some (pair_in inner (cardinality_of count) reverse tokens) (λ pair left. Some (make pair, left))
      (tree, rest) is in
      let same : (make read.0.0, read.0.1) ≡ (tree, rest) = some_is read.2 in
      let form = pair_sound count reverse tokens rest read.0.0 (read.1
      ∙ ap (λ (p : Tree × List Symbol). Some (read.0.0, p.1)) same) in
      (form.0, form.1, sym (ap (λ (p : Tree × List Symbol). p.0) same) ∙ ap make form.2)

  -- `part_in` reads only the tokens of a part form, and finds its tree
  part_sound : IsSound part_tokens part_tree (part_in inner)
  unfolding part_in
  part_sound tokens rest tree is =
      elim (otherwise_some (bracketed_at tokens)
      (count_at tokens >>= λ count left. made one_set (pair_in inner count false left))
      (λ left. closed marks.RoundClose (inner.set left)) (tree, rest) is) [
        | inl (none, next) ↦
            let count = bind_some (count_at tokens) (λ count left. made one_set (pair_in inner count false left))
            (tree, rest) next in
            let counted = count_sound tokens count.0.1 count.0.0 count.1 in
            let read : (made one_set (pair_in inner (cardinality_of counted.0) false count.0.1)) ≡ Some (tree, rest) =
            subst (λ (n : Cardinality). (made one_set (pair_in inner n false count.0.1)) ≡ Some (tree, rest)) counted.2
            count.2 in
            let form = counted_sound one_set counted.0 false count.0.1 rest tree read in
            (counted_part counted.0 form.0, counted.1 ∙ ap (counted_tokens counted.0) form.1, form.2)
        | inr (left, found, read) ↦
            let close = closed_some marks.RoundClose (inner.set left) tree rest read in
            let form = sound.set left close.0 tree close.1 in (
              round_set form.0,
              bracketed_is tokens left found ∙ ap (λ after. mark token.RoundOpen ∷ after) form.1
                  ∙ ap (λ after. mark token.RoundOpen ∷ set_tokens form.0 after)
                  (after_is marks.RoundClose close.0 rest close.2),
              form.2,
            )
      ]

  -- `item_in` reads only the tokens of an item form, and finds its tree
  item_sound : IsSound item_tokens item_tree (item_in inner)
  unfolding item_in item_after
  item_sound tokens rest tree is =
      elim (otherwise_some (bracketed_at tokens) (count_at tokens >>= item_after inner)
      (λ left. closed marks.RoundClose (inner.refinement left)) (tree, rest) is) [
        | inl (none, next) ↦
            let count = bind_some (count_at tokens) (item_after inner) (tree, rest) next in
            let counted = count_sound tokens count.0.1 count.0.0 count.1 in
            let read : item_after inner (cardinality_of counted.0) count.0.1 ≡ Some (tree, rest) =
            subst (λ (n : Cardinality). item_after inner n count.0.1 ≡ Some (tree, rest)) counted.2 count.2 in
            after_count counted.0 tokens count.0.1 counted.1 read
        | inr (left, found, read) ↦
            let close = closed_some marks.RoundClose (inner.refinement left) tree rest read in
            let form = sound.refinement left close.0 tree close.1 in (
              round_refinement form.0,
              bracketed_is tokens left found
                  ∙ ap (λ after. mark token.RoundOpen ∷ after) form.1
                  ∙ ap (λ after. mark token.RoundOpen ∷ refinement_tokens form.0 after)
                  (after_is marks.RoundClose close.0 rest close.2),
              form.2,
            )
      ]
    where
      -- `item_after` reads after a cardinality only the tokens of an item form, and finds its tree
      after_count : (count : Option CountForm) (tokens left : List Symbol) → tokens ≡ counted_tokens count left
          → item_after inner (cardinality_of count) left ≡ Some (tree, rest)
          → Derives item_tokens item_tree tokens tree rest
      after_count count tokens left front read =
          elim (otherwise_some (following marks.BraceOpen left)
          (otherwise (following marks.Reverse left) (made one_refinement
          (pair_in inner (cardinality_of count) false left))
          (λ more. made one_refinement (pair_in inner (cardinality_of count) true more)))
          (λ more. closed marks.BraceClose (inner.set more) >>= λ set after. Some
          (group_refinement (cardinality_of count) set, after)) (tree, rest) read) [
            | inl (none, next) ↦
                elim (otherwise_some (following marks.Reverse left)
                (made one_refinement (pair_in inner (cardinality_of count) false left))
                (λ more. made one_refinement (pair_in inner (cardinality_of count) true more)) (tree, rest) next) [
                  | inl (none', pair) ↦
                      let form = counted_sound one_refinement count false left rest tree pair in
                      (attribute count false form.0, front ∙ ap (counted_tokens count) form.1, form.2)
                  | inr (more, found, pair) ↦
                      let form = counted_sound one_refinement count true more rest tree pair in (
                        attribute count true form.0,
                        front
                            ∙ ap (counted_tokens count) (after_is marks.Reverse left more found
                            ∙ ap (λ after. mark token.Reverse ∷ after) form.1),
                        form.2,
                      )
                ]
            | inr (more, found, next) ↦
                let set = bind_some (closed marks.BraceClose (inner.set more))
                (λ set after. Some (group_refinement (cardinality_of count) set, after)) (tree, rest) next in
                let close = closed_some marks.BraceClose (inner.set more) set.0.0 set.0.1 set.1 in
                let same : (group_refinement (cardinality_of count) set.0.0, set.0.1) ≡ (tree, rest) = some_is set.2 in
                let form = sound.set more close.0 set.0.0 close.1 in (
                  group count form.0,
                  front ∙ ap (counted_tokens count) (after_is marks.BraceOpen left more found
                      ∙ ap (λ after. mark token.BraceOpen ∷ after) form.1
                      ∙ ap (λ after. mark token.BraceOpen ∷ set_tokens form.0 after)
                      (after_is marks.BraceClose close.0 set.0.1 close.2
                      ∙ ap (λ (p : RefinementTree × List Symbol). mark token.BraceClose ∷ p.1) same)),
                  sym (ap (λ (p : RefinementTree × List Symbol). p.0) same)
                      ∙ ap (group_refinement (cardinality_of count)) form.2,
                )
          ]

  -- `set_in` reads only the tokens of an attribute set form, and finds its tree
  set_sound : IsSound set_tokens set_tree (set_in inner)
  unfolding set_in set_after
  set_sound = forms_sound several_parts (part_in inner) part_sound joined_sets

  -- `refinement_in` reads only the tokens of a refinement form, and finds its tree
  refinement_sound : IsSound refinement_tokens refinement_tree (refinement_in inner)
  unfolding refinement_in refinement_after
  refinement_sound = forms_sound several_items (item_in inner) item_sound joined_refinements

  -- `constraint_after` reads after an operand only the tokens of a constraint form, and finds its tree
  after_sound : (tokens tail rest : List Symbol) (first tree : Tree) → Derives sub_tokens sub_tree tokens first tail
      → constraint_after inner first tail ≡ Some (tree, rest)
      → Derives constraint_tokens constraint_tree tokens tree rest
  unfolding constraint_after
  after_sound tokens tail rest first tree (sub, front, first_is) is =
      let plain_or : Option (Tree × List Symbol) =
      otherwise (following marks.Colon tail) (otherwise (following marks.Minus tail) (Some (first, tail))
      (λ left. sub_in inner left >>= λ second after. Some (minus_tree first second, after)))
      (λ left. refinement_in inner left >>= λ refinement after. Some (refined_tree first refinement, after)) in
      let dotted_or : Option (Tree × List Symbol) =
      cond (stands marks.Dot tail) (with_front [] (all_after (sub_in inner) marks.Dot tail) >>= λ names left.
      Some (dotted_tree first (trees_from names), left)) plain_or in
      elim (joints_sound several_subs (sub_in inner) sub_sound conjunctions disjunctions tokens tail rest first tree
      dotted_or (sub, front, first_is) is) [
        | inl form ↦ form
        | inr next' ↦
            elim (either_some (stands marks.Dot tail)
            (with_front [] (all_after (sub_in inner) marks.Dot tail) >>= λ names left. Some
            (dotted_tree first (trees_from names), left)) plain_or (tree, rest) next') [
              | inl (stood, read) ↦
                  let (names, (name, more, tail_is, names_are), whole) =
                  joined_sound several_subs (sub_in inner) sub_sound marks.Dot
                  (λ names. dotted_tree first (trees_from names)) [] tail rest tree stood read in (
                    dotted sub name more,
                    front ∙ ap (sub_tokens sub) tail_is,
                    whole ∙ ap (λ (t : Tree). dotted_tree t (trees_from names)) first_is
                        ∙ ap (dotted_tree (sub_tree sub)) names_are,
                  )
              | inr (no_dot, next'') ↦
                  elim (otherwise_some (following marks.Colon tail)
                  (otherwise (following marks.Minus tail) (Some (first, tail))
                  (λ left. sub_in inner left >>= λ second after. Some (minus_tree first second, after)))
                  (λ left. refinement_in inner left >>= λ refinement after. Some
                  (refined_tree first refinement, after)) (tree, rest) next'') [
                    | inl (no_colon, last) ↦
                        elim (otherwise_some (following marks.Minus tail) (Some (first, tail))
                        (λ left. sub_in inner left >>= λ second after. Some
                        (minus_tree first second, after)) (tree, rest) last) [
                          | inl (no_minus, end) ↦
                              let same : (first, tail) ≡ (tree, rest) = some_is end in (
                                alone sub,
                                front ∙ ap (λ (p : Tree × List Symbol). sub_tokens sub p.1)
                                    same,
                                sym (ap (λ (p : Tree × List Symbol). p.0) same) ∙ first_is,
                              )
                          | inr (left, found, end) ↦
                              let read = bind_some (sub_in inner left)
                              (λ second after. Some (minus_tree first second, after)) (tree, rest) end in
                              let same : (minus_tree first read.0.0, read.0.1) ≡ (tree, rest) = some_is read.2 in
                              let second = sub_sound left rest read.0.0 (read.1
                              ∙ ap (λ (p : Tree × List Symbol). Some (read.0.0, p.1)) same) in (
                                exclusion sub second.0,
                                front ∙ ap (sub_tokens sub) (after_is marks.Minus tail left found
                                    ∙ ap (λ after. mark token.Minus ∷ after) second.1),
                                sym (ap (λ (p : Tree × List Symbol). p.0) same)
                                    ∙ ap (λ (t : Tree). minus_tree t read.0.0) first_is
                                    ∙ ap (minus_tree (sub_tree sub)) second.2,
                              )
                        ]
                    | inr (left, found, end) ↦
                        let read = bind_some (refinement_in inner left)
                        (λ refinement after. Some (refined_tree first refinement, after)) (tree, rest) end in
                        let same : (refined_tree first read.0.0, read.0.1) ≡ (tree, rest) = some_is read.2 in
                        let what = refinement_sound left rest read.0.0 (read.1
                        ∙ ap (λ (p : Tree × List Symbol). Some (read.0.0, p.1)) same) in (
                          refined sub what.0,
                          front ∙ ap (sub_tokens sub) (after_is marks.Colon tail left found
                              ∙ ap (λ after. mark token.Colon ∷ after) what.1),
                          sym (ap (λ (p : Tree × List Symbol). p.0) same)
                              ∙ ap (λ (t : Tree). refined_tree t read.0.0) first_is
                              ∙ ap (refined_tree (sub_tree sub)) what.2,
                        )
                  ]
            ]
      ]

  -- `constraint_in` reads only the tokens of a constraint form, and finds its tree, if the inner readers are sound
  constraint_sound : IsSound constraint_tokens constraint_tree (constraint_in inner)
  unfolding constraint_in
  constraint_sound tokens rest tree is =
      let first = bind_some (sub_in inner tokens) (constraint_after inner) (tree, rest) is in
      after_sound tokens first.0.1 rest first.0.0 tree (sub_sound tokens first.0.1 first.0.0 first.1) first.2

-- the readers of forms in brackets are sound, however many brackets may be open
readers_sound : (most : ℕ) → AreSound (readers most)
unfolding readers
readers_sound zero = record {
  constraint = λ tokens rest tree is. absurd (none-some (tree, rest) is);
  refinement = λ tokens rest tree is. absurd (none-some (tree, rest) is);
  set = λ tokens rest tree is. absurd (none-some (tree, rest) is);
}
readers_sound (suc most) = record {
  constraint = constraint_sound (readers most) (readers_sound most);
  refinement = refinement_sound (readers most) (readers_sound most);
  set = set_sound (readers most) (readers_sound most);
}

-- if reading `tokens` as a constraint gives `tree` and leaves `rest`, then some form has the tree `tree`, and its
-- tokens in front of `rest` are `tokens`
pub constraint_derives : (most : ℕ) (tokens rest : List Symbol) (tree : Tree)
    → constraint_in (readers most) tokens ≡ Some (tree, rest)
    → (form : ConstraintForm) × (tokens ≡ constraint_tokens form rest) × (tree ≡ constraint_tree form)
constraint_derives most tokens rest tree is = constraint_sound (readers most) (readers_sound most) tokens rest tree is
