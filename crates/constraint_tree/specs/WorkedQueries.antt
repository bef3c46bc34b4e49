-- Queries on the sample release, each with its text, its tree, and the concepts that it denotes
-- there. Each fact follows by computing. The texts have identifiers and no names.
use Rattle.std.specs.Prelude.{ℕ, ℤ, pos, ◌≡◌, false, true, Some, None, List, [], ◌∷◌, codes}
use Rattle.constraint_tree.specs.declared.operator.Cardinality.{Cardinality}
use Rattle.constraint_tree.specs.declared.operator.Compare.{Compare}
use Rattle.constraint_tree.specs.declared.operator.Compare.TheVariants.{Equal, NotEqual, Less, LessOrEqual, Greater}
use Rattle.constraint_tree.specs.declared.operator.Compare.TheVariants.{GreaterOrEqual}
use Rattle.constraint_tree.specs.declared.operator.Operator.TheVariants.{Descendants, DescendantsOrSelf, Children}
use Rattle.constraint_tree.specs.declared.operator.Operator.TheVariants.{ChildrenOrSelf, Ancestors, AncestorsOrSelf}
use Rattle.constraint_tree.specs.declared.operator.Operator.TheVariants.{Parents, ParentsOrSelf, Top, Bottom}
use Rattle.constraint_tree.specs.Tree.{Tree, concept_tree, any_tree, walk_tree, member_tree, and_tree, or_tree}
use Rattle.constraint_tree.specs.Tree.{minus_tree, dotted_tree, refined_tree, trees_from, one_refinement}
use Rattle.constraint_tree.specs.Tree.{group_refinement, and_refinement, or_refinement, refinements_from}
use Rattle.constraint_tree.specs.Tree.{AttributeSetTree, one_set, and_set, or_set, sets_from, AttributeTree}
use Rattle.constraint_tree.specs.Tree.{attribute_tree, TestTree, within_test, outside_test, number_test}
use Rattle.constraint_tree.specs.Denotation.{denotation}
use Rattle.constraint_tree.specs.Refusal.{IsConstraint}
use Rattle.constraint_tree.specs.Sample.{sample, sample_concepts, alpha, beta, gamma, delta, type_t, type_u, value_x}
use Rattle.constraint_tree.specs.Sample.{value_y, reference_set, root}

-- `text` is the constraint `query`, which denotes exactly the concepts of `answer` in the sample
-- release
pub record Gives (text : List ℕ) (query : Tree) (answer : List ℕ) : Type 0 where
  -- the text is a constraint with this tree
  pub is_query : IsConstraint text query
  -- the tree denotes exactly the concepts of `answer` in the sample release
  pub denotes : denotation sample query ≡ answer

-- Functions that make trees of queries: `<`, `<<`, `AND`, `OR` and a dot.

-- `<` of a concept
abbrev pub descendants_of : ℕ → Tree
descendants_of number = walk_tree Descendants (concept_tree number)

-- `<<` of a concept
abbrev pub self_or_descendants_of : ℕ → Tree
self_or_descendants_of number = walk_tree DescendantsOrSelf (concept_tree number)

-- the constraints of a list, joined by `AND`
abbrev pub all_of : List Tree → Tree
all_of trees = and_tree (trees_from trees)

-- the constraints of a list, joined by `OR`
abbrev pub some_of : List Tree → Tree
some_of trees = or_tree (trees_from trees)

-- `start`, followed by a dot and a constraint for each of `names`
abbrev pub values_along : Tree → List Tree → Tree
values_along start names = dotted_tree start (trees_from names)

-- `<` of Alpha
abbrev pub below_alpha : Tree
below_alpha = descendants_of alpha

-- `<<` of Alpha
abbrev pub alpha_or_below : Tree
alpha_or_below = self_or_descendants_of alpha

-- the cardinality `[least..*]`
abbrev pub at_least : ℕ → Cardinality
at_least least = record { min = least; max = None }

-- the cardinality `[least..most]`
abbrev pub between : ℕ → ℕ → Cardinality
between least most = record { min = least; max = Some most }

-- an attribute of type `type_id` whose value passes `test`, with the cardinality `count`
abbrev pub counted : Cardinality → ℕ → TestTree → AttributeTree
counted count type_id test = attribute_tree count false (concept_tree type_id) test

-- an attribute of type `type_id` whose value passes `test`, at least once
abbrev pub has : ℕ → TestTree → AttributeTree
has type_id test = counted (at_least 1) type_id test

-- `=*`: any concept as the value
abbrev pub any_concept : TestTree
any_concept = within_test any_tree

-- `focus : attribute`
abbrev pub with_attribute : Tree → AttributeTree → Tree
with_attribute focus attribute = refined_tree focus (one_refinement attribute)

-- `focus : count { set }`
abbrev pub with_braces : Tree → Cardinality → AttributeSetTree → Tree
with_braces focus count set = refined_tree focus (group_refinement count set)

-- 104001=<<106004
abbrev pub finds_x : AttributeTree
finds_x = has type_t (within_test (self_or_descendants_of value_x))

-- 105000=*
abbrev pub finds_u : AttributeTree
finds_u = has type_u any_concept

-- the number 2, as a multiple of 10^-18
abbrev pub two : ℤ
two = pos 2000000000000000000

-- the number 2.5, as a multiple of 10^-18
abbrev pub two_and_a_half : ℤ
two_and_a_half = pos 2500000000000000000

-- the number 2.6, as a multiple of 10^-18
abbrev pub two_point_six : ℤ
two_point_six = pos 2600000000000000000

-- the number 3, as a multiple of 10^-18
abbrev pub three : ℤ
three = pos 3000000000000000000

-- The queries.

abbrev pub GivesEverything : Type 0
GivesEverything = Gives (codes "*") any_tree sample_concepts

abbrev pub GivesDescendants : Type 0
GivesDescendants = Gives (codes "<100005") below_alpha (beta ∷ gamma ∷ delta ∷ [])

-- `finds_x` and `finds_u` in one group
abbrev pub finds_both : AttributeSetTree
finds_both = and_set (sets_from (one_set finds_x ∷ one_set finds_u ∷ []))

-- a concept below Alpha that has both attributes in one group
abbrev pub braces_query : Tree
braces_query = with_braces below_alpha (at_least 1) finds_both

-- a concept below Alpha that has both attributes, in one group or in several
abbrev pub no_braces_query : Tree
no_braces_query =
    refined_tree below_alpha
    (and_refinement (refinements_from (one_refinement finds_x ∷ one_refinement finds_u ∷ [])))

abbrev pub GivesBraces : Type 0
GivesBraces =
    Gives (codes "<100005:{104001=<<106004,105000=*}") braces_query (beta ∷ [])
    × Gives (codes "<100005:104001=<<106004,105000=*") no_braces_query (beta ∷ gamma ∷ delta ∷ [])

-- two pairs of type U with a concept as the value. Gamma's number is no concept, and the pair that
-- Delta has in two groups counts once
abbrev pub two_of_u_query : Tree
two_of_u_query = with_attribute below_alpha (counted (at_least 2) type_u any_concept)

abbrev pub GivesDistinctPairs : Type 0
GivesDistinctPairs = Gives (codes "<100005:[2..*]105000=*") two_of_u_query []

-- at least two groups with one of the two attributes
abbrev pub two_groups_query : Tree
two_groups_query =
    with_braces below_alpha (at_least 2)
    (or_set (sets_from (one_set (has type_t any_concept) ∷ one_set finds_u ∷ [])))

abbrev pub GivesBraceCounts : Type 0
GivesBraceCounts =
    Gives (codes "<100005:[2..*]{104001=* OR 105000=*}") two_groups_query (gamma ∷ delta ∷ [])
    × Gives (codes "<100005:[1..1]{105000=*}")
    (with_braces below_alpha (between 1 1) (one_set finds_u)) (beta ∷ gamma ∷ [])
    × Gives (codes "<100005:[2..*]{105000=*}")
    (with_braces below_alpha (at_least 2) (one_set finds_u)) (delta ∷ [])

-- the attribute U with the cardinality `[0..0]`
abbrev pub none_of_u : AttributeTree
none_of_u = counted (between 0 0) type_u any_concept

-- a concept below Alpha with a group that has no attribute U
abbrev pub none_in_braces_query : Tree
none_in_braces_query = with_braces below_alpha (at_least 1) (one_set none_of_u)

-- `[0..0]` in braces asks for a group without the attribute, outside braces for a concept without
-- it, and before braces for no group with it
abbrev pub GivesNoneInBraces : Type 0
GivesNoneInBraces =
    Gives (codes "<100005:{[0..0]105000=*}") none_in_braces_query (gamma ∷ delta ∷ [])
    × Gives (codes "<<100005:[0..0]105000=*") (with_attribute alpha_or_below none_of_u) (alpha ∷ [])
    × Gives (codes "<<100005:[0..0]{105000=*}")
    (with_braces alpha_or_below (between 0 0) (one_set finds_u)) (alpha ∷ [])

-- exactly three sources below Alpha whose attribute U has the concept as its value. Delta counts
-- once as a source
abbrev pub three_sources : AttributeTree
three_sources = attribute_tree (between 3 3) true (concept_tree type_u) (within_test below_alpha)

-- Value X or a descendant of it that three sources below Alpha point to
abbrev pub reverse_query : Tree
reverse_query = with_attribute (self_or_descendants_of value_x) three_sources

abbrev pub GivesReverse : Type 0
GivesReverse = Gives (codes "<<106004:[3..3] R 105000=<100005") reverse_query (value_y ∷ [])

abbrev pub GivesDotted : Type 0
GivesDotted =
    Gives (codes "<100005.104001") (values_along below_alpha (concept_tree type_t ∷ []))
    (value_x ∷ value_y ∷ [])
    × Gives (codes "<100005 . 104001 . 105000")
    (values_along below_alpha (concept_tree type_t ∷ concept_tree type_u ∷ [])) []

-- a value of U that is not 3, which differs from no value that is 3
abbrev pub not_three_query : Tree
not_three_query = with_attribute below_alpha (has type_u (number_test NotEqual three))

-- a value of T that is a concept other than X
abbrev pub not_x_query : Tree
not_x_query = with_attribute below_alpha (has type_t (outside_test (concept_tree value_x)))

abbrev pub GivesNotEqual : Type 0
GivesNotEqual =
    Gives (codes "<100005:104001!=106004") not_x_query (delta ∷ [])
    × Gives (codes "<100005:105000!=#3") not_three_query (gamma ∷ [])
    × Gives (codes "<100005:105000=#3")
    (with_attribute below_alpha (has type_u (number_test Equal three))) (delta ∷ [])

abbrev pub GivesRowsInForce : Type 0
GivesRowsInForce =
    Gives (codes "^108003") (member_tree (concept_tree reference_set)) (beta ∷ delta ∷ [])
    × Gives (codes "<^108003") (walk_tree Descendants (member_tree (concept_tree reference_set)))
    (delta ∷ [])
    × Gives (codes "^*") (member_tree any_tree) (beta ∷ delta ∷ [])
    × Gives (codes "<<100005:104001=*") (with_attribute alpha_or_below (has type_t any_concept))
    (beta ∷ gamma ∷ delta ∷ [])
    × Gives (codes "<<100005:105000=*") (with_attribute alpha_or_below finds_u)
    (beta ∷ gamma ∷ delta ∷ [])

-- the concepts that have a value of U that compares with `number` as `compare` says
abbrev pub with_number : Compare → ℤ → Tree
with_number compare number = with_attribute any_tree (has type_u (number_test compare number))

abbrev pub GivesNumbers : Type 0
GivesNumbers =
    Gives (codes "*:105000>#2") (with_number Greater two) (gamma ∷ delta ∷ [])
    × Gives (codes "*:105000=#2.50") (with_number Equal two_and_a_half) (gamma ∷ [])
    × Gives (codes "*:105000<#+2.6") (with_number Less two_point_six) (gamma ∷ [])

-- each comparison on a bound that it meets, and on one that it does not meet
abbrev pub GivesBounds : Type 0
GivesBounds =
    Gives (codes "*:105000<=#2.5") (with_number LessOrEqual two_and_a_half) (gamma ∷ [])
    × Gives (codes "*:105000<#2.5") (with_number Less two_and_a_half) []
    × Gives (codes "*:105000>=#2.5") (with_number GreaterOrEqual two_and_a_half)
    (gamma ∷ delta ∷ [])
    × Gives (codes "*:105000>=#2.6") (with_number GreaterOrEqual two_point_six) (delta ∷ [])

-- `MINUS` gives the concepts of the first operand that are not in the second
abbrev pub GivesDifferences : Type 0
GivesDifferences =
    Gives (codes "<<100005 MINUS 101009") (minus_tree alpha_or_below (concept_tree beta))
    (alpha ∷ gamma ∷ delta ∷ [])
    × Gives (codes "<<100005 MINUS <<101009")
    (minus_tree alpha_or_below (self_or_descendants_of beta)) (alpha ∷ gamma ∷ [])
    × Gives (codes "101009 MINUS <<100005") (minus_tree (concept_tree beta) alpha_or_below) []

-- a concept below Alpha that has at least one of two attributes
abbrev pub either_of : AttributeTree → AttributeTree → Tree
either_of first second =
    refined_tree below_alpha
    (or_refinement (refinements_from (one_refinement first ∷ one_refinement second ∷ [])))

abbrev pub three_or_x_query : Tree
three_or_x_query = either_of (has type_u (number_test Equal three))
    (has type_t (within_test (concept_tree value_x)))

abbrev pub three_or_two_query : Tree
three_or_two_query = either_of (has type_u (number_test Equal three))
    (has type_u (number_test Equal two))

abbrev pub GivesEither : Type 0
GivesEither =
    Gives (codes "<100005:105000=#3 OR 104001=106004") three_or_x_query (beta ∷ gamma ∷ delta ∷ [])
    × Gives (codes "<100005:105000=#3 OR 105000=#2") three_or_two_query (delta ∷ [])

abbrev pub alpha_or_delta : Tree
alpha_or_delta = some_of (concept_tree alpha ∷ concept_tree delta ∷ [])

abbrev pub top_query : Tree
top_query = walk_tree Top alpha_or_delta

abbrev pub ancestors_query : Tree
ancestors_query = walk_tree Ancestors (concept_tree delta)

abbrev pub parents_query : Tree
parents_query = walk_tree Parents (concept_tree delta)

abbrev pub GivesWalks : Type 0
GivesWalks =
    Gives (codes "!!>(<100005)") (walk_tree Top below_alpha) (beta ∷ gamma ∷ [])
    × Gives (codes "!!>(100005 OR 103007)") top_query (alpha ∷ [])
    × Gives (codes "!!<(<<100005)") (walk_tree Bottom alpha_or_below) (delta ∷ [])
    × Gives (codes ">103007") ancestors_query (alpha ∷ beta ∷ gamma ∷ root ∷ [])
    × Gives (codes ">!103007") parents_query (beta ∷ gamma ∷ [])
    × Gives (codes "<!138875005") (walk_tree Children (concept_tree root))
    (alpha ∷ type_t ∷ type_u ∷ value_x ∷ reference_set ∷ [])
    × Gives (codes "<<!100005") (walk_tree ChildrenOrSelf (concept_tree alpha))
    (alpha ∷ beta ∷ gamma ∷ [])
    × Gives (codes ">>103007") (walk_tree AncestorsOrSelf (concept_tree delta))
    (alpha ∷ beta ∷ gamma ∷ delta ∷ root ∷ [])
    × Gives (codes ">>!107008") (walk_tree ParentsOrSelf (concept_tree value_y))
    (value_x ∷ value_y ∷ [])

abbrev pub walk_of_and_query : Tree
walk_of_and_query = walk_tree DescendantsOrSelf
    (all_of (concept_tree beta ∷ concept_tree gamma ∷ []))

abbrev pub and_of_walks_query : Tree
and_of_walks_query = all_of (self_or_descendants_of beta ∷ self_or_descendants_of gamma ∷ [])

abbrev pub GivesOperands : Type 0
GivesOperands =
    Gives (codes "<<(101009 AND 102002)") walk_of_and_query []
    × Gives (codes "<<101009 AND <<102002") and_of_walks_query (delta ∷ [])
    × Gives (codes "< 100005 AND 101009") (all_of (below_alpha ∷ concept_tree beta ∷ []))
    (beta ∷ [])

-- a concept below Alpha whose number of pairs of type U lies in `count`
abbrev pub with_u_counted : Cardinality → Tree
with_u_counted count = with_attribute below_alpha (counted count type_u any_concept)

-- neither number is a concept in force, and no count is both at least three and at most one
abbrev pub GivesEmptyAnswers : Type 0
GivesEmptyAnswers =
    Gives (codes "109006") (concept_tree 109006) []
    × Gives (codes "999999") (concept_tree 999999) []
    × Gives (codes "<100005:[3..1]105000=*") (with_u_counted (between 3 1)) []
    × Gives (codes "<100005:[0..*]105000=*") (with_u_counted (at_least 0))
    (beta ∷ gamma ∷ delta ∷ [])
