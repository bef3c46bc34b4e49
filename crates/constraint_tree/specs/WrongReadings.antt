-- Readings of queries that look right but are wrong. Each comes with a query for which the reading
-- finds other concepts in the sample release than the query denotes. The comment above a query
-- gives its text.
use Rattle.std.specs.Prelude.{ℕ, zero, suc, ◌≡◌, ◌≢◌, ◌==◌, ◌&&◌, ◌||◌, Bool, false, not, List, [], ◌∷◌, map, filter}
use Rattle.std.specs.Prelude.{count_by, nat_eq}
use Rattle.std.specs.List.{list_any}
use Rattle.release_model.specs.Release.{Release}
use Rattle.release_model.specs.Pairs.{Pair, pair_of, rows_of}
use Rattle.number_lists.specs.Distinct.{distinct}
use Rattle.release_model.specs.Groups.{pairs_in}
use Rattle.constraint_tree.specs.declared.operator.Cardinality.{Cardinality}
use Rattle.constraint_tree.specs.declared.operator.Compare.TheVariants.{Equal}
use Rattle.constraint_tree.specs.Passing.{lies_in}
use Rattle.constraint_tree.specs.Walks.{is_just_below}
use Rattle.constraint_tree.specs.Denotation.{denotes, satisfies, has_set, has_attribute, denotation}
use Rattle.constraint_tree.specs.Tree.{Tree, group_refinement, one_refinement, AttributeSetTree, one_set, AttributeTree}
use Rattle.constraint_tree.specs.Tree.{number_test}
use Rattle.constraint_tree.specs.Sample.{sample, alpha, beta, gamma, delta, type_u, root}
use Rattle.constraint_tree.specs.WorkedQueries.{below_alpha, braces_query, finds_x, finds_u, finds_both, any_concept}
use Rattle.constraint_tree.specs.WorkedQueries.{at_least, counted, has, two_of_u_query, none_of_u, none_in_braces_query}
use Rattle.constraint_tree.specs.WorkedQueries.{not_three_query, three, alpha_or_delta, top_query, ancestors_query}
use Rattle.constraint_tree.specs.WorkedQueries.{parents_query, self_or_descendants_of, walk_of_and_query, all_of}

-- In the sample release `query` denotes the concepts of `right`; the test `reading` holds for those
-- of `wrong`; and these two lists differ.
abbrev pub Misreads : Tree → (ℕ → Bool) → List ℕ → List ℕ → Type 0
Misreads query reading right wrong =
    (denotation sample query ≡ right) × (filter reading sample.concepts ≡ wrong) × (right ≢ wrong)

-- whether a concept is a descendant of Alpha for which `reading` holds
abbrev pub below_alpha_that : (ℕ → Bool) → ℕ → Bool
below_alpha_that reading concept = denotes sample below_alpha concept && reading concept

-- `{ a , b }` misread as `{ a } , { b }`: the concept has each attribute in some group, not both in
-- one
abbrev pub has_apart : Release → AttributeTree → AttributeTree → ℕ → Bool
has_apart release one other concept =
    satisfies release (group_refinement (at_least 1) (one_set one)) concept
    && satisfies release (group_refinement (at_least 1) (one_set other)) concept

-- <100005:{104001=<<106004,105000=*}
abbrev pub MisreadsSplitBraces : Type 0
MisreadsSplitBraces =
    Misreads braces_query
    (below_alpha_that (has_apart sample finds_x finds_u))
    (beta ∷ []) (beta ∷ gamma ∷ delta ∷ [])

-- `a != v` misread as the negation of `a = v`, which a concept without the attribute satisfies too
abbrev pub denies : Release → AttributeTree → ℕ → Bool
denies release attribute concept = not (satisfies release (one_refinement attribute) concept)

-- <100005:105000!=#3
abbrev pub MisreadsNotEqual : Type 0
MisreadsNotEqual =
    Misreads not_three_query
    (below_alpha_that (denies sample (has type_u (number_test Equal three))))
    (gamma ∷ []) (beta ∷ gamma ∷ [])

-- an attribute inside braces misread as an attribute of the concept, in whatever group
abbrev pub has_wherever : Release → AttributeTree → ℕ → Bool
has_wherever release attribute concept = satisfies release (one_refinement attribute) concept

-- <100005:{[0..0]105000=*}
abbrev pub MisreadsNoneInBraces : Type 0
MisreadsNoneInBraces =
    Misreads none_in_braces_query
    (below_alpha_that (has_wherever sample none_of_u))
    (gamma ∷ delta ∷ []) []

-- the groups of a concept if group 0 is misread as a group like the others
abbrev pub groups_with_zero : Release → ℕ → List (List Pair)
groups_with_zero release concept =
    map (pairs_in release concept)
    (distinct nat_eq (map (λ row. row.group) (rows_of release concept)))

-- whether the number of groups that satisfy an attribute set lies in the cardinality, if group 0 is
-- misread as one group
abbrev pub has_group_with_zero : Release → Cardinality → AttributeSetTree → ℕ → Bool
has_group_with_zero release count set concept =
    lies_in count (count_by (has_set release set) (groups_with_zero release concept))

-- <100005:{104001=<<106004,105000=*}
abbrev pub MisreadsGroupZero : Type 0
MisreadsGroupZero =
    Misreads braces_query
    (below_alpha_that (has_group_with_zero sample (at_least 1) finds_both))
    (beta ∷ []) (beta ∷ delta ∷ [])

-- a cardinality misread as a count of rows, not of distinct pairs
abbrev pub has_rows : Release → AttributeTree → ℕ → Bool
has_rows release attribute concept =
    has_attribute release attribute (map pair_of (rows_of release concept))

-- <100005:[2..*]105000=*
abbrev pub MisreadsRows : Type 0
MisreadsRows =
    Misreads two_of_u_query
    (below_alpha_that (has_rows sample (counted (at_least 2) type_u any_concept)))
    [] (delta ∷ [])

-- `!!>` misread as the members that have no parent in the set
abbrev pub has_no_parent_in : Release → (ℕ → Bool) → ℕ → Bool
has_no_parent_in release set concept = set concept && not (is_just_below release set concept)

-- !!>(100005 OR 103007)
abbrev pub MisreadsTop : Type 0
MisreadsTop =
    Misreads top_query
    (has_no_parent_in sample (denotes sample alpha_or_delta))
    (alpha ∷ []) (alpha ∷ delta ∷ [])

-- whether at most `most` is-a rows lead from `from` up to `to`, as if the hierarchy had this depth
abbrev pub reaches_within : ℕ → List (ℕ × ℕ) → ℕ → ℕ → Bool
reaches_within zero rows from to = false
reaches_within (suc most) rows from to =
    list_any (λ row. (row.0 == from) && ((row.1 == to) || reaches_within most rows row.1 to)) rows

-- >103007
abbrev pub MisreadsDepth : Type 0
MisreadsDepth =
    Misreads ancestors_query
    (reaches_within 2 sample.isa delta)
    (alpha ∷ beta ∷ gamma ∷ root ∷ []) (alpha ∷ beta ∷ gamma ∷ [])

-- the first is-a row of each concept, as if each concept had one parent
abbrev pub first_parents : List (ℕ × ℕ) → List (ℕ × ℕ)
first_parents rows = distinct (λ one other. one.0 == other.0) rows

-- >!103007
abbrev pub MisreadsSecondParent : Type 0
MisreadsSecondParent =
    Misreads parents_query
    (reaches_within 1 (first_parents sample.isa) delta)
    (beta ∷ gamma ∷ []) (beta ∷ [])

-- <<(101009 AND 102002), with `<<(a AND b)` misread as `<<a AND <<b`
abbrev pub MisreadsWalkOfAnd : Type 0
MisreadsWalkOfAnd =
    Misreads walk_of_and_query
    (denotes sample (all_of (self_or_descendants_of beta ∷ self_or_descendants_of gamma ∷ [])))
    [] (delta ∷ [])
