-- The lists of a release after one more row was added, and the lists of only the chosen rows.
use Rattle.std.specs.Prelude.{Bool, true, false, List, [], ◌∷◌, ◌++◌, map, option_to_list}
use Rattle.rf2_rows.specs.RowTexts.{RowText}
use Rattle.row_lists.specs.Marked.{marked}
use Rattle.row_lists.specs.ReleaseLists.{ReleaseLists, attribute_listed, concept_listed, inactive_listed, isa_listed}
use Rattle.row_lists.specs.ReleaseLists.{listing_of, member_listed, name_listed}
use Rattle.row_lists.specs.declared.row_lists.Listing.{Listing}
use Rattle.row_lists.specs.declared.row_lists.Listing.TheVariants as listing

-- the lists after `row` was added
abbrev pub listed_after : ReleaseLists → RowText → ReleaseLists
listed_after listed row = record {
  marks = listed.marks ++ listing_of row ∷ [];
  active_concepts = listed.active_concepts ++ option_to_list (concept_listed row);
  inactive_concepts = listed.inactive_concepts ++ option_to_list (inactive_listed row);
  names = listed.names ++ option_to_list (name_listed row);
  isa_ends = listed.isa_ends ++ option_to_list (isa_listed row);
  attributes = listed.attributes ++ option_to_list (attribute_listed row);
  member_ends = listed.member_ends ++ option_to_list (member_listed row);
}

-- the lists after `row` was added, but with the old marks
abbrev pub filled : ReleaseLists → RowText → ReleaseLists
filled listed row = record (listed_after listed row) { marks = listed.marks }

-- whether `one` and `other` name the same list
abbrev pub same_listing : Listing → Listing → Bool
same_listing listing.Nowhere listing.Nowhere = true
same_listing listing.Concept listing.Concept = true
same_listing listing.Name listing.Name = true
same_listing listing.IsA listing.IsA = true
same_listing listing.Attribute listing.Attribute = true
same_listing listing.Member listing.Member = true
same_listing listing.Inactive listing.Inactive = true
same_listing one other = false

-- the items of a list whose rows are chosen; `heres` says for each row whether it is in the list,
-- and `choices` whether it is chosen
abbrev pub items_chosen : {X : Type 0} → List Bool → List Bool → List X → List X
items_chosen heres choices items = marked (marked heres choices) items

-- for each row, whether it is in `list`
abbrev pub in_list : Listing → List Listing → List Bool
in_list list marks = map (λ mark. same_listing mark list) marks

-- the lists with only the items whose rows are chosen; the marks stay as they were
abbrev pub listed_chosen : ReleaseLists → List Bool → ReleaseLists
listed_chosen listed choices = record listed {
  active_concepts = items_chosen (in_list listing.Concept listed.marks) choices
      listed.active_concepts;
  inactive_concepts = items_chosen (in_list listing.Inactive listed.marks) choices
      listed.inactive_concepts;
  names = items_chosen (in_list listing.Name listed.marks) choices listed.names;
  isa_ends = items_chosen (in_list listing.IsA listed.marks) choices listed.isa_ends;
  attributes = items_chosen (in_list listing.Attribute listed.marks) choices listed.attributes;
  member_ends = items_chosen (in_list listing.Member listed.marks) choices listed.member_ends;
}
