use Rattle.std.proofs.Common.{◌≡◌, ◌∙◌, Global, List, OnOk, Some, String, map, string_bytes, subst, sym, ℕ}
use Rattle.streams.specs.Traversal.{AreNamesIn, found_in}
use Rattle.streams.specs.inside.TraversalInside.{found_by}
use Rattle.streams.proofs.TraversalLemmas.{enters_again, enters_ok, told_again, told_first}
use Rattle.streams.proofs.traversal.Traversal.enter.Goals as goal

-- a folder that was entered before is not entered again
pub returns-then-not-is_new : goal.returns-then-not-is_new
returns-then-not-is_new g c tree told =
    enters_again tree c.args.folder.now c.args.below.now c.as_str.result.now c.in_ok-folder_number.field-0
    c.args.self.now.entered c.intern.new.self (found_by c.args.self.now) (c.as_str.ensures.value ∙ c.in_ok-path.ensures)
    (c.in_ok-folder_number.ensures tree told)
    (told_again _ c.in_ok-is_new.is_new c.in_ok-is_new.ensures.new c.if-not-is_new.true)
    c.in_ok-is_new.ensures.keys

-- a folder that is new is entered if what stands in it can be taken
pub returns : goal.returns
returns g c tree told =
    enters_ok tree c.args.folder.now c.args.below.now c.as_str.result.now c.in_ok-folder_number.field-0
    c.args.self.now.entered c.intern.new.self c.take_all.new.self.entered (found_by c.args.self.now)
    (found_by c.take_all.new.self)
    (map string_bytes c.in_ok-names.names.items) c.take_all.result (c.as_str.ensures.value ∙ c.in_ok-path.ensures)
    (c.in_ok-folder_number.ensures tree told)
    (told_first _ c.in_ok-is_new.is_new c.in_ok-is_new.ensures.new c.if-not-is_new.false)
    c.in_ok-is_new.ensures.keys c.take_all.ensures.entered
    (subst (λ (place : List ℕ). AreNamesIn tree place (map string_bytes c.in_ok-names.names.items))
    (c.as_str-2.ensures.value ∙ sym c.as_str.ensures.value) (c.in_ok-names.ensures tree told))
    (subst (λ (names : List (String Global)). OnOk c.take_all.result (found_in tree c.args.folder.now c.args.below.now
    (map string_bytes names) (found_by c.args.self.now) ≡ Some (found_by c.take_all.new.self)))
    c.as_slice.ensures.value (c.take_all.ensures.found tree told))
