-- The items of a list set, of a bitmap set, and of a set that is one of the two.
use Rattle.std.specs.Prelude.{ℕ, List}
use Rattle.idset.specs.declared.mixed_set.Form.{Form}
use Rattle.idset.specs.declared.mixed_set.Form.TheVariants.{Few, Many}
use Rattle.idset.specs.declared.sorted_set.SortedSet.{SortedSet}
use Rattle.idset.specs.declared.word_set.WordSet.{WordSet}
use Rattle.number_lists.specs.Rising.{IsRisingBelow, numbers_where}
use Rattle.idset.specs.Words.{is_set}

-- the items of a list set
abbrev pub list_items : SortedSet → List ℕ
list_items set = set.items.items

-- the items of a bitmap set: the numbers whose bits are set, in rising order
abbrev pub word_items : WordSet → List ℕ
word_items set = numbers_where set.bound (is_set set.words.items)

-- the items of a set that is a list (`Few`) or a bitmap (`Many`)
abbrev pub form_items : Form → List ℕ
form_items (Few set) = list_items set
form_items (Many set) = word_items set

-- the bound of a set that is a list or a bitmap
abbrev pub form_bound : Form → ℕ
form_bound (Few set) = set.bound
form_bound (Many set) = set.bound

-- the items of a set rise below its bound, whether it is a list or a bitmap
pub form_rises : (form : Form) → IsRisingBelow (form_bound form) (form_items form)
form_rises (Few set) = set.rising
form_rises (Many set) = set.rising
