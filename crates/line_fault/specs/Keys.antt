-- What the parts of a statement are called. Assumes nothing.
use Rattle.std.specs.Prelude.{ℕ, List, codes}
use Rattle.line_fault.specs.declared.Key.{Key}
use Rattle.line_fault.specs.declared.Key.TheVariants.{Leaf, Rows, Parent, Slots, Size, Validity, Offsets, Sizes, Name, Kind, Offset}

abbrev pub key_text : Key → List ℕ
key_text Leaf = codes "leaf"
key_text Rows = codes "rows"
key_text Parent = codes "parent"
key_text Slots = codes "slots"
key_text Size = codes "size"
key_text Validity = codes "validity"
key_text Offsets = codes "offsets"
key_text Sizes = codes "sizes"
key_text Name = codes "name"
key_text Kind = codes "the kind"
key_text Offset = codes "an offset"
