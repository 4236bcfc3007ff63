-- The kinds of nodes, their numbers and words, and the refusals, their codes and names.
use Rattle.std.specs.Prelude.{◌≡◌, ℕ, List, [], ◌∷◌, Some, None, Option, Result, MatchResult, slice_index_or, codes}
use Rattle.table.specs.declared.node.Kind.{Kind}
use Rattle.table.specs.declared.node.UnknownKind.{UnknownKind}
use Rattle.table.specs.declared.refusal.Cause.{Cause}
use Rattle.table.specs.declared.refusal.Refusal.{Refusal}

-- a kind's number is its place in this list
abbrev pub kinds : List (Option Kind)
kinds =
    Some Kind.Leaf ∷ Some Kind.Struct ∷ Some Kind.List ∷ Some Kind.LargeList ∷ Some Kind.FixedSizeList ∷ Some Kind.ListView ∷ Some Kind.LargeListView ∷ []

abbrev pub kind_of : ℕ → Option Kind
kind_of number = slice_index_or kinds number None

-- the kind that has a number, or that no kind has it
abbrev pub NumbersKind : ℕ → Result Kind UnknownKind → Type 0
NumbersKind number r = MatchResult r (λ kind. kind_of number ≡ Some kind) (λ unknown. (unknown.number ≡ number) × (kind_of number ≡ None))

-- the word of a kind
abbrev pub kind_word : Kind → List ℕ
kind_word Kind.Leaf = codes "leaf"
kind_word Kind.Struct = codes "struct"
kind_word Kind.List = codes "list"
kind_word Kind.LargeList = codes "large_list"
kind_word Kind.FixedSizeList = codes "fixed_size_list"
kind_word Kind.ListView = codes "list_view"
kind_word Kind.LargeListView = codes "large_list_view"

-- the public code of each refusal
abbrev pub cause_code : Cause → ℕ
cause_code Cause.RequiredNull = 5
cause_code Cause.WrongSpan = 6

abbrev pub code_of : Refusal → ℕ
code_of Refusal.Table = 1
code_of Refusal.Buffers = 2
code_of Refusal.NotALeaf = 3
code_of Refusal.RowRange = 4
code_of (Refusal.Reached fault) = cause_code fault.cause
code_of Refusal.TooManyEntries = 12

-- the name of each refusal
abbrev pub cause_name : Cause → List ℕ
cause_name Cause.RequiredNull = codes "required-null"
cause_name Cause.WrongSpan = codes "span"

abbrev pub refusal_name : Refusal → List ℕ
refusal_name Refusal.Table = codes "table"
refusal_name Refusal.Buffers = codes "buffers"
refusal_name Refusal.NotALeaf = codes "not-a-leaf"
refusal_name Refusal.RowRange = codes "row-range"
refusal_name (Refusal.Reached fault) = cause_name fault.cause
refusal_name Refusal.TooManyEntries = codes "too-many-entries"
