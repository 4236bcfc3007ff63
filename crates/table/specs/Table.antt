-- The rules of a node table: how many nodes, their order, kinds, fixed sizes, children and paths.
use Rattle.std.specs.Prelude.{ℕ, zero, suc, ◌<◌, Bool, true, false, cond, ◌&&◌, ◌||◌, List, [], ◌∷◌, ◌++◌, length, Some, None, Ok, Err, Option, Result, ◌==◌, nat_eq, nat_le, slice_index_or}
use Rattle.table.specs.declared.node.Node.{Node}
use Rattle.table.specs.declared.node.Kind.{Kind}
use Rattle.table.specs.declared.refusal.Refusal.{Refusal}
use Rattle.table.specs.Kinds.{kind_of}

-- whether each number below n passes a test, and how many do
abbrev pub each_below : ℕ → (ℕ → Bool) → Bool
each_below zero test = true
each_below (suc n) test = each_below n test && test n

abbrev pub how_many : ℕ → (ℕ → Bool) → ℕ
how_many zero test = 0
how_many (suc n) test = cond (test n) (suc (how_many n test)) (how_many n test)

-- what stands past the end of a table
abbrev pub no_node : Node
no_node = record { parent = 0; kind = 0; nullable = false; slots = 0; size = 0; validity = None; offsets = 0; sizes = 0 }

abbrev pub node_at : List Node → ℕ → Node
node_at ns i = slice_index_or ns i no_node

abbrev pub parent_of : List Node → ℕ → ℕ
parent_of ns i = (node_at ns i).parent

-- the node numbers from the root down to node i, gone up at most k nodes
abbrev pub way : List Node → ℕ → ℕ → List ℕ
way ns zero i = []
way ns (suc k) i = cond (i == 0) [] (way ns k (parent_of ns i)) ++ i ∷ []

-- the same, gone up as many nodes as there are: node i and all its ancestors, the root first
abbrev pub line : List Node → ℕ → List ℕ
line ns i = way ns (length ns) i

abbrev pub among : ℕ → List ℕ → Bool
among a [] = false
among a (x ∷ xs) = x == a || among a xs

-- there are 1 to 64 nodes
abbrev pub few : List Node → Bool
few ns = nat_le 1 (length ns) && nat_le (length ns) 64

-- node 0 is the root, with parent 255; every other node's parent is the node before it or one of that node's ancestors
abbrev pub placed : List Node → ℕ → Bool
placed ns zero = parent_of ns 0 == 255
placed ns (suc i) = among (parent_of ns (suc i)) (line ns i)

-- a fixed size is at most 65,535; no other kind's size is read
abbrev pub size_fits : Kind → ℕ → Bool
size_fits Kind.Leaf size = true
size_fits Kind.Struct size = true
size_fits Kind.List size = true
size_fits Kind.LargeList size = true
size_fits Kind.FixedSizeList size = nat_le size 65535
size_fits Kind.ListView size = true
size_fits Kind.LargeListView size = true

-- the children of a node are the nodes that have it as their parent
abbrev pub children : List Node → ℕ → ℕ
children ns i = how_many (length ns) (λ j. nat_eq (parent_of ns j) i)

-- a list has exactly one child, a leaf none, a struct any number
abbrev pub children_fit : Kind → ℕ → Bool
children_fit Kind.Leaf count = count == 0
children_fit Kind.Struct count = true
children_fit Kind.List count = count == 1
children_fit Kind.LargeList count = count == 1
children_fit Kind.FixedSizeList count = count == 1
children_fit Kind.ListView count = count == 1
children_fit Kind.LargeListView count = count == 1

-- the path from the root to a leaf has at most 8 nodes
abbrev pub path_fits : Kind → ℕ → Bool
path_fits Kind.Leaf count = nat_le count 8
path_fits Kind.Struct count = true
path_fits Kind.List count = true
path_fits Kind.LargeList count = true
path_fits Kind.FixedSizeList count = true
path_fits Kind.ListView count = true
path_fits Kind.LargeListView count = true

-- the rules of a node by its kind, which is one of the kinds 0 to 6
abbrev pub kind_fits : Option Kind → ℕ → ℕ → ℕ → Bool
kind_fits None size count path = false
kind_fits (Some k) size count path = size_fits k size && (children_fit k count && path_fits k path)

abbrev pub node_fits : List Node → ℕ → Bool
node_fits ns i = placed ns i && kind_fits (kind_of (node_at ns i).kind) (node_at ns i).size (children ns i) (length (line ns i))

-- all rules of a table
abbrev pub table_holds : List Node → Bool
table_holds ns = few ns && each_below (length ns) (node_fits ns)

abbrev pub is_leaf : List Node → ℕ → Bool
is_leaf ns i = (node_at ns i).kind == 0

abbrev pub leaves : List Node → ℕ
leaves ns = how_many (length ns) (is_leaf ns)

-- how many leaves a table has, or that it breaks a rule
abbrev pub shape_answer : List Node → Result ℕ Refusal
shape_answer ns = cond (table_holds ns) (Ok (leaves ns)) (Err Refusal.Table)

-- each node below n but the root stands behind its parent
abbrev pub Rising : List Node → ℕ → Type 0
Rising ns n = (j : ℕ) → 0 < j → j < n → parent_of ns j < j
