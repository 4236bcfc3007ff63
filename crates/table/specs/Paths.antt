-- The path to a leaf of a table: the nodes on it, the steps that they are, and what `locate` answers.
use Rattle.std.specs.Prelude.{◌≡◌, ℕ, ◌-◌, ◌<◌, ◌≤◌, Bool, true, false, cond, ◌&&◌, List, [], ◌∷◌, ◌++◌, map, length, replicate, Some, None, Ok, Err, Option, Result, nat_lt}
use Rattle.rows.specs.Rows.{Path, leaf, struct, list, most, deep}
use Rattle.table.specs.declared.node.Node.{Node}
use Rattle.table.specs.declared.node.Kind.{Kind}
use Rattle.table.specs.declared.node.Source.{Source}
use Rattle.table.specs.declared.refusal.Refusal.{Refusal}
use Rattle.table.specs.declared.leaf_path.PathNode.{PathNode}
use Rattle.table.specs.declared.leaf_path.LeafPath.{LeafPath}
use Rattle.table.specs.Kinds.{kind_of}
use Rattle.table.specs.Table.{node_at, line, table_holds, is_leaf}
use Rattle.table.specs.Buffers.{buffers_hold}

-- what a kind is to a path: its end, one slot for one slot, or a list of any size or of a fixed one
pub data Step : Type 0 where
  ends : Step
  passes : Step
  repeats : Option ℕ → Step

abbrev pub step_of : PathNode → Kind → Step
step_of n Kind.Leaf = ends
step_of n Kind.Struct = passes
step_of n Kind.List = repeats None
step_of n Kind.LargeList = repeats None
step_of n Kind.FixedSizeList = repeats (Some n.size)
step_of n Kind.ListView = repeats None
step_of n Kind.LargeListView = repeats None

abbrev pub above : Step → Bool → Path → Path
above ends nullable below = leaf nullable
above passes nullable below = struct nullable below
above (repeats size) nullable below = list nullable size below

-- the path that some nodes make, up to the first leaf
abbrev pub path : List PathNode → Path
path [] = leaf false
path (n ∷ ns) = above (step_of n n.kind) n.nullable (path ns)

-- a table that meets its rules has no unknown kind
abbrev pub known : Option Kind → Kind
known None = Kind.Leaf
known (Some k) = k

-- node i of a table, on a path
abbrev pub path_node : List Node → ℕ → PathNode
path_node ns i =
    record {
      number = i;
      kind = known (kind_of (node_at ns i).kind);
      nullable = (node_at ns i).nullable;
      slots = (node_at ns i).slots;
      size = (node_at ns i).size;
      validity = (node_at ns i).validity;
      offsets = (node_at ns i).offsets;
      sizes = (node_at ns i).sizes;
    }

-- what stands in the places that a path does not fill
abbrev pub no_path_node : PathNode
no_path_node = record { number = 0; kind = Kind.Leaf; nullable = false; slots = 0; size = 0; validity = None; offsets = 0; sizes = 0 }

-- the nodes from the root to node i
abbrev pub nodes_to : List Node → ℕ → List PathNode
nodes_to ns i = map (path_node ns) (line ns i)

abbrev pub path_of : List Node → ℕ → Path
path_of ns i = path (nodes_to ns i)

-- in a table that meets the rules the greatest levels of a leaf are at most 15 and 7
abbrev pub LevelsAreSmall : Type 0
LevelsAreSmall =
    (ns : List Node) → table_holds ns ≡ true → (i : ℕ) → i < length ns → is_leaf ns i ≡ true →
    (most (path_of ns i) 0 ≤ 15) × (deep (path_of ns i) 0 ≤ 7)

-- these nodes in eight places, their count, and the leaf's greatest levels
abbrev pub leaf_path : List Node → ℕ → LeafPath
leaf_path ns i =
    record {
      nodes = nodes_to ns i ++ replicate (8 - length (nodes_to ns i)) no_path_node;
      count = length (nodes_to ns i);
      definition = most (path_of ns i) 0;
      repetition = deep (path_of ns i) 0;
    }

-- the path to a leaf, or that the number is not that of a leaf
abbrev pub leaf_answer : List Node → ℕ → Result LeafPath Refusal
leaf_answer ns i = cond (nat_lt i (length ns) && is_leaf ns i) (Ok (leaf_path ns i)) (Err Refusal.NotALeaf)

-- the same of any table: one that breaks a rule is refused first
abbrev pub path_answer : List Node → ℕ → Result LeafPath Refusal
path_answer ns i = cond (table_holds ns) (leaf_answer ns i) (Err Refusal.Table)

-- the same of any source: a table, a slot count or a buffer that breaks a rule is refused first
abbrev pub locate_answer : Source → ℕ → Result LeafPath Refusal
locate_answer s i = cond (table_holds s.nodes.now) (cond (buffers_hold s) (leaf_answer s.nodes.now i) (Err Refusal.Buffers)) (Err Refusal.Table)
