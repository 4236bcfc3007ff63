-- Paths whose readings stay in the buffers, as those of a source that meets its rules do.
use Rattle.std.specs.Prelude.{◌≡◌, ℕ, ◌+◌, ◌<◌, ◌≤◌, true, List, length}
use Rattle.table.specs.declared.node.Kind.{Kind}
use Rattle.table.specs.declared.node.Source.{Source}
use Rattle.table.specs.declared.leaf_path.PathNode.{PathNode}
use Rattle.table.specs.Table.{table_holds, is_leaf}
use Rattle.table.specs.Buffers.{buffers_hold}
use Rattle.table.specs.Paths.{nodes_to}
use Rattle.reading.specs.Slots.{Buffers, NodeIn, held_by}
use Rattle.reading.specs.Reading.{node_on}

-- the child that a node's slots need
abbrev pub ChildOf : List PathNode → ℕ → ℕ → Kind → Type 0
ChildOf ns k slots Kind.Leaf = Unit {0}
ChildOf ns k slots Kind.Struct = (k + 1 < length ns) × (slots ≤ (node_on ns (k + 1)).slots)
ChildOf ns k slots Kind.List = k + 1 < length ns
ChildOf ns k slots Kind.LargeList = k + 1 < length ns
ChildOf ns k slots Kind.FixedSizeList = k + 1 < length ns
ChildOf ns k slots Kind.ListView = k + 1 < length ns
ChildOf ns k slots Kind.LargeListView = k + 1 < length ns

-- a path of at most eight nodes, each of which finds its bits, offsets and child
pub record Sound (b : Buffers) (ns : List PathNode) : Type 0 where
  pub some : 0 < length ns
  pub few : length ns ≤ 8
  pub small : (k : ℕ) → k < length ns → (node_on ns k).slots ≤ 2147483647
  pub inside : (k : ℕ) → k < length ns → NodeIn b (node_on ns k)
  pub child : (k : ℕ) → k < length ns → ChildOf ns k (node_on ns k).slots (node_on ns k).kind

-- the path to a leaf of a source that meets all rules is such a path
abbrev pub SourcesAreSound : Type 0
SourcesAreSound =
    (s : Source) (leaf : ℕ) → table_holds s.nodes.now ≡ true → buffers_hold s ≡ true → leaf < length s.nodes.now → is_leaf s.nodes.now leaf ≡ true →
    Sound (held_by s) (nodes_to s.nodes.now leaf)
