-- What bits, nodes and paths ask of the buffers holds in one way only, as a type's own facts do.
use Rattle.std.specs.Prelude.{ℕ, List, Some, None, Option}
use Rattle.std.specs.Coded.{×_prop}
use Rattle.std.proofs.Props.{props}
use Rattle.table.specs.declared.node.Kind.{Kind}
use Rattle.table.specs.declared.leaf_path.PathNode.{PathNode}
use Rattle.reading.specs.Bits.{BitsIn}
use Rattle.reading.specs.Slots.{Buffers, SpansIn, NodeIn}
use Rattle.reading.specs.Sound.{ChildOf, Sound}

pub BitsIn-prop : (bytes : List ℕ) (slots : ℕ) (start : Option ℕ) → IsProp (BitsIn bytes slots start)
BitsIn-prop bytes slots None = hlevel props
BitsIn-prop bytes slots (Some start) = hlevel props

pub SpansIn-prop : (b : Buffers) (n : PathNode) (k : Kind) → IsProp (SpansIn b n k)
SpansIn-prop b n Kind.Leaf = hlevel props
SpansIn-prop b n Kind.Struct = hlevel props
SpansIn-prop b n Kind.List = hlevel props
SpansIn-prop b n Kind.LargeList = hlevel props
SpansIn-prop b n Kind.FixedSizeList = hlevel props
SpansIn-prop b n Kind.ListView = hlevel props
SpansIn-prop b n Kind.LargeListView = hlevel props

pub NodeIn-prop : (b : Buffers) (n : PathNode) → IsProp (NodeIn b n)
NodeIn-prop b n = ×_prop (BitsIn-prop b.bytes n.slots n.validity) (SpansIn-prop b n n.kind)

pub ChildOf-prop : (ns : List PathNode) (k slots : ℕ) (q : Kind) → IsProp (ChildOf ns k slots q)
ChildOf-prop ns k slots Kind.Leaf = hlevel props
ChildOf-prop ns k slots Kind.Struct = hlevel props
ChildOf-prop ns k slots Kind.List = hlevel props
ChildOf-prop ns k slots Kind.LargeList = hlevel props
ChildOf-prop ns k slots Kind.FixedSizeList = hlevel props
ChildOf-prop ns k slots Kind.ListView = hlevel props
ChildOf-prop ns k slots Kind.LargeListView = hlevel props

pub Sound-prop : (b : Buffers) (ns : List PathNode) → IsProp (Sound b ns)
Sound-prop b ns = hlevel (props, NodeIn-prop, ChildOf-prop)
