-- The rules of slot counts and buffers, and what `survey` answers.
use Rattle.std.specs.Prelude.{ℕ, zero, suc, ◌+◌, ◌*◌, Bool, true, cond, ◌&&◌, List, length, Some, None, Ok, Err, Option, Result, ◌==◌, nat_le}
use Rattle.table.specs.declared.node.Node.{Node}
use Rattle.table.specs.declared.node.Kind.{Kind}
use Rattle.table.specs.declared.refusal.Refusal.{Refusal}
use Rattle.table.specs.declared.node.Source.{Source}
use Rattle.table.specs.Kinds.{kind_of}
use Rattle.table.specs.Table.{each_below, node_at, table_holds, leaves}

-- a slot count is at most 2,147,483,647
abbrev pub slots_fit : Node → Bool
slots_fit n = nat_le n.slots 2147483647

-- a struct's child has the struct's slot count, a fixed-size list's child at least size times the list's
abbrev pub child_fits : Option Kind → Node → Node → Bool
child_fits None up n = true
child_fits (Some Kind.Leaf) up n = true
child_fits (Some Kind.Struct) up n = n.slots == up.slots
child_fits (Some Kind.List) up n = true
child_fits (Some Kind.LargeList) up n = true
child_fits (Some Kind.FixedSizeList) up n = nat_le (up.size * up.slots) n.slots
child_fits (Some Kind.ListView) up n = true
child_fits (Some Kind.LargeListView) up n = true

-- every node but the root is the child of its parent
abbrev pub under_parent : List Node → ℕ → Bool
under_parent ns zero = true
under_parent ns (suc i) =
    child_fits (kind_of (node_at ns (node_at ns (suc i)).parent).kind) (node_at ns (node_at ns (suc i)).parent) (node_at ns (suc i))

-- a start plus the need does not pass a buffer's length
abbrev pub reaches : ℕ → ℕ → ℕ → Bool
reaches start need room = nat_le (start + need) room

-- a slot has one bit of the validity bytes, where there is a start
abbrev pub validity_fits : Option ℕ → ℕ → List ℕ → Bool
validity_fits None slots bytes = true
validity_fits (Some start) slots bytes = reaches start slots (8 * length bytes)

-- an offset list needs one offset more than slots; a view as many offsets and as many sizes as slots; no other kind needs any
abbrev pub offsets_fit : Option Kind → Node → ℕ → ℕ → Bool
offsets_fit None n narrow wide = true
offsets_fit (Some Kind.Leaf) n narrow wide = true
offsets_fit (Some Kind.Struct) n narrow wide = true
offsets_fit (Some Kind.List) n narrow wide = reaches n.offsets (n.slots + 1) narrow
offsets_fit (Some Kind.LargeList) n narrow wide = reaches n.offsets (n.slots + 1) wide
offsets_fit (Some Kind.FixedSizeList) n narrow wide = true
offsets_fit (Some Kind.ListView) n narrow wide = reaches n.offsets n.slots narrow && reaches n.sizes n.slots narrow
offsets_fit (Some Kind.LargeListView) n narrow wide = reaches n.offsets n.slots wide && reaches n.sizes n.slots wide

-- the rules of one node
abbrev pub node_held : Source → ℕ → Bool
node_held s i =
    slots_fit (node_at s.nodes.now i)
    && (under_parent s.nodes.now i
    && (validity_fits (node_at s.nodes.now i).validity (node_at s.nodes.now i).slots s.validity.now
    && offsets_fit (kind_of (node_at s.nodes.now i).kind) (node_at s.nodes.now i) (length s.offsets32.now) (length s.offsets64.now)))

-- all rules of slot counts and buffers
abbrev pub buffers_hold : Source → Bool
buffers_hold s = each_below (length s.nodes.now) (node_held s)

-- how many leaves a source has; or that its table, or else a slot count or buffer, breaks a rule
abbrev pub survey_answer : Source → Result ℕ Refusal
survey_answer s =
    cond (table_holds s.nodes.now) (cond (buffers_hold s) (Ok (leaves s.nodes.now)) (Err Refusal.Buffers)) (Err Refusal.Table)
