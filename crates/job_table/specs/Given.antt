-- What a table holds, and what a statement gives to it. Assumes nothing.
use Rattle.std.specs.Prelude.{◌≡◌, ℕ, ℤ, List, [], ◌∷◌, ◌++◌, Option, Some, None, option_map, slice_index_or, String, string_bytes}
use Rattle.std.specs.declared.alloc.Global.{Global}
use Rattle.job_table.specs.declared.Table.{Table}
use Rattle.statement.specs.declared.Action.{Action}
use Rattle.statement.specs.declared.Statement.{Statement}
use Rattle.statement.specs.declared.Statement.TheVariants as said
use Rattle.table.specs.declared.node.Node.{Node}

-- the nodes, the names or lacks of a name in their order, and the buffers
pub record Contents : Type 0 where
  pub nodes : List Node
  pub names : List (Option (String Global))
  pub validity : List ℕ
  pub offsets32 : List ℤ
  pub offsets64 : List ℤ

abbrev pub contents : Table → Contents
contents t = record { nodes = t.nodes.items; names = t.names.items; validity = t.validity.items; offsets32 = t.offsets32.items; offsets64 = t.offsets64.items }

abbrev pub blank : Contents
blank = record { nodes = []; names = []; validity = []; offsets32 = []; offsets64 = [] }

-- with one node more, which has this name or none
abbrev pub with_node : Node → Option (String Global) → Contents → Contents
with_node node name c = record c { nodes = c.nodes ++ (node ∷ []); names = c.names ++ (name ∷ []) }

-- the name at a number, where there is one
abbrev pub name_at : List (Option (String Global)) → ℕ → Option (List ℕ)
name_at names k = option_map string_bytes (slice_index_or names k None)

-- once a statement has been taken in
abbrev pub after : Statement → Contents → Contents
after (said.Node given) c = with_node given.node given.name c
after (said.Validity bytes) c = record c { validity = c.validity ++ bytes.items }
after (said.Offsets32 offsets) c = record c { offsets32 = c.offsets32 ++ offsets.items }
after (said.Offsets64 offsets) c = record c { offsets64 = c.offsets64 ++ offsets.items }
after said.Clear c = blank
after (said.Do _) c = c

-- what a statement does not speak of is left as it is, with its memory
abbrev pub Untouched : Statement → Table → Table → Type 0
Untouched (said.Node _) old new = (new.validity ≡ old.validity) × (new.offsets32 ≡ old.offsets32) × (new.offsets64 ≡ old.offsets64)
Untouched (said.Validity _) old new = (new.nodes ≡ old.nodes) × (new.names ≡ old.names) × (new.offsets32 ≡ old.offsets32) × (new.offsets64 ≡ old.offsets64)
Untouched (said.Offsets32 _) old new = (new.nodes ≡ old.nodes) × (new.names ≡ old.names) × (new.validity ≡ old.validity) × (new.offsets64 ≡ old.offsets64)
Untouched (said.Offsets64 _) old new = (new.nodes ≡ old.nodes) × (new.names ≡ old.names) × (new.validity ≡ old.validity) × (new.offsets32 ≡ old.offsets32)
Untouched said.Clear old new = Unit {0}
Untouched (said.Do _) old new = new ≡ old

-- what the statement asks to be done
abbrev pub action_of : Statement → Option Action
action_of (said.Do action) = Some action
action_of _ = None
