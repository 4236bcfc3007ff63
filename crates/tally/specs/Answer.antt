-- What a tally says of a range, where it answers.
use Rattle.std.specs.Prelude.{◌≡◌, ℕ, ◌+◌, ◌-◌, ◌≤◌, List, length, drop, Some, None, Option}
use Rattle.table.specs.declared.leaf_path.PathNode.{PathNode}
use Rattle.reading.specs.Slots.{Buffers}
use Rattle.reading.specs.Trace.{Trace, trace}
use Rattle.reading.specs.Along.{inside, along}
use Rattle.tally.specs.declared.range.SlotRange.{SlotRange}
use Rattle.tally.specs.declared.measured.Measured.{Measured}
use Rattle.tally.specs.Sizes.{sizes}

-- what some slots read as, with the levels of rows; for the root's slots, the rows' own trace
abbrev pub slots_trace : SlotRange → Trace
slots_trace s = trace (inside s.branch.now) (drop s.node (along s.branch.now)) s.from (s.to - s.from)

-- no fault, and as many entries and values as the trace has
abbrev pub Tallied : Trace → Option Measured → Type 0
Tallied t None = Unit {0}
Tallied t (Some x) = (t.stop ≡ None) × (x.entries ≡ length t.entries) × (x.values ≡ length t.positions) × (x.entries ≤ 2147483647)

-- the same of some slots of node k, by their size
abbrev pub SizedAs : Buffers → List PathNode → ℕ → ℕ → ℕ → Option Measured → Type 0
SizedAs b ns k from count None = Unit {0}
SizedAs b ns k from count (Some x) = (sizes b ns k from count ≡ Some (x.entries, x.values)) × (x.entries ≤ 2147483647) × (x.values ≤ x.entries)

abbrev pub SizedIn : SlotRange → Option Measured → Type 0
SizedIn s r = SizedAs (inside s.branch.now) (along s.branch.now) s.node s.from (s.to - s.from) r

-- one count, some entries and another count together
pub record SumOf (had : Measured) (bare : ℕ) (below x : Measured) : Type 0 where
  pub entries : x.entries ≡ had.entries + bare + below.entries
  pub values : x.values ≡ had.values + below.values
  pub few : x.entries ≤ 2147483647

abbrev pub Added : Measured → ℕ → Measured → Option Measured → Type 0
Added had bare below None = Unit {0}
Added had bare below (Some x) = SumOf had bare below x
