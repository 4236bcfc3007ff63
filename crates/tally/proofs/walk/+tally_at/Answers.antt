use Rattle.std.proofs.Common.{◌≡◌, ℕ, ◌+◌, ◌-◌, ◌≤◌, List, drop, Some, sym, ap, ◌∙◌, subst, ap₂, arith}
use Rattle.table.specs.declared.leaf_path.PathNode.{PathNode}
use Rattle.reading.specs.Slots.{Buffers}
use Rattle.reading.specs.Along.{inside, along}
use Rattle.tally.specs.declared.measured.Measured.{Measured}
use Rattle.tally.specs.declared.reach.Reach.{Reach}
use Rattle.tally.specs.Sizes.{◌plus◌, size_at, sizes}
use Rattle.tally.specs.Answer.{SizedAs, SumOf}
use Rattle.tally.specs.Reaching.{Reaches}
use Rattle.tally.proofs.Adding.{size_on}
use Rattle.tally.proofs.walk.+tally_at.Goals as goal
use Rattle.tally.proofs.walk.+tally_at.Goals.{then-x, else-x+then-flat_below+in_ok-below, else-x+else-flat_below+in_ok-below-2}

-- what lies below the slots of one reach
abbrev Below : Buffers → List PathNode → ℕ → Reach → Measured → Type 0
Below b ns k x below = SizedAs b ns (k + 1) x.from (x.to - x.from) (Some below)

none : (b : Buffers) (ns : List PathNode) (k : ℕ) (x : Reach) (below : Measured) → x.from ≡ x.to → (empty : Measured) → (empty.entries ≡ 0) × (empty.values ≡ 0) → below ≡ empty → Below b ns k x below
none b ns k x below e empty zeros is =
    let z : x.to - x.from ≡ 0 = omega arith in
    subst (Below b ns k x) (sym is) (ap (sizes b ns (k + 1) x.from) z ∙ ap₂ (λ m n. Some (m, n)) (sym zeros.0) (sym zeros.1), omega arith, omega arith)

-- the slots of one reach behind those that are counted
on : (b : Buffers) (ns : List PathNode) (k from i end : ℕ) (had : Measured) → from ≤ i → sizes b ns k from (i - from) ≡ Some (had.entries, had.values) → (x : Reach) → Reaches b ns k i end x → (below all : Measured) → Below b ns k x below → SumOf had x.bare below all → sizes b ns k from (i + x.slots - from) ≡ Some (all.entries, all.values)
on b ns k from i end had low e x r below all h s =
    let p : had.entries + (x.bare + below.entries) ≡ all.entries = omega (arith, s.entries) in
    let q : had.values + (0 + below.values) ≡ all.values = omega (arith, s.values) in
    size_on (size_at b (drop k ns)) from i x.slots low
    ∙ ap₂ (λ y z. y plus z) e (r.size ∙ ap (λ y. Some (x.bare, 0) plus y) h.0)
    ∙ ap₂ (λ y z. Some (y, z)) p q

pub with_more-requires : goal.with_more-requires
with_more-requires t c =
    let b = inside c.args.slots.branch.now in
    let ns = along c.args.slots.branch.now in
    let x : Reach = c.in_ok-x.x in
    let h : Below b ns c.args.slots.node x c.if-x.below = elim c.if-x.branch [
      | then-x w ↦ none b ns c.args.slots.node x c.if-x.below w.if-x.true w.default-below.result w.default-below.ensures w.below-is
      | else-x+then-flat_below+in_ok-below w ↦ subst (Below b ns c.args.slots.node x) (sym w.below-is) w.in_ok-below.ensures
      | else-x+else-flat_below+in_ok-below-2 w ↦ subst (Below b ns c.args.slots.node x) (sym w.below-is) w.in_ok-below-2.ensures
    ] in
    record { few = c.loop-from.invariant.3; had = c.loop-from.invariant.4; below = h.2 }

pub loop-from-preserved : goal.loop-from-preserved
loop-from-preserved t c =
    let b = inside c.args.slots.branch.now in
    let ns = along c.args.slots.branch.now in
    let inv = c.loop-from.invariant in
    let x : Reach = c.in_ok-x.x in
    let r : Reaches b ns c.args.slots.node c.loop-from.from c.args.slots.to x = c.in_ok-x.ensures in
    let h : Below b ns c.args.slots.node x c.if-x.below = elim c.if-x.branch [
      | then-x w ↦ none b ns c.args.slots.node x c.if-x.below w.if-x.true w.default-below.result w.default-below.ensures w.below-is
      | else-x+then-flat_below+in_ok-below w ↦ subst (Below b ns c.args.slots.node x) (sym w.below-is) w.in_ok-below.ensures
      | else-x+else-flat_below+in_ok-below-2 w ↦ subst (Below b ns c.args.slots.node x) (sym w.below-is) w.in_ok-below-2.ensures
    ] in
    let s : SumOf c.loop-from.all x.bare c.if-x.below c.in_ok-all.all = c.in_ok-all.ensures in (
      omega (arith, inv.0),
      r.inside,
      on b ns c.args.slots.node c.args.slots.from c.loop-from.from c.args.slots.to c.loop-from.all inv.0 inv.2 x r c.if-x.below c.in_ok-all.all h s,
      s.few,
      omega (arith, s.entries, s.values, inv.4, h.2),
    )
