use Rattle.std.proofs.Common.{◌≡◌, ◌+◌, ◌<◌, ◌≤◌, Bool, true, false, not, ◌⊎◌, length, Some, sym, refl, subst, inl, inr, arith}
use lib.Bits.{bit_and}
use Rattle.reading.specs.Along.{inside, along}
use Rattle.reading.specs.Reading.{node_on}
use Rattle.reading.specs.Sound.{ChildOf}
use Rattle.tally.proofs.Holds.{leaf_holding, struct_held}
use Rattle.tally.proofs.flat.values_below.Goals as goal

either : (t : Bool) (P : Type 0) → ((not t ≡ true) × P) ⊎ (not t ≡ false) → (t ≡ true) ⊎ P
either true P h = inl refl
either false P (inl h) = inr h.1
either false P (inr e) = inl (sym e)

pub returns-in-Leaf : goal.returns-in-Leaf
returns-in-Leaf c =
    let ns = along c.args.b.now in
    let at = c.loop-at.at in
    c.loop-at.invariant.2 (Some (bit_and c.loop-at.live c.valid_bits.result)) (λ test is.
    leaf_holding (inside c.args.b.now) ns at c.args.i c.args.count c.loop-at.live c.valid_bits.result c.loop-at.invariant.0 test is c.valid_bits.ensures
    (either (node_on ns at).nullable (bit_and c.loop-at.live c.valid_bits.result ≡ c.loop-at.live) c.else-not-n.either) c.in-Leaf.is)

pub loop-at-preserved : goal.loop-at-preserved
loop-at-preserved c =
    let ns = along c.args.b.now in
    let at = c.loop-at.at in
    let child : (at + 1 < length ns) × ((node_on ns at).slots ≤ (node_on ns (at + 1)).slots) = subst (ChildOf ns at (node_on ns at).slots) c.in-Struct.is (c.args.b.now.sound.child at c.loop-at.invariant.0) in (
      child.0,
      omega (arith, child.1, c.loop-at.invariant.1),
      λ r h. c.loop-at.invariant.2 r (struct_held (inside c.args.b.now) ns at c.args.i c.args.count c.loop-at.live c.valid_bits.result c.loop-at.invariant.0 c.valid_bits.ensures
          (either (node_on ns at).nullable (bit_and c.loop-at.live c.valid_bits.result ≡ c.loop-at.live) c.else-not-n.either) c.in-Struct.is r h),
    )
