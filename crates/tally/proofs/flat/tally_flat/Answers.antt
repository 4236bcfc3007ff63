use Rattle.std.proofs.Common.{◌<◌, ◌≤◌, true, drop, sym, refl, arith}
use lib.Count.{ones}
use Rattle.reading.specs.Along.{inside, along}
use Rattle.tally.specs.Reaching.{Holding}
use Rattle.reading.proofs.Packing.{packed_all}
use Rattle.tally.proofs.Holds.{held-few, flat_on}
use Rattle.tally.proofs.flat.tally_flat.Goals as goal

holding : (c : goal.In_ok-held) → Holding (inside c.args.slots.branch.now) (drop c.args.slots.node (along c.args.slots.branch.now)) c.loop-i.i c.min-count.result (λ _. true) c.in_ok-held.held
holding c = c.in_ok-held.ensures (λ _. true) (sym (packed_all (λ _. true) c.min-count.result c.loop-i.i (λ j. refl)))

few : (c : goal.In_ok-held) → ones c.in_ok-held.held ≤ c.min-count.result
few c = held-few (inside c.args.slots.branch.now) (along c.args.slots.branch.now) c.args.slots.node c.loop-i.i c.min-count.result c.in_ok-held.held (holding c)

pub overflow_cast-values : goal.overflow_cast-values
overflow_cast-values c = omega (arith, few c, c.min-count.ensures)

pub overflow_add-values : goal.overflow_add-values
overflow_add-values c = omega (arith, few c, c.min-count.ensures, c.loop-i.invariant.3, c.args.slots.within, c.args.slots.branch.now.sound.small c.args.slots.node c.args.slots.on)

pub loop-i-preserved : goal.loop-i-preserved
loop-i-preserved c =
    let m : c.loop-i.i < c.args.slots.to = c.loop-i-test.true in
    let f = few c in (
      omega (arith, c.loop-i.invariant.0),
      omega (arith, c.min-count.ensures),
      flat_on (inside c.args.slots.branch.now) (along c.args.slots.branch.now) c.args.slots.node c.loop-i.i c.min-count.result c.in_ok-held.held (holding c) c.args.slots.from c.loop-i.values c.loop-i.invariant.0 c.loop-i.invariant.2,
      omega (arith, f, c.loop-i.invariant.3, c.loop-i.invariant.0),
    )
