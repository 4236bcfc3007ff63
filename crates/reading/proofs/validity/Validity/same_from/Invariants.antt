use Rattle.std.proofs.Common.{◌≡◌, ℕ, ◌-◌, ◌<◌, ◌≤◌}
use Rattle.reading.specs.Bits.{valid_in}
use Rattle.reading.proofs.validity.Validity.same_from.Given as goal

abbrev pub invariant-loop-i : goal.invariant-loop-i
invariant-loop-i l = (l.from < l.i) × ((k : ℕ) → l.from ≤ k → k < l.i → k < l.end → valid_in l.self.bytes.now l.self.start k ≡ valid_in l.self.bytes.now l.self.start l.from)

abbrev pub decreases-loop-i : goal.decreases-loop-i
decreases-loop-i l = l.end - l.i
