use Rattle.std.proofs.Common.{◌≡◌, ◌-◌, ◌*◌, ◌/◌, ◌≤◌}
use Rattle.reading.specs.Bits.{bit}
use Rattle.reading.specs.Packed.{packed}
use Rattle.reading.proofs.bits.last_bits.Given as goal

abbrev pub invariant-loop-at : goal.invariant-loop-at
invariant-loop-at l = (l.b / 8 ≤ l.at) × (l.word ≡ packed (bit l.bytes) (8 * (l.end - l.at)) (8 * l.at))
