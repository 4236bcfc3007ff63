use Rattle.std.proofs.Common.{ℕ, ◌+◌, ◌-◌, ◌^◌, ◌<◌, ◌≤◌, length, drop, Option}
use Rattle.reading.specs.Along.{inside, along}
use Rattle.reading.specs.Reading.{node_on}
use Rattle.tally.specs.Reaching.{HeldBelow}
use Rattle.tally.proofs.flat.values_below.Given as goal

-- what is found below the node that is looked at is what is asked for
abbrev pub invariant-loop-at : goal.invariant-loop-at
invariant-loop-at l =
    (l.at < length (along l.b))
    × (l.i + l.count ≤ (node_on (along l.b) l.at).slots)
    × ((r : Option ℕ) → HeldBelow (inside l.b) (drop l.at (along l.b)) l.i l.count l.live r → HeldBelow (inside l.b) (drop l.k (along l.b)) l.i l.count (2 ^ l.count - 1) r)
