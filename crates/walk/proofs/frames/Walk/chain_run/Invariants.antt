use Rattle.std.proofs.Common.{◌≡◌, ℕ, ◌*◌, ◌<◌, ◌≤◌}
use Rattle.reading.specs.Along.{inside, along}
use Rattle.reading.specs.Reading.{node_on}
use Rattle.walk.specs.Frames.{visit_trace, visit_of}
use Rattle.walk.specs.Walk.{lists}
use Rattle.walk.proofs.frames.Walk.chain_run.Given as goal

abbrev pub invariant-loop-node : goal.invariant-loop-node
invariant-loop-node l =
    (l.x.next < l.end)
    × (l.end ≤ l.x.end)
    × (l.end ≤ (node_on (along l.self.rows.branch.now) l.node).slots)
    × (l.def ≤ 2 * l.node)
    × ((row j : ℕ) → l.x.next ≤ j → j < l.end → visit_trace (inside l.self.rows.branch.now) (along l.self.rows.branch.now) row (lists l.self) (visit_of (lists l.self) l.x j) ≡ visit_trace (inside l.self.rows.branch.now) (along l.self.rows.branch.now) row (lists l.self) (record { node = l.node; slot = j; rep = lists l.self; def = l.def }))
