use Rattle.std.proofs.Common.{◌-◌, ◌<◌, ◌↔◌, IsSome}
use Rattle.std.specs.List.{FoldsTo, range_with_len}
use Rattle.timing.proofs.least_time.Given as goal

-- there is a least time once there has been a run; with the runs that are to come, all have run
abbrev pub invariant-loop-before : goal.invariant-loop-before
invariant-loop-before g l =
    goal.F-IsAlwaysCallable g l.run × (IsSome l.least ↔ (0 < l.before))
    × ((last : _) → FoldsTo (λ p k q. goal.F-step g p k tt q) l.run (range_with_len l.before (l.repeats - l.before)) last → FoldsTo (λ p k q. goal.F-step g p k tt q) l.fn.run (range_with_len 0 l.fn.repeats) last)
