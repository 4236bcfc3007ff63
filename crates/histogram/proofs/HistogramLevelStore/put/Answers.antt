use Rattle.std.proofs.Common.{ℕ, ◌-◌, get_or, set, length-set, ap, arith, rules}
use Rattle.std.proofs.lemmas.Int.{to_z-of_z}
use Rattle.std.proofs.lemmas.List.Sums.{sum_by-set}
use Rattle.histogram.specs.Tallies.{occurrences}
use Rattle.histogram.proofs.Counts.{one, counted_on, counted_off, at_place}
use Rattle.histogram.proofs.HistogramLevelStore.put.Goals as goal

pub overflow_sub-self : goal.overflow_sub-self
overflow_sub-self g c =
    let x = c.in_ok-old.old in
    let xs = (g.S.LevelStore.meaning c.args.self.now.below).levels in
    let read = c.in_ok-old.ensures in
    grind (arith, to_z-of_z, c.args.self.now.counted c.slot.result c.slot.ensures.within, at_place c.slot.result xs c.args.place x read.0 (read.1 x), c.slot.ensures.slot)

pub invariant_of-self-2 : goal.invariant_of-self-2
invariant_of-self-2 g c =
    let x = c.in_ok-old.old in
    let y = c.args.level in
    let i = c.args.place in
    let s = c.args.self.now in
    let xs = (g.S.LevelStore.meaning s.below).levels in
    let fewer = set s.counts c.slot.result (get_or s.counts c.slot.result 0 - 1) in
    let read = c.in_ok-old.ensures in
    let off = counted_off s.counts x c.slot.result (search rules) c.slot.ensures.slot (omega arith) in
    let on = counted_on fewer y c.slot-2.result c.ranges.level c.slot-2.ensures.slot (omega (arith, length-set {A = ℕ})) in
    let put = simp (to_z-of_z, c.ranges.level) at c.in_ok-put.ensures.levels.levels in
    record {
      counted = λ k h. omega (arith, off k, on k, s.counted k h, ap (occurrences k) put, sum_by-set (one k) xs i y x read.0, at_place k xs i x read.0 (read.1 x), ap (one k) (read.1 x));
    }
