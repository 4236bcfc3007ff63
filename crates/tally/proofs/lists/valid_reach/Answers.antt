use Rattle.std.proofs.Common.{◌≡◌, ◌+◌, ◌-◌, ◌*◌, ◌^◌, ◌<◌, ◌≤◌, Option, subst, mul-le-mul_right, arith}
use Rattle.reading.specs.Slots.{SpansIn}
use Rattle.reading.specs.Along.{inside, along}
use Rattle.reading.specs.Reading.{node_on}
use Rattle.tally.specs.declared.range.SlotRange.{SlotRange}
use Rattle.tally.specs.declared.reach.Reach.{Reach}
use Rattle.tally.specs.Reaching.{Reaches, Reached, ReachedIn}
use Rattle.tally.proofs.Ranges.{structs, narrow_lists, wide_lists, sized}
use Rattle.tally.proofs.lists.valid_reach.Goals as goal

-- as many slots as a range has end where it ends
reached : (s : SlotRange) (r : Option Reach) → Reached (inside s.branch.now) (along s.branch.now) s.node s.from (s.from + (s.to - s.from)) r → ReachedIn s r
reached s r h =
    let e : s.from + (s.to - s.from) ≡ s.to = omega (arith, s.order) in
    subst (λ end. Reached (inside s.branch.now) (along s.branch.now) s.node s.from end r) e h

pub same_sized-requires : goal.same_sized-requires
same_sized-requires c =
    let s = c.args.slots in
    let n = node_on (along s.branch.now) s.node in
    let all : n.slots * n.size < 2 ^ 64 = subst (SpansIn (inside s.branch.now) n) c.in-FixedSizeList.is (s.branch.now.sound.inside s.node s.on).1 in
    let m : s.to * n.size ≤ n.slots * n.size = mul-le-mul_right n.size s.within in
    record { order = s.order; fits = omega arith }

pub returns-in-Struct : goal.returns-in-Struct
returns-in-Struct c =
    let s = c.args.slots in
    let e : s.from + (s.to - s.from) ≡ s.to = omega (arith, s.order) in
    subst (λ end. Reaches (inside s.branch.now) (along s.branch.now) s.node s.from end (record { slots = s.to - s.from; from = s.from; to = end; bare = 0 })) e
    (structs (inside s.branch.now) (along s.branch.now) s.branch.now.sound s.node s.from s.on (s.to - s.from) (omega (arith, c.requires.some)) (omega (arith, s.order, s.within)) c.requires.valid c.in-Struct.is)

pub returns-in-List : goal.returns-in-List
returns-in-List c =
    let s = c.args.slots in
    reached s c.rising.result (narrow_lists (inside s.branch.now) (along s.branch.now) s.branch.now.sound s.node s.from s.on (s.to - s.from) (omega (arith, c.requires.some)) (omega (arith, s.order, s.within)) c.requires.valid c.in-List.is _ (omega (arith, s.order)) c.rising.result c.rising.ensures)

pub returns-in-LargeList : goal.returns-in-LargeList
returns-in-LargeList c =
    let s = c.args.slots in
    reached s c.rising-in-LargeList.result (wide_lists (inside s.branch.now) (along s.branch.now) s.branch.now.sound s.node s.from s.on (s.to - s.from) (omega (arith, c.requires.some)) (omega (arith, s.order, s.within)) c.requires.valid c.in-LargeList.is _ (omega (arith, s.order)) c.rising-in-LargeList.result c.rising-in-LargeList.ensures)

pub returns-in-FixedSizeList : goal.returns-in-FixedSizeList
returns-in-FixedSizeList c =
    let s = c.args.slots in
    reached s c.same_sized.result (sized (inside s.branch.now) (along s.branch.now) s.branch.now.sound s.node s.from s.on (s.to - s.from) (omega (arith, c.requires.some)) (omega (arith, s.order, s.within)) c.requires.valid c.in-FixedSizeList.is c.same_sized.result c.same_sized.ensures)
