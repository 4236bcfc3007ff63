use Rattle.std.proofs.Common.{◌≡◌, ◌+◌, ◌<◌, ◌≤◌, length, Some, subst, arith}
use Rattle.reading.specs.Along.{inside, along}
use Rattle.tally.proofs.Following.{Follows, some_begun, alike, reached_over, null_follows, empty_follows, first_follows, next_follows}
use Rattle.tally.proofs.lists.following_reach.Goals as goal
use Rattle.tally.proofs.lists.following_reach.Goals.{in-Null-2, in-Empty, in-Spanned+in-None, in-Spanned+in-Some}

pub loop-i-preserved : goal.loop-i-preserved
loop-i-preserved c =
    let b = inside c.args.slots.branch.now in
    let ns = along c.args.slots.branch.now in
    let k = c.args.slots.node in
    let from = c.args.slots.from in
    let i = c.loop-i.i in
    let lt : k < length ns = c.args.slots.on in
    let low : from ≤ i = c.loop-i.auto.i in
    let had : Follows b ns k from i c.loop-i.span c.loop-i.bare = c.loop-i.invariant in
    elim c.match-slot.branch [
      | in-Null-2 w ↦ alike b ns k from (i + 1) c.loop-i.span c.match-slot.span (c.loop-i.bare + 1) c.match-slot.bare w.span-is w.bare-is (null_follows b ns k from i lt c.requires.child c.requires.list low c.loop-i.bare c.loop-i.span had w.if-not-nullable.false w.in-Null-2.ensures)
      | in-Empty w ↦ alike b ns k from (i + 1) c.loop-i.span c.match-slot.span (c.loop-i.bare + 1) c.match-slot.bare w.span-is w.bare-is (empty_follows b ns k from i lt c.requires.child c.requires.list low c.loop-i.bare c.loop-i.span had w.in-Empty.ensures)
      | in-Spanned+in-None w ↦ alike b ns k from (i + 1) (Some (w.in-Spanned.start, w.in-Spanned.stop)) c.match-slot.span c.loop-i.bare c.match-slot.bare w.span-is w.bare-is (first_follows b ns k from i lt c.requires.child c.requires.list low c.loop-i.bare w.in-Spanned.start w.in-Spanned.stop (subst (λ o. Follows b ns k from i o c.loop-i.bare) w.in-None.is had) w.in-Spanned.ensures)
      | in-Spanned+in-Some w ↦ alike b ns k from (i + 1) (Some (w.in-Some.first, w.in-Spanned.stop)) c.match-slot.span c.loop-i.bare c.match-slot.bare w.span-is w.bare-is (next_follows b ns k from i lt c.requires.child c.requires.list low c.loop-i.bare w.in-Some.first w.in-Some.last w.in-Spanned.start w.in-Spanned.stop w.if-last-start.true (subst (λ o. Follows b ns k from i o c.loop-i.bare) w.in-Some.is had) w.in-Spanned.ensures)
    ]

pub returns-in-Some-2 : goal.returns-in-Some-2
returns-in-Some-2 c =
    let b = inside c.args.slots.branch.now in
    let ns = along c.args.slots.branch.now in
    reached_over b ns c.args.slots.node c.args.slots.from c.loop-i.i c.args.slots.to c.loop-i.span c.loop-i.bare c.requires.child (some_begun b ns c.args.slots.node c.args.slots.from c.loop-i.i c.loop-i.span c.loop-i.bare c.loop-i.invariant c.in-Some-2.field-0 c.in-Some-2.is) (omega (arith, c.loop-i-test.true)) c.loop-i.invariant c.over.result c.over.ensures

pub returns : goal.returns
returns c =
    let b = inside c.args.slots.branch.now in
    let ns = along c.args.slots.branch.now in
    let e : c.loop-i.i ≡ c.args.slots.to = omega (arith, c.loop-i-test.false, c.loop-i.auto.i-end, c.requires.order) in
    reached_over b ns c.args.slots.node c.args.slots.from c.args.slots.to c.args.slots.to c.loop-i.span c.loop-i.bare c.requires.child c.requires.order (omega arith) (subst (λ i. Follows b ns c.args.slots.node c.args.slots.from i c.loop-i.span c.loop-i.bare) e c.loop-i.invariant) c.over-2.result c.over-2.ensures
