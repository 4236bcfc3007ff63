use Rattle.std.proofs.Common.{◌+◌, ◌*◌, map, ℤ, get_or, pos, ◌∙◌}
use Rattle.table.specs.declared.node.Kind.{Kind}
use Rattle.reading.specs.Slots.{Buffers, buffers, listed, within, span}
use Rattle.reading.proofs.Places.{listed_own, viewed_own, slot_asked, slot_as}
use Rattle.reading.proofs.slots.slot_of.Goals as goal

pub slot-requires : goal.slot-requires
slot-requires c = slot_asked c.new.ensures.validity c.args.i c.requires.slot (listed c.new.result.most (map (λ (x : ℤ). x) c.new.result.offsets.now))

pub slot-requires-in-LargeList : goal.slot-requires-in-LargeList
slot-requires-in-LargeList c = slot_asked c.new-in-LargeList.ensures.validity c.args.i c.requires.slot (listed c.new-in-LargeList.result.most (map (λ (x : ℤ). x) c.new-in-LargeList.result.offsets.now))

pub slot-requires-in-FixedSizeList : goal.slot-requires-in-FixedSizeList
slot-requires-in-FixedSizeList c = slot_asked c.new-in-FixedSizeList.ensures.validity c.args.i c.requires.slot (λ i. within c.new-in-FixedSizeList.result.most (i * c.new-in-FixedSizeList.result.size) c.new-in-FixedSizeList.result.size)

pub slot-requires-in-ListView : goal.slot-requires-in-ListView
slot-requires-in-ListView c = slot_asked c.new-in-ListView.ensures.validity c.args.i c.requires.slot (λ i. span c.new-in-ListView.result.most (get_or (map (λ (x : ℤ). x) c.new-in-ListView.result.offsets.now) i (pos 0)) (get_or (map (λ (x : ℤ). x) c.new-in-ListView.result.sizes.now) i (pos 0)))

pub slot-requires-in-LargeListView : goal.slot-requires-in-LargeListView
slot-requires-in-LargeListView c = slot_asked c.new-in-LargeListView.ensures.validity c.args.i c.requires.slot (λ i. span c.new-in-LargeListView.result.most (get_or (map (λ (x : ℤ). x) c.new-in-LargeListView.result.offsets.now) i (pos 0)) (get_or (map (λ (x : ℤ). x) c.new-in-LargeListView.result.sizes.now) i (pos 0)))

pub returns-in-List : goal.returns-in-List
returns-in-List c =
    let n = c.args.n in
    let b : Buffers = buffers c.args.bytes.now c.args.narrow.now c.args.wide.now in
    slot_as c.new.ensures.validity c.args.i c.requires.slot (listed c.new.result.most (map (λ (x : ℤ). x) c.new.result.offsets.now)) b n c.args.most Kind.List c.in-List.is (c.new.ensures.spans c.args.i ∙ listed_own c.args.most b.narrow (n.offsets + c.args.i)) c.slot.result c.slot.ensures

pub returns-in-LargeList : goal.returns-in-LargeList
returns-in-LargeList c =
    let n = c.args.n in
    let b : Buffers = buffers c.args.bytes.now c.args.narrow.now c.args.wide.now in
    slot_as c.new-in-LargeList.ensures.validity c.args.i c.requires.slot (listed c.new-in-LargeList.result.most (map (λ (x : ℤ). x) c.new-in-LargeList.result.offsets.now)) b n c.args.most Kind.LargeList c.in-LargeList.is (c.new-in-LargeList.ensures.spans c.args.i ∙ listed_own c.args.most b.wide (n.offsets + c.args.i)) c.slot-in-LargeList.result c.slot-in-LargeList.ensures

pub returns-in-FixedSizeList : goal.returns-in-FixedSizeList
returns-in-FixedSizeList c =
    let n = c.args.n in
    let b : Buffers = buffers c.args.bytes.now c.args.narrow.now c.args.wide.now in
    slot_as c.new-in-FixedSizeList.ensures.validity c.args.i c.requires.slot (λ i. within c.new-in-FixedSizeList.result.most (i * c.new-in-FixedSizeList.result.size) c.new-in-FixedSizeList.result.size) b n c.args.most Kind.FixedSizeList c.in-FixedSizeList.is (c.new-in-FixedSizeList.ensures.spans c.args.i) c.slot-in-FixedSizeList.result c.slot-in-FixedSizeList.ensures

pub returns-in-ListView : goal.returns-in-ListView
returns-in-ListView c =
    let n = c.args.n in
    let b : Buffers = buffers c.args.bytes.now c.args.narrow.now c.args.wide.now in
    slot_as c.new-in-ListView.ensures.validity c.args.i c.requires.slot (λ i. span c.new-in-ListView.result.most (get_or (map (λ (x : ℤ). x) c.new-in-ListView.result.offsets.now) i (pos 0)) (get_or (map (λ (x : ℤ). x) c.new-in-ListView.result.sizes.now) i (pos 0))) b n c.args.most Kind.ListView c.in-ListView.is (c.new-in-ListView.ensures.spans c.args.i ∙ viewed_own c.args.most b.narrow (n.offsets + c.args.i) (n.sizes + c.args.i)) c.slot-in-ListView.result c.slot-in-ListView.ensures

pub returns-in-LargeListView : goal.returns-in-LargeListView
returns-in-LargeListView c =
    let n = c.args.n in
    let b : Buffers = buffers c.args.bytes.now c.args.narrow.now c.args.wide.now in
    slot_as c.new-in-LargeListView.ensures.validity c.args.i c.requires.slot (λ i. span c.new-in-LargeListView.result.most (get_or (map (λ (x : ℤ). x) c.new-in-LargeListView.result.offsets.now) i (pos 0)) (get_or (map (λ (x : ℤ). x) c.new-in-LargeListView.result.sizes.now) i (pos 0))) b n c.args.most Kind.LargeListView c.in-LargeListView.is (c.new-in-LargeListView.ensures.spans c.args.i ∙ viewed_own c.args.most b.wide (n.offsets + c.args.i) (n.sizes + c.args.i)) c.slot-in-LargeListView.result c.slot-in-LargeListView.ensures
