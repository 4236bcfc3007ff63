use Rattle.table.proofs.Leaves.{leaf_of, blank_is, filled, front_short, front_length, led}
use Rattle.table.proofs.leaf_path.path_in.Goals as goal

pub lead_to-count-requires-clause-short : goal.lead_to-count-requires-clause-short
lead_to-count-requires-clause-short c =
    let table = c.args.table in
    let h = leaf_of table.nodes.now c.args.leaf table.holds c.if-leaf-table.false c.if-table-leaf.false in
    rw c.ordered.ensures.nodes h.short

pub greatest_levels-definition-requires : goal.greatest_levels-definition-requires
greatest_levels-definition-requires c =
    let table = c.args.table in
    let h = leaf_of table.nodes.now c.args.leaf table.holds c.if-leaf-table.false c.if-table-leaf.false in
    let count = rw c.ordered.ensures.nodes at c.lead_to-count.ensures.count in
    let nodes = filled table.nodes.now c.args.leaf c.lead_to-count.result c.default-nodes.result (blank_is c.default-nodes.result c.default-nodes.ensures) c.lead_to-count.new.path (rw c.ordered.ensures.nodes at c.lead_to-count.ensures.path) in
    front_short table.nodes.now c.args.leaf h c.lead_to-count.result c.lead_to-count.new.path count nodes

pub returns : goal.returns
returns c =
    let table = c.args.table in
    let h = leaf_of table.nodes.now c.args.leaf table.holds c.if-leaf-table.false c.if-table-leaf.false in
    let count = rw c.ordered.ensures.nodes at c.lead_to-count.ensures.count in
    let nodes = filled table.nodes.now c.args.leaf c.lead_to-count.result c.default-nodes.result (blank_is c.default-nodes.result c.default-nodes.ensures) c.lead_to-count.new.path (rw c.ordered.ensures.nodes at c.lead_to-count.ensures.path) in
    let levels = c.greatest_levels-definition in
    led table.nodes.now c.args.leaf h c.lead_to-count.result c.lead_to-count.new.path count nodes levels.result.0 levels.result.1 levels.ensures.definition levels.ensures.repetition

pub slice_bounds-greatest_levels-end : goal.slice_bounds-greatest_levels-end
slice_bounds-greatest_levels-end c =
    let table = c.args.table in
    let h = leaf_of table.nodes.now c.args.leaf table.holds c.if-leaf-table.false c.if-table-leaf.false in
    let count = rw c.ordered.ensures.nodes at c.lead_to-count.ensures.count in
    let nodes = filled table.nodes.now c.args.leaf c.lead_to-count.result c.default-nodes.result (blank_is c.default-nodes.result c.default-nodes.ensures) c.lead_to-count.new.path (rw c.ordered.ensures.nodes at c.lead_to-count.ensures.path) in
    front_length table.nodes.now c.args.leaf h c.lead_to-count.result c.lead_to-count.new.path count nodes
