use Rattle.std.proofs.Common.{◌+◌, ap, ◌∙◌}
use Rattle.table.proofs.Paths.{over_is, counted_leaf, counted_struct, counted_list, counted_all}
use Rattle.table.proofs.leaf_path.greatest_levels.Goals as goal
use Rattle.table.proofs.leaf_path.greatest_levels.Goals.{in-Struct, in_default}

pub returns-in-Leaf : goal.returns-in-Leaf
returns-in-Leaf c =
    let e = counted_leaf c.args.path.now c.loop-node.node-index c.loop-node.definition c.loop-node.repetition c.loop-node.invariant c.loop-node-test.true
    _ (ap (λ n. c.loop-node.definition + n) c.from-definition.ensures ∙ over_is _ c.loop-node.definition) c.in-Leaf.is in
    record { definition = e.0; repetition = e.1 }

pub loop-node-preserved : goal.loop-node-preserved
loop-node-preserved c =
    elim c.match-node.branch [
      | in-Struct w ↦ rw (w.definition-is, w.repetition-is)
          (counted_struct c.args.path.now c.loop-node.node-index c.loop-node.definition c.loop-node.repetition c.loop-node.invariant c.loop-node-test.true
          _ (ap (λ n. c.loop-node.definition + n) c.from-definition.ensures ∙ over_is _ c.loop-node.definition) w.in-Struct.is)
      | in_default w ↦ rw (w.definition-is, w.repetition-is)
          (counted_list c.args.path.now c.loop-node.node-index c.loop-node.definition c.loop-node.repetition c.loop-node.invariant c.loop-node-test.true
          _ (ap (λ n. c.loop-node.definition + n) c.from-definition.ensures ∙ over_is _ c.loop-node.definition) w.in_default.not-Leaf w.in_default.not-Struct)
    ]

pub returns : goal.returns
returns c =
    let e = counted_all c.args.path.now c.loop-node.node-index c.loop-node.definition c.loop-node.repetition c.loop-node.invariant c.loop-node-test.false in
    record { definition = e.0; repetition = e.1 }
