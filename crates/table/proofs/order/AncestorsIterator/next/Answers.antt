use Rattle.std.proofs.Common.{◌<◌, length, ap, ◌∙◌, arith, rules}
use Rattle.table.specs.Upward.{upward_from}
use Rattle.table.proofs.Upward.{upward_root, upward_more}
use Rattle.table.proofs.order.AncestorsIterator.next.Goals as goal
use Rattle.table.proofs.order.AncestorsIterator.next.Goals.{then-node-eq0, else-node-eq0}

pub returns-clause-steps : goal.returns-clause-steps
returns-clause-steps c =
    let ordered = c.args.self.now.ordered in
    let ns = ordered.nodes.now in
    let node = c.in_ok-node.node in
    let below : node < ordered.count = c.args.self.now.below node c.in_ok-node.was in
    ap (upward_from ns) c.in_ok-node.was ∙
    elim c.if-node-eq0.branch [
      | then-node-eq0 w ↦
          let root = upward_root ns (let most = ordered.within in omega arith) in
          let rest = ap (upward_from ns) w.self-is in
          cc
      | else-node-eq0 w ↦
          let more = upward_more ns ordered.count node below ordered.within ordered.rising (omega arith) in
          let rest = ap (upward_from ns) w.self-is in
          cc
    ]

pub returns-clause-goes : goal.returns-clause-goes
returns-clause-goes c =
    let fewer = ap length (returns-clause-steps c) in
    record {
      on = λ f. search rules;
      keeps = search rules;
      rests = search rules;
    }
