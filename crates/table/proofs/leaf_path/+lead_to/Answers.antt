use Rattle.std.proofs.Common.{◌≡◌, ◌++◌, length, drop, set, subst, sym, ap, arith}
use Rattle.table.specs.Paths.{path_node, nodes_to}
use Rattle.table.proofs.Lines.{line_root}
use Rattle.table.proofs.Paths.{up_is, led_root, led_more}
use Rattle.table.proofs.leaf_path.+lead_to.Goals as goal
use Rattle.table.proofs.leaf_path.+lead_to.Goals.{then-node-eq0, else-node-eq0}

pub lead_to-above-requires : goal.lead_to-above-requires
lead_to-above-requires t c =
    let o = c.args.ordered in
    let up = up_is o.nodes.now o.count c.args.node c.requires.within o.within o.rising (let d = c.if-node-eq0.false in omega arith) in
    (omega arith, (omega arith, omega arith))

pub bounds-path-above : goal.bounds-path-above
bounds-path-above t c =
    let o = c.args.ordered in
    elim c.if-node-eq0.branch [
      | then-node-eq0 w ↦ omega (arith, w.above-is)
      | else-node-eq0 w ↦
          let up = up_is o.nodes.now o.count c.args.node c.requires.within o.within o.rising (omega arith) in
          omega (arith, w.above-is, w.lead_to-above.ensures.count)
    ]

pub returns-clause-path : goal.returns-clause-path
returns-clause-path t c =
    let o = c.args.ordered in
    let ns = o.nodes.now in
    let old = c.args.path.now in
    let within = o.within in
    elim c.if-node-eq0.branch [
      | then-node-eq0 w ↦
          let root = led_root ns (omega arith) old (omega (arith, c.told-path)) in
          rw (w.path-is, w.above-is, c.on_path.ensures) (subst (λ i. set old 0 (path_node ns i) ≡ nodes_to ns i ++ drop 1 old) (sym w.if-node-eq0.true) root)
      | else-node-eq0 w ↦
          let more = led_more ns o.count c.args.node c.requires.within within o.rising (omega arith) old w.lead_to-above.new.path w.lead_to-above.result
          w.lead_to-above.ensures.count (let b = bounds-path-above t c in omega (arith, c.told-path, w.above-is)) w.lead_to-above.ensures.path in
          rw (w.path-is, w.above-is, c.on_path.ensures) more.0
    ]

pub returns-clause-count : goal.returns-clause-count
returns-clause-count t c =
    let o = c.args.ordered in
    let within = o.within in
    elim c.if-node-eq0.branch [
      | then-node-eq0 w ↦ rw (w.if-node-eq0.true) (omega (arith, w.above-is, ap length (line_root o.nodes.now (omega arith))))
      | else-node-eq0 w ↦
          let up = up_is o.nodes.now o.count c.args.node c.requires.within within o.rising (omega arith) in
          omega (arith, w.above-is, w.lead_to-above.ensures.count)
    ]
