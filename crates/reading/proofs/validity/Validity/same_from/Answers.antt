use Rattle.std.proofs.Common.{arith}
use Rattle.reading.proofs.Runs.{all_same, same_run, same_whole}
use Rattle.reading.proofs.validity.Validity.same_from.Goals as goal

pub returns-then-other-gt0 : goal.returns-then-other-gt0
returns-then-other-gt0 c =
    let s = c.args.self.now in
    same_run s.bytes.now s.start c.args.from c.loop-i.i c.args.end c.min-count.result c.other_bits-other.result c.is_valid-first.result c.is_valid-first.ensures c.other_bits-other.ensures (omega (arith, c.min-count.ensures)) (omega (arith, c.min-count.ensures, c.loop-i-test.true)) c.loop-i.invariant.0 c.loop-i.invariant.1 c.if-other-gt0.true

pub loop-i-preserved : goal.loop-i-preserved
loop-i-preserved c =
    let s = c.args.self.now in (
      omega (arith, c.loop-i.invariant.0),
      λ k lo hi m. all_same s.bytes.now s.start c.args.from c.loop-i.i c.args.end c.min-count.result c.other_bits-other.result c.is_valid-first.result c.is_valid-first.ensures c.other_bits-other.ensures (omega (arith, c.min-count.ensures)) (omega (arith, c.min-count.ensures, c.loop-i-test.true)) c.loop-i.invariant.0 c.loop-i.invariant.1 (omega (arith, c.if-other-gt0.false)) k lo hi,
    )

pub returns : goal.returns
returns c =
    let s = c.args.self.now in
    same_whole s.bytes.now s.start c.args.from c.args.end c.requires.some (λ k lo hi. c.loop-i.invariant.1 k lo (omega (arith, c.loop-i-test.false)) hi)
