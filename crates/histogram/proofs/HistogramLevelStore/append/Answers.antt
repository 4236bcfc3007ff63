use Rattle.histogram.proofs.Same.{passed_on}
use Rattle.histogram.proofs.HistogramLevelStore.append.Goals as goal

pub returns-in_err-append-clause-levels : goal.returns-in_err-append-clause-levels
returns-in_err-append-clause-levels g c = passed_on _ c.args.self.now c.append.new.self _ _ _ c.from_residual.result c.from_residual.ensures.1 c.in_err-append.ensures.levels
