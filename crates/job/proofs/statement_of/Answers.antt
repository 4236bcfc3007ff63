use Rattle.std.proofs.Common.{rules}
use Rattle.line_fault.specs.declared.Key.TheVariants.{Offset}
use Rattle.part.specs.Reads.{ByteRead, Signed}
use Rattle.job.proofs.Items.{each_read}
use Rattle.job.proofs.statement_of.Goals as goal

pub returns-in_ok-each : goal.returns-in_ok-each
returns-in_ok-each c = (search rules, each_read ByteRead c.in_ok-each.ensures (λ w x h. search rules))

pub returns-in_ok-each-2 : goal.returns-in_ok-each-2
returns-in_ok-each-2 c = (search rules, each_read (Signed 32 Offset) c.in_ok-each-2.ensures (λ w x h. search rules))

pub returns-in_ok-each-3 : goal.returns-in_ok-each-3
returns-in_ok-each-3 c = (search rules, each_read (Signed 64 Offset) c.in_ok-each-3.ensures (λ w x h. search rules))
