use Rattle.walk.proofs.Stretches.{rows_go}
use Rattle.walk.proofs.frames.Walk.run_rows.Goals as goal

pub returns-in-Some : goal.returns-in-Some
returns-in-Some c =
    let w = c.args.self.now in
    let found = rw c.in-Some.is at c.in_ok-found.ensures in
    (rows_go w c.requires.flat c.requires.some c.in-Some.run' found.0, found.1)
