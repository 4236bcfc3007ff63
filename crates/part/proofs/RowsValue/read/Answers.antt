use Rattle.std.proofs.lemmas.Result.{err_from_is_err_and}
use Rattle.part.proofs.Ranges.{bad_end}
use Rattle.part.proofs.RowsValue.read.Goals as goal

pub returns-in_err-to : goal.returns-in_err-to
returns-in_err-to c =
    let p = err_from_is_err_and c.from_residual-in_err-to.result c.from_residual-in_err-to.ensures.1 in
    rw (p.1, p.2) (bad_end c.args.key c.args.text.now c.in-Some.place c.in_ok-from.from c.in_err-to.field-0.0 c.in-Some.ensures c.in_ok-from.ensures c.in_err-to.ensures)
