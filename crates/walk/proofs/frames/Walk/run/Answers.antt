use Rattle.std.proofs.Common.{Ok, subst}
use Rattle.std.proofs.lemmas.Result.{err_from_is_err_and}
use Rattle.walk.specs.Walk.{ChainRun}
use Rattle.walk.proofs.Stack.{top_is}
use Rattle.walk.proofs.Stretches.{list_stops, list_goes}
use Rattle.walk.proofs.frames.Walk.run.Goals as goal

pub returns-in_err-found : goal.returns-in_err-found
returns-in_err-found c =
    let w = c.args.self.now in
    let x = c.in-Some.field-0.now in
    let top = top_is w.frames.items c.deref.result.now x c.deref.ensures.0 c.in-Some.ensures.value in
    let p = err_from_is_err_and c.from_residual.result c.from_residual.ensures.1 in
    rw (p.1, p.2) (list_stops w x top.0 top.1 c.in_err-found.field-0.0 c.requires c.in_err-found.ensures)

pub returns-in-Some-found : goal.returns-in-Some-found
returns-in-Some-found c =
    let w = c.args.self.now in
    let x = c.in-Some.field-0.now in
    let top = top_is w.frames.items c.deref.result.now x c.deref.ensures.0 c.in-Some.ensures.value in
    list_goes w x top.0 top.1 c.pass.new.frames.items c.in-Some-found.run' (subst (λ o. ChainRun w x (Ok o)) c.in-Some-found.is c.in_ok-found.ensures) c.pass.ensures
