use Rattle.std.proofs.Common.{arith}
use Rattle.walk.proofs.Stack.{top_is, top_none, advance_frame, advance_row}
use Rattle.walk.proofs.frames.Walk.advance.Goals as goal

pub returns-in-Some : goal.returns-in-Some
returns-in-Some c =
    let w = c.args.self.now in
    let x = c.in-Some.field-0.now in
    let top = top_is w.frames.items c.deref.result.now x c.deref.ensures.0 c.in-Some.ensures.value in
    advance_frame w c.pass.new.frames.items x c.len.result top.0 top.1 (c.requires top.0) c.pass.ensures c.len.ensures.value

pub returns : goal.returns
returns c =
    let w = c.args.self.now in
    let none = top_none w.frames.items c.deref.result.now c.deref.ensures.0 c.in_default.ensures.value in
    let order = w.rows.order in
    advance_row w none (omega arith)
