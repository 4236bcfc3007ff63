use Rattle.std.proofs.Common.{sym, ap, ◌∙◌}
use Rattle.reading.specs.declared.slot.Slot.{Slot}
use Rattle.reading.specs.Trace.{stopped}
use Rattle.walk.proofs.AtNode.{list_looked}
use Rattle.walk.proofs.frames.Walk.look_at_list.Goals as goal

pub returns-in-Empty : goal.returns-in-Empty
returns-in-Empty c = list_looked c.args.self.now c.args.v c.from.result c.requires.slot c.requires.leaf c.requires.group c.from.ensures Slot.Empty c.in-Empty.ensures

pub returns-in-Wrong : goal.returns-in-Wrong
returns-in-Wrong c =
    list_looked c.args.self.now c.args.v c.from.result c.requires.slot c.requires.leaf c.requires.group c.from.ensures Slot.Wrong c.in-Wrong.ensures ∙ ap stopped (sym c.fault.ensures)

pub returns-in-Spanned : goal.returns-in-Spanned
returns-in-Spanned c =
    list_looked c.args.self.now c.args.v c.from.result c.requires.slot c.requires.leaf c.requires.group c.from.ensures (Slot.Spanned (c.in-Spanned.first, c.in-Spanned.end)) c.in-Spanned.ensures
