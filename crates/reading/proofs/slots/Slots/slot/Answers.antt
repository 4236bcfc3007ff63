use Rattle.std.proofs.Common.{◌<◌, true, false, sym, ◌∙◌, subst}
use Rattle.reading.proofs.Places.{slot_place, slot_looked}
use Rattle.reading.proofs.slots.Slots.slot.Goals as goal

pub is_valid-requires : goal.is_valid-requires
is_valid-requires g c =
    let s = c.args.self.now in
    subst (λ v. c.args.i < v.slots) (sym c.validity.ensures) (slot_place (g.Self.Slots.bits s) (g.Self.Slots.spans s) c.args.i c.requires)

pub elements-requires : goal.elements-requires
elements-requires g c =
    let s = c.args.self.now in
    slot_place (g.Self.Slots.bits s) (g.Self.Slots.spans s) c.args.i c.requires

pub returns-then-is_valid : goal.returns-then-is_valid
returns-then-is_valid g c =
    let s = c.args.self.now in
    c.elements.ensures ∙ slot_looked (g.Self.Slots.bits s) (g.Self.Slots.spans s) c.args.i c.requires c.validity.result c.validity.ensures true c.if-is_valid.ensures

pub returns-else-is_valid : goal.returns-else-is_valid
returns-else-is_valid g c =
    let s = c.args.self.now in
    slot_looked (g.Self.Slots.bits s) (g.Self.Slots.spans s) c.args.i c.requires c.validity.result c.validity.ensures false c.if-is_valid.ensures
