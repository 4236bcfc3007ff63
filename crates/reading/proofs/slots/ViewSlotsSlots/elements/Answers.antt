use Rattle.std.proofs.Common.{◌≡◌, get_or, pos, sym, ◌∙◌, ap₂, arith, rules}
use Rattle.std.proofs.lemmas.List.{get_or-map}
use Rattle.reading.specs.Slots.{span, held}
use Rattle.reading.proofs.slots.ViewSlotsSlots.elements.Goals as goal

pub returns : goal.returns
returns g c =
    let s = c.args.self.now in
    let i = c.args.i in
    let value = g.T.Offset.value in
    let widens = g.met.T.Offset.widens in
    let q : c.sized.result ≡ held (span s.most c.into.result c.into-2.result) = search rules in
    q ∙ ap₂ (λ a z. held (span s.most a z))
    (widens (get_or s.offsets.now i c.index-self-i.result) c.into.result c.into.ensures ∙ sym (get_or-map value s.offsets.now i c.index-self-i.result (pos 0) (omega (arith, c.requires, s.offsets_inside))))
    (widens (get_or s.sizes.now i c.index-self-i-2.result) c.into-2.result c.into-2.ensures ∙ sym (get_or-map value s.sizes.now i c.index-self-i-2.result (pos 0) (omega (arith, c.requires, s.sizes_inside))))
