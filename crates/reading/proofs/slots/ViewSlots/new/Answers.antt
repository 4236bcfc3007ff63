use Rattle.std.proofs.Common.{map, get_or, pos, ap₂, ◌∙◌}
use Rattle.std.proofs.lemmas.List.{take_rest}
use Rattle.reading.specs.Slots.{span}
use Rattle.reading.proofs.Places.{viewed_behind}
use Rattle.reading.proofs.slots.ViewSlots.new.Goals as goal

pub returns-clause-spans : goal.returns-clause-spans
returns-clause-spans g c i =
    let value = g.T.Offset.value in
    let xs = c.args.buffer.now in
    ap₂ (λ a z. span c.args.most (get_or (map value a) i (pos 0)) (get_or (map value z) i (pos 0))) (take_rest xs c.args.offset) (take_rest xs c.args.size) ∙ viewed_behind value xs c.args.offset c.args.size c.args.most i
