use Rattle.std.proofs.Common.{map, ap, ◌∙◌}
use Rattle.std.proofs.lemmas.List.{take_rest}
use Rattle.reading.specs.Slots.{listed}
use Rattle.reading.proofs.Places.{listed_behind}
use Rattle.reading.proofs.slots.OffsetSlots.new.Goals as goal

pub returns-clause-spans : goal.returns-clause-spans
returns-clause-spans g c i =
    let value = g.T.Offset.value in
    ap (λ xs. listed c.args.most (map value xs) i) (take_rest c.args.buffer.now c.args.first) ∙ listed_behind value c.args.buffer.now c.args.first c.args.most i
