use Rattle.std.proofs.Common.{◌-◌, ap, sym, ◌∙◌, ap₂, arith}
use Rattle.reading.specs.Bits.{valid_in, differs}
use Rattle.reading.specs.Packed.{packed}
use Rattle.reading.proofs.Packing.{packed_lt, packed_not}
use Rattle.reading.proofs.validity.Validity.other_bits.Goals as goal

pub overflow_sub-result : goal.overflow_sub-result
overflow_sub-result c = omega (arith, packed_lt (valid_in c.args.self.now.bytes.now c.args.self.now.start) c.args.count c.args.i, c.bits-valid.ensures, c.ones_below.ensures)

pub returns-then-there : goal.returns-then-there
returns-then-there c =
    let f = valid_in c.args.self.now.bytes.now c.args.self.now.start in
    ap₂ (λ x y. x - y) c.ones_below.ensures c.bits-valid.ensures ∙ packed_not f c.args.count c.args.i ∙ ap (λ t. packed (differs t f) c.args.count c.args.i) (sym c.if-there.true)
