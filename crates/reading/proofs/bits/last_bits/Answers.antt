use Rattle.std.proofs.Common.{◌≡◌, ℕ, ◌-◌, ◌*◌, ◌/◌, ◌%◌, ◌^◌, sym, ap, ◌∙◌, ap₂, arith}
use lib.Bits.{bit_and, and_mask}
use Rattle.reading.specs.Bits.{bit}
use Rattle.reading.specs.Packed.{packed}
use Rattle.reading.proofs.Packing.{packed_zero, byte_front, packed_small}
use Rattle.reading.proofs.Runs.{cut_out}
use Rattle.reading.proofs.bits.last_bits.Goals as goal

pub loop-at-init : goal.loop-at-init
loop-at-init c =
    let end = c.div_ceil-end.result in
    (omega (arith, c.div_ceil-end.ensures), sym (packed_zero (bit c.args.bytes.now) (8 * (end - end)) (8 * end) (omega arith)))

pub overflow_mul-word : goal.overflow_mul-word
overflow_mul-word c =
    let at = c.loop-at.at in
    omega (arith, packed_small (bit c.args.bytes.now) (8 * (c.div_ceil-end.result - at)) 56 (8 * at) (omega (arith, c.div_ceil-end.ensures)), c.loop-at.invariant.1)

pub overflow_add-word : goal.overflow_add-word
overflow_add-word c =
    let at = c.loop-at.at in
    omega (arith, packed_small (bit c.args.bytes.now) (8 * (c.div_ceil-end.result - at)) 56 (8 * at) (omega (arith, c.div_ceil-end.ensures)), c.loop-at.invariant.1, c.from.ensures, c.type_inv.bytes (at - 1))

pub loop-at-preserved : goal.loop-at-preserved
loop-at-preserved c =
    let bs = c.args.bytes.now in
    let at = c.loop-at.at in
    (omega arith, omega (arith, byte_front bs c.div_ceil-end.result at (omega arith) (omega arith) (omega (arith, c.type_inv.bytes (at - 1))), c.loop-at.invariant.1, c.from.ensures))

pub returns : goal.returns
returns c =
    let f = bit c.args.bytes.now in
    let b = c.args.b in
    let end = c.div_ceil-end.result in
    let n : ℕ = 8 * (end - b / 8) in
    let first : c.loop-at.at ≡ b / 8 = omega (arith, c.loop-at.invariant.0) in
    ap₂ (λ x y. bit_and (x / 2 ^ (b % 8)) y) (c.loop-at.invariant.1 ∙ ap (λ at. packed f (8 * (end - at)) (8 * at)) first) c.ones_below.ensures
    ∙ and_mask (packed f n (8 * (b / 8)) / 2 ^ (b % 8)) c.args.count
    ∙ cut_out f n b c.args.count (omega (arith, c.div_ceil-end.ensures))
