use Rattle.std.proofs.Common.{ℕ, ◌+◌, ◌*◌, ◌/◌, ◌%◌, ◌^◌, drop, sym, ap, ◌∙◌, ap₂, arith}
use lib.Bits.{bit_and, and_mask}
use Rattle.std.proofs.lemmas.List.{take_rest}
use Rattle.reading.specs.Bits.{bit, valid_in}
use Rattle.reading.specs.Packed.{packed}
use Rattle.reading.proofs.Packing.{packed_all}
use Rattle.reading.proofs.Runs.{cut_out, packed_behind}
use Rattle.reading.proofs.validity.Validity.bits.Goals as goal

pub returns-in-None : goal.returns-in-None
returns-in-None c =
    c.ones_below.ensures ∙ sym (packed_all (valid_in c.args.self.now.bytes.now c.args.self.now.start) c.args.count c.args.i (λ j. ap (λ v. valid_in c.args.self.now.bytes.now v j) c.in-None.is))

pub returns-then-i-self : goal.returns-then-i-self
returns-then-i-self c =
    let bs = c.args.self.now.bytes.now in
    let s = c.in-Some.start in
    let i = c.args.i in
    let count = c.args.count in
    let b : ℕ = s % 8 + i in
    ap₂ (λ x y. bit_and (x / 2 ^ (b % 8)) y) (c.word_at.ensures ∙ ap (λ x. packed (bit x) 64 (8 * (b / 8))) (take_rest bs (s / 8))) c.ones_below-then-i-self.ensures
    ∙ and_mask (packed (bit (drop (s / 8) bs)) 64 (8 * (b / 8)) / 2 ^ (b % 8)) count
    ∙ cut_out (bit (drop (s / 8) bs)) 64 b count (omega (arith, c.requires.few))
    ∙ packed_behind bs s i count
    ∙ ap (λ v. packed (valid_in bs v) count i) (sym c.in-Some.is)

pub returns-else-i-self : goal.returns-else-i-self
returns-else-i-self c =
    let bs = c.args.self.now.bytes.now in
    let s = c.in-Some.start in
    c.last_bits.ensures ∙ ap (λ x. packed (bit x) c.args.count (s % 8 + c.args.i)) (take_rest bs (s / 8)) ∙ packed_behind bs s c.args.i c.args.count ∙ ap (λ v. packed (valid_in bs v) c.args.count c.args.i) (sym c.in-Some.is)
