-- The bits behind some whole bytes.
use Rattle.std.proofs.Common.{◌≡◌, ℕ, ◌+◌, ◌/◌, ◌%◌, ◌^◌, eqb, List, get_or, drop, ap, ◌∙◌, ap₂, arith}
use Rattle.std.proofs.lemmas.List.{get_or-drop}
use Rattle.reading.specs.Bits.{bit}

pub bit_behind : (bytes : List ℕ) (start i : ℕ) → bit (drop (start / 8) bytes) (start % 8 + i) ≡ bit bytes (start + i)
bit_behind bytes start i =
    let q : start / 8 + (start % 8 + i) / 8 ≡ (start + i) / 8 = omega arith in
    let m : (start % 8 + i) % 8 ≡ (start + i) % 8 = omega arith in
    ap₂ (λ x k. eqb (x / 2 ^ k % 2) 1) (get_or-drop (start / 8) bytes ((start % 8 + i) / 8) 0 ∙ ap (λ k. get_or bytes k 0) q) m
