-- Validity bits, packed.
use Rattle.std.proofs.Common.{◌≡◌, ℕ, ◌+◌, ◌-◌, ◌*◌, ◌/◌, ◌%◌, ◌^◌, ◌<◌, ◌≤◌, Bool, true, false, cond, not, List, drop, Some, Option, sym, refl, ap, ◌∙◌, subst, ap₂, arith}
use native.Mathlib.Decide.{dec_lt}
use lib.Count.{count_trailing_zeros}
use Rattle.reading.specs.Bits.{bit, valid_in, differs, SameRun}
use Rattle.reading.proofs.Behind.{bit_behind}
use Rattle.reading.specs.Packed.{packed}
use Rattle.reading.proofs.Packing.{packed_shr, packed_low, packed_ext, packed_clear, trailing_clear, trailing_inside}

-- the digits from b on, out of n from b's byte on
pub cut_out : (f : ℕ → Bool) (n b count : ℕ) → b % 8 + count ≤ n → packed f n (8 * (b / 8)) / 2 ^ (b % 8) % 2 ^ count ≡ packed f count b
cut_out f n b count h =
    let p : n ≡ b % 8 + (n - b % 8) = omega arith in
    let q : 8 * (b / 8) + b % 8 ≡ b = omega arith in
    let r : n - b % 8 ≡ count + (n - b % 8 - count) = omega arith in
    ap (λ k. packed f k (8 * (b / 8)) / 2 ^ (b % 8) % 2 ^ count) p
    ∙ ap (λ k. k % 2 ^ count) (packed_shr f (b % 8) (n - b % 8) (8 * (b / 8)) ∙ ap₂ (λ k a. packed f k a) r q)
    ∙ packed_low f count (n - b % 8 - count) b

-- the bits behind the whole bytes of a start
pub packed_behind : (bs : List ℕ) (s i count : ℕ) → packed (bit (drop (s / 8) bs)) count (s % 8 + i) ≡ packed (valid_in bs (Some s)) count i
packed_behind bs s i count =
    packed_ext (bit (drop (s / 8) bs)) (valid_in bs (Some s)) count (s % 8 + i) i (λ j l.
    let q : s % 8 + i + j ≡ s % 8 + (i + j) = omega arith in
    ap (bit (drop (s / 8) bs)) q ∙ bit_behind bs s (i + j))

agree : (t x : Bool) → cond t (not x) x ≡ false → x ≡ t
agree true true e = refl
agree true false e = sym e
agree false x e = e

module _ (bs : List ℕ) (start : Option ℕ) (from i end count other : ℕ) (t : Bool) (is : t ≡ valid_in bs start from) (digits : other ≡ packed (differs t (valid_in bs start)) count i) (few : count ≤ 56) (fits : i + count ≤ end)
    (low : from < i) (had : (k : ℕ) → from ≤ k → k < i → k < end → valid_in bs start k ≡ valid_in bs start from) where
  on : (n : ℕ) → i + n ≤ end → ((k : ℕ) → i ≤ k → k < i + n → differs t (valid_in bs start) k ≡ false) → (k : ℕ) → from ≤ k → k < i + n → valid_in bs start k ≡ valid_in bs start from
  on n m h k l lo = elim (dec_lt k i) [ yes p ↦ had k l p (omega arith) | no p ↦ agree t (valid_in bs start k) (h k (omega arith) lo) ∙ is ]

  pub all_same : other ≡ 0 → (k : ℕ) → from ≤ k → k < i + count → valid_in bs start k ≡ valid_in bs start from
  all_same e = on count fits (packed_clear (differs t (valid_in bs start)) count i (sym digits ∙ e))

  zeros_low : 0 < other → count_trailing_zeros 64 other < count
  zeros_low h = subst (λ n. count_trailing_zeros 64 n < count) (sym digits) (trailing_inside (differs t (valid_in bs start)) 64 count i (omega arith) (subst (λ n. 0 < n) digits h))

  pub same_run : 0 < other → SameRun bs start from end (i + count_trailing_zeros 64 other - from)
  same_run h =
      let z : ℕ = count_trailing_zeros 64 other in
      let l : z < count = zeros_low h in
      let w : from + (i + z - from) ≡ i + z = omega arith in
      record {
        some = omega arith;
        inside = omega arith;
        same = λ k lo hi. on z (omega arith) (λ j a b.
            let q : i + (j - i) ≡ j = omega arith in
            ap (differs t (valid_in bs start)) (sym q) ∙ trailing_clear (differs t (valid_in bs start)) 64 count i (omega arith) (j - i) (subst (λ n. j - i < count_trailing_zeros 64 n) digits (omega arith)) (omega arith)) k lo (omega arith);
      }

-- all of them alike, down to the last
pub same_whole : (bs : List ℕ) (start : Option ℕ) (from end : ℕ) → from < end → ((k : ℕ) → from ≤ k → k < end → valid_in bs start k ≡ valid_in bs start from) → SameRun bs start from end (end - from)
same_whole bs start from end l h = record { some = omega arith; inside = omega arith; same = λ k lo hi. h k lo (omega arith) }
