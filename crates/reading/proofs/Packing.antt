-- The laws of tests packed into one number.
use Rattle.std.proofs.Common.{◌≡◌, ℕ, zero, suc, ◌+◌, ◌-◌, ◌*◌, ◌/◌, ◌%◌, ◌^◌, ◌<◌, ◌≤◌, min, Bool, true, false, not, ◌&&◌, eqb, List, get_or, sym, refl, ap, ◌∙◌, subst, ap₂, mul_assoc, pow-suc, arith, pow_mono}
use Rattle.std.specs.Int.{from_bool}
use native.Mathlib.Decide.{dec_lt}
use lib.Bits.{bit_and, and_step}
use lib.Count.{ones, ones_step, count_trailing_zeros, under}
use Rattle.std.proofs.lemmas.Nat.{shr-shr, shr_high, mod_low, pow_pos}
use Rattle.rows.specs.Rows.{one}
use Rattle.reading.specs.Bits.{bit}
use Rattle.reading.specs.Packed.{packed, count_of}

pub one-few : (t : Bool) → one t ≤ 1
one-few true = omega arith
one-few false = omega arith

pub bit_one : (t : Bool) → from_bool t ≡ one t
bit_one true = refl
bit_one false = refl

pub packed_lt : (f : ℕ → Bool) (k a : ℕ) → packed f k a < 2 ^ k
unfolding packed
packed_lt f zero a = omega arith
packed_lt f (suc k) a = let h = packed_lt f k (a + 1) in let o = one-few (f a) in omega (arith, pow-suc 2 k)

pub packed_split : (f : ℕ → Bool) (m n a : ℕ) → packed f (m + n) a ≡ packed f n (a + m) * 2 ^ m + packed f m a
unfolding packed
packed_split f zero n a =
    let p : zero + n ≡ n = omega arith in
    let q : a ≡ a + zero = omega arith in
    ap₂ (λ k i. packed f k i) p q ∙ (omega arith)
packed_split f (suc m) n a =
    let p : suc m + n ≡ suc (m + n) = omega arith in
    let q : a + 1 + m ≡ a + suc m = omega arith in
    let x : ℕ = packed f n (a + suc m) in
    let e : x * 2 ^ suc m ≡ x * 2 ^ m * 2 = ap (λ t. x * t) (pow-suc 2 m) ∙ sym (mul_assoc x (2 ^ m) 2) in
    let h : packed f (m + n) (a + 1) ≡ x * 2 ^ m + packed f m (a + 1) = packed_split f m n (a + 1) ∙ ap (λ i. packed f n i * 2 ^ m + packed f m (a + 1)) q in
    ap (λ k. packed f k a) p ∙ (omega arith)

pub packed_shr : (f : ℕ → Bool) (s n a : ℕ) → packed f (s + n) a / 2 ^ s ≡ packed f n (a + s)
packed_shr f s n a = ap (λ x. x / 2 ^ s) (packed_split f s n a) ∙ shr_high (packed f n (a + s)) s (packed f s a) (packed_lt f s a)

pub packed_low : (f : ℕ → Bool) (m n a : ℕ) → packed f (m + n) a % 2 ^ m ≡ packed f m a
packed_low f m n a = ap (λ x. x % 2 ^ m) (packed_split f m n a) ∙ mod_low (packed f n (a + m)) m (packed f m a) (packed_lt f m a)

pub packed_ext : (f g : ℕ → Bool) (k a b : ℕ) → ((j : ℕ) → j < k → f (a + j) ≡ g (b + j)) → packed f k a ≡ packed g k b
unfolding packed
packed_ext f g zero a b h = refl
packed_ext f g (suc k) a b h =
    let p : a + 0 ≡ a = omega arith in
    let q : b + 0 ≡ b = omega arith in
    let e : f a ≡ g b = ap f (sym p) ∙ h 0 (omega arith) ∙ ap g q in
    ap₂ (λ t x. one t + 2 * x) e (packed_ext f g k (a + 1) (b + 1) (λ j l. let u : a + 1 + j ≡ a + (j + 1) = omega arith in let v : b + (j + 1) ≡ b + 1 + j = omega arith in ap f u ∙ h (j + 1) (omega arith) ∙ ap g v))

half : (t : Bool) (x : ℕ) → ((one t + 2 * x) / 2 ≡ x) × ((one t + 2 * x) % 2 ≡ one t)
half true x = (omega arith, omega arith)
half false x = (omega arith, omega arith)

least : (s t : Bool) → min (one s) (one t) ≡ one (s && t)
least true true = refl
least true false = refl
least false true = refl
least false false = refl

and_digits : (s t : Bool) (x y : ℕ) → bit_and (one s + 2 * x) (one t + 2 * y) ≡ one (s && t) + 2 * bit_and x y
and_digits s t x y =
    and_step (one s + 2 * x) (one t + 2 * y)
    ∙ ap₂ (λ u v. u * 2 + v) (ap₂ bit_and (half s x).0 (half t y).0) (ap₂ min (half s x).1 (half t y).1 ∙ least s t)
    ∙ (omega arith)

pub packed_and : (f g : ℕ → Bool) (k a : ℕ) → bit_and (packed f k a) (packed g k a) ≡ packed (λ j. f j && g j) k a
unfolding packed
packed_and f g zero a = refl
packed_and f g (suc k) a = and_digits (f a) (g a) (packed f k (a + 1)) (packed g k (a + 1)) ∙ ap (λ x. one (f a && g a) + 2 * x) (packed_and f g k (a + 1))

one_same : (s t : Bool) → one s ≡ one t → s ≡ t
one_same true true e = refl
one_same true false e = absurd (omega arith)
one_same false true e = absurd (omega arith)
one_same false false e = refl

-- the same number has the same digits
pub packed-same : (f g : ℕ → Bool) (k a : ℕ) → packed f k a ≡ packed g k a → (j : ℕ) → a ≤ j → j < a + k → f j ≡ g j
unfolding packed
packed-same f g zero a e j l m = absurd (omega arith)
packed-same f g (suc k) a e j l m =
    let x : one (f a) ≡ one (g a) = sym (half (f a) (packed f k (a + 1))).1 ∙ ap (λ n. n % 2) e ∙ (half (g a) (packed g k (a + 1))).1 in
    let y : packed f k (a + 1) ≡ packed g k (a + 1) = sym (half (f a) (packed f k (a + 1))).0 ∙ ap (λ n. n / 2) e ∙ (half (g a) (packed g k (a + 1))).0 in
    elim (dec_lt a j) [
      | yes p ↦ packed-same f g k (a + 1) y j (omega arith) (omega arith)
      | no p ↦ (let q : j ≡ a = omega arith in ap f q ∙ one_same (f a) (g a) x ∙ ap g (sym q))
    ]

pub packed_ones : (f : ℕ → Bool) (k a : ℕ) → ones (packed f k a) ≡ count_of f k a
unfolding ones packed
packed_ones f zero a = refl
packed_ones f (suc k) a =
    ones_step (one (f a) + 2 * packed f k (a + 1))
    ∙ ap₂ (λ x y. x + ones y) (half (f a) (packed f k (a + 1))).1 (half (f a) (packed f k (a + 1))).0
    ∙ ap (λ x. one (f a) + x) (packed_ones f k (a + 1))

pub packed_all : (f : ℕ → Bool) (k a : ℕ) → ((j : ℕ) → f j ≡ true) → packed f k a ≡ 2 ^ k - 1
unfolding packed
packed_all f zero a h = refl
packed_all f (suc k) a h =
    let p = pow_pos k in
    ap₂ (λ t x. one t + 2 * x) (h a) (packed_all f k (a + 1) h) ∙ (omega (arith, pow-suc 2 k))

flipped : (t : Bool) → one t + one (not t) ≡ 1
flipped true = refl
flipped false = refl

pub packed_not : (f : ℕ → Bool) (k a : ℕ) → 2 ^ k - 1 - packed f k a ≡ packed (λ j. not (f j)) k a
unfolding packed
packed_not f zero a = refl
packed_not f (suc k) a =
    let h = packed_not f k (a + 1) in
    let l = packed_lt f k (a + 1) in
    let o = flipped (f a) in
    omega (arith, pow-suc 2 k)

one_of : (x : ℕ) → x < 2 → one (eqb x 1) ≡ x
one_of zero h = refl
one_of (suc zero) h = refl
one_of (suc (suc x)) h = absurd (omega arith)

-- digit j of a byte and those above it
byte_from : (bs : List ℕ) (i m j : ℕ) → j + m ≡ 8 → get_or bs i 0 < 256 → get_or bs i 0 / 2 ^ j ≡ packed (bit bs) m (8 * i + j)
unfolding packed
byte_from bs i zero j e h =
    let q : j ≡ 8 = omega arith in
    ap (λ n. get_or bs i 0 / 2 ^ n) q ∙ (omega arith)
byte_from bs i (suc m) j e h =
    let x : ℕ = get_or bs i 0 / 2 ^ j in
    let p : (8 * i + j) / 8 ≡ i = omega arith in
    let q : (8 * i + j) % 8 ≡ j = omega arith in
    let r : 8 * i + (j + 1) ≡ 8 * i + j + 1 = omega arith in
    let d : one (bit bs (8 * i + j)) ≡ x % 2 = ap₂ (λ u v. one (eqb (get_or bs u 0 / 2 ^ v % 2) 1)) p q ∙ one_of (x % 2) (omega arith) in
    let rest : x / 2 ≡ packed (bit bs) m (8 * i + j + 1) = shr-shr (get_or bs i 0) j 1 ∙ byte_from bs i m (j + 1) (omega arith) h ∙ ap (packed (bit bs) m) r in
    omega arith

pub byte_packed : (bs : List ℕ) (i : ℕ) → get_or bs i 0 < 256 → get_or bs i 0 ≡ packed (bit bs) 8 (8 * i)
byte_packed bs i h =
    let q : 8 * i + 0 ≡ 8 * i = omega arith in
    let z : get_or bs i 0 ≡ get_or bs i 0 / 1 = omega arith in
    z ∙ byte_from bs i 8 0 refl h ∙ ap (packed (bit bs) 8) q

-- eight bytes
pub word_packed : (ws bs : List ℕ) (p : ℕ) → ((j : ℕ) → j < 8 → get_or ws j 0 ≡ get_or bs (p + j) 0) → ((j : ℕ) → j < 8 → get_or bs (p + j) 0 < 256) →
    get_or ws 0 0 + get_or ws 1 0 * 256 + get_or ws 2 0 * 65536 + get_or ws 3 0 * 16777216 + get_or ws 4 0 * 4294967296 + get_or ws 5 0 * 1099511627776 + get_or ws 6 0 * 281474976710656 + get_or ws 7 0 * 72057594037927936
    ≡ packed (bit bs) 64 (8 * p)
word_packed ws bs p same h =
    let b : (j : ℕ) → j < 8 → get_or ws j 0 ≡ packed (bit bs) 8 (8 * p + 8 * j) = λ j l. same j l ∙ byte_packed bs (p + j) (h j l) ∙ (let q : 8 * (p + j) ≡ 8 * p + 8 * j = omega arith in ap (packed (bit bs) 8) q) in
    let a0 : 8 * p + 0 ≡ 8 * p = omega arith in
    let b0 : get_or ws 0 0 ≡ packed (bit bs) 8 (8 * p) = b 0 (omega arith) ∙ ap (packed (bit bs) 8) a0 in
    let s1 = packed_split (bit bs) 8 56 (8 * p) in
    let s2 = packed_split (bit bs) 8 48 (8 * p + 8) in
    let s3 = packed_split (bit bs) 8 40 (8 * p + 16) in
    let s4 = packed_split (bit bs) 8 32 (8 * p + 24) in
    let s5 = packed_split (bit bs) 8 24 (8 * p + 32) in
    let s6 = packed_split (bit bs) 8 16 (8 * p + 40) in
    let s7 = packed_split (bit bs) 8 8 (8 * p + 48) in
    let a2 : 8 * p + 8 + 8 ≡ 8 * p + 16 = omega arith in
    let a3 : 8 * p + 16 + 8 ≡ 8 * p + 24 = omega arith in
    let a4 : 8 * p + 24 + 8 ≡ 8 * p + 32 = omega arith in
    let a5 : 8 * p + 32 + 8 ≡ 8 * p + 40 = omega arith in
    let a6 : 8 * p + 40 + 8 ≡ 8 * p + 48 = omega arith in
    let a7 : 8 * p + 48 + 8 ≡ 8 * p + 56 = omega arith in
    omega (
      arith,
      b 1 (omega arith),
      b 2 (omega arith),
      b 3 (omega arith),
      b 4 (omega arith),
      b 5 (omega arith),
      b 6 (omega arith),
      b 7 (omega arith),
      ap (packed (bit bs) 48) a2,
      ap (packed (bit bs) 40) a3,
      ap (packed (bit bs) 32) a4,
      ap (packed (bit bs) 24) a5,
      ap (packed (bit bs) 16) a6,
      ap (packed (bit bs) 8) a7,
    )

-- the digits below the lowest one that is set
trailing_step : (f : ℕ → Bool) (w k a : ℕ) → count_trailing_zeros (suc w) (packed f (suc k) a) ≡ under (one (f a)) (count_trailing_zeros w (packed f k (a + 1)))
unfolding packed count_trailing_zeros
trailing_step f w k a = ap₂ (λ x y. under x (count_trailing_zeros w y)) (half (f a) (packed f k (a + 1))).1 (half (f a) (packed f k (a + 1))).0

clear_first : (t : Bool) (n : ℕ) → 0 < under (one t) n → t ≡ false
clear_first true n h = absurd (omega arith)
clear_first false n h = refl

clear_rest : (t : Bool) (n j : ℕ) → suc j < under (one t) n → j < n
clear_rest true n j h = absurd (omega arith)
clear_rest false n j h = omega arith

pub trailing_clear : (f : ℕ → Bool) (w k a : ℕ) → k ≤ w → (j : ℕ) → j < count_trailing_zeros w (packed f k a) → j < k → f (a + j) ≡ false
trailing_clear f w zero a h j l m = absurd (omega arith)
trailing_clear f zero (suc k) a h j l m = absurd (omega arith)
trailing_clear f (suc w) (suc k) a h zero l m =
    let q : a + 0 ≡ a = omega arith in
    ap f q ∙ clear_first (f a) (count_trailing_zeros w (packed f k (a + 1))) (subst (λ n. 0 < n) (trailing_step f w k a) l)
trailing_clear f (suc w) (suc k) a h (suc j) l m =
    let q : a + suc j ≡ a + 1 + j = omega arith in
    ap f q ∙ trailing_clear f w k (a + 1) (omega arith) j (clear_rest (f a) (count_trailing_zeros w (packed f k (a + 1))) j (subst (λ n. suc j < n) (trailing_step f w k a) l)) (omega arith)

inside_step : (t : Bool) (x n k : ℕ) → 0 < one t + 2 * x → (0 < x → n < k) → under (one t) n < suc k
inside_step true x n k p h = omega arith
inside_step false x n k p h = let l = h (omega arith) in omega arith

pub trailing_inside : (f : ℕ → Bool) (w k a : ℕ) → k ≤ w → 0 < packed f k a → count_trailing_zeros w (packed f k a) < k
unfolding packed
trailing_inside f w zero a h p = absurd (omega arith)
trailing_inside f zero (suc k) a h p = absurd (omega arith)
trailing_inside f (suc w) (suc k) a h p =
    subst (λ n. n < suc k) (sym (trailing_step f w k a)) (inside_step (f a) (packed f k (a + 1)) (count_trailing_zeros w (packed f k (a + 1))) k p (λ q. trailing_inside f w k (a + 1) (omega arith) q))

packed_none : (k a : ℕ) → packed (λ _. false) k a ≡ 0
unfolding packed
packed_none zero a = refl
packed_none (suc k) a = ap (λ x. 0 + 2 * x) (packed_none k (a + 1))

-- where no digit is set, none of the tests is true
pub packed_clear : (f : ℕ → Bool) (k a : ℕ) → packed f k a ≡ 0 → (j : ℕ) → a ≤ j → j < a + k → f j ≡ false
packed_clear f k a e j l m = packed-same f (λ _. false) k a (e ∙ sym (packed_none k a)) j l m

pub packed_first : (f : ℕ → Bool) (k a : ℕ) → packed f (suc k) a ≡ one (f a) + 2 * packed f k (a + 1)
unfolding packed
packed_first f k a = refl

-- one more slot in front
pub packed_front : (f : ℕ → Bool) (end at : ℕ) → 0 < at → at ≤ end → packed f (end - (at - 1)) (at - 1) ≡ one (f (at - 1)) + 2 * packed f (end - at) at
packed_front f end at p q =
    let e : end - (at - 1) ≡ suc (end - at) = omega arith in
    let g : at - 1 + 1 ≡ at = omega arith in
    ap (λ k. packed f k (at - 1)) e ∙ packed_first f (end - at) (at - 1) ∙ ap (λ i. one (f (at - 1)) + 2 * packed f (end - at) i) g

-- one more byte in front
pub byte_front : (bs : List ℕ) (end at : ℕ) → 0 < at → at ≤ end → get_or bs (at - 1) 0 < 256 → packed (bit bs) (8 * (end - (at - 1))) (8 * (at - 1)) ≡ get_or bs (at - 1) 0 + 256 * packed (bit bs) (8 * (end - at)) (8 * at)
byte_front bs end at p q h =
    let e : 8 * (end - (at - 1)) ≡ 8 + 8 * (end - at) = omega arith in
    let g : 8 * (at - 1) + 8 ≡ 8 * at = omega arith in
    omega (
      arith,
      ap (λ k. packed (bit bs) k (8 * (at - 1))) e,
      packed_split (bit bs) 8 (8 * (end - at)) (8 * (at - 1)),
      ap (packed (bit bs) (8 * (end - at))) g,
      byte_packed bs (at - 1) h,
    )

pub packed_zero : (f : ℕ → Bool) (k a : ℕ) → k ≡ 0 → packed f k a ≡ 0
unfolding packed
packed_zero f k a e = ap (λ n. packed f n a) e

pub packed_small : (f : ℕ → Bool) (k m a : ℕ) → k ≤ m → packed f k a < 2 ^ m
packed_small f k m a h = let p = packed_lt f k a in let q : 2 ^ k ≤ 2 ^ m = pow_mono h in omega arith
