-- Sizes add up.
use Rattle.std.proofs.Common.{◌≡◌, ℕ, zero, suc, ◌+◌, ◌-◌, ◌<◌, ◌≤◌, Bool, true, false, Some, None, sym, refl, ap, ◌∙◌, ap₂, arith}
use Rattle.rows.specs.Rows.{one}
use Rattle.reading.specs.Packed.{count_of}
use Rattle.tally.specs.Sizes.{Size, ◌plus◌, each_size, spread_size}

pub zero_plus : (x : Size) → Some (0, 0) plus x ≡ x
zero_plus None = refl
zero_plus (Some x) = let p : 0 + x.0 ≡ x.0 = omega arith in let q : 0 + x.1 ≡ x.1 = omega arith in ap₂ (λ a b. Some (a, b)) p q

pub plus_zero : (x : Size) → x plus Some (0, 0) ≡ x
plus_zero None = refl
plus_zero (Some x) = let p : x.0 + 0 ≡ x.0 = omega arith in let q : x.1 + 0 ≡ x.1 = omega arith in ap₂ (λ a b. Some (a, b)) p q

plus_assoc : (x y z : Size) → (x plus y) plus z ≡ x plus (y plus z)
plus_assoc None y z = refl
plus_assoc (Some x) None z = refl
plus_assoc (Some x) (Some y) None = refl
plus_assoc (Some x) (Some y) (Some z) =
    let p : x.0 + y.0 + z.0 ≡ x.0 + (y.0 + z.0) = omega arith in
    let q : x.1 + y.1 + z.1 ≡ x.1 + (y.1 + z.1) = omega arith in
    ap₂ (λ a b. Some (a, b)) p q

-- bare entries first
pub shuffle : (m n : ℕ) (x y : Size) → (Some (m, 0) plus x) plus (Some (n, 0) plus y) ≡ Some (m + n, 0) plus (x plus y)
shuffle m n None y = refl
shuffle m n (Some x) None = refl
shuffle m n (Some x) (Some y) =
    let p : m + x.0 + (n + y.0) ≡ m + n + (x.0 + y.0) = omega arith in
    let q : 0 + x.1 + (0 + y.1) ≡ 0 + (x.1 + y.1) = omega arith in
    ap₂ (λ a b. Some (a, b)) p q

pub size_split : (f : ℕ → Size) (m n a : ℕ) → each_size f (m + n) a ≡ each_size f m a plus each_size f n (a + m)
size_split f zero n a =
    let p : zero + n ≡ n = omega arith in
    let q : a ≡ a + zero = omega arith in
    ap₂ (λ k i. each_size f k i) p q ∙ sym (zero_plus (each_size f n (a + zero)))
size_split f (suc m) n a =
    let p : suc m + n ≡ suc (m + n) = omega arith in
    let q : a + 1 + m ≡ a + suc m = omega arith in
    ap (λ k. each_size f k a) p ∙ ap (λ t. f a plus t) (size_split f m n (a + 1)) ∙ sym (plus_assoc (f a) (each_size f m (a + 1)) (each_size f n (a + 1 + m))) ∙ ap (λ i. (f a plus each_size f m (a + 1)) plus each_size f n i) q

-- some slots more behind those from `from` on
pub size_on : (f : ℕ → Size) (from i c : ℕ) → from ≤ i → each_size f (i + c - from) from ≡ each_size f (i - from) from plus each_size f c i
size_on f from i c le =
    let p : i + c - from ≡ i - from + c = omega arith in
    let q : from + (i - from) ≡ i = omega arith in
    ap (λ n. each_size f n from) p ∙ size_split f (i - from) c from ∙ ap (λ n. each_size f (i - from) from plus each_size f c n) q

pub each_ext : (f g : ℕ → Size) (c a : ℕ) → ((j : ℕ) → a ≤ j → j < a + c → f j ≡ g j) → each_size f c a ≡ each_size g c a
each_ext f g zero a h = refl
each_ext f g (suc c) a h = ap₂ (λ x y. x plus y) (h a (omega arith) (omega arith)) (each_ext f g c (a + 1) (λ j l m. h j (omega arith) (omega arith)))

pub each_null : (f : ℕ → Size) (c a : ℕ) → ((j : ℕ) → a ≤ j → j < a + c → f j ≡ Some (1, 0)) → each_size f c a ≡ Some (c, 0)
each_null f zero a h = refl
each_null f (suc c) a h =
    let p : 1 + c ≡ suc c = omega arith in
    ap₂ (λ x y. x plus y) (h a (omega arith) (omega arith)) (each_null f c (a + 1) (λ j l m. h j (omega arith) (omega arith))) ∙ ap (λ x. Some (x, 0)) p

-- slots of one entry each, with a value where a test is true
pub each_tested : (f : ℕ → Size) (test : ℕ → Bool) (c a : ℕ) → ((j : ℕ) → a ≤ j → j < a + c → f j ≡ Some (1, one (test j))) → each_size f c a ≡ Some (c, count_of test c a)
each_tested f test zero a h = refl
each_tested f test (suc c) a h =
    let p : 1 + c ≡ suc c = omega arith in
    ap₂ (λ x y. x plus y) (h a (omega arith) (omega arith)) (each_tested f test c (a + 1) (λ j l m. h j (omega arith) (omega arith))) ∙ ap (λ x. Some (x, one (test a) + count_of test c (a + 1))) p

one_le : (t : Bool) (x k : ℕ) → x ≤ k → one t + x ≤ suc k
one_le true x k h = omega arith
one_le false x k h = omega arith

pub count_le : (test : ℕ → Bool) (c a : ℕ) → count_of test c a ≤ c
count_le test zero a = omega arith
count_le test (suc c) a = one_le (test a) (count_of test c (a + 1)) c (count_le test c (a + 1))

pub spread-some : (f : ℕ → Size) (a c : ℕ) → 0 < c → spread_size f a c ≡ each_size f c a
spread-some f a zero h = absurd (omega arith)
spread-some f a (suc c) h = refl
