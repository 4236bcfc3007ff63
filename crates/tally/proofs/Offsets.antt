-- Offsets that rise.
use Rattle.std.proofs.Common.{◌≡◌, ℕ, zero, suc, ◌+◌, ◌<◌, ◌≤◌, true, false, eqb, List, map, length, get_or, take, drop, ℤ, pos, negsuc, nat_abs, sym, refl, ap, ◌∙◌, subst, inl, inr, arith, w64, Fits, to_z, of_z, eq-eqb, ne_eqb}
use native.Mathlib.Decide.{dec_lt}
use lib.Signed.{le_z}
use Rattle.std.proofs.lemmas.List.{get_or-map, get_or-take, get_or-drop, length-take, length-drop}
use Rattle.std.proofs.lemmas.Int.{of_z-to_z}
use Rattle.std.proofs.lemmas.Bool.{leb-true, cases_eq}
use Rattle.rows.specs.Rows.{one}
use Rattle.tally.specs.Reaching.{place_at, empties, Rises}

never : {A : Type 0} → true ≡ false → A
never e = absurd cc

pub not_negative : (x : ℤ) → le_z (pos 0) x ≡ true → x ≡ pos (nat_abs x)
not_negative (pos a) h = refl
not_negative (negsuc a) h = never (sym h)

-- what is not below such a number is none below zero either
pub not_falling : (x y : ℤ) → x ≡ pos (nat_abs x) → le_z x y ≡ true → (y ≡ pos (nat_abs y)) × (nat_abs x ≤ nat_abs y)
not_falling (pos a) (pos b) e h = (refl, leb-true a b h)
not_falling (pos a) (negsuc b) e h = never (sym h)
not_falling (negsuc a) y e h = absurd cc

same_place : (x y : ℤ) → x ≡ pos (nat_abs x) → y ≡ pos (nat_abs y) → nat_abs x ≡ nat_abs y → x ≡ y
same_place x y p q e = p ∙ ap pos e ∙ sym q

pub value_at : {X : Type 0} (value : X → ℤ) (xs : List X) (at : ℕ) (x : X) → at < length xs → x ≡ get_or xs at x → value x ≡ get_or (map value xs) at (pos 0)
value_at value xs at x l e = ap value e ∙ sym (get_or-map value xs at x (pos 0) l)

-- an item of so many from a place on
pub item_at : {X : Type 0} (xs : List X) (a n m : ℕ) (x : X) → m < length (take n (drop a xs)) → x ≡ get_or (take n (drop a xs)) m x → (m < n) × (a + m < length xs) × (x ≡ get_or xs (a + m) x)
item_at {X} xs a n m x l e =
    let p = length-take n (drop a xs) in
    let q = length-drop a xs in
    let h : m < n = omega arith in
    (h, omega arith, e ∙ get_or-take n (drop a xs) m x h ∙ get_or-drop a xs m x)

-- two tests that mean the same
same_test : (a b p q : ℕ) → (a ≡ b → p ≡ q) → (p ≡ q → a ≡ b) → eqb a b ≡ eqb p q
same_test a b p q f g = elim (cases_eq a b) [ inl e ↦ eq-eqb a b e ∙ sym (eq-eqb p q (f e)) | inr n ↦ ne_eqb a b n ∙ sym (ne_eqb p q (λ e. n (g e))) ]

-- the test of two offsets, of which neither is below zero, by their bits
pub same_bits : (x y : ℤ) (n : ℕ) → Fits w64 n → to_z w64 n ≡ x → to_z w64 (of_z w64 y) ≡ y → x ≡ pos (nat_abs x) → y ≡ pos (nat_abs y) → eqb (of_z w64 y) n ≡ eqb (nat_abs x) (nat_abs y)
same_bits x y n fits last next p q =
    same_test (of_z w64 y) n (nat_abs x) (nat_abs y) (λ e. ap nat_abs (sym last ∙ ap (to_z w64) (sym e) ∙ next))
    (λ e. ap (of_z w64) (sym (same_place x y p q e) ∙ sym last) ∙ of_z-to_z w64 n (omega arith))

module _ (os : List ℤ) where
  pub rises_none : get_or os 0 (pos 0) ≡ pos (place_at os 0) → Rises os 0 0
  rises_none e = record {
    whole = λ j l m. let q : j ≡ 0 = omega arith in subst (λ n. get_or os n (pos 0) ≡ pos (place_at os n)) (sym q) e;
    up = λ j l m. absurd (omega arith);
  }

  pub rises_more : (c : ℕ) → Rises os 0 c → get_or os (c + 1) (pos 0) ≡ pos (place_at os (c + 1)) → place_at os c ≤ place_at os (c + 1) → Rises os 0 (c + 1)
  rises_more c r w u = record {
    whole = λ i l m. elim (dec_lt c i) [ yes p ↦ (let q : i ≡ c + 1 = omega arith in subst (λ n. get_or os n (pos 0) ≡ pos (place_at os n)) (sym q) w) | no p ↦ r.whole i l (omega arith) ];
    up = λ i l m. elim (dec_lt i c) [ yes p ↦ r.up i l (omega arith) | no p ↦ (let q : i ≡ c = omega arith in subst (λ n. place_at os n ≤ place_at os (n + 1)) (sym q) u) ];
  }

empties_last : (os : List ℤ) (c at : ℕ) → empties os (c + 1) at ≡ empties os c at + one (eqb (place_at os (at + c)) (place_at os (at + c + 1)))
empties_last os zero at = let q : at + 0 ≡ at = omega arith in omega (arith, ap (λ n. one (eqb (place_at os n) (place_at os (n + 1)))) q)
empties_last os (suc c) at =
    let p : suc c + 1 ≡ suc (c + 1) = omega arith in
    let q : at + 1 + c ≡ at + suc c = omega arith in
    ap (λ n. empties os n at) p ∙ ap (λ x. one (eqb (place_at os at) (place_at os (at + 1))) + x) (empties_last os c (at + 1) ∙ ap (λ n. empties os c (at + 1) + one (eqb (place_at os n) (place_at os (n + 1)))) q) ∙ omega arith

pub empties_more : (os : List ℤ) (c : ℕ) → empties os (c + 1) 0 ≡ empties os c 0 + one (eqb (place_at os c) (place_at os (c + 1)))
empties_more os c = let q : 0 + c ≡ c = omega arith in empties_last os c 0 ∙ ap (λ n. empties os c 0 + one (eqb (place_at os n) (place_at os (n + 1)))) q

pub rises_all : (os : List ℤ) (at c : ℕ) → Rises os at c → (j m : ℕ) → at ≤ j → j + m ≤ at + c → place_at os j ≤ place_at os (j + m)
rises_all os at c r j zero l h = let q : j + zero ≡ j = omega arith in subst (λ i. place_at os j ≤ place_at os i) (sym q) (omega arith)
rises_all os at c r j (suc m) l h =
    let q : j + 1 + m ≡ j + suc m = omega arith in
    let u : place_at os j ≤ place_at os (j + 1) = r.up j l (omega arith) in
    let v : place_at os (j + 1) ≤ place_at os (j + 1 + m) = rises_all os at c r (j + 1) m (omega arith) (omega arith) in
    subst (λ i. place_at os j ≤ place_at os i) q (omega arith)
