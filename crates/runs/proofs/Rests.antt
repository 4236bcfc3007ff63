-- What is left of a list behind a place, and what a bound cuts of one.
use Rattle.std.proofs.Common.{◌≡◌, ℕ, zero, suc, ◌+◌, ◌<◌, ◌≤◌, min, List, [], ◌∷◌, ◌++◌, length, get_or, take, drop, ℤ, sym, ap, ◌∙◌, ⊎_elim, arith}
use Rattle.std.proofs.lemmas.List.{append-nil, length-append, length-drop, take_all, nil_from_length}
use Rattle.std.proofs.lemmas.Bool.{cases_lt}

pub rest_head : (xs : List ℤ) (n : ℕ) (x : ℤ) (ys : List ℤ) → drop n xs ≡ x ∷ ys → (n < length xs) × ((d : ℤ) → x ≡ get_or xs n d) × (drop (n + 1) xs ≡ ys)
rest_head [] zero x ys e = absurd (omega (arith, ap length e))
rest_head [] (suc n) x ys e = absurd (omega (arith, ap length e))
rest_head (z ∷ xs) zero x ys e = (omega arith, λ d. sym (ap (λ q. get_or q 0 d) e), ap (drop 1) e)
rest_head (z ∷ xs) (suc n) x ys e =
    let next = rest_head xs n x ys e in
    let k : suc n + 1 ≡ suc (n + 1) = omega arith in
    (omega (arith, next.0), next.1, ap (λ j. drop j (z ∷ xs)) k ∙ next.2)

pub rest_none : (xs : List ℤ) (n : ℕ) → drop n xs ≡ [] → length xs ≤ n
rest_none xs n e = omega (arith, ap length e, length-drop n xs)

pub take_grow : {A : Type 0} (m : ℕ) (xs zs : List A) → min (length xs) m + length zs ≤ m → take m (xs ++ zs) ≡ take m xs ++ zs
take_grow m xs zs h =
    ⊎_elim
    (λ (past : m < length xs).
    let none : length zs ≡ 0 = omega arith in
    ap (λ q. take m (xs ++ q)) (nil_from_length zs none) ∙ ap (take m) (append-nil xs) ∙ sym (ap (λ q. take m xs ++ q) (nil_from_length zs none) ∙ append-nil (take m xs)))
    (λ (all : length xs ≤ m).
    take_all m (xs ++ zs) (omega (arith, length-append xs zs)) ∙ ap (λ q. q ++ zs) (sym (take_all m xs all)))
    (cases_lt m (length xs))
