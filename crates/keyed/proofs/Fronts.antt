-- What `strip_prefix` leaves of a text. Assumes nothing.
use Rattle.std.proofs.Common.{◌≡◌, ℕ, ◌+◌, Bool, true, false, cond, eqb, ◌&&◌, List, [], ◌∷◌, length, take, drop, Some, None, Option, sym, refl, ap, ◌∙◌, Bor}
use Rattle.std.specs.Cmp.Lexicographic.{pointwise}
use Rattle.std.specs.Option.{MatchOption, option_copied}
use Rattle.keyed.specs.Keyed.{after}

one_byte : (b c : Bool) (o : Option (List ℕ)) → cond b (cond c o None) None ≡ cond (b && c) o None
one_byte true c o = refl
one_byte false c o = refl

after-is : (front bs : List ℕ) → after front bs ≡ cond (pointwise eqb (take (length front) bs) front) (Some (drop (length front) bs)) None
after-is [] bs = refl
after-is (f ∷ fs) [] = refl
after-is (f ∷ fs) (b ∷ bs) =
    ap (λ (o : Option (List ℕ)). cond (eqb b f) o None) (after-is fs bs) ∙ one_byte (eqb b f) (pointwise eqb (take (length fs) bs) fs) (Some (drop (length fs) bs))

pub stripped : (front bs : List ℕ) (r : Option (Bor (List ℕ))) → MatchOption r (pointwise eqb (take (length front) bs) front ≡ false) (λ x. (pointwise eqb (take (length front) bs) front ≡ true) × (x.now ≡ drop (length front) bs) × (length x.now + length front ≡ length bs)) → option_copied r ≡ after front bs
stripped front bs None h = sym (after-is front bs ∙ ap (λ (b : Bool). cond b (Some (drop (length front) bs)) None) h)
stripped front bs (Some x) h = ap (λ (t : List ℕ). Some t) h.1 ∙ sym (after-is front bs ∙ ap (λ (b : Bool). cond b (Some (drop (length front) bs)) None) h.0)
