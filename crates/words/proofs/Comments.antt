-- A comment is found at the first '#'. Assumes nothing.
use Rattle.std.proofs.Common.{◌≡◌, ℕ, ◌+◌, ◌≤◌, Bool, true, false, cond, not, eqb, ltb, List, [], ◌∷◌, length, take, Some, None, sym, refl, ap, ◌∙◌, arith}
use Rattle.std.specs.List.{before_first, position_or_len, position}
use Rattle.std.proofs.lemmas.List.{take_all}
use Rattle.std.proofs.lemmas.Bool.Decides.{nat_tests}
use Rattle.std.proofs.lemmas.Grind.{common_steps}
use Rattle.words.specs.Words.{uncommented}

one_byte : (hash : Bool) (b n : ℕ) (bs : List ℕ) → take (cond (not hash) (1 + n) 0) (b ∷ bs) ≡ cond hash [] (b ∷ take n bs)
one_byte true b n bs = refl
one_byte false b n bs = grind (arith, common_steps)

before_first-hash : (bs : List ℕ) → before_first (λ b. eqb b 35) bs ≡ uncommented bs
before_first-hash [] = refl
before_first-hash (b ∷ bs) =
    one_byte (eqb b 35) b (position_or_len (λ b. eqb b 35) bs) bs ∙ ap (λ (t : List ℕ). cond (eqb b 35) [] (b ∷ t)) (before_first-hash bs)

place : (found : Bool) (i n : ℕ) → Some i ≡ cond found (Some n) None → i ≡ n
place true i n e = cc
place false i n e = cc

no_place : (len n : ℕ) → None ≡ cond (ltb n len) (Some n) None → len ≤ n
no_place len n e = grind (arith, nat_tests)

-- what `position` says of it
pub cut_at : (bs : List ℕ) (i : ℕ) → Some i ≡ position (λ b. eqb b 35) bs → take i bs ≡ uncommented bs
cut_at bs i e = ap (λ (n : ℕ). take n bs) (place _ i _ e) ∙ before_first-hash bs

pub cut_nowhere : (bs : List ℕ) → None ≡ position (λ b. eqb b 35) bs → bs ≡ uncommented bs
cut_nowhere bs e = sym (take_all _ bs (no_place (length bs) _ e)) ∙ before_first-hash bs
