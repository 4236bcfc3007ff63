-- What `==` says of two texts. Assumes nothing.
use Rattle.std.proofs.Common.{◌≡◌, ℕ, Bool, true, false, cond, eqb, ◌&&◌, List, [], ◌∷◌, refl, ap, ◌∙◌}
use Rattle.std.specs.Str.{bytes_eq}
use Rattle.words.specs.Words.{same}

one_byte : (b c : Bool) → (b && c) ≡ cond b c false
one_byte true c = refl
one_byte false c = refl

pub bytes_eq_is_same : (bs ds : List ℕ) → bytes_eq bs ds ≡ same bs ds
bytes_eq_is_same [] [] = refl
bytes_eq_is_same [] (d ∷ ds) = refl
bytes_eq_is_same (b ∷ bs) [] = refl
bytes_eq_is_same (b ∷ bs) (d ∷ ds) = one_byte (eqb b d) (bytes_eq bs ds) ∙ ap (λ (t : Bool). cond (eqb b d) t false) (bytes_eq_is_same bs ds)
