-- The words of a text are the pieces between its blanks that are not empty. Assumes nothing.
use Rattle.std.proofs.Common.{◌≡◌, ℕ, Bool, true, false, cond, not, eqb, List, [], ◌∷◌, ◌++◌, length, sym, refl, ap, ◌∙◌, rules}
use Rattle.std.specs.List.{filter, slice_split, onto_first}
use Rattle.std.proofs.lemmas.List.{append-nil, append_assoc}
use Rattle.words.specs.Words.{blank, ended, parted}

-- a piece is a word where it is not empty
abbrev pub some_bytes : List ℕ → Bool
some_bytes bs = not (eqb (length bs) 0)

-- the bytes of a word so far stand before the first piece
abbrev onto : List ℕ → List (List ℕ) → List (List ℕ)
onto word [] = word ∷ []
onto word (p ∷ ps) = (word ++ p) ∷ ps

onto-onto_first : (word : List ℕ) (b : ℕ) (ps : List (List ℕ)) → onto word (onto_first b ps) ≡ onto (word ++ (b ∷ [])) ps
onto-onto_first word b [] = refl
onto-onto_first word b (p ∷ ps) = ap (λ (t : List ℕ). t ∷ ps) (sym (append_assoc word (b ∷ []) p))

onto_nothing : (ends : Bool) (b : ℕ) (ps : List (List ℕ)) → onto [] (cond ends ([] ∷ ps) (onto_first b ps)) ≡ cond ends ([] ∷ ps) (onto_first b ps)
onto_nothing true b ps = refl
onto_nothing false b [] = refl
onto_nothing false b (p ∷ ps) = refl

onto_none : (bs : List ℕ) → onto [] (slice_split blank bs) ≡ slice_split blank bs
onto_none [] = refl
onto_none (b ∷ bs) = onto_nothing (blank b) b (slice_split blank bs)

filter-ended : (word : List ℕ) (ps : List (List ℕ)) → filter some_bytes (word ∷ ps) ≡ ended word ++ filter some_bytes ps
filter-ended [] ps = refl
filter-ended (b ∷ bs) ps =
    let some : eqb (length (b ∷ bs)) 0 ≡ false = search rules in
    ap (λ (none : Bool). cond (not none) ((b ∷ bs) ∷ filter some_bytes ps) (filter some_bytes ps)) some

one_byte : (ends : Bool) (word : List ℕ) (b : ℕ) (ps more longer : List (List ℕ)) → filter some_bytes ps ≡ more → filter some_bytes (onto (word ++ (b ∷ [])) ps) ≡ longer
    → filter some_bytes (onto word (cond ends ([] ∷ ps) (onto_first b ps))) ≡ cond ends (ended word ++ more) longer
one_byte true word b ps more longer h k = ap (λ (w : List ℕ). filter some_bytes (w ∷ ps)) (append-nil word) ∙ filter-ended word ps ∙ ap (λ (t : List (List ℕ)). ended word ++ t) h
one_byte false word b ps more longer h k = ap (filter some_bytes) (onto-onto_first word b ps) ∙ k

filter-onto : (word : List ℕ) (bs : List ℕ) → filter some_bytes (onto word (slice_split blank bs)) ≡ parted word bs
filter-onto word [] = filter-ended (word ++ []) [] ∙ append-nil (ended (word ++ [])) ∙ ap ended (append-nil word)
filter-onto word (b ∷ bs) =
    one_byte (blank b) word b (slice_split blank bs) (parted [] bs) (parted (word ++ (b ∷ [])) bs) (ap (filter some_bytes) (sym (onto_none bs)) ∙ filter-onto [] bs) (filter-onto (word ++ (b ∷ [])) bs)

pub parted_is : (bs : List ℕ) → filter some_bytes (slice_split blank bs) ≡ parted [] bs
parted_is bs = ap (filter some_bytes) (sym (onto_none bs)) ∙ filter-onto [] bs
