-- The first word that is none of the keys', by its place. Assumes nothing.
use Rattle.std.proofs.Common.{◌≡◌, ℕ, suc, ◌+◌, ◌-◌, ◌^◌, min, Bool, true, false, cond, not, ltb, ◌||◌, List, [], ◌∷◌, map, length, is_some, Some, None, Option, sym, refl, ap, ◌∙◌, subst, arith, Bor}
use Rattle.std.specs.List.{list_any, position, position_or_len}
use Rattle.std.proofs.lemmas.Bool.Decides.{nat_tests}
use Rattle.line_fault.specs.declared.Key.{Key}
use Rattle.line_fault.specs.declared.LineFault.TheVariants.{Misplaced}
use Rattle.keyed.specs.Keyed.{value_of, one_of, misplaced, Told}

one_key : (b c : Bool) → (b || c) ≡ cond b true c
one_key true c = refl
one_key false c = refl

pub list_any-one_of : (keys : List Key) (word : List ℕ) → list_any (λ key. is_some (value_of key word)) keys ≡ one_of keys word
list_any-one_of [] word = refl
list_any-one_of (key ∷ keys) word =
    one_key (is_some (value_of key word)) (list_any (λ key. is_some (value_of key word)) keys) ∙ ap (λ (b : Bool). cond (is_some (value_of key word)) true b) (list_any-one_of keys word)

abbrev pub is_other : List Key → Bor (List ℕ) → Bool
is_other keys w = not (one_of keys w.now)

one_word : (fits : Bool) (n k len : ℕ) (later : Option ℕ) → later ≡ cond (ltb k len) (Some (n + 1 + (k + 1))) None
    → cond fits later (Some (n + 1)) ≡ cond (ltb (cond (not (not fits)) (1 + k) 0) (suc len)) (Some (n + (cond (not (not fits)) (1 + k) 0 + 1))) None
one_word true n k len later h = grind (arith, nat_tests)
one_word false n k len later h = grind (arith, nat_tests)

misplaced-is : (keys : List Key) (n : ℕ) (ws : List (Bor (List ℕ))) → misplaced keys n (map (λ w. w.now) ws) ≡ cond (ltb (position_or_len (is_other keys) ws) (length ws)) (Some (n + (position_or_len (is_other keys) ws + 1))) None
misplaced-is keys n [] = refl
misplaced-is keys n (w ∷ ws) = one_word (one_of keys w.now) n (position_or_len (is_other keys) ws) (length ws) _ (misplaced-is keys (n + 1) ws)

place : (found : Bool) (i k before : ℕ) → Some i ≡ cond found (Some k) None → cond found (Some (before + (k + 1))) None ≡ Some (before + (i + 1))
place true i k before e = ap (λ (n : ℕ). Some (before + (n + 1))) (sym (cc))
place false i k before e = absurd (cc)

no_place : (found : Bool) (k before : ℕ) → None ≡ cond found (Some k) None → cond found (Some (before + (k + 1))) None ≡ None
no_place true k before e = absurd (cc)
no_place false k before e = refl

pub told_at : (keys : List Key) (before : ℕ) (ws : List (Bor (List ℕ))) (said : List (List ℕ)) (i at : ℕ) → map (λ w. w.now) ws ≡ said → Some i ≡ position (is_other keys) ws → at ≡ min (before + (i + 1)) (2 ^ 64 - 1) → Told (misplaced keys before said) (Misplaced at)
told_at keys before ws said i at same found e =
    let first : Some (before + (i + 1)) ≡ misplaced keys before said = sym (place _ i _ before found) ∙ sym (misplaced-is keys before ws) ∙ ap (misplaced keys before) same in
    subst (λ (o : Option ℕ). Told o (Misplaced at)) first (ap (λ (n : ℕ). Misplaced n) e)

pub none_told : (keys : List Key) (before : ℕ) (ws : List (Bor (List ℕ))) (said : List (List ℕ)) → map (λ w. w.now) ws ≡ said → None ≡ position (is_other keys) ws → misplaced keys before said ≡ None
none_told keys before ws said same found = ap (misplaced keys before) (sym same) ∙ misplaced-is keys before ws ∙ no_place _ _ before found
