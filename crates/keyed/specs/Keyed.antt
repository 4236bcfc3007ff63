-- The words KEY=VALUE of a statement, and what a part means. Assumes nothing.
use Rattle.std.specs.Prelude.{◌≡◌, ℕ, ◌+◌, ◌-◌, ◌^◌, min, Bool, true, false, cond, List, [], ◌∷◌, ◌++◌, is_some, Some, None, Ok, Err, Option, Result, ◌==◌}
use Rattle.std.specs.Borrow.{Bor}
use Rattle.line_fault.specs.Keys.{key_text}
use Rattle.line_fault.specs.declared.Key.{Key}
use Rattle.line_fault.specs.declared.LineFault.{LineFault}
use Rattle.line_fault.specs.declared.LineFault.TheVariants.{Twice, Misplaced}

-- what stands behind a front in a text that begins with it
abbrev pub after : List ℕ → List ℕ → Option (List ℕ)
after [] bs = Some bs
after (f ∷ fs) [] = None
after (f ∷ fs) (b ∷ bs) = cond (b == f) (after fs bs) None

abbrev pub further : List ℕ → Option (List ℕ) → Option (List ℕ)
further front None = None
further front (Some bs) = after front bs

-- the value of a word KEY=VALUE of that key
abbrev pub value_of : Key → List ℕ → Option (List ℕ)
value_of key word = further (61 ∷ []) (after (key_text key) word)

abbrev pub as_list : Option (List ℕ) → List (List ℕ)
as_list None = []
as_list (Some bs) = bs ∷ []

-- the values of all words of that key
abbrev pub values : Key → List (List ℕ) → List (List ℕ)
values key [] = []
values key (w ∷ ws) = as_list (value_of key w) ++ values key ws

abbrev pub Given : Key → List (List ℕ) → Result (Option (Bor (List ℕ))) LineFault → Type 0
Given key vs (Ok None) = vs ≡ []
Given key vs (Ok (Some v)) = vs ≡ v.now ∷ []
Given key vs (Err e) = (v : List ℕ) × (w : List ℕ) × (ws : List (List ℕ)) × (vs ≡ v ∷ w ∷ ws) × (e ≡ Twice key)

-- a part that one word gives means what that word's value does; none and several have answers of their own
abbrev pub Part : {X : Type 0} → (List ℕ → Result X LineFault → Type 0) → Result X LineFault → Key → List (List ℕ) → Result X LineFault → Type 0
Part means absent key [] r = r ≡ absent
Part means absent key (v ∷ []) r = means v r
Part means absent key (v ∷ w ∷ ws) r = r ≡ Err (Twice key)

-- a value that may be absent
abbrev pub Optional : {X : Type 0} → (List ℕ → Result X LineFault → Type 0) → List ℕ → Result (Option X) LineFault → Type 0
Optional means v (Ok None) = ⊥
Optional means v (Ok (Some x)) = means v (Ok x)
Optional means v (Err e) = means v (Err e)

-- a text that may be absent, as its bytes
abbrev pub Named : {X : Type 0} → (X → List ℕ) → List (List ℕ) → Option X → Type 0
Named bytes vs None = vs ≡ []
Named bytes vs (Some name) = vs ≡ bytes name ∷ []

-- whether a word is KEY=VALUE of one of the keys
abbrev pub one_of : List Key → List ℕ → Bool
one_of [] word = false
one_of (key ∷ keys) word = cond (is_some (value_of key word)) true (one_of keys word)

-- the place of the first word that is none of the keys', counted from 1, where `before` words stand before these
abbrev pub misplaced : List Key → ℕ → List (List ℕ) → Option ℕ
misplaced keys before [] = None
misplaced keys before (w ∷ ws) = cond (one_of keys w) (misplaced keys (before + 1) ws) (Some (before + 1))

-- the fault tells that place, or the largest number that it can hold
abbrev pub Told : Option ℕ → LineFault → Type 0
Told None e = ⊥
Told (Some place) e = e ≡ Misplaced (min place (2 ^ 64 - 1))
