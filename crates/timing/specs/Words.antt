-- What the words say that a timing program was called with. Assumes nothing.
use Rattle.std.specs.Prelude.{◌≡◌, ℕ, ◌≤◌, List, [], ◌∷◌, ◌⊎◌, min}
use Rattle.std.specs.List.{FoldsTo}
use Rattle.std.specs.Str.Parse.{IsNumeral, digits_value, without_leading_plus}
use Rattle.timing.specs.declared.Trials.{Trials}

-- the word is a number of at most so much
abbrev pub IsNumber : ℕ → List ℕ → Type 0
IsNumber most word = IsNumeral 10 (without_leading_plus word) × (digits_value 10 (without_leading_plus word) ≤ most)

-- that number, or another where it is none
abbrev pub NumberOr : ℕ → ℕ → List ℕ → ℕ → Type 0
NumberOr most other word n = (IsNumber most word × (n ≡ digits_value 10 (without_leading_plus word))) ⊎ ((IsNumber most word → ⊥) × (n ≡ other))

-- n is the last of the words that is a number, or 0
abbrev pub LastNumber : ℕ → List (List ℕ) → ℕ → Type 0
LastNumber most words n = FoldsTo (NumberOr most) 0 words n

-- the first word says how many items, and the last number behind it how many repeats
abbrev pub SayTrials : ℕ → List (List ℕ) → Trials → Type 0
SayTrials most [] t = (t.items ≡ 1000) × (t.repeats ≡ 0)
SayTrials most (first ∷ others) t = ((n : ℕ) × NumberOr 4294967295 1000 first n × (t.items ≡ min n 100000000)) × LastNumber most others t.repeats
