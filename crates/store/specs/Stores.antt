-- What the calls of a level store do, by what the store means. s is the store before a call and t after it.
-- A refusal leaves the store as it was.
use Rattle.std.specs.Prelude.{◌≡◌, ℕ, ◌+◌, ◌<◌, ◌≤◌, min, List, [], ◌++◌, length, take, replicate, ℤ, Option, Result, MatchOption, MatchResult, slice_index_or, slice_set}
use Rattle.store.specs.declared.refusal.Refusal.{Refusal}
use Rattle.store.specs.declared.refusal.Refusal.TheVariants.{Place, NoRoom}

-- the levels, first to last, and the most that there can be, which no call changes
pub record Meaning : Type 0 where
  pub levels : List ℤ
  pub most : ℕ

-- what a new store over some places means
abbrev pub Fresh : Meaning → ℕ → Type 0
Fresh m places = (m.levels ≡ []) × (m.most ≡ min places 2147483647)

module _ {S : Type 0} (meaning : S → Meaning) where
  -- a level stands count times behind the others
  pub record AddsLevels (s t : S) (level : ℤ) (count : ℕ) : Type 0 where
    pub room : length (meaning s).levels + count ≤ (meaning s).most
    pub levels : (meaning t).levels ≡ (meaning s).levels ++ replicate count level
    pub most : (meaning t).most ≡ (meaning s).most

  abbrev pub Appends : S → S → ℤ → ℕ → Result (Unit {0}) Refusal → Type 0
  Appends s t level count r =
      MatchResult r (λ _. AddsLevels s t level count) (λ e. (e ≡ NoRoom) × ((meaning s).most < length (meaning s).levels + count) × (t ≡ s))

  -- the level at a place is another
  pub record ReplacesLevel (s t : S) (place : ℕ) (level : ℤ) : Type 0 where
    pub inside : place < length (meaning s).levels
    pub levels : (meaning t).levels ≡ slice_set (meaning s).levels place level
    pub most : (meaning t).most ≡ (meaning s).most

  abbrev pub Puts : S → S → ℕ → ℤ → Result (Unit {0}) Refusal → Type 0
  Puts s t place level r =
      MatchResult r (λ _. ReplacesLevel s t place level) (λ e. (e ≡ Place) × (length (meaning s).levels ≤ place) × (t ≡ s))

  -- the first kept levels stay
  pub record KeepsLevels (s t : S) (kept : ℕ) : Type 0 where
    pub inside : kept ≤ length (meaning s).levels
    pub levels : (meaning t).levels ≡ take kept (meaning s).levels
    pub most : (meaning t).most ≡ (meaning s).most

  abbrev pub CutsBack : S → S → ℕ → Result (Unit {0}) Refusal → Type 0
  CutsBack s t kept r =
      MatchResult r (λ _. KeepsLevels s t kept) (λ e. (e ≡ Place) × (length (meaning s).levels < kept) × (t ≡ s))

-- wherever a reading is, it gives the level at that place and is at the next, or is past the levels and stays
abbrev pub Steps : {P : Type 0} → List ℤ → (P → ℕ → Type 0) → P → P → Option ℤ → Type 0
Steps xs stands p q r =
    (n : ℕ) → stands p n
    → MatchOption r ((length xs ≤ n) × (q ≡ p)) (λ x. (n < length xs) × ((d : ℤ) → x ≡ slice_index_or xs n d) × stands q (n + 1))
