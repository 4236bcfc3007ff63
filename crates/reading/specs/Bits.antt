-- Validity bits.
use Rattle.std.specs.Prelude.{◌≡◌, ℕ, ◌+◌, ◌*◌, ◌/◌, ◌%◌, ◌^◌, ◌<◌, ◌≤◌, Bool, true, cond, not, List, length, Some, None, Option, ◌==◌, slice_index}

-- validity bit b is bit b mod 8, from the lowest, of byte b div 8; 1 means valid
abbrev pub bit : List ℕ → ℕ → Bool
bit bytes b = slice_index bytes (b / 8) / 2 ^ (b % 8) % 2 == 1

-- slot i has the bit at the start plus i; without a start every slot is valid
abbrev pub valid_in : List ℕ → Option ℕ → ℕ → Bool
valid_in bytes None i = true
valid_in bytes (Some start) i = bit bytes (start + i)

-- slots that are not valid, or null, as one is
abbrev pub differs : Bool → (ℕ → Bool) → ℕ → Bool
differs there f i = cond there (not (f i)) (f i)

-- the bits of the first so many slots are in the bytes
abbrev pub BitsIn : List ℕ → ℕ → Option ℕ → Type 0
BitsIn bytes slots None = Unit {0}
BitsIn bytes slots (Some start) = start + slots ≤ 8 * length bytes

-- r slots from `from` on, below `end`, are valid or null as the first of them is
pub record SameRun (bytes : List ℕ) (start : Option ℕ) (from end r : ℕ) : Type 0 where
  pub some : 0 < r
  pub inside : from + r ≤ end
  pub same : (k : ℕ) → from ≤ k → k < from + r → valid_in bytes start k ≡ valid_in bytes start from
