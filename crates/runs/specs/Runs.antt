-- Records of a level and a count, and the levels that they stand for.
use Rattle.std.specs.Prelude.{◌≡◌, ℕ, zero, suc, ◌+◌, ◌<◌, List, [], ◌∷◌, length, take, replicate, ℤ, pos, slice_index_or}
use Rattle.std.proofs.Common.{ap₂}
use Rattle.std.specs.List.{flat_map, All}
use Rattle.store.specs.declared.reading.Spot.{Spot}
use Rattle.runs.specs.declared.Run.{Run}

abbrev pub spread : List Run → List ℤ
spread items = flat_map (λ r. replicate r.count r.level) items

-- each record stands for one level at least
abbrev pub NoneEmpty : List Run → Type 0
NoneEmpty items = All (λ r. 0 < r.count) items

-- the level at a place is in the record at the spot's index, and offset levels of that record are behind it
pub record Located (items : List Run) (place : ℕ) (t : Spot) : Type 0 where
  pub within : t.index < length items
  pub at : place + (t.offset + 1) ≡ length (spread (take (t.index + 1) items))
  pub inside : (d : Run) → t.offset < (slice_index_or items t.index d).count

-- the record of a vacated place
abbrev pub no_run : Run
no_run = record { level = pos 0; count = 0 }

-- it is the only one with a default level and a default count
pub only_run : (r : Run) → (r.level ≡ pos 0) × (r.count ≡ 0) → r ≡ no_run
only_run r default = ap₂ (λ level count. record { level = level; count = count }) default.0 default.1

-- a record that stands for no level is left out
abbrev pub unless_empty : ℤ → ℕ → List Run
unless_empty level zero = []
unless_empty level (suc n) = record { level = level; count = suc n } ∷ []
