-- What a read at a place answers.
use Rattle.std.specs.Prelude.{◌≡◌, ℕ, ◌<◌, ◌≤◌, List, length, Result, MatchResult, slice_index_or}
use Rattle.store.specs.declared.refusal.Refusal.{Refusal}
use Rattle.store.specs.declared.refusal.Refusal.TheVariants.{Place}

-- what stands at a place, or the refusal where the list has no such place
abbrev pub Read : {T : Type 0} → List T → ℕ → Result T Refusal → Type 0
Read {T} xs place r =
    MatchResult r (λ x. (place < length xs) × ((d : T) → x ≡ slice_index_or xs place d)) (λ e. (e ≡ Place) × (length xs ≤ place))
