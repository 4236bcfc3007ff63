-- What a growing list stands for, and what its calls do.
use Rattle.std.specs.Prelude.{◌≡◌, ℕ, ◌+◌, ◌-◌, ◌<◌, ◌≤◌, min, ◌⊎◌, List, ◌∷◌, ◌++◌, length, take, drop, replicate, Result, MatchResult, slice_set}
use Rattle.std.proofs.Common.{arith}
use Rattle.std.proofs.lemmas.List.{length-take-le}
use Rattle.store.specs.declared.growing.GrowingList.{GrowingList}
use Rattle.store.specs.declared.refusal.Refusal.{Refusal}
use Rattle.store.specs.declared.refusal.Refusal.TheVariants.{Place, NoRoom}

module _ {T : Type 0} where
  -- all of the memory, past the list too
  abbrev pub list_memory : GrowingList T → List T
  list_memory g = g.memory.now

  -- the most elements that it can hold
  abbrev pub list_most : GrowingList T → ℕ
  list_most g = min (length (list_memory g)) 2147483647

  -- the list
  abbrev pub list_items : GrowingList T → List T
  list_items g = take g.count (list_memory g)

  pub items_long : (s : GrowingList T) → length (list_items s) ≡ s.count
  items_long s = length-take-le s.count (list_memory s) (omega arith)

  pub items-most : (s : GrowingList T) → (length (list_items s) ≤ list_most s) × (list_most s ≤ 2147483647)
  items-most s = (omega (arith, items_long s), omega arith)

  -- x is appended more times: the list grows, and the memory past it is untouched
  pub record Grown (s t : GrowingList T) (x : T) (more : ℕ) : Type 0 where
    pub room : length (list_items s) + more ≤ list_most s
    pub list : list_items t ≡ list_items s ++ replicate more x
    pub rest : drop (length (list_items s) + more) (list_memory t) ≡ drop (length (list_items s) + more) (list_memory s)
    pub size : length (list_memory t) ≡ length (list_memory s)

  abbrev pub Appended : GrowingList T → GrowingList T → T → ℕ → Result (Unit {0}) Refusal → Type 0
  Appended s t x more r =
      MatchResult r (λ _. Grown s t x more) (λ e. (e ≡ NoRoom) × (list_most s < length (list_items s) + more) × (t ≡ s))

  -- the element at a place is replaced: the memory past the list is untouched
  pub record Placed (s t : GrowingList T) (place : ℕ) (x : T) : Type 0 where
    pub inside : place < length (list_items s)
    pub list : list_items t ≡ slice_set (list_items s) place x
    pub rest : drop (length (list_items s)) (list_memory t) ≡ drop (length (list_items s)) (list_memory s)
    pub size : length (list_memory t) ≡ length (list_memory s)

  abbrev pub Written : GrowingList T → GrowingList T → ℕ → T → Result (Unit {0}) Refusal → Type 0
  Written s t place x r =
      MatchResult r (λ _. Placed s t place x) (λ e. (e ≡ Place) × (length (list_items s) ≤ place) × (t ≡ s))

  -- x stands before what was at a place: the memory past the list is untouched
  pub record Widened (s t : GrowingList T) (place : ℕ) (x : T) : Type 0 where
    pub inside : place ≤ length (list_items s)
    pub room : length (list_items s) < list_most s
    pub list : list_items t ≡ take place (list_items s) ++ (x ∷ drop place (list_items s))
    pub rest : drop (length (list_items s) + 1) (list_memory t) ≡ drop (length (list_items s) + 1) (list_memory s)
    pub size : length (list_memory t) ≡ length (list_memory s)

  -- a place past the end is refused first
  abbrev pub Inserted : GrowingList T → GrowingList T → ℕ → T → Result (Unit {0}) Refusal → Type 0
  Inserted s t place x r =
      MatchResult r (λ _. Widened s t place x)
      (λ e. (((e ≡ Place) × (length (list_items s) < place)) ⊎ ((e ≡ NoRoom) × (place ≤ length (list_items s)) × (list_most s ≤ length (list_items s)))) × (t ≡ s))

  -- the first kept elements stay, the places behind them hold one default, which is x where no other value is one, and the memory past the old list is untouched
  pub record Shortened (is_default : T → Type 0) (s t : GrowingList T) (kept : ℕ) : Type 0 where
    pub inside : kept ≤ length (list_items s)
    pub list : list_items t ≡ take kept (list_items s)
    pub vacated : (x : T) × (is_default x × (take (length (list_items s) - kept) (drop kept (list_memory t)) ≡ replicate (length (list_items s) - kept) x))
    pub blank : (x : T) → ((y : T) → is_default y → y ≡ x) → take (length (list_items s) - kept) (drop kept (list_memory t)) ≡ replicate (length (list_items s) - kept) x
    pub rest : drop (length (list_items s)) (list_memory t) ≡ drop (length (list_items s)) (list_memory s)
    pub size : length (list_memory t) ≡ length (list_memory s)

  abbrev pub Cut : (T → Type 0) → GrowingList T → GrowingList T → ℕ → Result (Unit {0}) Refusal → Type 0
  Cut is_default s t kept r =
      MatchResult r (λ _. Shortened is_default s t kept) (λ e. (e ≡ Place) × (length (list_items s) < kept) × (t ≡ s))
