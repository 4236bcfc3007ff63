-- How the counts change with the levels.
use Rattle.std.proofs.Common.{◌≡◌, ℕ, ◌+◌, ◌-◌, ◌<◌, ◌≤◌, List, ◌∷◌, ◌∙◌, length, get_or, set, ℤ, cond, ◌==◌, ap, arith, w16, SFits, to_z, of_z}
use Rattle.std.proofs.lemmas.Int.{to_z-of_z}
use Rattle.std.proofs.lemmas.List.Sums.{get_or-le-sum_by, sum_by-cons}
use Rattle.std.proofs.lemmas.Grind.{common_steps}
use Rattle.histogram.specs.Tallies.{slot_of, occurrences}

-- what a level brings to the slot k
abbrev pub one : ℕ → ℤ → ℕ
one k x = cond (slot_of x == k) 1 0

-- a level is counted, or counted off, in the slot i that the program found for it
module _ (counts : List ℕ) (x : ℤ) (i : ℕ) (fits : SFits w16 x) (at : i ≡ slot_of (to_z w16 (of_z w16 x))) (inside : i < length counts) (k : ℕ) where
  pub counted_on : get_or (set counts i (get_or counts i 0 + 1)) k 0 ≡ get_or counts k 0 + one k x
  counted_on = let e = simp to_z-of_z at at in grind (arith, common_steps)

  pub counted_off : get_or (set counts i (get_or counts i 0 - 1)) k 0 ≡ get_or counts k 0 - one k x
  counted_off = let e = simp to_z-of_z at at in grind (arith, common_steps)

-- a level that stands at a place is among those that are counted
pub at_place : (k : ℕ) (xs : List ℤ) (i : ℕ) (x : ℤ) → i < length xs → x ≡ get_or xs i x → one k x ≤ occurrences k xs
at_place k xs i x inside e = omega (arith, get_or-le-sum_by (one k) xs i x inside, ap (one k) e)

-- the next level of a list that is read in order
pub one_more : (k : ℕ) (xs rest : List ℤ) (x : ℤ) → xs ≡ x ∷ rest → occurrences k xs ≡ one k x + occurrences k rest
one_more k xs rest x e = ap (occurrences k) e ∙ sum_by-cons (one k) x rest
