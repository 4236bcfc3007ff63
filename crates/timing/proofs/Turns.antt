-- Runs told the numbers from one on, one after another.
use Rattle.std.proofs.Common.{arith, ◌≡◌, ℕ, suc, ◌+◌, ◌-◌, ◌<◌, subst}
use Rattle.std.specs.List.{FoldsTo, range_with_len}

-- one that is told a, and then those told the numbers behind it, are those from a on
pub one_before : {F : Type 0} (R : F → ℕ → F → Type 0) (a n : ℕ) (p q last : F) → a < n → R p a q → FoldsTo R q (range_with_len (a + 1) (n - (a + 1))) last → FoldsTo R p (range_with_len a (n - a)) last
one_before R a n p q last below told rest =
    let eq : suc (n - (a + 1)) ≡ n - a = omega (arith, below)
    in subst (λ m. FoldsTo R p (range_with_len a m) last) eq (q, told, rest)
