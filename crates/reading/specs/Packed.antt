-- The answers of a test at slots next to one another, as the binary digits of one number.
use Rattle.std.specs.Prelude.{ℕ, zero, suc, ◌+◌, ◌*◌, Bool}
use Rattle.rows.specs.Rows.{one}

-- the slots a, a + 1, .. of which there are k; the first is the lowest digit
unfoldable pub packed : (ℕ → Bool) → ℕ → ℕ → ℕ
packed f zero a = 0
packed f (suc k) a = one (f a) + 2 * packed f k (a + 1)

-- at how many of them the test is true
abbrev pub count_of : (ℕ → Bool) → ℕ → ℕ → ℕ
count_of f zero a = 0
count_of f (suc k) a = one (f a) + count_of f k (a + 1)
