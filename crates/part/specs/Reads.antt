-- What a word of a statement means, and which fault a line has where it means nothing. Assumes nothing.
use Rattle.std.specs.Prelude.{◌≡◌, ℕ, ◌+◌, ◌-◌, ◌^◌, ◌<◌, ◌≤◌, Bool, true, false, cond, ◌⊎◌, List, length, take, drop, ℤ, Some, None, Ok, Err, codes, MatchBool, Option, Result, slice_index_or}
use Rattle.std.specs.Str.Parse.{IsNumeral, digits_value, starts_with_minus}
use Rattle.words.specs.Words.{same}
use Rattle.numeral.specs.Numbers.{ReadsSigned, ReadsByte, body}
use Rattle.numeral.specs.declared.Fault.{Fault}
use Rattle.numeral.specs.declared.Fault.TheVariants as numeral
use Rattle.line_fault.specs.declared.Key.{Key}
use Rattle.line_fault.specs.declared.Key.TheVariants.{Kind}
use Rattle.line_fault.specs.declared.LineFault.{LineFault}
use Rattle.line_fault.specs.declared.LineFault.TheVariants.{NotANumber, TooLarge, NotARange, NotAByte, NotNullability}
use Rattle.statement.specs.declared.Rows.{Rows}

-- a fault of a number, told of its part
abbrev pub fault_of : Key → Fault → LineFault
fault_of key numeral.NotANumber = NotANumber key
fault_of key numeral.TooLarge = TooLarge key

-- decimal digits and nothing else, and the number that they write, which is below 2 ^ w
abbrev pub Unsigned : ℕ → Key → List ℕ → Result ℕ LineFault → Type 0
Unsigned w key bs (Ok n) = IsNumeral 10 bs × (n ≡ digits_value 10 bs) × (n < 2 ^ w)
Unsigned w key bs (Err e) = ((IsNumeral 10 bs → ⊥) × (e ≡ NotANumber key)) ⊎ (IsNumeral 10 bs × (2 ^ w ≤ digits_value 10 bs) × (e ≡ TooLarge key))

-- the same after a minus, where there is one; w bits hold it
abbrev pub Signed : ℕ → Key → List ℕ → Result ℤ LineFault → Type 0
Signed w key bs (Ok z) = ReadsSigned bs (Ok z) × MatchBool (starts_with_minus bs) (digits_value 10 (body bs) ≤ 2 ^ (w - 1)) (digits_value 10 (body bs) < 2 ^ (w - 1))
Signed w key bs (Err e) = ((IsNumeral 10 (body bs) → ⊥) × (e ≡ NotANumber key)) ⊎ (IsNumeral 10 (body bs) × MatchBool (starts_with_minus bs) (2 ^ (w - 1) < digits_value 10 (body bs)) (2 ^ (w - 1) ≤ digits_value 10 (body bs)) × (e ≡ TooLarge key))

-- what `means` says, where it is a number that becomes one of a narrower type as `gives` says; it is too large where it does not
abbrev pub Narrowed : {W N E : Type 0} → Key → (Result W LineFault → Type 0) → (W → Result N E → Type 0) → Result N LineFault → Type 0
Narrowed {W} {N} {E} key means gives (Ok n) = (w : W) × means (Ok w) × gives w (Ok n)
Narrowed {W} {N} {E} key means gives (Err e) = means (Err e) ⊎ ((w : W) × (d : E) × means (Ok w) × gives w (Err d) × (e ≡ TooLarge key))

abbrev pub ByteRead : List ℕ → Result ℕ LineFault → Type 0
ByteRead bs (Ok b) = ReadsByte bs (Some b)
ByteRead bs (Err e) = ReadsByte bs None × (e ≡ NotAByte)

-- `..` stands at the place p
pub record DotsAt (bs : List ℕ) (p : ℕ) : Type 0 where
  pub within : p + 2 ≤ length bs
  pub first : slice_index_or bs p 0 ≡ 46
  pub second : slice_index_or bs (p + 1) 0 ≡ 46

pub record FirstDots (bs : List ℕ) (p : ℕ) : Type 0 where
  pub here : DotsAt bs p
  pub none_before : (k : ℕ) → k < p → DotsAt bs k → ⊥

-- a number on each side of the first `..`
abbrev pub RangeRead : Key → List ℕ → Result Rows LineFault → Type 0
RangeRead key bs (Ok rows) = (p : ℕ) × FirstDots bs p × Unsigned 64 key (take p bs) (Ok rows.from) × Unsigned 64 key (drop (p + 2) bs) (Ok rows.to)
RangeRead key bs (Err e) = (((k : ℕ) → DotsAt bs k → ⊥) × (e ≡ NotARange key)) ⊎ ((p : ℕ) × FirstDots bs p × (Unsigned 64 key (take p bs) (Err e) ⊎ ((n : ℕ) × Unsigned 64 key (take p bs) (Ok n) × Unsigned 64 key (drop (p + 2) bs) (Err e))))

-- the number of the kind that has this word
abbrev pub kind_named : List ℕ → Option ℕ
kind_named bs =
    cond (same bs (codes "leaf")) (Some 0) (
    cond (same bs (codes "struct")) (Some 1) (
    cond (same bs (codes "list")) (Some 2) (
    cond (same bs (codes "large_list")) (Some 3) (
    cond (same bs (codes "fixed_size_list")) (Some 4) (
    cond (same bs (codes "list_view")) (Some 5) (
    cond (same bs (codes "large_list_view")) (Some 6) None))))))

abbrev pub KindRead : Option ℕ → List ℕ → Result ℕ LineFault → Type 0
KindRead (Some k) bs r = r ≡ Ok k
KindRead None bs r = Unsigned 8 Kind bs r

abbrev pub NullabilityRead : List ℕ → Result Bool LineFault → Type 0
NullabilityRead bs r = r ≡ cond (same bs (codes "nullable")) (Ok true) (cond (same bs (codes "required")) (Ok false) (Err NotNullability))
