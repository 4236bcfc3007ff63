-- The levels that records stand for.
use Rattle.std.proofs.Common.{◌≡◌, ℕ, zero, suc, ◌+◌, ◌<◌, ◌≤◌, List, [], ◌∷◌, ◌++◌, length, get_or, take, drop, replicate, ℤ, sym, refl, ap, ◌∙◌, arith}
use Rattle.std.proofs.lemmas.List.{append-nil, length-append, length-replicate, take-append-drop, drop_more, take_more, length-take-le, length-drop}
use Rattle.std.proofs.lemmas.List.Concat.{flat_map-append}
use Rattle.std.proofs.lemmas.List.Elements.{All-nil, All-cons, All-head, All-tail, All-take, All-drop}
use Rattle.runs.specs.declared.Run.{Run}
use Rattle.runs.specs.Runs.{spread, NoneEmpty, unless_empty}

pub spread-append : (xs ys : List Run) → spread (xs ++ ys) ≡ spread xs ++ spread ys
spread-append xs ys = flat_map-append (λ r. replicate r.count r.level) xs ys

pub spread_single : (r : Run) → spread (r ∷ []) ≡ replicate r.count r.level
spread_single r = append-nil (replicate r.count r.level)

-- one record more, before or behind
pub long-cons : (r : Run) (xs : List Run) → length (spread (r ∷ xs)) ≡ r.count + length (spread xs)
long-cons r xs = length-append (replicate r.count r.level) (spread xs) ∙ ap (λ n. n + length (spread xs)) (length-replicate r.count r.level)

pub long-push : (xs : List Run) (r : Run) → length (spread (xs ++ (r ∷ []))) ≡ length (spread xs) + r.count
long-push xs r = ap length (spread-append xs (r ∷ []) ∙ ap (λ q. spread xs ++ q) (spread_single r)) ∙ length-append (spread xs) (replicate r.count r.level) ∙ ap (λ n. length (spread xs) + n) (length-replicate r.count r.level)

pub spread_unless : (l : ℤ) (n : ℕ) → spread (unless_empty l n) ≡ replicate n l
spread_unless l zero = refl
spread_unless l (suc n) = append-nil (replicate (suc n) l)

pub unless_long : (l : ℤ) (n : ℕ) → length (unless_empty l n) ≤ n
unless_long l zero = omega arith
unless_long l (suc n) = omega arith

pub unless_none_empty : (l : ℤ) (n : ℕ) → NoneEmpty (unless_empty l n)
unless_none_empty l zero = All-nil (λ (r : Run). 0 < r.count)
unless_none_empty l (suc n) = All-cons (λ (r : Run). 0 < r.count) _ [] (omega arith) (All-nil (λ (r : Run). 0 < r.count))

-- no more records than levels
pub records_fit : (items : List Run) → NoneEmpty items → length items ≤ length (spread items)
records_fit [] some = omega arith
records_fit (r ∷ items) some =
    let P : Run → Type 0 = λ r. 0 < r.count in
    omega (arith, records_fit items (All-tail P r items some), All-head P r items some, long-cons r items)

-- the records before i, the record at i, and those behind it
module _ (items : List Run) (i : ℕ) (d : Run) (here : i < length items) where
  pub parted : items ≡ take i items ++ (get_or items i d ∷ drop (i + 1) items)
  parted = sym (take-append-drop i items) ∙ ap (λ q. take i items ++ q) (drop_more items i d here)

  pub spread-parted : spread items ≡ spread (take i items) ++ spread (get_or items i d ∷ drop (i + 1) items)
  spread-parted = ap spread parted ∙ spread-append (take i items) (get_or items i d ∷ drop (i + 1) items)

  pub long_next : length (spread (take (i + 1) items)) ≡ length (spread (take i items)) + (get_or items i d).count
  long_next = ap (λ q. length (spread q)) (take_more items i d here) ∙ long-push (take i items) (get_or items i d)

  pub long-parted : length (spread items) ≡ length (spread (take i items)) + ((get_or items i d).count + length (spread (drop (i + 1) items)))
  long-parted =
      ap length spread-parted ∙ length-append (spread (take i items)) (spread (get_or items i d ∷ drop (i + 1) items))
      ∙ ap (λ n. length (spread (take i items)) + n) (long-cons (get_or items i d) (drop (i + 1) items))

  -- a record that stands for many levels leaves as many places
  pub record_fits : NoneEmpty items → length items + (get_or items i d).count ≤ length (spread items) + 1
  record_fits some =
      let P : Run → Type 0 = λ r. 0 < r.count in
      omega (
        arith,
        long-parted,
        records_fit (take i items) (All-take P i items some),
        records_fit (drop (i + 1) items) (All-drop P (i + 1) items some),
        length-take-le i items (omega arith),
        length-drop (i + 1) items,
      )
