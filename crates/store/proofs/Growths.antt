-- What the edits of its memory do to a growing list.
use Rattle.std.proofs.Common.{◌≡◌, ℕ, zero, suc, ◌+◌, ◌-◌, ◌<◌, ◌≤◌, List, [], ◌∷◌, ◌++◌, length, take, drop, set, replicate, Ok, Err, Result, sym, refl, ap, ◌∙◌, ⊎_elim, subst, arith}
use Rattle.std.proofs.lemmas.List.{take-take, drop-set-lt, length-set, drop-take}
use Rattle.store.specs.declared.refusal.Refusal.{Refusal}
use Rattle.store.specs.declared.refusal.Refusal.TheVariants.{Place, NoRoom}
use Rattle.store.specs.declared.growing.GrowingList.{GrowingList}
use Rattle.store.specs.Filled.{filled}
use Rattle.store.specs.Growing.{list_items, list_memory, list_most, items_long, Grown, Placed, Shortened, Cut, Appended, Written, Widened, Inserted}
use Rattle.store.proofs.Spans.{filled_long, filled_head, filled_both, filled-rest, filled_middle, shifted, shifted_head, shifted-rest, shifted_long}

take_of_set : {A : Type 0} (n : ℕ) (xs : List A) (i : ℕ) (x : A) → i < n → take n (set xs i x) ≡ set (take n xs) i x
take_of_set zero xs i x h = absurd (omega arith)
take_of_set (suc n) [] i x h = refl
take_of_set (suc n) (y ∷ ys) zero x h = refl
take_of_set (suc n) (y ∷ ys) (suc i) x h = ap (λ q. y ∷ q) (take_of_set n ys i x (omega arith))

module _ {A : Type 0} where
  pub grown :
      (s t : GrowingList A) (x : A) (more : ℕ) → s.count + more ≤ list_most s
      → list_memory t ≡ filled (list_memory s) (s.count) (s.count + more) x
      → t.count ≡ s.count + more
      → Grown s t x more
  grown s t x more room m c =
      let xs = list_memory s in
      let a = s.count in
      let long = items_long s in
      let within : a + more ≤ length xs = omega arith in
      let times : (a + more) - a ≡ more = omega arith in
      let same : length (list_memory t) ≡ length xs = ap length m ∙ filled_long xs a (a + more) x (omega arith) within in
      let n : t.count ≡ a + more = c in
      record {
        room = omega (arith, long);
        list = ap (λ k. take k (list_memory t)) n ∙ ap (take (a + more)) m ∙ filled_both xs a (a + more) x (omega arith) within ∙ ap (λ k. take a xs ++ replicate k x) times;
        rest = ap (λ k. drop (k + more) (list_memory t)) long ∙ ap (drop (a + more)) m ∙ filled-rest xs a (a + more) x (omega arith) within ∙ ap (λ k. drop (k + more) xs) (sym long);
        size = same;
      }

  pub placed :
      (s t : GrowingList A) (place : ℕ) (x : A) → place < s.count
      → list_memory t ≡ set (list_memory s) place x
      → t.count ≡ s.count
      → Placed s t place x
  placed s t place x inside m c =
      let xs = list_memory s in
      let a = s.count in
      let long = items_long s in
      let same : length (list_memory t) ≡ length xs = ap length m ∙ length-set xs place x in
      let n : t.count ≡ a = omega arith in
      record {
        inside = omega (arith, long);
        list = ap (λ k. take k (list_memory t)) n ∙ ap (take a) m ∙ take_of_set a xs place x inside;
        rest = ap (λ k. drop k (list_memory t)) long ∙ ap (drop a) m ∙ drop-set-lt a xs place x inside ∙ ap (λ k. drop k xs) (sym long);
        size = same;
      }

  pub shortened :
      (is_default : A → Type 0) (blank : A) (s t : GrowingList A) (kept : ℕ) → is_default blank → kept ≤ s.count
      → list_memory t ≡ filled (list_memory s) kept s.count blank
      → t.count ≡ kept
      → Shortened is_default s t kept
  shortened is_default blank s t kept default inside m c =
      let xs = list_memory s in
      let a = s.count in
      let long = items_long s in
      let same : length (list_memory t) ≡ length xs = ap length m ∙ filled_long xs kept a blank inside (omega arith) in
      let n : t.count ≡ kept = c in
      let filled_out : take (length (list_items s) - kept) (drop kept (list_memory t)) ≡ replicate (length (list_items s) - kept) blank =
      ap (λ k. take (k - kept) (drop kept (list_memory t))) long ∙ ap (λ q. take (a - kept) (drop kept q)) m ∙ filled_middle xs kept a blank inside (omega arith) ∙ ap (λ k. replicate (k - kept) blank) (sym long) in
      record {
        inside = omega (arith, long);
        list = ap (λ k. take k (list_memory t)) n ∙ ap (take kept) m ∙ filled_head xs kept a blank inside (omega arith) ∙ sym (take-take kept a xs inside);
        vacated = (blank, (default, filled_out));
        blank = λ x only. subst (λ q. take (length (list_items s) - kept) (drop kept (list_memory t)) ≡ replicate (length (list_items s) - kept) q) (only blank default) filled_out;
        rest = ap (λ k. drop k (list_memory t)) long ∙ ap (drop a) m ∙ filled-rest xs kept a blank inside (omega arith) ∙ ap (λ k. drop k xs) (sym long);
        size = same;
      }

  pub widened :
      (s t : GrowingList A) (place : ℕ) (x : A) → place ≤ s.count → s.count < list_most s
      → list_memory t ≡ shifted (list_memory s) place (s.count) x
      → t.count ≡ s.count + 1
      → Widened s t place x
  widened s t place x inside room m c =
      let xs = list_memory s in
      let a = s.count in
      let long = items_long s in
      let within : a < length xs = omega arith in
      let same : length (list_memory t) ≡ length xs = ap length m ∙ shifted_long xs place a x inside within in
      let n : t.count ≡ a + 1 = c in
      let at : place + (a - place) ≡ a = omega arith in
      let tail : drop place (take a xs) ≡ take (a - place) (drop place xs) = ap (λ k. drop place (take k xs)) (sym at) ∙ drop-take place (a - place) xs in
      record {
        inside = omega (arith, long);
        room = omega (arith, long);
        list = ap (λ k. take k (list_memory t)) n ∙ ap (take (a + 1)) m ∙ shifted_head xs place a x inside within
            ∙ ap (λ q. take place xs ++ (x ∷ q)) (sym tail) ∙ ap (λ q. q ++ (x ∷ drop place (take a xs))) (sym (take-take place a xs inside));
        rest = ap (λ k. drop (k + 1) (list_memory t)) long ∙ ap (drop (a + 1)) m ∙ shifted-rest xs place a x inside within ∙ ap (λ k. drop (k + 1) xs) (sym long);
        size = same;
      }

  -- lists over memory of one size can hold as much
  pub most-same : (s t : GrowingList A) → length (list_memory t) ≡ length (list_memory s) → list_most t ≡ list_most s
  most-same s t e = omega arith

  -- a call that has what it wants is not refused
  pub grown_if : (s t : GrowingList A) (x : A) (more : ℕ) (r : Result (Unit {0}) Refusal) → Appended s t x more r → length (list_items s) + more ≤ list_most s → Grown s t x more
  grown_if s t x more (Ok u) h room = h
  grown_if s t x more (Err e) h room = absurd (omega (arith, h.1))

  pub placed_if : (s t : GrowingList A) (place : ℕ) (x : A) (r : Result (Unit {0}) Refusal) → Written s t place x r → place < length (list_items s) → Placed s t place x
  placed_if s t place x (Ok u) h inside = h
  placed_if s t place x (Err e) h inside = absurd (omega (arith, h.1))

  pub widened_if : (s t : GrowingList A) (place : ℕ) (x : A) (r : Result (Unit {0}) Refusal) → Inserted s t place x r → place ≤ length (list_items s) → length (list_items s) < list_most s → Widened s t place x
  widened_if s t place x (Ok u) h inside room = h
  widened_if s t place x (Err e) h inside room = absurd (⊎_elim (λ (p : (e ≡ Place) × (length (list_items s) < place)). omega (arith, p.1)) (λ (p : (e ≡ NoRoom) × (place ≤ length (list_items s)) × (list_most s ≤ length (list_items s))). omega (arith, p.2)) h.0)

  pub shortened_if : (is_default : A → Type 0) (s t : GrowingList A) (kept : ℕ) (r : Result (Unit {0}) Refusal) → Cut is_default s t kept r → kept ≤ length (list_items s) → Shortened is_default s t kept
  shortened_if is_default s t kept (Ok u) h inside = h
  shortened_if is_default s t kept (Err e) h inside = absurd (omega (arith, h.1))
