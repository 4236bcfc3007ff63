-- One more word that gives an item. Assumes nothing.
use Rattle.std.proofs.Common.{◌≡◌, ℕ, ◌+◌, ◌<◌, List, [], ◌∷◌, ◌++◌, map, length, get_or, take, Ok, Result, sym, subst, Bor}
use Rattle.std.proofs.lemmas.List.{map_more}
use Rattle.std.specs.Fn.{Shared, FnReturnsAt}
use Rattle.line_fault.specs.declared.LineFault.{LineFault}
use Rattle.job.specs.Lines.{Each, ReadsEach}

each_push : {X : Type 0} (means : List ℕ → Result X LineFault → Type 0) (ws : List (List ℕ)) (xs : List X) (w : List ℕ) (x : X) → Each means ws xs → means w (Ok x) → Each means (ws ++ (w ∷ [])) (xs ++ (x ∷ []))
each_push means [] [] w x h m = (m, h)
each_push means [] (y ∷ ys) w x h m = absurd h
each_push means (v ∷ vs) [] w x h m = absurd h
each_push means (v ∷ vs) (y ∷ ys) w x h m = (h.0, each_push means vs ys w x h.1 m)

pub each_more : {X : Type 0} (means : List ℕ → Result X LineFault → Type 0) (ws : List (Bor (List ℕ))) (i : ℕ) (d : Bor (List ℕ)) (xs ys : List X) (x : X) → i < length ws → Each means (map (λ w. w.now) (take i ws)) xs → means (get_or ws i d).now (Ok x) → ys ≡ xs ++ (x ∷ []) → Each means (map (λ w. w.now) (take (i + 1) ws)) ys
each_more {X = X} means ws i d xs ys x lt h m e =
    let at : Each means (map (λ w. w.now) (take (i + 1) ws)) (xs ++ (x ∷ [])) = subst (λ (t : List (List ℕ)). Each means t (xs ++ (x ∷ []))) (sym (map_more (λ (w : Bor (List ℕ)). w.now) ws i d lt)) (each_push means (map (λ w. w.now) (take i ws)) xs (get_or ws i d).now x h m) in
    subst (λ (l : List X). Each means (map (λ w. w.now) (take (i + 1) ws)) l) (sym e) at

weaker : {X : Type 0} (means says : List ℕ → Result X LineFault → Type 0) (ws : List (List ℕ)) (xs : List X) → ((w : List ℕ) (x : X) → means w (Ok x) → says w (Ok x)) → Each means ws xs → Each says ws xs
weaker means says [] [] k h = h
weaker means says [] (x ∷ xs) k h = absurd h
weaker means says (w ∷ ws) [] k h = absurd h
weaker means says (w ∷ ws) (x ∷ xs) k h = (k w x h.0, weaker means says ws xs k h.1)

-- what holds of each item, where it follows from a call of `read`
pub each_read : {F X : Type 0} {g : Shared F (Bor (List ℕ) × Unit {0}) (Result X LineFault)} {read : F} (says : List ℕ → Result X LineFault → Type 0) {ws : List (List ℕ)} {xs : List X} → ReadsEach g read ws xs → ((w : Bor (List ℕ)) (x : X) → g.post read (w, tt) (Ok x) → says w.now (Ok x)) → Each says ws xs
each_read {g = g} {read = read} says {ws = ws} {xs = xs} h k =
    weaker (FnReturnsAt g read) says ws xs (λ w x r. subst (λ (v : List ℕ). says v (Ok x)) r.shows (k r.shown x r.says.met)) h.items
