-- A node and its ancestors, one node further up at a time.
use Rattle.std.proofs.Common.{◌≡◌, ℕ, zero, suc, ◌+◌, ◌<◌, ◌≤◌, Bool, false, ◌||◌, eqb, List, [], ◌∷◌, length, reverse, ap, ◌∙◌, refl, inl, inr, arith}
use Rattle.std.proofs.Math.Bool.{or_comm}
use Rattle.std.specs.List.{list_any}
use Rattle.std.proofs.lemmas.List.Folds.{list_any-append}
use Rattle.std.proofs.lemmas.Bool.{cases_eq}
use Rattle.std.proofs.lemmas.List.{reverse-append, length-reverse, length_push}
use Rattle.table.specs.declared.node.Node.{Node}
use Rattle.table.specs.Table.{line, way, among, parent_of, Rising}
use Rattle.table.proofs.Lines.{fewer, way_on, line_root, line_step}

pub upward_root : (ns : List Node) → 0 < length ns → reverse (line ns 0) ≡ 0 ∷ []
upward_root ns p = ap reverse (line_root ns p)

pub upward_more : (ns : List Node) (n i : ℕ) → i < n → n ≤ length ns → Rising ns n → 0 < i → reverse (line ns i) ≡ i ∷ reverse (line ns (parent_of ns i))
upward_more ns n i l m r p =
    ap reverse (line_step ns i (omega arith) p (fewer ns n (i + 1) (omega arith) r)) ∙ reverse-append (line ns (parent_of ns i)) (i ∷ [])

way_short : (ns : List Node) (k i : ℕ) → Rising ns (i + 1) → length (way ns k i) ≤ i + 1
way_short ns zero i r = omega arith
way_short ns (suc k) i r =
    elim (cases_eq i 0) [
      | inl e ↦ rw e (omega arith)
      | inr d ↦
          let p : parent_of ns i < i = r i (omega arith) (omega arith) in
          let n = ap length (way_on ns k i (omega arith)) ∙ length_push (way ns k (parent_of ns i)) i in
          let s = way_short ns k (parent_of ns i) (fewer ns (i + 1) (parent_of ns i + 1) (omega arith) r) in
          omega arith
    ]

pub upward_short : (ns : List Node) (n i : ℕ) → i < n → Rising ns n → length (reverse (line ns i)) ≤ i + 1
upward_short ns n i l r = omega (arith, length-reverse (line ns i), way_short ns (length ns) i (fewer ns n (i + 1) (omega arith) r))

pub any_among : (a : ℕ) (xs : List ℕ) → list_any (λ x. eqb x a) (reverse xs) ≡ among a xs
any_among a [] = refl
any_among a (x ∷ xs) =
    let test : ℕ → Bool = λ x. eqb x a in
    ap (list_any test) (reverse-append (x ∷ []) xs) ∙ list_any-append test (reverse xs) (x ∷ [])
    ∙ or_comm (list_any test (reverse xs)) (eqb x a || false) ∙ ap (λ b. b || list_any test (reverse xs)) (or_comm (eqb x a) false) ∙ ap (λ b. eqb x a || b) (any_among a xs)
