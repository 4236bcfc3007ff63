-- Slots in a list of slots, and offsets of either width.
use Rattle.std.proofs.Common.{◌≡◌, ℕ, ◌+◌, ◌<◌, Bool, cond, List, map, length, get_or, drop, ℤ, pos, ◌-ℤ◌, sym, ap, ◌∙◌, ap₂, subst, arith}
use Rattle.std.proofs.lemmas.List.FromFn.{length-map-range_with_len, get_or-map-range_with_len}
use Rattle.std.proofs.lemmas.List.{map-id, drop-map, get_or-drop}
use Rattle.table.specs.declared.leaf_path.PathNode.{PathNode}
use Rattle.reading.specs.declared.slot.Slot.{Slot}
use Rattle.reading.specs.declared.validity.Validity.{Validity}
use Rattle.reading.specs.Bits.{valid_in}
use Rattle.table.specs.declared.node.Kind.{Kind}
use Rattle.reading.specs.Slots.{Buffers, Span, span, listed, viewed, span_at, held, slot_by}
use Rattle.reading.specs.Along.{slots_with}

module _ (v : Validity) (spans : ℕ → Span) where
  pub slot_place : (i : ℕ) → i < length (slots_with v spans) → i < v.slots
  slot_place i l = let e = length-map-range_with_len (slot_by (valid_in v.bytes.now v.start) spans) 0 v.slots in omega arith

  pub slot_in : (i : ℕ) → i < v.slots → i < length (slots_with v spans)
  slot_in i l = let e = length-map-range_with_len (slot_by (valid_in v.bytes.now v.start) spans) 0 v.slots in omega arith

  pub slot_there : (i : ℕ) → i < v.slots → get_or (slots_with v spans) i Slot.Null ≡ slot_by (valid_in v.bytes.now v.start) spans i
  slot_there i l = get_or-map-range_with_len (slot_by (valid_in v.bytes.now v.start) spans) 0 v.slots i i Slot.Null l (omega arith)

  -- validity told by an equal one
  pub slot_looked : (i : ℕ) → i < length (slots_with v spans) → (w : Validity) → w ≡ v → (there : Bool) → there ≡ valid_in w.bytes.now w.start i → cond there (held (spans i)) Slot.Null ≡ get_or (slots_with v spans) i Slot.Null
  slot_looked i l w is there e = ap (λ t. cond t (held (spans i)) Slot.Null) (e ∙ ap (λ x. valid_in x.bytes.now x.start i) is) ∙ sym (slot_there i (slot_place i l))

-- offsets from a place on
module _ {T : Type 0} (value : T → ℤ) (xs : List T) where
  from_on : (o i : ℕ) → get_or (map value (drop o xs)) i (pos 0) ≡ get_or (map value xs) (o + i) (pos 0)
  from_on o i = ap (λ ys. get_or ys i (pos 0)) (sym (drop-map value o xs)) ∙ get_or-drop o (map value xs) i (pos 0)

  pub listed_behind : (o most i : ℕ) → listed most (map value (drop o xs)) i ≡ listed most (map value xs) (o + i)
  listed_behind o most i =
      let q : o + (i + 1) ≡ o + i + 1 = omega arith in
      ap₂ (λ a z. span most a (z -ℤ a)) (from_on o i) (from_on o (i + 1) ∙ ap (λ j. get_or (map value xs) j (pos 0)) q)

  pub viewed_behind : (o s most i : ℕ) → span most (get_or (map value (drop o xs)) i (pos 0)) (get_or (map value (drop s xs)) i (pos 0)) ≡ viewed most (map value xs) (o + i) (s + i)
  viewed_behind o s most i = ap₂ (λ a z. span most a z) (from_on o i) (from_on s i)

-- numbers that are their own values
pub listed_own : (most : ℕ) (xs : List ℤ) (at : ℕ) → listed most (map (λ (x : ℤ). x) xs) at ≡ listed most xs at
listed_own most xs at = ap (λ ys. listed most ys at) (map-id xs)

pub viewed_own : (most : ℕ) (xs : List ℤ) (at size : ℕ) → viewed most (map (λ (x : ℤ). x) xs) at size ≡ viewed most xs at size
viewed_own most xs at size = ap (λ ys. viewed most ys at size) (map-id xs)

-- the slots of a node, as those of a list of its kind with its validity
module _ {v w : Validity} (is : w ≡ v) (i : ℕ) (l : i < v.slots) (spans : ℕ → Span) where
  pub slot_asked : i < length (slots_with w spans)
  slot_asked = slot_in w spans i (subst (λ x. i < x.slots) (sym is) l)

  pub slot_as : (b : Buffers) (n : PathNode) (most : ℕ) (k : Kind) → n.kind ≡ k → spans i ≡ span_at b n k most i → (r : Slot) → r ≡ get_or (slots_with w spans) i Slot.Null → r ≡ slot_by (valid_in v.bytes.now v.start) (span_at b n n.kind most) i
  slot_as b n most k e h r g =
      g ∙ slot_there w spans i (subst (λ x. i < x.slots) (sym is) l)
      ∙ ap₂ (λ x z. cond (valid_in x.bytes.now x.start i) (held z) Slot.Null) is (h ∙ ap (λ z. span_at b n z most i) (sym e))
