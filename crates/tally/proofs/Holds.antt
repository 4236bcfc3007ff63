-- Values below slots over which there is no list.
use Rattle.std.proofs.Common.{◌≡◌, ℕ, ◌+◌, ◌-◌, ◌<◌, ◌≤◌, Bool, true, false, ◌&&◌, ◌⊎◌, List, length, drop, Some, None, Option, sym, refl, ap, ◌∙◌, ap₂, inl, inr, arith}
use lib.Bits.{bit_and}
use lib.Count.{ones}
use Rattle.rows.specs.Rows.{one}
use Rattle.table.specs.declared.node.Kind.{Kind}
use Rattle.table.specs.declared.leaf_path.PathNode.{PathNode}
use Rattle.table.specs.Paths.{step_of}
use Rattle.reading.specs.Slots.{Buffers, valid}
use Rattle.reading.specs.Reading.{node_on}
use Rattle.reading.specs.Packed.{packed, count_of}
use Rattle.tally.specs.Sizes.{◌plus◌, size_at, sizes}
use Rattle.tally.specs.Reaching.{holds, holds_by, Holding, HeldBelow}
use Rattle.reading.proofs.Packing.{packed_and, packed_ext, packed-same, packed_ones}
use Rattle.tally.proofs.Adding.{size_on, each_tested, count_le}
use Rattle.tally.proofs.Nodes.{node-holds, size_null, size_leaf, size_struct}

and_assoc : (s t u : Bool) → (s && t) && u ≡ s && (t && u)
and_assoc true t u = refl
and_assoc false t u = refl

and_true : (s t : Bool) → s ≡ true → t ≡ true → s && t ≡ true
and_true s t p q = ap₂ (λ x y. x && y) p q

-- a node that is nullable, or whose valid slots are all that are looked at
module _ (b : Buffers) (ns : List PathNode) (k i count live valids : ℕ) (lt : k < length ns) (test : ℕ → Bool) (is : live ≡ packed test count i)
    (valids-are : valids ≡ packed (valid b (node_on ns k).validity) count i)
    (fine : ((node_on ns k).nullable ≡ true) ⊎ (bit_and live valids ≡ live)) where
  pub both : bit_and live valids ≡ packed (λ j. test j && valid b (node_on ns k).validity j) count i
  both = ap₂ bit_and is valids-are ∙ packed_and test (valid b (node_on ns k).validity) count i

  required : bit_and live valids ≡ live → (j : ℕ) → i ≤ j → j < i + count → test j ≡ true → valid b (node_on ns k).validity j ≡ true
  required e j l m t =
      let q : (test j && valid b (node_on ns k).validity j) ≡ test j = packed-same (λ x. test x && valid b (node_on ns k).validity x) test count i (sym both ∙ e ∙ is) j l m in
      sym (ap (λ x. x && valid b (node_on ns k).validity j) t) ∙ q ∙ t

  null_size : (j : ℕ) → i ≤ j → j < i + count → test j ≡ true → valid b (node_on ns k).validity j ≡ false → size_at b (drop k ns) j ≡ Some (1, 0)
  null_size j l m t e = elim fine [ inl n ↦ size_null b ns k lt j n e | inr r ↦ (let z : ◌≡◌ {A = ℕ} 1 0 = ap one (sym (required r j l m t) ∙ e) in absurd (omega arith)) ]

  -- slot j by its validity
  slot_size : (j : ℕ) → i ≤ j → j < i + count → test j ≡ true → (t held : Bool) → valid b (node_on ns k).validity j ≡ t → (t ≡ true → size_at b (drop k ns) j ≡ Some (1, one held)) → size_at b (drop k ns) j ≡ Some (1, one (t && held))
  slot_size j l m p true held e h = h refl
  slot_size j l m p false held e h = null_size j l m p e

  leaf_step : (node_on ns k).kind ≡ Kind.Leaf → (j : ℕ) → holds b (drop k ns) j ≡ valid b (node_on ns k).validity j
  leaf_step e j = node-holds b ns k lt j ∙ ap (λ z. holds_by (step_of (node_on ns k) z) (valid b (node_on ns k).validity j) (holds b (drop (k + 1) ns) j)) e

  struct_step : (node_on ns k).kind ≡ Kind.Struct → (j : ℕ) → holds b (drop k ns) j ≡ valid b (node_on ns k).validity j && holds b (drop (k + 1) ns) j
  struct_step e j = node-holds b ns k lt j ∙ ap (λ z. holds_by (step_of (node_on ns k) z) (valid b (node_on ns k).validity j) (holds b (drop (k + 1) ns) j)) e

  and_one : (t : Bool) → t && true ≡ t
  and_one true = refl
  and_one false = refl

  pub leaf_holding : (node_on ns k).kind ≡ Kind.Leaf → Holding b (drop k ns) i count test (bit_and live valids)
  leaf_holding e = record {
    digits = both ∙ packed_ext (λ j. test j && valid b (node_on ns k).validity j) (λ j. test j && holds b (drop k ns) j) count i i (λ j l. ap (λ x. test (i + j) && x) (sym (leaf_step e (i + j))));
    size = λ j l m t.
        slot_size j l m t (valid b (node_on ns k).validity j) true refl (λ v. size_leaf b ns k lt j e v)
        ∙ ap (λ x. Some (1, one x)) (and_one (valid b (node_on ns k).validity j) ∙ sym (leaf_step e j));
  }

  pub struct_holding : (node_on ns k).kind ≡ Kind.Struct → (out : ℕ) → HeldBelow b (drop (k + 1) ns) i count (bit_and live valids) (Some out) → Holding b (drop k ns) i count test out
  struct_holding e out h =
      let g : Holding b (drop (k + 1) ns) i count (λ j. test j && valid b (node_on ns k).validity j) out = h (λ j. test j && valid b (node_on ns k).validity j) both in
      record {
        digits = g.digits ∙ packed_ext (λ j. (test j && valid b (node_on ns k).validity j) && holds b (drop (k + 1) ns) j) (λ j. test j && holds b (drop k ns) j) count i i (λ j l.
            and_assoc (test (i + j)) (valid b (node_on ns k).validity (i + j)) (holds b (drop (k + 1) ns) (i + j)) ∙ ap (λ x. test (i + j) && x) (sym (struct_step e (i + j))));
        size = λ j l m t.
            slot_size j l m t (valid b (node_on ns k).validity j) (holds b (drop (k + 1) ns) j) refl (λ v. size_struct b ns k lt j e v ∙ g.size j l m (and_true (test j) (valid b (node_on ns k).validity j) t v))
            ∙ ap (λ x. Some (1, one x)) (sym (struct_step e j));
      }

pub struct_held : (b : Buffers) (ns : List PathNode) (k i count live valids : ℕ) → k < length ns → valids ≡ packed (valid b (node_on ns k).validity) count i → ((node_on ns k).nullable ≡ true) ⊎ (bit_and live valids ≡ live) →
    (node_on ns k).kind ≡ Kind.Struct → (r : Option ℕ) → HeldBelow b (drop (k + 1) ns) i count (bit_and live valids) r → HeldBelow b (drop k ns) i count live r
struct_held b ns k i count live valids lt v fine e None h = tt
struct_held b ns k i count live valids lt v fine e (Some out) h = λ test is. struct_holding b ns k i count live valids lt test is v fine e out h

-- slots that are one entry each, behind others
module _ (b : Buffers) (ns : List PathNode) (k i count held : ℕ) (h : Holding b (drop k ns) i count (λ _. true) held) where
  held_are : ones held ≡ count_of (holds b (drop k ns)) count i
  held_are = ap ones h.digits ∙ packed_ones (holds b (drop k ns)) count i

  pub held-few : ones held ≤ count
  held-few = let e = held_are in let l = count_le (holds b (drop k ns)) count i in omega arith

  pub flat_on : (from values : ℕ) → from ≤ i → sizes b ns k from (i - from) ≡ Some (i - from, values) → sizes b ns k from (i + count - from) ≡ Some (i + count - from, values + ones held)
  flat_on from values le had =
      let p : i - from + count ≡ i + count - from = omega arith in
      size_on (size_at b (drop k ns)) from i count le
      ∙ ap₂ (λ x y. x plus y) had (each_tested (size_at b (drop k ns)) (holds b (drop k ns)) count i (λ j l m. h.size j l m refl))
      ∙ ap₂ (λ x y. Some (x, values + y)) p (sym held_are)
