use Rattle.std.proofs.Common.{◌≡◌, ◌+◌, ◌-◌, ◌<◌, eqb, T, List, map, length, get_or, drop, ℤ, pos, nat_abs, sym, refl, ap, ◌∙◌, subst, ap₂, arith, w64, Fits, SFits, to_z, of_z, rules}
use Rattle.std.proofs.lemmas.Bool.{and_parts}
use Rattle.std.proofs.lemmas.List.{length-take, length-drop, length-map}
use lib.Signed.{le_z, non_neg, mag}
use Rattle.std.proofs.lemmas.Int.{to_z-of_z}
use Rattle.rows.specs.Rows.{one}
use Rattle.reading.proofs.Packing.{bit_one, one-few}
use Rattle.tally.specs.Reaching.{place_at, empties, Rises}
use Rattle.tally.proofs.Offsets.{not_negative, not_falling, item_at, same_bits, value_at, rises_none, rises_more, empties_more, rises_all}
use Rattle.tally.proofs.lists.rising.Goals as goal

pub loop-offset-init : goal.loop-offset-init
loop-offset-init g c =
    let os : List ℤ = map g.T.Offset.value c.args.offsets.now in
    let fits : SFits w64 c.into-first.result = search rules in
    let e : to_z w64 (of_z w64 c.into-first.result) ≡ get_or os 0 (pos 0) =
    to_z-of_z w64 c.into-first.result fits ∙ g.met.T.Offset.widens c.index-offsets-0.result c.into-first.result c.into-first.ensures ∙ value_at g.T.Offset.value c.args.offsets.now 0 c.index-offsets-0.result c.requires c.index-offsets-0.is in
    (e, e, omega arith, λ h. (rises_none os (not_negative (get_or os 0 (pos 0)) (ap (λ x. le_z (pos 0) x) (sym e) ∙ h)), refl))

pub loop-offset-preserved : goal.loop-offset-preserved
loop-offset-preserved g c =
    let os : List ℤ = map g.T.Offset.value c.args.offsets.now in
    let m = c.loop-offset.offset-index in
    let had = c.loop-offset.invariant in
    let item = item_at c.args.offsets.now 1 (length c.args.offsets.now - 1) m c.offset-item.result c.loop-offset-test.true c.offset-item.is in
    let fits : SFits w64 c.into-next.result = search rules in
    let q : 1 + m ≡ m + 1 = omega arith in
    let value : c.into-next.result ≡ get_or os (m + 1) (pos 0) =
    g.met.T.Offset.widens c.offset-item.result c.into-next.result c.into-next.ensures ∙ value_at g.T.Offset.value c.args.offsets.now (1 + m) c.offset-item.result item.1 item.2 ∙ ap (λ j. get_or os j (pos 0)) q in
    let e : to_z w64 (of_z w64 c.into-next.result) ≡ get_or os (m + 1) (pos 0) = to_z-of_z w64 c.into-next.result fits ∙ value in (
      had.0,
      e,
      omega (arith, had.2, c.from-bare.ensures, bit_one (eqb (of_z w64 c.into-next.result) c.loop-offset.last-bits), one-few (eqb (of_z w64 c.into-next.result) c.loop-offset.last-bits)),
      λ h.
          let both = and_parts c.loop-offset.rises (le_z (to_z w64 c.loop-offset.last-bits) (to_z w64 (of_z w64 c.into-next.result))) h in
          let before = had.3 both.0 in
          let x = before.0.whole m (omega arith) (omega arith) in
          let y = not_falling (get_or os m (pos 0)) (get_or os (m + 1) (pos 0)) x (ap₂ le_z (sym had.1) (sym e) ∙ both.1) in
          let same = same_bits (get_or os m (pos 0)) (get_or os (m + 1) (pos 0)) c.loop-offset.last-bits (omega (arith, c.loop-offset.auto.last)) had.1 (ap (λ v. to_z w64 (of_z w64 v)) (sym value) ∙ e) x y.0 in
          let test : c.from-bare.result ≡ one (eqb (place_at os m) (place_at os (m + 1))) =
          c.from-bare.ensures ∙ bit_one (eqb (of_z w64 c.into-next.result) c.loop-offset.last-bits) ∙ ap one (ap (λ v. eqb (of_z w64 v) c.loop-offset.last-bits) value ∙ same) in
          (rises_more os m before.0 y.0 y.1, omega (arith, before.1, test, empties_more os m)),
    )

place_fits : (x : ℤ) → x ≡ pos (nat_abs x) → mag x < 9223372036854775808 → T (non_neg x) × Fits w64 (nat_abs x)
place_fits x e m =
    let p : mag (pos (nat_abs x)) < 9223372036854775808 = subst (λ z. mag z < 9223372036854775808) e m in
    subst (λ z. T (non_neg z) × Fits w64 (nat_abs z)) (sym e) (tt, omega arith)

pub overflow_cast-result : goal.overflow_cast-result
overflow_cast-result g c =
    let os : List ℤ = map g.T.Offset.value c.args.offsets.now in
    let fits : SFits w64 c.into-first.result = search rules in
    place_fits (to_z w64 (of_z w64 c.into-first.result)) (subst (λ z. z ≡ pos (nat_abs z)) (sym c.loop-offset.invariant.0) ((c.loop-offset.invariant.3 c.if-not-rises.false).0.whole 0 (omega arith) (omega arith)))
    (subst (λ z. mag z < 9223372036854775808) (sym (to_z-of_z w64 c.into-first.result fits)) c.into-first.type_inv)

pub returns : goal.returns
returns g c =
    let os : List ℤ = map g.T.Offset.value c.args.offsets.now in
    let m = c.loop-offset.offset-index in
    let had = c.loop-offset.invariant in
    let before = had.3 c.if-not-rises.false in
    let long = length-take (length c.args.offsets.now - 1) (drop 1 c.args.offsets.now) in
    let rest = length-drop 1 c.args.offsets.now in
    let whole = length-map c.args.offsets.now g.T.Offset.value in
    let all : m ≡ length os - 1 = omega (arith, c.loop-offset-test.false, c.loop-offset.auto.offset-index-end, long, rest, whole) in
    let m0 : 0 + m ≡ m = omega arith in
    let up = rises_all os 0 m before.0 0 m (omega arith) (omega arith) in
    let p = ap nat_abs had.0 in
    let q = ap nat_abs had.1 in
    record {
      slots = omega (arith, long, rest, whole);
      starts = p;
      ends = q ∙ ap (place_at os) all;
      within = c.if-last-most.false;
      order = omega (arith, p, q, up, ap (place_at os) m0);
      rises = subst (Rises os 0) all before.0;
      bare = before.1 ∙ ap (λ n. empties os n 0) all;
    }
