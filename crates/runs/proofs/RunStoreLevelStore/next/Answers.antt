use Rattle.std.proofs.Common.{◌≡◌, ℕ, ◌+◌, ◌<◌, length, get_or, take, sym, refl, ap, ◌∙◌, subst, arith, w16, SFits, rules}
use Rattle.std.proofs.lemmas.Int.{to_z-of_z}
use Rattle.runs.specs.declared.Run.{Run}
use Rattle.store.specs.declared.reading.Spot.{Spot}
use Rattle.runs.specs.Runs.{spread}
use Rattle.runs.specs.Kept.{records, RunStands}
use Rattle.runs.proofs.Spots.{located-held, located-level, located_within, located_last}
use Rattle.runs.proofs.RunStoreLevelStore.next.Goals as goal
use Rattle.runs.proofs.RunStoreLevelStore.next.Goals.{then-spot-gt0, else-spot-gt0}

pub returns-in_err-run : goal.returns-in_err-run
returns-in_err-run c = λ n stands. rw c.from_residual.ensures (omega (arith, stands.1 (omega (arith, c.in_err-run.ensures.lookup.3, ap length c.as_slice.ensures))), refl)

pub returns : goal.returns
returns c = λ n stands.
    let s = c.args.self.now in
    let items = records s in
    let t = c.args.spot.now in
    let r = c.in_ok-run.run'.now in
    let u = c.if-spot-gt0.spot in
    let fits : SFits w16 r.level = search rules in
    let here : t.index < length items = omega (arith, c.in_ok-run.ensures.lookup.3.0, ap length c.as_slice.ensures) in
    let is : r ≡ get_or items t.index r = c.in_ok-run.ensures.lookup.1 ∙ ap (λ xs. get_or xs t.index r) c.as_slice.ensures in
    let at = stands.0 here in (
      located-held items n t at r,
      λ d. to_z-of_z w16 _ fits ∙ ap (λ (r : Run). r.level) is ∙ located-level items n t at r d,
      elim c.if-spot-gt0.branch [
        | then-spot-gt0 w ↦
            let next = located_within items n t at r u (ap (λ s. s.index) w.spot-is) (omega (arith, w.if-spot-gt0.true, ap (λ s. s.offset) w.spot-is)) in
            (λ h. next, λ past. absurd (omega (arith, next.within)))
        | else-spot-gt0 w ↦
            let first : ℕ = length (spread (take (t.index + 1) items)) in
            let At : ℕ → Type 0 = λ k. RunStands s u k in
            let By : Spot → Type 0 = λ v. RunStands s v first in
            subst At (located_last items n t at r (omega (arith, w.if-spot-gt0.false))) (subst By (sym w.spot-is) (w.spot_at.ensures (omega (arith, here))))
      ],
    )
