-- Two histograms over one store are one: the counts go by the levels.
use Rattle.std.proofs.Common.{◌≡◌, Ok, Err, Result, IsErrAnd, MatchResult, ◌∙◌}
use Rattle.std.proofs.Props.{props}
use mathlib.Core.HLevel.{is_prop→PathP}
use Rattle.store.specs.declared.refusal.Refusal.{Refusal}
use Rattle.histogram.specs.Tallies.{Counted}
use Rattle.histogram.specs.declared.Histogram.{Histogram}

pub unchanged : {S : Type 0} {d : _} (h : Histogram S d) (below : S) (same : below ≡ h.below) (counted : Counted (d.meaning below).levels h.counts)
    → ◌≡◌ {A = Histogram S d} (record { below = below; counts = h.counts; counted = counted }) h
unchanged {d = d} h below same counted = λ i. record {
  below = same i;
  counts = h.counts;
  counted = is_prop→PathP (λ j. Counted (d.meaning (same j)).levels h.counts) (λ j. hlevel props) counted h.counted i;
}

-- what the store below refuses is passed on, and the histogram stays
pub passed_on : {S : Type 0} {d : _} {Why : Type 0} (Done : Type 0) (h : Histogram S d) (below : S) (counted : Counted (d.meaning below).levels h.counts) (given e : Refusal) (r : Result (Unit {0}) Refusal)
    → IsErrAnd r (λ y. y ≡ given) → (given ≡ e) × Why × (below ≡ h.below)
    → MatchResult r (λ _. Done) (λ y. (y ≡ e) × Why × ◌≡◌ {A = Histogram S d} (record { below = below; counts = h.counts; counted = counted }) h)
passed_on Done h below counted given e (Ok u) is why = absurd is
passed_on Done h below counted given e (Err y) is why = (is ∙ why.0, why.1, unchanged h below why.2 counted)
