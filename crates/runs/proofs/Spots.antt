-- Where the level at a place stands.
use Rattle.std.proofs.Common.{◌≡◌, ℕ, ◌+◌, ◌-◌, ◌<◌, List, length, get_or, take, replicate, ℤ, sym, ap, ◌∙◌, arith}
use Rattle.std.proofs.lemmas.List.{length-replicate, get_or-replicate}
use Rattle.std.proofs.lemmas.List.Concat.{get_or-flat_map}
use Rattle.store.specs.declared.reading.Spot.{Spot}
use Rattle.runs.specs.declared.Run.{Run}
use Rattle.runs.specs.Runs.{spread, Located}
use Rattle.runs.proofs.Spreads.{long-parted, long_next}

module _ (items : List Run) (n : ℕ) (t : Spot) (at : Located items n t) (d : Run) where
  -- how many levels of the record stand before the place
  abbrev pub located-before : ℕ
  located-before = (get_or items t.index d).count - t.offset - 1

  pub located-at : n ≡ length (spread (take t.index items)) + located-before
  located-at = omega (arith, at.at, at.inside d, long_next items t.index d at.within)

  pub located-held : n < length (spread items)
  located-held = omega (arith, located-at, at.inside d, long-parted items t.index d at.within)

  pub located-level : (e : ℤ) → (get_or items t.index d).level ≡ get_or (spread items) n e
  located-level e =
      let r = get_or items t.index d in
      let inside : located-before < r.count = omega (arith, at.inside d) in
      sym (ap (λ k. get_or (spread items) k e) located-at
      ∙ get_or-flat_map (λ r. replicate r.count r.level) items t.index located-before d e at.within (omega (arith, length-replicate r.count r.level))
      ∙ get_or-replicate r.count located-before r.level e inside)

  -- on within the record
  pub located_within : (u : Spot) → u.index ≡ t.index → u.offset + 1 ≡ t.offset → Located items (n + 1) u
  located_within u same one =
      record {
        within = omega (arith, at.within);
        at = omega (arith, at.at, ap (λ i. length (spread (take (i + 1) items))) same);
        inside = λ e. omega (arith, at.inside e, ap (λ i. (get_or items i e).count) same);
      }

  -- the last level of the record
  pub located_last : t.offset ≡ 0 → length (spread (take (t.index + 1) items)) ≡ n + 1
  located_last last = omega (arith, at.at)
