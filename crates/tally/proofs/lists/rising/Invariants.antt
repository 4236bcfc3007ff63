use Rattle.std.proofs.Common.{◌≡◌, ◌≤◌, true, map, get_or, pos}
use Rattle.tally.specs.Reaching.{empties, Rises}
use Rattle.tally.proofs.lists.rising.Given as goal

abbrev pub invariant-loop-offset : goal.invariant-loop-offset
invariant-loop-offset g l =
    (l.first ≡ get_or (map g.T.Offset.value l.offsets) 0 (pos 0))
    × (l.last ≡ get_or (map g.T.Offset.value l.offsets) l.offset-index (pos 0))
    × (l.bare ≤ l.offset-index)
    × (l.rises ≡ true → Rises (map g.T.Offset.value l.offsets) 0 l.offset-index × (l.bare ≡ empties (map g.T.Offset.value l.offsets) l.offset-index 0))
