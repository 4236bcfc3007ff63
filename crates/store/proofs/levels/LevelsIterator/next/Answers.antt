use Rattle.std.proofs.Common.{w16, SFits, rules}
use Rattle.std.proofs.lemmas.List.{drop_more}
use Rattle.std.proofs.lemmas.Int.{to_z-of_z}
use Rattle.store.proofs.levels.LevelsIterator.next.Goals as goal

pub returns-clause-steps : goal.returns-clause-steps
returns-clause-steps g c =
    let xs = (g.S.LevelStore.meaning c.self.inside.store.now).levels in
    let n = c.self.inside.place in
    let x = c.in_ok-level.level in
    let fits : SFits w16 x = search rules in
    let read = c.in_ok-level.ensures n c.self.invariant.1 in
    cc (c.self.view_is, read.1 x, drop_more xs n x read.0, to_z-of_z w16 x fits)
