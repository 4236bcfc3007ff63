use Rattle.std.proofs.Common.{◌-◌, ◌<◌, length, get_or, sym, ap, ◌∙◌, subst, arith, w16, SFits, List, rules}
use Rattle.std.proofs.lemmas.Int.{to_z-of_z}
use Rattle.store.specs.Growing.{list_items}
use Rattle.runs.specs.declared.Run.{Run}
use Rattle.runs.specs.Runs.{NoneEmpty, spread}
use Rattle.runs.proofs.Spreads.{record_fits}
use Rattle.runs.proofs.Changes.{before_of, split_first, split_second, begun_fits, parts_are, parts-none_empty, replaced}
use Rattle.runs.proofs.Records.split.Goals as goal

pub add-requires-clause-room : goal.add-requires-clause-room
add-requires-clause-room c = λ some.
    let s = c.args.self.now.list in
    let t = c.args.spot in
    let fits : SFits w16 c.args.level = c.ranges.level in
    let r = c.at-run.result in
    let at = c.requires.at.1 in
    let one = split_first s c.put.new.self t _ at c.args.level c.put.result (simp to_z-of_z at c.put.ensures.list) in
    omega (arith, record_fits (list_items s) t.index r at.within c.args.self.now.none_empty, at.inside r, one.0, one.1, c.requires.room)

pub before-requires : goal.before-requires
before-requires c = omega (arith, c.requires.at.1.inside c.at-run.result, ap (λ (r : Run). r.count) (c.at-run.ensures c.at-run.result))

pub add-requires-2-clause-room : goal.add-requires-2-clause-room
add-requires-2-clause-room c = λ some.
    let s = c.args.self.now.list in
    let items = list_items s in
    let t = c.args.spot in
    let r = c.at-run.result in
    let fits : SFits w16 c.args.level = c.ranges.level in
    let fits-old : SFits w16 r.level = search rules in
    let at = c.requires.at.1 in
    let put = simp to_z-of_z at c.put.ensures.list in
    let one = split_first s c.put.new.self t _ at c.args.level c.put.result put in
    let two = split_second s c.put.new.self t _ at c.args.level c.put.result put r _ c.at-run.ensures (simp to_z-of_z at c.add.ensures.records) in
    let more : 0 < (get_or items t.index r).count - t.offset - 1 = omega (arith, ap (λ (r : Run). r.count) c.before-2.ensures, ap (λ (r : Run). r.count) (c.at-run.ensures r)) in
    omega (arith, ap length two, one.1, c.add.ensures.most, begun_fits items t _ at r c.args.level _ c.args.self.now.none_empty c.requires.room more)

pub invariant_of-self : goal.invariant_of-self
invariant_of-self c =
    let s = c.args.self.now.list in
    let items = list_items s in
    let t = c.args.spot in
    let r = c.at-run.result in
    let fits : SFits w16 c.args.level = c.ranges.level in
    let fits-old : SFits w16 r.level = search rules in
    let at = c.requires.at.1 in
    let two = split_second s c.put.new.self t _ at c.args.level c.put.result (simp to_z-of_z at c.put.ensures.list) r _ c.at-run.ensures (simp to_z-of_z at c.add.ensures.records) in
    let three = parts_are items t _ at r c.args.level c.before-2.result _ _ (c.before-2.ensures ∙ ap (λ r. before_of r t.offset) (c.at-run.ensures r)) two c.add-2.ensures.records in
    let N : List Run → Type 0 = NoneEmpty in
    record { none_empty = subst N (sym three) (parts-none_empty items t _ at r c.args.level c.args.self.now.none_empty) }

pub returns-clause-levels : goal.returns-clause-levels
returns-clause-levels c = λ place at.
    let s = c.args.self.now.list in
    let items = list_items s in
    let t = c.args.spot in
    let r = c.at-run.result in
    let fits : SFits w16 c.args.level = c.ranges.level in
    let fits-old : SFits w16 r.level = search rules in
    let two = split_second s c.put.new.self t _ at c.args.level c.put.result (simp to_z-of_z at c.put.ensures.list) r _ c.at-run.ensures (simp to_z-of_z at c.add.ensures.records) in
    let three = parts_are items t _ at r c.args.level c.before-2.result _ _ (c.before-2.ensures ∙ ap (λ r. before_of r t.offset) (c.at-run.ensures r)) two c.add-2.ensures.records in
    ap spread three ∙ replaced items t place at r c.args.level
