use Rattle.std.proofs.Common.{◌+◌, ◌<◌, List, length, take, pos, sym, ap, ◌∙◌, subst, arith, length-set}
use Rattle.std.proofs.lemmas.List.Elements.{All-take, All-set}
use Rattle.store.specs.Growing.{list_items}
use Rattle.store.proofs.Growths.{placed_if, shortened_if}
use Rattle.runs.specs.declared.Run.{Run}
use Rattle.runs.specs.Runs.{spread, NoneEmpty}
use Rattle.runs.proofs.Changes.{run_of, before_of, spread-take, trimmed_at}
use Rattle.runs.proofs.Spots.{located-at}
use Rattle.runs.proofs.Records.trim.Goals as goal

pub returns-then-kept-eq0-clause-levels : goal.returns-then-kept-eq0-clause-levels
returns-then-kept-eq0-clause-levels c = λ place at.
    let s = c.args.self.now.list in
    let items = list_items s in
    let t = c.args.spot in
    let d = run_of (pos 0) 0 in
    let less = shortened_if _ s _ t.index c.cut_back.result c.cut_back.ensures.list (omega (arith, at.within)) in
    let none = ap (λ (r : Run). r.count) (c.before-kept.ensures ∙ ap (λ r. before_of r t.offset) (c.at.ensures d)) in
    ap spread less.list ∙ spread-take items t.index ∙ ap (λ k. take k (spread items)) (omega (arith, located-at items place t at d, none))

pub invariant_of-self-2 : goal.invariant_of-self-2
invariant_of-self-2 c =
    let s = c.args.self.now.list in
    let items = list_items s in
    let i = c.args.spot.index in
    let within = c.requires.1.within in
    let P : Run → Type 0 = λ r. 0 < r.count in
    let N : List Run → Type 0 = NoneEmpty in
    let kept = c.before-kept.result in
    let one = placed_if s c.put.new.self i kept c.put.result c.put.ensures.list within in
    let less = shortened_if _ c.put.new.self _ (i + 1) c.cut_back-2.result c.cut_back-2.ensures.list (omega (arith, within, ap length one.list, length-set items i kept)) in
    record { none_empty = subst N (sym (less.list ∙ ap (take (i + 1)) one.list)) (All-take P (i + 1) _ (All-set P items i kept (omega arith) c.args.self.now.none_empty)) }

pub returns-clause-levels : goal.returns-clause-levels
returns-clause-levels c = λ place at.
    let s = c.args.self.now.list in
    let items = list_items s in
    let t = c.args.spot in
    let kept = c.before-kept.result in
    let one = placed_if s c.put.new.self t.index kept c.put.result c.put.ensures.list at.within in
    let less = shortened_if _ c.put.new.self _ (t.index + 1) c.cut_back-2.result c.cut_back-2.ensures.list (omega (arith, at.within, ap length one.list, length-set items t.index kept)) in
    ap spread (less.list ∙ ap (take (t.index + 1)) one.list) ∙ trimmed_at items t place kept at (λ d. c.before-kept.ensures ∙ ap (λ r. before_of r t.offset) (c.at.ensures d))
