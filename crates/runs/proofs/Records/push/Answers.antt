use Rattle.std.proofs.Common.{◌≡◌, ◌+◌, ◌-◌, ◌<◌, ◌++◌, [], ◌∷◌, length, get_or, set, replicate, Some, sym, ap, ◌∙◌, subst, arith, w16, SFits, to_z, rules, List}
use Rattle.std.proofs.lemmas.Int.{to_z-of_z}
use Rattle.std.proofs.lemmas.List.Elements.{All-push}
use Rattle.std.proofs.lemmas.Option.{slice_get_within, get_or_from_slice_get}
use Rattle.std.specs.List.{slice_get}
use Rattle.store.specs.Growing.{list_items}
use Rattle.store.proofs.Growths.{grown_if, placed_if}
use Rattle.runs.specs.declared.Run.{Run}
use Rattle.runs.specs.Runs.{spread, NoneEmpty}
use Rattle.runs.proofs.Spreads.{records_fit, spread-append, spread_single}
use Rattle.runs.proofs.Changes.{run_of, lengthened}
use Rattle.runs.proofs.Records.push.Goals as goal

pub returns-in-Some-clause-levels : goal.returns-in-Some-clause-levels
returns-in-Some-clause-levels c =
    let items = list_items c.args.self.now.list in
    let i = length items - 1 in
    let r = c.in-Some.run' in
    let level = c.args.more.level in
    let count = c.args.more.count in
    let fits : SFits w16 level = search rules in
    let fits-r : SFits w16 r.level = search rules in
    let same : r.level ≡ level = sym (to_z-of_z w16 r.level fits-r) ∙ ap (to_z w16) c.if-run-more.true ∙ to_z-of_z w16 level fits in
    let read : slice_get items i ≡ Some r = ap (λ xs. slice_get xs (length xs - 1)) (sym c.as_slice.ensures) ∙ sym (c.in-Some.ensures ∙ c.last.ensures.value) in
    let here : i < length items = slice_get_within items i r read in
    let is : get_or items i r ≡ r = get_or_from_slice_get items i r r read in
    let one = placed_if c.args.self.now.list c.put.new.self (c.length-end.result - 1) _ c.put.result (simp to_z-of_z at c.put.ensures.list) (omega (arith, c.length-end.ensures)) in
    ap spread one.list
    ∙ ap (λ k. spread (set items (k - 1) (run_of level (r.count + count)))) c.length-end.ensures
    ∙ ap (λ l. spread (set items i (run_of l (r.count + count)))) (sym same)
    ∙ ap (λ q. spread (set items i (run_of q.level (q.count + count)))) (sym is)
    ∙ lengthened items i count r (omega arith)
    ∙ ap (λ q. spread items ++ replicate count q.level) is
    ∙ ap (λ l. spread items ++ replicate count l) same

pub unwrap-requires-in_default : goal.unwrap-requires-in_default
unwrap-requires-in_default c = let fit = records_fit (list_items c.args.self.now.list) c.args.self.now.none_empty in search rules

pub invariant_of-self-in_default : goal.invariant_of-self-in_default
invariant_of-self-in_default c =
    let s = c.args.self.now.list in
    let items = list_items s in
    let fits : SFits w16 c.args.more.level = search rules in
    let more = grown_if s _ (run_of c.args.more.level c.args.more.count) 1 c.append.result (c.append.ensures.list) (omega (arith, records_fit items c.args.self.now.none_empty)) in
    let N : List Run → Type 0 = NoneEmpty in
    record { none_empty = subst N (sym more.list) (All-push (λ (r : Run). 0 < r.count) items (run_of c.args.more.level c.args.more.count) c.args.self.now.none_empty c.requires.some) }

pub returns-in_default-clause-levels : goal.returns-in_default-clause-levels
returns-in_default-clause-levels c =
    let s = c.args.self.now.list in
    let items = list_items s in
    let one = run_of c.args.more.level c.args.more.count in
    let fits : SFits w16 c.args.more.level = search rules in
    let more = grown_if s _ one 1 c.append.result (c.append.ensures.list) (omega (arith, records_fit items c.args.self.now.none_empty)) in
    ap spread more.list ∙ spread-append items (one ∷ []) ∙ ap (λ q. spread items ++ q) (spread_single one)
