use Rattle.std.proofs.Common.{rules}
use Rattle.std.proofs.lemmas.Iterator.{YieldsList-from_slice, YieldsList-from_zip, same_from_all}
use Rattle.std.proofs.lemmas.Iterator.Consumers.{YieldsList-from_first}
use borrow.Author.Tests.{tests}
use Rattle.store_reader.proofs.holds.Goals as goal

pub returns-then-length-expected : goal.returns-then-length-expected
returns-then-length-expected g c =
    let xs = (g.S.LevelStore.meaning c.args.store.now).levels in
    let ys = c.args.expected.now in
    same_from_all c.all.new.self _ _ xs ys c.all.ensures.ran (YieldsList-from_zip (YieldsList-from_first (λ x. x) (λ l. l) xs cc) (YieldsList-from_slice ys cc)) (search rules) (λ x q k. search (rules, tests)) (λ x q k. search (rules, tests))
