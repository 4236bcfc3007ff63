use Rattle.std.proofs.Common.{◌+◌, get_or, take, drop, ap, ◌∙◌, arith}
use Rattle.std.proofs.lemmas.List.{take_rest, get_or-take, get_or-drop}
use Rattle.reading.proofs.Packing.{word_packed}
use Rattle.reading.proofs.bits.word_at.Goals as goal

pub returns : goal.returns
returns c =
    let bs = c.args.bytes.now in
    let p = c.args.p in
    let chunk = rw c.unwrap.ensures at c.first_chunk.ensures.cases in
    c.from_le_bytes.ensures
    ∙ word_packed c.unwrap.result.now bs p (λ j l. ap (λ xs. get_or xs j 0) (chunk.same ∙ ap (take 8) (take_rest bs p)) ∙ get_or-take 8 (drop p bs) j 0 l ∙ get_or-drop p bs j 0) (λ j l. omega (arith, c.type_inv.bytes (p + j)))
