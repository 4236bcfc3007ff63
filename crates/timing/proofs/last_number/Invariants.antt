use Rattle.std.proofs.Common.{ℕ, map, string_bytes, drop}
use Rattle.std.specs.List.{FoldsTo}
use Rattle.timing.specs.Words.{NumberOr}
use Rattle.timing.proofs.last_number.Given as goal

-- what the words that are left make of this number, all of them make of 0
abbrev pub invariant-loop-word : goal.invariant-loop-word
invariant-loop-word g l = (n : ℕ) → FoldsTo (NumberOr l.most) l.last (map string_bytes (drop l.word-index l.words)) n → FoldsTo (NumberOr l.most) 0 (map string_bytes l.words) n
