-- The place of the first kind whose word a text is, among all kinds, is its number. Assumes nothing.
use Rattle.std.proofs.Common.{◌≡◌, ℕ, ◌+◌, Bool, true, false, cond, not, ltb, List, [], ◌∷◌, Some, None, Ok, Option, Result, refl, ◌∙◌, subst}
use Rattle.std.specs.List.{position}
use Rattle.table.specs.declared.node.Kind.{Kind as NodeKind}
use Rattle.table.specs.Kinds.{kind_word}
use Rattle.words.specs.Words.{same}
use Rattle.line_fault.specs.declared.Key.TheVariants.{Kind}
use Rattle.line_fault.specs.declared.LineFault.{LineFault}
use Rattle.part.specs.Reads.{Unsigned, kind_named, KindRead}

abbrev all_kinds : List NodeKind
all_kinds = NodeKind.Leaf ∷ NodeKind.Struct ∷ NodeKind.List ∷ NodeKind.LargeList ∷ NodeKind.FixedSizeList ∷ NodeKind.ListView ∷ NodeKind.LargeListView ∷ []

abbrev pub has_word : List ℕ → NodeKind → Bool
has_word bs k = same bs (kind_word k)

-- how many tests fail before the first that passes
abbrev passed : Bool → ℕ → ℕ
passed b n = cond (not b) (1 + n) 0

first_of_seven : (a b c d e f g : Bool)
    → let n = passed a (passed b (passed c (passed d (passed e (passed f (passed g 0)))))) in
    cond (ltb n 7) (Some n) None ≡ cond a (Some 0) (cond b (Some 1) (cond c (Some 2) (cond d (Some 3) (cond e (Some 4) (cond f (Some 5) (cond g (Some 6) None))))))
first_of_seven true b c d e f g = refl
first_of_seven false true c d e f g = refl
first_of_seven false false true d e f g = refl
first_of_seven false false false true e f g = refl
first_of_seven false false false false true f g = refl
first_of_seven false false false false false true g = refl
first_of_seven false false false false false false true = refl
first_of_seven false false false false false false false = refl

place_is : (bs : List ℕ) → position (has_word bs) all_kinds ≡ kind_named bs
place_is bs =
    first_of_seven (has_word bs NodeKind.Leaf) (has_word bs NodeKind.Struct) (has_word bs NodeKind.List) (has_word bs NodeKind.LargeList) (has_word bs NodeKind.FixedSizeList)
    (has_word bs NodeKind.ListView) (has_word bs NodeKind.LargeListView)

pub kind_found : (bs : List ℕ) (k : ℕ) → Some k ≡ position (has_word bs) all_kinds → KindRead (kind_named bs) bs (Ok k)
kind_found bs k e = subst (λ (o : Option ℕ). KindRead o bs (Ok k)) (e ∙ place_is bs) refl

pub none_found : (bs : List ℕ) (r : Result ℕ LineFault) → None ≡ position (has_word bs) all_kinds → Unsigned 8 Kind bs r → KindRead (kind_named bs) bs r
none_found bs r e h = subst (λ (o : Option ℕ). KindRead o bs r) (e ∙ place_is bs) h
