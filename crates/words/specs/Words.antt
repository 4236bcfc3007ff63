-- The words of a line. Assumes nothing.
use Rattle.std.specs.Prelude.{ℕ, Bool, true, false, cond, List, [], ◌∷◌, ◌++◌, ◌==◌}

-- a blank, a tab or an end of a line
abbrev pub blank : ℕ → Bool
blank b = cond (b == 32) true (cond (b == 9) true (cond (b == 13) true (b == 10)))

-- what stands before the first '#'
abbrev pub uncommented : List ℕ → List ℕ
uncommented [] = []
uncommented (b ∷ bs) = cond (b == 35) [] (b ∷ uncommented bs)

-- a word that has come to its end, where there is one
abbrev pub ended : List ℕ → List (List ℕ)
ended [] = []
ended (b ∷ bs) = (b ∷ bs) ∷ []

-- the words of a text that goes on after the bytes so far of a word
abbrev pub parted : List ℕ → List ℕ → List (List ℕ)
parted word [] = ended word
parted word (b ∷ bs) = cond (blank b) (ended word ++ parted [] bs) (parted (word ++ (b ∷ [])) bs)

abbrev pub words_of : List ℕ → List (List ℕ)
words_of line = parted [] (uncommented line)

-- whether two texts are the same
abbrev pub same : List ℕ → List ℕ → Bool
same [] [] = true
same [] (d ∷ ds) = false
same (b ∷ bs) [] = false
same (b ∷ bs) (d ∷ ds) = cond (b == d) (same bs ds) false
