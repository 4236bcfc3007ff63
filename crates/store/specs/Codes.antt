-- The public numbers and names of the refusals.
use Rattle.std.specs.Prelude.{ℕ, List, codes}
use Rattle.store.specs.declared.refusal.Refusal.{Refusal}
use Rattle.store.specs.declared.refusal.Refusal.TheVariants.{Place, NoRoom}

abbrev pub code_of : Refusal → ℕ
code_of Place = 20
code_of NoRoom = 21

abbrev pub name_of : Refusal → List ℕ
name_of Place = codes "place"
name_of NoRoom = codes "no-room"
