-- What a LevelData stands for.
use Rattle.std.specs.Prelude.{◌≡◌, ℕ, ◌<◌, ◌≤◌, List, length, ℤ, Result, OnOk}
use Rattle.std.proofs.Common.{arith}
use Rattle.std.proofs.lemmas.List.{length-replicate}
use Rattle.store.specs.declared.growing.GrowingList.{GrowingList}
use Rattle.store.specs.declared.reading.Spot.{Spot}
use Rattle.store.specs.declared.refusal.Refusal.{Refusal}
use Rattle.store.specs.Growing.{list_most, items-most}
use Rattle.store.specs.Stores.{Meaning}
use Rattle.level_data.specs.declared.Form.{Form}
use Rattle.level_data.specs.declared.Form.TheVariants.{Empty, Uniform, Materialized}
use Rattle.level_data.specs.declared.LevelData.{LevelData}
use Rattle.level_data.specs.Forms.{form_count, form_levels, NextForm}

abbrev pub data_levels : LevelData → List ℤ
data_levels d = form_levels d.form d.list

abbrev pub data_most : LevelData → ℕ
data_most d = list_most d.list

abbrev pub data_meaning : LevelData → Meaning
data_meaning d = record { levels = data_levels d; most = data_most d }

-- the offset of a spot is the place
abbrev pub DataStands : LevelData → Spot → ℕ → Type 0
DataStands d spot n = spot.offset ≡ n

form_most : (f : Form) (g : GrowingList ℤ) → form_count f ≤ list_most g → length (form_levels f g) ≤ list_most g
form_most Empty g h = omega arith
form_most (Uniform value count) g h = omega (arith, length-replicate count value)
form_most Materialized g h = (items-most g).0

pub data_bounded : (d : LevelData) → (length (data_levels d) ≤ data_most d) × (data_most d ≤ 2147483647)
data_bounded d = (form_most d.form d.list d.fits, omega arith)

-- an empty run leaves the form
abbrev pub Formed : LevelData → LevelData → ℤ → ℕ → Result (Unit {0}) Refusal → Type 0
Formed s t level count r =
    OnOk r ((count ≡ 0 → t.form ≡ s.form) × (0 < count → NextForm s.form level (length (data_levels t)) t.form))

-- a level that was put stands in the memory
abbrev pub Written : LevelData → Result (Unit {0}) Refusal → Type 0
Written t r = OnOk r (t.form ≡ Materialized)
