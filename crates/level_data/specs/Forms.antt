-- What the forms of a LevelData stand for.
use Rattle.std.specs.Prelude.{◌≡◌, ℕ, List, [], replicate, ℤ}
use Rattle.store.specs.declared.growing.GrowingList.{GrowingList}
use Rattle.store.specs.Growing.{list_items}
use Rattle.level_data.specs.declared.Form.{Form}
use Rattle.level_data.specs.declared.Form.TheVariants.{Empty, Uniform, Materialized}

-- how often a form itself says that its level comes
abbrev pub form_count : Form → ℕ
form_count Empty = 0
form_count (Uniform value count) = count
form_count Materialized = 0

abbrev pub form_levels : Form → GrowingList ℤ → List ℤ
form_levels Empty g = []
form_levels (Uniform value count) g = replicate count value
form_levels Materialized g = list_items g

-- the form after a run of one level at least: the first makes it uniform, and another level materializes it
abbrev pub NextForm : Form → ℤ → ℕ → Form → Type 0
NextForm Empty level total f = f ≡ Uniform level total
NextForm (Uniform value held) level total f = (value ≡ level → f ≡ Uniform level total) × ((value ≡ level → ⊥) → f ≡ Materialized)
NextForm Materialized level total f = f ≡ Materialized
