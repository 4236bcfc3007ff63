-- A LevelData whose list holds the levels does what the list does.
use Rattle.std.proofs.Common.{◌≡◌, ℕ, ◌≤◌, ◌++◌, length, replicate, ℤ, Ok, Err, Result, sym, ap, ◌∙◌, subst, arith}
use Rattle.std.proofs.Math.Bridge.{le_prop}
use Rattle.store.specs.declared.growing.GrowingList.{GrowingList}
use Rattle.store.specs.declared.refusal.Refusal.{Refusal}
use Rattle.store.specs.Growing.{list_items, list_most, Appended}
use Rattle.store.specs.Stores.{Appends}
use Rattle.level_data.specs.declared.Form.{Form}
use Rattle.level_data.specs.declared.Form.TheVariants.{Materialized}
use Rattle.level_data.specs.declared.LevelData.{LevelData}
use Rattle.level_data.specs.Forms.{form_count, form_levels}
use Rattle.level_data.specs.Data.{data_meaning}

abbrev pub data_of : (f : Form) (g : GrowingList ℤ) → form_count f ≤ list_most g → LevelData
data_of f g h = record { list = g; form = f; fits = h }

-- a list that stayed
same_list : (f : Form) (g l : GrowingList ℤ) (h : form_count f ≤ list_most g) (k : form_count f ≤ list_most l) → g ≡ l → data_of f l k ≡ data_of f g h
same_list f g l h k e = let P : GrowingList ℤ → Type 0 = λ l. (k : form_count f ≤ list_most l) → data_of f l k ≡ data_of f g h in subst P e (λ k. ap (data_of f g) (le_prop k h)) k

module _ (d : LevelData) (l : GrowingList ℤ) (h : form_count d.form ≤ list_most l) (m : d.form ≡ Materialized) where
  abbrev pub changed : LevelData
  changed = data_of d.form l h

  is : (g : GrowingList ℤ) → form_levels d.form g ≡ list_items g
  is g = ap (λ f. form_levels f g) m

  pub appended_list : (level : ℤ) (count : ℕ) (r : Result (Unit {0}) Refusal) → Appended d.list l level count r → Appends data_meaning d changed level count r
  appended_list level count (Ok u) a = record { room = omega (arith, a.room, ap length (is d.list)); levels = is l ∙ a.list ∙ ap (λ q. q ++ replicate count level) (sym (is d.list)); most = omega (arith, a.size) }
  appended_list level count (Err e) a = (a.0, omega (arith, a.1, ap length (is d.list)), same_list d.form d.list l d.fits h (sym a.2))
