-- One-to-one maps of the names of objects, and what is written under other names.
use Rattle.std.specs.Prelude.{◌≡◌, ℕ}
use Rattle.run_types.specs.declared.types.Value.{Value}
use Rattle.run_types.specs.declared.types.Value.TheVariants as V
use Rattle.run_types.specs.declared.types.Item.{Item}
use Rattle.run_types.specs.declared.types.Item.TheVariants as I

-- a one-to-one map of all names onto all names, with its inverse
pub record Renaming : Type 0 where
  pub to : ℕ → ℕ
  pub from : ℕ → ℕ
  pub from_to : (n : ℕ) → from (to n) ≡ n
  pub to_from : (n : ℕ) → to (from n) ≡ n

-- the value, with each name mapped
abbrev pub renamed_value : (ℕ → ℕ) → Value → Value
renamed_value f (V.Ref n) = V.Ref (f n)
renamed_value f v = v

-- the item, with each name mapped
abbrev pub renamed_item : (ℕ → ℕ) → Item → Item
renamed_item f (I.Value v) = I.Value (renamed_value f v)
renamed_item f (I.Text s) = I.Text s
