-- Databases that differ in the order of rows alone: the same tables, and for each name equal bags of rows.
use Rattle.std.specs.Prelude.{◌≡◌, ℕ, List}
use Rattle.pdw_base.specs.SameBag.{SameBag}
use Rattle.pdw_catalog.specs.Database.{Database}

pub record SameRows (one other : Database) : Type 0 where
  pub tables : one.tables ≡ other.tables
  pub rows : (name : List ℕ) → SameBag (one.rows name) (other.rows name)
