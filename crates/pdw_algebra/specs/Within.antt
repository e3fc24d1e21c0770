-- Rows that have NULL outside some columns.
use Rattle.std.specs.Prelude.{◌≡◌, false, List}
use Rattle.std.specs.List.{AllByRecursion}
use Rattle.pdw_algebra.specs.Shape.{has_number}
use Rattle.pdw_base.specs.Schema.{Columns, Env}
use Rattle.pdw_base.specs.declared.schema.ColId.{ColId}
use Rattle.pdw_base.specs.declared.value.Value.TheVariants.{Null}

-- a row has NULL outside these columns
pub record IsWithin (columns : Columns) (row : Env) : Type 0 where
  pub elsewhere : (c : ColId) → has_number c columns ≡ false → row c ≡ Null

abbrev pub AllWithin : Columns → List Env → Type 0
AllWithin columns rows = AllByRecursion (IsWithin columns) rows
