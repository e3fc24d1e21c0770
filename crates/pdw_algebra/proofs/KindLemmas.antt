-- The kind of a column by a search of the list.
use Rattle.std.proofs.Common.{◌≡◌, ◌==◌, Bool, true, false, [], ◌∷◌, Some, refl, if◌then◌else◌}
use Rattle.std.specs.List.{find}
use Rattle.std.specs.Option.{option_map}
use Rattle.pdw_algebra.specs.Schema.{kind_at}
use Rattle.pdw_base.specs.Schema.{Columns}
use Rattle.pdw_base.specs.declared.schema.ColId.{ColId}

pub kind_at-find : (columns : Columns) (c : ColId) → kind_at columns c ≡ option_map (λ column. column.1) (find (λ column. column.0.0 == c.0) columns)
kind_at-find [] c = refl
kind_at-find (column ∷ columns) c = by (column.0.0 == c.0) (kind_at-find columns c)
  where
    by : (here : Bool) → kind_at columns c ≡ option_map (λ column. column.1) (find (λ column. column.0.0 == c.0) columns)
        → (if here then Some column.1 else kind_at columns c)
        ≡ option_map (λ column. column.1) (if here then Some column else find (λ column. column.0.0 == c.0) columns)
    by true rest = refl
    by false rest = rest

pub ruleset by_find = kind_at-find
