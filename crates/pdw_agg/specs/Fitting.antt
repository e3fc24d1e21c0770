-- When made rows fit their schemas.
use Rattle.std.specs.List.{list_all}
use Rattle.std.specs.Prelude.{◌||◌, Bool, true, All, IsTrue, List, Option, is_some}
use Rattle.pdw_algebra.specs.Schema.{kind_at}
use Rattle.pdw_algebra.specs.Types.{aggregate_kind, is_number, is_text}
use Rattle.pdw_base.specs.Schema.{Columns, FitsColumns}
use Rattle.pdw_base.specs.declared.schema.ColId.{ColId}
use Rattle.pdw_base.specs.declared.value.Kind.{Kind}
use Rattle.pdw_base.specs.declared.value.Value.{Value}
use Rattle.pdw_expr.specs.declared.agg.Agg.{Agg}
use Rattle.pdw_expr.specs.declared.agg.AggKind.{AggKind}
use Rattle.pdw_expr.specs.declared.agg.AggKind.TheVariants.{CountStar, Count, Sum, Min, Max}
use Rattle.pdw_partial.specs.Partial.{KeysApart}

-- a kind that a column of a table may have
abbrev pub is_plain : Option Kind → Bool
is_plain kind = is_number kind || is_text kind

-- what is kept as a value itself is of such a kind; counts and sums are always numbers
abbrev pub keeps_plain : AggKind → Option Kind → Bool
keeps_plain CountStar kept = true
keeps_plain Count kept = true
keeps_plain Sum kept = true
keeps_plain Min kept = is_plain kept
keeps_plain Max kept = is_plain kept

module _ (keys : List ColId) (aggs : List Agg) (columns : Columns) (rows : List (List Value)) where
  -- the rows fit their columns, no aggregate's column is a key, and each aggregate has a kind over the columns: INT or TEXT
  pub record CanGroup : Type 0 where
    pub fit : All (FitsColumns columns) rows
    pub apart : KeysApart keys aggs
    pub typed : IsTrue (list_all (λ agg. is_plain (aggregate_kind columns agg)) aggs)

  -- the same, of partial rows: any kind will do
  pub record CanKeep : Type 0 where
    pub fit : All (FitsColumns columns) rows
    pub apart : KeysApart keys aggs
    pub typed : IsTrue (list_all (λ agg. is_some (aggregate_kind columns agg)) aggs)

  -- the same, of final rows: MIN and MAX are read from columns of kind INT or TEXT
  pub record CanFinish : Type 0 where
    pub fit : All (FitsColumns columns) rows
    pub apart : KeysApart keys aggs
    pub typed : IsTrue (list_all (λ agg. keeps_plain agg.kind (kind_at columns agg.out)) aggs)
