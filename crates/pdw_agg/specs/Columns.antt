-- The schemas of the rows that a grouping makes: its keys and a column for each aggregate, by rising numbers.
use Rattle.std.specs.List.{list_any}
use Rattle.std.specs.Prelude.{⊤, ◌≡◌, ◌==◌, ◌++◌, false, List, [], ◌∷◌, map}
use Rattle.pdw_algebra.specs.Schema.{kind_at, rising}
use Rattle.pdw_algebra.specs.Shape.{aggregate_column, key_column, kind_or_int}
use Rattle.pdw_algebra.specs.Types.{aggregate_kind}
use Rattle.pdw_base.specs.Schema.{Columns}
use Rattle.pdw_base.specs.declared.schema.ColId.{ColId}
use Rattle.pdw_base.specs.declared.value.Kind.{Kind}
use Rattle.pdw_base.specs.declared.value.Kind.TheVariants as kind
use Rattle.pdw_expr.specs.declared.agg.Agg.{Agg}
use Rattle.pdw_expr.specs.declared.agg.AggKind.{AggKind}
use Rattle.pdw_expr.specs.declared.agg.AggKind.TheVariants as aggregate

-- the schema of the groups of rows over some columns
abbrev pub grouped_schema : List ColId → List Agg → Columns → Columns
grouped_schema keys aggs columns = rising (map (key_column columns) keys ++ map (aggregate_column columns) aggs)

-- partial rows keep counts and sums as wide numbers
abbrev pub partial_kind : AggKind → Kind → Kind
partial_kind aggregate.CountStar final = kind.Wide
partial_kind aggregate.Count final = kind.Wide
partial_kind aggregate.Sum final = kind.Wide
partial_kind aggregate.Min final = final
partial_kind aggregate.Max final = final

abbrev pub partial_column : Columns → Agg → (ColId × Kind)
partial_column columns agg = (agg.out, partial_kind agg.kind (kind_or_int (aggregate_kind columns agg)))

-- the schema of the partial rows of rows over some columns
abbrev pub partial_schema : List ColId → List Agg → Columns → Columns
partial_schema keys aggs columns = rising (map (key_column columns) keys ++ map (partial_column columns) aggs)

-- final counts and sums are numbers of 64 bits again
abbrev pub final_kind : AggKind → Kind → Kind
final_kind aggregate.CountStar kept = kind.Int
final_kind aggregate.Count kept = kind.Int
final_kind aggregate.Sum kept = kind.Int
final_kind aggregate.Min kept = kept
final_kind aggregate.Max kept = kept

-- partial rows have what an aggregate kept in the aggregate's own column
abbrev pub final_column : Columns → Agg → (ColId × Kind)
final_column columns agg = (agg.out, final_kind agg.kind (kind_or_int (kind_at columns agg.out)))

-- the schema of the final rows of partial rows over some columns
abbrev pub final_schema : List ColId → List Agg → Columns → Columns
final_schema keys aggs columns = rising (map (key_column columns) keys ++ map (final_column columns) aggs)

-- the columns of the aggregates differ from each other
abbrev pub OutsDiffer : List Agg → Type 0
OutsDiffer [] = ⊤
OutsDiffer (agg ∷ aggs) = (list_any (λ other. agg.out.0 == other.out.0) aggs ≡ false) × OutsDiffer aggs
