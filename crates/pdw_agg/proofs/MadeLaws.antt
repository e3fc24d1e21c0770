-- What the three functions make.
use Rattle.std.proofs.Common.{All, List, map, refl, ap, ◌∙◌}
use Rattle.pdw_agg.proofs.FitLemmas.{finals-fit, fit-alike, grouped-fit, partials-fit}
use Rattle.pdw_agg.proofs.GroupLemmas.{rows_of-made}
use Rattle.pdw_agg.proofs.NumberLemmas.{row_over-made}
use Rattle.pdw_agg.proofs.StageLemmas.{finals-rows, partials-rows, whole-rows}
use Rattle.pdw_agg.specs.Columns.{final_column, final_schema, grouped_schema, partial_column, partial_schema}
use Rattle.pdw_agg.specs.Fitting.{CanFinish, CanGroup, CanKeep}
use Rattle.pdw_agg.specs.Grouping.{final_over, grouped_over, partial_over}
use Rattle.pdw_agg.specs.Made.{made_columns, rows_of}
use Rattle.pdw_agg.specs.declared.stage.Stage.TheVariants.{Whole, Partial, Final}
use Rattle.pdw_algebra.specs.Schema.{rising}
use Rattle.pdw_algebra.specs.Shape.{aggregate_column, key_column}
use Rattle.pdw_base.proofs.SameBagLaws.{SameBag-trans, SameBag-≡}
use Rattle.pdw_base.specs.SameBag.{SameBag}
use Rattle.pdw_base.specs.Schema.{Columns, FitsColumns, cell, row_over}
use Rattle.pdw_base.specs.declared.schema.ColId.{ColId}
use Rattle.pdw_base.specs.declared.value.Value.{Value}
use Rattle.pdw_expr.specs.declared.agg.Agg.{Agg}

module _ (keys : List ColId) (aggs : List Agg) (columns : Columns) (rows bag : List (List Value)) where
  abbrev made : Columns
  made = rising (made_columns keys aggs)

  pub made-grouped : SameBag bag (rows_of made Whole keys aggs columns rows) → SameBag bag (grouped_over keys aggs columns rows)
  made-grouped same = SameBag-trans same (SameBag-≡ (
      rows_of-made Whole keys aggs columns made (grouped_schema keys aggs columns) (row_over-made keys aggs (key_column columns) (aggregate_column columns) (λ c. refl) (λ agg. refl)) rows
      ∙ ap (map (row_over (grouped_schema keys aggs columns))) (whole-rows keys aggs (map (cell columns) rows))))

  pub made-partials : SameBag bag (rows_of made Partial keys aggs columns rows) → SameBag bag (partial_over keys aggs columns rows)
  made-partials same = SameBag-trans same (SameBag-≡ (
      rows_of-made Partial keys aggs columns made (partial_schema keys aggs columns) (row_over-made keys aggs (key_column columns) (partial_column columns) (λ c. refl) (λ agg. refl)) rows
      ∙ ap (map (row_over (partial_schema keys aggs columns))) (partials-rows keys aggs (map (cell columns) rows))))

  pub made-finals : SameBag bag (rows_of made Final keys aggs columns rows) → SameBag bag (final_over keys aggs columns rows)
  made-finals same = SameBag-trans same (SameBag-≡ (
      rows_of-made Final keys aggs columns made (final_schema keys aggs columns) (row_over-made keys aggs (key_column columns) (final_column columns) (λ c. refl) (λ agg. refl)) rows
      ∙ ap (map (row_over (final_schema keys aggs columns))) (finals-rows keys aggs (map (cell columns) rows))))

  pub made-grouped_fit : SameBag bag (rows_of made Whole keys aggs columns rows) → CanGroup keys aggs columns rows → All (FitsColumns (grouped_schema keys aggs columns)) bag
  made-grouped_fit same can = fit-alike (grouped_schema keys aggs columns) bag _ (made-grouped same) (grouped-fit columns keys aggs rows can)

  pub made-partials_fit : SameBag bag (rows_of made Partial keys aggs columns rows) → CanKeep keys aggs columns rows → All (FitsColumns (partial_schema keys aggs columns)) bag
  made-partials_fit same can = fit-alike (partial_schema keys aggs columns) bag _ (made-partials same) (partials-fit columns keys aggs rows can)

  pub made-finals_fit : SameBag bag (rows_of made Final keys aggs columns rows) → CanFinish keys aggs columns rows → All (FitsColumns (final_schema keys aggs columns)) bag
  made-finals_fit same can = fit-alike (final_schema keys aggs columns) bag _ (made-finals same) (finals-fit columns keys aggs rows can)
