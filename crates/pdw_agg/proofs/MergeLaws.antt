-- The laws of positional partial rows.
use Rattle.std.proofs.Common.{◌≡◌, ◌≢◌, List, [], ◌∷◌, ◌++◌, map, refl, sym, ap, subst, ◌∙◌}
use Rattle.std.proofs.lemmas.List.{map-append}
use Rattle.std.specs.List.{AllByRecursion, flat_map}
use Rattle.pdw_agg.proofs.NumberLemmas.{row_over-made}
use Rattle.pdw_agg.proofs.StageLemmas.{finals-rows, partials-rows, read_rows, whole-rows}
use Rattle.pdw_agg.specs.Columns.{final_column, final_kind, final_schema, grouped_schema, partial_kind, partial_schema}
use Rattle.pdw_agg.specs.Grouping.{IsPartialOver, final_over, grouped_over, partial_over}
use Rattle.pdw_agg.specs.declared.stage.Stage.TheVariants.{Whole, Partial, Final}
use Rattle.pdw_algebra.specs.Schema.{kind_at}
use Rattle.pdw_algebra.specs.Shape.{aggregate_column, key_column, kind_or_int}
use Rattle.pdw_algebra.specs.Types.{aggregate_kind}
use Rattle.pdw_bag_laws.proofs.Groups.{SameBag-grouped}
use Rattle.pdw_base.proofs.SameBagLaws.{SameBag-append, SameBag-map, SameBag-refl, SameBag-trans, SameBag-≡}
use Rattle.pdw_base.specs.SameBag.{SameBag}
use Rattle.pdw_base.specs.Schema.{Columns, Env, cell, row_over}
use Rattle.pdw_base.specs.declared.schema.ColId.{ColId}
use Rattle.pdw_base.specs.declared.value.Value.{Value}
use Rattle.pdw_expr.specs.Rows.{grouped}
use Rattle.pdw_expr.specs.declared.agg.Agg.{Agg}
use Rattle.pdw_partial.proofs.Groups.{SameBag-final_rows, SameBag-partial_rows, final-partials}
use Rattle.pdw_partial.specs.Partial.{IsPartial, KeysApart, final_rows, partial_rows, together}

abbrev Rows : Type 0
Rows = List (List Value)

module _ (keys : List ColId) (aggs : List Agg) (columns : Columns) where
  -- ---- what made rows stand for

  pub grouped-back : (rows : Rows) → map (cell (grouped_schema keys aggs columns)) (grouped_over keys aggs columns rows) ≡ grouped keys aggs (map (cell columns) rows)
  grouped-back rows =
      let all = map (cell columns) rows in
      subst (λ made. map (cell (grouped_schema keys aggs columns)) (map (row_over (grouped_schema keys aggs columns)) made) ≡ made) (whole-rows keys aggs all)
      (read_rows (λ key. kind_or_int (kind_at columns key)) (λ agg. kind_or_int (aggregate_kind columns agg)) Whole keys aggs all)

  pub partials-back : (rows : Rows) → map (cell (partial_schema keys aggs columns)) (partial_over keys aggs columns rows) ≡ partial_rows keys aggs (map (cell columns) rows)
  partials-back rows =
      let all = map (cell columns) rows in
      subst (λ made. map (cell (partial_schema keys aggs columns)) (map (row_over (partial_schema keys aggs columns)) made) ≡ made) (partials-rows keys aggs all)
      (read_rows (λ key. kind_or_int (kind_at columns key)) (λ agg. partial_kind agg.kind (kind_or_int (aggregate_kind columns agg))) Partial keys aggs all)

  pub finals-back : (rows : Rows) → map (cell (final_schema keys aggs columns)) (final_over keys aggs columns rows) ≡ final_rows keys aggs (map (cell columns) rows)
  finals-back rows =
      let all = map (cell columns) rows in
      subst (λ made. map (cell (final_schema keys aggs columns)) (map (row_over (final_schema keys aggs columns)) made) ≡ made) (finals-rows keys aggs all)
      (read_rows (λ key. kind_or_int (kind_at columns key)) (λ agg. final_kind agg.kind (kind_or_int (kind_at columns agg.out))) Final keys aggs all)

  -- ---- equal bags

  module _ (rows others : Rows) (same : SameBag rows others) where
    pub grouped-same : grouped_over keys aggs columns rows ≡ grouped_over keys aggs columns others
    grouped-same = ap (map (row_over (grouped_schema keys aggs columns))) (SameBag-grouped keys aggs _ _ (SameBag-map (cell columns) same))

    pub partials-same : partial_over keys aggs columns rows ≡ partial_over keys aggs columns others
    partials-same = ap (map (row_over (partial_schema keys aggs columns))) (SameBag-partial_rows keys aggs _ _ (SameBag-map (cell columns) same))

    pub finals-same : final_over keys aggs columns rows ≡ final_over keys aggs columns others
    finals-same = ap (map (row_over (final_schema keys aggs columns))) (SameBag-final_rows keys aggs _ _ (SameBag-map (cell columns) same))

  -- ---- merging

  abbrev Pair : Type 0
  Pair = Rows × Rows

  abbrev part_of : Pair → List Env
  part_of pair = map (cell columns) pair.0

  abbrev kept_schema : Columns
  kept_schema = partial_schema keys aggs columns

  -- the bag of a pair, and its partial rows
  abbrev IsKept : Pair → Type 0
  IsKept pair = SameBag pair.1 (partial_over keys aggs columns pair.0)

  parts-together : (pairs : List Pair) → together (map part_of pairs) ≡ map (cell columns) (flat_map (λ pair. pair.0) pairs)
  parts-together [] = refl
  parts-together (pair ∷ pairs) =
      ap (λ rest. part_of pair ++ rest) (parts-together pairs) ∙ sym (map-append (cell columns) pair.0 (flat_map (λ (pair : Pair). pair.0) pairs))

  partials-together : (pairs : List Pair) → AllByRecursion IsKept pairs
      → SameBag (map (cell kept_schema) (flat_map (λ pair. pair.1) pairs)) (flat_map (partial_rows keys aggs) (map part_of pairs))
  partials-together [] kept = SameBag-refl []
  partials-together (pair ∷ pairs) kept =
      SameBag-trans (SameBag-≡ (map-append (cell kept_schema) pair.1 (flat_map (λ (pair : Pair). pair.1) pairs)))
      (SameBag-append (SameBag-trans (SameBag-map (cell kept_schema) kept.0) (SameBag-≡ (partials-back pair.0))) (partials-together pairs kept.1))

  some-parts : (pairs : List Pair) → pairs ≢ [] → map part_of pairs ≢ []
  some-parts [] some none = some refl
  some-parts (pair ∷ pairs) some none = cc

  final-as-grouped : row_over (final_schema keys aggs kept_schema) ≡ row_over (grouped_schema keys aggs columns)
  final-as-grouped =
      sym (row_over-made keys aggs (key_column kept_schema) (final_column kept_schema) (λ c. refl) (λ agg. refl))
      ∙ row_over-made keys aggs (key_column columns) (aggregate_column columns) (λ c. refl) (λ agg. refl)

  pub merged-groups : KeysApart keys aggs → (input partials : Rows) → IsPartialOver keys aggs columns input partials → final_over keys aggs kept_schema partials ≡ grouped_over keys aggs columns input
  merged-groups apart input partials over =
      let of : IsPartial keys aggs (map (cell columns) input) (map (cell kept_schema) partials) = record {
        parts = map part_of over.pairs;
        some = some-parts over.pairs over.some;
        whole = SameBag-trans (SameBag-≡ (parts-together over.pairs)) (SameBag-map (cell columns) over.whole);
        rows = SameBag-trans (SameBag-map (cell kept_schema) over.rows) (partials-together over.pairs over.kept);
      } in
      ap (map (row_over (final_schema keys aggs kept_schema))) (final-partials keys aggs apart _ _ of)
      ∙ ap (λ of_row. map of_row (grouped keys aggs (map (cell columns) input))) final-as-grouped
