-- What each operator gives, from the rows that it makes.
use Rattle.std.proofs.Common.{◌≡◌, ◌==◌, Bool, true, false, true≢false, not, All, List, map, filter, ℕ, Option, refl, sym, ap, subst, ◌∙◌}
use Rattle.std.specs.List.{AllByRecursion, list_any}
use Rattle.std.specs.Prelude.{⊤}
use Rattle.pdw_agg.proofs.FitLemmas.{both, each-typed}
use Rattle.pdw_agg.proofs.MapLemmas.{map-filter}
use Rattle.pdw_agg.proofs.MergeLaws.{finals-back, grouped-back, partials-back}
use Rattle.pdw_agg.specs.Columns.{final_schema, grouped_schema, partial_schema}
use Rattle.pdw_agg.specs.Fitting.{CanFinish, CanGroup, CanKeep}
use Rattle.pdw_agg.specs.Grouping.{final_over, grouped_over, partial_over}
use Rattle.pdw_algebra.proofs.Products.{all-filter}
use Rattle.pdw_algebra.specs.Schema.{rising}
use Rattle.pdw_algebra.specs.Shape.{are_apart, item_column, scan_column}
use Rattle.pdw_base.proofs.SameBagLaws.{SameBag-map, SameBag-trans, SameBag-≡}
use Rattle.pdw_base.specs.SameBag.{SameBag}
use Rattle.pdw_base.specs.Schema.{Columns, Env, FitsColumns, cell, row_over}
use Rattle.pdw_base.specs.declared.schema.ColId.{ColId}
use Rattle.pdw_base.specs.declared.value.Value.{Value}
use Rattle.pdw_catalog.specs.Table.{FitsTable}
use Rattle.pdw_catalog.specs.declared.table.Column.{Column}
use Rattle.pdw_exec.proofs.CellLemmas.{joined-back, projected-back, scanned-back}
use Rattle.pdw_exec.proofs.FitLemmas.{all-from, all-to, projected-fit, scanned-fit}
use Rattle.pdw_exec.specs.Relation.{Gives, meets_over}
use Rattle.pdw_exec.specs.Scans.{places_in}
use Rattle.pdw_exec.specs.Shapes.{can_finish, can_group, can_keep, have_kinds, keys_apart}
use Rattle.pdw_exec.specs.declared.relation.Held.TheVariants.{Made}
use Rattle.pdw_exec.specs.declared.relation.Relation.{Relation}
use Rattle.pdw_expr.specs.Rows.{filtered, grouped, joined, meets, projected, scanned}
use Rattle.pdw_expr.specs.declared.agg.Agg.{Agg}
use Rattle.pdw_expr.specs.declared.agg.JoinKind.{JoinKind}
use Rattle.pdw_expr.specs.declared.cond.Cond.{Cond}
use Rattle.pdw_expr.specs.declared.scalar.Scalar.{Scalar}
use Rattle.pdw_join.specs.Joined.{AllFit, joined_columns, joined_rows}
use Rattle.pdw_keys.specs.Places.{key_at}
use Rattle.pdw_partial.specs.Partial.{KeysApart, final_rows, partial_rows}

abbrev Rows : Type 0
Rows = List (List Value)

-- a bag that was made, over columns that were computed
abbrev pub made_of : Columns → Rows → Relation
made_of columns bag = record { columns = columns; rows = Made bag }

module _ (schema made : Columns) (bag : Rows) (envs : List Env) (condition : Type 0) (same : made ≡ schema) where
  made-gives : SameBag (map (cell schema) bag) envs → (condition → All (FitsColumns schema) bag) → Gives schema envs condition (made_of made bag)
  made-gives read fits = record {
    columns = same;
    rows = subst (λ columns. SameBag (map (cell columns) bag) envs) (sym same) read;
    fits = λ can. subst (λ columns. All (FitsColumns columns) bag) (sym same) (fits can);
  }

-- ---- filters

filter-fit : (columns : Columns) (test : List Value → Bool) (rows : Rows) → AllByRecursion (FitsColumns columns) rows → All (FitsColumns columns) (filter test rows)
filter-fit columns test rows all = all-from (FitsColumns columns) (filter test rows) (all-filter (FitsColumns columns) test rows all)

pub filter-gives : (columns : Columns) (conds : List Cond) (rows bag : Rows) → bag ≡ filter (meets_over columns conds) rows
    → Gives columns (filtered conds (map (cell columns) rows)) (All (FitsColumns columns) rows) (made_of columns bag)
filter-gives columns conds rows bag is =
    made-gives columns columns bag (filtered conds (map (cell columns) rows)) (All (FitsColumns columns) rows) refl
    (SameBag-≡ (ap (map (cell columns)) is ∙ map-filter (cell columns) (meets conds) rows))
    (λ fits. subst (All (FitsColumns columns)) (sym is) (filter-fit columns (meets_over columns conds) rows (all-to (FitsColumns columns) rows fits)))

-- ---- scans

module _ (columns : List Column) (cols : List (ColId × ℕ)) (conds : List Cond) (rows bag : Rows) (made : Columns) where
  abbrev scan_schema : Columns
  scan_schema = rising (map (scan_column columns) cols)

  abbrev scan_all : Rows
  scan_all = map (key_at (places_in cols scan_schema)) rows

  pub scan-gives : made ≡ scan_schema → bag ≡ filter (meets_over made conds) (map (key_at (places_in cols made)) rows) → AllByRecursion (FitsTable columns) rows
      → Gives scan_schema (filtered conds (map (scanned cols) rows)) ⊤ (made_of made bag)
  scan-gives same is fit =
      made-gives scan_schema made bag (filtered conds (map (scanned cols) rows)) ⊤ same
      (SameBag-≡ (ap (map (cell scan_schema)) now ∙ map-filter (cell scan_schema) (meets conds) scan_all ∙ ap (filtered conds) (scanned-back columns cols rows)))
      (λ can. subst (All (FitsColumns scan_schema)) (sym now) (filter-fit scan_schema (meets_over scan_schema conds) scan_all (scanned-fit columns cols rows fit)))
    where
      now : bag ≡ filter (meets_over scan_schema conds) scan_all
      now = is ∙ ap (λ columns. filter (meets_over columns conds) (map (key_at (places_in cols columns)) rows)) same

-- ---- projection

module _ (own : Columns) (items : List (ColId × Option Scalar)) (rows bag : Rows) (made : Columns) where
  abbrev item_schema : Columns
  item_schema = rising (map (item_column own) items)

  abbrev item_all : Rows
  item_all = map (λ row. row_over item_schema (projected items (cell own row))) rows

  pub project-gives : made ≡ item_schema → bag ≡ map (λ row. row_over made (projected items (cell own row))) rows
      → Gives item_schema (map (projected items) (map (cell own) rows)) (All (FitsColumns own) rows × (have_kinds own items ≡ true)) (made_of made bag)
  project-gives same is =
      made-gives item_schema made bag (map (projected items) (map (cell own) rows)) (All (FitsColumns own) rows × (have_kinds own items ≡ true)) same
      (SameBag-≡ (ap (map (cell item_schema)) now ∙ projected-back own items rows))
      (λ can. subst (All (FitsColumns item_schema)) (sym now) (all-from (FitsColumns item_schema) item_all (projected-fit own items can.1 rows (all-to (FitsColumns own) rows can.0))))
    where
      now : bag ≡ item_all
      now = is ∙ ap (λ columns. map (λ row. row_over columns (projected items (cell own row))) rows) same

-- ---- joins

module _ (k : JoinKind) (conds : List Cond) (left right : Columns) (lefts rights bag : Rows) (made : Columns) where
  abbrev SidesFit : Type 0
  SidesFit = All (FitsColumns left) lefts × All (FitsColumns right) rights × (are_apart left right ≡ true)

  pub join-gives : made ≡ joined_columns k left right → bag ≡ joined_rows k conds left right lefts rights
      → (AllFit left lefts → AllFit right rights → are_apart left right ≡ true → AllFit (joined_columns k left right) bag)
      → Gives (joined_columns k left right) (joined k conds (map (cell left) lefts) (map (cell right) rights)) SidesFit (made_of made bag)
  join-gives same is fit =
      made-gives (joined_columns k left right) made bag (joined k conds (map (cell left) lefts) (map (cell right) rights)) SidesFit same
      (SameBag-≡ (ap (map (cell (joined_columns k left right))) is ∙ joined-back conds left right lefts rights k))
      (λ can. all-from (FitsColumns (joined_columns k left right)) bag (fit (all-to (FitsColumns left) lefts can.0) (all-to (FitsColumns right) rights can.1) can.2))

-- ---- groups

denied : (b : Bool) → not b ≡ true → b ≡ false
denied true e = absurd (true≢false (sym e))
denied false e = refl

keys-apart : (keys : List ColId) (aggs : List Agg) (columns : Columns) → keys_apart keys aggs columns ≡ true → KeysApart keys aggs
keys-apart keys aggs columns = each-typed (λ agg. not (list_any (λ key. key.0 == agg.out.0) keys)) _ (λ agg apart. denied _ apart) aggs

module _ (keys : List ColId) (aggs : List Agg) (columns : Columns) (rows bag : Rows) (made : Columns) where
  abbrev FitsAnd : Bool → Type 0
  FitsAnd can = All (FitsColumns columns) rows × (can ≡ true)

  -- a bag whose rows are those of a stage, in any order
  stage-gives : (schema : Columns) (over : Rows) (envs : List Env) (can : Bool) (Can : Type 0) → made ≡ schema → SameBag bag over → map (cell schema) over ≡ envs
      → (FitsAnd can → Can) → (Can → All (FitsColumns schema) bag) → Gives schema envs (FitsAnd can) (made_of made bag)
  stage-gives schema over envs can Can same is back able fit =
      made-gives schema made bag envs (FitsAnd can) same (SameBag-trans (SameBag-map (cell schema) is) (SameBag-≡ back)) (λ fits. fit (able fits))

  pub group-gives : made ≡ grouped_schema keys aggs columns → SameBag bag (grouped_over keys aggs columns rows) → (CanGroup keys aggs columns rows → All (FitsColumns (grouped_schema keys aggs columns)) bag)
      → Gives (grouped_schema keys aggs columns) (grouped keys aggs (map (cell columns) rows)) (FitsAnd (can_group keys aggs columns)) (made_of made bag)
  group-gives same is =
      stage-gives (grouped_schema keys aggs columns) (grouped_over keys aggs columns rows) (grouped keys aggs (map (cell columns) rows)) (can_group keys aggs columns) (CanGroup keys aggs columns rows)
      same is (grouped-back keys aggs columns rows)
      (λ can. let split = both _ _ can.1 in record { fit = can.0; apart = keys-apart keys aggs columns split.0; typed = split.1 })

  pub partial-gives : made ≡ partial_schema keys aggs columns → SameBag bag (partial_over keys aggs columns rows) → (CanKeep keys aggs columns rows → All (FitsColumns (partial_schema keys aggs columns)) bag)
      → Gives (partial_schema keys aggs columns) (partial_rows keys aggs (map (cell columns) rows)) (FitsAnd (can_keep keys aggs columns)) (made_of made bag)
  partial-gives same is =
      stage-gives (partial_schema keys aggs columns) (partial_over keys aggs columns rows) (partial_rows keys aggs (map (cell columns) rows)) (can_keep keys aggs columns) (CanKeep keys aggs columns rows)
      same is (partials-back keys aggs columns rows)
      (λ can. let split = both _ _ can.1 in record { fit = can.0; apart = keys-apart keys aggs columns split.0; typed = split.1 })

  pub final-gives : made ≡ final_schema keys aggs columns → SameBag bag (final_over keys aggs columns rows) → (CanFinish keys aggs columns rows → All (FitsColumns (final_schema keys aggs columns)) bag)
      → Gives (final_schema keys aggs columns) (final_rows keys aggs (map (cell columns) rows)) (FitsAnd (can_finish keys aggs columns)) (made_of made bag)
  final-gives same is =
      stage-gives (final_schema keys aggs columns) (final_over keys aggs columns rows) (final_rows keys aggs (map (cell columns) rows)) (can_finish keys aggs columns) (CanFinish keys aggs columns rows)
      same is (finals-back keys aggs columns rows)
      (λ can. let split = both _ _ can.1 in record { fit = can.0; apart = keys-apart keys aggs columns split.0; typed = split.1 })
