-- The cells of partial rows, and of what is made of them.
use Rattle.std.proofs.Common.{◌≡◌, ◌==◌, Bool, true, false, ◌||◌, Option, List, [], ◌∷◌, ◌++◌, map, refl, sym, ap, ap₂, ◌∙◌, if◌then◌else◌, eq-eqb, true≢false}
use Rattle.std.proofs.lemmas.List.{map-append}
use Rattle.std.specs.List.{list_any}
use Rattle.pdw_bag_laws.proofs.Aggregates.{SameBag-partial_value}
use Rattle.pdw_bag_laws.proofs.Groups.{column-≡, key_cells-same}
use Rattle.pdw_base.proofs.SameBagLaws.{SameBag-map}
use Rattle.pdw_base.specs.SameBag.{SameBag}
use Rattle.pdw_base.specs.Schema.{Env}
use Rattle.pdw_base.specs.declared.schema.ColId.{ColId}
use Rattle.pdw_base.specs.declared.value.Value.TheVariants.{Null}
use Rattle.pdw_expr.proofs.EnvLaws.{union-nulls}
use Rattle.pdw_expr.specs.Aggregate.{final_value, partial_value}
use Rattle.pdw_expr.specs.Env.{or_else, union}
use Rattle.pdw_expr.specs.Rows.{aggregate_cells, argument, first_row, key_of}
use Rattle.pdw_expr.specs.declared.agg.Agg.{Agg}
use Rattle.pdw_expr.specs.declared.agg.AggKind.{AggKind}
use Rattle.pdw_expr.specs.declared.scalar.Scalar.{Scalar}
use Rattle.pdw_partial.proofs.Merging.{SameBag-merged, merged-more, merged-none}
use Rattle.pdw_partial.specs.Partial.{KeysApart, final_cells, final_row, merged, partial_cells, partial_row}

abbrev is_among : List ColId → ColId → Bool
is_among keys c = list_any (λ key. key.0 == c.0) keys

-- a column of a key is no aggregate's
not_out : (keys : List ColId) (agg : Agg) (c : ColId) → is_among keys agg.out ≡ false → is_among keys c ≡ true → (agg.out.0 == c.0) ≡ false
not_out keys agg c apart among = by (agg.out.0 == c.0) refl
  where
    by : (is : Bool) → (agg.out.0 == c.0) ≡ is → (agg.out.0 == c.0) ≡ false
    by true is = absurd (true≢false (sym among ∙ ap (is_among keys) (sym (column-≡ agg.out c is)) ∙ apart))
    by false is = is

module _ (keys : List ColId) (c : ColId) (among : is_among keys c ≡ true) where
  partial_cells-key : (aggs : List Agg) → KeysApart keys aggs → (rows : List Env) → partial_cells aggs rows c ≡ Null
  partial_cells-key [] apart rows = refl
  partial_cells-key (agg ∷ aggs) apart rows =
      ap (λ is. if is then partial_value agg.kind (map (argument agg.arg) rows) else partial_cells aggs rows c) (not_out keys agg c apart.0 among)
      ∙ partial_cells-key aggs apart.1 rows

  final_cells-key : (aggs : List Agg) → KeysApart keys aggs → (rows : List Env) → final_cells aggs rows c ≡ Null
  final_cells-key [] apart rows = refl
  final_cells-key (agg ∷ aggs) apart rows =
      ap (λ is. if is then final_value (merged agg.kind (map (λ row. row agg.out) rows)) else final_cells aggs rows c) (not_out keys agg c apart.0 among)
      ∙ final_cells-key aggs apart.1 rows

  aggregate_cells-key : (aggs : List Agg) → KeysApart keys aggs → (rows : List Env) → aggregate_cells aggs rows c ≡ Null
  aggregate_cells-key [] apart rows = refl
  aggregate_cells-key (agg ∷ aggs) apart rows =
      ap (λ is. if is then final_value (partial_value agg.kind (map (argument agg.arg) rows)) else aggregate_cells aggs rows c) (not_out keys agg c apart.0 among)
      ∙ aggregate_cells-key aggs apart.1 rows

  -- a partial row has the key of its rows
  key-cell : (aggs : List Agg) → KeysApart keys aggs → (rows : List Env) → partial_row keys aggs rows c ≡ first_row rows c
  key-cell aggs apart rows =
      ap₂ (λ is cell. or_else (if is then first_row rows c else Null) cell) among (partial_cells-key aggs apart rows)
      ∙ ap (λ row. row c) (union-nulls (first_row rows))

pub partial-key : (keys : List ColId) (aggs : List Agg) → KeysApart keys aggs → (rows : List Env) → key_of keys (partial_row keys aggs rows) ≡ key_of keys (first_row rows)
partial-key keys aggs apart rows = each keys (λ c among. among)
  where
    here_or_later : (a b : Bool) → b ≡ true → (a || b) ≡ true
    here_or_later true b there = refl
    here_or_later false b there = there

    each : (some : List ColId) → ((c : ColId) → is_among some c ≡ true → is_among keys c ≡ true) → map (partial_row keys aggs rows) some ≡ map (first_row rows) some
    each [] among = refl
    each (c ∷ cs) among =
        ap₂ (λ first rest. first ∷ rest)
        (key-cell keys c (among c (ap (λ is. is || is_among cs c) (eq-eqb c.0 c.0 refl))) aggs apart rows)
        (each cs (λ d there. among d (here_or_later (c.0 == d.0) (is_among cs d) there)))

-- in any other column it has what its aggregate kept
partial-cell : (keys : List ColId) (aggs : List Agg) (rows : List Env) (c : ColId) → is_among keys c ≡ false → partial_row keys aggs rows c ≡ partial_cells aggs rows c
partial-cell keys aggs rows c other = ap (λ is. or_else (if is then first_row rows c else Null) (partial_cells aggs rows c)) other

-- ---- partial rows, piece by piece

-- partial rows, and the rows that they were made of
pub data Pieces (keys : List ColId) (aggs : List Agg) : List Env → List Env → Type 0 where
  none : Pieces keys aggs [] []
  piece : (part : List Env) {partials rows : List Env} → Pieces keys aggs partials rows → Pieces keys aggs (partial_row keys aggs part ∷ partials) (part ++ rows)

module _ (keys : List ColId) (aggs : List Agg) (c : ColId) where
  module _ (kind : AggKind) (arg : Option Scalar) (kept : (part : List Env) → partial_row keys aggs part c ≡ partial_value kind (map (argument arg) part)) where
    pieces-value : {partials rows : List Env} → Pieces keys aggs partials rows → merged kind (map (λ row. row c) partials) ≡ partial_value kind (map (argument arg) rows)
    pieces-value none = merged-none kind
    pieces-value (piece part {partials} {rows} rest) =
        ap (λ value. merged kind (value ∷ map (λ row. row c) partials)) (kept part)
        ∙ merged-more kind (map (argument arg) part) (map (argument arg) rows) (map (λ row. row c) partials) (pieces-value rest)
        ∙ ap (partial_value kind) (sym (map-append (argument arg) part rows))

  pieces-cell : (later : List Agg) → ((part : List Env) → partial_row keys aggs part c ≡ partial_cells later part c)
      → {partials rows : List Env} → Pieces keys aggs partials rows → final_cells later partials c ≡ aggregate_cells later rows c
  pieces-cell [] kept pieces = refl
  pieces-cell (agg ∷ later) kept {partials} {rows} pieces = by (agg.out.0 == c.0) refl (λ other. pieces-cell later other pieces) kept
    where
      by : (is : Bool) → (agg.out.0 == c.0) ≡ is
          → (((part : List Env) → partial_row keys aggs part c ≡ partial_cells later part c) → final_cells later partials c ≡ aggregate_cells later rows c)
          → ((part : List Env) → partial_row keys aggs part c ≡ (if is then partial_value agg.kind (map (argument agg.arg) part) else partial_cells later part c))
          → (if is then final_value (merged agg.kind (map (λ row. row agg.out) partials)) else final_cells later partials c)
          ≡ (if is then final_value (partial_value agg.kind (map (argument agg.arg) rows)) else aggregate_cells later rows c)
      by true is _ kept =
          ap (λ out. final_value (merged agg.kind (map (λ row. row out) partials))) (column-≡ agg.out c is)
          ∙ ap final_value (pieces-value agg.kind agg.arg kept pieces)
      by false is more kept = more kept

-- the final cells are those of the whole
pub pieces-cells : (keys : List ColId) (aggs : List Agg) → KeysApart keys aggs → {partials rows : List Env} → Pieces keys aggs partials rows → final_cells aggs partials ≡ aggregate_cells aggs rows
pieces-cells keys aggs apart {partials} {rows} pieces = λ i c. cell c (is_among keys c) refl i
  where
    cell : (c : ColId) (among : Bool) → is_among keys c ≡ among → final_cells aggs partials c ≡ aggregate_cells aggs rows c
    cell c true among = final_cells-key keys c among aggs apart partials ∙ sym (aggregate_cells-key keys c among aggs apart rows)
    cell c false other = pieces-cell keys aggs c aggs (λ part. partial-cell keys aggs part c other) pieces

-- ---- equal bags

partial_cells-same : (aggs : List Agg) (xs ys : List Env) → SameBag xs ys → (c : ColId) → partial_cells aggs xs c ≡ partial_cells aggs ys c
partial_cells-same [] xs ys same c = refl
partial_cells-same (agg ∷ aggs) xs ys same c =
    ap₂ (λ here more. if agg.out.0 == c.0 then here else more)
    (SameBag-partial_value agg.kind (map (argument agg.arg) xs) (map (argument agg.arg) ys) (SameBag-map (argument agg.arg) same))
    (partial_cells-same aggs xs ys same c)

final_cells-same : (aggs : List Agg) (xs ys : List Env) → SameBag xs ys → (c : ColId) → final_cells aggs xs c ≡ final_cells aggs ys c
final_cells-same [] xs ys same c = refl
final_cells-same (agg ∷ aggs) xs ys same c =
    ap₂ (λ here more. if agg.out.0 == c.0 then here else more)
    (ap final_value (SameBag-merged agg.kind (map (λ row. row agg.out) xs) (map (λ row. row agg.out) ys) (SameBag-map (λ (row : Env). row agg.out) same)))
    (final_cells-same aggs xs ys same c)

module _ (keys : List ColId) (aggs : List Agg) (xs ys : List Env) (key : key_of keys (first_row xs) ≡ key_of keys (first_row ys)) (same : SameBag xs ys) where
  pub partial_row-same : partial_row keys aggs xs ≡ partial_row keys aggs ys
  partial_row-same = ap₂ union (key_cells-same keys (first_row xs) (first_row ys) key) (λ i c. partial_cells-same aggs xs ys same c i)

  pub final_row-same : final_row keys aggs xs ≡ final_row keys aggs ys
  final_row-same = ap₂ union (key_cells-same keys (first_row xs) (first_row ys) key) (λ i c. final_cells-same aggs xs ys same c i)
