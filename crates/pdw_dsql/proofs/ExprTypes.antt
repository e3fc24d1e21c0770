-- When an expression over groups of these schemas is well-typed and gives its group's schema, as a local tree would.
use Rattle.std.proofs.Common.{◌≡◌, ◌==◌, ◌&&◌, Bool, true, not, List, [], ◌∷◌, ◌++◌, map, is_some, Option, refl, sym, ap, ap₂, subst, ◌∙◌}
use Rattle.std.specs.List.{list_all, list_any}
use Rattle.std.proofs.lemmas.Bool.{and_parts}
use Rattle.pdw_agg.proofs.FinalLaws.{plain-again, schema-again}
use Rattle.pdw_agg.specs.Columns.{OutsDiffer, final_schema, grouped_schema, partial_kind, partial_schema}
use Rattle.pdw_agg.specs.Fitting.{is_plain}
use Rattle.pdw_algebra.proofs.PlacedLemmas.{rising-schema}
use Rattle.pdw_algebra.specs.Schema.{kind_at, rising}
use Rattle.pdw_algebra.specs.Shape.{aggregate_column, item_column, item_kind, key_column, kind_or_int}
use Rattle.pdw_algebra.specs.Types.{aggregate_kind}
use Rattle.pdw_base.specs.Schema.{Columns}
use Rattle.pdw_base.specs.declared.schema.ColId.{ColId}
use Rattle.pdw_base.specs.declared.value.Kind.{Kind}
use Rattle.pdw_catalog.specs.Catalog.{Tables}
use Rattle.pdw_dsql.proofs.PlainColumns.{ArePlain, plain-aggregate}
use Rattle.pdw_dsql.proofs.SameKinds.{agg-columns, agg-same, item-columns, item-same, key-columns}
use Rattle.pdw_exec.specs.Shapes.{base_columns, can_finish, can_group, can_keep, have_kinds}
use Rattle.pdw_expr.specs.declared.agg.Agg.{Agg}
use Rattle.pdw_expr.specs.declared.agg.AggKind.TheVariants as aggregate
use Rattle.pdw_expr.specs.declared.agg.AggKind.{AggKind}
use Rattle.pdw_expr.specs.declared.scalar.Scalar.{Scalar}
use Rattle.pdw_groups.specs.Columns as kept
use Rattle.pdw_groups.specs.declared.op.Op.TheVariants as op
use Rattle.pdw_groups.specs.declared.op.Op.{Op}
use Rattle.pdw_join.specs.Joined.{joined_columns}
use Rattle.pdw_partial.specs.Partial.{KeysApart}

-- an operator over children of these schemas gives a schema, and has the kinds that it asks of them
abbrev pub OverOne : (Columns → Type 0) → List Columns → Type 0
OverOne gives [] = ⊥
OverOne gives (child ∷ []) = gives child
OverOne gives (child ∷ second ∷ rest) = ⊥

abbrev pub OverTwo : (Columns → Columns → Type 0) → List Columns → Type 0
OverTwo gives [] = ⊥
OverTwo gives (left ∷ []) = ⊥
OverTwo gives (left ∷ right ∷ []) = gives left right
OverTwo gives (left ∷ right ∷ third ∷ rest) = ⊥

abbrev pub Types : Tables → Columns → Op → List Columns → Type 0
Types tables schema (op.Scan table alias cols hash replicated) children = base_columns tables table cols ≡ schema
Types tables schema (op.Filter conds) children = OverOne (λ child. child ≡ schema) children
Types tables schema (op.Project items) children = OverOne (λ child. (rising (map (item_column child) items) ≡ schema) × (have_kinds child items ≡ true)) children
Types tables schema (op.Join kind conds) children = OverTwo (λ left right. joined_columns kind left right ≡ schema) children
Types tables schema (op.GroupBy keys aggs) children = OverOne (λ child. (grouped_schema keys aggs child ≡ schema) × (can_group keys aggs child ≡ true)) children
Types tables schema (op.Partial keys aggs) children = OverOne (λ child. (partial_schema keys aggs child ≡ schema) × (can_keep keys aggs child ≡ true)) children
Types tables schema (op.Final keys aggs) children = OverOne (λ child. (final_schema keys aggs child ≡ schema) × (can_finish keys aggs child ≡ true)) children

-- ---- over the schema of some columns

all-mapped : {X : Type 0} (f g : X → Bool) → ((x : X) → f x ≡ true → g x ≡ true) → (xs : List X) → list_all f xs ≡ true → list_all g xs ≡ true
all-mapped f g more [] all = refl
all-mapped f g more (x ∷ xs) all =
    let both = and_parts (f x) (list_all f xs) all in
    ap₂ (λ a b. a && b) (more x both.0) (all-mapped f g more xs both.1)

-- the two ways in which the kinds of partial rows are written
same-kept : (k : AggKind) (final : Kind) → kept.partial_kind k final ≡ partial_kind k final
same-kept aggregate.CountStar final = refl
same-kept aggregate.Count final = refl
same-kept aggregate.Sum final = refl
same-kept aggregate.Min final = refl
same-kept aggregate.Max final = refl

pub same-partial : (keys : List ColId) (aggs : List Agg) (columns : Columns) → partial_schema keys aggs columns ≡ kept.partial_schema keys aggs columns
same-partial keys aggs columns =
    ap (λ some. rising (map (key_column columns) keys ++ some)) (λ i. map (λ (agg : Agg). (agg.out, sym (same-kept agg.kind (kind_or_int (aggregate_kind columns agg))) i)) aggs)

apart-true : (keys : List ColId) (aggs : List Agg) → KeysApart keys aggs → list_all (λ (agg : Agg). not (list_any (λ (key : ColId). key.0 == agg.out.0) keys)) aggs ≡ true
apart-true keys [] apart = refl
apart-true keys (agg ∷ aggs) apart = ap₂ (λ a b. not a && b) apart.0 (apart-true keys aggs apart.1)

module _ (columns : Columns) where
  same : (c : ColId) → kind_at (rising columns) c ≡ kind_at columns c
  same c = (rising-schema columns).same c

  pub items-typed : (items : List (ColId × Option Scalar)) → list_all (λ item. is_some (item_kind columns item)) items ≡ true
      → (rising (map (item_column (rising columns)) items) ≡ rising (map (item_column columns) items)) × (have_kinds (rising columns) items ≡ true)
  items-typed items typed = (
    ap rising (item-columns (rising columns) columns same items),
    all-mapped (λ item. is_some (item_kind columns item)) (λ item. is_some (item_kind (rising columns) item)) (λ item some. ap is_some (item-same (rising columns) columns same item) ∙ some) items typed,
  )

  module _ (plain : ArePlain columns) (keys : List ColId) (aggs : List Agg) (apart : KeysApart keys aggs) (typed : list_all (λ (agg : Agg). is_some (aggregate_kind columns agg)) aggs ≡ true) where
    all-plain : list_all (λ (agg : Agg). is_plain (aggregate_kind (rising columns) agg)) aggs ≡ true
    all-plain =
        all-mapped (λ (agg : Agg). is_some (aggregate_kind columns agg)) (λ (agg : Agg). is_plain (aggregate_kind (rising columns) agg))
        (λ agg some. ap is_plain (agg-same (rising columns) columns same agg) ∙ plain-aggregate columns plain agg some) aggs typed

    all-kept : list_all (λ (agg : Agg). is_some (aggregate_kind (rising columns) agg)) aggs ≡ true
    all-kept =
        all-mapped (λ (agg : Agg). is_some (aggregate_kind columns agg)) (λ (agg : Agg). is_some (aggregate_kind (rising columns) agg))
        (λ agg some. ap is_some (agg-same (rising columns) columns same agg) ∙ some) aggs typed

    abbrev whole : Columns
    whole = rising (map (key_column columns) keys ++ map (aggregate_column columns) aggs)

    grouped-same : grouped_schema keys aggs (rising columns) ≡ whole
    grouped-same = ap₂ (λ some more. rising (some ++ more)) (key-columns (rising columns) columns same keys) (agg-columns (rising columns) columns same aggs)

    pub group-typed : (grouped_schema keys aggs (rising columns) ≡ whole) × (can_group keys aggs (rising columns) ≡ true)
    group-typed = (grouped-same, ap₂ (λ a b. a && b) (apart-true keys aggs apart) all-plain)

    pub partial-typed : (partial_schema keys aggs (rising columns) ≡ kept.partial_schema keys aggs (rising columns)) × (can_keep keys aggs (rising columns) ≡ true)
    partial-typed = (same-partial keys aggs (rising columns), ap₂ (λ a b. a && b) (apart-true keys aggs apart) all-kept)

    pub final-typed : OutsDiffer aggs
        → (final_schema keys aggs (kept.partial_schema keys aggs (rising columns)) ≡ whole) × (can_finish keys aggs (kept.partial_schema keys aggs (rising columns)) ≡ true)
    final-typed differ =
        subst (λ some. (final_schema keys aggs some ≡ whole) × (can_finish keys aggs some ≡ true)) (same-partial keys aggs (rising columns)) (
          schema-again (rising columns) keys aggs apart differ ∙ grouped-same,
          ap₂ (λ a b. a && b) (apart-true keys aggs apart) (plain-again (rising columns) keys aggs apart differ all-plain),
        )
