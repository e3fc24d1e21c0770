-- Final rows have the columns of the groups.
use Rattle.std.proofs.Common.{◌≡◌, ◌==◌, ◌||◌, ◌&&◌, Bool, true, false, is_some, List, [], ◌∷◌, ◌++◌, map, Option, Some, None, refl, sym, ap, ap₂, ◌∙◌, if◌then◌else◌, eq-eqb, true≢false}
use Rattle.std.specs.List.{AllByRecursion, list_all, list_any}
use Rattle.pdw_agg.proofs.FitLemmas.{both, kind-key, kind-own, number-Int}
use Rattle.pdw_agg.specs.Columns.{OutsDiffer, final_column, final_kind, final_schema, grouped_schema, partial_kind, partial_schema}
use Rattle.pdw_agg.specs.Fitting.{is_plain, keeps_plain}
use Rattle.pdw_algebra.proofs.PlacedLemmas.{rising-schema}
use Rattle.pdw_algebra.specs.Schema.{kind_at, rising}
use Rattle.pdw_algebra.specs.Shape.{aggregate_column, key_column, kind_or_int}
use Rattle.pdw_algebra.specs.Types.{aggregate_kind, aggregate_kind_by, is_number, scalar_kind}
use Rattle.pdw_base.specs.Schema.{Columns}
use Rattle.pdw_base.specs.declared.schema.ColId.{ColId}
use Rattle.pdw_base.specs.declared.value.Kind.{Kind}
use Rattle.pdw_expr.specs.declared.agg.Agg.{Agg}
use Rattle.pdw_expr.specs.declared.agg.AggKind.{AggKind}
use Rattle.pdw_expr.specs.declared.agg.AggKind.TheVariants.{CountStar, Count, Sum, Min, Max}
use Rattle.pdw_expr.specs.declared.scalar.Scalar.{Scalar}
use Rattle.pdw_partial.specs.Partial.{KeysApart}

abbrev is_among : List ColId → ColId → Bool
is_among keys c = list_any (λ key. key.0 == c.0) keys

neither : (a b : Bool) → (a || b) ≡ false → (a ≡ false) × (b ≡ false)
neither true b none = absurd (true≢false none)
neither false b none = (refl, none)

-- ---- the kinds of the aggregates' own columns

module _ (own_kind : Agg → Kind) where
  abbrev own_columns : List Agg → Columns
  own_columns aggs = map (λ agg. (agg.out, own_kind agg)) aggs

  -- each aggregate's column has its kind
  abbrev Own : Columns → List Agg → Type 0
  Own columns aggs = AllByRecursion (λ agg. kind_at columns agg.out ≡ Some (own_kind agg)) aggs

  own-behind : (first : Agg) (rest : Columns) (aggs : List Agg) → list_any (λ other. first.out.0 == other.out.0) aggs ≡ false → Own rest aggs → Own ((first.out, own_kind first) ∷ rest) aggs
  own-behind first rest [] other own = tt
  own-behind first rest (agg ∷ aggs) other own =
      let split = neither (first.out.0 == agg.out.0) (list_any (λ other. first.out.0 == other.out.0) aggs) other in
      (ap (λ here. if here then Some (own_kind first) else kind_at rest agg.out) split.0 ∙ own.0, own-behind first rest aggs split.1 own.1)

  own-kinds : (aggs : List Agg) → OutsDiffer aggs → Own (own_columns aggs) aggs
  own-kinds [] differ = tt
  own-kinds (agg ∷ aggs) differ = (
    ap (λ here. if here then Some (own_kind agg) else kind_at (own_columns aggs) agg.out) (eq-eqb agg.out.0 agg.out.0 refl),
    own-behind agg (own_columns aggs) aggs differ.0 (own-kinds aggs differ.1),
  )

-- ---- the columns of partial rows

module _ (columns : Columns) (keys : List ColId) (all : List Agg) where
  abbrev kept : Agg → Kind
  kept agg = partial_kind agg.kind (kind_or_int (aggregate_kind columns agg))

  abbrev kept_schema : Columns
  kept_schema = partial_schema keys all columns

  listed : (c : ColId) → kind_at kept_schema c ≡ kind_at (map (key_column columns) keys ++ own_columns kept all) c
  listed c = (rising-schema (map (key_column columns) keys ++ own_columns kept all)).same c

  own-listed : (aggs : List Agg) → KeysApart keys aggs → Own kept (own_columns kept all) aggs → Own kept kept_schema aggs
  own-listed [] apart own = tt
  own-listed (agg ∷ aggs) apart own =
      (listed agg.out ∙ kind-own columns kept keys (own_columns kept all) agg.out apart.0 ∙ own.0, own-listed aggs apart.1 own.1)

  pub kept-kinds : KeysApart keys all → OutsDiffer all → Own kept kept_schema all
  kept-kinds apart differ = own-listed all apart (own-kinds kept all differ)

  key-same : (c : ColId) → is_among keys c ≡ true → key_column kept_schema c ≡ key_column columns c
  key-same c among = ap (λ k. (c, kind_or_int k)) (listed c ∙ kind-key columns kept keys (own_columns kept all) c among)

  keys-same : (some : List ColId) → ((c : ColId) → is_among some c ≡ true → is_among keys c ≡ true) → map (key_column kept_schema) some ≡ map (key_column columns) some
  keys-same [] among = refl
  keys-same (c ∷ cs) among =
      ap₂ (λ first rest. first ∷ rest) (key-same c (among c (ap (λ is. is || is_among cs c) (eq-eqb c.0 c.0 refl))))
      (keys-same cs (λ d there. among d (here_or_later (c.0 == d.0) (is_among cs d) there)))
    where
      here_or_later : (a b : Bool) → b ≡ true → (a || b) ≡ true
      here_or_later true b there = refl
      here_or_later false b there = there

  -- what is kept as a wide number is finished to INT again
  kind-again : (kind : AggKind) (arg : Option Scalar) → final_kind kind (partial_kind kind (kind_or_int (aggregate_kind_by columns kind arg))) ≡ kind_or_int (aggregate_kind_by columns kind arg)
  kind-again CountStar None = refl
  kind-again CountStar (Some x) = refl
  kind-again Count None = refl
  kind-again Count (Some x) = sym (number-Int (is_some (scalar_kind columns x)))
  kind-again Sum None = refl
  kind-again Sum (Some x) = sym (number-Int (is_number (scalar_kind columns x)))
  kind-again Min arg = refl
  kind-again Max arg = refl

  aggs-same : (aggs : List Agg) → Own kept kept_schema aggs → map (final_column kept_schema) aggs ≡ map (aggregate_column columns) aggs
  aggs-same [] own = refl
  aggs-same (agg ∷ aggs) own =
      ap₂ (λ first rest. first ∷ rest)
      (ap (λ k. (agg.out, final_kind agg.kind (kind_or_int k))) own.0 ∙ ap (λ k. (agg.out, k)) (kind-again agg.kind agg.arg))
      (aggs-same aggs own.1)

  pub schema-again : KeysApart keys all → OutsDiffer all → final_schema keys all kept_schema ≡ grouped_schema keys all columns
  schema-again apart differ =
      ap rising (ap₂ (λ xs ys. xs ++ ys) (keys-same keys (λ c among. among)) (aggs-same all (kept-kinds apart differ)))

  plain-kept : (kind : AggKind) (k : Option Kind) → is_plain k ≡ true → keeps_plain kind (Some (partial_kind kind (kind_or_int k))) ≡ true
  plain-kept CountStar k plain = refl
  plain-kept Count k plain = refl
  plain-kept Sum k plain = refl
  plain-kept Min None plain = refl
  plain-kept Min (Some k) plain = plain
  plain-kept Max None plain = refl
  plain-kept Max (Some k) plain = plain

  aggs-plain : (aggs : List Agg) → Own kept kept_schema aggs → list_all (λ agg. is_plain (aggregate_kind columns agg)) aggs ≡ true → list_all (λ agg. keeps_plain agg.kind (kind_at kept_schema agg.out)) aggs ≡ true
  aggs-plain [] own plain = refl
  aggs-plain (agg ∷ aggs) own plain =
      let split = both (is_plain (aggregate_kind columns agg)) (list_all (λ agg. is_plain (aggregate_kind columns agg)) aggs) plain in
      ap₂ (λ first rest. first && rest)
      (ap (keeps_plain agg.kind) own.0 ∙ plain-kept agg.kind (aggregate_kind columns agg) split.0)
      (aggs-plain aggs own.1 split.1)

  pub plain-again : KeysApart keys all → OutsDiffer all → list_all (λ agg. is_plain (aggregate_kind columns agg)) all ≡ true → list_all (λ agg. keeps_plain agg.kind (kind_at kept_schema agg.out)) all ≡ true
  plain-again apart differ plain = aggs-plain all (kept-kinds apart differ) plain
