-- Rows that are made value by value.
use Rattle.std.proofs.Common.{◌≡◌, ℕ, zero, suc, ◌+◌, ◌<◌, Bool, true, false, if◌then◌else◌, List, [], ◌∷◌, ◌++◌, length, filter, map, take, get_or, slice_get, slice_index_or, refl, sym, ap, ◌∙◌}
use Rattle.std.proofs.lemmas.List.{append-nil, map-append, take_more}
use Rattle.pdw_base.proofs.Steps.{filter-one_more}
use Rattle.pdw_base.specs.Schema.{Columns, Env, row_over}
use Rattle.pdw_base.specs.declared.schema.ColId.{ColId}
use Rattle.pdw_base.specs.declared.value.Kind.{Kind}
use Rattle.pdw_base.specs.declared.value.Value.{Value}
use Rattle.pdw_base.specs.declared.value.Value.TheVariants.{Null}
use Rattle.pdw_interpreter.specs.Relation.{value_or_null}

-- one column more
pub row-more : (columns : Columns) (i : ℕ) (column : ColId × Kind) (env : Env) (values next : List Value) (value : Value) → i < length columns
    → values ≡ row_over (take i columns) env → value ≡ env (get_or columns i column).0 → next ≡ values ++ value ∷ [] → next ≡ row_over (take (i + 1) columns) env
row-more columns i column env values next value within before is grown =
    grown
    ∙ (λ j. before j ++ is j ∷ [])
    ∙ sym (map-append (λ (column : ColId × Kind). env column.0) (take i columns) (get_or columns i column ∷ []))
    ∙ ap (map (λ (column : ColId × Kind). env column.0)) (sym (take_more columns i column within))

-- the value at a place
pub value-at : (row : List Value) (i : ℕ) → value_or_null (slice_get row i) ≡ slice_index_or row i Null
value-at [] i = refl
value-at (value ∷ row) zero = refl
value-at (value ∷ row) (suc i) = value-at row i

-- one row more, which is kept or passed over
module _ (test : List Value → Bool) (rows : List (List Value)) (i : ℕ) (row : List Value) (within : i < length rows) (item : row ≡ get_or rows i row) (kept : List (List Value)) where
  one_more : kept ≡ filter test (take i rows) → kept ++ (if test row then row ∷ [] else []) ≡ filter test (take (i + 1) rows)
  one_more before = ap (λ held. held ++ (if test row then row ∷ [] else [])) before ∙ sym (filter-one_more rows i row within item test)

  pub filter-kept : (next : List (List Value)) → next ≡ kept ++ row ∷ [] → kept ≡ filter test (take i rows) → test row ≡ true → next ≡ filter test (take (i + 1) rows)
  filter-kept next grown before passes = grown ∙ ap (λ b. kept ++ (if b then row ∷ [] else [])) (sym passes) ∙ one_more before

  pub filter-passed : kept ≡ filter test (take i rows) → test row ≡ false → kept ≡ filter test (take (i + 1) rows)
  filter-passed before fails = sym (append-nil kept) ∙ ap (λ b. kept ++ (if b then row ∷ [] else [])) (sym fails) ∙ one_more before
