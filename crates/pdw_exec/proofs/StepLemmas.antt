-- One step of the loops of operators.
use Rattle.std.proofs.Common.{◌≡◌, ℕ, ◌+◌, ◌<◌, Bool, true, false, if◌then◌else◌, List, [], ◌∷◌, ◌++◌, filter, length, map, take, get_or, sym, ap, ◌∙◌}
use Rattle.std.proofs.lemmas.List.{append-nil, map-append, take_more}
use Rattle.std.proofs.lemmas.List.Elements.{filter-append}
use Rattle.pdw_base.proofs.Steps.{map-one_more}
use Rattle.pdw_base.specs.Schema.{Columns, Env, row_over}
use Rattle.pdw_base.specs.declared.schema.ColId.{ColId}
use Rattle.pdw_base.specs.declared.value.Kind.{Kind}
use Rattle.pdw_base.specs.declared.value.Value.{Value}

-- one column more
pub row-more : (columns : Columns) (i : ℕ) (column : ColId × Kind) (env : Env) (values next : List Value) (value : Value) → i < length columns
    → values ≡ row_over (take i columns) env → value ≡ env (get_or columns i column).0 → next ≡ values ++ value ∷ [] → next ≡ row_over (take (i + 1) columns) env
row-more columns i column env values next value within before is grown =
    grown
    ∙ (λ j. before j ++ is j ∷ [])
    ∙ sym (map-append (λ (column : ColId × Kind). env column.0) (take i columns) (get_or columns i column ∷ []))
    ∙ ap (map (λ (column : ColId × Kind). env column.0)) (sym (take_more columns i column within))

-- one row more, which is kept or passed over after it is made
module _ {X Y : Type 0} (f : X → Y) (test : Y → Bool) (xs : List X) (i : ℕ) (x : X) (within : i < length xs) (item : x ≡ get_or xs i x) (kept : List Y)
    (before : kept ≡ filter test (map f (take i xs))) where
  one_more : kept ++ (if test (f x) then f x ∷ [] else []) ≡ filter test (map f (take (i + 1) xs))
  one_more =
      ap (λ held. held ++ (if test (f x) then f x ∷ [] else [])) before
      ∙ sym (filter-append test (map f (take i xs)) (f x ∷ []))
      ∙ ap (filter test) (sym (map-one_more xs i x within item f))

  pub made-kept : (next : List Y) (y : Y) → y ≡ f x → next ≡ kept ++ y ∷ [] → test y ≡ true → next ≡ filter test (map f (take (i + 1) xs))
  made-kept next y is grown passes =
      grown ∙ ap (λ y. kept ++ y ∷ []) is ∙ ap (λ b. kept ++ (if b then f x ∷ [] else [])) (sym (ap test (sym is) ∙ passes)) ∙ one_more

  pub made-passed : (y : Y) → y ≡ f x → test y ≡ false → kept ≡ filter test (map f (take (i + 1) xs))
  made-passed y is fails = sym (append-nil kept) ∙ ap (λ b. kept ++ (if b then f x ∷ [] else [])) (sym (ap test (sym is) ∙ fails)) ∙ one_more
