-- Groups of positional rows are groups of what the rows stand for.
use Rattle.std.proofs.Common.{◌≡◌, ℕ, zero, suc, ◌+◌, arith, List, [], ◌∷◌, ◌++◌, map, filter, take, slice_get, Option, Some, None, refl, sym, ap, ap₂, subst, ◌∙◌}
use Rattle.std.proofs.lemmas.List.{map-append}
use Rattle.std.specs.Borrow.{Bor}
use Rattle.pdw_agg.proofs.MapLemmas.{map-after, map-filter}
use Rattle.pdw_agg.specs.Made.{key_over, rows_of}
use Rattle.pdw_agg.specs.Stage.{made_row, made_rows}
use Rattle.pdw_agg.specs.declared.stage.Stage.{Stage}
use Rattle.pdw_base.proofs.SameBagLaws.{SameBag-map, SameBag-trans, SameBag-≡}
use Rattle.pdw_base.specs.SameBag.{SameBag}
use Rattle.pdw_base.specs.Schema.{Columns, Env, cell, row_over}
use Rattle.pdw_base.specs.declared.schema.ColId.{ColId}
use Rattle.pdw_base.specs.declared.value.Value.{Value}
use Rattle.pdw_expr.specs.Parts.{each_once, groups, parts, same_row}
use Rattle.pdw_expr.specs.Rows.{key_of}
use Rattle.pdw_expr.specs.declared.agg.Agg.{Agg}
use Rattle.pdw_keys.proofs.PlaceLaws.{key_at-key_of}
use Rattle.pdw_keys.specs.Places.{key_at, places_of}

module _ {A B : Type 0} (f : A → B) (key : B → List Value) where
  map-members : (rows : List A) (keys : List (List Value))
      → map (map f) (map (λ k. filter (λ row. same_row (key (f row)) k) rows) keys) ≡ map (λ k. filter (λ row. same_row (key row) k) (map f rows)) keys
  map-members rows [] = refl
  map-members rows (k ∷ keys) = ap₂ (λ part parts. part ∷ parts) (map-filter f (λ row. same_row (key row) k) rows) (map-members rows keys)

  map-parts : (rows : List A) → map (map f) (parts (λ row. key (f row)) rows) ≡ parts key (map f rows)
  map-parts rows =
      map-members rows (each_once (map (λ row. key (f row)) rows))
      ∙ ap (λ all. map (λ k. filter (λ row. same_row (key row) k) (map f rows)) (each_once all)) (sym (map-after f key rows))

  map-groups : {K : Type 0} (keys : List K) (rows : List A) → map (map f) (groups keys (λ row. key (f row)) rows) ≡ groups keys key (map f rows)
  map-groups [] rows = refl
  map-groups (k ∷ keys) rows = map-parts rows

-- the rows of all groups, over columns that give the same rows
pub rows_of-made : (stage : Stage) (keys : List ColId) (aggs : List Agg) (own columns made : Columns) → row_over columns ≡ row_over made → (rows : List (List Value))
    → rows_of columns stage keys aggs own rows ≡ map (row_over made) (made_rows stage keys aggs (map (cell own) rows))
rows_of-made stage keys aggs own columns made same rows =
    let all = groups keys (key_over keys own) rows in
    let of_group : List (List Value) → Env = λ group. made_row stage keys aggs (map (cell own) group) in
    sym (map-after of_group (row_over columns) all)
    ∙ ap (λ of_row. map of_row (map of_group all)) same
    ∙ ap (map (row_over made)) (sym (map-after (map (cell own)) (made_row stage keys aggs) all) ∙ ap (map (made_row stage keys aggs)) (map-groups (cell own) (key_of keys) keys rows))

-- what is made of the rows of each key of an index
pub by-key : (of_part : List (List Value) → List Value) (keys : List ColId) (columns : Columns) (places : List (Option ℕ)) → places ≡ places_of columns keys
    → (rows : List (List Value)) (found : List (List (List Value))) → SameBag found (parts (key_at places) rows)
    → (bag : List (List Value)) → bag ≡ map of_part found → SameBag bag (map of_part (parts (key_over keys columns) rows))
by-key of_part keys columns places at rows found same bag is =
    let key : key_at places ≡ key_over keys columns = λ i row. (ap (λ places. key_at places row) at ∙ key_at-key_of columns keys row) i in
    SameBag-trans (SameBag-≡ is) (SameBag-map of_part (subst (λ key. SameBag found (parts key rows)) key same))

-- ---- one group more

take-there : {X : Type 0} (xs : List X) (i : ℕ) (x : X) → slice_get xs i ≡ Some x → take (i + 1) xs ≡ take i xs ++ x ∷ []
take-there [] i x there = cc
take-there (first ∷ xs) zero x there = let same : first ≡ x = cc in ap (λ y. y ∷ []) same
take-there (first ∷ xs) (suc i) x there =
    let more : suc i + 1 ≡ suc (i + 1) = omega arith in
    ap (λ n. take n (first ∷ xs)) more ∙ ap (λ ys. first ∷ ys) (take-there xs i x there)

take-past : {X : Type 0} (xs : List X) (i : ℕ) → slice_get xs i ≡ None → take (i + 1) xs ≡ take i xs
take-past [] zero past = refl
take-past [] (suc i) past = let more : suc i + 1 ≡ suc (i + 1) = omega arith in ap (λ n. take n []) more
take-past (first ∷ xs) zero past = cc
take-past (first ∷ xs) (suc i) past =
    let more : suc i + 1 ≡ suc (i + 1) = omega arith in
    ap (λ n. take n (first ∷ xs)) more ∙ ap (λ ys. first ∷ ys) (take-past xs i past)

module _ {X Y : Type 0} (f : X → Y) (xs : List X) (i : ℕ) (done : List Y) (before : done ≡ map f (take i xs)) where
  pub one-more : (x : X) (next : List Y) → slice_get xs i ≡ Some x → next ≡ done ++ f x ∷ [] → next ≡ map f (take (i + 1) xs)
  one-more x next there grown =
      grown ∙ ap (λ ys. ys ++ f x ∷ []) before ∙ sym (map-append f (take i xs) (x ∷ [])) ∙ ap (map f) (sym (take-there xs i x there))

  pub none-more : slice_get xs i ≡ None → done ≡ map f (take (i + 1) xs)
  none-more past = before ∙ ap (map f) (sym (take-past xs i past))

-- rows behind references
pub behind : (columns : Columns) (rows : List (Bor (List Value))) → map (λ row. cell columns row.now) rows ≡ map (cell columns) (map (λ row. row.now) rows)
behind columns rows = sym (map-after (λ (row : Bor (List Value)). row.now) (cell columns) rows)
