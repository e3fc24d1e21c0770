-- The rows of a temporary table, by its place in both lists.
use Rattle.std.proofs.Common.{◌≡◌, ℕ, zero, suc, ◌+◌, Result, Ok, Err, arith, List, [], ◌∷◌, map, slice_get, slice_index_or, Some, None, refl, sym, ap, ◌∙◌, All, subst}
use Rattle.std.proofs.lemmas.List.Elements.{All-nil}
use Rattle.std.specs.List.{AllByRecursion, zip}
use Rattle.pdw_base.proofs.SameBagLaws.{SameBag-≡}
use Rattle.pdw_base.specs.Schema.{Columns, Env, FitsColumns, cell}
use Rattle.pdw_base.specs.declared.node.Node.{Node}
use Rattle.pdw_base.specs.declared.value.Value.{Value}
use Rattle.pdw_exec.specs.Nodes.{FitTemporaries, temporaries}
use Rattle.pdw_algebra.specs.Local.{temporary}
use Rattle.pdw_exec.specs.Relation.{Gives, rows_in}
use Rattle.pdw_exec.specs.Shapes.{temporary_schema}
use Rattle.std.specs.Result.{IfOk}
use Rattle.pdw_exec.specs.declared.relation.Relation.{Relation}
use Rattle.pdw_move.specs.Placed.{rows_at}
use Rattle.pdw_move.specs.declared.placed.Placed.{Placed}

module _ {X : Type 0} where
  pub index-some : (xs : List X) (i : ℕ) (d x : X) → slice_get xs i ≡ Some x → slice_index_or xs i d ≡ x
  index-some [] i d x there = cc
  index-some (y ∷ xs) zero d x there = cc
  index-some (y ∷ xs) (suc i) d x there = index-some xs i d x there

  pub index-none : (xs : List X) (i : ℕ) (d : X) → slice_get xs i ≡ None → slice_index_or xs i d ≡ d
  index-none [] i d none = refl
  index-none (y ∷ xs) zero d none = cc
  index-none (y ∷ xs) (suc i) d none = index-none xs i d none

module _ {X Y Z : Type 0} (f : X × Y → Z) (i : ℕ) (d : Z) where
  pub zip-some : (xs : List X) (ys : List Y) (x : X) (y : Y) → slice_get xs i ≡ Some x → slice_get ys i ≡ Some y → slice_index_or (map f (zip xs ys)) i d ≡ f (x, y)
  zip-some xs ys x y left right = each xs ys i left right
    where
      each : (xs : List X) (ys : List Y) (i : ℕ) → slice_get xs i ≡ Some x → slice_get ys i ≡ Some y → slice_index_or (map f (zip xs ys)) i d ≡ f (x, y)
      each [] ys i left right = cc
      each (a ∷ xs) [] i left right = cc
      each (a ∷ xs) (b ∷ ys) zero left right = let first : a ≡ x = cc in let second : b ≡ y = cc in λ j. f (first j, second j)
      each (a ∷ xs) (b ∷ ys) (suc i) left right = each xs ys i left right

  pub zip-left : (xs : List X) (ys : List Y) → slice_get xs i ≡ None → slice_index_or (map f (zip xs ys)) i d ≡ d
  zip-left xs ys none = each xs ys i none
    where
      each : (xs : List X) (ys : List Y) (i : ℕ) → slice_get xs i ≡ None → slice_index_or (map f (zip xs ys)) i d ≡ d
      each [] ys i none = refl
      each (a ∷ xs) [] i none = refl
      each (a ∷ xs) (b ∷ ys) zero none = cc
      each (a ∷ xs) (b ∷ ys) (suc i) none = each xs ys i none

  pub zip-right : (xs : List X) (ys : List Y) → slice_get ys i ≡ None → slice_index_or (map f (zip xs ys)) i d ≡ d
  zip-right xs ys none = each xs ys i none
    where
      each : (xs : List X) (ys : List Y) (i : ℕ) → slice_get ys i ≡ None → slice_index_or (map f (zip xs ys)) i d ≡ d
      each [] ys i none = refl
      each (a ∷ xs) [] i none = refl
      each (a ∷ xs) (b ∷ ys) zero none = cc
      each (a ∷ xs) (b ∷ ys) (suc i) none = each xs ys i none

all-there : {X Y : Type 0} (P : X × Y → Type 0) (xs : List X) (ys : List Y) (i : ℕ) (x : X) (y : Y) → slice_get xs i ≡ Some x → slice_get ys i ≡ Some y → AllByRecursion P (zip xs ys) → P (x, y)
all-there P [] ys i x y left right all = cc
all-there P (a ∷ xs) [] i x y left right all = cc
all-there P (a ∷ xs) (b ∷ ys) zero x y left right all = let first : a ≡ x = cc in let second : b ≡ y = cc in subst P (λ j. (first j, second j)) all.0
all-there P (a ∷ xs) (b ∷ ys) (suc i) x y left right all = all-there P xs ys i x y left right all.1

-- two facts of an answer give a third
pub if_ok-both : {T E : Type 0} (P Q R : T → Type 0) → ((x : T) → P x → Q x → R x) → (r : Result T E) → IfOk r P → IfOk r Q → IfOk r R
if_ok-both P Q R make (Ok x) p q = make x p q
if_ok-both P Q R make (Err e) p q = tt

no-row : (columns : Columns) (rows : List (List Value)) → rows ≡ [] → All (FitsColumns columns) rows
no-row columns rows none = subst (All (FitsColumns columns)) (sym none) (All-nil (FitsColumns columns))

module _ (temps : List Placed) (schemas : List Columns) (node : Node) (place : ℕ) where
  abbrev envs_of : Placed × Columns → List Env
  envs_of table = map (cell table.1) (rows_at table.0 node)

  abbrev GivesTable : Relation → Type 0
  GivesTable = Gives (slice_index_or schemas place []) (slice_index_or (temporaries temps schemas node) place []) (FitTemporaries temps schemas node)

  -- the table is there
  pub table-gives : (placed : Placed) (schema : Columns) (found : Relation) → slice_get temps place ≡ Some placed → slice_get schemas place ≡ Some schema
      → found.columns ≡ schema → rows_in found.rows ≡ rows_at placed node → GivesTable found
  table-gives placed schema found there known columns rows = record {
    columns = columns ∙ sym (index-some schemas place [] schema known);
    rows = SameBag-≡ ((λ i. map (cell (columns i)) (rows i)) ∙ sym (zip-some envs_of place [] temps schemas placed schema there known));
    fits = λ all.
        subst (λ columns. All (FitsColumns columns) (rows_in found.rows)) (sym columns)
        (subst (All (FitsColumns schema)) (sym rows) (all-there (λ table. All (FitsColumns table.1) (rows_at table.0 node)) temps schemas place placed schema there known all));
  }

  -- a schema without rows
  pub schema-gives : (found : Relation) → slice_get temps place ≡ None → found.columns ≡ slice_index_or schemas place [] → rows_in found.rows ≡ [] → GivesTable found
  schema-gives found none columns rows = record {
    columns = columns;
    rows = SameBag-≡ (ap (map (cell found.columns)) rows ∙ sym (zip-left envs_of place [] temps schemas none));
    fits = λ all. no-row found.columns (rows_in found.rows) rows;
  }

  -- no schema
  pub nothing-gives : (found : Relation) → slice_get schemas place ≡ None → found.columns ≡ [] → rows_in found.rows ≡ [] → GivesTable found
  nothing-gives found none columns rows = record {
    columns = columns ∙ sym (index-none schemas place [] none);
    rows = SameBag-≡ (ap (map (cell found.columns)) rows ∙ sym (zip-right envs_of place [] temps schemas none));
    fits = λ all. no-row found.columns (rows_in found.rows) rows;
  }

module _ (temps : List Placed) (schemas : List Columns) (node : Node) where
  abbrev GivesTemporary : ℕ → Relation → Type 0
  GivesTemporary id = Gives (temporary_schema schemas id) (temporary (temporaries temps schemas node) id) (FitTemporaries temps schemas node)

  -- no table has the number 0
  pub zero-gives : (id : ℕ) (found : Relation) → id ≡ 0 → found.columns ≡ [] → rows_in found.rows ≡ [] → GivesTemporary id found
  zero-gives zero found is columns rows = record {
    columns = columns;
    rows = SameBag-≡ (ap (map (cell found.columns)) rows);
    fits = λ all. no-row found.columns (rows_in found.rows) rows;
  }
  zero-gives (suc id) found is columns rows = absurd (omega arith)

  -- the table before a number
  pub later-gives : (id place : ℕ) (found : Relation) → id ≡ place + 1 → GivesTable temps schemas node place found → GivesTemporary id found
  later-gives zero place found is gives = absurd (omega arith)
  later-gives (suc before) place found is gives = let same : place ≡ before = omega arith in subst (λ place. GivesTable temps schemas node place found) same gives
