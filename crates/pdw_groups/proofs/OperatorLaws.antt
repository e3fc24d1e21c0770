-- Each operator of a tree stands for it over what its children mean.
use Rattle.std.proofs.Common.{◌≡◌, ℕ, Bool, List, [], ◌∷◌, map, Option, sym, ap, ◌∙◌}
use Rattle.pdw_algebra.proofs.Products.{products-one}
use Rattle.pdw_algebra.proofs.TreeFolds.{fold-block, fold-filter, fold-group, fold-join, fold-project, fold-scan}
use Rattle.pdw_algebra.specs.Meaning.{rows_of, rows_step}
use Rattle.pdw_algebra.specs.declared.tree.Tree.{Tree}
use Rattle.pdw_algebra.specs.declared.tree.Tree.TheVariants as tree
use Rattle.pdw_bag_laws.proofs.Groups.{SameBag-grouped}
use Rattle.pdw_bag_laws.proofs.Operators.{SameBag-joined}
use Rattle.pdw_base.proofs.SameBagLaws.{SameBag-filter, SameBag-map, SameBag-refl, SameBag-trans, SameBag-≡}
use Rattle.pdw_base.specs.SameBag.{SameBag}
use Rattle.pdw_base.specs.Schema.{Env}
use Rattle.pdw_base.specs.declared.schema.ColId.{ColId}
use Rattle.pdw_catalog.specs.Database.{Database}
use Rattle.pdw_expr.specs.Rows.{filtered, grouped, joined, meets, projected}
use Rattle.pdw_expr.specs.declared.agg.Agg.{Agg}
use Rattle.pdw_expr.specs.declared.agg.JoinKind.{JoinKind}
use Rattle.pdw_expr.specs.declared.cond.Cond.{Cond}
use Rattle.pdw_expr.specs.declared.scalar.Scalar.{Scalar}
use Rattle.pdw_groups.specs.Meaning.{Admits, AdmitEach, Meaning, Stands, exactly, of_one, of_two, partial_of}
use Rattle.pdw_groups.specs.declared.op.Op.TheVariants as op
use Rattle.pdw_partial.proofs.Admitted.{IsPartial-one, IsPartial-same}
use Rattle.pdw_partial.proofs.Groups.{final-partials}
use Rattle.pdw_partial.specs.Partial.{KeysApart, final_rows, partial_rows}

module _ (database : Database) where
  -- ---- one child, and two

  pub admit-one : (P : List Env → Type 0) (give : List Env → List Env) (child : Meaning) → ((bag : List Env) → Admits database child bag → P (give bag))
      → (bags : List (List Env)) → AdmitEach database (child ∷ []) bags → P (of_one give bags)
  admit-one P give child holds [] each = absurd each
  admit-one P give child holds (bag ∷ []) each = holds bag each.0
  admit-one P give child holds (bag ∷ other ∷ rest) each = absurd each.1

  pub admit-two : (P : List Env → Type 0) (give : List Env → List Env → List Env) (left right : Meaning)
      → ((ls rs : List Env) → Admits database left ls → Admits database right rs → P (give ls rs))
      → (bags : List (List Env)) → AdmitEach database (left ∷ right ∷ []) bags → P (of_two give bags)
  admit-two P give left right holds [] each = absurd each
  admit-two P give left right holds (ls ∷ []) each = absurd each.1
  admit-two P give left right holds (ls ∷ rs ∷ []) each = holds ls rs each.0 each.1.0
  admit-two P give left right holds (ls ∷ rs ∷ other ∷ rest) each = absurd each.1.1

  abbrev rows : Tree → List Env
  rows = rows_of database

  -- ---- the operators of a tree

  pub stands-scan : (table alias : List ℕ) (cols : List (ColId × ℕ)) (hash : Option ColId) (replicated : Bool)
      → Stands database (exactly (tree.Scan table alias cols)) (op.Scan table alias cols hash replicated) []
  stands-scan table alias cols hash replicated = record { admitted = λ bags each. SameBag-≡ (sym (fold-scan (rows_step database) table alias cols)) }

  pub stands-filter : (conds : List Cond) (child : Tree) → Stands database (exactly (tree.Filter conds child)) (op.Filter conds) (exactly child ∷ [])
  stands-filter conds child = record {
    admitted = admit-one (λ bag. SameBag bag (rows (tree.Filter conds child))) (filtered conds) (exactly child)
        (λ bag same. SameBag-trans (SameBag-filter (meets conds) same) (SameBag-≡ (sym (fold-filter (rows_step database) conds child))));
  }

  pub stands-project : (items : List (ColId × Option Scalar)) (child : Tree) → Stands database (exactly (tree.Project items child)) (op.Project items) (exactly child ∷ [])
  stands-project items child = record {
    admitted = admit-one (λ bag. SameBag bag (rows (tree.Project items child))) (map (projected items)) (exactly child)
        (λ bag same. SameBag-trans (SameBag-map (projected items) same) (SameBag-≡ (sym (fold-project (rows_step database) items child))));
  }

  pub stands-join : (kind : JoinKind) (conds : List Cond) (left right : Tree) → Stands database (exactly (tree.Join kind conds left right)) (op.Join kind conds) (exactly left ∷ exactly right ∷ [])
  stands-join kind conds left right = record {
    admitted = admit-two (λ bag. SameBag bag (rows (tree.Join kind conds left right))) (joined kind conds) (exactly left) (exactly right)
        (λ ls rs first second. SameBag-trans (SameBag-joined kind conds first second) (SameBag-≡ (sym (fold-join (rows_step database) kind conds left right))));
  }

  -- ---- groupings

  module _ (keys : List ColId) (aggs : List Agg) (child : Tree) where
    pub stands-group : Stands database (exactly (tree.GroupBy keys aggs child)) (op.GroupBy keys aggs) (exactly child ∷ [])
    stands-group = record {
      admitted = admit-one (λ bag. SameBag bag (rows (tree.GroupBy keys aggs child))) (grouped keys aggs) (exactly child)
          (λ bag same. SameBag-≡ (SameBag-grouped keys aggs bag (rows child) same ∙ sym (fold-group (rows_step database) keys aggs child)));
    }

    pub stands-partial : Stands database (partial_of keys aggs child) (op.Partial keys aggs) (exactly child ∷ [])
    stands-partial = record {
      admitted = admit-one (Admits database (partial_of keys aggs child)) (partial_rows keys aggs) (exactly child)
          (λ bag same. IsPartial-same keys aggs bag (rows child) (partial_rows keys aggs bag) (partial_rows keys aggs bag) same (SameBag-refl (partial_rows keys aggs bag)) (IsPartial-one keys aggs bag));
    }

    pub stands-final : KeysApart keys aggs → Stands database (exactly (tree.GroupBy keys aggs child)) (op.Final keys aggs) (partial_of keys aggs child ∷ [])
    stands-final apart = record {
      admitted = admit-one (λ bag. SameBag bag (rows (tree.GroupBy keys aggs child))) (final_rows keys aggs) (partial_of keys aggs child)
          (λ bag partial. SameBag-≡ (final-partials keys aggs apart (rows child) bag partial ∙ sym (fold-group (rows_step database) keys aggs child)));
    }

  -- ---- a leaf filtered by conjuncts

  pub rows-leaf : (leaf : Tree) (conds : List Cond) → rows (tree.Block (leaf ∷ []) conds) ≡ filtered conds (rows leaf)
  rows-leaf leaf conds = fold-block (rows_step database) (leaf ∷ []) conds ∙ ap (filtered conds) (products-one (rows leaf))

  pub stands-leaf : (leaf : Tree) (conds : List Cond) → Stands database (exactly (tree.Block (leaf ∷ []) conds)) (op.Filter conds) (exactly leaf ∷ [])
  stands-leaf leaf conds = record {
    admitted = admit-one (λ bag. SameBag bag (rows (tree.Block (leaf ∷ []) conds))) (filtered conds) (exactly leaf)
        (λ bag same. SameBag-trans (SameBag-filter (meets conds) same) (SameBag-≡ (sym (rows-leaf leaf conds))));
  }
