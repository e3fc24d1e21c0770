-- What is reckoned of a group by its number is reckoned of what its reading names.
use Rattle.std.proofs.Common.{◌≡◌, ℕ, List, [], ◌∷◌, fold, map, Option, Some, None, refl, sym, ap, ap₂, ◌∙◌}
use Rattle.std.specs.List.{slice_get}
use Rattle.pdw_algebra.specs.declared.tree.Tree.{Tree}
use Rattle.pdw_algebra.specs.declared.tree.Tree.TheOpen.{Tree-F}
use Rattle.pdw_algebra.specs.declared.tree.Tree.TheVariants as tree
use Rattle.pdw_base.specs.declared.schema.ColId.{ColId}
use Rattle.pdw_expr.specs.declared.agg.Agg.{Agg}
use Rattle.pdw_expr.specs.declared.agg.JoinKind.{JoinKind}
use Rattle.pdw_expr.specs.declared.cond.Cond.{Cond}
use Rattle.pdw_expr.specs.declared.scalar.Scalar.{Scalar}
use Rattle.pdw_groups.specs.Meaning.{Meaning, exactly, partial_of}
use Rattle.pdw_groups.specs.declared.key.GroupId.{GroupId}
use Rattle.pdw_sizes.proofs.EstimateFolds.{estimate-block, estimate-filter, estimate-group, estimate-join, estimate-project, estimate-scan}
use Rattle.pdw_sizes.specs.Estimate.{Estimate, aggregate_columns, both_columns, estimate, estimate_step, key_rows, leaf_columns, leaf_rows, times}
use Rattle.pdw_sizes.specs.Numbered.{columns_if, rows_if, set_columns, set_rows}
use Rattle.pdw_sizes.specs.Reading.{EachMeansTree, ReadsOne, ReadsTwo}
use Rattle.pdw_sizes.specs.Sizes.{partial_rows}
use Rattle.pdw_stats.specs.Book.{Book}

some-same : {X : Type 0} (a b : X) → Some a ≡ Some b → a ≡ b
some-same a b same = cc

fold-map : {A B C : Type 0} (f : A → B → A) (g : C → B) (start : A) (xs : List C) → fold f start (map g xs) ≡ fold (λ a x. f a (g x)) start xs
fold-map f g start [] = refl
fold-map f g start (x ∷ xs) = fold-map f g (f start (g x)) xs

module _ (book : Book) (meanings : List Meaning) (n : ℕ) where
  abbrev pub estimate_if : Option Meaning → Estimate
  estimate_if means = record { rows = rows_if book n means; columns = columns_if book means }

  -- what is reckoned of the group of a number
  abbrev pub estimate_at : ℕ → Estimate
  estimate_at number = estimate_if (slice_get meanings number)

  estimate-exactly : (number : ℕ) (t : Tree) → slice_get meanings number ≡ Some (exactly t) → estimate_at number ≡ estimate book t
  estimate-exactly number t there = ap estimate_if there

  only-child : (children : List GroupId) (own child : GroupId) → children ≡ own ∷ [] → slice_get children 0 ≡ Some child → own ≡ child
  only-child children own child only at = some-same own child (sym (ap (λ l. slice_get l 0) only) ∙ at)

  module _ (number : ℕ) (means : Meaning) (there : slice_get meanings number ≡ Some means) (children : List GroupId) where
    child-estimate : (made : Tree → Meaning) (r : ReadsOne meanings number made means children) (child : GroupId) → slice_get children 0 ≡ Some child → estimate book r.of ≡ estimate_at child.0
    child-estimate made r child at = sym (ap (λ (c : GroupId). estimate_at c.0) (sym (only-child children r.child child r.only at)) ∙ estimate-exactly r.child.0 r.of r.reads.means)

    pub scan-estimate : (table alias : List ℕ) (cols : List (ColId × ℕ)) → means ≡ exactly (tree.Scan table alias cols) → estimate_at number ≡ estimate_step book (Tree-F.Scan table alias cols)
    scan-estimate table alias cols is = estimate-exactly number (tree.Scan table alias cols) (there ∙ ap Some is) ∙ estimate-scan book table alias cols

    pub filter-estimate : (conds : List Cond) → ReadsOne meanings number (λ t. exactly (tree.Filter conds t)) means children → (child : GroupId) → slice_get children 0 ≡ Some child
        → estimate_at number ≡ estimate_step book (Tree-F.Filter conds (estimate_at child.0))
    filter-estimate conds r child at =
        estimate-exactly number (tree.Filter conds r.of) (there ∙ ap Some r.is) ∙ estimate-filter book conds r.of (estimate_at child.0) (child-estimate (λ t. exactly (tree.Filter conds t)) r child at)

    pub project-estimate : (items : List (ColId × Option Scalar)) → ReadsOne meanings number (λ t. exactly (tree.Project items t)) means children → (child : GroupId) → slice_get children 0 ≡ Some child
        → estimate_at number ≡ estimate_step book (Tree-F.Project items (estimate_at child.0))
    project-estimate items r child at =
        estimate-exactly number (tree.Project items r.of) (there ∙ ap Some r.is) ∙ estimate-project book items r.of (estimate_at child.0) (child-estimate (λ t. exactly (tree.Project items t)) r child at)

    pub group-estimate : (keys : List ColId) (aggs : List Agg) → ReadsOne meanings number (λ t. exactly (tree.GroupBy keys aggs t)) means children → (child : GroupId) → slice_get children 0 ≡ Some child
        → estimate_at number ≡ estimate_step book (Tree-F.GroupBy keys aggs (estimate_at child.0))
    group-estimate keys aggs r child at =
        estimate-exactly number (tree.GroupBy keys aggs r.of) (there ∙ ap Some r.is) ∙ estimate-group book keys aggs r.of (estimate_at child.0) (child-estimate (λ t. exactly (tree.GroupBy keys aggs t)) r child at)

    abbrev pub partial_step : List ColId → List Agg → Estimate → Estimate
    partial_step keys aggs e = record { rows = partial_rows n (key_rows e.columns e.rows keys) e.rows keys; columns = aggregate_columns 16 e.columns aggs }

    pub partial-estimate : (keys : List ColId) (aggs : List Agg) → ReadsOne meanings number (λ t. partial_of keys aggs t) means children → (child : GroupId) → slice_get children 0 ≡ Some child
        → estimate_at number ≡ partial_step keys aggs (estimate_at child.0)
    partial-estimate keys aggs r child at =
        ap estimate_if (there ∙ ap Some r.is) ∙ ap (partial_step keys aggs) (child-estimate (λ t. partial_of keys aggs t) r child at)

    module _ (kind : JoinKind) (conds : List Cond) (r : ReadsTwo meanings number (λ l r. exactly (tree.Join kind conds l r)) means children) where
      left-child : (child : GroupId) → slice_get children 0 ≡ Some child → r.left ≡ child
      left-child child at = some-same r.left child (sym (ap (λ l. slice_get l 0) r.both) ∙ at)

      right-child : (child : GroupId) → slice_get children 1 ≡ Some child → r.right ≡ child
      right-child child at = some-same r.right child (sym (ap (λ l. slice_get l 1) r.both) ∙ at)

      pub join-estimate : (left right : GroupId) → slice_get children 0 ≡ Some left → slice_get children 1 ≡ Some right
          → estimate_at number ≡ estimate_step book (Tree-F.Join kind conds (estimate_at left.0) (estimate_at right.0))
      join-estimate left right at also =
          estimate-exactly number (tree.Join kind conds r.first r.second) (there ∙ ap Some r.is)
          ∙ estimate-join book kind conds r.first r.second (estimate_at left.0) (estimate_at right.0)
          (sym (ap (λ (c : GroupId). estimate_at c.0) (sym (left-child left at)) ∙ estimate-exactly r.left.0 r.first r.reads_left.means))
          (sym (ap (λ (c : GroupId). estimate_at c.0) (sym (right-child right also)) ∙ estimate-exactly r.right.0 r.second r.reads_right.means))

  -- ---- leaves side by side

  abbrev pub estimates : List GroupId → List Estimate
  estimates ids = map (λ (id : GroupId). estimate_at id.0) ids

  each-estimate : (number : ℕ) (ids : List GroupId) (trees : List Tree) → EachMeansTree meanings number ids trees → map (estimate book) trees ≡ estimates ids
  each-estimate number [] [] all = refl
  each-estimate number [] (t ∷ trees) all = absurd all
  each-estimate number (id ∷ ids) [] all = absurd all
  each-estimate number (id ∷ ids) (t ∷ trees) all = ap₂ (λ e es. e ∷ es) (sym (estimate-exactly id.0 t all.0.means)) (each-estimate number ids trees all.1)

  pub set-estimate : (number : ℕ) (means : Meaning) → slice_get meanings number ≡ Some means → (ids : List GroupId) (trees : List Tree) (conds : List Cond) → EachMeansTree meanings number ids trees
      → means ≡ exactly (tree.Block trees conds) → estimate_at number ≡ estimate_step book (Tree-F.Block (estimates ids) conds)
  set-estimate number means there ids trees conds each is =
      estimate-exactly number (tree.Block trees conds) (there ∙ ap Some is) ∙ estimate-block book trees conds (estimates ids) (each-estimate number ids trees each)

  pub leaf_columns-numbered : (ids : List GroupId) → leaf_columns (estimates ids) ≡ set_columns book meanings ids
  leaf_columns-numbered ids = fold-map (λ columns (leaf : Estimate). both_columns columns leaf.columns) (λ (id : GroupId). estimate_at id.0) (λ c. None) ids

  pub leaf_rows-numbered : (ids : List GroupId) → leaf_rows (estimates ids) ≡ set_rows book meanings n ids
  leaf_rows-numbered ids = fold-map (λ rows (leaf : Estimate). times rows leaf.rows) (λ (id : GroupId). estimate_at id.0) 1 ids
