-- The local tree of an expression that is well-typed over its children's schemas.
use Rattle.std.proofs.Common.{◌≡◌, ℕ, suc, ◌||◌, Bool, true, false, true≢false, List, [], ◌∷◌, ◌++◌, length, map, slice_index_or, Option, Some, None, refl, sym, ap, ap₂, ◌∙◌}
use Rattle.std.specs.List.{AllByRecursion}
use Rattle.std.specs.Prelude.{⊤}
use Rattle.pdw_algebra.specs.Schema.{rising}
use Rattle.pdw_algebra.specs.Shape.{are_apart, scan_column}
use Rattle.pdw_algebra.specs.declared.local.LocalTree.TheOpen.{LocalTree-F}
use Rattle.pdw_algebra.specs.declared.local.LocalTree.TheVariants as tree
use Rattle.pdw_algebra.specs.declared.local.LocalTree.{LocalTree}
use Rattle.pdw_base.specs.Schema.{Columns}
use Rattle.pdw_catalog.specs.Catalog.{Tables}
use Rattle.pdw_dsql.proofs.ExprTypes.{Types}
use Rattle.pdw_dsql.proofs.PlainColumns.{columns-same}
use Rattle.pdw_dsql.specs.Trees.{local_of}
use Rattle.pdw_dsql.specs.Typed.{HasTablesOf, reads_a_table, reads_step}
use Rattle.pdw_exec.proofs.LocalFolds.{fold-base, fold-filter, fold-final, fold-group, fold-join, fold-partial, fold-project, fold-temp}
use Rattle.pdw_exec.specs.Shapes.{LocalShape, local_shape, local_shape_step}
use Rattle.pdw_groups.specs.declared.key.GroupId.{GroupId}
use Rattle.pdw_groups.specs.declared.op.Op.TheVariants as op
use Rattle.pdw_groups.specs.declared.op.Op.{Op}
use Rattle.pdw_memo.specs.Laws.{ReadsItsTable}
use Rattle.pdw_move.specs.declared.kinds.Prop.TheVariants as prop
use Rattle.pdw_move.specs.declared.kinds.Prop.{Prop}
use Rattle.pdw_rules.specs.Rules.{is_same, leaf_rule, local_rule, scan_property}
use Rattle.pdw_base.specs.declared.schema.ColId.{ColId}

abbrev pub typed_as : Columns → LocalShape
typed_as columns = record { columns = columns; typed = true }

-- the sides of a join have no column in common
abbrev pub SidesApart : Op → List Columns → Type 0
SidesApart (op.Join kind conds) (left ∷ right ∷ []) = are_apart left right ≡ true
SidesApart _ children = ⊤

-- of the columns of a catalogue with the same tables the types are the same
pub types-other : (known tables : Tables) → HasTablesOf known tables → (schema : Columns) (o : Op) (numbers : List GroupId) (children : List Columns) → ReadsItsTable known o numbers
    → Types known schema o children → Types tables schema o children
types-other known tables has schema (op.Scan table alias cols hash replicated) numbers children reads typed =
    ap (λ columns. rising (map (scan_column columns) cols)) (columns-same known tables has table reads.known) ∙ typed
types-other known tables has schema (op.Filter conds) numbers children reads typed = typed
types-other known tables has schema (op.Project items) numbers children reads typed = typed
types-other known tables has schema (op.Join kind conds) numbers children reads typed = typed
types-other known tables has schema (op.GroupBy keys aggs) numbers children reads typed = typed
types-other known tables has schema (op.Partial keys aggs) numbers children reads typed = typed
types-other known tables has schema (op.Final keys aggs) numbers children reads typed = typed

module _ (tables : Tables) (schemas : List Columns) where
  abbrev shape : LocalTree → LocalShape
  shape = local_shape tables schemas

  abbrev layer : LocalTree-F LocalShape → LocalShape
  layer = local_shape_step tables schemas

  -- a tree is well-typed and gives these columns
  abbrev pub Makes : LocalTree → Columns → Type 0
  Makes t columns = shape t ≡ typed_as columns

  abbrev pub AllMake : List LocalTree → List Columns → Type 0
  AllMake [] [] = ⊤
  AllMake [] (columns ∷ more) = ⊥
  AllMake (t ∷ trees) [] = ⊥
  AllMake (t ∷ trees) (columns ∷ more) = Makes t columns × AllMake trees more

  both : (a b : Columns) (x : Bool) → (a ≡ b) × (x ≡ true) → (let found : LocalShape = record { columns = a; typed = x } in found) ≡ typed_as b
  both a b x is = λ i. record { columns = is.0 i; typed = is.1 i }

  pub operator-makes : (schema : Columns) (o : Op) (trees : List LocalTree) (children : List Columns) → AllMake trees children → SidesApart o children → Types tables schema o children → Makes (local_of o trees) schema
  operator-makes schema (op.Scan table alias cols hash replicated) trees children make apart typed = fold-base layer table cols ∙ ap typed_as typed
  operator-makes schema (op.Filter conds) (t ∷ []) (c ∷ []) make apart typed = fold-filter layer conds t ∙ make.0 ∙ ap typed_as typed
  operator-makes schema (op.Project items) (t ∷ []) (c ∷ []) make apart typed =
      fold-project layer items t ∙ ap (λ s. layer (LocalTree-F.Project items s)) make.0 ∙ both _ schema _ typed
  operator-makes schema (op.Join kind conds) (t ∷ u ∷ []) (c ∷ d ∷ []) make apart typed =
      fold-join layer kind conds t u ∙ ap₂ (λ l r. layer (LocalTree-F.Join kind conds l r)) make.0 make.1.0 ∙ both _ schema _ (typed, apart)
  operator-makes schema (op.GroupBy keys aggs) (t ∷ []) (c ∷ []) make apart typed =
      fold-group layer keys aggs t ∙ ap (λ s. layer (LocalTree-F.GroupBy keys aggs s)) make.0 ∙ both _ schema _ typed
  operator-makes schema (op.Partial keys aggs) (t ∷ []) (c ∷ []) make apart typed =
      fold-partial layer keys aggs t ∙ ap (λ s. layer (LocalTree-F.Partial keys aggs s)) make.0 ∙ both _ schema _ typed
  operator-makes schema (op.Final keys aggs) (t ∷ []) (c ∷ []) make apart typed =
      fold-final layer keys aggs t ∙ ap (λ s. layer (LocalTree-F.Final keys aggs s)) make.0 ∙ both _ schema _ typed
  operator-makes schema (op.Filter conds) trees [] make apart typed = absurd typed
  operator-makes schema (op.Filter conds) trees (c ∷ d ∷ more) make apart typed = absurd typed
  operator-makes schema (op.Filter conds) [] (c ∷ []) make apart typed = absurd make
  operator-makes schema (op.Filter conds) (t ∷ u ∷ trees) (c ∷ []) make apart typed = absurd make.1
  operator-makes schema (op.Project items) trees [] make apart typed = absurd typed
  operator-makes schema (op.Project items) trees (c ∷ d ∷ more) make apart typed = absurd typed
  operator-makes schema (op.Project items) [] (c ∷ []) make apart typed = absurd make
  operator-makes schema (op.Project items) (t ∷ u ∷ trees) (c ∷ []) make apart typed = absurd make.1
  operator-makes schema (op.Join kind conds) trees [] make apart typed = absurd typed
  operator-makes schema (op.Join kind conds) trees (c ∷ []) make apart typed = absurd typed
  operator-makes schema (op.Join kind conds) trees (c ∷ d ∷ e ∷ more) make apart typed = absurd typed
  operator-makes schema (op.Join kind conds) [] (c ∷ d ∷ []) make apart typed = absurd make
  operator-makes schema (op.Join kind conds) (t ∷ []) (c ∷ d ∷ []) make apart typed = absurd make.1
  operator-makes schema (op.Join kind conds) (t ∷ u ∷ v ∷ trees) (c ∷ d ∷ []) make apart typed = absurd make.1.1
  operator-makes schema (op.GroupBy keys aggs) trees [] make apart typed = absurd typed
  operator-makes schema (op.GroupBy keys aggs) trees (c ∷ d ∷ more) make apart typed = absurd typed
  operator-makes schema (op.GroupBy keys aggs) [] (c ∷ []) make apart typed = absurd make
  operator-makes schema (op.GroupBy keys aggs) (t ∷ u ∷ trees) (c ∷ []) make apart typed = absurd make.1
  operator-makes schema (op.Partial keys aggs) trees [] make apart typed = absurd typed
  operator-makes schema (op.Partial keys aggs) trees (c ∷ d ∷ more) make apart typed = absurd typed
  operator-makes schema (op.Partial keys aggs) [] (c ∷ []) make apart typed = absurd make
  operator-makes schema (op.Partial keys aggs) (t ∷ u ∷ trees) (c ∷ []) make apart typed = absurd make.1
  operator-makes schema (op.Final keys aggs) trees [] make apart typed = absurd typed
  operator-makes schema (op.Final keys aggs) trees (c ∷ d ∷ more) make apart typed = absurd typed
  operator-makes schema (op.Final keys aggs) [] (c ∷ []) make apart typed = absurd make
  operator-makes schema (op.Final keys aggs) (t ∷ u ∷ trees) (c ∷ []) make apart typed = absurd make.1

index-of : {X : Type 0} (before : List X) (x : X) (later : List X) (d : X) → slice_index_or (before ++ x ∷ later) (length before) d ≡ x
index-of [] x later d = refl
index-of (y ∷ before) x later d = index-of before x later d

-- a temporary table has its schema
pub temp-makes : (tables : Tables) (before : List Columns) (columns : Columns) (later : List Columns) → Makes tables (before ++ columns ∷ later) (tree.Temp (suc (length before))) columns
temp-makes tables before columns later =
    fold-temp (local_shape_step tables (before ++ columns ∷ later)) (suc (length before)) ∙ ap typed_as (index-of before columns later [])

-- ---- tables that are read

-- no table is read at the control node alone
scan-elsewhere : (hash : Option ColId) (replicated : Bool) → is_same (scan_property hash replicated) prop.Control ≡ false
scan-elsewhere hash true = refl
scan-elsewhere None false = refl
scan-elsewhere (Some c) false = refl

no-scan : {X : Type 0} (o : Op) (result : Prop) → leaf_rule o result ≡ true → result ≡ prop.Control → X
no-scan (op.Scan table alias cols hash replicated) result rule control =
    absurd (true≢false (sym rule ∙ ap (is_same (scan_property hash replicated)) control ∙ scan-elsewhere hash replicated))
no-scan (op.Filter conds) result rule control = absurd (true≢false (sym rule))
no-scan (op.Project items) result rule control = absurd (true≢false (sym rule))
no-scan (op.Join kind conds) result rule control = absurd (true≢false (sym rule))
no-scan (op.GroupBy keys aggs) result rule control = absurd (true≢false (sym rule))
no-scan (op.Partial keys aggs) result rule control = absurd (true≢false (sym rule))
no-scan (op.Final keys aggs) result rule control = absurd (true≢false (sym rule))

abbrev pub ReadsNone : LocalTree → Type 0
ReadsNone t = reads_a_table t ≡ false

pub temp-reads : (id : ℕ) → ReadsNone (tree.Temp id)
temp-reads id = fold-temp reads_step id

pub operator-reads : (o : Op) (props : List Prop) (result : Prop) → local_rule o props result ≡ true → result ≡ prop.Control → (trees : List LocalTree) → AllByRecursion ReadsNone trees → ReadsNone (local_of o trees)
operator-reads (op.Scan table alias cols hash replicated) [] result rule control trees none = no-scan (op.Scan table alias cols hash replicated) result rule control
operator-reads (op.Scan table alias cols hash replicated) (p ∷ []) result rule control trees none = absurd (true≢false (sym rule))
operator-reads (op.Scan table alias cols hash replicated) (p ∷ q ∷ []) result rule control trees none = absurd (true≢false (sym rule))
operator-reads (op.Scan table alias cols hash replicated) (p ∷ q ∷ r ∷ rest) result rule control trees none = absurd (true≢false (sym rule))
operator-reads (op.Filter conds) props result rule control [] none = temp-reads 0
operator-reads (op.Filter conds) props result rule control (t ∷ trees) none = fold-filter reads_step conds t ∙ none.0
operator-reads (op.Project items) props result rule control [] none = temp-reads 0
operator-reads (op.Project items) props result rule control (t ∷ trees) none = fold-project reads_step items t ∙ none.0
operator-reads (op.Join kind conds) props result rule control [] none = temp-reads 0
operator-reads (op.Join kind conds) props result rule control (t ∷ []) none = temp-reads 0
operator-reads (op.Join kind conds) props result rule control (t ∷ u ∷ trees) none = fold-join reads_step kind conds t u ∙ ap₂ (λ a b. a || b) none.0 none.1.0
operator-reads (op.GroupBy keys aggs) props result rule control [] none = temp-reads 0
operator-reads (op.GroupBy keys aggs) props result rule control (t ∷ trees) none = fold-group reads_step keys aggs t ∙ none.0
operator-reads (op.Partial keys aggs) props result rule control [] none = temp-reads 0
operator-reads (op.Partial keys aggs) props result rule control (t ∷ trees) none = fold-partial reads_step keys aggs t ∙ none.0
operator-reads (op.Final keys aggs) props result rule control [] none = temp-reads 0
operator-reads (op.Final keys aggs) props result rule control (t ∷ trees) none = fold-final reads_step keys aggs t ∙ none.0
