-- What is known of a group of a memo by what was read of it.
use Rattle.std.proofs.Common.{◌≡◌, ℕ, ◌<◌, ◌≤◌, Bool, List, [], ◌∷◌, filter, length, Option, Some, sym, ap, subst, ◌∙◌, arith}
use Rattle.std.specs.List.{AllByRecursion, slice_get}
use Rattle.pdw_algebra.specs.declared.tree.Tree.{Tree}
use Rattle.pdw_algebra.specs.declared.tree.Tree.TheOpen.{Tree-F}
use Rattle.pdw_algebra.specs.declared.tree.Tree.TheVariants as tree
use Rattle.pdw_base.specs.Schema.{Columns}
use Rattle.pdw_base.specs.declared.schema.ColId.{ColId}
use Rattle.pdw_expr.specs.declared.agg.Agg.{Agg}
use Rattle.pdw_expr.specs.declared.agg.JoinKind.{JoinKind}
use Rattle.pdw_expr.specs.declared.cond.Cond.{Cond}
use Rattle.pdw_expr.specs.declared.scalar.Scalar.{Scalar}
use Rattle.pdw_groups.specs.Level.{set_of}
use Rattle.pdw_groups.specs.Meaning.{Meaning, exactly, partial_of}
use Rattle.pdw_groups.specs.Memo.{Contents}
use Rattle.pdw_groups.specs.declared.block.BlockPart.{BlockPart}
use Rattle.pdw_groups.specs.declared.group.Expr.{Expr}
use Rattle.pdw_groups.specs.declared.key.GroupId.{GroupId}
use Rattle.pdw_groups.specs.declared.op.Op.{Op}
use Rattle.pdw_groups.specs.declared.op.Op.TheVariants as op
use Rattle.pdw_memo.specs.Laws.{meanings_in}
use Rattle.pdw_memo.specs.Memo.{IsMemo}
use Rattle.pdw_parts.specs.Part.{chosen, is_inside}
use Rattle.pdw_sizes.proofs.NumberedLaws.{estimate_at, estimates, filter-estimate, group-estimate, join-estimate, leaf_columns-numbered, leaf_rows-numbered, partial-estimate, project-estimate, scan-estimate, set-estimate}
use Rattle.pdw_sizes.specs.Estimate.{Estimate, aggregate_columns, estimate_step, join_rows, key_rows, rows_left, times}
use Rattle.pdw_sizes.specs.Numbered.{columns_at, rows_at, set_columns, set_rows}
use Rattle.pdw_sizes.specs.Reading.{EachMeansTree, IsFirst, IsSet, ReadsBy, ReadsOne, ReadsTwo}
use Rattle.pdw_sizes.specs.Sizes.{partial_rows}
use Rattle.pdw_stats.specs.Book.{Book}

some-same : {X : Type 0} (a b : X) → Some a ≡ Some b → a ≡ b
some-same a b same = cc

-- ---- children

module _ (meanings : List Meaning) (number : ℕ) (means : Meaning) (kids : List GroupId) where
  one-there : (made : Tree → Meaning) → ReadsOne meanings number made means kids → 0 < length kids
  one-there made r = let count = ap length r.only in omega (arith, count)

  one-smaller : (made : Tree → Meaning) → ReadsOne meanings number made means kids → (child : GroupId) → slice_get kids 0 ≡ Some child → child.0 < number
  one-smaller made r child at = subst (λ (c : GroupId). c.0 < number) (some-same r.child child (sym (ap (λ l. slice_get l 0) r.only) ∙ at)) r.reads.smaller

  two-there : (made : Tree → Tree → Meaning) → ReadsTwo meanings number made means kids → 1 < length kids
  two-there made r = let count = ap length r.both in omega (arith, count)

  left-smaller : (made : Tree → Tree → Meaning) → ReadsTwo meanings number made means kids → (child : GroupId) → slice_get kids 0 ≡ Some child → child.0 < number
  left-smaller made r child at = subst (λ (c : GroupId). c.0 < number) (some-same r.left child (sym (ap (λ l. slice_get l 0) r.both) ∙ at)) r.reads_left.smaller

  right-smaller : (made : Tree → Tree → Meaning) → ReadsTwo meanings number made means kids → (child : GroupId) → slice_get kids 1 ≡ Some child → child.0 < number
  right-smaller made r child at = subst (λ (c : GroupId). c.0 < number) (some-same r.right child (sym (ap (λ l. slice_get l 1) r.both) ∙ at)) r.reads_right.smaller

each-smaller : (meanings : List Meaning) (number : ℕ) (ids : List GroupId) (trees : List Tree) → EachMeansTree meanings number ids trees → AllByRecursion (λ id. id.0 < number) ids
each-smaller meanings number [] trees all = tt
each-smaller meanings number (id ∷ ids) [] all = absurd all
each-smaller meanings number (id ∷ ids) (t ∷ trees) all = (all.0.smaller, each-smaller meanings number ids trees all.1)

-- ---- the group of an operator

module _ (contents : Contents) (number : ℕ) (expr : Expr) (read : IsFirst contents number expr) (kids : List GroupId) (same : kids ≡ expr.children) where
  abbrev meanings : IsMemo contents → List Meaning
  meanings memo = meanings_in contents memo

  abbrev means : IsMemo contents → Meaning
  means memo = (read.each memo).means

  reads-as : (o : Op) → expr.op ≡ o → (memo : IsMemo contents) → ReadsBy (meanings memo) number (means memo) o kids
  reads-as o is memo =
      subst (λ l. ReadsBy (meanings memo) number (means memo) o l) (sym same) (subst (λ p. ReadsBy (meanings memo) number (means memo) p expr.children) is (read.each memo).reads)

  pub filter-there : (conds : List Cond) → expr.op ≡ op.Filter conds → 0 < length kids
  filter-there conds is = one-there (meanings read.some) number (means read.some) kids (λ t. exactly (tree.Filter conds t)) (reads-as (op.Filter conds) is read.some)

  pub filter-smaller : (conds : List Cond) → expr.op ≡ op.Filter conds → (child : GroupId) → slice_get kids 0 ≡ Some child → child.0 < number
  filter-smaller conds is = one-smaller (meanings read.some) number (means read.some) kids (λ t. exactly (tree.Filter conds t)) (reads-as (op.Filter conds) is read.some)

  pub project-there : (items : List (ColId × Option Scalar)) → expr.op ≡ op.Project items → 0 < length kids
  project-there items is = one-there (meanings read.some) number (means read.some) kids (λ t. exactly (tree.Project items t)) (reads-as (op.Project items) is read.some)

  pub project-smaller : (items : List (ColId × Option Scalar)) → expr.op ≡ op.Project items → (child : GroupId) → slice_get kids 0 ≡ Some child → child.0 < number
  project-smaller items is = one-smaller (meanings read.some) number (means read.some) kids (λ t. exactly (tree.Project items t)) (reads-as (op.Project items) is read.some)

  pub group-there : (keys : List ColId) (aggs : List Agg) → expr.op ≡ op.GroupBy keys aggs → 0 < length kids
  group-there keys aggs is = one-there (meanings read.some) number (means read.some) kids (λ t. exactly (tree.GroupBy keys aggs t)) (reads-as (op.GroupBy keys aggs) is read.some)

  pub group-smaller : (keys : List ColId) (aggs : List Agg) → expr.op ≡ op.GroupBy keys aggs → (child : GroupId) → slice_get kids 0 ≡ Some child → child.0 < number
  group-smaller keys aggs is = one-smaller (meanings read.some) number (means read.some) kids (λ t. exactly (tree.GroupBy keys aggs t)) (reads-as (op.GroupBy keys aggs) is read.some)

  pub partial-there : (keys : List ColId) (aggs : List Agg) → expr.op ≡ op.Partial keys aggs → 0 < length kids
  partial-there keys aggs is = one-there (meanings read.some) number (means read.some) kids (λ t. partial_of keys aggs t) (reads-as (op.Partial keys aggs) is read.some)

  pub partial-smaller : (keys : List ColId) (aggs : List Agg) → expr.op ≡ op.Partial keys aggs → (child : GroupId) → slice_get kids 0 ≡ Some child → child.0 < number
  partial-smaller keys aggs is = one-smaller (meanings read.some) number (means read.some) kids (λ t. partial_of keys aggs t) (reads-as (op.Partial keys aggs) is read.some)

  pub join-there : (kind : JoinKind) (conds : List Cond) → expr.op ≡ op.Join kind conds → 1 < length kids
  join-there kind conds is = two-there (meanings read.some) number (means read.some) kids (λ l r. exactly (tree.Join kind conds l r)) (reads-as (op.Join kind conds) is read.some)

  pub join-left : (kind : JoinKind) (conds : List Cond) → expr.op ≡ op.Join kind conds → (child : GroupId) → slice_get kids 0 ≡ Some child → child.0 < number
  join-left kind conds is = left-smaller (meanings read.some) number (means read.some) kids (λ l r. exactly (tree.Join kind conds l r)) (reads-as (op.Join kind conds) is read.some)

  pub join-right : (kind : JoinKind) (conds : List Cond) → expr.op ≡ op.Join kind conds → (child : GroupId) → slice_get kids 1 ≡ Some child → child.0 < number
  join-right kind conds is = right-smaller (meanings read.some) number (means read.some) kids (λ l r. exactly (tree.Join kind conds l r)) (reads-as (op.Join kind conds) is read.some)

  pub final-not : (keys : List ColId) (aggs : List Agg) → expr.op ≡ op.Final keys aggs → ⊥
  final-not keys aggs is = reads-as (op.Final keys aggs) is read.some

  module _ (book : Book) (n : ℕ) (memo : IsMemo contents) where
    abbrev at : ℕ → Estimate
    at = estimate_at book (meanings memo) n

    pub scan-is : (table alias : List ℕ) (cols : List (ColId × ℕ)) (hash : Option ColId) (replicated : Bool) → expr.op ≡ op.Scan table alias cols hash replicated
        → at number ≡ estimate_step book (Tree-F.Scan table alias cols)
    scan-is table alias cols hash replicated is =
        scan-estimate book (meanings memo) n number (means memo) (read.each memo).there kids table alias cols (reads-as (op.Scan table alias cols hash replicated) is memo)

    pub filter-is : (conds : List Cond) → expr.op ≡ op.Filter conds → (child : GroupId) → slice_get kids 0 ≡ Some child → at number ≡ estimate_step book (Tree-F.Filter conds (at child.0))
    filter-is conds is = filter-estimate book (meanings memo) n number (means memo) (read.each memo).there kids conds (reads-as (op.Filter conds) is memo)

    pub project-is : (items : List (ColId × Option Scalar)) → expr.op ≡ op.Project items → (child : GroupId) → slice_get kids 0 ≡ Some child
        → at number ≡ estimate_step book (Tree-F.Project items (at child.0))
    project-is items is = project-estimate book (meanings memo) n number (means memo) (read.each memo).there kids items (reads-as (op.Project items) is memo)

    pub group-is : (keys : List ColId) (aggs : List Agg) → expr.op ≡ op.GroupBy keys aggs → (child : GroupId) → slice_get kids 0 ≡ Some child
        → at number ≡ estimate_step book (Tree-F.GroupBy keys aggs (at child.0))
    group-is keys aggs is = group-estimate book (meanings memo) n number (means memo) (read.each memo).there kids keys aggs (reads-as (op.GroupBy keys aggs) is memo)

    pub partial-is : (keys : List ColId) (aggs : List Agg) → expr.op ≡ op.Partial keys aggs → (child : GroupId) → slice_get kids 0 ≡ Some child
        → at number ≡ record { rows = partial_rows n (key_rows (at child.0).columns (at child.0).rows keys) (at child.0).rows keys; columns = aggregate_columns 16 (at child.0).columns aggs }
    partial-is keys aggs is = partial-estimate book (meanings memo) n number (means memo) (read.each memo).there kids keys aggs (reads-as (op.Partial keys aggs) is memo)

    pub join-is : (kind : JoinKind) (conds : List Cond) → expr.op ≡ op.Join kind conds → (left right : GroupId) → slice_get kids 0 ≡ Some left → slice_get kids 1 ≡ Some right
        → at number ≡ estimate_step book (Tree-F.Join kind conds (at left.0) (at right.0))
    join-is kind conds is = join-estimate book (meanings memo) n number (means memo) (read.each memo).there kids kind conds (reads-as (op.Join kind conds) is memo)

    -- ---- rows by the group's own columns

    pub filter-rows : (conds : List Cond) → expr.op ≡ op.Filter conds → (child : GroupId) → slice_get kids 0 ≡ Some child → (rows : ℕ) (some : List Cond)
        → rows ≡ rows_at book (meanings memo) n child.0 → some ≡ conds → rows_left (columns_at book (meanings memo) number) rows some ≡ rows_at book (meanings memo) n number
    filter-rows conds is child there rows some has all =
        let same = filter-is conds is child there in
        (λ i. rows_left (same i).columns (has i) (all i)) ∙ sym (ap (λ (e : Estimate). e.rows) same)

    pub join-rows : (kind : JoinKind) (conds : List Cond) → expr.op ≡ op.Join kind conds → (left right : GroupId) → slice_get kids 0 ≡ Some left → slice_get kids 1 ≡ Some right
        → (first second : ℕ) (some : List Cond) → first ≡ rows_at book (meanings memo) n left.0 → second ≡ rows_at book (meanings memo) n right.0 → some ≡ conds
        → join_rows kind (rows_left (columns_at book (meanings memo) number) (times first second) some) first second ≡ rows_at book (meanings memo) n number
    join-rows kind conds is left right there also first second some one other all =
        let same = join-is kind conds is left right there also in
        (λ i. join_rows kind (rows_left (same i).columns (times (one i) (other i)) (all i)) (one i) (other i)) ∙ sym (ap (λ (e : Estimate). e.rows) same)

-- ---- a set of leaves

module _ (contents : Contents) (number : ℕ) (part : BlockPart) (leaves : ℕ) (schema : Columns) (read : IsSet contents number part leaves schema) (all : List GroupId) (same : all ≡ part.leaves) where
  pub set-few : length all ≤ 10
  set-few = subst (λ ids. length ids ≤ 10) (sym same) (read.each read.some).reads.few

  pub set-smaller : AllByRecursion (λ leaf. leaf.0 < number) (chosen (set_of leaves) all)
  set-smaller =
      subst (λ ids. AllByRecursion (λ (leaf : GroupId). leaf.0 < number) (chosen (set_of leaves) ids)) (sym same)
      (each-smaller (meanings_in contents read.some) number (chosen (set_of leaves) part.leaves) (read.each read.some).reads.trees (read.each read.some).reads.each)

  module _ (book : Book) (n : ℕ) (memo : IsMemo contents) where
    abbrev ids : List GroupId
    ids = chosen (set_of leaves) all

    set-is : estimate_at book (meanings_in contents memo) n number ≡ estimate_step book (Tree-F.Block (estimates book (meanings_in contents memo) n ids) (filter (is_inside schema) part.conds))
    set-is =
        set-estimate book (meanings_in contents memo) n number (read.each memo).means (read.each memo).there (chosen (set_of leaves) part.leaves) (read.each memo).reads.trees (filter (is_inside schema) part.conds)
        (read.each memo).reads.each (read.each memo).reads.is
        ∙ ap (λ l. estimate_step book (Tree-F.Block (estimates book (meanings_in contents memo) n (chosen (set_of leaves) l)) (filter (is_inside schema) part.conds))) (sym same)

    pub set-columns : columns_at book (meanings_in contents memo) number ≡ set_columns book (meanings_in contents memo) ids
    set-columns = ap (λ (e : Estimate). e.columns) set-is ∙ leaf_columns-numbered book (meanings_in contents memo) n ids

    pub set-rows : (rows : ℕ) (conds : List Cond) → rows ≡ set_rows book (meanings_in contents memo) n ids → conds ≡ part.conds
        → rows_left (columns_at book (meanings_in contents memo) number) rows (filter (is_inside schema) conds) ≡ rows_at book (meanings_in contents memo) n number
    set-rows rows conds has these =
        let whole = set-is in
        let product = has ∙ sym (leaf_rows-numbered book (meanings_in contents memo) n ids) in
        (λ i. rows_left (whole i).columns (product i) (filter (is_inside schema) (these i))) ∙ sym (ap (λ (e : Estimate). e.rows) whole)
