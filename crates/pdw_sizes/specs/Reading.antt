-- How what a group of a memo means is read: of a set of a block's leaves from the block, and of an operator from its first
-- expression.
use Rattle.std.specs.Prelude.{◌≡◌, ⊤, ℕ, ◌<◌, ◌≤◌, List, [], ◌∷◌, length, Some}
use Rattle.std.specs.List.{filter, slice_get}
use Rattle.pdw_algebra.specs.declared.tree.Tree.{Tree}
use Rattle.pdw_algebra.specs.declared.tree.Tree.TheVariants as tree
use Rattle.pdw_base.specs.Schema.{Columns}
use Rattle.pdw_groups.specs.Level.{set_of}
use Rattle.pdw_groups.specs.Meaning.{Meaning, exactly, partial_of}
use Rattle.pdw_groups.specs.declared.block.BlockPart.{BlockPart}
use Rattle.pdw_groups.specs.declared.group.Expr.{Expr}
use Rattle.pdw_groups.specs.declared.key.GroupId.{GroupId}
use Rattle.pdw_groups.specs.declared.key.GroupKey.{GroupKey}
use Rattle.pdw_groups.specs.declared.key.GroupKey.TheVariants as key
use Rattle.pdw_groups.specs.declared.op.Op.{Op}
use Rattle.pdw_groups.specs.declared.op.Op.TheVariants as op
use Rattle.pdw_groups.specs.Memo.{Contents}
use Rattle.pdw_memo.specs.Laws.{meanings_in}
use Rattle.pdw_memo.specs.Memo.{IsMemo}
use Rattle.pdw_parts.specs.Part.{chosen, is_inside}
use Rattle.pdw_sizes.specs.declared.reading.Source.{Source}
use Rattle.pdw_sizes.specs.declared.reading.Source.TheVariants as source

-- where groups have these meanings, for the group of a number
module _ (meanings : List Meaning) (number : ℕ) where
  -- a group of a smaller number that means a tree
  pub record MeansTree (child : GroupId) (of : Tree) : Type 0 where
    pub smaller : child.0 < number
    pub means : slice_get meanings child.0 ≡ Some (exactly of)

  abbrev pub EachMeansTree : List GroupId → List Tree → Type 0
  EachMeansTree [] [] = ⊤
  EachMeansTree [] (first ∷ rest) = ⊥
  EachMeansTree (child ∷ children) [] = ⊥
  EachMeansTree (child ∷ children) (first ∷ rest) = MeansTree child first × EachMeansTree children rest

  -- what an operator makes of its only child, and of its two
  pub record ReadsOne (made : Tree → Meaning) (means : Meaning) (children : List GroupId) : Type 0 where
    pub child : GroupId
    pub of : Tree
    pub only : children ≡ child ∷ []
    pub reads : MeansTree child of
    pub is : means ≡ made of

  pub record ReadsTwo (made : Tree → Tree → Meaning) (means : Meaning) (children : List GroupId) : Type 0 where
    pub left : GroupId
    pub right : GroupId
    pub first : Tree
    pub second : Tree
    pub both : children ≡ left ∷ right ∷ []
    pub reads_left : MeansTree left first
    pub reads_right : MeansTree right second
    pub is : means ≡ made first second

  abbrev pub ReadsBy : Meaning → Op → List GroupId → Type 0
  ReadsBy means (op.Scan table alias cols hash replicated) children = means ≡ exactly (tree.Scan table alias cols)
  ReadsBy means (op.Filter conds) children = ReadsOne (λ t. exactly (tree.Filter conds t)) means children
  ReadsBy means (op.Project items) children = ReadsOne (λ t. exactly (tree.Project items t)) means children
  ReadsBy means (op.Join kind conds) children = ReadsTwo (λ l r. exactly (tree.Join kind conds l r)) means children
  ReadsBy means (op.GroupBy keys aggs) children = ReadsOne (λ t. exactly (tree.GroupBy keys aggs t)) means children
  ReadsBy means (op.Partial keys aggs) children = ReadsOne (λ t. partial_of keys aggs t) means children
  ReadsBy means (op.Final keys aggs) children = ⊥

  pub record ReadsFirst (means : Meaning) (exprs : List Expr) : Type 0 where
    pub first : Expr
    pub rest : List Expr
    pub is : exprs ≡ first ∷ rest
    pub reads : ReadsBy means first.op first.children

  -- a set of leaves is the block of these, with every conjunct inside
  pub record ReadsSet (part : BlockPart) (leaves : ℕ) (schema : Columns) (means : Meaning) : Type 0 where
    pub few : length part.leaves ≤ 10
    pub trees : List Tree
    pub each : EachMeansTree (chosen (set_of leaves) part.leaves) trees
    pub is : means ≡ exactly (tree.Block trees (filter (is_inside schema) part.conds))

  pub record ReadsBlock (blocks : List BlockPart) (block leaves : ℕ) (schema : Columns) (means : Meaning) : Type 0 where
    pub part : BlockPart
    pub there : slice_get blocks block ≡ Some part
    pub reads : ReadsSet part leaves schema means

  abbrev pub Reads : List BlockPart → GroupKey → Columns → List Expr → Meaning → Type 0
  Reads blocks (key.Part block leaves) schema exprs means = ReadsBlock blocks block leaves schema means
  Reads blocks (key.Whole operator) schema exprs means = ReadsFirst means exprs
  Reads blocks (key.Partial operator) schema exprs means = ReadsFirst means exprs

-- ---- what is read of the group of a number

pub record SetMeaning (contents : Contents) (memo : IsMemo contents) (number : ℕ) (part : BlockPart) (leaves : ℕ) (schema : Columns) : Type 0 where
  pub means : Meaning
  pub there : slice_get (meanings_in contents memo) number ≡ Some means
  pub reads : ReadsSet (meanings_in contents memo) number part leaves schema means

pub record FirstMeaning (contents : Contents) (memo : IsMemo contents) (number : ℕ) (expr : Expr) : Type 0 where
  pub means : Meaning
  pub there : slice_get (meanings_in contents memo) number ≡ Some means
  pub reads : ReadsBy (meanings_in contents memo) number means expr.op expr.children

-- whatever tree the memo is of
pub record IsSet (contents : Contents) (number : ℕ) (part : BlockPart) (leaves : ℕ) (schema : Columns) : Type 0 where
  pub some : IsMemo contents
  pub each : (memo : IsMemo contents) → SetMeaning contents memo number part leaves schema

pub record IsFirst (contents : Contents) (number : ℕ) (expr : Expr) : Type 0 where
  pub some : IsMemo contents
  pub each : (memo : IsMemo contents) → FirstMeaning contents memo number expr

abbrev pub IsRead : Contents → ℕ → Source → Type 0
IsRead contents number (source.Set part leaves schema) = IsSet contents number part.now leaves schema.now
IsRead contents number (source.First expr) = IsFirst contents number expr.now
