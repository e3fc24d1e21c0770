-- Whatever tree a memo is of, its groups mean the same, since what they mean is read from the memo; so their moves cost the same.
use Rattle.std.proofs.Common.{◌≡◌, ◌<◌, ℕ, zero, suc, List, [], ◌∷◌, map, length, filter, Some, refl, sym, ap, ap₂, subst, ◌∙◌, arith}
use Rattle.std.specs.List.{slice_get}
use Rattle.std.proofs.Math.Path.{fun_ext}
use Rattle.std.proofs.lemmas.Option.{slice_get_within}
use Rattle.pdw_algebra.specs.declared.tree.Tree.{Tree}
use Rattle.pdw_algebra.specs.declared.tree.Tree.TheVariants as tree
use Rattle.pdw_base.specs.Schema.{Columns}
use Rattle.pdw_groups.specs.Level.{set_of}
use Rattle.pdw_groups.specs.Meaning.{Meaning, exactly, partial_of}
use Rattle.pdw_groups.specs.Memo.{Contents}
use Rattle.pdw_groups.specs.declared.block.BlockPart.{BlockPart}
use Rattle.pdw_groups.specs.declared.group.Expr.{Expr}
use Rattle.pdw_groups.specs.declared.group.Group.{Group}
use Rattle.pdw_groups.specs.declared.key.GroupId.{GroupId}
use Rattle.pdw_groups.specs.declared.key.GroupKey.{GroupKey}
use Rattle.pdw_groups.specs.declared.key.GroupKey.TheVariants as key
use Rattle.pdw_groups.specs.declared.op.Op.{Op}
use Rattle.pdw_groups.specs.declared.op.Op.TheVariants as op
use Rattle.pdw_memo.proofs.MemoMeans.{memo-each}
use Rattle.pdw_memo.specs.Laws.{meanings_in}
use Rattle.pdw_memo.specs.Memo.{IsMemo}
use Rattle.pdw_move.specs.Cost.{cost_of_move}
use Rattle.pdw_move.specs.declared.cost.Constants.{Constants}
use Rattle.pdw_parts.specs.Part.{chosen, is_inside}
use Rattle.pdw_plan.specs.Cost.{costs_in, flow_of}
use Rattle.pdw_plan_exists.proofs.Cheapest.{some-at}
use Rattle.pdw_sizes.proofs.MemoReads.{memo-means, memo-reads}
use Rattle.pdw_sizes.specs.Reading.{EachMeansTree, MeansTree, Reads, ReadsBlock, ReadsBy, ReadsFirst, ReadsOne, ReadsSet, ReadsTwo}
use Rattle.pdw_sizes.specs.Sizes.{size_of_meaning, size_with, sizes_in}
use Rattle.pdw_sizes.specs.declared.size.Size.{Size}
use Rattle.pdw_stats.specs.Book.{Book}

some-same : {X : Type 0} (a b : X) → Some a ≡ Some b → a ≡ b
some-same a b same = cc

exactly-same : (s t : Tree) → exactly s ≡ exactly t → s ≡ t
exactly-same s t same = cc

first-same : {X : Type 0} (a b : X) (xs ys : List X) → a ∷ xs ≡ b ∷ ys → a ≡ b
first-same a b xs ys same = cc

rest-same : {X : Type 0} (a b : X) (xs ys : List X) → a ∷ xs ≡ b ∷ ys → xs ≡ ys
rest-same a b xs ys same = cc

-- ---- where groups of smaller numbers mean the same by both

abbrev MeanSame : List Meaning → List Meaning → ℕ → Type 0
MeanSame some others number = (a b : Meaning) → slice_get some number ≡ Some a → slice_get others number ≡ Some b → a ≡ b

module _ (some others : List Meaning) (number : ℕ) (below : (child : ℕ) → child < number → MeanSame some others child) where
  tree-same : (child : GroupId) (s t : Tree) → MeansTree some number child s → MeansTree others number child t → s ≡ t
  tree-same child s t first second = exactly-same s t (below child.0 first.smaller (exactly s) (exactly t) first.means second.means)

  trees-same : (children : List GroupId) (ss ts : List Tree) → EachMeansTree some number children ss → EachMeansTree others number children ts → ss ≡ ts
  trees-same [] [] [] first second = refl
  trees-same [] [] (t ∷ ts) first second = absurd second
  trees-same [] (s ∷ ss) ts first second = absurd first
  trees-same (child ∷ children) [] ts first second = absurd first
  trees-same (child ∷ children) (s ∷ ss) [] first second = absurd second
  trees-same (child ∷ children) (s ∷ ss) (t ∷ ts) first second = ap₂ (λ (x : Tree) (xs : List Tree). x ∷ xs) (tree-same child s t first.0 second.0) (trees-same children ss ts first.1 second.1)

  one-same : (made : Tree → Meaning) (children : List GroupId) (a b : Meaning) → ReadsOne some number made a children → ReadsOne others number made b children → a ≡ b
  one-same made children a b first second =
      let child : first.child ≡ second.child = first-same first.child second.child [] [] (sym first.only ∙ second.only) in
      first.is ∙ ap made (tree-same second.child first.of second.of (subst (λ (c : GroupId). MeansTree some number c first.of) child first.reads) second.reads) ∙ sym second.is

  two-same : (made : Tree → Tree → Meaning) (children : List GroupId) (a b : Meaning) → ReadsTwo some number made a children → ReadsTwo others number made b children → a ≡ b
  two-same made children a b first second =
      let both = sym first.both ∙ second.both in
      let left : first.left ≡ second.left = first-same first.left second.left (first.right ∷ []) (second.right ∷ []) both in
      let right : first.right ≡ second.right = first-same first.right second.right [] [] (rest-same first.left second.left (first.right ∷ []) (second.right ∷ []) both) in
      first.is
      ∙ ap₂ made (tree-same second.left first.first second.first (subst (λ (c : GroupId). MeansTree some number c first.first) left first.reads_left) second.reads_left)
      (tree-same second.right first.second second.second (subst (λ (c : GroupId). MeansTree some number c first.second) right first.reads_right) second.reads_right)
      ∙ sym second.is

  by-operator : (operator : Op) (children : List GroupId) (a b : Meaning) → ReadsBy some number a operator children → ReadsBy others number b operator children → a ≡ b
  by-operator (op.Scan table alias cols hash replicated) children a b first second = first ∙ sym second
  by-operator (op.Filter conds) children a b first second = one-same (λ t. exactly (tree.Filter conds t)) children a b first second
  by-operator (op.Project items) children a b first second = one-same (λ t. exactly (tree.Project items t)) children a b first second
  by-operator (op.Join kind conds) children a b first second = two-same (λ l r. exactly (tree.Join kind conds l r)) children a b first second
  by-operator (op.GroupBy keys aggs) children a b first second = one-same (λ t. exactly (tree.GroupBy keys aggs t)) children a b first second
  by-operator (op.Partial keys aggs) children a b first second = one-same (λ t. partial_of keys aggs t) children a b first second
  by-operator (op.Final keys aggs) children a b first second = absurd first

  by-first : (exprs : List Expr) (a b : Meaning) → ReadsFirst some number a exprs → ReadsFirst others number b exprs → a ≡ b
  by-first exprs a b first second =
      let expr : first.first ≡ second.first = first-same first.first second.first first.rest second.rest (sym first.is ∙ second.is) in
      by-operator second.first.op second.first.children a b (subst (λ (e : Expr). ReadsBy some number a e.op e.children) expr first.reads) second.reads

  by-set : (part : BlockPart) (leaves : ℕ) (schema : Columns) (a b : Meaning) → ReadsSet some number part leaves schema a → ReadsSet others number part leaves schema b → a ≡ b
  by-set part leaves schema a b first second =
      first.is ∙ ap (λ (trees : List Tree). exactly (tree.Block trees (filter (is_inside schema) part.conds))) (trees-same (chosen (set_of leaves) part.leaves) first.trees second.trees first.each second.each) ∙ sym second.is

  by-block : (blocks : List BlockPart) (block leaves : ℕ) (schema : Columns) (a b : Meaning) → ReadsBlock some number blocks block leaves schema a → ReadsBlock others number blocks block leaves schema b → a ≡ b
  by-block blocks block leaves schema a b first second =
      let part : first.part ≡ second.part = some-same first.part second.part (sym first.there ∙ second.there) in
      by-set second.part leaves schema a b (subst (λ (p : BlockPart). ReadsSet some number p leaves schema a) part first.reads) second.reads

  reads-same : (blocks : List BlockPart) (k : GroupKey) (schema : Columns) (exprs : List Expr) (a b : Meaning) → Reads some number blocks k schema exprs a → Reads others number blocks k schema exprs b → a ≡ b
  reads-same blocks (key.Part block leaves) schema exprs a b first second = by-block blocks block leaves schema a b first second
  reads-same blocks (key.Whole operator) schema exprs a b first second = by-first exprs a b first second
  reads-same blocks (key.Partial operator) schema exprs a b first second = by-first exprs a b first second

-- ---- the groups of a memo

maps-same : {X Y : Type 0} (f g : X → Y) (xs ys : List X) → length xs ≡ length ys → ((place : ℕ) (x y : X) → slice_get xs place ≡ Some x → slice_get ys place ≡ Some y → f x ≡ g y) → map f xs ≡ map g ys
maps-same f g [] [] count same = refl
maps-same f g [] (y ∷ ys) count same = absurd (omega (arith, count))
maps-same f g (x ∷ xs) [] count same = absurd (omega (arith, count))
maps-same f g (x ∷ xs) (y ∷ ys) count same =
    ap₂ (λ a b. a ∷ b) (same 0 x y refl refl) (maps-same f g xs ys (omega (arith, count)) (λ place. same (suc place)))

module _ (contents : Contents) (one other : IsMemo contents) where
  abbrev first : List Meaning
  first = meanings_in contents one

  abbrev second : List Meaning
  second = meanings_in contents other

  same-below : (limit number : ℕ) → number < limit → MeanSame first second number
  same-below zero number small a b is there = absurd (omega arith)
  same-below (suc limit) number small a b is there =
      let count = memo-each contents one in
      let within = slice_get_within first number a is in
      let group = some-at contents.groups number (omega (arith, count, within)) in
      reads-same first second number (λ child less. same-below limit child (omega (arith, less, small))) contents.blocks group.0.key group.0.schema group.0.exprs a b
      (memo-reads contents one number group.0 a group.1 is).reads (memo-reads contents other number group.0 b group.1 there).reads

  module _ (book : Book) (n : ℕ) where
    size-same : (number : ℕ) (a b : Meaning) → slice_get first number ≡ Some a → slice_get second number ≡ Some b → size_of_meaning book n one.tables a ≡ size_of_meaning book n other.tables b
    size-same number a b is there =
        let count = memo-each contents one in
        let within = slice_get_within first number a is in
        let group = some-at contents.groups number (omega (arith, count, within)) in
        ap (λ (schema : Columns). size_with book n schema a) (sym (memo-reads contents one number group.0 a group.1 is).schema)
        ∙ ap (size_with book n group.0.schema) (same-below (suc number) number (omega arith) a b is there)
        ∙ ap (λ (schema : Columns). size_with book n schema b) (memo-reads contents other number group.0 b group.1 there).schema

    sizes-same : sizes_in contents one book n ≡ sizes_in contents other book n
    sizes-same = maps-same (size_of_meaning book n one.tables) (size_of_meaning book n other.tables) first second (memo-each contents one ∙ sym (memo-each contents other)) size-same

    pub costs-whatever : (constants : Constants) → costs_in contents one book n constants ≡ costs_in contents other book n constants
    costs-whatever constants = fun_ext (λ group. fun_ext (λ move. ap (λ (sizes : List Size). cost_of_move n constants move (flow_of (slice_get sizes group.0))) sizes-same))
