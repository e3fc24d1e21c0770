-- In every memo a block has as many joins as its level's formula says.
use Rattle.std.proofs.Common.{◌≡◌, ℕ, zero, suc, ◌+◌, ◌^◌, ◌<◌, ◌==◌, Bool, true, false, cond, List, [], ◌∷◌, ◌++◌, length, map, filter, Some, refl, sym, ap, ap₂, subst, ◌∙◌, arith, append-nil, eq-eqb, ne_eqb, if◌then◌else◌}
use Rattle.std.specs.List.{AllByRecursion, flat_map, slice_get}
use Rattle.std.proofs.lemmas.Grind.{flat_map-append}
use Rattle.std.proofs.lemmas.List.{length-append, map-append}
use Rattle.std.proofs.lemmas.Option.{slice_get_within}
use Rattle.pdw_algebra.proofs.TreeFolds.{Inductive, by_trees, fold-block, fold-filter, fold-group, fold-join, fold-project, fold-scan}
use Rattle.pdw_algebra.specs.declared.tree.Tree.{Tree}
use Rattle.pdw_base.specs.declared.schema.ColId.{ColId}
use Rattle.pdw_catalog.specs.Catalog.{Tables, table_named}
use Rattle.pdw_expr.specs.declared.agg.Agg.{Agg}
use Rattle.pdw_expr.specs.declared.cond.Cond.{Cond}
use Rattle.pdw_explore.proofs.SetJoins.{level-joins, set_joins}
use Rattle.pdw_explore.proofs.Totals.{total}
use Rattle.pdw_explore.specs.Levels.{level_count}
use Rattle.pdw_groups.proofs.PartOrder.{kept-suc}
use Rattle.pdw_groups.specs.Block.{BlockLeaf, block_groups, inside_leaf, join_of, second_group, second_groups, seconds, set_group}
use Rattle.pdw_groups.specs.Columns.{hash_in, replicated_in, useful_columns}
use Rattle.pdw_groups.specs.Group.{GroupOf, id_of, kept_expr, kept_group}
use Rattle.pdw_groups.specs.Level.{below, has_set, lefts}
use Rattle.pdw_groups.specs.Memo.{Contents, at_first}
use Rattle.pdw_groups.specs.Node.{Before, Node, block_leaves, block_node, blocks_in, groups_in_turn, grouping_groups, grouping_node, node_of, node_step, operator_node, own_block_groups, own_in_turn, own_part, parts_in_turn, passed, passed_all, whole_group}
use Rattle.pdw_groups.specs.declared.block.BlockPart.{BlockPart}
use Rattle.pdw_groups.specs.declared.block.Level.{Level}
use Rattle.pdw_groups.specs.declared.group.Expr.{Expr}
use Rattle.pdw_groups.specs.declared.op.Op.{Op}
use Rattle.pdw_groups.specs.declared.op.Op.TheVariants as op
use Rattle.pdw_memo.proofs.Counts.{sum-cons}
use Rattle.pdw_memo.specs.Memo.{IsMemo, is_join, join_count, joins_in}

module _ (useful : List ColId) (block : ℕ) where
  -- how many joins of the block these groups have
  abbrev joins : List GroupOf → ℕ
  joins groups = join_count block (map (kept_group useful) groups)

  joins-append : (xs ys : List GroupOf) → joins (xs ++ ys) ≡ joins xs + joins ys
  joins-append xs ys =
      ap (join_count block) (map-append (kept_group useful) xs ys)
      ∙ ap length (flat_map-append (joins_in block) (map (kept_group useful) xs) (map (kept_group useful) ys))
      ∙ length-append (flat_map (joins_in block) (map (kept_group useful) xs)) (flat_map (joins_in block) (map (kept_group useful) ys))

  -- ---- a block

  module _ (own : ℕ) (level : Level) (conds : List Cond) (leaves : List BlockLeaf) (first : ℕ) where
    second-none : (place : ℕ) (leaf : BlockLeaf) (some : List Cond) → joins (second_group own place leaf some) ≡ 0
    second-none place leaf [] = refl
    second-none place leaf (c ∷ rest) = by (own == block)
      where
        none : List Expr
        none = []

        by : (b : Bool) → length ((if b then none else []) ++ []) ≡ 0
        by true = refl
        by false = refl

    seconds-none : (place : ℕ) (leaves : List BlockLeaf) → joins (second_groups own conds place leaves) ≡ 0
    seconds-none place [] = refl
    seconds-none place (leaf ∷ leaves) =
        joins-append (second_group own place leaf (inside_leaf own conds leaf)) (second_groups own conds (suc place) leaves)
        ∙ ap₂ (λ a b. a + b) (second-none place leaf (inside_leaf own conds leaf)) (seconds-none (suc place) leaves)

    each-joins : (mask : ℕ) (some : List ℕ) → length (filter (λ (expr : Expr). is_join expr.op) (map kept_expr (map (join_of own level conds leaves first mask) some))) ≡ length some
    each-joins mask [] = refl
    each-joins mask (left ∷ some) = ap suc (each-joins mask some)

    set-joins : (mask : ℕ) → joins (set_group own level conds leaves first mask ∷ []) ≡ (if own == block then length (lefts level mask) else 0)
    set-joins mask =
        ap length (append-nil (if own == block then filter (λ (expr : Expr). is_join expr.op) (map kept_expr (set_group own level conds leaves first mask).exprs) else []))
        ∙ by (own == block)
      where
        by : (b : Bool) → length (if b then filter (λ (expr : Expr). is_join expr.op) (map kept_expr (set_group own level conds leaves first mask).exprs) else []) ≡ (if b then length (lefts level mask) else 0)
        by true = each-joins mask (lefts level mask)
        by false = refl

    sets-joins : (n : ℕ) → joins (map (set_group own level conds leaves first) (filter (has_set level) (below n))) ≡ (if own == block then total (set_joins level) n else 0)
    sets-joins zero = by (own == block)
      where
        nothing : ℕ
        nothing = 0

        by : (b : Bool) → nothing ≡ (if b then nothing else nothing)
        by true = refl
        by false = refl
    sets-joins (suc n) =
        ap joins (kept-suc (set_group own level conds leaves first) (has_set level) n)
        ∙ joins-append (map (set_group own level conds leaves first) (filter (has_set level) (below n))) (map (set_group own level conds leaves first) (filter (has_set level) (n ∷ [])))
        ∙ ap₂ (λ a b. a + b) (sets-joins n) (last (has_set level n))
        ∙ sum (own == block)
      where
        last : (b : Bool) → joins (map (set_group own level conds leaves first) (cond b (n ∷ []) [])) ≡ (if b then (if own == block then length (lefts level n) else 0) else 0)
        last true = set-joins n
        last false = refl

        sum : (b : Bool) → (if b then total (set_joins level) n else 0) + (if has_set level n then (if b then length (lefts level n) else 0) else 0) ≡ (if b then total (set_joins level) n + set_joins level n else 0)
        sum true = refl
        sum false = none (has_set level n)
          where
            none : (b : Bool) → 0 + (if b then 0 else 0) ≡ 0
            none true = refl
            none false = refl

    block-joins : joins (block_groups own level conds leaves first) ≡ (if own == block then level_count level (length leaves) else 0)
    block-joins =
        joins-append (seconds own level conds leaves first) (map (set_group own level conds leaves first) (filter (has_set level) (below (2 ^ length leaves))))
        ∙ ap₂ (λ a b. a + b) (seconds-none 0 leaves) (sets-joins (2 ^ length leaves))
        ∙ (let all : 0 + (if own == block then total (set_joins level) (2 ^ length leaves) else 0) ≡ (if own == block then total (set_joins level) (2 ^ length leaves) else 0) = omega arith in all)
        ∙ ap (λ n. if own == block then n else 0) (level-joins level (length leaves))

  -- ---- nodes

  -- the joins of the block, by the blocks, of which the first has this number
  abbrev counted : ℕ → List BlockPart → ℕ
  counted first [] = 0
  counted first (part ∷ parts) = (if first == block then level_count part.level (length part.leaves) else 0) + counted (suc first) parts

  counted-append : (first : ℕ) (xs ys : List BlockPart) → counted first (xs ++ ys) ≡ counted first xs + counted (first + length xs) ys
  counted-append first [] ys = let same : first ≡ first + 0 = omega arith in ap (λ n. counted n ys) same ∙ omega arith
  counted-append first (part ∷ xs) ys =
      let rest = counted-append (suc first) xs ys in
      let same : suc first + length xs ≡ first + suc (length xs) = omega arith in
      let moved = ap (λ n. counted n ys) same in
      omega (arith, rest, moved)

  record HasItsJoins (node : Node) : Type 0 where
    all : (before : Before) → joins (node.groups before) ≡ counted before.blocks (node.parts before)
    parts : (before : Before) → length (node.parts before) ≡ node.blocks

  record InTurn (nodes : List Node) : Type 0 where
    all : (before : Before) → joins (groups_in_turn nodes before) ≡ counted before.blocks (parts_in_turn nodes before)
    parts : (before : Before) → length (parts_in_turn nodes before) ≡ blocks_in nodes
    after : (before : Before) → (passed_all before nodes).blocks ≡ before.blocks + blocks_in nodes

  in-turn : (nodes : List Node) → AllByRecursion HasItsJoins nodes → InTurn nodes
  in-turn [] each = record { all = λ before. refl; parts = λ before. refl; after = λ before. omega arith }
  in-turn (node ∷ nodes) each =
      let rest = in-turn nodes each.1 in
      let sum = sum-cons node.blocks (map (λ (node : Node). node.blocks) nodes) in
      record {
        all = λ before.
            let later = passed before node in
            joins-append (node.groups before) (groups_in_turn nodes later)
            ∙ ap₂ (λ a b. a + b) (each.0.all before) (rest.all later)
            ∙ ap (λ n. counted before.blocks (node.parts before) + counted (before.blocks + n) (parts_in_turn nodes later)) (sym (each.0.parts before))
            ∙ sym (counted-append before.blocks (node.parts before) (parts_in_turn nodes later));
        parts = λ before. length-append (node.parts before) (parts_in_turn nodes (passed before node)) ∙ ap₂ (λ a b. a + b) (each.0.parts before) (rest.parts (passed before node)) ∙ sym sum;
        after = λ before. let more = rest.after (passed before node) in omega (arith, more, sum);
      }

  module _ (tables : Tables) (levels : ℕ → Level) where
    abbrev steps : Tree → Node
    steps = node_of tables levels

    operator-joins : (t : Tree) (operator : Op) (nodes : List Node) → AllByRecursion HasItsJoins nodes → HasItsJoins (operator_node tables levels t operator nodes)
    operator-joins t operator nodes each =
        let turn = in-turn nodes each in
        record {
          all = λ before.
              joins-append (groups_in_turn nodes before) (whole_group tables levels (passed_all before nodes).operators t (record { operator = operator; children = own_in_turn nodes before } ∷ []) ∷ [])
              ∙ (let rest = turn.all before in let all : joins (groups_in_turn nodes before) + 0 ≡ counted before.blocks (parts_in_turn nodes before) = omega (arith, rest) in all);
          parts = turn.parts;
        }

    grouping-joins : (keys : List ColId) (aggs : List Agg) (child : Node) → HasItsJoins child → HasItsJoins (grouping_node tables levels keys aggs child)
    grouping-joins keys aggs child has = record {
      all = λ before.
          joins-append (child.groups before) (grouping_groups tables levels keys aggs child before)
          ∙ (let rest = has.all before in let all : joins (child.groups before) + 0 ≡ counted before.blocks (child.parts before) = omega (arith, rest) in all);
      parts = has.parts;
    }

    leaf-count : (nodes : List Node) (before : Before) → length (block_leaves tables levels nodes before) ≡ length (map id_of (own_in_turn nodes before))
    leaf-count [] before = refl
    leaf-count (node ∷ nodes) before = ap suc (leaf-count nodes (passed before node))

    block-node-joins : (conds : List Cond) (nodes : List Node) → AllByRecursion HasItsJoins nodes → HasItsJoins (block_node tables levels conds nodes)
    block-node-joins conds nodes each =
        let turn = in-turn nodes each in
        record {
          all = λ before.
              let after = passed_all before nodes in
              let sides = block_leaves tables levels nodes before in
              let part = own_part tables levels conds nodes before in
              let number : after.blocks ≡ before.blocks + length (parts_in_turn nodes before) = turn.after before ∙ ap (λ n. before.blocks + n) (sym (turn.parts before)) in
              joins-append (groups_in_turn nodes before) (own_block_groups tables levels conds nodes before)
              ∙ ap₂ (λ a b. a + b) (turn.all before)
              (block-joins after.blocks (levels after.blocks) conds sides after.groups
              ∙ ap (λ n. if after.blocks == block then level_count (levels after.blocks) n else 0) (leaf-count nodes before)
              ∙ (let none : (if after.blocks == block then level_count part.level (length part.leaves) else 0) ≡ (if after.blocks == block then level_count part.level (length part.leaves) else 0) + 0 = omega arith in none)
              ∙ ap (λ n. (if n == block then level_count part.level (length part.leaves) else 0) + 0) number)
              ∙ sym (counted-append before.blocks (parts_in_turn nodes before) (part ∷ []));
          parts = λ before. length-append (parts_in_turn nodes before) (own_part tables levels conds nodes before ∷ []) ∙ ap (λ n. n + 1) (turn.parts before);
        }

    abbrev TreeHasJoins : Tree → Type 0
    TreeHasJoins t = HasItsJoins (steps t)

    each-leaf : (leaves : List Tree) → AllByRecursion TreeHasJoins leaves → AllByRecursion HasItsJoins (map steps leaves)
    each-leaf [] each = tt
    each-leaf (leaf ∷ leaves) each = (each.0, each-leaf leaves each.1)

    cases : Inductive TreeHasJoins
    cases = record {
      scan = λ table alias cols. subst HasItsJoins (sym (fold-scan (node_step tables levels) table alias cols))
          (operator-joins _ (op.Scan table alias cols (hash_in (table_named table tables) cols) (replicated_in (table_named table tables))) [] tt);
      filter = λ conds child has. subst HasItsJoins (sym (fold-filter (node_step tables levels) conds child)) (operator-joins _ _ (steps child ∷ []) (has, tt));
      project = λ items child has. subst HasItsJoins (sym (fold-project (node_step tables levels) items child)) (operator-joins _ _ (steps child ∷ []) (has, tt));
      block = λ leaves conds each. subst HasItsJoins (sym (fold-block (node_step tables levels) leaves conds)) (block-node-joins conds (map steps leaves) (each-leaf leaves each));
      join = λ kind conds left right first second.
          subst HasItsJoins (sym (fold-join (node_step tables levels) kind conds left right)) (operator-joins _ _ (steps left ∷ steps right ∷ []) (first, (second, tt)));
      group = λ keys aggs child has. subst HasItsJoins (sym (fold-group (node_step tables levels) keys aggs child)) (grouping-joins keys aggs (steps child) has);
    }

    tree-joins : (t : Tree) → TreeHasJoins t
    tree-joins = by_trees TreeHasJoins cases

  -- ---- one block among all

  later-none : (first : ℕ) (parts : List BlockPart) → block < first → counted first parts ≡ 0
  later-none first [] before = refl
  later-none first (part ∷ parts) before =
      let rest = later-none (suc first) parts (omega (arith, before)) in
      ap (λ (b : Bool). (if b then level_count part.level (length part.leaves) else 0) + counted (suc first) parts) (ne_eqb first block (λ same. omega (arith, same, before))) ∙ omega (arith, rest)

  counted-at : (first : ℕ) (parts : List BlockPart) (i : ℕ) (part : BlockPart) → block ≡ first + i → slice_get parts i ≡ Some part → counted first parts ≡ level_count part.level (length part.leaves)
  counted-at first [] i part number there = absurd (omega (arith, slice_get_within [] i part there))
  counted-at first (other ∷ parts) zero part number there =
      let rest = later-none (suc first) parts (omega (arith, number)) in
      let same : other ≡ part = cc in
      ap (λ (b : Bool). (if b then level_count other.level (length other.leaves) else 0) + counted (suc first) parts) (eq-eqb first block (omega (arith, number)))
      ∙ (let all : level_count other.level (length other.leaves) + counted (suc first) parts ≡ level_count other.level (length other.leaves) = omega (arith, rest) in all)
      ∙ ap (λ (p : BlockPart). level_count p.level (length p.leaves)) same
  counted-at first (other ∷ parts) (suc i) part number there =
      let rest = counted-at (suc first) parts i part (omega (arith, number)) there in
      ap (λ (b : Bool). (if b then level_count other.level (length other.leaves) else 0) + counted (suc first) parts) (ne_eqb first block (λ same. omega (arith, same, number))) ∙ omega (arith, rest)

pub memo-joins : (contents : Contents) → IsMemo contents → (block : ℕ) (part : BlockPart) → slice_get contents.blocks block ≡ Some part → join_count block contents.groups ≡ level_count part.level (length part.leaves)
memo-joins contents memo block part there =
    let useful = useful_columns memo.tables memo.tree in
    let node = node_of memo.tables memo.levels memo.tree in
    let same : block ≡ 0 + block = omega arith in
    ap (λ (c : Contents). join_count block c.groups) memo.is
    ∙ (tree-joins useful block memo.tables memo.levels memo.tree).all at_first
    ∙ counted-at useful block 0 (node.parts at_first) block part same (ap (λ (c : Contents). slice_get c.blocks block) (sym memo.is) ∙ there)
