-- The written memo of a tree becomes its memo at the levels.
use Rattle.std.proofs.Common.{◌≡◌, ℕ, suc, ◌+◌, ◌<◌, ◌≤◌, true, List, [], ◌∷◌, ◌++◌, length, map, Some, refl, sym, ap, ap₂, subst, ◌∙◌, arith, append_assoc, append-nil, length-append}
use Rattle.std.specs.List.{AllByRecursion, flat_map, slice_get}
use Rattle.std.proofs.lemmas.Option.{slice_get_within}
use Rattle.std.proofs.lemmas.List.{length-map}
use Rattle.std.proofs.lemmas.List.Folds.{flat_map-map}
use Rattle.pdw_algebra.proofs.TreeFolds.{Inductive, by_trees, fold-block, fold-filter, fold-group, fold-join, fold-project, fold-scan}
use Rattle.pdw_algebra.proofs.WellFormedParts.{IsSound, sound-block, sound-child, sound-filter, sound-join, sound-project, sound-tree}
use Rattle.pdw_algebra.specs.Schema.{rising}
use Rattle.pdw_algebra.specs.Shape.{Shape, columns_of, leaves_fit, shape_of, shape_step}
use Rattle.pdw_algebra.specs.WellFormed.{IsWellFormed}
use Rattle.pdw_algebra.specs.declared.tree.Tree.{Tree}
use Rattle.pdw_algebra.specs.declared.tree.Tree.TheVariants as tree
use Rattle.pdw_base.specs.declared.schema.ColId.{ColId}
use Rattle.pdw_catalog.specs.Catalog.{Tables}
use Rattle.pdw_expr.specs.declared.cond.Cond.{Cond}
use Rattle.pdw_explore.proofs.BlockGrows.{LeavesReady, OwnGoes, own-goes}
use Rattle.pdw_explore.proofs.GrowLaws.{Finds, Holds, IsMoved, Moved, after, finds-more, goes-append, holds-left, holds-right, kept, moved-append, moved-more}
use Rattle.pdw_explore.proofs.InTurn.{GoesNode, GrowAll, Grows, HasSchema, InTurn, Starts, all-blocks, all-count, all-operators, all-trees, at_levels, blocks-passed, in-turn, most}
use Rattle.pdw_explore.proofs.OperatorGrows.{Ends, ends-append, grouping-grows, node-from, operator-grows}
use Rattle.pdw_explore.proofs.RoomLaws.{few-fit, own-count}
use Rattle.pdw_explore.proofs.SchemaLaws.{rising-all}
use Rattle.pdw_explore.proofs.SetGrows.{SameLeaves, leaf_id}
use Rattle.pdw_explore.specs.Grown.{after_leaves}
use Rattle.pdw_explore.specs.declared.grown.Grown.{Grown}
use Rattle.pdw_groups.proofs.BlockWhole.{AllInside, some-leaf}
use Rattle.pdw_groups.proofs.NodeOrder.{block-inside}
use Rattle.pdw_groups.proofs.OrderLaws.{found}
use Rattle.pdw_groups.specs.Block.{BlockLeaf, block_groups}
use Rattle.pdw_groups.specs.Group.{GroupOf, id_of, kept_group}
use Rattle.pdw_groups.specs.Memo.{all_written}
use Rattle.pdw_groups.specs.Node.{Before, Node, block_leaves, block_node, groups_in_turn, node_of, node_step, own_block_groups, own_in_turn, own_part, parts_in_turn, passed, passed_all, schema_of_tree}
use Rattle.pdw_groups.specs.Sets.{side_of}
use Rattle.pdw_groups.specs.declared.block.BlockPart.{BlockPart}
use Rattle.pdw_groups.specs.declared.block.Level.{Level}
use Rattle.pdw_groups.specs.declared.group.Group.{Group}
use Rattle.pdw_groups.specs.declared.key.GroupId.{GroupId}

-- a leaf's group is there
each-there : (groups : List Group) (leaves : List BlockLeaf) → AllByRecursion (λ leaf. HasSchema groups leaf.number leaf.columns) leaves → AllByRecursion (λ id. id.0 < length groups) (map leaf_id leaves)
each-there groups [] all = tt
each-there groups (leaf ∷ leaves) all =
    let at = found (λ (g : Group). g.schema) (slice_get groups leaf.number) leaf.columns all.0 in
    (slice_get_within groups leaf.number at.0 at.1, each-there groups leaves all.1)

module _ (tables : Tables) (blocks : List BlockPart) (levels : List Level) (useful : List ColId) where
  abbrev l : ℕ → Level
  l = at_levels tables blocks levels useful

  -- ---- the leaves of a block

  same-leaves : (numbers : List GroupId) (olds news : List Node) → GrowAll tables blocks levels useful olds news → (bo bn : Before) → Finds numbers (map id_of (own_in_turn olds bo)) (map id_of (own_in_turn news bn))
      → SameLeaves numbers (block_leaves tables all_written olds bo) (block_leaves tables l news bn)
  same-leaves numbers [] [] all bo bn finds = tt
  same-leaves numbers [] (new ∷ news) all bo bn finds = absurd all
  same-leaves numbers (old ∷ olds) [] all bo bn finds = absurd all
  same-leaves numbers (old ∷ olds) (new ∷ news) all bo bn finds =
      (record { found = finds.0; columns = ap (schema_of_tree tables l) all.0.tree }, same-leaves numbers olds news all.1 (passed bo old) (passed bn new) finds.1)

  leaf-ids : (nodes : List Node) (before : Before) → map id_of (own_in_turn nodes before) ≡ map leaf_id (block_leaves tables l nodes before)
  leaf-ids [] before = refl
  leaf-ids (node ∷ nodes) before = ap₂ (λ x xs. x ∷ xs) refl (leaf-ids nodes (passed before node))

  leaves-count : (nodes : List Node) (before : Before) → length (block_leaves tables l nodes before) ≡ length nodes
  leaves-count [] before = refl
  leaves-count (node ∷ nodes) before = ap suc (leaves-count nodes (passed before node))

  leaves-schemas : (nodes : List Node) (before : Before) → map (λ (leaf : BlockLeaf). leaf.columns) (block_leaves tables l nodes before) ≡ map rising (map (columns_of tables) (map (λ (node : Node). node.tree) nodes))
  leaves-schemas [] before = refl
  leaves-schemas (node ∷ nodes) before = ap₂ (λ x xs. x ∷ xs) refl (leaves-schemas nodes (passed before node))

  block-columns : (trees : List Tree) (conds : List Cond) → columns_of tables (tree.Block trees conds) ≡ flat_map (λ columns. columns) (map (columns_of tables) trees)
  block-columns trees conds =
      ap (λ (shape : Shape). shape.columns) (fold-block (shape_step tables) trees conds)
      ∙ flat_map-map (λ (shape : Shape). shape.columns) (shape_of tables) trees
      ∙ sym (flat_map-map (λ columns. columns) (columns_of tables) trees)

  -- the schema of a block is that of its leaves' schemas
  block-schema : (nodes : List Node) (conds : List Cond) (before : Before)
      → rising (flat_map (λ columns. columns) (map (λ (leaf : BlockLeaf). leaf.columns) (block_leaves tables l nodes before))) ≡ schema_of_tree tables l (tree.Block (map (λ (node : Node). node.tree) nodes) conds)
  block-schema nodes conds before =
      ap (λ all. rising (flat_map (λ columns. columns) all)) (leaves-schemas nodes before)
      ∙ rising-all (map (columns_of tables) (map (λ (node : Node). node.tree) nodes))
      ∙ ap rising (sym (block-columns (map (λ (node : Node). node.tree) nodes) conds))

  risen : (nodes : List Node) (before : Before) → AllByRecursion (λ leaf. rising (leaf.columns ++ []) ≡ leaf.columns) (block_leaves tables l nodes before)
  risen [] before = tt
  risen (node ∷ nodes) before =
      (rising-all (columns_of tables node.tree ∷ []) ∙ ap rising (append-nil (columns_of tables node.tree)), risen nodes (passed before node))

  -- ---- blocks

  module _ (each_level : length levels ≡ length blocks) where
    follows : (olds news : List Node) (bo bn : Before) (grown : Grown) → 1 ≤ length news → InTurn tables blocks levels useful olds news bo bn grown
        → after_leaves (map side_of (block_leaves tables l news bn)) ≡ (passed_all bn news).groups
    follows olds [] bo bn grown some turn = absurd (omega (arith, some))
    follows olds (new ∷ news) bo bn grown some turn = turn.following bn.groups refl

    module _ (conds : List Cond) (olds news : List Node) (all : GrowAll tables blocks levels useful olds news)
        (inside : (bn : Before) → AllInside (map (λ (leaf : BlockLeaf). leaf.columns) (block_leaves tables l news bn)) conds) (fits : leaves_fit (length news) conds ≡ true) where
      abbrev old_node : Node
      old_node = block_node tables all_written conds olds

      abbrev new_node : Node
      new_node = block_node tables l conds news

      module _ (bo bn : Before) (grown : Grown) (starts : Starts bo bn grown) (holds : Holds blocks bo.blocks (old_node.parts bo)) (room : bn.groups + length (new_node.groups bn) < most) where
        abbrev block : ℕ
        block = (passed_all bo olds).blocks

        abbrev new_block : ℕ
        new_block = (passed_all bn news).blocks

        abbrev olds_leaves : List BlockLeaf
        olds_leaves = block_leaves tables all_written olds bo

        abbrev news_leaves : List BlockLeaf
        news_leaves = block_leaves tables l news bn

        abbrev old_part : BlockPart
        old_part = own_part tables all_written conds olds bo

        abbrev new_part : BlockPart
        new_part = own_part tables l conds news bn

        abbrev old_groups : List GroupOf
        old_groups = own_block_groups tables all_written conds olds bo

        abbrev new_groups : List GroupOf
        new_groups = own_block_groups tables l conds news bn

        room-turn : bn.groups + length (groups_in_turn news bn) < most
        room-turn = let sum = length-append (groups_in_turn news bn) new_groups in omega (arith, sum, room)

        turned : InTurn tables blocks levels useful olds news bo bn grown
        turned = in-turn tables blocks levels useful olds news all bo bn grown starts (holds-left blocks bo.blocks (parts_in_turn olds bo) (old_part ∷ []) holds) room-turn

        place : bo.blocks + length (parts_in_turn olds bo) ≡ block
        place =
            let count = all-count tables blocks levels useful olds news all bo in
            let passes = blocks-passed tables blocks levels useful olds bo in
            omega (arith, count, passes)

        part-there : slice_get blocks block ≡ Some old_part
        part-there = subst (λ n. slice_get blocks n ≡ Some old_part) place (holds-right blocks bo.blocks (parts_in_turn olds bo) (old_part ∷ []) holds).0

        module _ (turn : InTurn tables blocks levels useful olds news bo bn grown) where
          abbrev next : Grown
          next = after blocks levels useful grown (groups_in_turn news bn) turn.added

          few-leaves : length old_part.leaves ≤ 10
          few-leaves =
              let count = own-count tables all_written olds bo in
              let trees = ap length (all-trees tables blocks levels useful olds news all) in
              let old = length-map olds (λ (node : Node). node.tree) in
              let new = length-map news (λ (node : Node). node.tree) in
              let few = few-fit (length news) conds fits in
              omega (arith, count, trees, old, new, few)

          counted : length old_part.leaves ≡ length news_leaves
          counted =
              let count = own-count tables all_written olds bo in
              let trees = ap length (all-trees tables blocks levels useful olds news all) in
              let old = length-map olds (λ (node : Node). node.tree) in
              let new = length-map news (λ (node : Node). node.tree) in
              let leaves = leaves-count news bn in
              omega (arith, count, trees, old, new, leaves)

          passes : length next.groups ≡ bn.groups + length (groups_in_turn news bn)
          passes =
              let count = length-append grown.groups (kept blocks levels useful (groups_in_turn news bn)) in
              let kept_length = length-map (groups_in_turn news bn) (kept_group useful) in
              omega (arith, count, kept_length, starts.new)

          room-total : length next.groups + length new_groups < most
          room-total =
              let sum = length-append (groups_in_turn news bn) new_groups in
              let here = passes in
              omega (arith, sum, room, here)

          leaves-ready : LeavesReady tables blocks levels useful next block old_part conds olds_leaves news_leaves (passed_all bn news).groups
          leaves-ready =
              let total = room-total in
              let count = leaves-count news bn in
              record {
                same = same-leaves next.numbers olds news all bo bn turn.own;
                ready = record {
                  at = part-there;
                  few = few-leaves;
                  finds = subst (Finds next.numbers (map id_of (own_in_turn olds bo))) (leaf-ids news bn) turn.own;
                  there = each-there next.groups news_leaves turn.schemas;
                  room = omega (arith, total);
                };
                conds_same = refl;
                schemas_at = turn.schemas;
                following = follows olds news bo bn grown (some-leaf (length news) conds fits) turn;
                starts = sym turn.starts.new;
                inside = inside bn;
                fits = ap (λ n. leaves_fit n conds) count ∙ fits;
                risen = risen news bn;
                counted = counted;
              }

          same-block : block ≡ new_block
          same-block = turn.starts.blocks

          own-made : OwnGoes tables blocks levels useful next old_groups new_groups (rising (flat_map (λ columns. columns) (map (λ (leaf : BlockLeaf). leaf.columns) news_leaves)))
          own-made =
              subst (λ n. OwnGoes tables blocks levels useful next old_groups (block_groups n (l n) conds news_leaves (passed_all bn news).groups) (rising (flat_map (λ columns. columns) (map (λ (leaf : BlockLeaf). leaf.columns) news_leaves)))) same-block
              (own-goes tables blocks levels useful each_level block old_part conds (passed_all bo olds).groups (passed_all bn news).groups next olds_leaves news_leaves leaves-ready
              (subst (λ n. length next.groups + length (block_groups n (l n) conds news_leaves (passed_all bn news).groups) < most) (sym same-block) room-total))

          module _ (own : OwnGoes tables blocks levels useful next old_groups new_groups (rising (flat_map (λ columns. columns) (map (λ (leaf : BlockLeaf). leaf.columns) news_leaves)))) where
            numbers : (grown.numbers ++ turn.added) ++ own.added ≡ grown.numbers ++ (turn.added ++ own.added)
            numbers = append_assoc grown.numbers turn.added own.added

            part-moved : IsMoved blocks levels ((grown.numbers ++ turn.added) ++ own.added) (bo.blocks + length (parts_in_turn olds bo)) old_part new_part
            part-moved = record {
              leaves = finds-more (grown.numbers ++ turn.added) own.added (map id_of (own_in_turn olds bo)) (map id_of (own_in_turn news bn)) turn.own;
              conds = refl;
              level = ap l (sym same-block ∙ sym place);
            }

            all-moved : Moved blocks levels (grown.numbers ++ (turn.added ++ own.added)) bo.blocks (old_node.parts bo) (new_node.parts bn)
            all-moved =
                subst (λ ns. Moved blocks levels ns bo.blocks (old_node.parts bo) (new_node.parts bn)) numbers
                (moved-append blocks levels ((grown.numbers ++ turn.added) ++ own.added) bo.blocks (parts_in_turn olds bo) (parts_in_turn news bn) (old_part ∷ []) (new_part ∷ [])
                (moved-more blocks levels (grown.numbers ++ turn.added) own.added bo.blocks (parts_in_turn olds bo) (parts_in_turn news bn) turn.moved)
                (part-moved, tt))

            block-made : GoesNode tables blocks levels useful old_node new_node bo bn grown
            block-made =
                node-from tables blocks levels useful old_node new_node bo bn grown starts (turn.added ++ own.added)
                (goes-append blocks levels useful grown (groups_in_turn olds bo) old_groups (groups_in_turn news bn) new_groups turn.added own.added turn.goes own.goes)
                (subst (Ends tables blocks levels useful grown (old_node.groups bo) (new_node.groups bn) (turn.added ++ own.added)) (block-schema news conds bn)
                (ends-append tables blocks levels useful grown (groups_in_turn olds bo) old_groups (groups_in_turn news bn) new_groups turn.added own.added _ turn.goes.each own.ends))
                all-moved
                (let sum = length-append (groups_in_turn news bn) new_groups in omega (arith, sum, own.some))

        block-goes : GoesNode tables blocks levels useful old_node new_node bo bn grown
        block-goes = block-made turned (own-made turned)

      pub block-grows : Grows tables blocks levels useful old_node new_node
      block-grows = record {
        tree = ap (λ trees. tree.Block trees conds) (all-trees tables blocks levels useful olds news all);
        blocks_same = ap (λ n. n + 1) (all-blocks tables blocks levels useful olds news all);
        operators = all-operators tables blocks levels useful olds news all;
        count = λ before.
            length-append (parts_in_turn olds before) (own_part tables all_written conds olds before ∷ [])
            ∙ ap (λ n. n + 1) (all-count tables blocks levels useful olds news all before);
        node = block-goes;
      }

    -- ---- any tree

    abbrev old_steps : Tree → Node
    old_steps = node_of tables all_written

    abbrev steps : Tree → Node
    steps = node_of tables l

    abbrev TreeGrows : Tree → Type 0
    TreeGrows t = IsSound (shape_of tables t) → Grows tables blocks levels useful (old_steps t) (steps t)

    from_layer : (t : Tree) (old new : Node) (shape : Shape) → old_steps t ≡ old → steps t ≡ new → shape_of tables t ≡ shape → (IsSound shape → Grows tables blocks levels useful old new) → TreeGrows t
    from_layer t old new shape is_old is_new is_shape holds sound =
        subst (λ o. Grows tables blocks levels useful o (steps t)) (sym is_old) (subst (Grows tables blocks levels useful old) (sym is_new) (holds (subst IsSound is_shape sound)))

    leaves-grow : (leaves : List Tree) → AllByRecursion TreeGrows leaves → AllByRecursion IsSound (map (shape_of tables) leaves) → GrowAll tables blocks levels useful (map old_steps leaves) (map steps leaves)
    leaves-grow [] all sound = tt
    leaves-grow (leaf ∷ leaves) all sound = (all.0 sound.0, leaves-grow leaves all.1 sound.1)

    cases : Inductive TreeGrows
    cases = record {
      scan = λ table alias cols.
          from_layer (tree.Scan table alias cols) _ _ _ (fold-scan (node_step tables all_written) table alias cols) (fold-scan (node_step tables l) table alias cols) (fold-scan (shape_step tables) table alias cols)
          (λ sound. operator-grows tables blocks levels useful _ _ _ [] [] refl tt);
      filter = λ conds child holds.
          from_layer (tree.Filter conds child) _ _ _ (fold-filter (node_step tables all_written) conds child) (fold-filter (node_step tables l) conds child) (fold-filter (shape_step tables) conds child)
          (λ sound.
          let grows = holds (sound-filter (shape_of tables child) _ (shape_of tables child).made _ sound) in
          operator-grows tables blocks levels useful _ _ _ (old_steps child ∷ []) (steps child ∷ []) (ap (tree.Filter conds) grows.tree) (grows, tt));
      project = λ items child holds.
          from_layer (tree.Project items child) _ _ _ (fold-project (node_step tables all_written) items child) (fold-project (node_step tables l) items child) (fold-project (shape_step tables) items child)
          (λ sound.
          let grows = holds (sound-project items (shape_of tables child) sound) in
          operator-grows tables blocks levels useful _ _ _ (old_steps child ∷ []) (steps child ∷ []) (ap (tree.Project items) grows.tree) (grows, tt));
      block = λ leaves conds all.
          from_layer (tree.Block leaves conds) _ _ _ (fold-block (node_step tables all_written) leaves conds) (fold-block (node_step tables l) leaves conds) (fold-block (shape_step tables) leaves conds)
          (λ sound.
          let parts = sound-block (map (shape_of tables) leaves) conds sound in
          block-grows conds (map old_steps leaves) (map steps leaves) (leaves-grow leaves all parts.each)
          (λ bn. block-inside tables l leaves conds bn parts)
          (ap (λ n. leaves_fit n conds) (length-map leaves steps ∙ sym (length-map leaves (shape_of tables))) ∙ parts.fits));
      join = λ kind conds left right first second.
          from_layer (tree.Join kind conds left right) _ _ _ (fold-join (node_step tables all_written) kind conds left right) (fold-join (node_step tables l) kind conds left right) (fold-join (shape_step tables) kind conds left right)
          (λ sound.
          let both = sound-join kind conds (shape_of tables left) (shape_of tables right) sound in
          let one = first both.0 in
          let two = second both.1 in
          operator-grows tables blocks levels useful _ _ _ (old_steps left ∷ old_steps right ∷ []) (steps left ∷ steps right ∷ []) (ap₂ (tree.Join kind conds) one.tree two.tree) (one, (two, tt)));
      group = λ keys aggs child holds.
          from_layer (tree.GroupBy keys aggs child) _ _ _ (fold-group (node_step tables all_written) keys aggs child) (fold-group (node_step tables l) keys aggs child) (fold-group (shape_step tables) keys aggs child)
          (λ sound. grouping-grows tables blocks levels useful keys aggs (old_steps child) (steps child) (holds (sound-child keys aggs (shape_of tables child) sound)));
    }

    pub tree-grows : (t : Tree) → IsWellFormed tables t → Grows tables blocks levels useful (old_steps t) (steps t)
    tree-grows t well = by_trees TreeGrows cases t (sound-tree tables t well)
