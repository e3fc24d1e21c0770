-- What the groups of a tree mean is read from its memo.
use Rattle.std.proofs.Common.{◌≡◌, ◌≢◌, ℕ, zero, suc, ◌+◌, ◌≤◌, ◌<◌, List, [], ◌∷◌, ◌++◌, length, map, get_or, AllPairs, Some, refl, sym, ap, subst, ◌∙◌, arith, append_assoc, length-append}
use Rattle.std.specs.List.{AllByRecursion, slice_get}
use Rattle.std.proofs.lemmas.List.{length-map}
use Rattle.std.proofs.lemmas.Option.{slice_get-map, slice_get_within}
use Rattle.pdw_algebra.proofs.TreeFolds.{Inductive, by_trees, fold-block, fold-filter, fold-group, fold-join, fold-project, fold-scan}
use Rattle.pdw_algebra.proofs.WellFormedParts.{IsSound, Once, sound-block, sound-child, sound-filter, sound-join, sound-project, sound-tree}
use Rattle.pdw_algebra.specs.Shape.{Shape, shape_of, shape_step}
use Rattle.pdw_algebra.specs.WellFormed.{IsWellFormed}
use Rattle.pdw_algebra.specs.declared.tree.Tree.{Tree}
use Rattle.pdw_algebra.specs.declared.tree.Tree.TheVariants as tree
use Rattle.pdw_base.specs.declared.schema.ColId.{ColId}
use Rattle.pdw_catalog.specs.Catalog.{Tables, table_named}
use Rattle.pdw_expr.specs.declared.agg.Agg.{Agg}
use Rattle.pdw_expr.specs.declared.cond.Cond.{Cond}
use Rattle.pdw_groups.proofs.NodeOrder.{Ordered, tree-ordered}
use Rattle.pdw_groups.proofs.OrderLaws.{among-more, found}
use Rattle.pdw_groups.specs.Columns.{hash_in, replicated_in}
use Rattle.pdw_groups.specs.Group.{GroupOf, IsAmong, id_of}
use Rattle.pdw_groups.specs.Meaning.{Meaning, exactly}
use Rattle.pdw_groups.specs.Node.{Before, Node, block_leaves, block_node, groups_in_turn, grouping_groups, grouping_node, node_of, node_step, operator_node, own_block_groups, own_group, own_in_turn, own_part, parts_in_turn, passed, passed_all, whole_group}
use Rattle.pdw_groups.specs.declared.block.BlockPart.{BlockPart}
use Rattle.pdw_groups.specs.declared.block.Level.{Level}
use Rattle.pdw_groups.specs.declared.op.Op.{Op}
use Rattle.pdw_groups.specs.declared.op.Op.TheVariants as op
use Rattle.pdw_memo.proofs.Counts.{tree-counted}
use Rattle.pdw_memo.proofs.SoundParts.{few-leaves}
use Rattle.pdw_sizes.proofs.BlockReads.{GroupReads, IsRisen, block-reads, leaf_id, leaf_tree}
use Rattle.pdw_sizes.proofs.EachLaws.{Each, StandAt, each-append, each-left, each-right}
use Rattle.pdw_sizes.specs.Reading.{EachMeansTree, MeansTree, ReadsBy}

-- ---- sound trees are well-formed

once-at : (c : ColId) (others : List ColId) → AllByRecursion (λ other. c.0 ≢ other.0) others → (j : ℕ) (d : ColId) → j < length others → c.0 ≢ (get_or others j d).0
once-at c [] all j d less = absurd (omega (arith, less))
once-at c (other ∷ others) all zero d less = all.0
once-at c (other ∷ others) all (suc j) d less = once-at c others all.1 j d (omega (arith, less))

pairs-from : (made : List ColId) → Once made → AllPairs (λ a b. a.0 ≢ b.0) made
pairs-from [] once i j d before within = absurd (omega (arith, within))
pairs-from (c ∷ made) once zero zero d before within = absurd (omega (arith, before))
pairs-from (c ∷ made) once zero (suc j) d before within = once-at c made once.0 j d (omega (arith, within))
pairs-from (c ∷ made) once (suc i) zero d before within = absurd (omega (arith, before))
pairs-from (c ∷ made) once (suc i) (suc j) d before within = pairs-from made once.1 i j d (omega (arith, before)) (omega (arith, within))

well-formed : (tables : Tables) (t : Tree) → IsSound (shape_of tables t) → IsWellFormed tables t
well-formed tables t sound = record { nodes = sound.nodes; made = pairs-from (shape_of tables t).made sound.once }

regroup : {X : Type 0} (a b c d : List X) → (a ++ (b ++ c)) ++ d ≡ (a ++ b) ++ (c ++ d)
regroup a b c d = simp append_assoc

abbrev node_tree : Node → Tree
node_tree node = node.tree

module _ (tables : Tables) (all : List GroupOf) (blocks : List BlockPart) where
  abbrev by_number : List Meaning
  by_number = map (λ group. group.means) all

  -- after these groups and parts the groups of a node read what they mean
  abbrev Reading : Node → Type 0
  Reading node = (earlier later : List GroupOf) (before : Before) → before.groups ≡ length earlier → all ≡ (earlier ++ node.groups before) ++ later
      → StandAt blocks before.blocks (node.parts before) → Each (GroupReads tables by_number blocks) before.groups (node.groups before)

  record Known (node : Node) : Type 0 where
    ordered : Ordered node
    parts : (before : Before) → length (node.parts before) ≡ node.blocks
    reads : Reading node

  -- the own group of a node means its tree
  own-means : (node : Node) → Ordered node → (earlier later : List GroupOf) (before : Before) → before.groups ≡ length earlier → all ≡ (earlier ++ node.groups before) ++ later
      → (limit : ℕ) → (passed before node).groups ≤ limit → MeansTree by_number limit (id_of (own_group before node)) node.tree
  own-means node ordered earlier later before number is limit le =
      let own = (ordered earlier before number).own in
      let here = earlier ++ node.groups before in
      let at = found (λ (g : GroupOf). g.means) (slice_get here (own_group before node).number) (exactly node.tree) own in
      let within = slice_get_within here (own_group before node).number at.0 at.1 in
      let count = length-append earlier (node.groups before) in
      record {
        smaller = omega (arith, within, count, number, le);
        means = slice_get-map (λ (g : GroupOf). g.means) all (own_group before node).number
            ∙ subst (λ (groups : List GroupOf). IsAmong groups (own_group before node)) (sym is) (among-more here later (own_group before node) own);
      }

  record Turn (nodes : List Node) (before : Before) : Type 0 where
    reads : Each (GroupReads tables by_number blocks) before.groups (groups_in_turn nodes before)
    own : (limit : ℕ) → (passed_all before nodes).groups ≤ limit → EachMeansTree by_number limit (map id_of (own_in_turn nodes before)) (map node_tree nodes)
    groups : (passed_all before nodes).groups ≡ before.groups + length (groups_in_turn nodes before)
    parts : (passed_all before nodes).blocks ≡ before.blocks + length (parts_in_turn nodes before)

  turn : (nodes : List Node) → AllByRecursion Known nodes → (earlier later : List GroupOf) (before : Before) → before.groups ≡ length earlier → all ≡ (earlier ++ groups_in_turn nodes before) ++ later
      → StandAt blocks before.blocks (parts_in_turn nodes before) → Turn nodes before
  turn [] known earlier later before number is stand = record { reads = tt; own = λ limit le. tt; groups = omega arith; parts = omega arith }
  turn (node ∷ nodes) known earlier later before number is stand =
      let next = passed before node in
      let groups = node.groups before in
      let rest_groups = groups_in_turn nodes next in
      let rest_parts = parts_in_turn nodes next in
      let first_is : all ≡ (earlier ++ groups) ++ (rest_groups ++ later) = is ∙ regroup earlier groups rest_groups later in
      let rest_is : all ≡ ((earlier ++ groups) ++ rest_groups) ++ later = is ∙ ap (λ l. l ++ later) (sym (append_assoc earlier groups rest_groups)) in
      let count = length-append earlier groups in
      let parts = known.0.parts before in
      let same : before.blocks + length (node.parts before) ≡ next.blocks = ap (λ n. before.blocks + n) parts in
      let rest = turn nodes known.1 (earlier ++ groups) later next (omega (arith, count, number)) rest_is
      (subst (λ n. StandAt blocks n rest_parts) same (each-right (λ n x. slice_get blocks n ≡ Some x) before.blocks (node.parts before) rest_parts stand)) in
      let all_groups : length (groups ++ rest_groups) ≡ length groups + length rest_groups = length-append groups rest_groups in
      let all_parts : length (node.parts before ++ rest_parts) ≡ length (node.parts before) + length rest_parts = length-append (node.parts before) rest_parts in
      let more = rest.groups in
      let more_parts = rest.parts in
      record {
        reads = each-append (GroupReads tables by_number blocks) before.groups groups rest_groups
            (known.0.reads earlier (rest_groups ++ later) before number first_is (each-left (λ n x. slice_get blocks n ≡ Some x) before.blocks (node.parts before) rest_parts stand)) rest.reads;
        own = λ limit le. (own-means node known.0.ordered earlier (rest_groups ++ later) before number first_is limit (omega (arith, more, le)), rest.own limit le);
        groups = omega (arith, more, all_groups);
        parts = omega (arith, more_parts, all_parts, parts);
      }

  module _ (levels : ℕ → Level) where
    -- ---- operators

    operator-reads : (t : Tree) (operator : Op) (nodes : List Node) → AllByRecursion Known nodes
        → ((number : ℕ) (before : Before) → EachMeansTree by_number number (map id_of (own_in_turn nodes before)) (map node_tree nodes) → ReadsBy by_number number (exactly t) operator (map id_of (own_in_turn nodes before)))
        → Reading (operator_node tables levels t operator nodes)
    operator-reads t operator nodes known reads earlier later before number is stand =
        let groups = groups_in_turn nodes before in
        let last = whole_group tables levels (passed_all before nodes).operators t (record { operator = operator; children = own_in_turn nodes before } ∷ []) in
        let turned = turn nodes known earlier (last ∷ [] ++ later) before number (is ∙ regroup earlier groups (last ∷ []) later) stand in
        let count = turned.groups in
        each-append (GroupReads tables by_number blocks) before.groups groups (last ∷ []) turned.reads
        (record { reads = record { first = _; rest = []; is = refl; reads = reads (before.groups + length groups) before (turned.own (before.groups + length groups) (omega (arith, count))) }; schema = refl }, tt)

    -- ---- groupings

    grouping-reads : (keys : List ColId) (aggs : List Agg) (child : Node) → Known child → Reading (grouping_node tables levels keys aggs child)
    grouping-reads keys aggs child known earlier later before number is stand =
        let groups = child.groups before in
        let own = grouping_groups tables levels keys aggs child before in
        let child_is = is ∙ regroup earlier groups own later in
        let means = λ (limit : ℕ) (le : (passed before child).groups ≤ limit). own-means child known.ordered earlier (own ++ later) before number child_is limit le in
        each-append (GroupReads tables by_number blocks) before.groups groups own (known.reads earlier (own ++ later) before number child_is stand) (
          record { reads = record { first = _; rest = []; is = refl; reads = record { child = _; of = child.tree; only = refl; reads = means (before.groups + length groups) (omega arith); is = refl } }; schema = refl },
          (
            record { reads = record { first = _; rest = _; is = refl; reads = record { child = _; of = child.tree; only = refl; reads = means (suc (before.groups + length groups)) (omega arith); is = refl } }; schema = refl },
            tt,
          ),
        )

    -- ---- blocks

    leaves-ids : (nodes : List Node) (before : Before) → map id_of (own_in_turn nodes before) ≡ map leaf_id (block_leaves tables levels nodes before)
    leaves-ids [] before = refl
    leaves-ids (node ∷ nodes) before = ap (λ ids. id_of (own_group before node) ∷ ids) (leaves-ids nodes (passed before node))

    leaves-trees : (nodes : List Node) (before : Before) → map node_tree nodes ≡ map leaf_tree (block_leaves tables levels nodes before)
    leaves-trees [] before = refl
    leaves-trees (node ∷ nodes) before = ap (λ trees. node.tree ∷ trees) (leaves-trees nodes (passed before node))

    own-count : (nodes : List Node) (before : Before) → length (own_in_turn nodes before) ≡ length nodes
    own-count [] before = refl
    own-count (node ∷ nodes) before = ap suc (own-count nodes (passed before node))

    leaves-risen : (nodes : List Node) (before : Before) → AllByRecursion (IsRisen tables) (block_leaves tables levels nodes before)
    leaves-risen [] before = tt
    leaves-risen (node ∷ nodes) before = (refl, leaves-risen nodes (passed before node))

    block-node-reads : (conds : List Cond) (nodes : List Node) → AllByRecursion Known nodes → length nodes ≤ 10 → Reading (block_node tables levels conds nodes)
    block-node-reads conds nodes known few earlier later before number is stand =
        let groups = groups_in_turn nodes before in
        let parts = parts_in_turn nodes before in
        let after = passed_all before nodes in
        let leaves = block_leaves tables levels nodes before in
        let part = own_part tables levels conds nodes before in
        let own = own_block_groups tables levels conds nodes before in
        let stands = λ (n : ℕ) (x : BlockPart). slice_get blocks n ≡ Some x in
        let turned = turn nodes known earlier (own ++ later) before number (is ∙ regroup earlier groups own later) (each-left stands before.blocks parts (part ∷ []) stand) in
        let there : slice_get blocks after.blocks ≡ Some part = subst (λ n. slice_get blocks n ≡ Some part) (sym turned.parts) (each-right stands before.blocks parts (part ∷ []) stand).0 in
        let count = length-map (own_in_turn nodes before) id_of in
        let counted = own-count nodes before in
        let fits : length part.leaves ≤ 10 = omega (arith, few, count, counted) in
        each-append (GroupReads tables by_number blocks) before.groups groups own turned.reads
        (subst (λ n. Each (GroupReads tables by_number blocks) n own) turned.groups
        (block-reads tables by_number blocks after.blocks part there fits after.groups (levels after.blocks) leaves (leaves-ids nodes before)
        (λ limit le. subst (λ trees. EachMeansTree by_number limit (map leaf_id leaves) trees) (leaves-trees nodes before)
        (subst (λ ids. EachMeansTree by_number limit ids (map node_tree nodes)) (leaves-ids nodes before) (turned.own limit le))) (leaves-risen nodes before)))

    -- ---- any tree

    abbrev steps : Tree → Node
    steps = node_of tables levels

    abbrev TreeReads : Tree → Type 0
    TreeReads t = IsSound (shape_of tables t) → Reading (steps t)

    known : (t : Tree) → TreeReads t → IsSound (shape_of tables t) → Known (steps t)
    known t reads sound = record {
      ordered = tree-ordered tables levels t (well-formed tables t sound);
      parts = (tree-counted tables levels t sound.nodes).parts;
      reads = reads sound;
    }

    leaves-known : (leaves : List Tree) → AllByRecursion TreeReads leaves → AllByRecursion IsSound (map (shape_of tables) leaves) → AllByRecursion Known (map steps leaves)
    leaves-known [] reads sound = tt
    leaves-known (leaf ∷ leaves) reads sound = (known leaf reads.0 sound.0, leaves-known leaves reads.1 sound.1)

    from_layer : (t : Tree) (node : Node) (shape : Shape) → steps t ≡ node → shape_of tables t ≡ shape → (IsSound shape → Reading node) → TreeReads t
    from_layer t node shape is_node is_shape holds sound = subst Reading (sym is_node) (holds (subst IsSound is_shape sound))

    cases : Inductive TreeReads
    cases = record {
      scan = λ table alias cols.
          from_layer (tree.Scan table alias cols) _ _ (fold-scan (node_step tables levels) table alias cols) (fold-scan (shape_step tables) table alias cols)
          (λ sound.
          operator-reads (tree.Scan table alias cols) (op.Scan table alias cols (hash_in (table_named table tables) cols) (replicated_in (table_named table tables))) [] tt
          (λ number before each. refl));
      filter = λ conds child holds.
          from_layer (tree.Filter conds child) _ _ (fold-filter (node_step tables levels) conds child) (fold-filter (shape_step tables) conds child)
          (λ sound.
          operator-reads (tree.Filter conds (steps child).tree) (op.Filter conds) (steps child ∷ [])
          (known child holds (sound-filter (shape_of tables child) _ (shape_of tables child).made _ sound), tt)
          (λ number before each. record { child = _; of = _; only = refl; reads = each.0; is = refl }));
      project = λ items child holds.
          from_layer (tree.Project items child) _ _ (fold-project (node_step tables levels) items child) (fold-project (shape_step tables) items child)
          (λ sound.
          operator-reads (tree.Project items (steps child).tree) (op.Project items) (steps child ∷ [])
          (known child holds (sound-project items (shape_of tables child) sound), tt)
          (λ number before each. record { child = _; of = _; only = refl; reads = each.0; is = refl }));
      block = λ leaves conds reads.
          from_layer (tree.Block leaves conds) _ _ (fold-block (node_step tables levels) leaves conds) (fold-block (shape_step tables) leaves conds)
          (λ sound.
          let parts = sound-block (map (shape_of tables) leaves) conds sound in
          let few = few-leaves (length (map (shape_of tables) leaves)) conds parts.fits in
          let first = length-map leaves steps in
          let second = length-map leaves (shape_of tables) in
          block-node-reads conds (map steps leaves) (leaves-known leaves reads parts.each) (omega (arith, few, first, second)));
      join = λ kind conds left right first second.
          from_layer (tree.Join kind conds left right) _ _ (fold-join (node_step tables levels) kind conds left right) (fold-join (shape_step tables) kind conds left right)
          (λ sound.
          let both = sound-join kind conds (shape_of tables left) (shape_of tables right) sound in
          operator-reads (tree.Join kind conds (steps left).tree (steps right).tree) (op.Join kind conds) (steps left ∷ steps right ∷ [])
          (known left first both.0, (known right second both.1, tt))
          (λ number before each. record { left = _; right = _; first = _; second = _; both = refl; reads_left = each.0; reads_right = each.1.0; is = refl }));
      group = λ keys aggs child holds.
          from_layer (tree.GroupBy keys aggs child) _ _ (fold-group (node_step tables levels) keys aggs child) (fold-group (shape_step tables) keys aggs child)
          (λ sound. grouping-reads keys aggs (steps child) (known child holds (sound-child keys aggs (shape_of tables child) sound)));
    }

    pub tree-reads : (t : Tree) → IsWellFormed tables t → Reading (steps t)
    tree-reads t well = by_trees TreeReads cases t (sound-tree tables t well)
