-- In a tree whose nodes are well-formed there are more scans than joins, and no more blocks than leaves.
use Rattle.std.proofs.Common.{◌≡◌, ℕ, ◌+◌, ◌≤◌, leb, true, List, [], ◌∷◌, length, map, sym, ap, subst, ◌∙◌, arith}
use Rattle.std.specs.List.{AllByRecursion, list_all}
use Rattle.std.proofs.lemmas.Bool.{and_parts, leb-true}
use Rattle.std.proofs.lemmas.List.{length-map}
use Rattle.std.proofs.lemmas.List.Sums.{sum_by-cons}
use Rattle.pdw_algebra.specs.Shape.{Shape, leaves_fit, shape_of, shape_step}
use Rattle.pdw_algebra.specs.declared.tree.Tree.TheFolds.{fold-roll-Tree, ind-Tree, map-Tree}
use Rattle.pdw_algebra.specs.declared.tree.Tree.TheOpen.{Tree-F}
use Rattle.pdw_algebra.specs.declared.tree.Tree.TheViews.{roll-Tree}
use Rattle.pdw_algebra.specs.declared.tree.Tree.{Tree}
use Rattle.pdw_bind.specs.Nodes.{Nodes, all_nodes, nodes, nodes_step}
use Rattle.pdw_catalog.specs.Catalog.{Tables}
use Rattle.pdw_expr.specs.declared.cond.Cond.{Cond}

pub record FewJoins (n : Nodes) : Type 0 where
  pub joins : n.joins + 1 ≤ n.scans
  pub blocks : n.blocks ≤ n.leaves

few_of : (all : List Nodes) → AllByRecursion FewJoins all → ((all_nodes all).joins + length all ≤ (all_nodes all).scans) × ((all_nodes all).blocks ≤ (all_nodes all).leaves)
few_of [] each = (omega arith, omega arith)
few_of (n ∷ all) each =
    let rest = few_of all each.1 in
    let few = rest.0 in
    let fewer = rest.1 in
    let here = (each.0).joins in
    let fit = (each.0).blocks in
    let joins = sum_by-cons (λ (n : Nodes). n.joins) n all in
    let scans = sum_by-cons (λ (n : Nodes). n.scans) n all in
    let blocks = sum_by-cons (λ (n : Nodes). n.blocks) n all in
    let leaves = sum_by-cons (λ (n : Nodes). n.leaves) n all in
    (omega (arith, few, here, joins, scans), omega (arith, fewer, fit, blocks, leaves))

some_leaves : (count : ℕ) (conds : List Cond) → leaves_fit count conds ≡ true → 1 ≤ count
some_leaves count conds holds = leb-true 1 count (and_parts (leb 1 count) _ holds).0

module _ (tables : Tables) where
  abbrev Law : Tree → Type 0
  Law t = (shape_of tables t).sound ≡ true → FewJoins (nodes t)

  abbrev Known : Type 0
  Known = (t : Tree) × Law t

  abbrev known : Tree-F Known → Tree-F Tree
  known = map-Tree Known Tree (λ t. t.0)

  abbrev known_leaves : List Known → List Tree
  known_leaves leaves = map (λ (t : Known). t.0) leaves

  -- leaves that are all sound
  leaves_law : (leaves : List Known) → list_all (λ (leaf : Shape). leaf.sound) (map (shape_of tables) (known_leaves leaves)) ≡ true → AllByRecursion FewJoins (map nodes (known_leaves leaves))
  leaves_law [] sound = tt
  leaves_law (leaf ∷ leaves) sound = let both = and_parts _ _ sound in (leaf.1 both.0, leaves_law leaves both.1)

  -- ---- one layer

  layer : (y : Tree-F Known) → (shape_step tables (map-Tree Tree Shape (shape_of tables) (known y))).sound ≡ true → FewJoins (nodes_step (map-Tree Tree Nodes nodes (known y)))
  layer (Tree-F.Scan table alias cols) sound = record { joins = omega arith; blocks = omega arith }
  layer (Tree-F.Filter conds child) sound = let below = child.1 (and_parts _ _ sound).0 in record { joins = below.joins; blocks = below.blocks }
  layer (Tree-F.Project items child) sound = let below = child.1 (and_parts _ _ sound).0 in record { joins = below.joins; blocks = below.blocks }
  layer (Tree-F.Block leaves conds) sound =
      let both = and_parts _ _ sound in
      let fit = some_leaves (length (map (shape_of tables) (known_leaves leaves))) conds (and_parts (leaves_fit (length (map (shape_of tables) (known_leaves leaves))) conds) _ both.1).0 in
      let shapes = length-map (known_leaves leaves) (shape_of tables) in
      let counts = length-map (known_leaves leaves) nodes in
      let all = few_of (map nodes (known_leaves leaves)) (leaves_law leaves both.0) in
      let few = all.0 in
      let fewer = all.1 in
      record { joins = omega (arith, fit, shapes, counts, few); blocks = omega (arith, fit, shapes, counts, fewer) }
  layer (Tree-F.Join kind conds left right) sound =
      let sides = and_parts _ _ (and_parts _ _ sound).0 in
      let one = left.1 sides.0 in
      let other = right.1 sides.1 in
      record {
        joins = let h = one.joins in let k = other.joins in omega (arith, h, k);
        blocks = let h = one.blocks in let k = other.blocks in omega (arith, h, k);
      }
  layer (Tree-F.GroupBy keys aggs child) sound = let below = child.1 (and_parts _ _ sound).0 in record { joins = below.joins; blocks = below.blocks }

  tree_law : (x : Tree-F Tree) (y : Tree-F Known) → known y ≡ x → Law (roll-Tree x)
  tree_law x y is = subst (λ z. Law (roll-Tree z)) is (λ sound.
      subst FewJoins (sym (fold-roll-Tree Nodes nodes_step (known y)))
      (layer y (ap (λ (shape : Shape). shape.sound) (sym (fold-roll-Tree Shape (shape_step tables) (known y))) ∙ sound)))

  pub few_joins : (t : Tree) → (shape_of tables t).sound ≡ true → FewJoins (nodes t)
  few_joins = ind-Tree Law tree_law
