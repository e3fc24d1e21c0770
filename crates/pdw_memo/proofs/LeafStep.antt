-- One more leaf of a block.
use Rattle.std.proofs.Common.{◌≡◌, ℕ, zero, suc, ◌+◌, ◌<◌, ◌≤◌, true, List, [], ◌∷◌, ◌++◌, length, map, fold, sum, drop, get_or, refl, sym, ap, ap₂, subst, ◌∙◌, arith, append_assoc}
use Rattle.std.specs.List.{list_all}
use Rattle.std.proofs.lemmas.Bool.{and_parts}
use Rattle.pdw_algebra.specs.Schema.{rising}
use Rattle.pdw_algebra.specs.Shape.{Shape, columns_of, shape_of}
use Rattle.pdw_algebra.specs.declared.tree.Tree.{Tree}
use Rattle.pdw_base.proofs.Steps.{drop-one_more}
use Rattle.pdw_base.specs.declared.schema.ColId.{ColId}
use Rattle.pdw_catalog.specs.Catalog.{Tables}
use Rattle.pdw_groups.specs.Memo.{all_written}
use Rattle.pdw_groups.specs.Node.{Before, block_leaves, own_group, passed}
use Rattle.pdw_groups.specs.Sets.{side_of}
use Rattle.pdw_groups.specs.declared.sets.Side.{Side}
use Rattle.pdw_memo.proofs.Built.{last-own, made-after, room-after, room-less, same-tree, some-after}
use Rattle.pdw_memo.proofs.Counts.{Counted, sum-cons, tree-counted}
use Rattle.pdw_memo.specs.Building.{HasRoom, last, made_before, schema_of_tree, sides_of, with_node, with_tree, written}
use Rattle.pdw_memo.specs.Memo.{node_count}
use Rattle.pdw_memo.specs.declared.building.Building.{Building}

module _ (tables : Tables) (leaves : List Tree) (i : ℕ) (leaf : Tree) (within : i < length leaves) (item : leaf ≡ get_or leaves i leaf) (building : Building) where
  abbrev rest : List Tree
  rest = drop (i + 1) leaves

  dropped : drop i leaves ≡ leaf ∷ rest
  dropped = drop-one_more leaves i leaf within item

  -- ---- before the leaf

  abbrev AllSound : List Tree → Type 0
  AllSound trees = list_all (λ (shape : Shape). shape.sound) (map (shape_of tables) trees) ≡ true

  sound-both : AllSound (drop i leaves) → ((shape_of tables leaf).sound ≡ true) × AllSound rest
  sound-both sound = and_parts (shape_of tables leaf).sound (list_all (λ (shape : Shape). shape.sound) (map (shape_of tables) rest)) (subst AllSound dropped sound)

  pub sound-leaf : AllSound (drop i leaves) → (shape_of tables leaf).sound ≡ true
  sound-leaf sound = (sound-both sound).0

  pub sound-rest : AllSound (drop i leaves) → AllSound rest
  sound-rest sound = (sound-both sound).1

  room-both : HasRoom building (sum (map node_count (drop i leaves))) → HasRoom building (node_count leaf + sum (map node_count rest))
  room-both room = subst (HasRoom building) (ap (λ trees. sum (map node_count trees)) dropped ∙ sum-cons (node_count leaf) (map node_count rest)) room

  pub room-leaf : HasRoom building (sum (map node_count (drop i leaves))) → HasRoom building (node_count leaf)
  room-leaf room = room-less building (node_count leaf) (node_count leaf + sum (map node_count rest)) (omega arith) (room-both room)

  pub leaf-less : node_count leaf ≤ sum (map node_count leaves)
  leaf-less =
      let here = ap (λ trees. sum (map node_count trees)) dropped ∙ sum-cons (node_count leaf) (map node_count rest) in
      let all = drop-sum leaves i in
      omega (arith, here, all)
    where
      drop-sum : (trees : List Tree) (i : ℕ) → sum (map node_count (drop i trees)) ≤ sum (map node_count trees)
      drop-sum [] zero = let same : sum (map node_count (drop zero [])) ≡ sum (map node_count []) = refl in omega (arith, same)
      drop-sum [] (suc i) = let same : sum (map node_count (drop (suc i) [])) ≡ sum (map node_count []) = refl in omega (arith, same)
      drop-sum (t ∷ trees) zero = let same : sum (map node_count (drop zero (t ∷ trees))) ≡ sum (map node_count (t ∷ trees)) = refl in omega (arith, same)
      drop-sum (t ∷ trees) (suc i) =
          let same : sum (map node_count (drop (suc i) (t ∷ trees))) ≡ sum (map node_count (drop i trees)) = refl in
          let more = drop-sum trees i in
          let all : sum (map node_count (t ∷ trees)) ≡ node_count t + sum (map node_count trees) = sum-cons (node_count t) (map node_count trees) in
          omega (arith, same, more, all)

  -- ---- after the leaf

  module _ (useful : List ColId) (sound : AllSound (drop i leaves)) (next : Building) (added : next ≡ with_tree tables useful building leaf) where
    abbrev before : Before
    before = made_before building

    counted : Counted (written tables leaf) (node_count leaf)
    counted = tree-counted tables all_written leaf (sound-leaf sound)

    pub some-next : 0 < length next.groups
    some-next = subst (λ (b : Building). 0 < length b.groups) (sym added) (some-after useful building (written tables leaf) (node_count leaf) counted)

    pub room-next : HasRoom building (sum (map node_count (drop i leaves))) → HasRoom next (sum (map node_count rest))
    room-next room =
        subst (λ b. HasRoom b (sum (map node_count rest))) (sym added)
        (room-after useful building (written tables leaf) (node_count leaf) counted (sum (map node_count rest)) (room-both room))

    pub room-none : HasRoom building (sum (map node_count (drop i leaves))) → HasRoom next 0
    room-none room = room-less next 0 (sum (map node_count rest)) (omega arith) (room-next room)

    pub nodes-next : (all : Building) → fold (with_node useful) building (map (written tables) (drop i leaves)) ≡ all → fold (with_node useful) next (map (written tables) rest) ≡ all
    nodes-next all had =
        ap (λ b. fold (with_node useful) b (map (written tables) rest)) added
        ∙ ap (λ trees. fold (with_node useful) building (map (written tables) trees)) (sym dropped) ∙ had

    side-next : (side : Side) → side ≡ record { group = last next; schema = schema_of_tree tables leaf }
        → side ∷ sides_of tables next rest ≡ sides_of tables building (leaf ∷ rest)
    side-next side is =
        ap (λ s. s ∷ sides_of tables next rest) is
        ∙ ap (λ b. record { group = last b; schema = schema_of_tree tables leaf } ∷ sides_of tables b rest) added
        ∙ ap₂ (λ own b. record { group = own; schema = schema_of_tree tables leaf } ∷ map side_of (block_leaves tables all_written (map (written tables) rest) b))
        (last-own useful building (written tables leaf) (node_count leaf) counted) (made-after useful building (written tables leaf) (node_count leaf) counted)
        ∙ ap (λ t. record { group = record { 0 = (own_group before (written tables leaf)).number }; schema = rising (columns_of tables t) } ∷ map side_of (block_leaves tables all_written (map (written tables) rest) (passed before (written tables leaf)))) (sym (same-tree tables leaf))

    pub sides-next : (side : Side) (sides more all : List Side) → side ≡ record { group = last next; schema = schema_of_tree tables leaf }
        → sides ++ sides_of tables building (drop i leaves) ≡ all → more ≡ sides ++ side ∷ [] → more ++ sides_of tables next rest ≡ all
    sides-next side sides more all is had pushed =
        ap (λ s. s ++ sides_of tables next rest) pushed
        ∙ append_assoc sides (side ∷ []) (sides_of tables next rest)
        ∙ ap (λ s. sides ++ s) (side-next side is ∙ ap (sides_of tables building) (sym dropped))
        ∙ had
