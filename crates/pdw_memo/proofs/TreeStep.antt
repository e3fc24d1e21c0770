-- What a tree's children leave for its own groups, and what these make of the whole.
use Rattle.std.proofs.Common.{◌≡◌, ℕ, suc, ◌+◌, ◌^◌, ◌<◌, ◌≤◌, true, List, [], ◌∷◌, length, map, fold, sum, Option, sym, ap, ap₂, subst, ◌∙◌, arith}
use Rattle.std.specs.List.{list_all}
use Rattle.std.proofs.lemmas.List.{length-map}
use Rattle.pdw_algebra.proofs.TreeFolds.{fold-block, fold-filter, fold-group, fold-join, fold-project}
use Rattle.pdw_algebra.specs.Shape.{Shape, shape_of}
use Rattle.pdw_algebra.specs.declared.tree.Tree.{Tree}
use Rattle.pdw_algebra.specs.declared.tree.Tree.TheVariants as tree
use Rattle.pdw_base.specs.declared.schema.ColId.{ColId}
use Rattle.pdw_catalog.specs.Catalog.{Tables}
use Rattle.pdw_expr.specs.declared.agg.Agg.{Agg}
use Rattle.pdw_expr.specs.declared.agg.JoinKind.{JoinKind}
use Rattle.pdw_expr.specs.declared.cond.Cond.{Cond}
use Rattle.pdw_expr.specs.declared.scalar.Scalar.{Scalar}
use Rattle.pdw_groups.specs.Memo.{all_written}
use Rattle.pdw_groups.specs.Node.{block_leaves}
use Rattle.pdw_groups.specs.Sets.{side_of}
use Rattle.pdw_groups.specs.declared.key.GroupId.{GroupId}
use Rattle.pdw_groups.specs.declared.op.Op.TheVariants as op
use Rattle.pdw_groups.specs.declared.sets.Side.{Side}
use Rattle.pdw_memo.proofs.Built.{all-built, filter-built, group-built, join-built, project-built, room-after, room-in_turn, room-less, some-after}
use Rattle.pdw_memo.proofs.Counts.{Counted, leaf-count, leaves-counted, tree-counted}
use Rattle.pdw_memo.proofs.SoundParts.{block-parts, few-leaves, filter-child, group-child, join-children, project-child}
use Rattle.pdw_memo.specs.Building.{HasRoom, last, made_before, schema_of_tree, sides_of, with_block, with_grouping, with_node, with_operator, with_tree, written}
use Rattle.pdw_memo.specs.Memo.{count_step, node_count}
use Rattle.pdw_memo.specs.declared.building.Building.{Building}

module _ (tables : Tables) where
  abbrev Sound : Tree → Type 0
  Sound t = (shape_of tables t).sound ≡ true

  counted : (t : Tree) → Sound t → Counted (written tables t) (node_count t)
  counted t sound = tree-counted tables all_written t sound

  -- ---- trees with one child

  pub record HasChild (t child : Tree) : Type 0 where
    pub sound : (shape_of tables child).sound ≡ true
    pub count : node_count t ≡ suc (node_count child)

  pub filter-has : (t : Tree) (conds : List Cond) (child : Tree) → t ≡ tree.Filter conds child → Sound t → HasChild t child
  filter-has t conds child is sound = record {
    sound = filter-child tables conds child (subst Sound is sound);
    count = ap node_count is ∙ fold-filter count_step conds child;
  }

  pub project-has : (t : Tree) (items : List (ColId × Option Scalar)) (child : Tree) → t ≡ tree.Project items child → Sound t → HasChild t child
  project-has t items child is sound = record {
    sound = project-child tables items child (subst Sound is sound);
    count = ap node_count is ∙ fold-project count_step items child;
  }

  pub group-has : (t : Tree) (keys : List ColId) (aggs : List Agg) (child : Tree) → t ≡ tree.GroupBy keys aggs child → Sound t → HasChild t child
  group-has t keys aggs child is sound = record {
    sound = group-child tables keys aggs child (subst Sound is sound);
    count = ap node_count is ∙ fold-group count_step keys aggs child;
  }

  -- what a recursion to a part of a tree needs
  pub record IsPart (start : Building) (t part : Tree) : Type 0 where
    pub less : node_count part < node_count t
    pub sound : (shape_of tables part).sound ≡ true
    pub room : HasRoom start (node_count part)

  pub child-part : (start : Building) (t child passed : Tree) → HasChild t child → passed ≡ child → HasRoom start (node_count t) → IsPart start t passed
  child-part start t child passed has same room =
      let count = has.count in
      let equal = ap node_count same in
      record {
        less = omega (arith, count, equal);
        sound = subst Sound (sym same) has.sound;
        room = room-less start (node_count passed) (node_count t) (omega (arith, count, equal)) room;
      }

  module _ (useful : List ColId) (start : Building) where
    -- the child's own group is there, and there is room for one node more
    pub record HasAdded (now : Building) : Type 0 where
      pub some : 0 < length now.groups
      pub room : HasRoom now 1

    added-tree : (child passed : Tree) (now : Building) (more : ℕ) → passed ≡ child → Sound child → now ≡ with_tree tables useful start passed → HasRoom start (node_count child + more)
        → (0 < length now.groups) × HasRoom now more
    added-tree child passed now more same sound is room =
        let from : now ≡ with_tree tables useful start child = is ∙ ap (with_tree tables useful start) same in (
          subst (λ (b : Building). 0 < length b.groups) (sym from) (some-after useful start (written tables child) (node_count child) (counted child sound)),
          subst (λ b. HasRoom b more) (sym from) (room-after useful start (written tables child) (node_count child) (counted child sound) more room),
        )

    pub after-child : (t child passed : Tree) (now : Building) → HasChild t child → passed ≡ child → now ≡ with_tree tables useful start passed → HasRoom start (node_count t) → HasAdded now
    after-child t child passed now has same is room =
        let count = has.count in
        let all = added-tree child passed now 1 same has.sound is (room-less start (node_count child + 1) (node_count t) (omega (arith, count)) room) in
        record { some = all.0; room = all.1 }

    pub filter-made : (t : Tree) (conds given : List Cond) (child passed : Tree) (now made : Building) → t ≡ tree.Filter conds child → Sound t → given ≡ conds → passed ≡ child → now ≡ with_tree tables useful start passed
        → made ≡ with_operator useful (schema_of_tree tables t) (record { op = op.Filter given; children = last now ∷ [] } ∷ []) now → made ≡ with_tree tables useful start t
    filter-made t conds given child passed now made is sound same_conds same from added =
        added
        ∙ ap₂ (λ some b. with_operator useful (schema_of_tree tables t) (record { op = op.Filter some; children = last b ∷ [] } ∷ []) b) same_conds (from ∙ ap (with_tree tables useful start) same)
        ∙ ap (λ s. with_operator useful (schema_of_tree tables s) (record { op = op.Filter conds; children = last (with_tree tables useful start child) ∷ [] } ∷ []) (with_tree tables useful start child)) is
        ∙ filter-built tables useful start conds child (node_count child) (counted child (filter-has t conds child is sound).sound)
        ∙ ap (with_tree tables useful start) (sym is)

    pub project-made : (t : Tree) (items given : List (ColId × Option Scalar)) (child passed : Tree) (now made : Building) → t ≡ tree.Project items child → Sound t → given ≡ items → passed ≡ child → now ≡ with_tree tables useful start passed
        → made ≡ with_operator useful (schema_of_tree tables t) (record { op = op.Project given; children = last now ∷ [] } ∷ []) now → made ≡ with_tree tables useful start t
    project-made t items given child passed now made is sound same_items same from added =
        added
        ∙ ap₂ (λ some b. with_operator useful (schema_of_tree tables t) (record { op = op.Project some; children = last b ∷ [] } ∷ []) b) same_items (from ∙ ap (with_tree tables useful start) same)
        ∙ ap (λ s. with_operator useful (schema_of_tree tables s) (record { op = op.Project items; children = last (with_tree tables useful start child) ∷ [] } ∷ []) (with_tree tables useful start child)) is
        ∙ project-built tables useful start items child (node_count child) (counted child (project-has t items child is sound).sound)
        ∙ ap (with_tree tables useful start) (sym is)

    pub group-made : (t : Tree) (keys given_keys : List ColId) (aggs given_aggs : List Agg) (child passed : Tree) (now made : Building) → t ≡ tree.GroupBy keys aggs child → Sound t
        → given_keys ≡ keys → given_aggs ≡ aggs → passed ≡ child → now ≡ with_tree tables useful start passed
        → made ≡ with_grouping tables useful t given_keys given_aggs passed now → made ≡ with_tree tables useful start t
    group-made t keys given_keys aggs given_aggs child passed now made is sound same_keys same_aggs same from added =
        added
        ∙ (λ i. with_grouping tables useful (is i) (same_keys i) (same_aggs i) (same i) ((from ∙ ap (with_tree tables useful start) same) i))
        ∙ group-built tables useful start keys aggs child (node_count child) (counted child (group-has t keys aggs child is sound).sound)
        ∙ ap (with_tree tables useful start) (sym is)

    -- ---- joins

    module _ (t : Tree) (kind : JoinKind) (conds : List Cond) (left right : Tree) (is : t ≡ tree.Join kind conds left right) (sound : Sound t) where
      both : Sound left × Sound right
      both = join-children tables kind conds left right (subst Sound is sound)

      count : node_count t ≡ suc (node_count left + node_count right)
      count = ap node_count is ∙ fold-join count_step kind conds left right

      pub left-part : (passed : Tree) → passed ≡ left → HasRoom start (node_count t) → IsPart start t passed
      left-part passed same room =
          let all = count in
          let equal = ap node_count same in
          record {
            less = omega (arith, all, equal);
            sound = subst Sound (sym same) both.0;
            room = room-less start (node_count passed) (node_count t) (omega (arith, all, equal)) room;
          }

      module _ (passed : Tree) (first : Building) (same : passed ≡ left) (from : first ≡ with_tree tables useful start passed) (room : HasRoom start (node_count t)) where
        after : (0 < length first.groups) × HasRoom first (node_count right + 1)
        after = added-tree left passed first (node_count right + 1) same both.0 from (room-less start (node_count left + (node_count right + 1)) (node_count t) (let all = count in omega (arith, all)) room)

        pub left-some : 0 < length first.groups
        left-some = after.0

        pub left-few : length first.groups < 2 ^ 32
        left-few = let some = after.1.groups in omega (arith, some)

        pub right-part : (other : Tree) → other ≡ right → IsPart first t other
        right-part other is_right =
            let all = count in
            let equal = ap node_count is_right in
            record {
              less = omega (arith, all, equal);
              sound = subst Sound (sym is_right) both.1;
              room = room-less first (node_count other) (node_count right + 1) (omega (arith, equal)) after.1;
            }

        right-added : (other : Tree) (second : Building) → other ≡ right → second ≡ with_tree tables useful first other → (0 < length second.groups) × HasRoom second 1
        right-added other second is_right then =
            let here : first ≡ with_tree tables useful start left = from ∙ ap (with_tree tables useful start) same in
            let from_right : second ≡ with_tree tables useful first right = then ∙ ap (with_tree tables useful first) is_right in (
              subst (λ (b : Building). 0 < length b.groups) (sym from_right) (some-after useful first (written tables right) (node_count right) (counted right both.1)),
              subst (λ b. HasRoom b 1) (sym from_right) (room-after useful first (written tables right) (node_count right) (counted right both.1) 1 after.1),
            )

        pub after-right : (other : Tree) (second : Building) → other ≡ right → second ≡ with_tree tables useful first other → (0 < length second.groups) × HasRoom second 1
        after-right = right-added

        pub join-made : (given : List Cond) (own : GroupId) (other : Tree) (second made : Building) → given ≡ conds → own ≡ last first → other ≡ right → second ≡ with_tree tables useful first other
            → made ≡ with_operator useful (schema_of_tree tables t) (record { op = op.Join kind given; children = own ∷ last second ∷ [] } ∷ []) second → made ≡ with_tree tables useful start t
        join-made given own other second made same_conds is_own is_right then added =
            let here : first ≡ with_tree tables useful start left = from ∙ ap (with_tree tables useful start) same in
            added
            ∙ ap₂ (λ some c. with_operator useful (schema_of_tree tables t) (record { op = op.Join kind some; children = c ∷ last second ∷ [] } ∷ []) second) same_conds is_own
            ∙ ap (λ b. with_operator useful (schema_of_tree tables t) (record { op = op.Join kind conds; children = last first ∷ last b ∷ [] } ∷ []) b) (then ∙ ap (with_tree tables useful first) is_right)
            ∙ ap₂ (λ s b. with_operator useful (schema_of_tree tables s) (record { op = op.Join kind conds; children = last b ∷ last (with_tree tables useful b right) ∷ [] } ∷ []) (with_tree tables useful b right)) is here
            ∙ join-built tables useful start kind conds left right (node_count left) (node_count right) (counted left both.0) (counted right both.1)
            ∙ ap (with_tree tables useful start) (sym is)

    -- ---- blocks

    module _ (t : Tree) (leaves : List Tree) (conds : List Cond) (is : t ≡ tree.Block leaves conds) (sound : Sound t) where
      block-sound : Sound (tree.Block leaves conds)
      block-sound = subst Sound is sound

      total : node_count t ≡ suc (sum (map node_count leaves))
      total = ap node_count is ∙ fold-block count_step leaves conds

      -- what the recursion to the leaves needs
      pub leaves-less : (passed : List Tree) → passed ≡ leaves → sum (map node_count passed) < node_count t
      leaves-less passed same = let all = total in let equal = ap (λ trees. sum (map node_count trees)) same in omega (arith, all, equal)

      pub leaves-sound : (passed : List Tree) → passed ≡ leaves → list_all (λ leaf. leaf.sound) (map (shape_of tables) passed) ≡ true
      leaves-sound passed same = ap (λ trees. list_all (λ (leaf : Shape). leaf.sound) (map (shape_of tables) trees)) same ∙ (block-parts tables leaves conds block-sound).0

      pub leaves-room : (passed : List Tree) → passed ≡ leaves → HasRoom start (node_count t) → HasRoom start (sum (map node_count passed))
      leaves-room passed same room = room-less start (sum (map node_count passed)) (node_count t) (let less = leaves-less passed same in omega (arith, less)) room

      pub few-sides : (sides : List Side) (passed : List Tree) → passed ≡ leaves → sides ≡ sides_of tables start passed → length sides ≤ 10
      few-sides sides passed same from =
          let fits = few-leaves (length leaves) conds (block-parts tables leaves conds block-sound).1 in
          let count : length (sides_of tables start leaves) ≡ length leaves = side-count leaves in
          let all : length sides ≡ length (sides_of tables start leaves) = ap length (from ∙ ap (sides_of tables start) same) in
          omega (arith, fits, count, all)
        where
          side-count : (leaves : List Tree) → length (sides_of tables start leaves) ≡ length leaves
          side-count leaves =
              length-map (block_leaves tables all_written (map (written tables) leaves) (made_before start)) side_of
              ∙ leaf-count tables all_written (map (written tables) leaves) (made_before start) ∙ length-map leaves (written tables)

      pub block-room : (passed : List Tree) (now : Building) → passed ≡ leaves → now ≡ fold (with_node useful) start (map (written tables) passed) → HasRoom start (node_count t) → HasRoom now 1
      block-room passed now same from room =
          let counts = map node_count leaves in
          let total : node_count t ≡ suc (sum counts) = ap node_count is ∙ fold-block count_step leaves conds in
          subst (λ b. HasRoom b 1) (sym (from ∙ ap (λ trees. fold (with_node useful) start (map (written tables) trees)) same))
          (room-in_turn useful (map (written tables) leaves) counts (leaves-counted tables all_written leaves (block-parts tables leaves conds block-sound).0) start 1
          (room-less start (sum counts + 1) (node_count t) (omega (arith, total)) room))

      pub block-made : (given : List Cond) (sides : List Side) (passed : List Tree) (now made : Building) → given ≡ conds → passed ≡ leaves → sides ≡ sides_of tables start passed
          → now ≡ fold (with_node useful) start (map (written tables) passed) → made ≡ with_block useful sides given now → made ≡ with_tree tables useful start t
      block-made given sides passed now made same_conds same from_sides from added =
          added
          ∙ (λ i. with_block useful ((from_sides ∙ ap (sides_of tables start) same) i) (same_conds i) ((from ∙ ap (λ trees. fold (with_node useful) start (map (written tables) trees)) same) i))
          ∙ all-built tables useful start leaves conds (map node_count leaves) (leaves-counted tables all_written leaves (block-parts tables leaves conds block-sound).0)
          ∙ ap (with_tree tables useful start) (sym is)
