-- What is made of a written memo is the memo at the levels within the budget.
use Rattle.std.proofs.Common.{◌≡◌, ℕ, suc, ◌+◌, ◌-◌, ◌^◌, ◌<◌, List, [], ◌∷◌, ◌++◌, drop, drop-cons, length, reverse, refl, sym, ap, ap₂, subst, ◌∙◌, arith, append_assoc, length-append}
use Rattle.std.specs.List.{AllByRecursion}
use Rattle.std.proofs.lemmas.List.{length-map, length-reverse, reverse-reverse}
use Rattle.pdw_algebra.specs.declared.tree.Tree.{Tree}
use Rattle.pdw_base.specs.declared.schema.ColId.{ColId}
use Rattle.pdw_catalog.specs.Catalog.{Tables}
use Rattle.pdw_explore.proofs.GrowLaws.{Holds, Moved, finds-map, finds-range}
use Rattle.pdw_explore.proofs.InTurn.{GoesNode}
use Rattle.pdw_explore.proofs.RoomLaws.{Few, tree-small}
use Rattle.pdw_explore.proofs.TreeGrows.{tree-grows}
use Rattle.pdw_explore.specs.Explored.{explored_memo}
use Rattle.pdw_explore.specs.Grown.{CanGrow, grown_all, grown_memo, level_at, moved_blocks, nothing}
use Rattle.pdw_explore.specs.Levels.{leaf_counts, level_list, level_within, levels_by, taken}
use Rattle.pdw_explore.specs.declared.grown.Grown.{Grown}
use Rattle.pdw_groups.proofs.OrderLaws.{at-end}
use Rattle.pdw_groups.specs.Columns.{useful_columns}
use Rattle.pdw_groups.specs.Memo.{Contents, all_written, at_first, groups_of, memo_of}
use Rattle.pdw_groups.specs.Node.{node_of}
use Rattle.pdw_groups.specs.declared.block.BlockPart.{BlockPart}
use Rattle.pdw_groups.specs.declared.block.Level.{Level}
use Rattle.pdw_groups.specs.declared.block.Level.TheVariants as level
use Rattle.pdw_groups.specs.declared.group.Group.{Group}
use Rattle.pdw_groups.specs.declared.key.GroupId.{GroupId}
use Rattle.pdw_memo.specs.Memo.{IsMemo, IsPlannable}

-- ---- levels

pub levels-length : (left : ℕ) (counts : List ℕ) → length (level_list left counts) ≡ length counts
levels-length left [] = refl
levels-length left (leaves ∷ counts) = ap suc (levels-length (left - taken (level_within left leaves) leaves) counts)

-- ---- blocks

holds-self : (before parts : List BlockPart) → Holds (before ++ parts) (length before) parts
holds-self before [] = tt
holds-self before (part ∷ parts) = (
  at-end before part parts,
  (let count = length-append before (part ∷ []) in
      let same : length (before ++ part ∷ []) ≡ suc (length before) = omega (arith, count) in
      subst (λ n. Holds (before ++ part ∷ parts) n parts) same (subst (λ all. Holds all (length (before ++ part ∷ [])) parts) (append_assoc before (part ∷ []) parts) (holds-self (before ++ part ∷ []) parts))),
)

moved-none : (numbers : List GroupId) (levels : List Level) → moved_blocks numbers levels [] ≡ []
moved-none numbers [] = refl
moved-none numbers (l ∷ levels) = refl

module _ (blocks : List BlockPart) (levels : List Level) (numbers : List GroupId) where
  blocks-moved : (olds news : List BlockPart) (place : ℕ) → Moved blocks levels numbers place olds news → place + length olds ≡ length levels → moved_blocks numbers (drop place levels) olds ≡ news
  blocks-moved [] [] place moved count = moved-none numbers (drop place levels)
  blocks-moved [] (b ∷ news) place moved count = absurd moved
  blocks-moved (a ∷ olds) [] place moved count = absurd moved
  blocks-moved (a ∷ olds) (b ∷ news) place moved count =
      let within : place < length levels = omega (arith, count) in
      let later : suc place + length olds ≡ length levels = omega (arith, count) in
      ap (λ some. moved_blocks numbers some (a ∷ olds)) (drop-cons levels place level.Written within)
      ∙ ap₂ (λ part parts. part ∷ parts)
      (λ i. record {
        leaves = finds-map numbers a.leaves b.leaves moved.0.leaves i;
        conds = moved.0.conds i;
        level = sym moved.0.level i;
      })
      (blocks-moved olds news (suc place) moved.1 later)

  blocks-range : (olds news : List BlockPart) (place : ℕ) → Moved blocks levels numbers place olds news → AllByRecursion (λ block. AllByRecursion (λ leaf. leaf.0 < length numbers) block.leaves) olds
  blocks-range [] [] place moved = tt
  blocks-range [] (b ∷ news) place moved = absurd moved
  blocks-range (a ∷ olds) [] place moved = absurd moved
  blocks-range (a ∷ olds) (b ∷ news) place moved = (finds-range numbers a.leaves b.leaves moved.0.leaves, blocks-range olds news (suc place) moved.1)

-- ---- the whole memo

-- what the call may rely on
pub record IsReady (budget : ℕ) (memo : Contents) : Type 0 where
  pub few : Few memo.blocks
  pub can : CanGrow memo.blocks (level_list budget (leaf_counts memo.blocks)) nothing memo.groups
  pub range : AllByRecursion (λ block. AllByRecursion (λ leaf. leaf.0 < length (grown_all memo.blocks (level_list budget (leaf_counts memo.blocks)) nothing memo.groups).numbers) block.leaves) memo.blocks

module _ (budget : ℕ) (tables : Tables) (tree : Tree) (plannable : IsPlannable tables tree) where
  abbrev written : Contents
  written = memo_of tables all_written tree

  abbrev blocks : List BlockPart
  blocks = written.blocks

  abbrev levels : List Level
  levels = level_list budget (leaf_counts blocks)

  abbrev useful : List ColId
  useful = useful_columns tables tree

  abbrev l : ℕ → Level
  l = level_at blocks levels

  each-level : length levels ≡ length blocks
  each-level = levels-length budget (leaf_counts blocks) ∙ length-map blocks (λ (block : BlockPart). length block.leaves)

  room : 0 + length (groups_of tables l tree) < 2 ^ 31
  room =
      let most = (tree-small tables l tree plannable).groups at_first in
      omega (arith, most, plannable.few)

  made : GoesNode tables blocks levels useful (node_of tables all_written tree) (node_of tables l tree) at_first at_first nothing
  made =
      (tree-grows tables blocks levels useful each-level tree plannable.well_formed).node at_first at_first nothing
      (record { blocks = refl; operators = refl; old = refl; new = refl }) (holds-self [] blocks) room

  module _ (node : GoesNode tables blocks levels useful (node_of tables all_written tree) (node_of tables l tree) at_first at_first nothing) where
    abbrev grown : Grown
    grown = grown_all blocks levels nothing written.groups

    all-levels : 0 + length blocks ≡ length levels
    all-levels = let same = each-level in omega (arith, same)

    explored-from : grown_memo levels written ≡ memo_of tables l tree
    explored-from =
        ap₂ (λ gs bs. record { groups = gs; blocks = bs })
        (ap (λ (g : Grown). g.groups) node.goes.grown_is)
        (ap (λ (g : Grown). moved_blocks g.numbers levels blocks) node.goes.grown_is
        ∙ blocks-moved blocks levels node.added blocks (memo_of tables l tree).blocks 0 node.moved all-levels)

    ready-from : IsReady budget written
    ready-from = record {
      few = (tree-small tables all_written tree plannable).parts at_first;
      can = node.goes.can;
      range =
          subst (λ (g : Grown). AllByRecursion (λ block. AllByRecursion (λ leaf. leaf.0 < length g.numbers) block.leaves) blocks) (sym node.goes.grown_is)
          (blocks-range blocks levels node.added blocks (memo_of tables l tree).blocks 0 node.moved);
    }

  pub explored-is : (memo : Contents) → memo ≡ written → grown_memo (level_list budget (leaf_counts memo.blocks)) memo ≡ explored_memo budget memo tables tree
  explored-is memo is =
      ap (λ (m : Contents). grown_memo (level_list budget (leaf_counts m.blocks)) m) is ∙ explored-from made
      ∙ ap (λ (m : Contents). explored_memo budget m tables tree) (sym is)

  pub ready-is : (memo : Contents) → memo ≡ written → IsReady budget memo
  ready-is memo is = subst (IsReady budget) (sym is) (ready-from made)

-- ---- the steps of the call

module _ (budget : ℕ) (memo : Contents) where
  abbrev budget_levels : List Level
  budget_levels = level_list budget (leaf_counts memo.blocks)

  abbrev all_grown : Grown
  all_grown = grown_all memo.blocks budget_levels nothing memo.groups

  -- what the call hands on is the memo's
  pub record IsTaken (bs : List BlockPart) (lv : List Level) (gs : List Group) : Type 0 where
    pub blocks_is : bs ≡ memo.blocks
    pub levels_is : lv ≡ budget_levels
    pub groups_is : gs ≡ memo.groups

  pub can-taken : (bs : List BlockPart) (lv : List Level) (gs : List Group) → IsTaken bs lv gs → IsReady budget memo → CanGrow bs lv nothing gs
  can-taken bs lv gs is ready =
      subst (λ bs. CanGrow bs lv nothing gs) (sym is.blocks_is) (subst (λ lv. CanGrow memo.blocks lv nothing gs) (sym is.levels_is) (subst (CanGrow memo.blocks budget_levels nothing) (sym is.groups_is) ready.can))

  pub grown-taken : (bs : List BlockPart) (lv : List Level) (gs : List Group) → IsTaken bs lv gs → grown_all bs lv nothing gs ≡ all_grown
  grown-taken bs lv gs is = λ i. grown_all (is.blocks_is i) (is.levels_is i) nothing (is.groups_is i)

  pub range-taken : (ns : List GroupId) (bs : List BlockPart) → ns ≡ all_grown.numbers → bs ≡ memo.blocks → IsReady budget memo → AllByRecursion (λ block. AllByRecursion (λ leaf. leaf.0 < length ns) block.leaves) bs
  range-taken ns bs numbers_is blocks_is ready =
      subst (AllByRecursion (λ block. AllByRecursion (λ leaf. leaf.0 < length ns) block.leaves)) (sym blocks_is)
      (subst (λ ms. AllByRecursion (λ block. AllByRecursion (λ leaf. leaf.0 < length ms) block.leaves) memo.blocks) (sym numbers_is) ready.range)

  pub made-taken : (some : Grown) (ns : List GroupId) (lv : List Level) (bs : List BlockPart) → some ≡ all_grown → ns ≡ all_grown.numbers → lv ≡ budget_levels → bs ≡ memo.blocks
      → record { groups = some.groups; blocks = moved_blocks ns lv bs } ≡ grown_memo budget_levels memo
  made-taken some ns lv bs grown_is numbers_is levels_is blocks_is = λ i. record { groups = (grown_is i).groups; blocks = moved_blocks (numbers_is i) (levels_is i) (blocks_is i) }

  pub levels-taken : length budget_levels ≡ length memo.blocks
  levels-taken = levels-length budget (leaf_counts memo.blocks) ∙ length-map memo.blocks (λ (block : BlockPart). length block.leaves)

  -- and so it is a memo
  pub is-memo : (contents : Contents) (tables : Tables) (tree : Tree) → IsPlannable tables tree → memo ≡ memo_of tables all_written tree → contents ≡ grown_memo budget_levels memo → IsMemo contents
  is-memo contents tables tree plannable is same = record {
    tables = tables;
    levels = levels_by budget (leaf_counts memo.blocks);
    tree = tree;
    plannable = plannable;
    is = same ∙ explored-is budget tables tree plannable memo is;
  }

  -- of the memo's parts
  module _ (parts : List Group × List BlockPart) (parts_is : parts ≡ (memo.groups, memo.blocks)) where
    blocks-of : (bs : List BlockPart) → bs ≡ parts.1 → bs ≡ memo.blocks
    blocks-of bs is = is ∙ ap (λ (p : List Group × List BlockPart). p.1) parts_is

    pub blocks-taken : (bs : List BlockPart) → bs ≡ parts.1 → memo.blocks ≡ bs
    blocks-taken bs is = sym (blocks-of bs is)

    pub turned-taken : (bs : List BlockPart) → bs ≡ reverse parts.1 → reverse bs ≡ memo.blocks
    turned-taken bs is = ap reverse is ∙ ap (λ (p : List Group × List BlockPart). reverse (reverse p.1)) parts_is ∙ reverse-reverse memo.blocks

    pub counted-taken : (bs first : List BlockPart) (lv : List Level) → bs ≡ reverse parts.1 → first ≡ parts.1 → lv ≡ level_list budget (leaf_counts first) → length lv ≡ length bs
    counted-taken bs first lv turned is levels_is =
        ap length (levels_is ∙ ap (λ some. level_list budget (leaf_counts some)) (blocks-of first is)) ∙ levels-taken
        ∙ sym (ap length turned ∙ ap (λ (p : List Group × List BlockPart). length (reverse p.1)) parts_is ∙ length-reverse memo.blocks)

    pub levels-given : (first : List BlockPart) (lv : List Level) → first ≡ parts.1 → lv ≡ level_list budget (leaf_counts first) → lv ≡ budget_levels
    levels-given first lv is levels_is = levels_is ∙ ap (λ some. level_list budget (leaf_counts some)) (blocks-of first is)

    -- the groups in the other direction
    pub taken-from : (first second : List BlockPart) (lv : List Level) (groups : List Group) → first ≡ parts.1 → second ≡ parts.1 → lv ≡ level_list budget (leaf_counts first) → groups ≡ reverse parts.0
        → IsTaken second lv (reverse groups)
    taken-from first second lv groups is again levels_is turned = record {
      blocks_is = blocks-of second again;
      levels_is = levels-given first lv is levels_is;
      groups_is = ap reverse turned ∙ ap (λ (p : List Group × List BlockPart). reverse (reverse p.0)) parts_is ∙ reverse-reverse memo.groups;
    }
