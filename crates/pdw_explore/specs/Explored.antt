-- The memo in which each block is explored as far as the budget allows.
use Rattle.std.specs.Prelude.{◌≡◌, ℕ}
use Rattle.pdw_algebra.specs.declared.tree.Tree.{Tree}
use Rattle.pdw_catalog.specs.Catalog.{Tables}
use Rattle.pdw_explore.specs.Levels.{leaf_counts, levels_by}
use Rattle.pdw_groups.specs.Memo.{Contents, all_written, memo_of}
use Rattle.pdw_memo.specs.Memo.{IsPlannable}

-- the memo of a plannable tree in which every block is joined as it is written
pub record IsInitial (memo : Contents) : Type 0 where
  pub tables : Tables
  pub tree : Tree
  pub plannable : IsPlannable tables tree
  pub is : memo ≡ memo_of tables all_written tree

-- the memo of a tree whose blocks have the levels that the budget allows
abbrev pub explored_memo : ℕ → Contents → Tables → Tree → Contents
explored_memo budget written tables tree = memo_of tables (levels_by budget (leaf_counts written.blocks)) tree
