-- What is reckoned of groups by their numbers, where groups have these meanings.
use Rattle.std.specs.Prelude.{◌≡◌, ℕ, List, fold, Option, Some, None}
use Rattle.std.specs.List.{slice_get}
use Rattle.pdw_base.specs.declared.schema.ColId.{ColId}
use Rattle.pdw_groups.specs.Meaning.{Meaning}
use Rattle.pdw_groups.specs.Memo.{Contents}
use Rattle.pdw_groups.specs.declared.key.GroupId.{GroupId}
use Rattle.pdw_memo.specs.Laws.{meanings_in}
use Rattle.pdw_memo.specs.Memo.{IsMemo}
use Rattle.pdw_sizes.specs.Estimate.{ColStats, both_columns, distinct_in, times}
use Rattle.pdw_sizes.specs.Sizes.{columns_of_meaning, rows_of_meaning}
use Rattle.pdw_stats.specs.Book.{Book}
use Rattle.pdw_stats.specs.declared.stats.ColStat.{ColStat}

-- how many lists of values some keys have
abbrev pub key_lists : ColStats → List ColId → ℕ
key_lists columns keys = fold (λ product c. times product (distinct_in columns c)) 1 keys

module _ (book : Book) where
  abbrev pub columns_if : Option Meaning → ColStats
  columns_if None = λ c. None
  columns_if (Some means) = columns_of_meaning book means

  abbrev pub rows_if : ℕ → Option Meaning → ℕ
  rows_if n None = 0
  rows_if n (Some means) = rows_of_meaning book n means

  module _ (meanings : List Meaning) where
    abbrev pub columns_at : ℕ → ColStats
    columns_at number = columns_if (slice_get meanings number)

    -- at n nodes
    abbrev pub rows_at : ℕ → ℕ → ℕ
    rows_at n number = rows_if n (slice_get meanings number)

    -- of leaves side by side
    abbrev pub set_columns : List GroupId → ColStats
    set_columns leaves = fold (λ columns leaf. both_columns columns (columns_at leaf.0)) (λ c. None) leaves

    abbrev pub set_rows : ℕ → List GroupId → ℕ
    set_rows n leaves = fold (λ rows leaf. times rows (rows_at n leaf.0)) 1 leaves

-- ---- in a memo, whatever tree it is of

module _ (contents : Contents) (book : Book) (number : ℕ) where
  -- the numbers of a column of the group
  abbrev pub IsColumn : ColId → Option ColStat → Type 0
  IsColumn c found = (memo : IsMemo contents) → found ≡ columns_at book (meanings_in contents memo) number c

  -- the rows of the group at n nodes
  abbrev pub AreRows : ℕ → ℕ → Type 0
  AreRows n rows = (memo : IsMemo contents) → rows ≡ rows_at book (meanings_in contents memo) n number
