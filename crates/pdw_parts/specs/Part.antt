-- Parts of a block: some of its leaves side by side, under every conjunct that lies inside them.
use Rattle.std.specs.Prelude.{◌≡◌, ℕ, suc, ◌==◌, ◌&&◌, ◌||◌, Bool, true, false, not, List, [], ◌∷◌, map, if◌then◌else◌}
use Rattle.std.specs.List.{AllByRecursion, filter, flat_map, list_all}
use Rattle.pdw_algebra.specs.Shape.{all_apart, has_number}
use Rattle.pdw_algebra.specs.Within.{AllWithin}
use Rattle.pdw_base.specs.Schema.{Columns, Env}
use Rattle.pdw_expr.specs.Columns.{cond_columns}
use Rattle.pdw_expr.specs.Rows.{filtered, products}
use Rattle.pdw_expr.specs.declared.cond.Cond.{Cond}

-- a leaf of a block: the columns that it gives, and its rows
pub record Leaf : Type 0 where
  pub columns : Columns
  pub rows : List Env

-- the rows of each leaf have NULL outside its columns, and no two leaves have a column in common
pub record AreLeaves (leaves : List Leaf) : Type 0 where
  pub each : AllByRecursion (λ leaf. AllWithin leaf.columns leaf.rows) leaves
  pub apart : all_apart (map (λ leaf. leaf.columns) leaves) ≡ true

-- ---- sets of leaves

-- some leaves of a block, each by its number from 0
abbrev pub LeafSet : Type 0
LeafSet = ℕ → Bool

-- all leaves, and one alone
abbrev pub every : LeafSet
every i = true

abbrev pub only : ℕ → LeafSet
only n i = i == n

-- the leaves of both sets together
abbrev pub either : LeafSet → LeafSet → LeafSet
either left right i = left i || right i

-- no leaf is in both sets
abbrev pub AreDisjoint : LeafSet → LeafSet → Type 0
AreDisjoint left right = (i : ℕ) → (left i && right i) ≡ false

-- of some items, one for each leaf, those of a set
abbrev pub chosen : {X : Type 0} → LeafSet → List X → List X
chosen set [] = []
chosen set (x ∷ xs) = if set 0 then x ∷ chosen (λ i. set (suc i)) xs else chosen (λ i. set (suc i)) xs

-- ---- conjuncts

-- the columns of a set of leaves, of which each has these
abbrev pub columns_in : LeafSet → List Columns → Columns
columns_in set leaves = flat_map (λ columns. columns) (chosen set leaves)

-- a conjunct lies inside some columns where each column that it uses is among them; one without columns lies inside any
abbrev pub is_inside : Columns → Cond → Bool
is_inside columns conjunct = list_all (λ c. has_number c columns) (cond_columns conjunct)

-- the conjuncts inside a set of leaves, in the order of the statement
abbrev pub inside : LeafSet → List Columns → List Cond → List Cond
inside set leaves conds = filter (is_inside (columns_in set leaves)) conds

-- a conjunct lies between two sets of leaves where it lies inside both together and inside neither
abbrev pub is_between : LeafSet → LeafSet → List Columns → Cond → Bool
is_between left right leaves conjunct =
    is_inside (columns_in (either left right) leaves) conjunct
    && (not (is_inside (columns_in left leaves) conjunct) && not (is_inside (columns_in right leaves) conjunct))

-- the conjuncts that a join of two parts carries
abbrev pub between : LeafSet → LeafSet → List Columns → List Cond → List Cond
between left right leaves conds = filter (is_between left right leaves) conds

-- ---- rows

abbrev pub leaf_columns : List Leaf → List Columns
leaf_columns leaves = map (λ leaf. leaf.columns) leaves

abbrev pub leaf_rows : List Leaf → List (List Env)
leaf_rows leaves = map (λ leaf. leaf.rows) leaves

-- the rows of a part: every union of one row of each of its leaves for which the conjuncts inside are True
abbrev pub part_rows : LeafSet → List Leaf → List Cond → List Env
part_rows set leaves conds = filtered (inside set (leaf_columns leaves) conds) (products (chosen set (leaf_rows leaves)))
