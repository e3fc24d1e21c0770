-- What the calls keep of each set of leaves.
use Rattle.std.specs.Prelude.{ℕ, suc, ◌+◌, ◌^◌, ◌&&◌, Bool, not, List, [], ◌∷◌, ◌++◌, length, map, slice_index_or, if◌then◌else◌}
use Rattle.std.specs.Int.Bits.{bit_xor}
use Rattle.std.specs.List.{filter}
use Rattle.pdw_expr.specs.declared.agg.JoinKind.TheVariants as kind
use Rattle.pdw_groups.specs.declared.group.Expr.{Expr}
use Rattle.pdw_base.specs.declared.schema.ColId.{ColId}
use Rattle.pdw_groups.specs.Columns.{interesting_in}
use Rattle.pdw_groups.specs.declared.group.Group.{Group}
use Rattle.pdw_groups.specs.declared.key.GroupId.{GroupId}
use Rattle.pdw_groups.specs.declared.key.GroupKey.{GroupKey}
use Rattle.pdw_groups.specs.declared.key.GroupKey.TheVariants as key
use Rattle.pdw_groups.specs.declared.op.Op.TheVariants as op
use Rattle.pdw_base.specs.Schema.{Columns}
use Rattle.pdw_expr.specs.declared.cond.Cond.{Cond}
use Rattle.pdw_groups.specs.Block.{BlockLeaf, one_or}
use Rattle.pdw_groups.specs.Level.{below, has_set, lefts, set_of}
use Rattle.pdw_groups.specs.declared.block.Level.{Level}
use Rattle.pdw_algebra.specs.Schema.{rising}
use Rattle.pdw_groups.specs.declared.sets.Side.{Side}
use Rattle.pdw_parts.specs.Part.{chosen, columns_in, is_inside}

-- a leaf of a block as the calls have it
abbrev pub side_of : BlockLeaf → Side
side_of leaf = record { group = record { 0 = leaf.number }; schema = leaf.columns }

abbrev pub schemas : List Side → List Columns
schemas sides = map (λ side. side.schema) sides

-- for each conjunct, whether it lies inside a set
abbrev pub flags : List Columns → List Cond → ℕ → List Bool
flags leaves conds mask = map (is_inside (columns_in (set_of mask) leaves)) conds

-- the conjuncts inside the whole and inside neither part, by what is kept of the three
abbrev pub kept_between : List Cond → List Bool → List Bool → List Bool → List Cond
kept_between (cond ∷ conds) (whole ∷ wholes) (left ∷ lefts) (right ∷ rights) =
    if whole && (not left && not right) then cond ∷ kept_between conds wholes lefts rights else kept_between conds wholes lefts rights
kept_between conds wholes lefts rights = []

-- ---- a block's groups as the memo has them, without their meanings

-- the second group of a leaf, by the conjuncts inside it
abbrev pub second_if : List ColId → GroupKey → Side → List Cond → List Group
second_if useful name side [] = []
second_if useful name side (first ∷ rest) = record {
  key = name;
  schema = side.schema;
  interesting = interesting_in useful side.schema;
  exprs = record { op = op.Filter (first ∷ rest); children = side.group ∷ [] } ∷ [];
} ∷ []

-- a leaf as a part by itself
abbrev pub kept_single : ℕ → Side → List Cond → GroupId
kept_single next side [] = side.group
kept_single next side (first ∷ rest) = record { 0 = next }

-- how many second groups a leaf has
abbrev pub one_if : List Cond → ℕ
one_if [] = 0
one_if (first ∷ rest) = 1

module _ (conds : List Cond) where
  abbrev pub inside_side : Side → List Cond
  inside_side side = filter (is_inside side.schema) conds

  abbrev pub kept_seconds : List ColId → ℕ → ℕ → List Side → List Group
  kept_seconds useful block place [] = []
  kept_seconds useful block place (side ∷ sides) = second_if useful (key.Part block (2 ^ place)) side (inside_side side) ++ kept_seconds useful block (suc place) sides

  abbrev pub kept_singles : ℕ → List Side → List GroupId
  kept_singles next [] = []
  kept_singles next (side ∷ sides) = kept_single next side (inside_side side) ∷ kept_singles (next + one_if (inside_side side)) sides

-- ---- joins, by what is kept of each set

-- what is kept of a set, by its number
abbrev pub kept_at : {X : Type 0} → List X → ℕ → X → X
kept_at kept mask other = slice_index_or kept mask other

-- the join of a left part and of what is left of a set
abbrev pub join_at : List Cond → List (List Bool) → List GroupId → ℕ → ℕ → Expr
join_at conds insides parts mask left = record {
  op = op.Join kind.Inner (kept_between conds (kept_at insides mask []) (kept_at insides left []) (kept_at insides (bit_xor left mask) []));
  children = kept_at parts left (record { 0 = 0 }) ∷ kept_at parts (bit_xor left mask) (record { 0 = 0 }) ∷ [];
}

-- ---- the groups of sets

-- the number of the group of a set, where the first group of a set would have the number `first`
abbrev pub kept_number : Level → ℕ → ℕ → GroupId
kept_number level first mask = record { 0 = first + length (filter (has_set level) (below mask)) }

-- the part of a set, of one leaf or of several
abbrev pub kept_part : Level → List GroupId → ℕ → ℕ → GroupId
kept_part level singles first mask = one_or (chosen (set_of mask) singles) (kept_number level first mask)

abbrev pub set_with : List ColId → ℕ → Level → List Side → List Cond → List (List Bool) → List GroupId → ℕ → Group
set_with useful block level sides conds insides parts mask = record {
  key = key.Part block mask;
  schema = rising (columns_in (set_of mask) (schemas sides));
  interesting = interesting_in useful (rising (columns_in (set_of mask) (schemas sides)));
  exprs = map (join_at conds insides parts mask) (lefts level mask);
}

abbrev pub all_flags : List Side → List Cond → List (List Bool)
all_flags sides conds = map (flags (schemas sides) conds) (below (2 ^ length sides))

abbrev pub kept_set : List ColId → ℕ → Level → List Side → List Cond → List GroupId → ℕ → ℕ → Group
kept_set useful block level sides conds singles first mask =
    set_with useful block level sides conds (all_flags sides conds) (map (kept_part level singles first) (below mask)) mask

abbrev pub kept_sets : List ColId → ℕ → Level → List Side → List Cond → List GroupId → ℕ → ℕ → List Group
kept_sets useful block level sides conds singles first n = map (kept_set useful block level sides conds singles first) (filter (has_set level) (below n))

-- the groups of a block, of which the first has the number `first`
abbrev pub kept_block : List ColId → ℕ → Level → List Side → List Cond → ℕ → List Group
kept_block useful block level sides conds first =
    kept_seconds conds useful block 0 sides
    ++ kept_sets useful block level sides conds (kept_singles conds first sides) (first + length (kept_seconds conds useful block 0 sides)) (2 ^ length sides)
