-- The limits of a plan file, within which its text reads back.
use Rattle.std.specs.Prelude.{◌≡◌, ◌≤◌, ◌<◌, ◌^◌, ◌+◌, ◌==◌, ◌&&◌, ◌||◌, ⊤, ℕ, max, Bool, true, false, List, [], ◌∷◌, length, Option, Some, None, nat_le, nat_lt}
use Rattle.std.specs.List.{AllByRecursion, list_all}
use Rattle.pdw_groups.specs.declared.key.GroupId.{GroupId}
use Rattle.pdw_move.specs.declared.kinds.Prop.{Prop}
use Rattle.pdw_move.specs.declared.kinds.Prop.TheVariants as prop
use Rattle.pdw_planjson.specs.Written.{listing, prop_of}
use Rattle.pdw_planjson.specs.declared.file.PlanFile.{PlanFile}
use Rattle.pdw_planjson.specs.declared.line.Task.{Task}
use Rattle.pdw_planjson.specs.declared.line.Task.TheVariants as task
use Rattle.pdw_ways.specs.declared.plan.Plan.{Plan}
use Rattle.pdw_ways.specs.declared.plan.Plan.TheFolds.{fold-Plan}
use Rattle.pdw_ways.specs.declared.plan.Plan.TheOpen.{Plan-F}

-- ---- numbers of groups and of columns, which the types of a plan keep in their ranges

abbrev pub is_group : GroupId → Bool
is_group group = nat_lt group.0 (2 ^ 32)

abbrev pub has_column : Prop → Bool
has_column prop.Spread = true
has_column (prop.Hash c) = nat_le c.0 65535
has_column prop.Replicated = true
has_column prop.Single = true
has_column prop.Control = true

abbrev pub numbers_step : Plan-F Bool → Bool
numbers_step (Plan-F.Scan group prop) = is_group group && has_column prop
numbers_step (Plan-F.Op group prop children) = (is_group group && has_column prop) && list_all (λ child. child) children
numbers_step (Plan-F.Moved mv child) = has_column (prop_of (task.Move mv)) && child
numbers_step (Plan-F.Free to child) = has_column to && child

abbrev pub has_numbers : Plan → Bool
has_numbers = fold-Plan Bool numbers_step

-- ---- the height: the most nodes on a way from the root to a leaf

abbrev pub highest : List ℕ → ℕ
highest [] = 0
highest (height ∷ more) = max height (highest more)

abbrev pub height_step : Plan-F ℕ → ℕ
height_step (Plan-F.Scan group prop) = 1
height_step (Plan-F.Op group prop children) = highest children + 1
height_step (Plan-F.Moved mv child) = child + 1
height_step (Plan-F.Free to child) = child + 1

abbrev pub height : Plan → ℕ
height = fold-Plan ℕ height_step

-- ---- operators have one or two children, and free changes give spread rows, or rows at one node

abbrev pub is_one_or_two : List Bool → Bool
is_one_or_two [] = false
is_one_or_two (only ∷ []) = only
is_one_or_two (left ∷ right ∷ []) = left && right
is_one_or_two (left ∷ right ∷ third ∷ more) = false

abbrev pub is_freed : Prop → Bool
is_freed prop.Spread = true
is_freed (prop.Hash c) = false
is_freed prop.Replicated = false
is_freed prop.Single = true
is_freed prop.Control = false

-- of a plan: each of its nodes is of a kind that the format has
abbrev pub kinds_step : Plan-F Bool → Bool
kinds_step (Plan-F.Scan group prop) = true
kinds_step (Plan-F.Op group prop children) = is_one_or_two children
kinds_step (Plan-F.Moved mv child) = child
kinds_step (Plan-F.Free to child) = is_freed to && child

abbrev pub has_kinds : Plan → Bool
has_kinds = fold-Plan Bool kinds_step

-- ---- the whole

abbrev pub IsBound : Option ℕ → Type 0
IsBound None = ⊤
IsBound (Some bound) = bound < 10 ^ 32

pub record IsFile (file : PlanFile) : Type 0 where
  pub nodes : (listing file.plan).before < 16384
  pub height : height file.plan ≤ 4096
  pub kinds : has_kinds file.plan ≡ true
  pub cost : file.cost < 10 ^ 32
  pub bounds : AllByRecursion (AllByRecursion IsBound) file.bounds.lists
