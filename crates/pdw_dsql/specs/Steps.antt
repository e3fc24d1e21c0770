-- A plan cut into steps: one for each of its moves, children first, and the return.
use Rattle.std.specs.Prelude.{ℕ, suc, ◌+◌, ◌-◌, List, [], ◌∷◌, ◌++◌, length, map, Option, Some, None}
use Rattle.std.specs.List.{slice_get}
use Rattle.pdw_algebra.specs.declared.local.LocalTree.TheVariants as tree
use Rattle.pdw_algebra.specs.declared.local.LocalTree.{LocalTree}
use Rattle.pdw_base.specs.Schema.{Columns}
use Rattle.pdw_dsql.specs.Sites.{return_site, site_of}
use Rattle.pdw_dsql.specs.Trees.{tree_of}
use Rattle.pdw_dsql.specs.declared.steps.Step.{Step}
use Rattle.pdw_dsql.specs.declared.steps.Steps.{Steps}
use Rattle.pdw_groups.specs.declared.group.Expr.{Expr}
use Rattle.pdw_groups.specs.declared.group.Group.{Group}
use Rattle.pdw_groups.specs.declared.key.GroupId.{GroupId}
use Rattle.pdw_move.specs.Move.{property_after}
use Rattle.pdw_move.specs.declared.kinds.Move.{Move}
use Rattle.pdw_plan.specs.Given.{expr_over}
use Rattle.pdw_ways.specs.declared.made.Made.{Made}
use Rattle.pdw_ways.specs.declared.plan.Plan.TheFolds.{fold-Plan}
use Rattle.pdw_ways.specs.declared.plan.Plan.TheOpen.{Plan-F}
use Rattle.pdw_ways.specs.declared.plan.Plan.{Plan}

-- the columns of a group
abbrev pub schema_of_some : Option Group → Columns
schema_of_some None = []
schema_of_some (Some group) = group.schema

abbrev pub schema_at : List Group → GroupId → Columns
schema_at groups number = schema_of_some (slice_get groups number.0)

-- those of the last group, which is the root
abbrev pub root_schema : List Group → Columns
root_schema groups = schema_at groups (record { 0 = length groups - 1 })

-- ---- what a plan becomes

-- the local tree that makes a plan's rows at each node, and the steps that bring its temporary tables there
pub record Fragment : Type 0 where
  pub tree : LocalTree
  pub steps : List Step

-- those of several plans, one after the other
pub record Fragments : Type 0 where
  pub trees : List LocalTree
  pub steps : List Step

-- what a plan makes, and its fragment where so many temporary tables stand before it
pub record Cutting : Type 0 where
  pub made : Made
  pub fragment : ℕ → Fragment

abbrev pub with_fragment : Fragment → Fragments → Fragments
with_fragment first rest = record { trees = first.tree ∷ rest.trees; steps = first.steps ++ rest.steps }

abbrev pub fragments_after : List Cutting → ℕ → Fragments
fragments_after [] before = record { trees = []; steps = [] }
fragments_after (child ∷ children) before = with_fragment (child.fragment before) (fragments_after children (before + length (child.fragment before).steps))

-- ---- the nodes of a plan

-- an operator stands over the trees of its children
abbrev pub operated : Option Expr → Fragments → Fragment
operated expr children = record { tree = tree_of expr children.trees; steps = children.steps }

-- the temporary table after those of the steps
abbrev pub next_temp : ℕ → List Step → ℕ
next_temp before steps = suc (before + length steps)

-- a move takes the rows of its child's tree, of which each node has its own, into the next temporary table
abbrev pub step_of : List Group → Made → Move → LocalTree → ℕ → Step
step_of groups made mv tree to = record { tree = tree; schema = schema_at groups made.group; site = site_of made.prop; mv = mv; to = to }

-- and is read from there
abbrev pub moved_by : List Group → Made → Move → ℕ → Fragment → Fragment
moved_by groups made mv before child = record {
  tree = tree.Temp (next_temp before child.steps);
  steps = child.steps ++ step_of groups made mv child.tree (next_temp before child.steps) ∷ [];
}

abbrev pub made_of : List Cutting → List Made
made_of children = map (λ (child : Cutting). child.made) children

module _ (groups : List Group) where
  abbrev pub cut_step : Plan-F Cutting → Cutting
  cut_step (Plan-F.Scan group prop) = record {
    made = record { group = group; prop = prop };
    fragment = λ before. operated (expr_over groups group []) (fragments_after [] before);
  }
  cut_step (Plan-F.Op group prop children) = record {
    made = record { group = group; prop = prop };
    fragment = λ before. operated (expr_over groups group (made_of children)) (fragments_after children before);
  }
  cut_step (Plan-F.Moved mv child) = record {
    made = record { group = child.made.group; prop = property_after mv };
    fragment = λ before. moved_by groups child.made mv before (child.fragment before);
  }
  cut_step (Plan-F.Free to child) = record {
    made = record { group = child.made.group; prop = to };
    fragment = child.fragment;
  }

  abbrev pub cutting : Plan → Cutting
  cutting = fold-Plan Cutting cut_step

  -- ---- the whole plan

  -- its steps, and the return of the rows that are left
  abbrev pub whole : Cutting → Steps
  whole cut = record { moves = (cut.fragment 0).steps; last = (cut.fragment 0).tree; last_site = return_site cut.made.prop }

  abbrev pub steps_of : Plan → Steps
  steps_of plan = whole (cutting plan)
