-- The lines of a plan: each node before its children.
use Rattle.std.specs.Prelude.{ℕ, ◌+◌, List, [], ◌∷◌, ◌++◌, map, Option, Some, None}
use Rattle.std.specs.List.{flat_map, slice_get}
use Rattle.pdw_answer.specs.Words.{word_of_move}
use Rattle.pdw_answer.specs.declared.plan_text.MoveFlow.{MoveFlow}
use Rattle.pdw_answer.specs.declared.plan_text.PlanLine.{PlanLine}
use Rattle.pdw_answer.specs.declared.plan_text.PlanText.{PlanText}
use Rattle.pdw_answer.specs.declared.plan_text.PlanWord.{PlanWord}
use Rattle.pdw_answer.specs.declared.plan_text.PlanWord.TheVariants as word
use Rattle.pdw_expr.specs.declared.agg.JoinKind.{JoinKind}
use Rattle.pdw_expr.specs.declared.agg.JoinKind.TheVariants as kind
use Rattle.pdw_groups.specs.Memo.{Contents}
use Rattle.pdw_groups.specs.declared.group.Expr.{Expr}
use Rattle.pdw_groups.specs.declared.group.Group.{Group}
use Rattle.pdw_groups.specs.declared.key.GroupId.{GroupId}
use Rattle.pdw_groups.specs.declared.op.Op.{Op}
use Rattle.pdw_groups.specs.declared.op.Op.TheVariants as op
use Rattle.pdw_memo.specs.Memo.{IsMemo}
use Rattle.pdw_move.specs.Move.{property_after}
use Rattle.pdw_move.specs.declared.cost.Constants.{Constants}
use Rattle.pdw_move.specs.declared.cost.Flow.{Flow}
use Rattle.pdw_move.specs.declared.kinds.Move.{Move}
use Rattle.pdw_move.specs.declared.kinds.Prop.{Prop}
use Rattle.pdw_plan.specs.Cost.{costs_in, flow_of}
use Rattle.pdw_plan.specs.Given.{expr_over}
use Rattle.pdw_sizes.specs.Sizes.{sizes_in}
use Rattle.pdw_stats.specs.Book.{Book}
use Rattle.pdw_ways.specs.Shape.{shape_of}
use Rattle.pdw_ways.specs.declared.made.Made.{Made}
use Rattle.pdw_ways.specs.declared.plan.Plan.{Plan}
use Rattle.pdw_ways.specs.declared.plan.Plan.TheFolds.{fold-Plan}
use Rattle.pdw_ways.specs.declared.plan.Plan.TheOpen.{Plan-F}

-- ---- operators

abbrev pub word_of_join : JoinKind → PlanWord
word_of_join kind.Inner = word.Join
word_of_join kind.Left = word.Left
word_of_join kind.Full = word.Full
word_of_join kind.Semi = word.Semi
word_of_join kind.Anti = word.Anti

abbrev pub word_of : Op → PlanWord
word_of (op.Scan table alias cols hash replicated) = word.Scan
word_of (op.Filter conds) = word.Filter
word_of (op.Project items) = word.Project
word_of (op.Join kind conds) = word_of_join kind
word_of (op.GroupBy keys aggs) = word.Group
word_of (op.Partial keys aggs) = word.Partial
word_of (op.Final keys aggs) = word.Final

-- of a scan alone: its alias, which is the table's name where none is written
abbrev pub alias_of : Op → Option (List ℕ)
alias_of (op.Scan table alias cols hash replicated) = Some alias
alias_of (op.Filter conds) = None
alias_of (op.Project items) = None
alias_of (op.Join kind conds) = None
alias_of (op.GroupBy keys aggs) = None
alias_of (op.Partial keys aggs) = None
alias_of (op.Final keys aggs) = None

abbrev pub operator_line : ℕ → Made → Op → PlanLine
operator_line depth made operator =
    record { depth = depth; word = word_of operator; group = made.group.0; alias = alias_of operator; prop = made.prop; flow = None }

-- the operator of the expression that the node applies; in a plan for the query each has one
abbrev pub operator_lines : ℕ → Made → Option Expr → List PlanLine
operator_lines depth made None = []
operator_lines depth made (Some expr) = operator_line depth made expr.op ∷ []

-- ---- moves and free changes

abbrev pub move_line : ℕ → GroupId → Move → MoveFlow → PlanLine
move_line depth group mv flow =
    record { depth = depth; word = word_of_move mv; group = group.0; alias = None; prop = property_after mv; flow = Some flow }

abbrev pub free_line : ℕ → GroupId → Prop → PlanLine
free_line depth group to = record { depth = depth; word = word.Free; group = group.0; alias = None; prop = to; flow = None }

-- ---- plans

-- what the moves of each group are reckoned to move
abbrev pub Flows : Type 0
Flows = GroupId → Move → MoveFlow

-- a plan: what it makes, and its lines where its last node has so many above it
pub record Explained : Type 0 where
  pub made : Made
  pub lines : ℕ → List PlanLine

abbrev pub made_in : List Explained → List Made
made_in children = map (λ (child : Explained). child.made) children

abbrev pub lines_in : ℕ → List Explained → List PlanLine
lines_in depth children = flat_map (λ (child : Explained). child.lines depth) children

module _ (groups : List Group) (flows : Flows) where
  abbrev pub explained_step : Plan-F Explained → Explained
  explained_step (Plan-F.Scan group prop) = record {
    made = record { group = group; prop = prop };
    lines = λ depth. operator_lines depth (record { group = group; prop = prop }) (expr_over groups group []);
  }
  explained_step (Plan-F.Op group prop children) = record {
    made = record { group = group; prop = prop };
    lines = λ depth. operator_lines depth (record { group = group; prop = prop }) (expr_over groups group (made_in children)) ++ lines_in (depth + 1) children;
  }
  explained_step (Plan-F.Moved mv child) = record {
    made = record { group = child.made.group; prop = property_after mv };
    lines = λ depth. move_line depth child.made.group mv (flows child.made.group mv) ∷ child.lines (depth + 1);
  }
  explained_step (Plan-F.Free to child) = record {
    made = record { group = child.made.group; prop = to };
    lines = λ depth. free_line depth child.made.group to ∷ child.lines (depth + 1);
  }

  abbrev pub explained_node : Plan → Explained
  explained_node = fold-Plan Explained explained_step

-- ---- plans of a memo

-- a move is reckoned to move what its group is reckoned to have
abbrev pub with_cost : Flow → ℕ → MoveFlow
with_cost flow cost = record { rows = flow.rows; width = flow.width; cost = cost }

abbrev pub flows_in : (memo : Contents) → IsMemo memo → Book → ℕ → Constants → Flows
flows_in memo is book n constants group mv = with_cost (flow_of (slice_get (sizes_in memo is book n) group.0)) (costs_in memo is book n constants group mv)

-- a plan as lines, with what it costs
abbrev pub explained : (memo : Contents) → IsMemo memo → Book → ℕ → Constants → Plan → PlanText
explained memo is book n constants plan = record {
  cost = (shape_of memo.groups (costs_in memo is book n constants) plan).cost;
  lines = (explained_node memo.groups (flows_in memo is book n constants) plan).lines 0;
}
