-- The text of EXPLAIN: the plan's cost, then a line for each node.
use Rattle.std.specs.Prelude.{ℕ, ◌*◌, List, [], ◌++◌, codes, replicate, Option, Some, None}
use Rattle.std.specs.List.{flat_map}
use Rattle.std.specs.Fmt.{decimal}
use Rattle.pdw_answer.specs.declared.plan_text.MoveFlow.{MoveFlow}
use Rattle.pdw_answer.specs.declared.plan_text.PlanLine.{PlanLine}
use Rattle.pdw_answer.specs.declared.plan_text.PlanText.{PlanText}
use Rattle.pdw_show.specs.Words.{prop_text, word_text}

abbrev pub cost_line : ℕ → List ℕ
cost_line cost = codes "COST " ++ (decimal cost ++ codes "\n")

-- two blanks for each node above
abbrev pub indent : ℕ → List ℕ
indent depth = replicate (2 * depth) 32

-- of a scan: the alias of its table
abbrev pub alias_text : Option (List ℕ) → List ℕ
alias_text None = []
alias_text (Some name) = codes " " ++ name

-- of a move: what it is reckoned to move, and what it costs
abbrev pub moved_text : MoveFlow → List ℕ
moved_text flow = codes " ROWS " ++ (decimal flow.rows ++ (codes " WIDTH " ++ (decimal flow.width ++ (codes " COST " ++ decimal flow.cost))))

abbrev pub flow_text : Option MoveFlow → List ℕ
flow_text None = []
flow_text (Some flow) = moved_text flow

-- what the node does, and the number of its group
abbrev pub subject_text : PlanLine → List ℕ
subject_text line = word_text line.word ++ (codes " G" ++ (decimal line.group ++ alias_text line.alias))

-- how its rows stand
abbrev pub outcome_text : PlanLine → List ℕ
outcome_text line = codes " " ++ (prop_text line.prop ++ flow_text line.flow)

abbrev pub line_text : PlanLine → List ℕ
line_text line = indent line.depth ++ (subject_text line ++ (outcome_text line ++ codes "\n"))

abbrev pub plan_text : PlanText → List ℕ
plan_text plan = cost_line plan.cost ++ flat_map line_text plan.lines
