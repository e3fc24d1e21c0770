-- The text of PROFILE: the plan's cost, what each of its moves did, and the text of SELECT.
use Rattle.std.specs.Prelude.{ℕ, ◌+◌, ◌==◌, List, [], ◌∷◌, ◌++◌, codes, if◌then◌else◌}
use Rattle.std.specs.List.{flat_map, sum_by}
use Rattle.std.specs.Fmt.{decimal}
use Rattle.pdw_answer.specs.Words.{word_of_move}
use Rattle.pdw_answer.specs.declared.answer.Profile.{Profile}
use Rattle.pdw_answer.specs.declared.answer.StepCount.{StepCount}
use Rattle.pdw_base.specs.declared.node.Node.{Node}
use Rattle.pdw_show.specs.Plan.{cost_line}
use Rattle.pdw_show.specs.Rows.{rows_text}
use Rattle.pdw_show.specs.Words.{node_text, word_text}

-- how many rows went from a node to a node
abbrev pub Sent : Type 0
Sent = Node × Node × ℕ

abbrev pub rows_in : Sent → ℕ
rows_in sent = sent.2

-- the rows of a step are those of all pairs together
abbrev pub moved : List Sent → ℕ
moved sent = sum_by rows_in sent

abbrev pub total_line : ℕ → StepCount → List ℕ
total_line number step =
    codes "STEP " ++ (decimal number ++ (codes " " ++ (word_text (word_of_move step.mv) ++ (codes " ROWS " ++ (decimal (moved step.sent) ++ (codes " EVENTS " ++ (decimal step.events ++ codes "\n")))))))

-- a pair from which no row went has no line
abbrev pub sent_line : Sent → List ℕ
sent_line sent = if rows_in sent == 0 then [] else codes "SENT" ++ (node_text sent.0 ++ (node_text sent.1 ++ (codes " " ++ (decimal (rows_in sent) ++ codes "\n"))))

abbrev pub step_text : ℕ → StepCount → List ℕ
step_text number step = total_line number step ++ flat_map sent_line step.sent

-- steps of which the first has this number
abbrev pub steps_text : ℕ → List StepCount → List ℕ
steps_text number [] = []
steps_text number (step ∷ steps) = step_text number step ++ steps_text (number + 1) steps

abbrev pub profile_text : Profile → List ℕ
profile_text profile = cost_line profile.cost ++ (steps_text 1 profile.steps ++ rows_text profile.table.names profile.table.rows)
