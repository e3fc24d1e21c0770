-- The nodes of a file in their order. Each takes its children from the end of a stack, and takes their place.
use Rattle.std.specs.Prelude.{◌==◌, ◌&&◌, ◌+◌, ℕ, max, Bool, true, false, List, [], ◌∷◌, Option, Some, None, Result, Ok, Err, nat_lt, option_and_then, option_map, if◌then◌else◌}
use Rattle.serde_json.specs.Data.{Data}
use Rattle.pdw_groups.specs.declared.key.GroupId.{GroupId}
use Rattle.pdw_planjson.specs.Node.{line_in}
use Rattle.pdw_planjson.specs.declared.line.Kids.{Kids}
use Rattle.pdw_planjson.specs.declared.line.Kids.TheVariants as kids
use Rattle.pdw_planjson.specs.declared.line.Line.{Line}
use Rattle.pdw_planjson.specs.declared.line.Task.{Task}
use Rattle.pdw_planjson.specs.declared.line.Task.TheVariants as task
use Rattle.pdw_planjson.specs.declared.stack.Entry.{Entry}
use Rattle.pdw_ways.specs.declared.plan.Plan.{Plan}
use Rattle.pdw_ways.specs.declared.plan.Plan.TheVariants as plan

-- ---- the plan of a node: a scan has no child, an operator one or two, and any other node one, of its own group

abbrev pub leaf_plan : GroupId → Task → Option Plan
leaf_plan group (task.Scan prop) = Some (plan.Scan group prop)
leaf_plan group (task.Op prop) = None
leaf_plan group (task.Free to) = None
leaf_plan group (task.Move mv) = None

abbrev pub plan_over_one : GroupId → Task → GroupId → Plan → Option Plan
plan_over_one group (task.Scan prop) of child = None
plan_over_one group (task.Op prop) of child = Some (plan.Op group prop (child ∷ []))
plan_over_one group (task.Free to) of child = if group.0 == of.0 then Some (plan.Free to child) else None
plan_over_one group (task.Move mv) of child = if group.0 == of.0 then Some (plan.Moved mv child) else None

abbrev pub plan_over_two : GroupId → Task → Plan → Plan → Option Plan
plan_over_two group (task.Scan prop) left right = None
plan_over_two group (task.Op prop) left right = Some (plan.Op group prop (left ∷ right ∷ []))
plan_over_two group (task.Free to) left right = None
plan_over_two group (task.Move mv) left right = None

-- ---- the stack, whose last entry stands first here

-- a plan of this height on top
abbrev pub on_top : ℕ → GroupId → ℕ → List Entry → Plan → List Entry
on_top number group height rest plan = record { number = number; group = group; height = height; plan = plan } ∷ rest

abbrev pub placed_leaf : ℕ → Line → List Entry → Option (List Entry)
placed_leaf number line stack = option_map (on_top number line.group 1 stack) (leaf_plan line.group line.task)

-- heights are at most 4,096
abbrev pub placed_over_one : ℕ → Line → ℕ → List Entry → Option (List Entry)
placed_over_one number line only [] = None
placed_over_one number line only (child ∷ rest) =
    if (child.number == only) && nat_lt child.height 4096
    then option_map (on_top number line.group (child.height + 1) rest) (plan_over_one line.group line.task child.group child.plan) else None

abbrev pub placed_over_two : ℕ → Line → ℕ → ℕ → List Entry → Option (List Entry)
placed_over_two number line first second [] = None
placed_over_two number line first second (right ∷ []) = None
placed_over_two number line first second (right ∷ left ∷ rest) =
    if (left.number == first) && (right.number == second) && nat_lt (max left.height right.height) 4096
    then option_map (on_top number line.group (max left.height right.height + 1) rest) (plan_over_two line.group line.task left.plan right.plan) else None

abbrev pub placed_by : Kids → ℕ → Line → List Entry → Option (List Entry)
placed_by kids.Nobody number line stack = placed_leaf number line stack
placed_by (kids.One only) number line stack = placed_over_one number line only stack
placed_by (kids.Two first second) number line stack = placed_over_two number line first second stack

abbrev pub placed : ℕ → Line → List Entry → Option (List Entry)
placed number line stack = placed_by line.kids number line stack

-- the stack after the node of a number, unless the node breaks a rule
abbrev pub added : ℕ → Data → List Entry → Option (List Entry)
added number d stack = option_and_then (λ line. placed number line stack) (line_in d)

-- ---- steps, one for each value of a list

abbrev pub kept : {S : Type 0} → Bool → S → Option S
kept true state = Some state
kept false state = None

abbrev pub or_fault : {S T : Type 0} → ℕ → Option S → (S → Result T ℕ) → Result T ℕ
or_fault number None next = Err number
or_fault number (Some state) next = next state

-- the state after all values, or the number of the first that may not be there
abbrev pub run : {S : Type 0} → (ℕ → Data → S → Option S) → ℕ → List Data → S → Result S ℕ
run step number [] state = Ok state
run step number (d ∷ ds) state = or_fault number (step number d state) (λ new. run step (number + 1) ds new)

abbrev pub ended : {S : Type 0} → Option ℕ → S → Result S ℕ
ended None state = Ok state
ended (Some number) state = Err number
