-- A node of a file by itself: its children's numbers, its group, and what it does.
use Rattle.std.specs.Prelude.{ℕ, ◌^◌, List, [], ◌∷◌, Option, Some, None, codes, nat_lt, option_and_then, option_map, if◌then◌else◌}
use Rattle.serde_json.specs.Data.{Data}
use Rattle.pdw_groups.specs.declared.key.GroupId.{GroupId}
use Rattle.pdw_move.specs.declared.kinds.Prop.{Prop}
use Rattle.pdw_planjson.specs.Keys.{has_four, list_at, text_at, whole_at, whole_of}
use Rattle.pdw_planjson.specs.Words.{prop_in, task_in}
use Rattle.pdw_planjson.specs.declared.line.Kids.{Kids}
use Rattle.pdw_planjson.specs.declared.line.Kids.TheVariants as kids
use Rattle.pdw_planjson.specs.declared.line.Line.{Line}
use Rattle.pdw_planjson.specs.declared.line.Task.{Task}

-- numbers of children, of which no node has more than two
abbrev pub kids_in : List Data → Option Kids
kids_in [] = Some kids.Nobody
kids_in (only ∷ []) = option_map kids.One (whole_of only)
kids_in (left ∷ right ∷ []) = option_and_then (λ first. option_map (kids.Two first) (whole_of right)) (whole_of left)
kids_in (left ∷ right ∷ third ∷ more) = None

abbrev pub kids_at : Data → Option Kids
kids_at d = option_and_then kids_in (list_at (codes "children") d)

-- a group's number is below 2^32
abbrev pub group_numbered : ℕ → Option GroupId
group_numbered number = if nat_lt number (2 ^ 32) then Some (record { 0 = number }) else None

abbrev pub group_at : Data → Option GroupId
group_at d = option_and_then group_numbered (whole_at (codes "group") d)

abbrev pub prop_at : Data → Option Prop
prop_at d = option_and_then prop_in (text_at (codes "prop") d)

abbrev pub task_at : Data → Option Task
task_at d = option_and_then (λ prop. option_and_then (λ word. task_in word prop) (text_at (codes "kind") d)) (prop_at d)

abbrev pub line_of : Kids → GroupId → Task → Line
line_of kids group task = record { kids = kids; group = group; task = task }

-- with exactly the keys `children`, `group`, `kind` and `prop`
abbrev pub line_in : Data → Option Line
line_in d =
    if has_four d then option_and_then (λ kids. option_and_then (λ group. option_map (line_of kids group) (task_at d)) (group_at d)) (kids_at d)
    else None
