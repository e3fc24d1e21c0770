-- What a plan file describes, or the first place at which it breaks a rule: the file as a whole, then its nodes, then its bounds.
use Rattle.std.specs.Prelude.{◌≡◌, ◌==◌, ◌&&◌, ◌-◌, ⊤, ℕ, Bool, false, List, [], ◌∷◌, length, Option, Some, None, Result, Ok, Err, IsUtf8, codes, nat_le, nat_lt, option_and_then, if◌then◌else◌}
use Rattle.serde_json.specs.Data.{Data}
use Rattle.serde_json.specs.Read.{read}
use Rattle.pdw_planjson.specs.Bounds.{bounds_in}
use Rattle.pdw_planjson.specs.Keys.{has_four, list_at, text_at, whole_at}
use Rattle.pdw_planjson.specs.Numerals.{number_in}
use Rattle.pdw_planjson.specs.Stack.{added, run}
use Rattle.pdw_planjson.specs.declared.file.JsonFault.{JsonFault}
use Rattle.pdw_planjson.specs.declared.file.JsonFault.TheVariants.{NotJson, Shape, Memory}
use Rattle.pdw_planjson.specs.declared.file.Place.{Place}
use Rattle.pdw_planjson.specs.declared.file.Place.TheVariants.{Top, Node}
use Rattle.pdw_planjson.specs.declared.file.PlanFile.{PlanFile}
use Rattle.pdw_planjson.specs.declared.stack.Entry.{Entry}
use Rattle.pdw_ways.specs.declared.plan.Bounds.{Bounds}
use Rattle.pdw_ways.specs.declared.plan.Plan.{Plan}

-- ---- nodes

-- at the end one entry is left; where more are, the place is the last node
abbrev pub root_of : ℕ → List Entry → Result Plan Place
root_of nodes [] = Err (Node (nodes - 1))
root_of nodes (root ∷ []) = Ok root.plan
root_of nodes (top ∷ next ∷ more) = Err (Node (nodes - 1))

abbrev pub root_or_place : ℕ → Result (List Entry) ℕ → Result Plan Place
root_or_place nodes (Ok stack) = root_of nodes stack
root_or_place nodes (Err number) = Err (Node number)

abbrev pub plan_in : List Data → Result Plan Place
plan_in ds = root_or_place (length ds) (run added 0 ds [])

-- ---- the whole

abbrev pub is_one : Option ℕ → Bool
is_one None = false
is_one (Some version) = version == 1

-- the keys `bounds`, `cost`, `nodes` and `version`, with version 1
abbrev pub has_head : Data → Bool
has_head d = has_four d && is_one (whole_at (codes "version") d)

abbrev pub cost_at : Data → Option ℕ
cost_at d = option_and_then number_in (text_at (codes "cost") d)

abbrev pub with_bounds : ℕ → Plan → Result Bounds Place → Result PlanFile Place
with_bounds cost plan (Ok bounds) = Ok (record { plan = plan; bounds = bounds; cost = cost })
with_bounds cost plan (Err place) = Err place

abbrev pub with_plan : ℕ → List Data → Result Plan Place → Result PlanFile Place
with_plan cost bounds (Ok plan) = with_bounds cost plan (bounds_in bounds)
with_plan cost bounds (Err place) = Err place

-- 1 to 16,384 nodes
abbrev pub is_number_of_nodes : ℕ → Bool
is_number_of_nodes nodes = nat_lt 0 nodes && nat_le nodes 16384

abbrev pub described_parts : Option ℕ → Option (List Data) → Option (List Data) → Result PlanFile Place
described_parts None nodes bounds = Err Top
described_parts (Some cost) None bounds = Err Top
described_parts (Some cost) (Some nodes) None = Err Top
described_parts (Some cost) (Some nodes) (Some bounds) = if is_number_of_nodes (length nodes) then with_plan cost bounds (plan_in nodes) else Err Top

abbrev pub described : Data → Result PlanFile Place
described d = if has_head d then described_parts (cost_at d) (list_at (codes "nodes") d) (list_at (codes "bounds") d) else Err Top

-- ---- what may be answered to bytes; want of memory says nothing

abbrev pub Answers : List ℕ → Result PlanFile JsonFault → Type 0
Answers bytes (Ok file) = IsUtf8 bytes × ((d : Data) × (read bytes ≡ Some d) × (described d ≡ Ok file))
Answers bytes (Err NotJson) = IsUtf8 bytes → read bytes ≡ None
Answers bytes (Err (Shape place)) = IsUtf8 bytes × ((d : Data) × (read bytes ≡ Some d) × (described d ≡ Err place))
Answers bytes (Err Memory) = ⊤
