-- The data of a plan file: its plan's nodes with their numbers, children first, its bounds and its cost.
use Rattle.std.specs.Prelude.{ℕ, ◌+◌, List, [], ◌∷◌, ◌++◌, map, Option, Some, None, codes, decimal}
use Rattle.serde_json.specs.Data.{Data, array, number, object, string, unsigned, member, no_members}
use Rattle.serde_json.specs.View.{items_of}
use Rattle.pdw_groups.specs.declared.key.GroupId.{GroupId}
use Rattle.pdw_move.specs.Move.{property_after}
use Rattle.pdw_move.specs.declared.kinds.Move.{Move}
use Rattle.pdw_move.specs.declared.kinds.Move.TheVariants as move
use Rattle.pdw_move.specs.declared.kinds.Prop.{Prop}
use Rattle.pdw_move.specs.declared.kinds.Prop.TheVariants as prop
use Rattle.pdw_planjson.specs.declared.file.PlanFile.{PlanFile}
use Rattle.pdw_planjson.specs.declared.line.Task.{Task}
use Rattle.pdw_planjson.specs.declared.line.Task.TheVariants as task
use Rattle.pdw_ways.specs.declared.plan.Plan.{Plan}
use Rattle.pdw_ways.specs.declared.plan.Plan.TheFolds.{fold-Plan}
use Rattle.pdw_ways.specs.declared.plan.Plan.TheOpen.{Plan-F}

-- ---- words

abbrev pub prop_word : Prop → List ℕ
prop_word prop.Spread = codes "spread"
prop_word (prop.Hash c) = codes "hash:" ++ decimal c.0
prop_word prop.Replicated = codes "replicated"
prop_word prop.Single = codes "single"
prop_word prop.Control = codes "control"

abbrev pub move_word : Move → List ℕ
move_word (move.Shuffle c) = codes "shuffle"
move_word move.ToSingle = codes "tosingle"
move_word move.ToControl = codes "tocontrol"
move_word move.Broadcast = codes "broadcast"
move_word (move.Trim c) = codes "trim"
move_word move.FromControl = codes "fromcontrol"
move_word move.FromSingle = codes "fromsingle"

abbrev pub kind_word : Task → List ℕ
kind_word (task.Scan prop) = codes "scan"
kind_word (task.Op prop) = codes "op"
kind_word (task.Free to) = codes "free"
kind_word (task.Move mv) = move_word mv

-- the property under which a node's rows stand
abbrev pub prop_of : Task → Prop
prop_of (task.Scan prop) = prop
prop_of (task.Op prop) = prop
prop_of (task.Free to) = to
prop_of (task.Move mv) = property_after mv

-- ---- nodes

abbrev pub whole : ℕ → Data
whole n = number (unsigned n)

-- over the numbers of its children
abbrev pub node_data : List Data → GroupId → Task → Data
node_data kids group task =
    object (member (codes "children") (array (items_of kids)) (member (codes "group") (whole group.0) (member (codes "kind") (string (kind_word task)) (member (codes "prop") (string (prop_word (prop_of task))) no_members))))

-- a plan: the group of its root, how many nodes stand before that, and its nodes, with numbers from a given one on
pub record Listing : Type 0 where
  pub group : GroupId
  pub before : ℕ
  pub nodes : ℕ → List Data

-- the numbers of the roots of plans that stand one after another
abbrev pub roots : ℕ → List Listing → List Data
roots start [] = []
roots start (child ∷ more) = whole (start + child.before) ∷ roots (start + child.before + 1) more

abbrev pub nodes_of_all : ℕ → List Listing → List Data
nodes_of_all start [] = []
nodes_of_all start (child ∷ more) = child.nodes start ++ nodes_of_all (start + child.before + 1) more

abbrev pub count_of_all : List Listing → ℕ
count_of_all [] = 0
count_of_all (child ∷ more) = child.before + 1 + count_of_all more

-- a node after its children
abbrev pub listed_over : List Listing → GroupId → Task → Listing
listed_over children group task = record {
  group = group;
  before = count_of_all children;
  nodes = λ start. nodes_of_all start children ++ node_data (roots start children) group task ∷ [];
}

abbrev pub listing_step : Plan-F Listing → Listing
listing_step (Plan-F.Scan group prop) = listed_over [] group (task.Scan prop)
listing_step (Plan-F.Op group prop children) = listed_over children group (task.Op prop)
listing_step (Plan-F.Moved mv child) = listed_over (child ∷ []) child.group (task.Move mv)
listing_step (Plan-F.Free to child) = listed_over (child ∷ []) child.group (task.Free to)

abbrev pub listing : Plan → Listing
listing = fold-Plan Listing listing_step

-- ---- bounds

abbrev pub bound_word : Option ℕ → List ℕ
bound_word None = codes "none"
bound_word (Some bound) = decimal bound

abbrev pub bound_data : Option ℕ → Data
bound_data bound = string (bound_word bound)

abbrev pub list_data : List (Option ℕ) → Data
list_data bounds = array (items_of (map bound_data bounds))

-- ---- the whole

abbrev pub file_data : PlanFile → Data
file_data file =
    object (member (codes "bounds") (array (items_of (map list_data file.bounds.lists))) (member (codes "cost") (string (decimal file.cost)) (member (codes "nodes") (array (items_of ((listing file.plan).nodes 0))) (member (codes "version") (whole 1) no_members))))
