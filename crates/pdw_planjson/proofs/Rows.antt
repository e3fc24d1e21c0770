-- Files worked by hand: what each describes, or the place of its first fault.
use Rattle.std.proofs.Common.{◌≡◌, ℕ, List, [], ◌∷◌, codes, map, Option, Some, None, Result, Ok, Err, refl}
use Rattle.serde_json.specs.Data.{Data, array, null, number, object, string, unsigned, member, no_members}
use Rattle.serde_json.specs.View.{items_of}
use Rattle.pdw_groups.specs.declared.key.GroupId.{GroupId}
use Rattle.pdw_move.specs.declared.kinds.Move.TheVariants.{ToSingle}
use Rattle.pdw_move.specs.declared.kinds.Prop.TheVariants.{Single, Spread}
use Rattle.pdw_planjson.specs.Bounds.{bound_in}
use Rattle.pdw_planjson.specs.File.{described}
use Rattle.pdw_planjson.specs.Numerals.{is_numeral, number_in}
use Rattle.pdw_planjson.specs.Words.{move_named, prop_in, task_in}
use Rattle.pdw_planjson.specs.declared.file.Place.{Place}
use Rattle.pdw_planjson.specs.declared.file.Place.TheVariants.{Top, Node, Bound}
use Rattle.pdw_planjson.specs.declared.file.PlanFile.{PlanFile}
use Rattle.pdw_ways.specs.declared.plan.Plan.TheVariants.{Moved, Op, Scan}

abbrev list : List Data → Data
list ds = array (items_of ds)

abbrev whole : ℕ → Data
whole n = number (unsigned n)

abbrev node : List ℕ → ℕ → List ℕ → List ℕ → Data
node kids group kind prop =
    object (member (codes "children") (list (map whole kids)) (member (codes "group") (whole group) (member (codes "kind") (string kind) (member (codes "prop") (string prop) no_members))))

abbrev file : List Data → List ℕ → List Data → ℕ → Data
file bounds cost nodes version =
    object (member (codes "bounds") (list bounds) (member (codes "cost") (string cost) (member (codes "nodes") (list nodes) (member (codes "version") (whole version) no_members))))

-- SELECT COUNT(*) of a table that is spread: partial rows are counted at the nodes, and moved to one
abbrev nodes : List Data
nodes =
    node [] 0 (codes "scan") (codes "spread") ∷ node (0 ∷ []) 1 (codes "op") (codes "spread") ∷ node (1 ∷ []) 1 (codes "tosingle") (codes "single")
    ∷ node (2 ∷ []) 2 (codes "op") (codes "single") ∷ node (3 ∷ []) 3 (codes "op") (codes "single") ∷ []

abbrev bounds : List Data
bounds = list (string (codes "0") ∷ string (codes "4000") ∷ string (codes "none") ∷ []) ∷ list [] ∷ []

abbrev group : ℕ → GroupId
group n = record { 0 = n }

described-whole : described (file bounds (codes "192") nodes 1)
    ≡ Ok (record {
      plan = Op (group 3) Single (Op (group 2) Single (Moved ToSingle (Op (group 1) Spread (Scan (group 0) Spread ∷ [])) ∷ []) ∷ []);
      bounds = record { lists = (Some 0 ∷ Some 4000 ∷ None ∷ []) ∷ [] ∷ [] };
      cost = 192;
    })
unfolding bound_in is_numeral number_in move_named prop_in task_in
described-whole = refl

-- ---- the file as a whole

no-object : described null ≡ Err Top
no-object = refl

other-version : described (file bounds (codes "192") nodes 2) ≡ Err Top
other-version = refl

leading-zero : described (file bounds (codes "0192") nodes 1) ≡ Err Top
unfolding is_numeral number_in
leading-zero = refl

no-node : described (file bounds (codes "192") [] 1) ≡ Err Top
unfolding is_numeral number_in
no-node = refl

-- ---- nodes

abbrev of-nodes : List Data → Result PlanFile Place
of-nodes some = described (file [] (codes "0") some 1)

operator-over-nothing : of-nodes (node [] 0 (codes "op") (codes "spread") ∷ []) ≡ Err (Node 0)
unfolding is_numeral number_in move_named prop_in task_in
operator-over-nothing = refl

-- a move of another property than the one that it gives
wrong-property : of-nodes (node [] 0 (codes "scan") (codes "spread") ∷ node (0 ∷ []) 0 (codes "tosingle") (codes "control") ∷ []) ≡ Err (Node 1)
unfolding is_numeral number_in move_named prop_in task_in
wrong-property = refl

-- a move of another group than its child's
wrong-group : of-nodes (node [] 0 (codes "scan") (codes "spread") ∷ node (0 ∷ []) 1 (codes "tosingle") (codes "single") ∷ []) ≡ Err (Node 1)
unfolding is_numeral number_in move_named prop_in task_in
wrong-group = refl

-- a child that is not the last entry of the stack
wrong-child : of-nodes (node [] 0 (codes "scan") (codes "spread") ∷ node [] 1 (codes "scan") (codes "spread") ∷ node (0 ∷ []) 2 (codes "op") (codes "spread") ∷ []) ≡ Err (Node 2)
unfolding is_numeral number_in move_named prop_in task_in
wrong-child = refl

-- two plans
two-roots : of-nodes (node [] 0 (codes "scan") (codes "spread") ∷ node [] 1 (codes "scan") (codes "spread") ∷ []) ≡ Err (Node 1)
unfolding is_numeral number_in move_named prop_in task_in
two-roots = refl

-- ---- bounds

abbrev of-bounds : List Data → Result PlanFile Place
of-bounds some = described (file some (codes "0") (node [] 0 (codes "scan") (codes "spread") ∷ []) 1)

no-list : of-bounds (list [] ∷ string (codes "none") ∷ []) ≡ Err (Bound 1)
unfolding bound_in is_numeral number_in move_named prop_in task_in
no-list = refl

no-bound : of-bounds (list (string (codes "1") ∷ string (codes "nil") ∷ []) ∷ []) ≡ Err (Bound 0)
unfolding bound_in is_numeral number_in move_named prop_in task_in
no-bound = refl
