-- The rules and the moves on small cases, worked out by hand.
use Rattle.std.proofs.Common.{◌≡◌, ℕ, ◌==◌, pos, Bool, true, false, None, Some, Option, List, [], ◌∷◌, map, filter, refl, if◌then◌else◌}
use Rattle.pdw_base.specs.Schema.{Env}
use Rattle.pdw_base.specs.declared.node.Node.TheVariants as node
use Rattle.pdw_base.specs.declared.schema.ColId.{ColId}
use Rattle.pdw_base.specs.declared.value.Value.TheVariants.{Int}
use Rattle.pdw_expr.specs.declared.agg.JoinKind.TheVariants as joins
use Rattle.pdw_expr.specs.declared.agg.JoinKind.{JoinKind}
use Rattle.pdw_expr.specs.declared.scalar.Scalar.{Scalar}
use Rattle.pdw_move.specs.declared.kinds.Move.TheVariants as moves
use Rattle.pdw_move.specs.declared.kinds.Move.{Move}
use Rattle.pdw_move.specs.declared.kinds.Prop.TheVariants.{Spread, Hash, Replicated, Single, Control}
use Rattle.pdw_move.specs.declared.kinds.Prop.{Prop}
use Rattle.pdw_rules.specs.Rules.{group_rule, is_free, join_rule, partial_rule, project_rule, properties_of, scan_rule}
use Rattle.pdw_rules.specs.Stands.{PlacedRows, after_move}

-- ---- rules

abbrev first : ColId
first = record { 0 = 0 }

abbrev second : ColId
second = record { 0 = 1 }

abbrev all : List Prop
all = properties_of (first ∷ second ∷ [])

in_order : all ≡ Spread ∷ Hash first ∷ Hash second ∷ Replicated ∷ Single ∷ Control ∷ []
in_order = refl

-- the results that a rule gives for each property of the child
abbrev table : (Prop → Prop → Bool) → List (List Prop)
table rule = map (λ p. filter (rule p) all) all

-- each property, and a side that each node has
abbrev kept : List (List Prop)
kept = (Spread ∷ []) ∷ (Hash first ∷ []) ∷ (Hash second ∷ []) ∷ (Replicated ∷ []) ∷ (Single ∷ []) ∷ [] ∷ []

abbrev replicated_alone : List (List Prop)
replicated_alone = [] ∷ [] ∷ [] ∷ (Replicated ∷ []) ∷ [] ∷ [] ∷ []

abbrev join : JoinKind → Prop → Prop → Prop → Bool
join kind p q result = join_rule kind [] p q result

inner_right : table (λ p. join joins.Inner p Replicated) ≡ kept
inner_right = refl

inner_left : table (λ q. join joins.Inner Replicated q) ≡ kept
inner_left = refl

left_right : table (λ p. join joins.Left p Replicated) ≡ kept
left_right = refl

left_left : table (λ q. join joins.Left Replicated q) ≡ replicated_alone
left_left = refl

semi_right : table (λ p. join joins.Semi p Replicated) ≡ kept
semi_right = refl

anti_left : table (λ q. join joins.Anti Replicated q) ≡ replicated_alone
anti_left = refl

full_right : table (λ p. join joins.Full p Replicated) ≡ replicated_alone
full_right = refl

full_left : table (λ q. join joins.Full Replicated q) ≡ replicated_alone
full_left = refl

-- no conjunct compares the columns
no_match : table (λ p. join joins.Inner p (Hash second)) ≡ [] ∷ [] ∷ [] ∷ (Hash second ∷ []) ∷ [] ∷ [] ∷ []
no_match = refl

at_one_node : table (λ p. join joins.Full p Single) ≡ [] ∷ [] ∷ [] ∷ [] ∷ (Single ∷ []) ∷ [] ∷ []
at_one_node = refl

at_control : table (λ p. join joins.Left p Control) ≡ [] ∷ [] ∷ [] ∷ [] ∷ [] ∷ (Control ∷ []) ∷ []
at_control = refl

by_first : table (group_rule (first ∷ [])) ≡ [] ∷ (Hash first ∷ []) ∷ [] ∷ (Replicated ∷ []) ∷ (Single ∷ []) ∷ (Control ∷ []) ∷ []
by_first = refl

without_keys : table (group_rule []) ≡ [] ∷ [] ∷ [] ∷ (Replicated ∷ []) ∷ (Single ∷ []) ∷ (Control ∷ []) ∷ []
without_keys = refl

partial_by_first : table (partial_rule (first ∷ [])) ≡ (Spread ∷ []) ∷ (Hash first ∷ []) ∷ (Spread ∷ []) ∷ (Replicated ∷ []) ∷ (Single ∷ []) ∷ (Control ∷ []) ∷ []
partial_by_first = refl

abbrev first_item : List (ColId × Option Scalar)
first_item = (first, None) ∷ []

projected_to_first : table (project_rule first_item) ≡ (Spread ∷ []) ∷ (Hash first ∷ []) ∷ (Spread ∷ []) ∷ (Replicated ∷ []) ∷ (Single ∷ []) ∷ (Control ∷ []) ∷ []
projected_to_first = refl

free : table is_free ≡ [] ∷ (Spread ∷ []) ∷ (Spread ∷ []) ∷ (Single ∷ []) ∷ [] ∷ [] ∷ []
free = refl

scans : map (λ hash. filter (scan_rule hash false) all) (Some first ∷ None ∷ []) ≡ (Hash first ∷ []) ∷ (Spread ∷ []) ∷ []
scans = refl

replicated_scan : filter (scan_rule None true) all ≡ Replicated ∷ []
replicated_scan = refl

-- ---- moves, at two compute nodes: a row of 1 at the first and one of 2 at the second

abbrev row : ℕ → Env
row value c = Int (pos value)

abbrev rows : PlacedRows
rows (node.Compute k) = if k == 0 then row 1 ∷ [] else (if k == 1 then row 2 ∷ [] else [])
rows node.Control = []

-- what stands at the two compute nodes and at the control node
abbrev outcome : Move → PlacedRows → List (List Env)
outcome move placed = map (after_move 2 move placed) (node.Compute 0 ∷ node.Compute 1 ∷ node.Control ∷ [])

shuffled : outcome (moves.Shuffle first) rows ≡ (row 2 ∷ []) ∷ (row 1 ∷ []) ∷ [] ∷ []
shuffled = refl

to_single : outcome moves.ToSingle rows ≡ (row 1 ∷ row 2 ∷ []) ∷ [] ∷ [] ∷ []
to_single = refl

to_control : outcome moves.ToControl rows ≡ [] ∷ [] ∷ (row 1 ∷ row 2 ∷ []) ∷ []
to_control = refl

broadcast : outcome moves.Broadcast rows ≡ (row 1 ∷ row 2 ∷ []) ∷ (row 1 ∷ row 2 ∷ []) ∷ [] ∷ []
broadcast = refl

abbrev everywhere : PlacedRows
everywhere (node.Compute k) = row 1 ∷ row 2 ∷ []
everywhere node.Control = []

trimmed : outcome (moves.Trim first) everywhere ≡ (row 2 ∷ []) ∷ (row 1 ∷ []) ∷ [] ∷ []
trimmed = refl

abbrev controlled : PlacedRows
controlled (node.Compute k) = []
controlled node.Control = row 1 ∷ []

from_control : outcome moves.FromControl controlled ≡ (row 1 ∷ []) ∷ (row 1 ∷ []) ∷ [] ∷ []
from_control = refl

abbrev single : PlacedRows
single (node.Compute k) = if k == 0 then row 1 ∷ [] else []
single node.Control = []

from_single : outcome moves.FromSingle single ≡ (row 1 ∷ []) ∷ (row 1 ∷ []) ∷ [] ∷ []
from_single = refl
