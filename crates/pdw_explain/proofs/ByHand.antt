-- The lines of the plan that counts the rows of a table: each node's partial count is moved to one node, where they are put
-- together. Worked out by hand.
use Rattle.std.proofs.Common.{◌≡◌, ◌==◌, ℕ, List, [], ◌∷◌, codes, Some, None, false, refl, if◌then◌else◌}
use Rattle.pdw_answer.specs.declared.plan_text.MoveFlow.{MoveFlow}
use Rattle.pdw_answer.specs.declared.plan_text.PlanLine.{PlanLine}
use Rattle.pdw_answer.specs.declared.plan_text.PlanWord.{PlanWord}
use Rattle.pdw_answer.specs.declared.plan_text.PlanWord.TheVariants as word
use Rattle.pdw_base.specs.declared.schema.ColId.{ColId}
use Rattle.pdw_base.specs.declared.value.Kind.TheVariants as kinds
use Rattle.pdw_explain.specs.Lines.{Explained, Flows, explained_step}
use Rattle.pdw_expr.specs.declared.agg.Agg.{Agg}
use Rattle.pdw_expr.specs.declared.agg.AggKind.TheVariants.{CountStar}
use Rattle.pdw_groups.specs.declared.group.Group.{Group}
use Rattle.pdw_groups.specs.declared.key.GroupId.{GroupId}
use Rattle.pdw_groups.specs.declared.key.GroupKey.TheVariants as key
use Rattle.pdw_groups.specs.declared.op.Op.TheVariants as op
use Rattle.pdw_move.specs.declared.kinds.Move.TheVariants as move
use Rattle.pdw_move.specs.declared.kinds.Prop.{Prop}
use Rattle.pdw_move.specs.declared.kinds.Prop.TheVariants as prop
use Rattle.pdw_ways.specs.declared.plan.Plan.TheOpen.{Plan-F}

abbrev g : ℕ → GroupId
g number = record { 0 = number }

abbrev counted : ColId
counted = record { 0 = 0 }

abbrev counts : List Agg
counts = record { kind = CountStar; arg = None; out = counted } ∷ []

-- the scan, the partial counts, the count by either way, and the project
abbrev groups : List Group
groups =
    record { key = key.Whole 0; schema = []; interesting = []; exprs = record { op = op.Scan (codes "events") (codes "e") [] None false; children = [] } ∷ [] }
    ∷ record { key = key.Partial 1; schema = []; interesting = []; exprs = record { op = op.Partial [] counts; children = g 0 ∷ [] } ∷ [] }
    ∷ record {
      key = key.Whole 1;
      schema = (counted, kinds.Int) ∷ [];
      interesting = [];
      exprs = record { op = op.GroupBy [] counts; children = g 0 ∷ [] } ∷ record { op = op.Final [] counts; children = g 1 ∷ [] } ∷ [];
    }
    ∷ record { key = key.Whole 2; schema = (counted, kinds.Int) ∷ []; interesting = []; exprs = record { op = op.Project ((counted, None) ∷ []); children = g 2 ∷ [] } ∷ [] }
    ∷ []

-- four partial counts of 16 bytes, and 1,000 rows of one byte of each other group
abbrev counts_flow : MoveFlow
counts_flow = record { rows = 4; width = 16; cost = 192 }

abbrev rows_flow : MoveFlow
rows_flow = record { rows = 1000; width = 1; cost = 3000 }

abbrev flows : Flows
flows group mv = if group.0 == 1 then counts_flow else rows_flow

abbrev node : Plan-F Explained → Explained
node = explained_step groups flows

abbrev count : Explained
count =
    node (Plan-F.Op (g 3) prop.Single (node (Plan-F.Op (g 2) prop.Single (node (Plan-F.Moved move.ToSingle (node (Plan-F.Op (g 1) prop.Spread (node (Plan-F.Scan (g 0) prop.Spread) ∷ [])))) ∷ [])) ∷ []))

abbrev line : ℕ → PlanWord → ℕ → Prop → PlanLine
line depth does group stands = record { depth = depth; word = does; group = group; alias = None; prop = stands; flow = None }

lines : count.lines 0
    ≡ line 0 word.Project 3 prop.Single
    ∷ line 1 word.Final 2 prop.Single
    ∷ record { depth = 2; word = word.ToSingle; group = 1; alias = None; prop = prop.Single; flow = Some counts_flow }
    ∷ line 3 word.Partial 1 prop.Spread
    ∷ record { depth = 4; word = word.Scan; group = 0; alias = Some (codes "e"); prop = prop.Spread; flow = None }
    ∷ []
lines = refl

-- without a grouping in parts the rows are moved and then grouped
abbrev whole : Explained
whole = node (Plan-F.Op (g 2) prop.Single (node (Plan-F.Moved move.ToSingle (node (Plan-F.Free prop.Spread (node (Plan-F.Scan (g 0) (prop.Hash counted)))))) ∷ []))

whole-lines : whole.lines 0
    ≡ line 0 word.Group 2 prop.Single
    ∷ record { depth = 1; word = word.ToSingle; group = 0; alias = None; prop = prop.Single; flow = Some rows_flow }
    ∷ line 2 word.Free 0 prop.Spread
    ∷ record { depth = 3; word = word.Scan; group = 0; alias = Some (codes "e"); prop = prop.Hash counted; flow = None }
    ∷ []
whole-lines = refl
