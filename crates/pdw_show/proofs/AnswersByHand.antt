-- Texts of answers that were worked out by hand.
use Rattle.std.proofs.Common.{◌≡◌, ℕ, pos, negsuc, List, [], ◌∷◌, codes, Some, None, refl}
use Rattle.std.specs.Fmt.{digits}
use Rattle.pdw_answer.specs.declared.answer.Answer.TheVariants.{Done, Loaded, Rows, Plan, Json, Profile, Checked}
use Rattle.pdw_answer.specs.declared.answer.PlanVerdict.TheVariants as verdict
use Rattle.pdw_answer.specs.declared.plan_text.MoveFlow.{MoveFlow}
use Rattle.pdw_answer.specs.declared.plan_text.PlanLine.{PlanLine}
use Rattle.pdw_answer.specs.declared.plan_text.PlanWord.{PlanWord}
use Rattle.pdw_answer.specs.declared.plan_text.PlanWord.TheVariants as word
use Rattle.pdw_base.specs.declared.node.Node.TheVariants.{Compute, Control}
use Rattle.pdw_base.specs.declared.value.Value.TheVariants.{Null, Int, Text}
use Rattle.pdw_move.specs.declared.kinds.Move.TheVariants as move
use Rattle.pdw_move.specs.declared.kinds.Prop.{Prop}
use Rattle.pdw_move.specs.declared.kinds.Prop.TheVariants as prop
use Rattle.pdw_planjson.specs.declared.file.JsonFault.TheVariants as json
use Rattle.pdw_planjson.specs.declared.file.Place.TheVariants as place
use Rattle.pdw_show.specs.Answer.{shown_answer}
use Rattle.pdw_show.specs.Plan.{line_text}
use Rattle.pdw_ways.specs.declared.plan.CheckFault.TheVariants as check

-- ---- statements that change the tables

changed : shown_answer Done ≡ codes "OK\n"
changed = refl

three-loaded : shown_answer (Loaded 3) ≡ codes "LOADED 3\n"
unfolding digits
three-loaded = refl

-- ---- SELECT

quotes : shown_answer (Rows (record {
  names = codes "a" ∷ codes "b" ∷ [];
  rows = (Int (pos 1) ∷ Text (codes "a \"q\"") ∷ []) ∷ (Int (pos 2) ∷ Text (codes "x") ∷ []) ∷ [];
})) ≡ codes "a,b\n1,\"a \"\"q\"\"\"\n2,\"x\"\nROWS 2\n"
unfolding digits
quotes = refl

nulls : shown_answer (Rows (record {
  names = codes "k" ∷ codes "col2" ∷ codes "col3" ∷ [];
  rows = (Int (pos 0) ∷ Null ∷ Int (negsuc 2) ∷ []) ∷ [];
})) ≡ codes "k,col2,col3\n0,NULL,-3\nROWS 1\n"
unfolding digits
nulls = refl

none : shown_answer (Rows (record { names = codes "a" ∷ []; rows = [] })) ≡ codes "a\nROWS 0\n"
unfolding digits
none = refl

-- ---- EXPLAIN

abbrev line : ℕ → PlanWord → ℕ → Prop → PlanLine
line depth does group stands = record { depth = depth; word = does; group = group; alias = None; prop = stands; flow = None }

abbrev moved : ℕ → PlanWord → ℕ → Prop → MoveFlow → PlanLine
moved depth does group stands flow = record { depth = depth; word = does; group = group; alias = None; prop = stands; flow = Some flow }

-- the number of rows of a table at four nodes, by partial counts
abbrev counting : List PlanLine
counting =
    line 0 word.Project 3 prop.Single
    ∷ line 1 word.Final 2 prop.Single
    ∷ moved 2 word.ToSingle 1 prop.Single (record { rows = 4; width = 16; cost = 192 })
    ∷ line 3 word.Partial 1 prop.Spread
    ∷ record { depth = 4; word = word.Scan; group = 0; alias = Some (codes "e"); prop = prop.Spread; flow = None }
    ∷ []

explained : shown_answer (Plan (record { cost = 192; lines = counting }))
    ≡ codes "COST 192\nPROJECT G3 SINGLE\n  FINAL G2 SINGLE\n    TOSINGLE G1 SINGLE ROWS 4 WIDTH 16 COST 192\n      PARTIAL G1 SPREAD\n        SCAN G0 e SPREAD\n"
unfolding digits
explained = refl

broadcast : line_text (moved 0 word.Broadcast 1 prop.Replicated (record { rows = 100; width = 16; cost = 6400 })) ≡ codes "BROADCAST G1 REPLICATED ROWS 100 WIDTH 16 COST 6400\n"
unfolding digits
broadcast = refl

shuffle : line_text (moved 0 word.Shuffle 0 (prop.Hash (record { 0 = 0 })) (record { rows = 1000; width = 16; cost = 32000 })) ≡ codes "SHUFFLE G0 HASH(0) ROWS 1000 WIDTH 16 COST 32000\n"
unfolding digits
shuffle = refl

-- ---- EXPLAIN JSON

file : shown_answer (Json (codes "{}")) ≡ codes "{}\n"
file = refl

-- ---- PROFILE

-- each of four nodes sends its partial count to the first, and no other pair has a row
profiled : shown_answer (Profile (record {
  cost = 192;
  steps =
      record {
        mv = move.ToSingle;
        sent = (Compute 0, Compute 0, 1) ∷ (Compute 0, Compute 1, 0) ∷ (Compute 1, Compute 0, 1) ∷ (Compute 2, Compute 0, 1) ∷ (Compute 3, Compute 0, 1) ∷ (Control, Compute 0, 0) ∷ [];
        events = 16;
      }
      ∷ [];
  table = record { names = codes "col1" ∷ []; rows = (Int (pos 1) ∷ []) ∷ [] };
})) ≡ codes "COST 192\nSTEP 1 TOSINGLE ROWS 4 EVENTS 16\nSENT 0 0 1\nSENT 1 0 1\nSENT 2 0 1\nSENT 3 0 1\ncol1\n1\nROWS 1\n"
unfolding digits
profiled = refl

-- the control node's rows go to both compute nodes, and back
both-ways : shown_answer (Profile (record {
  cost = 7;
  steps =
      record { mv = move.FromControl; sent = (Control, Compute 0, 2) ∷ (Control, Compute 1, 2) ∷ []; events = 16 }
      ∷ record { mv = move.ToControl; sent = (Compute 0, Control, 2) ∷ (Compute 1, Control, 2) ∷ []; events = 10 }
      ∷ [];
  table = record { names = codes "a" ∷ []; rows = [] };
})) ≡ codes "COST 7\nSTEP 1 FROMCONTROL ROWS 4 EVENTS 16\nSENT C 0 2\nSENT C 1 2\nSTEP 2 TOCONTROL ROWS 4 EVENTS 10\nSENT 0 C 2\nSENT 1 C 2\na\nROWS 0\n"
unfolding digits
both-ways = refl

-- ---- CHECK PLAN

accepted : shown_answer (Checked (verdict.Accepted 192)) ≡ codes "PLAN ACCEPTED COST 192\n"
unfolding digits
accepted = refl

too-high : shown_answer (Checked (verdict.Check (check.BoundTooHigh 3 prop.Single (Some 193) 192))) ≡ codes "PLAN REFUSED BOUNDTOOHIGH G3 SINGLE BOUND 193 LIMIT 192\n"
unfolding digits
too-high = refl

too-low : shown_answer (Checked (verdict.Check (check.NotTight 192 (Some 191)))) ≡ codes "PLAN REFUSED NOTTIGHT COST 192 BOUND 191\n"
unfolding digits
too-low = refl

wrong-cost : shown_answer (Checked (verdict.Check (check.WrongCost 191 192))) ≡ codes "PLAN REFUSED WRONGCOST WRITTEN 191 COMPUTED 192\n"
unfolding digits
wrong-cost = refl

not-used : shown_answer (Checked (verdict.Check (check.BoundTooHigh 0 prop.Control (Some 6001) 6000))) ≡ codes "PLAN REFUSED BOUNDTOOHIGH G0 CONTROL BOUND 6001 LIMIT 6000\n"
unfolding digits
not-used = refl

unreachable : shown_answer (Checked (verdict.Check (check.BoundTooHigh 2 (prop.Hash (record { 0 = 4 })) None 7))) ≡ codes "PLAN REFUSED BOUNDTOOHIGH G2 HASH(4) BOUND NONE LIMIT 7\n"
unfolding digits
unreachable = refl

never-tight : shown_answer (Checked (verdict.Check (check.NotTight 5 None))) ≡ codes "PLAN REFUSED NOTTIGHT COST 5 BOUND NONE\n"
unfolding digits
never-tight = refl

plan-shape : shown_answer (Checked (verdict.Check (check.PlanShape 4))) ≡ codes "PLAN REFUSED PLANSHAPE 4\n"
unfolding digits
plan-shape = refl

bound-shape : shown_answer (Checked (verdict.Check (check.BoundShape 1))) ≡ codes "PLAN REFUSED BOUNDSHAPE 1\n"
unfolding digits
bound-shape = refl

no-json : shown_answer (Checked (verdict.Json json.NotJson)) ≡ codes "PLAN REFUSED NOTJSON\n"
no-json = refl

top : shown_answer (Checked (verdict.Json (json.Shape place.Top))) ≡ codes "PLAN REFUSED SHAPE TOP\n"
top = refl

of-node : shown_answer (Checked (verdict.Json (json.Shape (place.Node 3)))) ≡ codes "PLAN REFUSED SHAPE NODE 3\n"
unfolding digits
of-node = refl

of-bound : shown_answer (Checked (verdict.Json (json.Shape (place.Bound 2)))) ≡ codes "PLAN REFUSED SHAPE BOUND 2\n"
unfolding digits
of-bound = refl
