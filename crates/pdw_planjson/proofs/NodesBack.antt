-- A node's data read back as the node, and take its children's place.
use Rattle.std.proofs.Common.{◌≡◌, ℕ, ◌<◌, ◌≤◌, ◌+◌, ◌^◌, ◌==◌, ◌&&◌, List, [], ◌∷◌, ◌++◌, codes, decimal, max, nat_le, nat_lt, cond, Bool, true, false, true≢false, Option, Some, None, option_and_then, option_map, refl, sym, ap, ◌∙◌, arith}
use Rattle.std.proofs.lemmas.Bool.{and_from, eq-eqb, leb-true, lt-ltb, ltb-true}
use Rattle.serde_json.specs.Data.{Data}
use Rattle.pdw_base.specs.declared.schema.ColId.{ColId}
use Rattle.pdw_groups.specs.declared.key.GroupId.{GroupId}
use Rattle.pdw_move.specs.declared.kinds.Move.TheVariants as move
use Rattle.pdw_move.specs.declared.kinds.Prop.{Prop}
use Rattle.pdw_move.specs.declared.kinds.Prop.TheVariants as prop
use Rattle.pdw_planjson.proofs.KeyLaws.{list_of_items}
use Rattle.pdw_planjson.proofs.ReadBack.{number-back}
use Rattle.pdw_planjson.specs.Limits.{has_column, is_freed, is_group}
use Rattle.pdw_planjson.specs.Node.{group_numbered, kids_in, line_in, line_of}
use Rattle.pdw_planjson.specs.Numerals.{column_in, column_numbered}
use Rattle.pdw_planjson.specs.Stack.{added, on_top, or_fault, placed, plan_over_one, plan_over_two, leaf_plan, run}
use Rattle.pdw_planjson.specs.Words.{prop_in, task_in, move_named}
use Rattle.pdw_planjson.specs.Written.{kind_word, node_data, prop_of, prop_word, whole}
use Rattle.pdw_planjson.specs.declared.line.Kids.{Kids}
use Rattle.pdw_planjson.specs.declared.line.Kids.TheVariants as kids
use Rattle.pdw_planjson.specs.declared.line.Line.{Line}
use Rattle.pdw_planjson.specs.declared.line.Task.{Task}
use Rattle.pdw_planjson.specs.declared.line.Task.TheVariants as task
use Rattle.pdw_planjson.specs.declared.stack.Entry.{Entry}
use Rattle.pdw_ways.specs.declared.plan.Plan.{Plan}

-- ---- words

column-back : (c : ColId) → nat_le c.0 65535 ≡ true → column_in (decimal c.0) ≡ Some c
column-back c fits =
    ap (option_and_then column_numbered) (number-back c.0 (omega (arith, leb-true c.0 65535 fits)))
    ∙ ap (λ (test : Bool). cond test (Some c) None) fits

prop-back : (p : Prop) → has_column p ≡ true → prop_in (prop_word p) ≡ Some p
unfolding prop_in
prop-back prop.Spread fits = refl
prop-back (prop.Hash c) fits = ap (option_map prop.Hash) (column-back c fits)
prop-back prop.Replicated fits = refl
prop-back prop.Single fits = refl
prop-back prop.Control fits = refl

-- a free change is to a property that it may give
abbrev pub is_lawful : Task → Bool
is_lawful (task.Scan p) = true
is_lawful (task.Op p) = true
is_lawful (task.Free to) = is_freed to
is_lawful (task.Move mv) = true

task-back : (t : Task) → is_lawful t ≡ true → task_in (kind_word t) (prop_of t) ≡ Some t
unfolding task_in move_named
task-back (task.Scan p) lawful = refl
task-back (task.Op p) lawful = refl
task-back (task.Free prop.Spread) lawful = refl
task-back (task.Free (prop.Hash c)) lawful = absurd (true≢false (sym lawful))
task-back (task.Free prop.Replicated) lawful = absurd (true≢false (sym lawful))
task-back (task.Free prop.Single) lawful = refl
task-back (task.Free prop.Control) lawful = absurd (true≢false (sym lawful))
task-back (task.Move (move.Shuffle c)) lawful = ap (λ (same : Bool). cond same (Some (task.Move (move.Shuffle c))) None) (eq-eqb c.0 c.0 refl)
task-back (task.Move move.ToSingle) lawful = refl
task-back (task.Move move.ToControl) lawful = refl
task-back (task.Move move.Broadcast) lawful = refl
task-back (task.Move (move.Trim c)) lawful = ap (λ (same : Bool). cond same (Some (task.Move (move.Trim c))) None) (eq-eqb c.0 c.0 refl)
task-back (task.Move move.FromControl) lawful = refl
task-back (task.Move move.FromSingle) lawful = refl

-- ---- a node by itself

-- its group's number and its property's column are in range, and a free change is to a property that it may give
pub record IsNode (group : GroupId) (t : Task) : Type 0 where
  pub known : is_group group ≡ true
  pub column : has_column (prop_of t) ≡ true
  pub lawful : is_lawful t ≡ true

abbrev parts : List ℕ → Option Kids → Option GroupId → Option Prop → Option Line
parts word ks gs ps = option_and_then (λ k. option_and_then (λ g. option_map (line_of k g) (option_and_then (λ p. task_in word p) ps)) gs) ks

group-back : (group : GroupId) → is_group group ≡ true → group_numbered group.0 ≡ Some group
group-back group is = ap (λ (test : Bool). cond test (Some group) None) is

read-parts : (ds : List Data) (group : GroupId) (t : Task) → line_in (node_data ds group t) ≡ parts (kind_word t) (option_and_then kids_in (Some ds)) (group_numbered group.0) (prop_in (prop_word (prop_of t)))
read-parts ds group t = ap (λ list. parts (kind_word t) (kids_in list) (group_numbered group.0) (prop_in (prop_word (prop_of t)))) (list_of_items ds)

pub line-back : (ds : List Data) (k : Kids) (group : GroupId) (t : Task) → kids_in ds ≡ Some k → IsNode group t → line_in (node_data ds group t) ≡ Some (line_of k group t)
line-back ds k group t is of =
    let word = kind_word t in
    read-parts ds group t
    ∙ ap (λ ks. parts word ks (group_numbered group.0) (prop_in (prop_word (prop_of t)))) is
    ∙ ap (λ gs. parts word (Some k) gs (prop_in (prop_word (prop_of t)))) (group-back group of.known)
    ∙ ap (λ ps. parts word (Some k) (Some group) ps) (prop-back (prop_of t) of.column)
    ∙ ap (option_map (line_of k group)) (task-back t of.lawful)

-- ---- a node over the stack

module _ (number : ℕ) (group : GroupId) (t : Task) (of : IsNode group t) (stack : List Entry) (p : Plan) where
  pub leaf-added : leaf_plan group t ≡ Some p → added number (node_data [] group t) stack ≡ Some (on_top number group 1 stack p)
  leaf-added is = ap (option_and_then (λ line. placed number line stack)) (line-back [] kids.Nobody group t refl of) ∙ ap (option_map (on_top number group 1 stack)) is

  pub one-added : (child : Entry) → child.height < 4096 → plan_over_one group t child.group child.plan ≡ Some p
      → added number (node_data (whole child.number ∷ []) group t) (child ∷ stack) ≡ Some (on_top number group (child.height + 1) stack p)
  one-added child low is =
      let fits = and_from (child.number == child.number) (nat_lt child.height 4096) (eq-eqb child.number child.number refl) (lt-ltb child.height 4096 low) in
      let made = option_map (on_top number group (child.height + 1) stack) (plan_over_one group t child.group child.plan) in
      ap (option_and_then (λ line. placed number line (child ∷ stack))) (line-back (whole child.number ∷ []) (kids.One child.number) group t refl of)
      ∙ ap (λ (test : Bool). cond test made None) fits
      ∙ ap (option_map (on_top number group (child.height + 1) stack)) is

  pub two-added : (left right : Entry) → max left.height right.height < 4096 → plan_over_two group t left.plan right.plan ≡ Some p
      → added number (node_data (whole left.number ∷ whole right.number ∷ []) group t) (right ∷ left ∷ stack) ≡ Some (on_top number group (max left.height right.height + 1) stack p)
  two-added left right low is =
      let high = max left.height right.height in
      let firsts = and_from (left.number == left.number) (right.number == right.number) (eq-eqb left.number left.number refl) (eq-eqb right.number right.number refl) in
      let fits = and_from ((left.number == left.number) && (right.number == right.number)) (nat_lt high 4096) firsts (lt-ltb high 4096 low) in
      let made = option_map (on_top number group (high + 1) stack) (plan_over_two group t left.plan right.plan) in
      ap (option_and_then (λ line. placed number line (right ∷ left ∷ stack))) (line-back (whole left.number ∷ whole right.number ∷ []) (kids.Two left.number right.number) group t refl of)
      ∙ ap (λ (test : Bool). cond test made None) fits
      ∙ ap (option_map (on_top number group (high + 1) stack)) is

pub run-one : {S : Type 0} (step : ℕ → Data → S → Option S) (number : ℕ) (d : Data) (rest : List Data) (old new : S) → step number d old ≡ Some new → run step number (d ∷ rest) old ≡ run step (number + 1) rest new
run-one step number d rest old new is = ap (λ found. or_fault number found (λ s. run step (number + 1) rest s)) is
