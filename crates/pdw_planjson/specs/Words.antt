-- The words for properties, and for the kinds of nodes with the properties that each may have.
use Rattle.std.specs.Prelude.{ℕ, List, Option, Some, None, bytes_eq, codes, drop, take, option_and_then, option_map, if◌then◌else◌}
use Rattle.pdw_base.specs.declared.schema.ColId.{ColId}
use Rattle.pdw_move.specs.Move.{property_after}
use Rattle.pdw_move.specs.declared.kinds.Move.{Move}
use Rattle.pdw_move.specs.declared.kinds.Move.TheVariants as move
use Rattle.pdw_move.specs.declared.kinds.Prop.{Prop}
use Rattle.pdw_move.specs.declared.kinds.Prop.TheVariants as prop
use Rattle.pdw_planjson.specs.Numerals.{column_in}
use Rattle.pdw_planjson.specs.declared.line.Task.{Task}
use Rattle.pdw_planjson.specs.declared.line.Task.TheVariants as task
use Rattle.pdw_rules.specs.Rules.{is_same}

-- ---- properties

-- by the hash of a column
abbrev pub hashed : List ℕ → Option Prop
hashed text = if bytes_eq (take 5 text) (codes "hash:") then option_map prop.Hash (column_in (drop 5 text)) else None

unfoldable pub prop_in : List ℕ → Option Prop
prop_in text =
    if bytes_eq text (codes "spread") then Some prop.Spread
    else (if bytes_eq text (codes "replicated") then Some prop.Replicated
    else (if bytes_eq text (codes "single") then Some prop.Single
    else (if bytes_eq text (codes "control") then Some prop.Control
    else hashed text)))

-- ---- moves

abbrev pub hash_column : Prop → Option ColId
hash_column prop.Spread = None
hash_column (prop.Hash c) = Some c
hash_column prop.Replicated = None
hash_column prop.Single = None
hash_column prop.Control = None

-- the move of a word, which for a shuffle or a trim has the column of the property
unfoldable pub move_named : List ℕ → Prop → Option Move
move_named word prop =
    if bytes_eq word (codes "shuffle") then option_map move.Shuffle (hash_column prop)
    else (if bytes_eq word (codes "tosingle") then Some move.ToSingle
    else (if bytes_eq word (codes "tocontrol") then Some move.ToControl
    else (if bytes_eq word (codes "broadcast") then Some move.Broadcast
    else (if bytes_eq word (codes "trim") then option_map move.Trim (hash_column prop)
    else (if bytes_eq word (codes "fromcontrol") then Some move.FromControl
    else (if bytes_eq word (codes "fromsingle") then Some move.FromSingle
    else None))))))

-- the property of a move is the one under which its rows stand afterwards
abbrev pub moved_to : Prop → Move → Option Task
moved_to prop move = if is_same (property_after move) prop then Some (task.Move move) else None

abbrev pub move_task : List ℕ → Prop → Option Task
move_task word prop = option_and_then (moved_to prop) (move_named word prop)

-- ---- free changes

-- which give spread rows, or rows at one node
abbrev pub free_task : Prop → Option Task
free_task prop.Spread = Some (task.Free prop.Spread)
free_task (prop.Hash c) = None
free_task prop.Replicated = None
free_task prop.Single = Some (task.Free prop.Single)
free_task prop.Control = None

-- ---- kinds of nodes

unfoldable pub task_in : List ℕ → Prop → Option Task
task_in word prop =
    if bytes_eq word (codes "scan") then Some (task.Scan prop)
    else (if bytes_eq word (codes "op") then Some (task.Op prop)
    else (if bytes_eq word (codes "free") then free_task prop
    else move_task word prop))
