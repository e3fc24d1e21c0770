-- The words of the texts.
use Rattle.std.specs.Prelude.{ℕ, List, ◌++◌, codes}
use Rattle.std.specs.Fmt.{decimal}
use Rattle.pdw_answer.specs.declared.plan_text.PlanWord.{PlanWord}
use Rattle.pdw_answer.specs.declared.plan_text.PlanWord.TheVariants as word
use Rattle.pdw_base.specs.declared.node.Node.{Node}
use Rattle.pdw_base.specs.declared.node.Node.TheVariants as node
use Rattle.pdw_move.specs.declared.kinds.Prop.{Prop}
use Rattle.pdw_move.specs.declared.kinds.Prop.TheVariants as prop

-- what a node of a plan does
abbrev pub word_text : PlanWord → List ℕ
word_text word.Scan = codes "SCAN"
word_text word.Filter = codes "FILTER"
word_text word.Project = codes "PROJECT"
word_text word.Join = codes "JOIN"
word_text word.Left = codes "LEFT"
word_text word.Full = codes "FULL"
word_text word.Semi = codes "SEMI"
word_text word.Anti = codes "ANTI"
word_text word.Group = codes "GROUP"
word_text word.Partial = codes "PARTIAL"
word_text word.Final = codes "FINAL"
word_text word.Free = codes "FREE"
word_text word.Shuffle = codes "SHUFFLE"
word_text word.ToSingle = codes "TOSINGLE"
word_text word.ToControl = codes "TOCONTROL"
word_text word.Broadcast = codes "BROADCAST"
word_text word.Trim = codes "TRIM"
word_text word.FromControl = codes "FROMCONTROL"
word_text word.FromSingle = codes "FROMSINGLE"

-- how rows stand
abbrev pub hash_text : ℕ → List ℕ
hash_text column = codes "HASH(" ++ (decimal column ++ codes ")")

abbrev pub prop_text : Prop → List ℕ
prop_text prop.Spread = codes "SPREAD"
prop_text (prop.Hash c) = hash_text c.0
prop_text prop.Replicated = codes "REPLICATED"
prop_text prop.Single = codes "SINGLE"
prop_text prop.Control = codes "CONTROL"

-- a node, after a blank: its number, or C
abbrev pub node_text : Node → List ℕ
node_text (node.Compute number) = codes " " ++ decimal number
node_text node.Control = codes " C"
