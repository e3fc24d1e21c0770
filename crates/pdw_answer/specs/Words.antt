-- The words of moves.
use Rattle.pdw_answer.specs.declared.plan_text.PlanWord.{PlanWord}
use Rattle.pdw_answer.specs.declared.plan_text.PlanWord.TheVariants as word
use Rattle.pdw_move.specs.declared.kinds.Move.{Move}
use Rattle.pdw_move.specs.declared.kinds.Move.TheVariants as move

-- a move has its word in the line of its node, and in that of its step
abbrev pub word_of_move : Move → PlanWord
word_of_move (move.Shuffle c) = word.Shuffle
word_of_move move.ToSingle = word.ToSingle
word_of_move move.ToControl = word.ToControl
word_of_move move.Broadcast = word.Broadcast
word_of_move (move.Trim c) = word.Trim
word_of_move move.FromControl = word.FromControl
word_of_move move.FromSingle = word.FromSingle
