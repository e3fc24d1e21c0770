use Rattle.std.proofs.Common.{◌≡◌, ◌++◌, ◌-◌, ◌≤◌, length, take, codes}
use Rattle.pdw_lex.specs.Piece.{doubled}
use Rattle.pdw_lex.proofs.quoted.closed_text.Given as goal

abbrev pub invariant-loop-next : goal.invariant-loop-next
invariant-loop-next l = (l.next ≤ length l.left) × (take l.next l.left ≡ codes "'" ++ doubled l.text.items)

abbrev pub decreases-loop-next : goal.decreases-loop-next
decreases-loop-next l = length l.left - l.next
