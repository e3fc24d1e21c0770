use Rattle.std.proofs.Common.{◌≡◌, take}
use Rattle.pdw_expr.proofs.cond.+copy.Given as goal

abbrev pub invariant-try_copy_all-loop-part : goal.invariant-try_copy_all-loop-part
invariant-try_copy_all-loop-part l = l.copies.items ≡ take l.part-index l.parts
