use Rattle.std.proofs.Common.{◌≡◌, take}
use Rattle.pdw_base.specs.Schema.{cell}
use Rattle.pdw_expr.specs.Cond.{all_true, any_true}
use Rattle.pdw_expr.proofs.evaluate.+evaluate.Given as goal

abbrev pub invariant-eval_all-loop-part : goal.invariant-eval_all-loop-part
invariant-eval_all-loop-part l = l.truth ≡ all_true (take l.part-index l.parts) (cell l.s l.r)

abbrev pub invariant-eval_any-loop-part : goal.invariant-eval_any-loop-part
invariant-eval_any-loop-part l = l.truth ≡ any_true (take l.part-index l.parts) (cell l.s l.r)
