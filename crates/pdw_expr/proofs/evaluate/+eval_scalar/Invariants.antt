use Rattle.std.proofs.Common.{◌≡◌, take, fold}
use Rattle.pdw_base.specs.Schema.{cell}
use Rattle.pdw_base.specs.Value.{owned}
use Rattle.pdw_expr.specs.Arithmetic.{computed}
use Rattle.pdw_expr.specs.Scalar.{value_of}
use Rattle.pdw_expr.proofs.evaluate.+eval_scalar.Given as goal

abbrev pub invariant-loop-link : goal.invariant-loop-link
invariant-loop-link l = owned l.value ≡ fold (λ value link. computed link.0 value (value_of link.1 (cell l.s l.r))) (owned l.initial.value) (take l.link-index l.link-items)
