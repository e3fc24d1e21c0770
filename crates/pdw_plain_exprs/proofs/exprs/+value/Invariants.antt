use Rattle.std.proofs.Common.{◌≡◌, fold, map, take}
use Rattle.std.specs.Option.{option_map}
use Rattle.pdw_expr.specs.Arithmetic.{computed}
use Rattle.pdw_semantics.specs.Environment.{alone, group_of}
use Rattle.pdw_semantics.specs.Exprs.{argument, value_of}
use Rattle.pdw_plain_exprs.proofs.exprs.+value.Given as goal

abbrev pub invariant-value_of-loop-link : goal.invariant-value_of-loop-link
invariant-value_of-loop-link l = l.value ≡ fold (λ value link. computed link.0 value (value_of link.1 (group_of l.rows l.outers))) l.initial.value (take l.link-index l.link-items)

abbrev pub invariant-arguments-loop-row : goal.invariant-arguments-loop-row
invariant-arguments-loop-row l = l.values ≡ map (λ row. argument (option_map value_of l.arg) (alone l.outers row)) (take l.row-index l.rows)
