use Rattle.std.proofs.Common.{◌≡◌, ◌<◌, ◌++◌, drop, length, map, take}
use Rattle.std.specs.List.{AllByRecursion}
use Rattle.pdw_explore.specs.Grown.{renumbered_expr}
use Rattle.pdw_explore.proofs.numbers.renumber_exprs.Given as goal

abbrev pub invariant-loop : goal.invariant-loop
invariant-loop l = record {
  exprs : l.exprs ≡ drop l.counter l.initial.exprs ++ map (renumbered_expr l.numbers) (take l.counter l.initial.exprs);
  range : AllByRecursion (λ expr. AllByRecursion (λ child. child.0 < length l.numbers) expr.children) (drop l.counter l.initial.exprs);
  end : l.end ≡ length l.initial.exprs;
}
