use Rattle.std.proofs.Common.{◌≡◌, ◌≤◌, length, filter, take}
use Rattle.pdw_memo.specs.Memo.{is_join}
use Rattle.pdw_memo.proofs.count.joins_among.Given as goal

abbrev pub invariant-loop-expr : goal.invariant-loop-expr
invariant-loop-expr l = record {
  count : l.joins ≡ length (filter (λ expr. is_join expr.op) (take l.expr-index l.exprs));
  most : l.joins ≤ l.expr-index;
}
