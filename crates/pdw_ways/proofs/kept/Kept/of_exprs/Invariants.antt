use Rattle.std.proofs.Common.{◌≡◌, None, fold, take}
use Rattle.pdw_ways.specs.Bounds.{bound_in}
use Rattle.pdw_ways.specs.Search.{with_expr}
use Rattle.pdw_ways.proofs.kept.Kept.of_exprs.Given as goal

-- the expressions so far are tried
abbrev pub invariant-loop-expr : goal.invariant-loop-expr
invariant-loop-expr l = l.found ≡ fold (with_expr (bound_in l.self.groups.now l.self.lists.now) l.self.groups.now l.wanted) None (take l.expr-index l.exprs)
