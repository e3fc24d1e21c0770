use Rattle.std.proofs.Common.{◌≡◌, ◌++◌}
use Rattle.pdw_show.specs.Plan as spec
use Rattle.pdw_show.proofs.plan.push_indent.Given as goal

abbrev pub invariant-loop-level : goal.invariant-loop-level
invariant-loop-level l = l.text.items ≡ l.fn.text.items ++ spec.indent l._level
