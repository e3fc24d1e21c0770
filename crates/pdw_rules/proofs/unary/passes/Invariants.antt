use Rattle.std.proofs.Common.{◌≡◌, drop}
use Rattle.pdw_rules.specs.Rules as rule
use Rattle.pdw_rules.proofs.unary.passes.Given as goal

abbrev pub invariant-loop-item : goal.invariant-loop-item
invariant-loop-item l = rule.passes (drop l.item-index l.items) l.c ≡ rule.passes l.items l.c
