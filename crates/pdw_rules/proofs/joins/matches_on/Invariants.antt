use Rattle.std.proofs.Common.{◌≡◌, drop}
use Rattle.pdw_rules.specs.Rules as rule
use Rattle.pdw_rules.proofs.joins.matches_on.Given as goal

abbrev pub invariant-loop-conjunct : goal.invariant-loop-conjunct
invariant-loop-conjunct l = rule.matches_on (drop l.conjunct-index l.conds) l.a l.b ≡ rule.matches_on l.conds l.a l.b
