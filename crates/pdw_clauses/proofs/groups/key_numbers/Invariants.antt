use Rattle.std.proofs.Common.{◌≡◌, map, take}
use Rattle.pdw_clauses.proofs.groups.key_numbers.Given as goal

abbrev pub invariant-loop-key : goal.invariant-loop-key
invariant-loop-key l = l.numbers ≡ map (λ met. met.column.number) (take l.key-index l.keys)
