use Rattle.std.proofs.Common.{◌≡◌, map, take}
use Rattle.pdw_clauses.proofs.groups.key_slots.Given as goal

abbrev pub invariant-loop-key : goal.invariant-loop-key
invariant-loop-key l = l.slots ≡ map (λ met. met.column.slot) (take l.key-index l.keys)
