use Rattle.std.proofs.Common.{◌≡◌, drop}
use Rattle.pdw_semantics.specs.Answer as spec
use Rattle.pdw_select.proofs.order.by_keys.Given as goal

-- the rows do not differ by the keys so far
abbrev pub invariant-loop-key : goal.invariant-loop-key
invariant-loop-key l = spec.keys_cmp (drop l.key-index l.keys) l.first l.second ≡ spec.keys_cmp l.keys l.first l.second
