use Rattle.std.proofs.Common.{◌≡◌, ◌∷◌, [], map, take}
use Rattle.pdw_plain_exprs.proofs.groups.singles.Given as goal

abbrev pub invariant-loop-row : goal.invariant-loop-row
invariant-loop-row l = l.found ≡ map (λ row. row ∷ []) (take l.row-index l.rows)
