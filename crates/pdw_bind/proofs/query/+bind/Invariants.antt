use Rattle.std.proofs.Common.{◌≡◌, fold, map, take}
use Rattle.pdw_bind.specs.Bind as spec
use Rattle.pdw_bind.proofs.query.+bind.Given as goal

abbrev pub invariant-parts-loop-element : goal.invariant-parts-loop-element
invariant-parts-loop-element l = l.all ≡ spec.all_parts (map spec.part (take l.element-index l.elements))

abbrev pub invariant-subqueries-loop-sub : goal.invariant-subqueries-loop-sub
invariant-subqueries-loop-sub l = l.tree ≡ fold (λ so_far join. join so_far) l.fn.first (map spec.subquery (take l.sub-index l.subs))
