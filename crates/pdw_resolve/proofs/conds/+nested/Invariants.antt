use Rattle.std.proofs.Common.{◌≡◌, drop}
use Rattle.std.specs.List.{list_any}
use Rattle.pdw_walk.specs.Queries.{condition}
use Rattle.pdw_resolve.proofs.conds.+nested.Given as goal

abbrev pub invariant-is_any_nested-loop-part : goal.invariant-is_any_nested-loop-part
invariant-is_any_nested-loop-part l = list_any (λ part. (condition part).nested) (drop l.part-index l.parts) ≡ list_any (λ part. (condition part).nested) l.parts
