use Rattle.std.proofs.Common.{◌≡◌, None, fold, take}
use Rattle.pdw_move.specs.declared.kinds.Prop.TheVariants.{Hash}
use Rattle.pdw_ways.specs.Bounds.{bound_by}
use Rattle.pdw_ways.specs.Search.{with_free}
use Rattle.pdw_ways.proofs.inner.Row.spread.Given as goal

-- the hashes of the columns so far are tried
abbrev pub invariant-loop-column : goal.invariant-loop-column
invariant-loop-column l = l.found ≡ fold (λ best c. with_free (bound_by l.self.group.now.interesting l.self.bounds.now) best (Hash c)) None (take l.column-index l.columns)
