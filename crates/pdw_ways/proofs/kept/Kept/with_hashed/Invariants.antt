use Rattle.std.proofs.Common.{◌≡◌, take}
use Rattle.pdw_ways.specs.Bounds.{bound_in}
use Rattle.pdw_ways.specs.Search.{with_hashed}
use Rattle.pdw_ways.proofs.kept.Kept.with_hashed.Given as goal

-- the hashes of the columns so far are tried
abbrev pub invariant-loop-column : goal.invariant-loop-column
invariant-loop-column l = l.found ≡ with_hashed (bound_in l.self.groups.now l.self.lists.now) l.wanted l.op l.child l.fn.best (take l.column-index l.interesting)
