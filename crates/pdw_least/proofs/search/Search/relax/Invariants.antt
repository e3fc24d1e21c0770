use Rattle.std.proofs.Common.{◌≡◌, length}
use Rattle.pdw_least.specs.Premises.{costs_of}
use Rattle.pdw_least.specs.States.{IsTable}
use Rattle.pdw_least.proofs.search.Search.relax.Given as goal

-- the groups so far are done
abbrev pub invariant-loop-place : goal.invariant-loop-place
invariant-loop-place l = record { table : IsTable l.self.groups.now (costs_of l.self.costing.now) l.lists l.log; size : length l.lists ≡ l.place }
