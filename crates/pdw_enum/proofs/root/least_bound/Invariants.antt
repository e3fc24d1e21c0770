use Rattle.std.proofs.Common.{◌≡◌, take}
use Rattle.pdw_enum.specs.Root.{Stands, bound_at}
use Rattle.pdw_ways.specs.Bounds.{least_in}
use Rattle.pdw_enum.proofs.root.least_bound.Given as goal

-- the least of the bounds so far, where it stands
abbrev pub invariant-loop-place : goal.invariant-loop-place
invariant-loop-place l = record { least : bound_at l.found ≡ least_in (take l.place l.bounds); there : Stands l.bounds l.found }
