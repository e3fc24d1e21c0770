use Rattle.std.proofs.Common.{◌≡◌, ◌+◌, drop}
use Rattle.pdw_machine.specs.Flags.{up_place}
use Rattle.pdw_machine.proofs.flags.Flags.nth.Given as goal

abbrev pub invariant-loop-place : goal.invariant-loop-place
invariant-loop-place l = l.place + up_place (drop l.place l.flag-items) l.left ≡ up_place l.flag-items l.k
