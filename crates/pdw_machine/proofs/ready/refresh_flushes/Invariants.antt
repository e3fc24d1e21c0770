use Rattle.std.proofs.Common.{◌≡◌, ◌++◌, map, set, take, drop}
use Rattle.pdw_machine.specs.Flags.{row_at}
use Rattle.pdw_machine.specs.Machine.{can_flush, source_at}
use Rattle.pdw_machine.proofs.ready.refresh_flushes.Given as goal

abbrev pub invariant-loop-to : goal.invariant-loop-to
invariant-loop-to l =
    l.flushes ≡ set l.fn.flushes l.from (map can_flush (take l.to (source_at l.from l.state).lanes) ++ drop l.to (row_at l.from l.fn.flushes))
