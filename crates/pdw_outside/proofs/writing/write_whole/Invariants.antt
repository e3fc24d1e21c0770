use Rattle.std.proofs.Common.{◌≡◌, ◌-◌, ◌≤◌, length, take}
use Rattle.pdw_outside.specs.Sink.{Adds}
use Rattle.pdw_outside.proofs.writing.write_whole.Given as goal

abbrev pub invariant-loop-done : goal.invariant-loop-done
invariant-loop-done g l = record {
  written : Adds (g.S.Sink.written l.fn.sink) (g.S.Sink.written l.sink) (take l.done l.bytes);
  within : l.done ≤ length l.bytes;
  quiet : g.S.Sink.faults l.sink ≡ g.S.Sink.faults l.fn.sink;
}

abbrev pub decreases-loop-done : goal.decreases-loop-done
decreases-loop-done g l = length l.bytes - l.done
