use Rattle.std.proofs.Common.{◌≡◌, ◌++◌, false, map, take, drop, replicate}
use Rattle.pdw_machine.specs.Machine.{next_receivers}
use Rattle.pdw_machine.specs.Ready.{can_read_first}
use Rattle.pdw_machine.proofs.ready.first_reads.Given as goal

abbrev pub invariant-loop-from : goal.invariant-loop-from
invariant-loop-from l = record {
  next : l.next.items ≡ map (next_receivers l.job) (take l.from l.state.sources);
  reads : l.reads ≡ map (can_read_first l.job) (take l.from l.state.sources) ++ drop l.from (replicate l.len false);
}
