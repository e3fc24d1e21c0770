use Rattle.std.proofs.Common.{◌≡◌, map}
use Rattle.pdw_machine.specs.Machine.{Target}
use Rattle.pdw_machine.proofs.state.State.into_written.Given as goal

abbrev pub invariant-loop-target : goal.invariant-loop-target
invariant-loop-target l = l.bags.items ≡ map (λ (target : Target). target.written) l.yielded
