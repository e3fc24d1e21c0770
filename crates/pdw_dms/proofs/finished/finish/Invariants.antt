use Rattle.std.proofs.Common.{◌≡◌, length}
use Rattle.pdw_machine.specs.Events.{enabled_events}
use Rattle.pdw_dms.specs.Finished.{Follows}
use Rattle.pdw_dms.specs.Transfer.{IsSound}
use Rattle.pdw_dms.proofs.WorkLemmas.{work}
use Rattle.pdw_dms.proofs.finished.finish.Given as goal

abbrev pub invariant-loop-count : goal.invariant-loop-count
invariant-loop-count g l = record {
  count : l.count ≡ length (enabled_events l.transfer.job l.transfer.state);
  sound : IsSound l.transfer;
  follows : Follows l.fn.transfer l.transfer (g.P.Picker.told l.fn.picker) (g.P.Picker.told l.picker);
}

abbrev pub decreases-loop-count : goal.decreases-loop-count
decreases-loop-count g l = work l.transfer.job l.transfer.state
