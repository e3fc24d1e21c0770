-- The exit status of each way in which a run ends.
use Rattle.std.specs.Prelude.{ℕ}
use Rattle.pdw_run.specs.declared.status.Status.{Status}
use Rattle.pdw_run.specs.declared.status.Status.TheVariants.{Done, Refused, BadWords, ReadFault, WriteFault, Memory}

abbrev pub exit_of : Status → ℕ
exit_of Done = 0
exit_of Refused = 1
exit_of BadWords = 2
exit_of ReadFault = 3
exit_of WriteFault = 4
exit_of Memory = 5
