use Rattle.std.proofs.Common.{◌≡◌, ◌++◌, take}
use Rattle.pdw_machine.specs.Machine.{sent_from}
use Rattle.pdw_machine.proofs.sent.add_sent.Given as goal

abbrev pub invariant-loop-at : goal.invariant-loop-at
invariant-loop-at l = l.sent.items ≡ l.fn.sent.items ++ take l.at (sent_from l.job l.source l.rows)
