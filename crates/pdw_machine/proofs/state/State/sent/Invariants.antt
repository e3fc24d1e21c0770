use Rattle.std.proofs.Common.{◌≡◌, take}
use Rattle.std.specs.List.{flat_map}
use Rattle.pdw_machine.specs.Machine.{Source, sent_from}
use Rattle.pdw_machine.proofs.state.State.sent.Given as goal

abbrev pub invariant-loop-source : goal.invariant-loop-source
invariant-loop-source l = l.sent.items ≡ flat_map (λ (source : Source). sent_from l.job source.node source.rows) (take l.source-index l.source-items)
