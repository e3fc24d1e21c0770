use Rattle.std.proofs.Common.{◌≡◌, [], sym, subst}
use Rattle.pdw_machine.specs.Machine.{start_of}
use Rattle.pdw_dms.specs.Transfer.{Held, IsSound}
use Rattle.pdw_dms.proofs.TransferLemmas.{sound-start}
use Rattle.pdw_dms.proofs.transfer.Transfer.new.Goals as goal

pub invariant_of-result : goal.invariant_of-result
invariant_of-result c =
    let made = c.in_ok-machine.ensures in
    let job = c.new.result in
    let same : ◌≡◌ {A = Held} (record { job = c.in_ok-machine.machine.job; state = c.in_ok-machine.machine.state; events = c.new-3.result.items })
    (record { job = job; state = start_of job.nodes c.args.sources; events = [] }) =
    λ i. record { job = (made i).job; state = (made i).state; events = c.new-3.ensures.items i } in
    subst IsSound (sym same) (sound-start job c.args.sources)
