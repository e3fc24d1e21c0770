use Rattle.std.proofs.Common.{◌≡◌, ◌∙◌, ◌++◌, ◌∷◌, [], true, ap, sym, subst}
use Rattle.pdw_machine.specs.Machine.{is_enabled}
use Rattle.pdw_dms.specs.Moved.{AddsUp}
use Rattle.pdw_dms.specs.Transfer.{Held, IsSound, applied}
use Rattle.pdw_dms.proofs.AddsUpLemmas.{sound-adds_up}
use Rattle.pdw_dms.proofs.TransferLemmas.{sound-applied}
use Rattle.pdw_dms.proofs.transfer.Transfer.apply.Goals as goal

pub invariant_of-self-2 : goal.invariant_of-self-2
invariant_of-self-2 c =
    let held : Held = record { job = c.self.inside.machine.job; state = c.self.inside.machine.state; events = c.self.inside.events.items } in
    let new : Held = record { job = c.apply.new.self.job; state = c.apply.new.self.state; events = c.push_reserved.new.self.items } in
    let events = c.push_reserved.ensures.items ∙ ap (λ xs. xs ++ c.args.event ∷ []) c.in_ok-reserve.ensures.items in
    let same : new ≡ applied c.args.event held = λ i. record { job = c.in_ok-apply.ensures.job i; state = c.in_ok-apply.ensures.ok i; events = events i } in
    subst IsSound (sym same)
    (sound-applied held c.args.event c.self.invariant (subst (λ (h : Held). is_enabled h.job h.state c.args.event ≡ true) (sym c.self.view_is) c.requires))

pub returns-clause-sound : goal.returns-clause-sound
returns-clause-sound c = invariant_of-self-2 c

pub returns-clause-adds_up : goal.returns-clause-adds_up
returns-clause-adds_up c = sound-adds_up (record { job = c.apply.new.self.job; state = c.apply.new.self.state; events = c.push_reserved.new.self.items }) (invariant_of-self-2 c)

pub returns-in_err-reserve-clause-adds_up : goal.returns-in_err-reserve-clause-adds_up
returns-in_err-reserve-clause-adds_up c =
    sound-adds_up (record { job = c.self.inside.machine.job; state = c.self.inside.machine.state; events = c.self.inside.events.items }) c.self.invariant

pub returns-in_err-apply-clause-adds_up : goal.returns-in_err-apply-clause-adds_up
returns-in_err-apply-clause-adds_up c =
    let held : Held = record { job = c.self.inside.machine.job; state = c.self.inside.machine.state; events = c.self.inside.events.items } in
    let job = sym c.in_err-apply.ensures.job in
    let state = sym c.in_err-apply.ensures.err in
    subst (λ (h : Held). AddsUp h.job h.state) (λ i. record { job = job i; state = state i; events = held.events }) (sound-adds_up held c.self.invariant)
