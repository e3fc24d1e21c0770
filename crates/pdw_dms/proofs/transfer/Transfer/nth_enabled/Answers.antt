use Rattle.std.proofs.Common.{◌≡◌, ◌<◌, length, Some, sym, subst}
use Rattle.std.specs.List.{slice_get}
use Rattle.pdw_machine.specs.Events.{enabled_events}
use Rattle.pdw_dms.specs.Transfer.{Held}
use Rattle.pdw_dms.proofs.TransferLemmas.{numbered_is_enabled}
use Rattle.pdw_dms.proofs.transfer.Transfer.nth_enabled.Goals as goal

pub nth_enabled-requires : goal.nth_enabled-requires
nth_enabled-requires c = subst (λ (h : Held). c.args.k < length (enabled_events h.job h.state)) (sym c.self.view_is) c.requires

pub returns-clause-number : goal.returns-clause-number
returns-clause-number c = subst (λ (h : Held). slice_get (enabled_events h.job h.state) c.args.k ≡ Some c.nth_enabled.result) c.self.view_is c.nth_enabled.ensures

pub returns-clause-enabled : goal.returns-clause-enabled
returns-clause-enabled c =
    numbered_is_enabled c.args.self.now.job c.args.self.now.state c.args.k c.nth_enabled.result
    (subst (λ (h : Held). slice_get (enabled_events h.job h.state) c.args.k ≡ Some c.nth_enabled.result) c.self.view_is c.nth_enabled.ensures)
