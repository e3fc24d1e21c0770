use Rattle.std.proofs.Common.{◌≡◌, ◌∙◌, ◌↔◌, [], ◌∷◌, List, length, nat_eq, IsTrue, refl, eqb-true, arith, sym, subst, ap}
use Rattle.pdw_machine.specs.Events.{enabled_events}
use Rattle.pdw_dms.specs.Transfer.{Held}
use Rattle.pdw_machine.specs.Machine.{IsShaped}
use Rattle.pdw_dms.proofs.EndLemmas.{idle}
use Rattle.pdw_dms.proofs.transfer.Transfer.is_finished.Goals as goal

none_left : {X : Type 0} (xs : List X) → IsTrue (nat_eq (length xs) 0) ↔ (xs ≡ [])
none_left [] = (λ yes. refl, λ none. refl)
none_left (x ∷ xs) = (λ yes. let none = eqb-true _ _ yes in absurd (omega arith), λ none. cc)

pub returns-clause-finished : goal.returns-clause-finished
returns-clause-finished c =
    subst (λ m. IsTrue (nat_eq m 0) ↔ (enabled_events c.args.self.now.job c.args.self.now.state ≡ []))
    (sym (c.enabled_count.ensures ∙ ap (λ (h : Held). length (enabled_events h.job h.state)) c.self.view_is))
    (none_left (enabled_events c.args.self.now.job c.args.self.now.state))

pub returns-clause-idle : goal.returns-clause-idle
returns-clause-idle c finished =
    idle c.args.self.now.job c.args.self.now.state (subst (λ (h : Held). IsShaped h.job.nodes h.state) c.self.view_is c.self.invariant.shaped) ((returns-clause-finished c).0 finished)
