-- After each enabled event the machine has its shape, and what is kept is what its state says.
use Rattle.std.proofs.Common.{◌≡◌, ℕ, ◌≤◌, true, sym, subst}
use Rattle.pdw_move.specs.declared.kinds.Receivers.{Receivers}
use Rattle.pdw_machine.specs.Machine.{Job, State, copy_at, copy_enabled, deliver_at, deliver_enabled, flush_at, flush_enabled, next_receivers, read_at, read_enabled, source_at}
use Rattle.pdw_machine.specs.Ready.{IsKept, RefreshesCopy, RefreshesDeliver, RefreshesFlush, RefreshesRead}
use Rattle.pdw_machine.specs.declared.ready.Ready.{Ready}
use Rattle.pdw_machine.proofs.ReadyLemmas.{ready_copy, ready_deliver, ready_flush, ready_read}
use Rattle.pdw_machine.proofs.ShapeLemmas.{copy-shaped, copy_inside, deliver-shaped, deliver_inside, flush-shaped, flush_inside, read-shaped, read_inside}

module _ (job : Job) (s now : State) (old new : Ready) (kept : IsKept job s old) where
  pub kept_read : (next : Receivers) (at from : ℕ) → at ≡ from → read_enabled job from s ≡ true → now ≡ read_at job.nodes next at s
      → RefreshesRead job now at old new → IsKept job now new
  kept_read next at from e enabled is done =
      let inside : at ≤ job.nodes = subst (λ p. p ≤ job.nodes) (sym e) (read_inside job.nodes s kept.shaped (next_receivers job (source_at from s)) from enabled) in
      subst (λ t. RefreshesRead job t at old new → IsKept job t new) (sym is)
      (λ refreshed. record { shaped = read-shaped job.nodes s kept.shaped next at inside; right = ready_read job s kept.shaped old new kept.right at next inside refreshed })
      done

  pub kept_flush : (at to_at from to : ℕ) → at ≡ from → to_at ≡ to → flush_enabled from to s ≡ true → now ≡ flush_at at to_at s
      → RefreshesFlush job now at to_at old new → IsKept job now new
  kept_flush at to_at from to e e_to enabled is done =
      let places = flush_inside job.nodes s kept.shaped from to enabled in
      let inside : at ≤ job.nodes = subst (λ p. p ≤ job.nodes) (sym e) places.0 in
      let inside_to : to_at ≤ job.nodes = subst (λ p. p ≤ job.nodes) (sym e_to) places.1 in
      subst (λ t. RefreshesFlush job t at to_at old new → IsKept job t new) (sym is)
      (λ refreshed. record { shaped = flush-shaped job.nodes s kept.shaped at to_at inside; right = ready_flush job s kept.shaped old new kept.right at to_at inside inside_to refreshed })
      done

  pub kept_deliver : (at to_at from to : ℕ) → at ≡ from → to_at ≡ to → deliver_enabled from to s ≡ true → now ≡ deliver_at at to_at s
      → RefreshesDeliver now at to_at old new → IsKept job now new
  kept_deliver at to_at from to e e_to enabled is done =
      let places = deliver_inside job.nodes s kept.shaped from to enabled in
      let inside : at ≤ job.nodes = subst (λ p. p ≤ job.nodes) (sym e) places.0 in
      let inside_to : to_at ≤ job.nodes = subst (λ p. p ≤ job.nodes) (sym e_to) places.1 in
      subst (λ t. RefreshesDeliver t at to_at old new → IsKept job t new) (sym is)
      (λ refreshed. record { shaped = deliver-shaped job.nodes s kept.shaped at to_at inside; right = ready_deliver job s kept.shaped old new kept.right at to_at inside inside_to refreshed })
      done

  pub kept_copy : (to_at to : ℕ) → to_at ≡ to → copy_enabled to s ≡ true → now ≡ copy_at to_at s → RefreshesCopy now to_at old new → IsKept job now new
  kept_copy to_at to e enabled is done =
      let inside : to_at ≤ job.nodes = subst (λ p. p ≤ job.nodes) (sym e) (copy_inside job.nodes s kept.shaped to enabled) in
      subst (λ t. RefreshesCopy t to_at old new → IsKept job t new) (sym is)
      (λ refreshed. record { shaped = copy-shaped job.nodes s kept.shaped to_at; right = ready_copy job s kept.shaped old new kept.right to_at inside refreshed })
      done
