use Rattle.std.proofs.Common.{◌≡◌, ◌%◌, ◌<◌, ℕ, List, [], ◌∷◌, length, Some, refl, sym, subst, arith}
use Rattle.std.specs.List.{slice_get}
use Rattle.pdw_machine.specs.Events.{enabled_events}
use Rattle.pdw_dms.specs.Finished.{Follows}
use Rattle.pdw_dms.specs.Transfer.{Held}
use Rattle.pdw_dms.specs.declared.picker.PickCall.TheVariants as calls
use Rattle.pdw_dms.proofs.FollowsLemmas.{follows-more, follows-none}
use Rattle.pdw_dms.proofs.WorkLemmas.{work, work-falls}
use Rattle.pdw_dms.proofs.finished.finish.Goals as goal

nothing : {X : Type 0} (xs : List X) (count : ℕ) → count ≡ length xs → count ≡ 0 → xs ≡ []
nothing [] count same none = refl
nothing (x ∷ xs) count same none = absurd (omega arith)

pub loop-count-init : goal.loop-count-init
loop-count-init g c = record {
  count = c.enabled_count-count.ensures;
  sound = c.requires;
  follows = follows-none c.args.transfer.now (g.P.Picker.told c.args.picker.now);
}

pub nth_enabled-event-requires : goal.nth_enabled-event-requires
nth_enabled-event-requires g c =
    subst (λ n. c.pick-answer.result % c.loop-count.count < n) c.loop-count.invariant.count (omega (arith, c.loop-count-test.true))

pub loop-count-smaller : goal.loop-count-smaller
loop-count-smaller g c =
    let held = c.loop-count.transfer in
    subst (λ (h : Held). work h.job h.state < work held.job held.state) (sym c.in_ok-apply.ensures.ok)
    (work-falls held.job held.state c.loop-count.invariant.sound.shaped c.nth_enabled-event.result c.nth_enabled-event.ensures.enabled)

pub loop-count-preserved : goal.loop-count-preserved
loop-count-preserved g c =
    let held = c.loop-count.transfer in
    let count = c.loop-count.invariant.count in
    let picked : slice_get (enabled_events held.job held.state) (c.pick-answer.result % length (enabled_events held.job held.state)) ≡ Some c.nth_enabled-event.result =
    subst (λ n. slice_get (enabled_events held.job held.state) (c.pick-answer.result % n) ≡ Some c.nth_enabled-event.result) count c.nth_enabled-event.ensures.number in
    record {
      count = c.enabled_count-count-in-loop-count.ensures;
      sound = c.in_ok-apply.ensures.sound;
      follows = subst (λ h. Follows c.args.transfer.now h (g.P.Picker.told c.args.picker.now) (g.P.Picker.told c.pick-answer.new.self)) (sym c.in_ok-apply.ensures.ok)
          (follows-more c.args.transfer.now held (g.P.Picker.told c.args.picker.now) (g.P.Picker.told c.loop-count.picker) (g.P.Picker.told c.pick-answer.new.self)
          c.nth_enabled-event.result (calls.Pick c.loop-count.count c.pick-answer.result) c.loop-count.invariant.follows c.pick-answer.ensures
          c.nth_enabled-event.ensures.enabled (count, picked));
    }

pub returns-clause-finished : goal.returns-clause-finished
returns-clause-finished g c =
    nothing (enabled_events c.loop-count.transfer.job c.loop-count.transfer.state) c.loop-count.count c.loop-count.invariant.count (omega (arith, c.loop-count-test.false))
