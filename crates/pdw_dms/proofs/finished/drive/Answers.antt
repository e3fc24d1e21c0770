use Rattle.std.proofs.Common.{◌∙◌, List, sym, subst}
use Rattle.pdw_base.proofs.SameBagLaws.{SameBag-trans, SameBag-≡}
use Rattle.pdw_machine.specs.Events.{enabled_events, replay}
use Rattle.pdw_machine.specs.Machine.{Job, State}
use Rattle.pdw_machine.specs.declared.event.Event.{Event}
use Rattle.pdw_dms.specs.Moved.{IsThere, moved_in}
use Rattle.pdw_dms.proofs.AddsUpLemmas.{moved_in-replay, sound-adds_up}
use Rattle.pdw_dms.proofs.EndLemmas.{all-written, rows_at-written}
use Rattle.pdw_dms.specs.Ends.{EndsWith}
use Rattle.pdw_dms.proofs.EndsLemmas.{ends-before, ends-with}
use Rattle.pdw_dms.proofs.finished.drive.Goals as goal

pub returns-clause-moved : goal.returns-clause-moved
returns-clause-moved g c to there =
    let transfer = c.args.transfer in
    let final = c.finish.new.transfer in
    let follows = c.in_ok-finish.ensures.follows in
    let sound = c.in_ok-finish.ensures.sound in
    let there_final = subst (λ (job : Job). IsThere job.nodes to) (sym follows.job) there in
    SameBag-trans
    (SameBag-≡ (rows_at-written final.job.nodes final.state c.in_ok-moved.moved to sound.shaped there_final c.in_ok-moved.ensures.placed
    ∙ sym (all-written final.job final.state sound.shaped c.in_ok-finish.ensures.finished to there_final)))
    (SameBag-trans (sound-adds_up final sound to there_final)
    (SameBag-≡ ((λ i. moved_in (follows.job i) (follows.state i) to) ∙ moved_in-replay transfer.job follows.added transfer.state to)))

pub returns-clause-run : goal.returns-clause-run
returns-clause-run g c =
    let follows = c.in_ok-finish.ensures.follows in
    record {
      added = follows.added;
      all = c.from_vec.ensures ∙ c.in_ok-moved.ensures.events ∙ follows.events;
      run = follows.run;
      finished = (λ i. enabled_events (sym follows.job i) (sym follows.state i)) ∙ c.in_ok-finish.ensures.finished;
      asked = follows.asked;
    }

pub returns-clause-counts : goal.returns-clause-counts
returns-clause-counts g c =
    let transfer = c.args.transfer in
    let final = c.finish.new.transfer in
    let follows = c.in_ok-finish.ensures.follows in
    let ends = ends-with final c.in_ok-finish.ensures.sound c.in_ok-finish.ensures.finished in
    ends-before transfer.job follows.added transfer.state c.from_vec.result
    (subst (λ (events : List Event). EndsWith transfer.job (replay transfer.job follows.added transfer.state) events) (sym (c.from_vec.ensures ∙ c.in_ok-moved.ensures.events))
    (subst (λ (s : State). EndsWith transfer.job s final.events) follows.state
    (subst (λ (job : Job). EndsWith job final.state final.events) follows.job ends)))
