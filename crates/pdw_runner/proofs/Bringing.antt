-- What the clauses of a transfer say of the step whose rows it moves.
use Rattle.std.proofs.Common.{◌≡◌, ℕ, List, [], length, Option, refl, ap, ◌∙◌, subst}
use Rattle.pdw_base.proofs.SameBagLaws.{SameBag-trans, SameBag-≡}
use Rattle.pdw_base.specs.Schema.{cell}
use Rattle.pdw_base.specs.declared.node.Node.{Node}
use Rattle.pdw_dms.specs.Ends.{EndsWith}
use Rattle.pdw_dms.specs.Finished.{Driven}
use Rattle.pdw_dms.specs.Moved.{IsMoved, moved_in}
use Rattle.pdw_dms.specs.Transfer.{Held}
use Rattle.pdw_dms.specs.declared.picker.PickCall.{PickCall}
use Rattle.pdw_dsql.specs.Follows.{Taken}
use Rattle.pdw_machine.specs.Machine.{Job, sent_in, start_of}
use Rattle.pdw_machine.specs.declared.event.Event.{Event}
use Rattle.pdw_move.specs.Placed.{moved, rows_at}
use Rattle.pdw_move.specs.declared.placed.Placed.{Placed}
use Rattle.pdw_runner.specs.Brought.{Brings}
use Rattle.pdw_runner.specs.Starts.{ArePlaced, job_of}

-- the law of rows that are meant for a target
abbrev AreMoved : Type 0
AreMoved = (job : Job) (placed : Placed) (to : Node) → moved_in job (start_of job.nodes placed) to ≡ moved job.nodes job.mv (cell job.columns) (rows_at placed) to

abbrev pub first_held : ℕ → Taken → Placed → Held
first_held n taken start = record { job = job_of n taken; state = start_of n start; events = [] }

module _ (n : ℕ) (taken : Taken) (start : Placed) (law : AreMoved) (stands : ArePlaced n taken.schema start taken.rows)
    (arrived : Placed) (sent : List (Node × Node × ℕ)) (number : ℕ) (events : List Event) (before after : Option (List PickCall)) where
  pub drive-brings : (held : Held) → held ≡ first_held n taken start → IsMoved held.job held.state arrived → sent ≡ sent_in held.job held.state → EndsWith held.job held.state events
      → Driven held events before after → number ≡ length events → Brings n taken (record { rows = arrived; count = record { mv = taken.move; sent = sent; events = number } }) before after
  drive-brings held is rows counted ends driven long =
      let own = first_held n taken start in
      let own_driven : Driven own events before after = subst (λ (h : Held). Driven h events before after) is driven in
      record {
        start = start;
        stands = stands;
        events = own_driven.added;
        run = own_driven.run;
        finished = own_driven.finished;
        ends = subst (EndsWith own.job own.state) own_driven.all (subst (λ (h : Held). EndsWith h.job h.state events) is ends);
        rows = λ place there. SameBag-trans (subst (λ (h : Held). IsMoved h.job h.state arrived) is rows place there) (SameBag-≡ (law own.job start place));
        move = refl;
        sent = subst (λ (h : Held). sent ≡ sent_in h.job h.state) is counted;
        count = long ∙ ap length own_driven.all;
        asked = own_driven.asked;
      }
