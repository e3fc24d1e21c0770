-- The plain states that a script reaches, and that queries can be planned over each of them.
use Rattle.std.proofs.Common.{◌≡◌, ℕ, ◌≤◌, true, List, Option, sym, subst}
use Rattle.pdw_engine.proofs.JudgedLaws.{CanDo-prepared}
use Rattle.pdw_engine.proofs.PlainLemmas.{SamePlain-refl}
use Rattle.pdw_engine.proofs.ReachableKept.{IsKept, IsKept-done, IsKept-same, IsKept-start}
use Rattle.pdw_engine.specs.Executes.{Gives}
use Rattle.pdw_engine.specs.Plain.{Plain, SamePlain, plain_of, start}
use Rattle.pdw_engine.specs.Reachable.{AllowsPlans, IsReachable}
use Rattle.pdw_engine.specs.Reachable.IsReachable.{begun, done, same}
use Rattle.pdw_engine.specs.State.{first_state}
use Rattle.pdw_answer.specs.declared.answer.Answer.{Answer}
use Rattle.pdw_syntax.specs.Written.{statement_written}
use Rattle.pdw_syntax.specs.declared.statement.Statement.{Statement}

module _ (nodes : ℕ) where
  pub reachable-start : IsReachable nodes (start nodes)
  reachable-start = begun

  -- a session begins where a script does
  pub reachable-first : IsReachable nodes (plain_of (first_state nodes))
  reachable-first = same (start nodes) (plain_of (first_state nodes)) begun (SamePlain-refl (start nodes))

  pub reachable-same : (old new : Plain) → IsReachable nodes old → SamePlain old new → IsReachable nodes new
  reachable-same old new = same old new

  pub reachable-done : (old : Plain) (statement : Statement) (file : Option (List ℕ)) (answer : Answer) (new : Plain)
      → IsReachable nodes old → statement_written statement ≡ true → Gives old statement file answer new → IsReachable nodes new
  reachable-done old statement file answer new = done old statement file answer new

  kept : (state : Plain) → IsReachable nodes state → IsKept nodes state
  kept _ begun = IsKept-start nodes
  kept _ (done old statement file answer new reached written gives) =
      IsKept-done nodes old new (kept old reached) answer statement gives.work file (CanDo-prepared old.tables gives.work (statement, written, gives.prepares)) gives.does
  kept _ (same old new reached alike) = IsKept-same nodes old new alike (kept old reached)

  pub reachable-nodes : (state : Plain) → IsReachable nodes state → state.nodes ≡ nodes
  reachable-nodes state reached = (kept state reached).nodes

  -- over at least 1 and at most 16 compute nodes
  pub reachable-plannable : 1 ≤ nodes → nodes ≤ 16 → (state : Plain) → IsReachable nodes state → AllowsPlans state
  reachable-plannable some few state reached =
      let it = kept state reached in
      record {
        nodes = subst (λ n. (1 ≤ n) × (n ≤ 16)) (sym it.nodes) (some, few);
        book = it.stats.book;
        told = it.stats.told;
        ranges = it.stats.ranges;
        settings = it.settings;
        columns = λ name table found. (it.rows name table found).shape.some;
      }
