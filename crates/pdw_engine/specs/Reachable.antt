-- The plain states that a script reaches, and when queries can be planned over a plain state.
use Rattle.std.specs.Prelude.{◌≡◌, ℕ, ◌≤◌, true, List, Option}
use Rattle.pdw_engine.specs.Executes.{Gives}
use Rattle.pdw_engine.specs.Plain.{Plain, SamePlain, start}
use Rattle.pdw_engine.specs.Settings.{AreAllowed}
use Rattle.pdw_answer.specs.declared.answer.Answer.{Answer}
use Rattle.pdw_form.specs.Sound.{HaveColumns}
use Rattle.pdw_stats.specs.Book.{AreInRange, Book, stats_of}
use Rattle.pdw_syntax.specs.Written.{statement_written}
use Rattle.pdw_syntax.specs.declared.statement.Statement.{Statement}

-- over so many compute nodes
pub data IsReachable (nodes : ℕ) : Plain → Type 0 where
  -- no statement is done yet
  begun : IsReachable nodes (start nodes)
  -- a statement of a script is done in a state that is reached
  done : (old : Plain) (statement : Statement) (file : Option (List ℕ)) (answer : Answer) (new : Plain)
      → IsReachable nodes old → statement_written statement ≡ true → Gives old statement file answer new → IsReachable nodes new
  -- a state that is reached, with its rows in another order
  same : (old new : Plain) → IsReachable nodes old → SamePlain old new → IsReachable nodes new

-- there is all that planning asks for: 1 to 16 compute nodes; statistics that some book tells, all in their ranges; the budget and
-- the constants in their ranges; and tables that have columns
pub record AllowsPlans (state : Plain) : Type 0 where
  pub nodes : (1 ≤ state.nodes) × (state.nodes ≤ 16)
  pub book : Book
  pub told : (name : List ℕ) → stats_of name book ≡ state.stats name
  pub ranges : AreInRange book
  pub settings : AreAllowed state.settings
  pub columns : HaveColumns state.tables
