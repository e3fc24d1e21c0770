-- What a query was planned to, whatever the statistics, the number of compute nodes, the budget and the costs were.
use Rattle.std.specs.Prelude.{ℕ}
use Rattle.pdw_bind.specs.Bind.{bound}
use Rattle.pdw_catalog.specs.Catalog.{Tables}
use Rattle.pdw_form.specs.declared.judged.JudgedQuery.{JudgedQuery}
use Rattle.pdw_memo.specs.Memo.{IsPlannable}
use Rattle.pdw_move.specs.declared.cost.Constants.{Constants}
use Rattle.pdw_planner.specs.Planned.{IsPlanned}
use Rattle.pdw_planner.specs.declared.planned.Planned.{Planned}
use Rattle.pdw_stats.specs.Book.{Book}

-- the tree of the query has a memo over these tables, and it was planned over them
pub record IsPlannedOver (tables : Tables) (query : JudgedQuery) (planned : Planned) : Type 0 where
  pub plannable : IsPlannable tables (bound query)
  pub book : Book
  pub nodes : ℕ
  pub budget : ℕ
  pub constants : Constants
  pub is : IsPlanned tables book nodes budget constants (bound query) planned
