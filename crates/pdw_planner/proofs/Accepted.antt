-- The checker accepts what is planned.
use Rattle.std.proofs.Common.{◌≡◌, ℕ, Ok, Result, refl}
use Rattle.pdw_algebra.specs.declared.tree.Tree.{Tree}
use Rattle.pdw_catalog.specs.Catalog.{Tables}
use Rattle.pdw_cert.proofs.Verdicts.{one-verdict}
use Rattle.pdw_cert.specs.Verdict.{IsAccepted, IsVerdict}
use Rattle.pdw_memo.specs.Memo.{IsMemo}
use Rattle.pdw_move.specs.declared.cost.Constants.{Constants}
use Rattle.pdw_plan.specs.Cost.{costs_in}
use Rattle.pdw_planner.specs.Planned.{IsPlanned, cost_in}
use Rattle.pdw_planner.specs.declared.planned.Planned.{Planned}
use Rattle.pdw_stats.specs.Book.{Book}
use Rattle.pdw_ways.specs.Ways.{Costs}
use Rattle.pdw_ways.specs.declared.plan.CheckFault.{CheckFault}

module _ (tables : Tables) (book : Book) (n budget : ℕ) (constants : Constants) (tree : Tree) (planned : Planned) (is_planned : IsPlanned tables book n budget constants tree planned) (is : IsMemo planned.memo) where
  abbrev costs : Costs
  costs = costs_in planned.memo is book n constants

  abbrev cost : ℕ
  cost = cost_in planned is book n constants

  -- its plan is for the query and costs this, its bounds have the memo's shape, are valid and are tight
  all-right : IsAccepted planned.memo.groups costs planned.plan cost planned.bounds.lists cost
  all-right = let least = is_planned.least is in ((((is_planned.query costs, refl), least.shape), least.valid), (refl, least.tight))

  pub planned-accepted : (verdict : Result ℕ CheckFault) → IsVerdict planned.memo.groups costs planned.plan cost planned.bounds.lists verdict → verdict ≡ Ok cost
  planned-accepted verdict of = one-verdict planned.memo.groups costs planned.plan cost planned.bounds.lists verdict (Ok cost) of all-right
