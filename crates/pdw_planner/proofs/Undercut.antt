-- What holds of the memo of what is planned holds of the memo of the query's tree.
use Rattle.std.proofs.Common.{ℕ, subst}
use Rattle.pdw_algebra.specs.declared.tree.Tree.{Tree}
use Rattle.pdw_catalog.specs.Catalog.{Tables}
use Rattle.pdw_groups.specs.Memo.{Contents}
use Rattle.pdw_move.specs.declared.cost.Constants.{Constants}
use Rattle.pdw_planner.specs.PlanFor.{IsForQuery, IsPlanFor, IsUndercutByNone}
use Rattle.pdw_planner.specs.Planned.{IsPlanned}
use Rattle.pdw_planner.specs.declared.planned.Planned.{Planned}
use Rattle.pdw_stats.specs.Book.{Book}

pub planned-least : (tables : Tables) (book : Book) (n budget : ℕ) (constants : Constants) (tree : Tree) (planned : Planned) → IsPlanned tables book n budget constants tree planned → IsPlanFor tables book n budget constants tree planned.plan
planned-least tables book n budget constants tree planned is = record {
  query = subst (λ (memo : Contents). IsForQuery memo planned.plan) is.memo is.query;
  least = subst (λ (memo : Contents). IsUndercutByNone book n constants memo planned.plan) is.memo (λ memo. (is.least memo).none_cheaper);
}
