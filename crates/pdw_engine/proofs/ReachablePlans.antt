-- Over each plain state that a script reaches, each query of a statement that is prepared has a least plan.
use Rattle.std.proofs.Common.{◌≡◌, ℕ, ◌≤◌, Some}
use Rattle.pdw_algebra.specs.declared.tree.Tree.{Tree}
use Rattle.pdw_bind.specs.Bind.{bound}
use Rattle.pdw_catalog.specs.Catalog.{Tables}
use Rattle.pdw_engine.proofs.JudgedLaws.{prepared-plannable}
use Rattle.pdw_engine.proofs.Reachable.{reachable-plannable}
use Rattle.pdw_engine.specs.Plain.{Plain}
use Rattle.pdw_engine.specs.Prepared.{IsPrepared}
use Rattle.pdw_engine.specs.Reachable.{AllowsPlans, IsReachable}
use Rattle.pdw_form.specs.declared.judged.Judged.{Judged}
use Rattle.pdw_form.specs.declared.judged.JudgedSelect.{JudgedSelect}
use Rattle.pdw_memo.specs.Memo.{IsPlannable}
use Rattle.pdw_move.specs.Cost.{AreInRange}
use Rattle.pdw_move.specs.declared.cost.Constants.{Constants}
use Rattle.pdw_plan_exists.specs.HasLeastPlan.{HasLeastPlan}
use Rattle.pdw_stats.specs.Book.{AreInRange as HasRanges, Book}
use Rattle.pdw_walk.specs.Forms.{judged_select_of}

-- the law of least plans, as a function ensures it
abbrev pub LeastLaw : Type 0
LeastLaw =
    (tables : Tables) (book : Book) (n budget : ℕ) (constants : Constants) (tree : Tree) → IsPlannable tables tree → HasRanges book → 1 ≤ n → n ≤ 16 → AreInRange constants
    → HasLeastPlan tables book n budget constants tree

module _ (state : Plain) (work : Judged) (prepared : IsPrepared state.tables work) (form : JudgedSelect) (gives : judged_select_of work ≡ Some form) where
  -- where all is there that planning asks for, the query has a least plan, by the statistics that the book tells
  pub allowed-least : LeastLaw → (allows : AllowsPlans state) → HasLeastPlan state.tables allows.book state.nodes state.settings.budget state.settings.constants (bound form.query)
  allowed-least law allows =
      law state.tables allows.book state.nodes state.settings.budget state.settings.constants (bound form.query) (prepared-plannable state.tables allows.columns work prepared form gives) allows.ranges
      allows.nodes.0 allows.nodes.1 allows.settings.constants

  pub reachable-least : LeastLaw → (nodes : ℕ) → 1 ≤ nodes → nodes ≤ 16 → IsReachable nodes state
      → (allows : AllowsPlans state) × HasLeastPlan state.tables allows.book state.nodes state.settings.budget state.settings.constants (bound form.query)
  reachable-least law nodes some few reached =
      let allows = reachable-plannable nodes some few state reached in
      (allows, allowed-least law allows)
