-- What EXPLAIN answers: a plan for the query that no other undercuts, as lines, with what it costs.
use Rattle.std.specs.Prelude.{◌≡◌}
use Rattle.pdw_algebra.specs.declared.tree.Tree.{Tree}
use Rattle.pdw_answer.specs.declared.plan_text.PlanText.{PlanText}
use Rattle.pdw_answering.specs.Basis.{Basis, IsLeastOn, Reckoned, memo_on}
use Rattle.pdw_explain.specs.Lines.{explained}
use Rattle.pdw_ways.specs.declared.plan.Plan.{Plan}

-- the text is that of this plan, which no other plan for the query of the tree undercuts
pub record ExplainsBy (basis : Basis) (tree : Tree) (plan : Plan) (text : PlanText) : Type 0 where
  pub reckoned : Reckoned basis tree
  pub least : IsLeastOn basis tree reckoned plan
  pub says : text ≡ explained (memo_on basis tree) reckoned.is reckoned.book basis.nodes basis.constants plan

-- of some such plan
pub record Explains (basis : Basis) (tree : Tree) (text : PlanText) : Type 0 where
  pub plan : Plan
  pub shown : ExplainsBy basis tree plan text
