-- What CHECK PLAN answers: what is found of the bytes of a file, for the query of a tree.
use Rattle.std.specs.Prelude.{ℕ, List}
use Rattle.pdw_algebra.specs.declared.tree.Tree.{Tree}
use Rattle.pdw_answer.specs.declared.answer.PlanVerdict.{PlanVerdict}
use Rattle.pdw_answering.specs.Basis.{Basis, Reckoned, costs_on, memo_on}
use Rattle.pdw_plan_files.specs.Verdict.{IsVerdictOn}

pub record ChecksBy (basis : Basis) (tree : Tree) (content : List ℕ) (verdict : PlanVerdict) : Type 0 where
  pub reckoned : Reckoned basis tree
  pub found : IsVerdictOn (memo_on basis tree).groups (costs_on basis tree reckoned) content verdict
