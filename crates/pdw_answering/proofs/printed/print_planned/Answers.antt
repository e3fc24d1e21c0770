use Rattle.std.proofs.Common.{ℕ, List}
use Rattle.std.proofs.lemmas.Result.{IfOk-weaker}
use Rattle.pdw_algebra.specs.declared.tree.Tree.{Tree}
use Rattle.pdw_answering.proofs.Planned.{planned-prints, short-few}
use Rattle.pdw_answering.specs.Basis.{basis_in}
use Rattle.pdw_answering.specs.Prints.{PrintsBy}
use Rattle.pdw_memo.specs.Memo.{IsPlannable}
use Rattle.pdw_plan.specs.Walk.{no_costs}
use Rattle.pdw_plan_files.specs.Written.{IsPlanFile}
use Rattle.pdw_planner.specs.Planned.{IsPlanned}
use Rattle.pdw_answering.proofs.printed.print_planned.Goals as goal

pub plan_file-requires : goal.plan_file-requires
plan_file-requires c =
    let is = c.requires.planned.1 in
    record {
      few = short-few c.args.planned.plan is.short;
      constants = c.requires.constants;
      query = is.query no_costs;
    }

pub returns : goal.returns
returns c =
    let on = c.args.ground.now in
    let planned = c.args.planned in
    IfOk-weaker c.plan_file.result
    (λ (bytes : List ℕ). IsPlanFile planned on.book.now on.n on.constants.now bytes)
    (λ (bytes : List ℕ). (tree : Tree) → IsPlannable on.catalog.now tree → IsPlanned on.catalog.now on.book.now on.n on.budget on.constants.now tree planned → PrintsBy (basis_in on.catalog.now on.book.now on.n on.budget on.constants.now) tree planned.plan bytes)
    (λ bytes tells tree plannable is. planned-prints on.catalog.now on.book.now on.n on.budget on.constants.now tree planned bytes tells plannable is)
    c.plan_file.ensures.text
