-- How many nodes a plan has.
use Rattle.std.specs.Prelude.{ℕ, suc, sum}
use Rattle.pdw_ways.specs.declared.plan.Plan.{Plan}
use Rattle.pdw_ways.specs.declared.plan.Plan.TheFolds.{fold-Plan}
use Rattle.pdw_ways.specs.declared.plan.Plan.TheOpen.{Plan-F}

abbrev pub count_step : Plan-F ℕ → ℕ
count_step (Plan-F.Scan group prop) = 1
count_step (Plan-F.Op group prop children) = suc (sum children)
count_step (Plan-F.Moved mv child) = suc child
count_step (Plan-F.Free to child) = suc child

abbrev pub node_count : Plan → ℕ
node_count = fold-Plan ℕ count_step
