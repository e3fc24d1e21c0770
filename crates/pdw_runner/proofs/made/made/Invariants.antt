use Rattle.pdw_dsql.specs.Sites.{made_within}
use Rattle.pdw_runner.proofs.Making.{AreMade}
use Rattle.pdw_runner.proofs.made.made.Given as goal
use Rattle.pdw_runner.specs.Tables.{columns_over, rows_over}

abbrev pub invariant-loop-number : goal.invariant-loop-number
invariant-loop-number l = AreMade (columns_over l.appliance l.temps l.tree) (made_within l.site (rows_over l.appliance l.temps l.tree)) l.nodes l.number
