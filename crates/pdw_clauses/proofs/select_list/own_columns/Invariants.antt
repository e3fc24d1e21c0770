use Rattle.std.proofs.Common.{None}
use Rattle.pdw_walk.specs.Items.{no_outputs, star_column}
use Rattle.pdw_walk.specs.Walk.{over}
use Rattle.pdw_resolve.proofs.Turns.{Left}
use Rattle.pdw_clauses.proofs.select_list.own_columns.Given as goal

abbrev pub invariant-loop-entry : goal.invariant-loop-entry
invariant-loop-entry l =
    Left (star_column l.place.keys None) (over (star_column l.place.keys None) no_outputs l.place.own l.fn.walk) l.place.own l.entry-index l.outputs l.walk
