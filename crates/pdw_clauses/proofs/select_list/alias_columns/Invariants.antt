use Rattle.pdw_walk.specs.Items.{alias_column}
use Rattle.pdw_walk.specs.Walk.{over}
use Rattle.pdw_resolve.proofs.Turns.{Left}
use Rattle.pdw_clauses.proofs.select_list.alias_columns.Given as goal

abbrev pub invariant-loop-entry : goal.invariant-loop-entry
invariant-loop-entry l =
    Left (alias_column l.place.keys l.alias) (over (alias_column l.place.keys l.alias) l.fn.before l.place.own l.fn.walk) l.place.own l.entry-index l.outputs l.walk
