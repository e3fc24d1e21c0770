use Rattle.pdw_walk.specs.Items.{item_walk, no_outputs}
use Rattle.pdw_walk.specs.Walk.{over}
use Rattle.pdw_resolve.proofs.Turns.{Left}
use Rattle.pdw_clauses.proofs.select_list.listed.Given as goal

abbrev pub invariant-loop-next : goal.invariant-loop-next
invariant-loop-next l = Left (item_walk l.place) (over (item_walk l.place) no_outputs l.fn.list l.fn.walk) l.list l.next-index l.outputs l.walk
