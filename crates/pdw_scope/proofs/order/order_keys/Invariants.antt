use Rattle.std.proofs.Common.{map}
use Rattle.pdw_walk.specs.Queries.{name_of, order_key}
use Rattle.pdw_walk.specs.Walk.{beginning, each}
use Rattle.pdw_resolve.proofs.Turns.{LeftEach}
use Rattle.pdw_scope.proofs.order.order_keys.Given as goal

abbrev pub invariant-loop-key : goal.invariant-loop-key
invariant-loop-key l = LeftEach (order_key (map name_of l.outputs)) (each (order_key (map name_of l.fn.outputs)) l.fn.keys beginning) l.keys l.key-index l.found beginning
