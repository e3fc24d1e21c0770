use Rattle.std.proofs.Common.{◌≡◌, List, [], ◌∷◌, ◌++◌, map, filter, refl, ap}
use Rattle.std.specs.List.{flat_map}
use Rattle.pdw_base.specs.declared.node.Node.{Node}
use Rattle.pdw_move.specs.declared.placed.Placed.{Placed}
use Rattle.pdw_move.specs.Placed.{all_nodes, rows_at}
use Rattle.pdw_machine.specs.Machine.{Job, Source, goes, start_source}
use Rattle.pdw_dms.proofs.laws.rows_are_moved.Goals as goal

over : (job : Job) (placed : Placed) (to : Node) (nodes : List Node)
    → flat_map (λ (source : Source). filter (goes job source.node to) source.rows) (map (start_source job.nodes placed) nodes)
    ≡ flat_map (λ from. filter (goes job from to) (rows_at placed from)) nodes
over job placed to [] = refl
over job placed to (from ∷ nodes) = ap (λ rows. filter (goes job from to) (rows_at placed from) ++ rows) (over job placed to nodes)

pub returns : goal.returns
returns c job placed to = over job placed to (all_nodes job.nodes)
