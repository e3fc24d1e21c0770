-- Which nodes have what an operator takes: those where its rows are made have all that its children give.
use Rattle.std.specs.Prelude.{◌≡◌, true}
use Rattle.pdw_base.specs.declared.node.Node.{Node}
use Rattle.pdw_move.specs.declared.kinds.Prop.{Prop}
use Rattle.pdw_rules.specs.Stands.{is_at}

-- the nodes of a property are among those of another
pub record Covers (result child : Prop) : Type 0 where
  pub there : (place : Node) → is_at result place ≡ true → is_at child place ≡ true
