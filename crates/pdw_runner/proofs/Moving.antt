-- What a move makes of positional rows at the nodes, by what they stand for.
use Rattle.std.proofs.Common.{◌≡◌, ℕ, Bool, List, [], ◌∷◌, ◌++◌, map, filter, refl, ap, ◌∙◌}
use Rattle.std.specs.List.{flat_map}
use Rattle.std.proofs.lemmas.List.{map-append}
use Rattle.pdw_agg.proofs.MapLemmas.{map-filter}
use Rattle.pdw_base.proofs.SameBagLaws.{SameBag-filter, SameBag-map, SameBag-trans, SameBag-≡}
use Rattle.pdw_base.specs.SameBag.{SameBag}
use Rattle.pdw_base.specs.Schema.{Columns, Env, cell}
use Rattle.pdw_base.specs.declared.node.Node.{Node}
use Rattle.pdw_dms.specs.Moved.{IsThere}
use Rattle.pdw_move.specs.Move.{reaches, receivers}
use Rattle.pdw_move.specs.Placed.{Row, all_nodes, moved, rows_at}
use Rattle.pdw_move.specs.declared.kinds.Move.{Move}
use Rattle.pdw_move.specs.declared.placed.Placed.{Placed}
use Rattle.pdw_rules.specs.Stands.{PlacedRows, after_move}
use Rattle.pdw_runner.proofs.NodeLists.{nodes-bags}
use Rattle.pdw_runner.specs.Starts.{ArePlaced}

pub map-flat_map : {X Y Z : Type 0} (f : Y → Z) (g : X → List Y) (xs : List X) → map f (flat_map g xs) ≡ flat_map (λ x. map f (g x)) xs
map-flat_map f g [] = refl
map-flat_map f g (x ∷ xs) = map-append f (g x) (flat_map g xs) ∙ ap (λ ys. map f (g x) ++ ys) (map-flat_map f g xs)

module _ (n : ℕ) (move : Move) where
  -- of the environments of rows it makes the environments of the rows that it makes
  read-moved : (columns : Columns) (rows : Node → List Row) (to : Node) → map (cell columns) (moved n move (cell columns) rows to) ≡ after_move n move (λ place. map (cell columns) (rows place)) to
  read-moved columns rows to =
      map-flat_map (cell columns) (λ from. filter (λ row. goes from (cell columns row)) (rows from)) (all_nodes n)
      ∙ each (all_nodes n)
    where
      goes : Node → Env → Bool
      goes from env = reaches n (receivers n move from env) to

      each : (nodes : List Node) → flat_map (λ from. map (cell columns) (filter (λ row. goes from (cell columns row)) (rows from))) nodes ≡ flat_map (λ from. filter (goes from) (map (cell columns) (rows from))) nodes
      each [] = refl
      each (from ∷ nodes) = λ i. map-filter (cell columns) (goes from) (rows from) i ++ each nodes i

  -- and of equal bags at the nodes that are there equal bags
  move-there : (rows others : PlacedRows) → ((place : Node) → IsThere n place → SameBag (rows place) (others place)) → (to : Node) → SameBag (after_move n move rows to) (after_move n move others to)
  move-there rows others same to =
      nodes-bags n (λ from. filter (λ row. reaches n (receivers n move from row) to) (rows from)) (λ from. filter (λ row. reaches n (receivers n move from row) to) (others from))
      (λ from there. SameBag-filter (λ row. reaches n (receivers n move from row) to) (same from there))

  -- rows that a transfer moves stand for what the move makes
  pub placed-moved : (columns : Columns) (start arrived : Placed) (rows : PlacedRows) → ArePlaced n columns start rows
      → ((place : Node) → IsThere n place → SameBag (rows_at arrived place) (moved n move (cell columns) (rows_at start) place)) → ArePlaced n columns arrived (after_move n move rows)
  placed-moved columns start arrived rows stands came place there =
      SameBag-trans (SameBag-map (cell columns) (came place there))
      (SameBag-trans (SameBag-≡ (read-moved columns (rows_at start) place))
      (move-there (λ from. map (cell columns) (rows_at start from)) rows stands place))
