-- What moves sent: the rows from each node to each node, and the number of events of a transfer.
use Rattle.std.specs.Prelude.{◌≡◌, ⊤, ℕ, ◌+◌, ◌*◌, ◌≤◌, List, [], ◌∷◌, filter, length, map}
use Rattle.std.specs.List.{flat_map}
use Rattle.pdw_answer.specs.declared.answer.StepCount.{StepCount}
use Rattle.pdw_base.specs.SameBag.{weigh}
use Rattle.pdw_base.specs.declared.node.Node.{Node}
use Rattle.pdw_dms.specs.Moved.{IsThere}
use Rattle.pdw_dsql.specs.Follows.{Taken}
use Rattle.pdw_move.specs.Move.{reaches, receivers}
use Rattle.pdw_move.specs.Placed.{all_nodes}

module _ (n : ℕ) (taken : Taken) where
  -- how many of the rows that are taken at a node go to a node
  abbrev pub rows_between : Node → Node → ℕ
  rows_between from to = length (filter (λ row. reaches n (receivers n taken.move from row) to) (taken.rows from))

  abbrev pub sent_from : Node → List (Node × Node × ℕ)
  sent_from from = map (λ to. (from, to, rows_between from to)) (all_nodes n)

  -- by source and then by target, the control node last
  abbrev pub sent_by : List (Node × Node × ℕ)
  sent_by = flat_map sent_from (all_nodes n)

  -- how many rows are taken at all nodes
  abbrev pub rows_read : ℕ
  rows_read = weigh (λ from. length (taken.rows from)) (all_nodes n)

  -- a transfer has an event for each row that it reads, and three for each packet. A packet has 1 to 64 rows from one node to
  -- another
  pub record IsEventCount (events : ℕ) : Type 0 where
    pub packets : Node → Node → ℕ
    pub fill : (from to : Node) → IsThere n from → IsThere n to → rows_between from to ≤ 64 * packets from to
    pub some : (from to : Node) → IsThere n from → IsThere n to → packets from to ≤ rows_between from to
    pub all : events ≡ rows_read + 3 * weigh (λ from. weigh (packets from) (all_nodes n)) (all_nodes n)

  pub record IsCounted (count : StepCount) : Type 0 where
    pub move : count.mv ≡ taken.move
    pub sent : count.sent ≡ sent_by
    pub events : IsEventCount count.events

-- one count for each move, in order
abbrev pub AreCounted : ℕ → List Taken → List StepCount → Type 0
AreCounted n [] [] = ⊤
AreCounted n [] (count ∷ counts) = ⊥
AreCounted n (taken ∷ rest) [] = ⊥
AreCounted n (taken ∷ rest) (count ∷ counts) = IsCounted n taken count × AreCounted n rest counts
