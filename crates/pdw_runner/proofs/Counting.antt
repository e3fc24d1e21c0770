-- The counts of a move: how many rows went from each node to each node, and how many events its transfer had.
use Rattle.std.proofs.Common.{◌≡◌, ℕ, suc, ◌+◌, ◌*◌, ◌<◌, ◌≤◌, nat_lt, Bool, true, false, List, [], ◌∷◌, filter, length, map, Option, refl, sym, ap, ◌∙◌, subst, arith, if◌then◌else◌}
use Rattle.std.proofs.lemmas.Bool.{lt-ltb, ltb-true}
use Rattle.std.proofs.lemmas.List.{get_or-map, length-map}
use Rattle.std.proofs.lemmas.List.Folds.{flat_map-map}
use Rattle.std.proofs.lemmas.List.Sums.{length-filter}
use Rattle.std.specs.List.{count_by}
use Rattle.pdw_agg.proofs.MapLemmas.{map-filter}
use Rattle.pdw_base.proofs.SameBagLaws.{SameBag-filter, SameBag-length}
use Rattle.pdw_base.specs.SameBag.{weigh}
use Rattle.pdw_base.specs.Schema.{Env, cell}
use Rattle.pdw_base.specs.declared.node.Node.{Node}
use Rattle.pdw_base.specs.declared.node.Node.TheVariants as node
use Rattle.pdw_dms.specs.Ends.{EndsWith, is_flush_between, row_count, rows_between as rows_in_transfer}
use Rattle.pdw_dms.specs.Moved.{IsThere}
use Rattle.pdw_dms.specs.declared.picker.PickCall.{PickCall}
use Rattle.pdw_dsql.specs.Follows.{Taken}
use Rattle.pdw_machine.proofs.EventLemmas.{get_or-all_nodes}
use Rattle.pdw_machine.proofs.StartLemmas.{length-all_nodes}
use Rattle.pdw_machine.specs.Machine.{Source, goes, no_source, place, sent_from as sent_from_source, sent_in, source_at, start_of, start_source}
use Rattle.pdw_machine.specs.Ready.{node_at}
use Rattle.pdw_machine.specs.declared.event.Event.{Event}
use Rattle.pdw_move.specs.Move.{reaches, receivers}
use Rattle.pdw_move.specs.Placed.{all_nodes, rows_at}
use Rattle.pdw_move.specs.declared.placed.Placed.{Placed}
use Rattle.pdw_runner.proofs.NodeLists.{nodes-lists, nodes-map, nodes-sum}
use Rattle.pdw_runner.specs.Brought.{Brings}
use Rattle.pdw_runner.specs.Counts.{IsCounted, IsEventCount, rows_between, rows_read, sent_by, sent_from}
use Rattle.pdw_runner.specs.Starts.{ArePlaced, job_of}
use Rattle.pdw_runner.specs.declared.steps.Arrived.{Arrived}

-- a node that is there stands at its place
at-place : (n : ℕ) (from : Node) → IsThere n from → (place n from < suc n) × (node_at n (place n from) ≡ from)
at-place n (node.Compute k) there = by (nat_lt k n) (lt-ltb k n there)
  where
    by : (b : Bool) → b ≡ true → ((if b then k else suc k) < suc n) × (node_at n (if b then k else suc k) ≡ node.Compute k)
    by true is = (omega (arith, there), ap (λ (c : Bool). if c then node.Compute k else node.Control) (lt-ltb k n there))
    by false is = cc
at-place n node.Control there = (omega arith, by (nat_lt n n) refl)
  where
    by : (b : Bool) → nat_lt n n ≡ b → (if b then node.Compute n else node.Control) ≡ node.Control
    by true is = let less : n < n = ltb-true _ _ is in absurd (omega arith)
    by false is = refl

module _ (n : ℕ) (taken : Taken) (start : Placed) (stands : ArePlaced n taken.schema start taken.rows) where
  -- the rows of a start that go from a node to a node are as many as of those that are taken
  goes-between : (from to : Node) → IsThere n from → length (filter (goes (job_of n taken) from to) (rows_at start from)) ≡ rows_between n taken from to
  goes-between from to there =
      let test : Env → Bool = λ row. reaches n (receivers n taken.move from row) to in
      sym (length-map (filter (goes (job_of n taken) from to) (rows_at start from)) (cell taken.schema))
      ∙ ap length (map-filter (cell taken.schema) test (rows_at start from))
      ∙ SameBag-length (SameBag-filter test (stands from there))

  sent-source : (from : Node) → IsThere n from → sent_from_source (job_of n taken) from (rows_at start from) ≡ sent_from n taken from
  sent-source from there =
      nodes-map n (λ to. (from, to, count_by (goes (job_of n taken) from to) (rows_at start from))) (λ to. (from, to, rows_between n taken from to))
      (λ to at. ap (λ (count : ℕ). (from, to, count)) (sym (length-filter (goes (job_of n taken) from to) (rows_at start from)) ∙ goes-between from to there))

  sent-start : sent_in (job_of n taken) (start_of n start) ≡ sent_by n taken
  sent-start =
      flat_map-map (λ (source : Source). sent_from_source (job_of n taken) source.node source.rows) (start_source n start) (all_nodes n)
      ∙ nodes-lists n (λ from. sent_from_source (job_of n taken) from (rows_at start from)) (sent_from n taken) sent-source

  read-start : row_count (start_of n start) ≡ rows_read n taken
  read-start =
      weigh-over (λ (source : Source). length source.rows) (start_source n start) (all_nodes n)
      ∙ nodes-sum n (λ from. length (rows_at start from)) (λ from. length (taken.rows from))
      (λ from there. sym (length-map (rows_at start from) (cell taken.schema)) ∙ SameBag-length (stands from there))
    where
      weigh-over : {X Y : Type 0} (weight : Y → ℕ) (f : X → Y) (xs : List X) → weigh weight (map f xs) ≡ weigh (λ x. weight (f x)) xs
      weigh-over weight f [] = refl
      weigh-over weight f (x ∷ xs) = ap (λ m. weight (f x) + m) (weigh-over weight f xs)

  source-there : (from : Node) → IsThere n from → source_at (place n from) (start_of n start) ≡ start_source n start from
  source-there from there =
      let at = at-place n from there in
      let long = length-all_nodes n in
      get_or-map (start_source n start) (all_nodes n) (place n from) node.Control no_source (omega (arith, at.0))
      ∙ ap (start_source n start) (get_or-all_nodes n (place n from) node.Control at.0 ∙ at.1)

  between-start : (from to : Node) → IsThere n from → rows_in_transfer (job_of n taken) (start_of n start) from to ≡ rows_between n taken from to
  between-start from to there =
      ap (λ (source : Source). length (filter (goes (job_of n taken) source.node to) source.rows)) (source-there from there) ∙ goes-between from to there

  event-count : (events : List Event) → EndsWith (job_of n taken) (start_of n start) events → IsEventCount n taken (length events)
  event-count events ends = record {
    packets = λ from to. count_by (is_flush_between from to) events;
    fill = λ from to there too. subst (λ (m : ℕ). m ≤ 64 * count_by (is_flush_between from to) events) (between-start from to there) (ends.fill from to there too);
    some = λ from to there too. subst (λ (m : ℕ). count_by (is_flush_between from to) events ≤ m) (between-start from to there) (ends.some from to there too);
    all = ends.all ∙ (λ i. read-start i + 3 * ends.pairs i);
  }

-- what a step did is counted
pub brings-counted : (n : ℕ) (taken : Taken) (arrived : Arrived) (before after : Option (List PickCall)) → Brings n taken arrived before after → IsCounted n taken arrived.count
brings-counted n taken arrived before after brings = record {
  move = brings.move;
  sent = brings.sent ∙ sent-start n taken brings.start brings.stands;
  events = subst (IsEventCount n taken) (sym brings.count) (event-count n taken brings.start brings.stands brings.events brings.ends);
}
