-- The seven moves bring rows to their property, and no row to another node.
use Rattle.std.proofs.Common.{◌≡◌, ◌≢◌, ℕ, ◌-◌, ◌%◌, ◌<◌, ◌≤◌, ◌==◌, Bool, true, false, true≢false, pos, negsuc, List, [], ◌∷◌, ◌++◌, filter, refl, sym, ap, ap₂, ◌∙◌, subst, append-nil, arith, eq-eqb, ne_eqb, lt-ltb, if◌then◌else◌}
use Rattle.std.proofs.lemmas.Grind.{flat_map-append}
use Rattle.std.proofs.lemmas.List.Elements.{filter-append}
use Rattle.std.specs.List.{AllByRecursion}
use Rattle.pdw_base.proofs.SameBagLaws.{SameBag-filter, SameBag-flat_map_inner, SameBag-trans, SameBag-≡}
use Rattle.pdw_base.specs.Hash.{node_for}
use Rattle.pdw_base.specs.SameBag.{SameBag}
use Rattle.pdw_base.specs.Schema.{Env}
use Rattle.pdw_base.specs.declared.node.Node.{Node}
use Rattle.pdw_base.specs.declared.node.Node.TheVariants as node
use Rattle.pdw_base.specs.declared.schema.ColId.{ColId}
use Rattle.pdw_base.specs.declared.value.Value.TheVariants.{Null, Int, Text, Wide}
use Rattle.pdw_base.specs.declared.value.Value.{Value}
use Rattle.pdw_move.specs.Move.{property_after, property_before, reaches, receivers, trimmed}
use Rattle.pdw_move.specs.Placed.{all_nodes, compute_nodes}
use Rattle.pdw_move.specs.declared.kinds.Move.TheVariants.{Shuffle, ToSingle, ToControl, Broadcast, Trim, FromControl, FromSingle}
use Rattle.pdw_move.specs.declared.kinds.Move.{Move}
use Rattle.pdw_move.specs.declared.kinds.Receivers.TheVariants.{Nobody, One}
use Rattle.pdw_rules.proofs.Filters.{eqb-turned, filter-alike, filter-all, filter-none, numbered, numbered-all, numbers-together}
use Rattle.pdw_rules.proofs.Together.{together-bags, together-lists, together-made, together-none, together-only}
use Rattle.pdw_rules.specs.Stands.{IsInside, PlacedRows, StandsFor, after_move, together}

-- ---- the node that the hash of a value gives

rest_below : (m rest : ℕ) → 1 ≤ m → m - 1 - rest < m
rest_below m rest some = omega arith

pub node_for-less : (n : ℕ) (value : Value) → 1 ≤ n → node_for n value < n
node_for-less n Null some = omega arith
node_for-less n (Int (pos a)) some = omega arith
node_for-less n (Int (negsuc a)) some = rest_below n (a % n) some
node_for-less n (Text bytes) some = omega arith
node_for-less n (Wide (pos a)) some = omega arith
node_for-less n (Wide (negsuc a)) some = rest_below n (a % n) some

module _ (n : ℕ) where
  -- ---- the rows that are sent to a node

  abbrev goes : Move → Node → Node → Env → Bool
  goes move target source row = reaches n (receivers n move source row) target

  abbrev sent : Move → PlacedRows → Node → PlacedRows
  sent move rows target source = filter (goes move target source) (rows source)

  split : (move : Move) (rows : PlacedRows) (target : Node) → after_move n move rows target ≡ together n (sent move rows target) ++ sent move rows target node.Control
  split move rows target =
      flat_map-append (sent move rows target) (compute_nodes n) (node.Control ∷ [])
      ∙ ap (λ xs. together n (sent move rows target) ++ xs) (append-nil (sent move rows target node.Control))

  -- what has no rows sends none
  pub nothing-sent : (move : Move) (rows : PlacedRows) (target source : Node) → rows source ≡ [] → sent move rows target source ≡ []
  nothing-sent move rows target source none = ap (filter (goes move target source)) none

  -- from compute nodes alone
  from_compute : (move : Move) (rows : PlacedRows) (target : Node) → rows node.Control ≡ [] → after_move n move rows target ≡ together n (sent move rows target)
  from_compute move rows target none =
      split move rows target
      ∙ ap (λ xs. together n (sent move rows target) ++ xs) (nothing-sent move rows target node.Control none)
      ∙ append-nil (together n (sent move rows target))

  from_control : (move : Move) (rows : PlacedRows) (target : Node) → ((k : ℕ) → rows (node.Compute k) ≡ []) → after_move n move rows target ≡ sent move rows target node.Control
  from_control move rows target none =
      split move rows target
      ∙ ap (λ xs. xs ++ sent move rows target node.Control) (together-none n (sent move rows target) (λ k less. nothing-sent move rows target (node.Compute k) (none k)))

  -- from compute nodes, by a test of the row alone
  by_test : (move : Move) (rows : PlacedRows) (target : Node) (test : Env → Bool) → rows node.Control ≡ [] → ((source : Node) (row : Env) → goes move target source row ≡ test row)
      → after_move n move rows target ≡ filter test (together n rows)
  by_test move rows target test none same =
      from_compute move rows target none
      ∙ together-lists n (sent move rows target) (λ source. filter test (rows source)) (λ k less. filter-alike (goes move target (node.Compute k)) test (same (node.Compute k)) (rows (node.Compute k)))
      ∙ sym (together-made (filter test) refl (filter-append test) rows (compute_nodes n))

  -- all rows of the compute nodes
  all_sent : (move : Move) (rows : PlacedRows) (target : Node) → rows node.Control ≡ [] → ((source : Node) (row : Env) → goes move target source row ≡ true) → after_move n move rows target ≡ together n rows
  all_sent move rows target none all = by_test move rows target (λ row. true) none all ∙ filter-all (λ row. true) (λ row. refl) (together n rows)

  -- no row
  none_sent : (move : Move) (rows : PlacedRows) (target : Node) → ((source : Node) (row : Env) → goes move target source row ≡ false) → after_move n move rows target ≡ []
  none_sent move rows target none =
      split move rows target
      ∙ ap₂ (λ xs ys. xs ++ ys)
      (together-none n (sent move rows target) (λ k less. filter-none (goes move target (node.Compute k)) (none (node.Compute k)) (rows (node.Compute k))))
      (filter-none (goes move target node.Control) (none node.Control) (rows node.Control))

  -- ---- by the hash of a column

  abbrev place_of : ColId → Env → ℕ
  place_of c row = node_for n (row c)

  below : (c : ColId) → 1 ≤ n → (rows : List Env) → AllByRecursion (λ row. place_of c row < n) rows
  below c some [] = tt
  below c some (row ∷ rows) = (node_for-less n (row c) some, below c some rows)

  -- rows that are at each node those of a bag that belong there
  hashed : (c : ColId) (rows : PlacedRows) (bag : List Env) → 1 ≤ n → ((k : ℕ) → k < n → SameBag (rows (node.Compute k)) (filter (λ row. place_of c row == k) bag))
      → SameBag (together n rows) bag
  hashed c rows bag some same = SameBag-trans (together-bags n rows (numbered (place_of c) bag) same) (numbers-together (place_of c) n bag (below c some bag))

  shuffled : (c : ColId) (rows : PlacedRows) → rows node.Control ≡ [] → (k : ℕ) → after_move n (Shuffle c) rows (node.Compute k) ≡ filter (λ row. place_of c row == k) (together n rows)
  shuffled c rows none k = by_test (Shuffle c) rows (node.Compute k) (λ row. place_of c row == k) none (λ source row. refl)

  -- a trim takes no row from another node
  trimmed-other : (i k : ℕ) → k ≢ i → (place : ℕ) → reaches n (trimmed (node.Compute k) place) (node.Compute i) ≡ false
  trimmed-other i k other place = by (k == place)
    where
      by : (is : Bool) → reaches n (if is then One (node.Compute k) else Nobody) (node.Compute i) ≡ false
      by true = ne_eqb k i other
      by false = refl

  trimmed-own : (i place : ℕ) → reaches n (trimmed (node.Compute i) place) (node.Compute i) ≡ (place == i)
  trimmed-own i place = by (i == place) refl
    where
      by : (is : Bool) → (i == place) ≡ is → reaches n (if is then One (node.Compute i) else Nobody) (node.Compute i) ≡ (place == i)
      by true is = eq-eqb i i refl ∙ sym is ∙ eqb-turned i place
      by false is = sym is ∙ eqb-turned i place

  trimmed-rows : (c : ColId) (rows : PlacedRows) → rows node.Control ≡ [] → (i : ℕ) → i < n
      → after_move n (Trim c) rows (node.Compute i) ≡ filter (λ row. place_of c row == i) (rows (node.Compute i))
  trimmed-rows c rows none i there =
      from_compute (Trim c) rows (node.Compute i) none
      ∙ together-only n i (sent (Trim c) rows (node.Compute i)) there
      (λ k less other. filter-none (goes (Trim c) (node.Compute i) (node.Compute k)) (λ row. trimmed-other i k other (place_of c row)) (rows (node.Compute k)))
      ∙ filter-alike (goes (Trim c) (node.Compute i) (node.Compute i)) (λ row. place_of c row == i) (λ row. trimmed-own i (place_of c row)) (rows (node.Compute i))

  -- ---- the law

  pub move-stands : 1 ≤ n → (move : Move) (rows : PlacedRows) (bag : List Env) → IsInside (property_before move) rows → StandsFor n (property_before move) rows bag
      → StandsFor n (property_after move) (after_move n move rows) bag
  move-stands some (Shuffle c) rows bag inside stands =
      let none = inside node.Control refl in (
        SameBag-trans (hashed c (after_move n (Shuffle c) rows) (together n rows) some (λ k less. SameBag-≡ (shuffled c rows none k))) stands,
        λ k less. subst (AllByRecursion (λ row. place_of c row ≡ k)) (sym (shuffled c rows none k)) (numbered-all (place_of c) k (together n rows)),
      )
  move-stands some ToSingle rows bag inside stands = (
    SameBag-trans (SameBag-≡ (all_sent ToSingle rows (node.Compute 0) (inside node.Control refl) (λ source row. refl))) stands,
    λ k more less. none_sent ToSingle rows (node.Compute k) (λ source row. ne_eqb 0 k (λ e. absurd (omega (arith, more, e)))),
  )
  move-stands some ToControl rows bag inside stands = SameBag-trans (SameBag-≡ (all_sent ToControl rows node.Control (inside node.Control refl) (λ source row. refl))) stands
  move-stands some Broadcast rows bag inside stands = λ k less.
      SameBag-trans (SameBag-≡ (all_sent Broadcast rows (node.Compute k) (inside node.Control refl) (λ source row. lt-ltb k n less))) stands
  move-stands some (Trim c) rows bag inside stands =
      let none = inside node.Control refl in (
        hashed c (after_move n (Trim c) rows) bag some (λ k less. SameBag-trans (SameBag-≡ (trimmed-rows c rows none k less)) (SameBag-filter (λ row. place_of c row == k) (stands k less))),
        λ k less. subst (AllByRecursion (λ row. place_of c row ≡ k)) (sym (trimmed-rows c rows none k less)) (numbered-all (place_of c) k (rows (node.Compute k))),
      )
  move-stands some FromControl rows bag inside stands = λ k less.
      SameBag-trans
      (SameBag-≡ (from_control FromControl rows (node.Compute k) (λ i. inside (node.Compute i) refl) ∙ filter-all (goes FromControl (node.Compute k) node.Control) (λ row. lt-ltb k n less) (rows node.Control)))
      stands
  move-stands some FromSingle rows bag inside stands = λ k less.
      SameBag-trans
      (SameBag-≡ (all_sent FromSingle rows (node.Compute k) (inside node.Control refl) (λ source row. lt-ltb k n less)
      ∙ together-only n 0 rows (omega (arith, some)) (λ i _ other. inside (node.Compute i) (ne_eqb i 0 other))))
      stands.0

  -- of equal bags at each node equal bags
  pub move-bags : (move : Move) (rows others : PlacedRows) → ((place : Node) → SameBag (rows place) (others place)) → (place : Node) → SameBag (after_move n move rows place) (after_move n move others place)
  move-bags move rows others same target =
      SameBag-flat_map_inner (sent move rows target) (sent move others target) (λ source. SameBag-filter (goes move target source) (same source)) (all_nodes n)

  pub move-inside : (move : Move) (rows : PlacedRows) → IsInside (property_after move) (after_move n move rows)
  move-inside (Shuffle c) rows (node.Compute k) outside = absurd (true≢false outside)
  move-inside (Shuffle c) rows node.Control outside = none_sent (Shuffle c) rows node.Control (λ source row. refl)
  move-inside ToSingle rows (node.Compute k) outside = none_sent ToSingle rows (node.Compute k) (λ source row. eqb-turned 0 k ∙ outside)
  move-inside ToSingle rows node.Control outside = none_sent ToSingle rows node.Control (λ source row. refl)
  move-inside ToControl rows (node.Compute k) outside = none_sent ToControl rows (node.Compute k) (λ source row. refl)
  move-inside ToControl rows node.Control outside = absurd (true≢false outside)
  move-inside Broadcast rows (node.Compute k) outside = absurd (true≢false outside)
  move-inside Broadcast rows node.Control outside = none_sent Broadcast rows node.Control (λ source row. refl)
  move-inside (Trim c) rows (node.Compute k) outside = absurd (true≢false outside)
  move-inside (Trim c) rows node.Control outside = none_sent (Trim c) rows node.Control never
    where
      kept : (k : ℕ) (is : Bool) → reaches n (if is then One (node.Compute k) else Nobody) node.Control ≡ false
      kept k true = refl
      kept k false = refl

      never : (source : Node) (row : Env) → goes (Trim c) node.Control source row ≡ false
      never (node.Compute k) row = kept k (k == place_of c row)
      never node.Control row = refl
  move-inside FromControl rows (node.Compute k) outside = absurd (true≢false outside)
  move-inside FromControl rows node.Control outside = none_sent FromControl rows node.Control (λ source row. refl)
  move-inside FromSingle rows (node.Compute k) outside = absurd (true≢false outside)
  move-inside FromSingle rows node.Control outside = none_sent FromSingle rows node.Control (λ source row. refl)
