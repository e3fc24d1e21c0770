-- What is no rule, by rows worked out by hand: at two compute nodes, the numbers 0, 2 and 4 and NULL belong at the first and 1
-- at the second.
use Rattle.std.proofs.Common.{◌≡◌, ℕ, zero, suc, ◌+◌, ◌<◌, ◌==◌, ◌&&◌, pos, Bool, true, false, ◌||◌, Some, Option, List, [], ◌∷◌, ◌++◌, length, map, length-append, refl, ap, ap₂, ◌∙◌, subst, arith, if◌then◌else◌}
use Rattle.std.specs.List.{AllByRecursion}
use Rattle.pdw_bag_laws.proofs.Keys.{same_row-sym}
use Rattle.pdw_base.proofs.SameBagLaws.{SameBag-length, SameBag-refl}
use Rattle.pdw_base.specs.Hash.{node_for}
use Rattle.pdw_base.specs.Schema.{Env}
use Rattle.pdw_base.specs.declared.node.Node.TheVariants as node
use Rattle.pdw_base.specs.declared.schema.ColId.{ColId}
use Rattle.pdw_base.specs.declared.value.Value.TheVariants.{Null, Int}
use Rattle.pdw_base.specs.declared.value.Value.{Value}
use Rattle.pdw_expr.specs.Parts.{each_once, same_row}
use Rattle.pdw_expr.specs.Rows.{group_row, grouped, joined, key_of, projected}
use Rattle.pdw_expr.specs.Scalar.{value_of, value_step}
use Rattle.pdw_expr.specs.declared.agg.Agg.{Agg}
use Rattle.pdw_expr.specs.declared.agg.JoinKind.TheVariants as joins
use Rattle.pdw_expr.specs.declared.cond.Cmp.TheVariants as compares
use Rattle.pdw_expr.specs.declared.cond.Cond.TheFolds.{fold-roll-Cond}
use Rattle.pdw_expr.specs.declared.cond.Cond.TheOpen.{Cond-F}
use Rattle.pdw_expr.specs.declared.cond.Cond.TheVariants.{Compare}
use Rattle.pdw_expr.specs.declared.cond.Cond as conditions
use Rattle.pdw_expr.specs.declared.cond.Cond.{Cond}
use Rattle.pdw_expr.specs.declared.scalar.Scalar.TheFolds.{fold-roll-Scalar}
use Rattle.pdw_expr.specs.declared.scalar.Scalar.TheOpen.{Scalar-F}
use Rattle.pdw_expr.specs.declared.scalar.Scalar.TheVariants.{Col, Lit}
use Rattle.pdw_expr.specs.declared.scalar.Scalar.{Scalar}
use Rattle.pdw_expr.specs.declared.scalar.Scalar as scalars
use Rattle.pdw_groups.specs.Columns.{column_alone, column_step, equal_pair, equality_columns, equality_step}
use Rattle.pdw_move.specs.declared.kinds.Prop.TheVariants.{Spread, Hash}
use Rattle.pdw_partial.specs.Partial.{partial_row, partial_rows}
use Rattle.pdw_rules.proofs.JoinLemmas.{join-stands}
use Rattle.pdw_rules.proofs.Keys.{SameBag-by_times, groups-made, made, one_if, times-each_once}
use Rattle.pdw_rules.specs.Rules.{is_pair, matches_on}
use Rattle.pdw_rules.specs.Stands.{PlacedRows, StandsFor, made_at, together}

-- ---- two columns, and rows that have one of them

abbrev first : ColId
first = record { 0 = 0 }

abbrev second : ColId
second = record { 0 = 1 }

abbrev left_row : ℕ → Env
left_row value c = if c.0 == 0 then Int (pos value) else Null

abbrev right_row : ℕ → Env
right_row value c = if c.0 == 1 then Int (pos value) else Null

-- rows at the two compute nodes
abbrev at_nodes : List Env → List Env → PlacedRows
at_nodes zeroth other (node.Compute k) = if k == 0 then zeroth else (if k == 1 then other else [])
at_nodes zeroth other node.Control = []

-- the nodes where rows belong by the hash of a column
abbrev belong : ColId → List Env → List ℕ
belong c rows = map (λ row. node_for 2 (row c)) rows

places : belong first (left_row 1 ∷ left_row 2 ∷ left_row 4 ∷ right_row 1 ∷ []) ≡ 1 ∷ 0 ∷ 0 ∷ 0 ∷ []
places = refl

-- a row at the second node that belongs at the first
not-hashed : (c : ColId) (rows : PlacedRows) (bag : List Env) (row : Env) → rows (node.Compute 1) ≡ row ∷ [] → node_for 2 (row c) ≡ 0 → StandsFor 2 (Hash c) (made_at (Hash c) rows) bag → ⊥
not-hashed c rows bag row one place stands =
    let at = subst (AllByRecursion (λ (r : Env). node_for 2 (r c) ≡ 1)) one (stands.1 1 (omega arith)) in
    let other = at.0 in
    absurd (omega (arith, place, other))

-- ---- joins: left rows 1, 2 and 4, a right row 2

abbrev lefts : PlacedRows
lefts = at_nodes (left_row 2 ∷ left_row 4 ∷ []) (left_row 1 ∷ [])

abbrev rights : PlacedRows
rights = at_nodes (right_row 2 ∷ []) []

abbrev equality : Cond
equality = Compare compares.Eq (Col first) (Col second)

alone : (c : ColId) → column_alone (Col c) ≡ Some c
unfolding scalars.roll-Scalar denote.Hole.Carrier.roll
alone c = fold-roll-Scalar (Option ColId) column_step (Scalar-F.Col c)

compared : equality_columns equality ≡ first ∷ second ∷ []
unfolding conditions.roll-Cond denote.Hole.Carrier.roll
compared =
    fold-roll-Cond (List ColId) equality_step (Cond-F.Compare compares.Eq (Col first) (Col second))
    ∙ ap₂ (equal_pair compares.Eq) (alone first) (alone second)

matches : matches_on (equality ∷ []) first second ≡ true
matches = ap (λ (columns : List ColId). is_pair first second columns || false) compared

abbrev left_joined_rows : PlacedRows
left_joined_rows place = joined joins.Left (equality ∷ []) (lefts place) (rights place)

abbrev all_lefts : List Env
all_lefts = left_row 2 ∷ left_row 4 ∷ left_row 1 ∷ []

abbrev all_rights : List Env
all_rights = right_row 2 ∷ []

-- both sides stand by the hash of their columns
lefts-stand : StandsFor 2 (Hash first) lefts all_lefts
lefts-stand = (SameBag-refl all_lefts, hashed)
  where
    hashed : (k : ℕ) → k < 2 → AllByRecursion (λ (row : Env). node_for 2 (row first) ≡ k) (lefts (node.Compute k))
    hashed zero less = (refl, (refl, tt))
    hashed (suc zero) less = (refl, tt)
    hashed (suc (suc k)) less = absurd (omega (arith, less))

rights-stand : StandsFor 2 (Hash second) rights all_rights
rights-stand = (SameBag-refl all_rights, hashed)
  where
    hashed : (k : ℕ) → k < 2 → AllByRecursion (λ (row : Env). node_for 2 (row second) ≡ k) (rights (node.Compute k))
    hashed zero less = (refl, tt)
    hashed (suc zero) less = tt
    hashed (suc (suc k)) less = absurd (omega (arith, less))

-- a left join stands by the hash of the left column
left-by-left : StandsFor 2 (Hash first) (made_at (Hash first) left_joined_rows) (joined joins.Left (equality ∷ []) all_lefts all_rights)
left-by-left =
    join-stands 2 (omega arith) joins.Left (equality ∷ []) (Hash first) (Hash second) (Hash first)
    (ap (λ is. (is && true) || (false || (false || false))) matches)
    lefts rights all_lefts all_rights lefts-stand rights-stand (refl, tt) (refl, (refl, (refl, tt)))

-- and not by that of the right one: the left row 1 has NULL there, which belongs at the first node
left-not-by-right : (bag : List Env) → StandsFor 2 (Hash second) (made_at (Hash second) left_joined_rows) bag → ⊥
left-not-by-right bag = not-hashed second left_joined_rows bag (left_row 1) refl refl

-- a full join does not stand by the hash of the left column: a right row 1 has no partner and NULL there
full-not-by-left : (conds : List Cond) (bag : List Env)
    → StandsFor 2 (Hash first) (made_at (Hash first) (λ place. joined joins.Full conds (at_nodes (left_row 2 ∷ []) [] place) (at_nodes [] (right_row 1 ∷ []) place))) bag → ⊥
full-not-by-left conds bag = not-hashed first (λ place. joined joins.Full conds (at_nodes (left_row 2 ∷ []) [] place) (at_nodes [] (right_row 1 ∷ []) place)) bag (right_row 1) refl refl

-- a full join with one side replicated does not stand as the other: each node has the unmatched right row, which the join has once
full-not-replicated : (conds : List Cond) → length (together 2 (λ place. joined joins.Full conds [] (at_nodes all_rights all_rights place))) ≡ 2
full-not-replicated conds = refl

full-once : (conds : List Cond) → length (joined joins.Full conds [] all_rights) ≡ 1
full-once conds = refl

-- ---- projections

-- a column that is computed is another: 0 belongs at the first node
abbrev zero_item : List (ColId × Option Scalar)
zero_item = (first, Some (Lit (Int (pos 0)))) ∷ []

zero_value : value_of (Lit (Int (pos 0))) ≡ (λ row. Int (pos 0))
unfolding scalars.roll-Scalar denote.Hole.Carrier.roll
zero_value = fold-roll-Scalar (Env → Value) value_step (Scalar-F.Lit (Int (pos 0)))

computed-not-hashed : (bag : List Env) → StandsFor 2 (Hash first) (made_at (Hash first) (λ place. map (projected zero_item) (at_nodes [] (left_row 1 ∷ []) place))) bag → ⊥
computed-not-hashed bag =
    not-hashed first (λ place. map (projected zero_item) (at_nodes [] (left_row 1 ∷ []) place)) bag (projected zero_item (left_row 1)) refl
    (ap (λ (f : Env → Value). node_for 2 (f (left_row 1))) zero_value)

-- a column that is left out is NULL
dropped-not-hashed : (bag : List Env) → StandsFor 2 (Hash first) (made_at (Hash first) (λ place. map (projected []) (at_nodes [] (left_row 1 ∷ []) place))) bag → ⊥
dropped-not-hashed bag = not-hashed first (λ place. map (projected []) (at_nodes [] (left_row 1 ∷ []) place)) bag (projected [] (left_row 1)) refl refl

-- ---- groups

-- without keys each node makes a row, where the whole has one
scalar-not-spread : (aggs : List Agg) (rows : PlacedRows) (bag : List Env) → StandsFor 2 Spread (made_at Spread (λ place. grouped [] aggs (rows place))) (grouped [] aggs bag) → ⊥
scalar-not-spread aggs rows bag stands = let two : 2 ≡ 1 = SameBag-length stands in absurd (omega (arith, two))

-- a key that occurs, once
module _ (k : List Value) where
  once-one : length (each_once (k ∷ [])) ≡ 1
  once-one = SameBag-length (SameBag-by_times (each_once (k ∷ [])) (k ∷ []) (λ q. times-each_once q (k ∷ []) ∙ by (same_row q k) ∙ ap (λ is. one_if is + 0) (same_row-sym q k)))
    where
      by : (is : Bool) → one_if (is || false) ≡ one_if is + 0
      by true = refl
      by false = refl

  once-two : length (each_once (k ∷ k ∷ [])) ≡ 1
  once-two = SameBag-length (SameBag-by_times (each_once (k ∷ k ∷ [])) (k ∷ []) (λ q. times-each_once q (k ∷ k ∷ []) ∙ by (same_row q k) ∙ ap (λ is. one_if is + 0) (same_row-sym q k)))
    where
      by : (is : Bool) → one_if (is || (is || false)) ≡ one_if is + 0
      by true = refl
      by false = refl

-- by the hash of a column that is no key two rows of one key, here NULL, stand at two nodes and make two rows, where the whole
-- has one
module _ (aggs : List Agg) where
  abbrev null_key : List ColId
  null_key = second ∷ []

  groups-count : (rows : List Env) → length (grouped null_key aggs rows) ≡ length (each_once (map (key_of null_key) rows))
  groups-count rows = ap length (groups-made (key_of null_key) (group_row null_key aggs) rows) ∙ length-map (each_once (map (key_of null_key) rows))
    where
      length-map : (ks : List (List Value)) → length (map (made (key_of null_key) (group_row null_key aggs) rows) ks) ≡ length ks
      length-map [] = refl
      length-map (k ∷ ks) = let rest = length-map ks in omega (arith, rest)

  other-key-not-grouped : StandsFor 2 Spread (made_at Spread (λ place. grouped null_key aggs (at_nodes (left_row 2 ∷ []) (left_row 1 ∷ []) place))) (grouped null_key aggs (left_row 2 ∷ left_row 1 ∷ [])) → ⊥
  other-key-not-grouped stands =
      let all = SameBag-length stands in
      let here = grouped null_key aggs (left_row 2 ∷ []) in
      let there = grouped null_key aggs (left_row 1 ∷ []) in
      let both = length-append here (there ++ []) in
      let last = length-append there [] in
      let zeroth = groups-count (left_row 2 ∷ []) ∙ once-one (Null ∷ []) in
      let other = groups-count (left_row 1 ∷ []) ∙ once-one (Null ∷ []) in
      let whole = groups-count (left_row 2 ∷ left_row 1 ∷ []) ∙ once-two (Null ∷ []) in
      absurd (clash _ _ _ _ _ all both last zeroth other whole)
    where
      clash : (sum here more there whole : ℕ) → sum ≡ whole → sum ≡ here + more → more ≡ there + 0 → here ≡ 1 → there ≡ 1 → whole ≡ 1 → ⊥
      clash sum here more there whole a b c d e f = absurd (omega (arith, a, b, c, d, e, f))

-- ---- partial rows

-- of a column that is no key partial rows have NULL
partial-not-hashed : (bag : List Env) → StandsFor 2 (Hash first) (made_at (Hash first) (λ place. partial_rows [] [] (at_nodes [] (left_row 1 ∷ []) place))) bag → ⊥
partial-not-hashed bag = not-hashed first (λ place. partial_rows [] [] (at_nodes [] (left_row 1 ∷ []) place)) bag (partial_row [] [] (left_row 1 ∷ [])) refl refl
