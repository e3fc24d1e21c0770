-- Groups, final rows and partial rows, node by node.
use Rattle.std.proofs.Common.{◌≡◌, ◌≢◌, ℕ, zero, suc, ◌<◌, ◌≤◌, ◌==◌, Bool, true, false, true≢false, ◌||◌, List, [], ◌∷◌, ◌++◌, map, refl, sym, ap, ap₂, ◌∙◌, subst, arith, if◌then◌else◌}
use Rattle.std.proofs.lemmas.Bool.{and_parts}
use Rattle.std.proofs.lemmas.List.Folds.{flat_map-map}
use Rattle.std.specs.List.{AllByRecursion, flat_map}
use Rattle.pdw_algebra.proofs.AllLaws.{all-map}
use Rattle.pdw_bag_laws.proofs.Groups.{SameBag-grouped, column-≡, first-key, key_cells-same}
use Rattle.pdw_bag_laws.proofs.Keys.{all-each_once, occurs, part_of, same_row-≡}
use Rattle.pdw_base.proofs.SameBagLaws.{SameBag-append, SameBag-refl, SameBag-sym, SameBag-trans, SameBag-≡}
use Rattle.pdw_base.specs.Hash.{node_for}
use Rattle.pdw_base.specs.SameBag.{SameBag}
use Rattle.pdw_base.specs.Schema.{Env}
use Rattle.pdw_base.specs.declared.node.Node.{Node}
use Rattle.pdw_base.specs.declared.node.Node.TheVariants as node
use Rattle.pdw_base.specs.declared.schema.ColId.{ColId}
use Rattle.pdw_base.specs.declared.value.Value.TheVariants.{Null}
use Rattle.pdw_base.specs.declared.value.Value.{Value}
use Rattle.pdw_expr.proofs.EnvLaws.{union-nulls}
use Rattle.pdw_expr.specs.Aggregate.{aggregated, final_value}
use Rattle.pdw_expr.specs.Env.{or_else, union}
use Rattle.pdw_expr.specs.Parts.{each_once, groups, same_row}
use Rattle.pdw_expr.specs.Rows.{aggregate_cells, argument, first_row, group_row, grouped, key_cells, key_of}
use Rattle.pdw_expr.specs.declared.agg.Agg.{Agg}
use Rattle.pdw_move.specs.Placed.{compute_nodes}
use Rattle.pdw_move.specs.declared.kinds.Prop.TheVariants.{Spread, Hash, Replicated, Single, Control}
use Rattle.pdw_move.specs.declared.kinds.Prop.{Prop}
use Rattle.pdw_partial.proofs.Admitted.{IsPartial-one, IsPartial-parts}
use Rattle.pdw_partial.proofs.Cells.{partial-key}
use Rattle.pdw_partial.proofs.Groups.{SameBag-final_rows, SameBag-partial_rows}
use Rattle.pdw_partial.specs.Partial.{IsPartial, KeysApart, final_cells, final_row, final_rows, merged, partial_row, partial_rows}
use Rattle.pdw_rules.proofs.Keys.{AreApart, groups-apart, groups-made, groups-none, made}
use Rattle.pdw_rules.proofs.SiteLemmas.{at-hash, at-spread, same-property, under-result, whole-stands}
use Rattle.pdw_rules.proofs.Together.{together-all, together-more}
use Rattle.pdw_rules.specs.Rules.{group_rule, is_grouped, is_key, is_whole, partial_property, partial_rule}
use Rattle.pdw_rules.specs.Stands.{PlacedRows, StandsFor, StandsForPartials, made_at, together}

-- ---- the columns of keys

-- rows of one key have one value in each of its columns
key-cell : (keys : List ColId) (a b : Env) → key_of keys a ≡ key_of keys b → (c : ColId) → is_key keys c ≡ true → a c ≡ b c
key-cell keys a b same c among = sym (cell a) ∙ ap (λ row. row c) (key_cells-same keys a b same) ∙ cell b
  where
    cell : (row : Env) → key_cells keys row c ≡ row c
    cell row = ap (λ is. if is then row c else Null) among

-- what is made of a group has in a key's column the value of its first row
abbrev KeepsKeys : List ColId → (List Env → Env) → Type 0
KeepsKeys keys make = (c : ColId) → is_key keys c ≡ true → (rows : List Env) → make rows c ≡ first_row rows c

module _ (keys : List ColId) (c : ColId) (among : is_key keys c ≡ true) where
  not_out : (agg : Agg) → is_key keys agg.out ≡ false → (agg.out.0 == c.0) ≡ false
  not_out agg apart = by (agg.out.0 == c.0) refl
    where
      by : (is : Bool) → (agg.out.0 == c.0) ≡ is → (agg.out.0 == c.0) ≡ false
      by true is = absurd (true≢false (sym among ∙ ap (is_key keys) (sym (column-≡ agg.out c is)) ∙ apart))
      by false is = is

  aggregate_cells-none : (aggs : List Agg) → KeysApart keys aggs → (rows : List Env) → aggregate_cells aggs rows c ≡ Null
  aggregate_cells-none [] apart rows = refl
  aggregate_cells-none (agg ∷ aggs) apart rows =
      ap (λ is. if is then aggregated agg.kind (map (argument agg.arg) rows) else aggregate_cells aggs rows c) (not_out agg apart.0)
      ∙ aggregate_cells-none aggs apart.1 rows

  final_cells-none : (aggs : List Agg) → KeysApart keys aggs → (rows : List Env) → final_cells aggs rows c ≡ Null
  final_cells-none [] apart rows = refl
  final_cells-none (agg ∷ aggs) apart rows =
      ap (λ is. if is then final_value (merged agg.kind (map (λ row. row agg.out) rows)) else final_cells aggs rows c) (not_out agg apart.0)
      ∙ final_cells-none aggs apart.1 rows

  united-cell : (row cells : Env) → cells c ≡ Null → union (key_cells keys row) cells c ≡ row c
  united-cell row cells none = ap₂ (λ is cell. or_else (if is then row c else Null) cell) among none ∙ ap (λ r. r c) (union-nulls row)

group_row-keeps : (keys : List ColId) (aggs : List Agg) → KeysApart keys aggs → KeepsKeys keys (group_row keys aggs)
group_row-keeps keys aggs apart c among rows = united-cell keys c among (first_row rows) (aggregate_cells aggs rows) (aggregate_cells-none keys c among aggs apart rows)

final_row-keeps : (keys : List ColId) (aggs : List Agg) → KeysApart keys aggs → KeepsKeys keys (final_row keys aggs)
final_row-keeps keys aggs apart c among rows = united-cell keys c among (first_row rows) (final_cells aggs rows) (final_cells-none keys c among aggs apart rows)

partial_row-keeps : (keys : List ColId) (aggs : List Agg) → KeysApart keys aggs → KeepsKeys keys (partial_row keys aggs)
partial_row-keeps keys aggs apart c among rows = key-cell keys (partial_row keys aggs rows) (first_row rows) (partial-key keys aggs apart rows) c among

-- ---- rows by the hash of a key

occurs-row : (key : Env → List Value) (P : Env → Type 0) (rows : List Env) → AllByRecursion P rows → (k : List Value) → occurs k (map key rows) ≡ true → (row : Env) × P row × (key row ≡ k)
occurs-row key P [] all k there = absurd (true≢false (sym there))
occurs-row key P (row ∷ rows) all k there = by (same_row k (key row)) refl there (occurs-row key P rows all.1 k)
  where
    by : (is : Bool) → same_row k (key row) ≡ is → (is || occurs k (map key rows)) ≡ true → (occurs k (map key rows) ≡ true → (row : Env) × P row × (key row ≡ k)) → (row : Env) × P row × (key row ≡ k)
    by true is _ later = (row, all.0, sym (same_row-≡ k (key row) is))
    by false _ there later = later there

module _ (n : ℕ) (c : ColId) (keys : List ColId) (among : is_key keys c ≡ true) where
  abbrev IsAt : ℕ → Env → Type 0
  IsAt k row = node_for n (row c) ≡ k

  abbrev IsBelow : ℕ → Env → Type 0
  IsBelow m row = node_for n (row c) < m

  -- rows of smaller nodes have no key in common with those of a node
  keys-apart : (m : ℕ) (xs ys : List Env) → AllByRecursion (IsBelow m) xs → AllByRecursion (IsAt m) ys → AreApart (map (key_of keys) xs) (map (key_of keys) ys)
  keys-apart m xs ys smaller here k there = by (occurs k (map (key_of keys) ys)) refl
    where
      by : (is : Bool) → occurs k (map (key_of keys) ys) ≡ is → occurs k (map (key_of keys) ys) ≡ false
      by true is =
          let left = occurs-row (key_of keys) (IsBelow m) xs smaller k there in
          let right = occurs-row (key_of keys) (IsAt m) ys here k is in
          let same : node_for n (left.0 c) ≡ node_for n (right.0 c) = ap (node_for n) (key-cell keys left.0 right.0 (left.2 ∙ sym right.2) c among) in
          let less = left.1 in
          let at = right.1 in
          absurd (omega (arith, same, less, at))
      by false is = is

  module _ (make : List Env → Env) (keeps : KeepsKeys keys make) where
    abbrev grouping : List Env → List Env
    grouping rows = map make (map (part_of (key_of keys) rows) (each_once (map (key_of keys) rows)))

    -- the groups of a node's rows stand where the rows do
    groups-at : (k : ℕ) (rows : List Env) → AllByRecursion (IsAt k) rows → AllByRecursion (IsAt k) (grouping rows)
    groups-at k rows all =
        subst (AllByRecursion (IsAt k)) (sym (groups-made (key_of keys) make rows))
        (mapped (each_once (map (key_of keys) rows)) (all-each_once (λ q. IsAt k (make (part_of (key_of keys) rows q))) (map (key_of keys) rows) (λ q there.
        let row = occurs-row (key_of keys) (IsAt k) rows all q there in
        let first = first_row (part_of (key_of keys) rows q) in
        ap (node_for n) (keeps c among (part_of (key_of keys) rows q) ∙ key-cell keys first row.0 (first-key (key_of keys) rows q there ∙ sym row.2) c among) ∙ row.1)))
      where
        mapped : (qs : List (List Value)) → AllByRecursion (λ q. IsAt k (make (part_of (key_of keys) rows q))) qs → AllByRecursion (IsAt k) (map (made (key_of keys) make rows) qs)
        mapped [] all = tt
        mapped (q ∷ qs) all = (all.0, mapped qs all.1)

    -- and those of all nodes are the groups of all rows
    groups-together : (m : ℕ) (rows : PlacedRows) → ((k : ℕ) → k < m → AllByRecursion (IsAt k) (rows (node.Compute k)))
        → SameBag (flat_map (λ place. grouping (rows place)) (compute_nodes m)) (grouping (flat_map rows (compute_nodes m)))
    groups-together zero rows hashed = SameBag-sym (groups-none (key_of keys) make)
    groups-together (suc m) rows hashed =
        let before = flat_map rows (compute_nodes m) in
        let last = rows (node.Compute m) in
        let smaller = together-all (IsBelow m) m rows (λ k less. all-map (IsAt k) (IsBelow m) (λ row at. omega (arith, less, at)) (rows (node.Compute k)) (hashed k (omega (arith, less)))) in
        SameBag-trans (SameBag-≡ (together-more m (λ place. grouping (rows place))))
        (SameBag-trans (SameBag-append (groups-together m rows (λ k less. hashed k (omega (arith, less)))) (SameBag-refl (grouping last)))
        (SameBag-trans (SameBag-sym (groups-apart (key_of keys) make before last (keys-apart m before last smaller (hashed m (omega arith)))))
        (SameBag-≡ (ap grouping (sym (together-more m rows))))))

-- ---- groups under a rule

module _ (n : ℕ) where
  abbrev groups_of : List ColId → (List Env → Env) → List Env → List Env
  groups_of keys make rows = map make (groups keys (key_of keys) rows)

  abbrev grouped_rows : List ColId → (List Env → Env) → PlacedRows → PlacedRows
  grouped_rows keys make rows place = groups_of keys make (rows place)

  hash-stands : (c : ColId) (keys : List ColId) (make : List Env → Env) → KeepsKeys keys make → ((xs ys : List Env) → SameBag xs ys → groups_of keys make xs ≡ groups_of keys make ys)
      → is_key keys c ≡ true → (rows : PlacedRows) (bag : List Env) → StandsFor n (Hash c) rows bag → StandsFor n (Hash c) (made_at (Hash c) (grouped_rows keys make rows)) (groups_of keys make bag)
  hash-stands c [] make keeps same among rows bag stands = absurd (true≢false (sym among))
  hash-stands c (first ∷ rest) make keeps same among rows bag stands =
      at-hash n c (grouped_rows (first ∷ rest) make rows) (groups_of (first ∷ rest) make bag)
      (SameBag-trans (groups-together n c (first ∷ rest) among make keeps n rows stands.1) (SameBag-≡ (same (together n rows) bag stands.0)))
      (λ k less. groups-at n c (first ∷ rest) among make keeps k (rows (node.Compute k)) (stands.1 k less))

  module _ (keys : List ColId) (make : List Env → Env) (keeps : KeepsKeys keys make) (same : (xs ys : List Env) → SameBag xs ys → groups_of keys make xs ≡ groups_of keys make ys) where
    groups-same : (xs ys : List Env) → SameBag xs ys → SameBag (groups_of keys make xs) (groups_of keys make ys)
    groups-same xs ys bags = SameBag-≡ (same xs ys bags)

    groups-keep : (p : Prop) → is_grouped keys p ≡ true → (rows : PlacedRows) (bag : List Env) → StandsFor n p rows bag → StandsFor n p (made_at p (grouped_rows keys make rows)) (groups_of keys make bag)
    groups-keep Spread grouped rows bag stands = absurd (true≢false (sym grouped))
    groups-keep (Hash c) grouped rows bag stands = hash-stands c keys make keeps same grouped rows bag stands
    groups-keep Replicated grouped rows bag stands = whole-stands n (groups_of keys make) groups-same Replicated refl rows bag stands
    groups-keep Single grouped rows bag stands = whole-stands n (groups_of keys make) groups-same Single refl rows bag stands
    groups-keep Control grouped rows bag stands = whole-stands n (groups_of keys make) groups-same Control refl rows bag stands

    groups-stand : (p result : Prop) → group_rule keys p result ≡ true → (rows : PlacedRows) (bag : List Env) → StandsFor n p rows bag
        → StandsFor n result (made_at result (grouped_rows keys make rows)) (groups_of keys make bag)
    groups-stand p result rule rows bag stands =
        let parts = and_parts (is_grouped keys p) _ rule in
        under-result n p result (grouped_rows keys make rows) (groups_of keys make bag) parts.1 (groups-keep p parts.0 rows bag stands)

  module _ (keys : List ColId) (aggs : List Agg) (apart : KeysApart keys aggs) where
    pub group-stands : (p result : Prop) → group_rule keys p result ≡ true → (rows : PlacedRows) (bag : List Env) → StandsFor n p rows bag
        → StandsFor n result (made_at result (λ place. grouped keys aggs (rows place))) (grouped keys aggs bag)
    group-stands = groups-stand keys (group_row keys aggs) (group_row-keeps keys aggs apart) (SameBag-grouped keys aggs)

    pub final-stands : (p result : Prop) → group_rule keys p result ≡ true → (rows : PlacedRows) (bag : List Env) → StandsFor n p rows bag
        → StandsFor n result (made_at result (λ place. final_rows keys aggs (rows place))) (final_rows keys aggs bag)
    final-stands = groups-stand keys (final_row keys aggs) (final_row-keeps keys aggs apart) (SameBag-final_rows keys aggs)

-- ---- partial rows under a rule

some-nodes : (n : ℕ) → 1 ≤ n → (rows : PlacedRows) → map rows (compute_nodes n) ≢ []
some-nodes zero some rows = absurd (omega (arith, some))
some-nodes (suc n) some rows = last (compute_nodes n)
  where
    last : (places : List Node) → map rows (places ++ node.Compute n ∷ []) ≢ []
    last [] = λ none. cc
    last (place ∷ places) = λ none. cc

module _ (keys : List ColId) (aggs : List Agg) where
  abbrev partial_at : PlacedRows → PlacedRows
  partial_at rows place = partial_rows keys aggs (rows place)

  partials-same : (xs ys : List Env) → SameBag xs ys → SameBag (partial_rows keys aggs xs) (partial_rows keys aggs ys)
  partials-same xs ys bags = SameBag-≡ (SameBag-partial_rows keys aggs xs ys bags)

  partials-at : (n : ℕ) (c : ColId) → KeysApart keys aggs → is_key keys c ≡ true → (k : ℕ) (rows : List Env)
      → AllByRecursion (λ (row : Env). node_for n (row c) ≡ k) rows → AllByRecursion (λ (row : Env). node_for n (row c) ≡ k) (partial_rows keys aggs rows)
  partials-at n c apart among k rows all = by keys among (partial_row-keeps keys aggs apart)
    where
      by : (some : List ColId) → is_key some c ≡ true → KeepsKeys some (partial_row keys aggs)
          → AllByRecursion (λ (row : Env). node_for n (row c) ≡ k) (map (partial_row keys aggs) (groups some (key_of some) rows))
      by [] among keeps = absurd (true≢false (sym among))
      by (first ∷ rest) among keeps = groups-at n c (first ∷ rest) among (partial_row keys aggs) keeps k rows all

  module _ (n : ℕ) where
    -- the partial rows of all nodes are admitted
    nodes-admitted : 1 ≤ n → (rows : PlacedRows) (bag : List Env) → SameBag (together n rows) bag → IsPartial keys aggs bag (together n (partial_at rows))
    nodes-admitted some rows bag same =
        subst (IsPartial keys aggs bag) (flat_map-map (partial_rows keys aggs) rows (compute_nodes n))
        (IsPartial-parts keys aggs (map rows (compute_nodes n)) bag (some-nodes n some rows) (SameBag-trans (SameBag-≡ (flat_map-map (λ part. part) rows (compute_nodes n))) same))

    partials-spread : 1 ≤ n → (rows : PlacedRows) (bag : List Env) → SameBag (together n rows) bag → StandsForPartials n keys aggs Spread (made_at Spread (partial_at rows)) bag
    partials-spread some rows bag same = record {
      partials = together n (partial_at rows);
      admitted = nodes-admitted some rows bag same;
      stands = at-spread n (partial_at rows) (together n (partial_at rows)) (SameBag-refl (together n (partial_at rows)));
    }

    partials-whole : (p : Prop) → is_whole p ≡ true → (rows : PlacedRows) (bag : List Env) → StandsFor n p rows bag → StandsForPartials n keys aggs p (made_at p (partial_at rows)) bag
    partials-whole p whole rows bag stands = record {
      partials = partial_rows keys aggs bag;
      admitted = IsPartial-one keys aggs bag;
      stands = whole-stands n (partial_rows keys aggs) partials-same p whole rows bag stands;
    }

    partials-keep : 1 ≤ n → KeysApart keys aggs → (p : Prop) (rows : PlacedRows) (bag : List Env) → StandsFor n p rows bag
        → StandsForPartials n keys aggs (partial_property keys p) (made_at (partial_property keys p) (partial_at rows)) bag
    partials-keep some apart Spread rows bag stands = partials-spread some rows bag stands
    partials-keep some apart (Hash c) rows bag stands = by (is_key keys c) refl
      where
        by : (is : Bool) → is_key keys c ≡ is → StandsForPartials n keys aggs (if is then Hash c else Spread) (made_at (if is then Hash c else Spread) (partial_at rows)) bag
        by true among = record {
          partials = together n (partial_at rows);
          admitted = nodes-admitted some rows bag stands.0;
          stands = at-hash n c (partial_at rows) (together n (partial_at rows)) (SameBag-refl (together n (partial_at rows))) (λ k less. partials-at n c apart among k (rows (node.Compute k)) (stands.1 k less));
        }
        by false other = partials-spread some rows bag stands.0
    partials-keep some apart Replicated rows bag stands = partials-whole Replicated refl rows bag stands
    partials-keep some apart Single rows bag stands = partials-whole Single refl rows bag stands
    partials-keep some apart Control rows bag stands = partials-whole Control refl rows bag stands

    pub partial-stands : 1 ≤ n → KeysApart keys aggs → (p result : Prop) → partial_rule keys p result ≡ true → (rows : PlacedRows) (bag : List Env) → StandsFor n p rows bag
        → StandsForPartials n keys aggs result (made_at result (λ place. partial_rows keys aggs (rows place))) bag
    partial-stands some apart p result rule rows bag stands =
        subst (λ q. StandsForPartials n keys aggs q (made_at q (partial_at rows)) bag) (same-property (partial_property keys p) result rule) (partials-keep some apart p rows bag stands)
