-- Scans: the rows of a table stand as its placing says.
use Rattle.std.proofs.Common.{◌≡◌, ◌≢◌, ℕ, zero, suc, ◌+◌, ◌<◌, ◌≤◌, ◌==◌, Bool, true, false, true≢false, ◌&&◌, ◌||◌, ◌⊎◌, inl, inr, None, Some, Option, List, [], ◌∷◌, ◌++◌, length, map, take, fold, get_or, nat_lt, refl, sym, ap, ap₂, ◌∙◌, subst, arith, eq-eqb, eqb-true, ne_eqb, cond, bytes_eq, if◌then◌else◌}
use Rattle.std.proofs.lemmas.Bool.{or_cases}
use Rattle.std.proofs.lemmas.List.{get_or_default, map-append, take_all}
use Rattle.std.specs.List.{AllByRecursion, flat_map, list_any}
use Rattle.pdw_algebra.proofs.AllLaws.{numbers-same}
use Rattle.pdw_base.proofs.SameBagLaws.{SameBag-map, SameBag-≡}
use Rattle.pdw_base.proofs.Steps.{flat_map-one_more}
use Rattle.pdw_base.specs.Hash.{node_for}
use Rattle.pdw_base.specs.SameBag.{SameBag}
use Rattle.pdw_base.specs.Schema.{Env}
use Rattle.pdw_base.specs.declared.node.Node.{Node}
use Rattle.pdw_base.specs.declared.node.Node.TheVariants as node
use Rattle.pdw_base.specs.declared.schema.ColId.{ColId}
use Rattle.pdw_catalog.proofs.ApplianceLemmas.{Stores-found}
use Rattle.pdw_catalog.specs.Appliance.{Bags, Contents, IsSound, StandsWhere, at_node, bags_named, bags_of, whole_in, whole_of, whole_rows}
use Rattle.pdw_catalog.specs.Catalog.{Tables, table_named}
use Rattle.pdw_catalog.specs.Table.{Row, value_at}
use Rattle.pdw_catalog.specs.declared.table.Placing.TheVariants as placing
use Rattle.pdw_catalog.specs.declared.table.Placing.{Placing}
use Rattle.pdw_catalog.specs.declared.table.Table.{Table}
use Rattle.pdw_expr.specs.Rows.{scanned}
use Rattle.pdw_groups.specs.Columns.{hash_by, hash_in, is_replicate, least_at, lesser, replicated_in}
use Rattle.pdw_move.specs.Placed.{compute_nodes}
use Rattle.pdw_move.specs.declared.kinds.Prop.{Prop}
use Rattle.pdw_rules.proofs.SiteLemmas.{at-hash, at-spread, under-result}
use Rattle.pdw_rules.proofs.Together.{together-lists, together-made, together-more, together-none}
use Rattle.pdw_rules.specs.Rules.{by_hash, scan_property, scan_rule}
use Rattle.pdw_rules.specs.Scans.{AreDifferent, scanned_at}
use Rattle.pdw_rules.specs.Stands.{PlacedRows, StandsFor, made_at, together}

-- ---- the columns that are read

-- one of the columns has this number and this place
abbrev reads : List (ColId × ℕ) → ColId → ℕ → Bool
reads cols c place = list_any (λ col. (col.0.0 == c.0) && (col.1 == place)) cols

same-some : (c d : ColId) → Some c ≡ Some d → c ≡ d
same-some c d e = cc

-- the column that is found is the one before, or one that is read at the place
least-from : (place : ℕ) (c : ColId) (cols : List (ColId × ℕ)) (start : Option ColId)
    → fold (λ least col. if col.1 == place then lesser least col.0 else least) start cols ≡ Some c → (start ≡ Some c) ⊎ (reads cols c place ≡ true)
least-from place c [] start found = inl found
least-from place c ((d, at) ∷ cols) start found = by (at == place) refl (least-from place c cols _ found)
  where
    later : (b : Bool) → reads cols c place ≡ true → (b || reads cols c place) ≡ true
    later true there = refl
    later false there = there

    here : d ≡ c → (at == place) ≡ true → (((d.0 == c.0) && (at == place)) || reads cols c place) ≡ true
    here same is = ap₂ (λ a b. (a && b) || reads cols c place) (eq-eqb d.0 c.0 (ap (λ (x : ColId). x.0) same)) is

    lesser-is : (start : Option ColId) → lesser start d ≡ Some c → (start ≡ Some c) ⊎ (d ≡ c)
    lesser-is None is = inr (same-some d c is)
    lesser-is (Some e) is = choose (nat_lt d.0 e.0) is
      where
        choose : (less : Bool) → (if less then Some d else Some e) ≡ Some c → (Some e ≡ Some c) ⊎ (d ≡ c)
        choose true is = inr (same-some d c is)
        choose false is = inl is

    by : (is : Bool) → (at == place) ≡ is → (((if is then lesser start d else start) ≡ Some c) ⊎ (reads cols c place ≡ true))
        → (start ≡ Some c) ⊎ ((((d.0 == c.0) && (at == place)) || reads cols c place) ≡ true)
    by is at_place (inr there) = inr (later ((d.0 == c.0) && (at == place)) there)
    by true at_place (inl is) = pick (lesser-is start is)
      where
        pick : ((start ≡ Some c) ⊎ (d ≡ c)) → (start ≡ Some c) ⊎ ((((d.0 == c.0) && (at == place)) || reads cols c place) ≡ true)
        pick (inl before) = inl before
        pick (inr same) = inr (here same at_place)
    by false at_place (inl is) = inl is

least-reads : (place : ℕ) (c : ColId) (cols : List (ColId × ℕ)) → least_at place cols ≡ Some c → reads cols c place ≡ true
least-reads place c cols found = by None refl (least-from place c cols None found)
  where
    by : (start : Option ColId) → start ≡ None → ((start ≡ Some c) ⊎ (reads cols c place ≡ true)) → reads cols c place ≡ true
    by start is (inl never) = absurd (cc)
    by start is (inr there) = there

-- ---- different numbers

-- each column differs from all later ones
abbrev Once : List (ColId × ℕ) → Type 0
Once [] = Unit {0}
Once (col ∷ cols) = AllByRecursion (λ (other : ColId × ℕ). col.0.0 ≢ other.0.0) cols × Once cols

once-from : (cols : List (ColId × ℕ)) → AreDifferent cols → Once cols
once-from [] pairs = tt
once-from (col ∷ cols) pairs = (
  each cols (λ j d within. pairs 0 (suc j) d (omega arith) (omega (arith, within))),
  once-from cols (λ i j d before within. pairs (suc i) (suc j) d (omega (arith, before)) (omega (arith, within))),
)
  where
    each : (others : List (ColId × ℕ)) → ((j : ℕ) (d : ColId) → j < length (map (λ (other : ColId × ℕ). other.0) others) → col.0.0 ≢ (get_or (map (λ (other : ColId × ℕ). other.0) others) j d).0)
        → AllByRecursion (λ (other : ColId × ℕ). col.0.0 ≢ other.0.0) others
    each [] f = tt
    each (other ∷ others) f = (f 0 other.0 (omega arith), each others (λ j d within. f (suc j) d (omega (arith, within))))

-- a number that differs from those of all columns is not read
not-read : (c : ColId) (place : ℕ) (cols : List (ColId × ℕ)) → AllByRecursion (λ (other : ColId × ℕ). c.0 ≢ other.0.0) cols → reads cols c place ≡ false
not-read c place [] all = refl
not-read c place (col ∷ cols) all =
    ap₂ (λ a b. (a && (col.1 == place)) || b) (ne_eqb col.0.0 c.0 (λ e. all.0 (sym e))) (not-read c place cols all.1)

-- the cell of a column is the value at its place
scanned-cell : (c : ColId) (place : ℕ) (cols : List (ColId × ℕ)) → Once cols → reads cols c place ≡ true → (row : Row) → scanned cols row c ≡ value_at place row
scanned-cell c place [] once there row = absurd (true≢false (sym there))
scanned-cell c place ((d, at) ∷ cols) once there row = by (d.0 == c.0) refl there (λ later. scanned-cell c place cols once.1 later row)
  where
    by : (is : Bool) → (d.0 == c.0) ≡ is → ((is && (at == place)) || reads cols c place) ≡ true → (reads cols c place ≡ true → scanned cols row c ≡ value_at place row)
        → (if is then value_at at row else scanned cols row c) ≡ value_at place row
    by true is there rest = pick (or_cases (at == place) (reads cols c place) there)
      where
        none : reads cols c place ≡ false
        none = subst (λ x. reads cols x place ≡ false) (numbers-same d c is) (not-read d place cols once.0)

        pick : ((at == place) ≡ true) ⊎ (reads cols c place ≡ true) → value_at at row ≡ value_at place row
        pick (inl here) = ap (λ p. value_at p row) (eqb-true at place here)
        pick (inr later) = absurd (true≢false (sym later ∙ none))
    by false is there rest = rest there

-- ---- the rows of all nodes

module _ (bags : Bags) where
  abbrev rows_of : Node → List Row
  rows_of (node.Compute k) = at_node k bags
  rows_of node.Control = []

  first-nodes : (m : ℕ) → m ≤ length bags → flat_map rows_of (compute_nodes m) ≡ flat_map (λ bag. bag) (take m bags)
  first-nodes zero most = refl
  first-nodes (suc m) most =
      together-more m rows_of
      ∙ ap (λ rows. rows ++ at_node m bags) (first-nodes m (omega (arith, most)))
      ∙ sym (flat_map-one_more bags m (at_node m bags) (omega (arith, most)) (get_or_default bags m [] (at_node m bags) (omega (arith, most))) (λ bag. bag))
      ∙ ap (λ i. flat_map (λ bag. bag) (take i bags)) more
    where
      more : m + 1 ≡ suc m
      more = omega arith

  all-nodes : (n : ℕ) → length bags ≡ n → flat_map rows_of (compute_nodes n) ≡ flat_map (λ bag. bag) bags
  all-nodes n count = first-nodes n (omega (arith, count)) ∙ ap (flat_map (λ bag. bag)) (take_all n bags (omega (arith, count)))

-- ---- the law

module _ (cols : List (ColId × ℕ)) where
  abbrev read : Bags → PlacedRows
  read bags (node.Compute k) = map (scanned cols) (at_node k bags)
  read bags node.Control = []

  read-together : (n : ℕ) (bags : Bags) → length bags ≡ n → together n (read bags) ≡ map (scanned cols) (flat_map (λ bag. bag) bags)
  read-together n bags count =
      together-lists n (read bags) (λ place. map (scanned cols) (rows_of bags place)) (λ k less. refl)
      ∙ sym (together-made (map (scanned cols)) refl (map-append (scanned cols)) (rows_of bags) (compute_nodes n))
      ∙ ap (map (scanned cols)) (all-nodes bags n count)

  read-hashed : (n k place : ℕ) (c : ColId) → Once cols → reads cols c place ≡ true → (rows : List Row) → AllByRecursion (λ row. node_for n (value_at place row) ≡ k) rows
      → AllByRecursion (λ (row : Env). node_for n (row c) ≡ k) (map (scanned cols) rows)
  read-hashed n k place c once there [] all = tt
  read-hashed n k place c once there (row ∷ rows) all = (ap (node_for n) (scanned-cell c place cols once there row) ∙ all.0, read-hashed n k place c once there rows all.1)

  abbrev Stand : ℕ → Prop → Bags → List Row → Type 0
  Stand n p bags rows = StandsFor n p (made_at p (read bags)) (map (scanned cols) rows)

  -- under the placing of the table
  by-placing : (n : ℕ) (where_rows : Placing) (bags : Bags) → Once cols → length bags ≡ n → StandsWhere n where_rows bags
      → Stand n (scan_property (hash_by where_rows cols) (is_replicate where_rows)) bags (whole_rows where_rows bags)
  by-placing n (placing.Hash place) bags once count stands = by (least_at place cols) refl
    where
      all : SameBag (together n (read bags)) (map (scanned cols) (flat_map (λ bag. bag) bags))
      all = SameBag-≡ (read-together n bags count)

      by : (found : Option ColId) → least_at place cols ≡ found → Stand n (by_hash found) bags (flat_map (λ bag. bag) bags)
      by None is = at-spread n (read bags) (map (scanned cols) (flat_map (λ bag. bag) bags)) all
      by (Some c) is =
          at-hash n c (read bags) (map (scanned cols) (flat_map (λ bag. bag) bags)) all
          (λ k less. read-hashed n k place c once (least-reads place c cols is) (at_node k bags) (stands k less))
  by-placing n placing.Replicate bags once count stands = λ k less. SameBag-map (scanned cols) (stands k less)

  -- a name without table has no rows
  no-table : (name : List ℕ) (tables : Tables) (stored : List Bags) → table_named name tables ≡ None → bags_named name tables stored ≡ []
  no-table name [] stored none = refl
  no-table name (entry ∷ tables) [] none = refl
  no-table name (entry ∷ tables) (b ∷ stored) none = by (bytes_eq name entry.0) none (no-table name tables stored)
    where
      by : (is : Bool) → cond is (Some entry.1) (table_named name tables) ≡ None → (table_named name tables ≡ None → bags_named name tables stored ≡ []) → (if is then b else bags_named name tables stored) ≡ []
      by true none rest = absurd (cc)
      by false none rest = rest none

  pub scan-stands : (contents : Contents) → IsSound contents → AreDifferent cols → (table : List ℕ) (p : Prop)
      → scan_rule (hash_in (table_named table contents.tables) cols) (replicated_in (table_named table contents.tables)) p ≡ true
      → StandsFor contents.nodes p (made_at p (scanned_at contents table cols)) (map (scanned cols) (whole_of table contents))
  scan-stands contents sound different table p rule =
      under-result contents.nodes (scan_property (hash_in (table_named table contents.tables) cols) (replicated_in (table_named table contents.tables))) p
      (scanned_at contents table cols) (map (scanned cols) (whole_of table contents)) rule
      (by (table_named table contents.tables) refl)
    where
      by : (found : Option Table) → table_named table contents.tables ≡ found
          → StandsFor contents.nodes (scan_property (hash_in found cols) (replicated_in found)) (made_at (scan_property (hash_in found cols) (replicated_in found)) (scanned_at contents table cols)) (map (scanned cols) (whole_in found (bags_of table contents)))
      by None none =
          let empty : bags_of table contents ≡ [] = no-table table contents.tables contents.bags none in
          at-spread contents.nodes (scanned_at contents table cols) []
          (SameBag-≡ (together-none contents.nodes (scanned_at contents table cols) (λ k less. ap (λ bags. map (scanned cols) (at_node k bags)) empty)))
      by (Some owner) found =
          let stores = Stores-found contents table sound owner found in
          by-placing contents.nodes owner.placing (bags_of table contents) (once-from cols different) stores.each_node stores.stands
