-- The rows of a table at a node of a sound appliance.
use Rattle.std.proofs.Common.{◌≡◌, ℕ, zero, suc, ◌<◌, ◌≤◌, Bool, true, false, List, [], ◌∷◌, length, Option, Some, None, refl, sym, ap, subst, arith, if◌then◌else◌}
use Rattle.std.specs.List.{AllByRecursion}
use Rattle.std.specs.Str.{bytes_eq}
use Rattle.pdw_algebra.specs.Shape.{columns_in}
use Rattle.pdw_catalog.proofs.ApplianceLemmas.{Stores-found}
use Rattle.pdw_catalog.specs.Appliance.{Bags, Contents, IsSound, at_node, bag_at, bags_named, bags_of}
use Rattle.pdw_catalog.specs.Catalog.{Tables, table_named}
use Rattle.pdw_catalog.specs.Table.{FitsTable, Row}
use Rattle.pdw_catalog.specs.declared.table.Table.{Table}

beyond : (bags : Bags) (node : ℕ) → length bags ≤ node → at_node node bags ≡ []
beyond [] node all = refl
beyond (bag ∷ bags) zero all = absurd (omega arith)
beyond (bag ∷ bags) (suc node) all = beyond bags node (omega arith)

none-named : (name : List ℕ) (tables : Tables) (bags : List Bags) → table_named name tables ≡ None → bags_named name tables bags ≡ []
none-named name [] bags none = refl
none-named name (entry ∷ tables) [] none = refl
none-named name (entry ∷ tables) (first ∷ bags) none = by (bytes_eq name entry.0) none (none-named name tables bags)
  where
    by : (here : Bool) → (if here then Some entry.1 else table_named name tables) ≡ None → (table_named name tables ≡ None → bags_named name tables bags ≡ [])
        → (if here then first else bags_named name tables bags) ≡ []
    by true none later = cc
    by false none later = later none

module _ (contents : Contents) (name : List ℕ) (node : ℕ) where
  abbrev Fit : List Row → Type 0
  Fit rows = AllByRecursion (FitsTable (columns_in (table_named name contents.tables))) rows

  -- no rows without the table
  pub no-table : table_named name contents.tables ≡ None → bag_at node name contents ≡ []
  no-table none = ap (at_node node) (none-named name contents.tables contents.bags none)

  module _ (sound : IsSound contents) where
    -- none past the last node
    pub no-node : contents.nodes ≤ node → bag_at node name contents ≡ []
    no-node past = by (table_named name contents.tables) refl
      where
        by : (table : Option Table) → table_named name contents.tables ≡ table → bag_at node name contents ≡ []
        by None is = no-table is
        by (Some table) is = let each = (Stores-found contents name sound table is).each_node in beyond (bags_of name contents) node (omega arith)

    -- and they fit the table
    pub rows-fit : (table : Table) → table_named name contents.tables ≡ Some table → node < contents.nodes → Fit (bag_at node name contents)
    rows-fit table is within =
        subst (λ t. AllByRecursion (FitsTable (columns_in t)) (bag_at node name contents)) (sym is) ((Stores-found contents name sound table is).fits node within)
