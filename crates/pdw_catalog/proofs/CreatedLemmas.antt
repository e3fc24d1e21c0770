-- What a new table leaves of the rows of each name.
use Rattle.std.proofs.Common.{◌≡◌, ℕ, zero, suc, Bool, true, false, cond, List, [], ◌∷◌, ◌++◌, length, replicate, refl, ap, ◌∙◌, arith, Some, None, if◌then◌else◌}
use Rattle.std.specs.List.{flat_map}
use Rattle.std.specs.Str.{bytes_eq}
use Rattle.pdw_catalog.specs.declared.table.Table.{Table}
use Rattle.pdw_catalog.specs.declared.table.Placing.{Placing}
use Rattle.pdw_catalog.specs.declared.table.Placing.TheVariants.{Hash, Replicate}
use Rattle.pdw_catalog.specs.Table.{Row}
use Rattle.pdw_catalog.specs.Catalog.{Tables, table_named}
use Rattle.pdw_catalog.specs.Appliance.{Bags, Contents, at_node, CanCreate, GainsTable, IsSound, bags_named, creating, whole_in, whole_rows}
use Rattle.pdw_catalog.proofs.TablesLemmas.{length-StoresAll}
use Rattle.std.specs.Cmp.Lexicographic.{nat_list_eq_equiv}

flat_map-empty : (n : ℕ) → flat_map (λ (bag : List Row). bag) (replicate n []) ≡ []
flat_map-empty zero = refl
flat_map-empty (suc n) = flat_map-empty n

first-empty : (n : ℕ) → at_node 0 (replicate n []) ≡ []
first-empty zero = refl
first-empty (suc n) = refl

whole_rows-empty : (placing : Placing) (n : ℕ) → whole_rows placing (replicate n []) ≡ []
whole_rows-empty (Hash column) n = flat_map-empty n
whole_rows-empty Replicate n = first-empty n

module _ (name : List ℕ) (table : Table) (now : Bags) where
  table_named-pushed : bytes_eq name name ≡ true → (tables : Tables) → table_named name tables ≡ None → table_named name (tables ++ (name, table) ∷ []) ≡ Some table
  table_named-pushed own [] new = ap (λ b. cond b (Some table) None) own
  table_named-pushed own (entry ∷ tables) new = by (bytes_eq name entry.0) new (table_named-pushed own tables)
    where
      by : (b : Bool) → cond b (Some entry.1) (table_named name tables) ≡ None → (table_named name tables ≡ None → table_named name (tables ++ (name, table) ∷ []) ≡ Some table)
          → cond b (Some entry.1) (table_named name (tables ++ (name, table) ∷ [])) ≡ Some table
      by true absent rest = cc
      by false absent rest = rest absent

  bags_named-pushed : bytes_eq name name ≡ true → (tables : Tables) (bags : List Bags) → length bags ≡ length tables → table_named name tables ≡ None
      → bags_named name (tables ++ (name, table) ∷ []) (bags ++ now ∷ []) ≡ now
  bags_named-pushed own [] [] same new = ap (λ b. if b then now else []) own
  bags_named-pushed own [] (b ∷ bags) same new = absurd (omega arith)
  bags_named-pushed own (entry ∷ tables) [] same new = absurd (omega arith)
  bags_named-pushed own (entry ∷ tables) (b ∷ bags) same new = by (bytes_eq name entry.0) new (bags_named-pushed own tables bags (omega arith))
    where
      by : (t : Bool) → cond t (Some entry.1) (table_named name tables) ≡ None
          → (table_named name tables ≡ None → bags_named name (tables ++ (name, table) ∷ []) (bags ++ now ∷ []) ≡ now)
          → (if t then b else bags_named name (tables ++ (name, table) ∷ []) (bags ++ now ∷ [])) ≡ now
      by true absent rest = cc
      by false absent rest = rest absent

  module _ (other : List ℕ) (apart : bytes_eq other name ≡ false) where
    table_named-other : (tables : Tables) → table_named other (tables ++ (name, table) ∷ []) ≡ table_named other tables
    table_named-other [] = ap (λ b. cond b (Some table) None) apart
    table_named-other (entry ∷ tables) = ap (λ rest. cond (bytes_eq other entry.0) (Some entry.1) rest) (table_named-other tables)

    bags_named-other : (tables : Tables) (bags : List Bags) → length bags ≡ length tables
        → bags_named other (tables ++ (name, table) ∷ []) (bags ++ now ∷ []) ≡ bags_named other tables bags
    bags_named-other [] [] same = ap (λ b. if b then now else []) apart
    bags_named-other [] (b ∷ bags) same = absurd (omega arith)
    bags_named-other (entry ∷ tables) [] same = absurd (omega arith)
    bags_named-other (entry ∷ tables) (b ∷ bags) same = ap (λ rest. if bytes_eq other entry.0 then b else rest) (bags_named-other tables bags (omega arith))

pub GainsTable-creating : (contents : Contents) (table : Table) → IsSound contents → CanCreate contents table → GainsTable contents (creating contents table) table
GainsTable-creating contents table sound can =
    let same = length-StoresAll contents.nodes contents.tables contents.bags sound.stored in
    let now = replicate contents.nodes [] in
    let own = nat_list_eq_equiv.refl table.name in
    record {
      nodes = refl;
      tables = refl;
      empty =
          (λ i. whole_in (table_named-pushed table.name table now own contents.tables can.new i) (bags_named-pushed table.name table now own contents.tables contents.bags same can.new i))
          ∙ whole_rows-empty table.placing contents.nodes;
      others = λ other apart i. whole_in (table_named-other table.name table now other apart contents.tables i) (bags_named-other table.name table now other apart contents.tables contents.bags same i);
    }
