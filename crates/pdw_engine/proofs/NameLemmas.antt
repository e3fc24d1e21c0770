-- Tables with names of their own, before and after a statement.
use Rattle.std.proofs.Common.{◌≡◌, ℕ, Bool, true, false, cond, List, [], ◌∷◌, ◌++◌, Option, Some, None, refl, ap, sym, ◌∙◌, subst}
use Rattle.std.specs.Map.{remove_entry}
use Rattle.std.specs.Str.{bytes_eq}
use Rattle.std.proofs.lemmas.Bool.{false≢true}
use Rattle.std.proofs.lemmas.Slice.Eq.{bytes_eq-Decides}
use Rattle.pdw_catalog.specs.declared.table.Table.{Table}
use Rattle.pdw_catalog.specs.Catalog.{Tables, table_named}
use Rattle.pdw_engine.specs.Names.{HaveOwnNames}

same_none : {X : Type 0} {x : X} → Some x ≡ None → ⊥
same_none e = cc

-- the first of tables among which a name is missing has another name
absent_first : (test : Bool) (table : Table) (rest : Option Table) → cond test (Some table) rest ≡ None → (test ≡ false) × (rest ≡ None)
absent_first true table rest e = absurd (same_none e)
absent_first false table rest e = (refl, e)

turned : (a b : List ℕ) → bytes_eq a b ≡ false → bytes_eq b a ≡ false
turned a b e = by (bytes_eq b a) refl
  where
    by : (t : Bool) → bytes_eq b a ≡ t → t ≡ false
    by true same = absurd (false≢true (sym e ∙ (bytes_eq-Decides a b).1 (sym ((bytes_eq-Decides b a).0 same))))
    by false same = refl

-- ---- one more

absent_pushed : (name other : List ℕ) (table : Table) (tables : Tables) → bytes_eq other name ≡ false → table_named other tables ≡ None → table_named other (tables ++ (name, table) ∷ []) ≡ None
absent_pushed name other table [] apart absent = ap (λ b. cond b (Some table) None) apart
absent_pushed name other table (entry ∷ tables) apart absent =
    let first = absent_first (bytes_eq other entry.0) entry.1 (table_named other tables) absent in
    ap (λ b. cond b (Some entry.1) (table_named other (tables ++ (name, table) ∷ []))) first.0 ∙ absent_pushed name other table tables apart first.1

pub HaveOwnNames-pushed : (name : List ℕ) (table : Table) (tables : Tables) → table_named name tables ≡ None → HaveOwnNames tables → HaveOwnNames (tables ++ (name, table) ∷ [])
HaveOwnNames-pushed name table [] absent own = (refl, tt)
HaveOwnNames-pushed name table (entry ∷ tables) absent own =
    let first = absent_first (bytes_eq name entry.0) entry.1 (table_named name tables) absent in
    (absent_pushed name entry.0 table tables (turned name entry.0 first.0) own.0, HaveOwnNames-pushed name table tables first.1 own.1)

-- ---- one less

absent_removed : (name other : List ℕ) (tables : Tables) → table_named other tables ≡ None → table_named other (remove_entry (bytes_eq name) tables) ≡ None
absent_removed name other [] absent = refl
absent_removed name other (entry ∷ tables) absent =
    let first = absent_first (bytes_eq other entry.0) entry.1 (table_named other tables) absent in
    by (bytes_eq name entry.0) first.0 first.1 (absent_removed name other tables first.1)
  where
    by : (t : Bool) → bytes_eq other entry.0 ≡ false → table_named other tables ≡ None → table_named other (remove_entry (bytes_eq name) tables) ≡ None
        → table_named other (cond t tables (entry ∷ remove_entry (bytes_eq name) tables)) ≡ None
    by true apart rest removed = rest
    by false apart rest removed = ap (λ b. cond b (Some entry.1) (table_named other (remove_entry (bytes_eq name) tables))) apart ∙ removed

pub HaveOwnNames-removed : (name : List ℕ) (tables : Tables) → HaveOwnNames tables → HaveOwnNames (remove_entry (bytes_eq name) tables)
HaveOwnNames-removed name [] own = tt
HaveOwnNames-removed name (entry ∷ tables) own = by (bytes_eq name entry.0) (HaveOwnNames-removed name tables own.1)
  where
    by : (t : Bool) → HaveOwnNames (remove_entry (bytes_eq name) tables) → HaveOwnNames (cond t tables (entry ∷ remove_entry (bytes_eq name) tables))
    by true rest = own.1
    by false rest = (absent_removed name entry.0 tables own.0, rest)

-- a name that was removed is missing
pub removed_absent : (name : List ℕ) (tables : Tables) → HaveOwnNames tables → table_named name (remove_entry (bytes_eq name) tables) ≡ None
removed_absent name [] own = refl
removed_absent name (entry ∷ tables) own = by (bytes_eq name entry.0) refl (removed_absent name tables own.1)
  where
    by : (t : Bool) → bytes_eq name entry.0 ≡ t → table_named name (remove_entry (bytes_eq name) tables) ≡ None → table_named name (cond t tables (entry ∷ remove_entry (bytes_eq name) tables)) ≡ None
    by true same rest = subst (λ n. table_named n tables ≡ None) (sym ((bytes_eq-Decides name entry.0).0 same)) own.0
    by false apart rest = ap (λ b. cond b (Some entry.1) (table_named name (remove_entry (bytes_eq name) tables))) apart ∙ rest

-- and any other name has its table
pub removed_other : (name other : List ℕ) (tables : Tables) → bytes_eq other name ≡ false → table_named other (remove_entry (bytes_eq name) tables) ≡ table_named other tables
removed_other name other [] apart = refl
removed_other name other (entry ∷ tables) apart = by (bytes_eq name entry.0) refl (removed_other name other tables apart)
  where
    by : (t : Bool) → bytes_eq name entry.0 ≡ t → table_named other (remove_entry (bytes_eq name) tables) ≡ table_named other tables
        → table_named other (cond t tables (entry ∷ remove_entry (bytes_eq name) tables)) ≡ table_named other (entry ∷ tables)
    by true same rest =
        let e : bytes_eq other entry.0 ≡ false = subst (λ n. bytes_eq other n ≡ false) ((bytes_eq-Decides name entry.0).0 same) apart in
        sym (ap (λ b. cond b (Some entry.1) (table_named other tables)) e)
    by false other_name rest = ap (λ found. cond (bytes_eq other entry.0) (Some entry.1) found) rest
