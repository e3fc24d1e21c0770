-- A table that FROM names: its columns have their kinds, their numbers are those of its reference, and its scan is sound.
use Rattle.std.proofs.Common.{◌≡◌, ℕ, zero, suc, ◌+◌, ◌-◌, ◌<◌, ◌≤◌, ◌==◌, ◌||◌, ◌⊎◌, Bool, true, false, List, [], ◌∷◌, ◌++◌, length, map, get_or, get_or-append-add, Option, Some, None, is_some, position, refl, sym, ap, subst, subst₂, le_refl, length-append, ◌∙◌, if◌then◌else◌, arith, inl, inr, eqb-true, eq-eqb, true≢false}
use Rattle.std.specs.Bool.{⊤}
use Rattle.std.specs.List.{AllByRecursion, enumerate_from, flat_map, list_all, list_any, slice_get}
use Rattle.std.specs.Str.{bytes_eq}
use Rattle.std.proofs.lemmas.Bool.{and_from, cases_lt, ne_eqb}
use Rattle.std.proofs.lemmas.List.{get_or_append_left}
use Rattle.std.proofs.lemmas.List.Folds.{list_any-append}
use Rattle.std.proofs.lemmas.List.Quantifiers.{position-Some}
use Rattle.std.specs.Option.{option_map}
use Rattle.std.proofs.lemmas.Option.{get_or_from_slice_get, slice_get_within}
use Rattle.pdw_algebra.specs.Schema.{kind_at}
use Rattle.pdw_algebra.specs.Shape.{column_kind, kind_or_int, scan_column, scan_shape}
use Rattle.pdw_syntax.specs.declared.query.Primary.TheOpen.{Primary-F}
use Rattle.pdw_base.specs.declared.schema.ColId.{ColId}
use Rattle.pdw_base.specs.declared.value.Kind.{Kind}
use Rattle.pdw_sound.proofs.Added.{adds-same, among-all}
use Rattle.pdw_sound.proofs.Ranges.{distinct-by}
use Rattle.pdw_sound.proofs.SoundRelations.{Covered, Distinct, ElementFits, ElementFitsAt, ElementSound, KindsOf, New, Old, Ranged}
use Rattle.pdw_form.specs.Sound.{ElementShape, HaveColumns, QueryShape, SubqueryShape, element_shape, element_step, query_step, subquery_step}
use Rattle.pdw_catalog.specs.Catalog.{table_named}
use Rattle.pdw_catalog.specs.Database.{Database}
use Rattle.pdw_catalog.specs.declared.table.Column.{Column as TableColumn}
use Rattle.pdw_catalog.specs.declared.table.Table.{Table}
use Rattle.pdw_names.proofs.FromMeaningLaws.{named_means}
use Rattle.pdw_names.proofs.Relations.{Proper}
use Rattle.pdw_names.proofs.TableMeaningLaws.{finished_table}
use Rattle.pdw_names.proofs.WalkLaws.{all-append, all-at, done-value, done-walk, refused-done, same_slot-is, count_reference-done, take_alias-done, turn, unless_refused}
use Rattle.pdw_semantics.specs.Froms as meaning
use Rattle.pdw_walk.specs.Froms as walk
use Rattle.pdw_walk.specs.Froms.{called, finished, known_table_walk, table_element, table_entry, table_walk, used_at, used_columns}
use Rattle.pdw_walk.specs.Lookup.{Scope}
use Rattle.pdw_walk.specs.Slot.{same_slot}
use Rattle.pdw_walk.specs.Walk.{Walk, ◌>>◌, col_id, count_reference, done, is_among, pure, take_alias, with_references, with_taken}
use Rattle.pdw_walk.specs.declared.entry.Draft.TheVariants as draft
use Rattle.pdw_walk.specs.declared.entry.Element.{Element}
use Rattle.pdw_walk.specs.declared.entry.Slot.{Slot}
use Rattle.pdw_walk.specs.declared.entry.Slot.TheVariants.{Base, Made}
use Rattle.pdw_walk.specs.declared.fault.TheConstants.{MOST_REFERENCES}
use Rattle.pdw_form.specs.declared.judged.JFrom.TheOpen.{JFrom-F}
use Rattle.pdw_form.specs.declared.judged.JFrom.TheFolds.{fold-roll-JFrom}
use Rattle.pdw_form.specs.declared.judged.JFrom.TheVariants as from

-- ---- lists

pub all-of-map : {X Y : Type 0} (P : Y → Type 0) (f : X → Y) (xs : List X) → AllByRecursion (λ x. P (f x)) xs → AllByRecursion P (map f xs)
all-of-map P f [] all = tt
all-of-map P f (x ∷ xs) all = (all.0, all-of-map P f xs all.1)

pub all-list : {X : Type 0} (p : X → Bool) (xs : List X) → AllByRecursion (λ x. p x ≡ true) xs → list_all p xs ≡ true
all-list p [] all = refl
all-list p (x ∷ xs) all = and_from (p x) (list_all p xs) all.0 (all-list p xs all.1)

pub distinct-one : (c : ColId) → Distinct (c ∷ [])
distinct-one c i j d before inside = absurd (let h : j < 1 = inside in omega (arith, before, h))

-- ---- the used columns of a table reference

module _ (reference : ℕ) where
  abbrev used : List Slot → ℕ → List (ColId × ℕ)
  used numbers from = flat_map (used_at reference) (enumerate_from from numbers)

  used-one : (P : ColId × ℕ → Type 0) (from : ℕ) (slot : Slot) → ((column : ℕ) → slot ≡ Base reference column → P (col_id from, column)) → AllByRecursion P (used_at reference (from, slot))
  used-one P from (Made n) each = tt
  used-one P from (Base other column) each = by (reference == other) refl
    where
      by : (b : Bool) → (reference == other) ≡ b → AllByRecursion P (if b then (col_id from, column) ∷ [] else [])
      by true is = (each column (ap (λ r. Base r column) (sym (eqb-true reference other is))), tt)
      by false is = tt

  -- what holds of each number of a column of the reference
  used-all : (P : ColId × ℕ → Type 0) (numbers : List Slot) (from : ℕ) → ((i column : ℕ) → slice_get numbers i ≡ Some (Base reference column) → P (col_id (from + i), column))
      → AllByRecursion P (used numbers from)
  used-all P [] from each = tt
  used-all P (slot ∷ numbers) from each =
      all-append P (used_at reference (from, slot)) (used numbers (from + 1))
      (used-one P from slot (λ column is. subst (λ n. P (col_id n, column)) (omega arith) (each 0 column (ap Some is))))
      (used-all P numbers (from + 1) (λ i column is. subst (λ n. P (col_id n, column)) (omega arith) (each (suc i) column is)))

  -- the numbers rise
  used-distinct : (numbers : List Slot) (from : ℕ) → Distinct (map (λ (col : ColId × ℕ). col.0) (used numbers from))
  used-distinct [] from = λ i j d before inside. absurd (let h : j < 0 = inside in omega (arith, h))
  used-distinct (Made n ∷ numbers) from = used-distinct numbers (from + 1)
  used-distinct (Base other column ∷ numbers) from = by (reference == other) (used-distinct numbers (from + 1))
    where
      by : (b : Bool) → Distinct (map (λ (col : ColId × ℕ). col.0) (used numbers (from + 1))) → Distinct (map (λ (col : ColId × ℕ). col.0) ((if b then (col_id from, column) ∷ [] else []) ++ used numbers (from + 1)))
      by true rest = distinct-by (λ c. c.0 ≡ from) (λ c. from < c.0) (λ x y first second same. absurd (omega (arith, first, second, same)))
          (col_id from ∷ []) (map (λ (col : ColId × ℕ). col.0) (used numbers (from + 1))) (refl, tt)
          (all-of-map (λ (c : ColId). from < c.0) (λ (col : ColId × ℕ). col.0) (used numbers (from + 1)) (used-all (λ col. from < (col.0).0) numbers (from + 1) (λ i column is. omega arith)))
          (distinct-one (col_id from)) rest
      by false rest = rest

  -- ---- the kind at a number

  module _ (columns : List TableColumn) where
    abbrev kind_in : List Slot → ℕ → ℕ → Option Kind
    kind_in numbers from c = kind_at (map (scan_column columns) (used numbers from)) (col_id c)

    kind-another : (slot : Slot) (numbers : List Slot) (from c : ℕ) → (from == c) ≡ false → kind_in (slot ∷ numbers) from c ≡ kind_in numbers (from + 1) c
    kind-another (Made n) numbers from c other = refl
    kind-another (Base of column) numbers from c other = by (reference == of)
      where
        by : (b : Bool) → kind_at (map (scan_column columns) ((if b then (col_id from, column) ∷ [] else []) ++ used numbers (from + 1))) (col_id c) ≡ kind_in numbers (from + 1) c
        by true = ap (λ b. if b then Some (kind_or_int (column_kind columns column)) else kind_in numbers (from + 1) c) other
        by false = refl

    kind-this : (column : ℕ) (numbers : List Slot) (from c : ℕ) → (from == c) ≡ true → kind_in (Base reference column ∷ numbers) from c ≡ Some (kind_or_int (column_kind columns column))
    kind-this column numbers from c same =
        ap (λ b. kind_at (map (scan_column columns) ((if b then (col_id from, column) ∷ [] else []) ++ used numbers (from + 1))) (col_id c)) (eq-eqb reference reference refl)
        ∙ ap (λ b. if b then Some (kind_or_int (column_kind columns column)) else kind_in numbers (from + 1) c) same

    kind-at : (numbers : List Slot) (from k column : ℕ) (d : Slot) → k < length numbers → get_or numbers k d ≡ Base reference column
        → kind_in numbers from (from + k) ≡ Some (kind_or_int (column_kind columns column))
    kind-at [] from k column d inside is = absurd (omega (arith, inside))
    kind-at (slot ∷ numbers) from zero column d inside is =
        ap (λ s. kind_in (s ∷ numbers) from (from + 0)) is ∙ kind-this column numbers from (from + 0) (eq-eqb from (from + 0) (omega arith))
    kind-at (slot ∷ numbers) from (suc k) column d inside is =
        kind-another slot numbers from (from + suc k) (ne_eqb from (from + suc k) (λ e. absurd (omega (arith, e))))
        ∙ ap (λ c. kind_in numbers (from + 1) c) (omega arith) ∙ kind-at numbers (from + 1) k column d (omega (arith, inside)) is

    -- the columns of the table have their kinds
    kinds-there : (numbers : List Slot) (alias : List ℕ) (rest : List TableColumn) (k : ℕ) → ((i : ℕ) → slice_get rest i ≡ slice_get columns (k + i))
        → KindsOf numbers (map (scan_column columns) (used_columns numbers reference)) (map (table_entry alias reference) (enumerate_from k rest))
    kinds-there numbers alias [] k same = tt
    kinds-there numbers alias (column ∷ rest) k same = (
      (λ place found.
          let is = position-Some (same_slot (Base reference k)) numbers place (Made 0) found in
          let kind : column_kind columns k ≡ Some column.kind = ap (column_kind columns) (omega arith) ∙ ap (option_map (λ (c : TableColumn). c.kind)) (sym (same 0)) in
          ap (kind_in numbers 0) (omega arith) ∙ kind-at numbers 0 place k (Made 0) is.0 (sym (same_slot-is (Base reference k) (get_or numbers place (Made 0)) is.1)) ∙ ap (λ o. Some (kind_or_int o)) kind),
      kinds-there numbers alias rest (k + 1) (λ i. same (suc i) ∙ ap (slice_get columns) (omega arith)),
    )

    -- a column that the table has
    abbrev Has : Slot → Type 0
    Has (Base other column) = is_some (column_kind columns column) ≡ true
    Has (Made n) = ⊤

    has-columns : (alias : List ℕ) (rest : List TableColumn) (k : ℕ) → ((i : ℕ) → slice_get rest i ≡ slice_get columns (k + i)) → AllByRecursion (λ entry. Has entry.slot) (map (table_entry alias reference) (enumerate_from k rest))
    has-columns alias [] k same = tt
    has-columns alias (column ∷ rest) k same = (
      ap is_some (ap (column_kind columns) (omega arith) ∙ ap (option_map (λ (c : TableColumn). c.kind)) (sym (same 0))),
      has-columns alias rest (k + 1) (λ i. same (suc i) ∙ ap (slice_get columns) (omega arith)),
    )

-- ---- aliases

is_it : (b : Bool) → (b || false) ≡ true → b ≡ true
is_it true is = refl
is_it false is = is

-- the last of the aliases that were taken
pub taken-last : (alias other : List ℕ) (taken : List (List ℕ)) → is_among other (taken ++ alias ∷ []) ≡ true → is_among other taken ≡ false → bytes_eq other alias ≡ true
taken-last alias other taken now before =
    is_it (bytes_eq other alias) (sym (list_any-append (λ another. bytes_eq other another) taken (alias ∷ []) ∙ ap (λ b. b || (bytes_eq other alias || false)) before) ∙ now)

pub taken-still : (alias other : List ℕ) (taken : List (List ℕ)) → is_among other taken ≡ true → is_among other (taken ++ alias ∷ []) ≡ true
taken-still alias other taken is = list_any-append (λ another. bytes_eq other another) taken (alias ∷ []) ∙ ap (λ b. b || (bytes_eq other alias || false)) is

-- ---- table references are counted

counted-limit : (w : Walk) (reference : ℕ) (w' : Walk) → count_reference w ≡ done reference w' → (w.references == MOST_REFERENCES) ≡ false
unfolding count_reference
counted-limit w reference w' same = (unless_refused _ _ _ reference w' same).0

below-limit : (n limit : ℕ) → (n == limit) ≡ false → n ≤ limit → n + 1 ≤ limit
below-limit n limit other most = elim (cases_lt n limit) [
  | inl below ↦ omega (arith, below)
  | inr past ↦ absurd (true≢false (sym (eq-eqb n limit (omega (arith, past, most))) ∙ other))
]

-- ---- what a table gives

module _ (database : Database) (name alias : List ℕ) (table : Table) (known : table_named name database.tables ≡ Some table) where
  abbrev scan_element : List (ColId × ℕ) → ElementShape
  scan_element cols = record {
    columns = map (scan_column table.columns) cols;
    made = map (λ (col : ColId × ℕ). col.0) cols;
    leaves = 1;
    sound = list_all (λ (col : ColId × ℕ). is_some (column_kind table.columns col.1)) cols;
  }

  shape-is : (numbers : List Slot) (reference : ℕ) → element_shape database.tables (finished numbers (draft.Table name alias reference)) ≡ scan_element (used_columns numbers reference)
  shape-is numbers reference =
      let cols = used_columns numbers reference in
      ap (element_shape database.tables) (finished_table numbers name alias reference ∙ sym (from.rolls-Table name alias cols))
      ∙ fold-roll-JFrom ElementShape SubqueryShape QueryShape (element_step database.tables) subquery_step query_step (JFrom-F.Table name alias cols)
      ∙ ap (λ found. let scan = scan_shape found cols in record { columns = scan.columns; made = scan.made; leaves = 1; sound = scan.sound }) known

  module _ (w : Walk) where
    abbrev referred : Walk
    referred = with_taken (w.taken ++ alias ∷ []) (with_references (w.references + 1) w)

    abbrev entries : Scope
    entries = walk.table_entries alias w.references table.columns

    -- a number that stands for a column of the table
    abbrev Numbered : List Slot → ColId × ℕ → Type 0
    Numbered numbers col = Ranged numbers w referred col.0

    numbered : (numbers : List Slot) → Proper numbers → AllByRecursion (Numbered numbers) (used_columns numbers w.references)
    numbered numbers proper = used-all w.references (Numbered numbers) numbers 0 (λ i column is. record {
      slot = Base w.references column;
      at = subst (λ s. position (same_slot s) numbers ≡ Some i) (get_or_from_slice_get numbers i (Base w.references column) (Made i) is) (proper.once i (slice_get_within numbers i (Base w.references column) is)) ∙ ap Some (omega arith);
      within = (le_refl w.references, omega arith);
    })

    fits-at : (numbers : List Slot) → Proper numbers → ElementFitsAt database numbers w entries (scan_element (used_columns numbers w.references)) referred
    fits-at numbers proper = record {
      kinds = kinds-there w.references table.columns numbers alias table.columns 0 (λ i. ap (slice_get table.columns) (omega arith));
      columns = all-of-map (λ (column : ColId × Kind). Ranged numbers w referred column.0) (scan_column table.columns) (used_columns numbers w.references) (numbered numbers proper);
      made = all-of-map (Ranged numbers w referred) (λ (col : ColId × ℕ). col.0) (used_columns numbers w.references) (numbered numbers proper);
      distinct = used-distinct w.references numbers 0;
      some = omega arith;
      leaves = omega arith;
    }

    -- each number of its reference stands for a column that the table has
    module _ (before : AllByRecursion (Old w) w.numbers) (later : List Slot) (covered : AllByRecursion (Covered w referred entries) later) where
      is-later : (i column : ℕ) → slice_get (w.numbers ++ later) i ≡ Some (Base w.references column) → is_some (column_kind table.columns column) ≡ true
      is-later i column is = by (cases_lt i (length w.numbers))
        where
          slot-is : get_or (w.numbers ++ later) i (Made 0) ≡ Base w.references column
          slot-is = get_or_from_slice_get (w.numbers ++ later) i (Base w.references column) (Made 0) is

          by : (i < length w.numbers) ⊎ (length w.numbers ≤ i) → is_some (column_kind table.columns column) ≡ true
          by (inl inside) =
              let old : Old w (Base w.references column) = subst (Old w) (sym (get_or_append_left w.numbers later (Made 0) i inside) ∙ slot-is) (all-at (Old w) w.numbers before i (Made 0) inside) in
              absurd (let h : w.references < w.references = old in omega (arith, h))
          by (inr past) =
              let j = i - length w.numbers in
              let there : length w.numbers + j ≡ i = omega (arith, past) in
              let slot : get_or later j (Made 0) ≡ Base w.references column = sym (get_or-append-add w.numbers later j (Made 0)) ∙ ap (λ k. get_or (w.numbers ++ later) k (Made 0)) there ∙ slot-is in
              let long = length-append w.numbers later in
              let within = slice_get_within (w.numbers ++ later) i (Base w.references column) is in
              let cover : Covered w referred entries (Base w.references column) = subst (Covered w referred entries) slot (all-at (Covered w referred entries) later covered j (Made 0) (omega (arith, long, within, there))) in
              among-all (Has w.references table.columns) entries (Base w.references column) (has-columns w.references table.columns alias table.columns 0 (λ k. ap (slice_get table.columns) (omega arith))) (cover (le_refl w.references, omega arith))

      scan-sound : list_all (λ (col : ColId × ℕ). is_some (column_kind table.columns col.1)) (used_columns (w.numbers ++ later) w.references) ≡ true
      scan-sound = all-list (λ (col : ColId × ℕ). is_some (column_kind table.columns col.1)) (used_columns (w.numbers ++ later) w.references)
          (used-all w.references (λ col. is_some (column_kind table.columns col.1) ≡ true) (w.numbers ++ later) 0 is-later)

    some-entry : (columns : List TableColumn) → 1 ≤ length columns → 0 < length (walk.table_entries alias w.references columns)
    some-entry [] some = absurd (let h : 1 ≤ 0 = some in omega (arith, h))
    some-entry (column ∷ columns) some = omega arith

    entry-alias : (columns : List TableColumn) → 1 ≤ length columns → (other : List ℕ) → bytes_eq other alias ≡ true → list_any (λ entry. bytes_eq other entry.alias) (walk.table_entries alias w.references columns) ≡ true
    entry-alias [] some other is = absurd (let h : 1 ≤ 0 = some in omega (arith, h))
    entry-alias (column ∷ columns) some other is = ap (λ b. b || list_any (λ entry. bytes_eq other entry.alias) (map (table_entry alias w.references) (enumerate_from 1 columns))) is

    table-fits : 1 ≤ length table.columns → (w.references == MOST_REFERENCES) ≡ false → AllByRecursion (Old w) w.numbers → ElementFits database w (table_element name alias table.columns w.references) referred
    table-fits some room before = record {
      limit = below-limit w.references MOST_REFERENCES room;
      some = some-entry table.columns some;
      aliases = λ other now not_before. entry-alias table.columns some other (taken-last alias other w.taken now not_before);
      taken = λ other is. taken-still alias other w.taken is;
      uses = adds-same (New w referred) refl;
      shape = λ later proper. subst (λ shape. ElementFitsAt database (w.numbers ++ later) w entries shape referred) (sym (shape-is (w.numbers ++ later) w.references)) (fits-at (w.numbers ++ later) proper);
      sound = λ later proper covered limit. ap (λ (shape : ElementShape). shape.sound) (shape-is (w.numbers ++ later) w.references) ∙ scan-sound before later covered;
    }

-- ---- the walk of a table

module _ (database : Database) (have : HaveColumns database.tables) (name alias : List ℕ) where
  by-table : (found : Option Table) → table_named name database.tables ≡ found → (w : Walk) (e : Element) (w' : Walk) → AllByRecursion (Old w) w.numbers → table_walk name alias found w ≡ done e w' → ElementFits database w e w'
  unfolding known_table_walk
  by-table None known w e w' before walked = refused-done walked
  by-table (Some table) known w e w' before walked =
      let first = turn (count_reference w) (λ reference. take_alias alias >> pure (table_element name alias table.columns reference)) e w' walked in
      let second = turn (take_alias alias first.between) (λ u. pure (table_element name alias table.columns first.given)) e w' first.goes_on in
      let begun = count_reference-done w first.given first.between first.begins in
      let taken = (take_alias-done alias first.between second.given second.between second.begins).1 in
      subst₂ (λ e w'. ElementFits database w e w')
      (ap (table_element name alias table.columns) begun.0 ∙ done-value second.goes_on)
      (ap (λ (v : Walk). with_taken (v.taken ++ alias ∷ []) v) begun.1 ∙ (taken ∙ done-walk second.goes_on))
      (table-fits database name alias table known w (have name table known) (counted-limit w first.given first.between first.begins) before)

module _ (database : Database) (have : HaveColumns database.tables) where
  pub named_sound : (table : List ℕ) (alias : Option (List ℕ)) → ElementSound database (walk.primary_step (Primary-F.Named table alias))
  named_sound table alias = record {
    meaning = meaning.primary_step database (Primary-F.Named table alias);
    means = named_means database table alias;
    gives = λ outers w e w' proper settled behind walked. by-table database have table (called table alias) (table_named table database.tables) refl w e w' behind.numbers walked;
  }
