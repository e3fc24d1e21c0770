-- A table that FROM names: its whole rows, named and numbered.
use Rattle.std.proofs.Common.{◌≡◌, ℕ, zero, suc, ◌+◌, ◌<◌, ◌≤◌, ◌==◌, Bool, true, false, ◌⊎◌, List, [], ◌∷◌, ◌++◌, length, map, slice_index_or, Option, Some, None, refl, sym, ap, subst, subst₂, append-nil, le_refl, ◌∙◌, if◌then◌else◌, arith, inl, inr, eqb-true, eq-eqb}
use Rattle.std.specs.List.{AllByRecursion, enumerate_from, flat_map}
use Rattle.std.proofs.lemmas.Bool.{ne_eqb, cases_lt}
use Rattle.pdw_base.specs.Schema.{Env}
use Rattle.pdw_base.specs.declared.schema.ColId.{ColId}
use Rattle.pdw_base.specs.declared.value.Value.{Value}
use Rattle.pdw_base.specs.declared.value.Value.TheVariants.{Null}
use Rattle.pdw_catalog.specs.Catalog.{table_named}
use Rattle.pdw_catalog.specs.Database.{Database}
use Rattle.pdw_catalog.specs.declared.table.Column.{Column as TableColumn}
use Rattle.pdw_catalog.specs.declared.table.Table.{Table}
use Rattle.pdw_expr.specs.Rows.{scanned}
use Rattle.pdw_walk.proofs.Outcomes.{in_turn, done_value, done_walk, refused_not_done}
use Rattle.pdw_form.proofs.Related.{Related, none as no_rows, more as one_more}
use Rattle.pdw_names.proofs.Relations.{ElementGives, ElementMeans, Every, Exact, Grows, Numbering, RowOf, SettledIn, Shows, none, more, Within}
use Rattle.pdw_semantics.specs.Environment.{labelled}
use Rattle.pdw_semantics.specs.Froms.{ElementMeaning, label_of, table_labels, table_meaning}
use Rattle.pdw_form.specs.Numbered.{NumberedMeaning, from_rows, from_step, query_step, sub_step}
use Rattle.pdw_walk.specs.Froms.{finished, known_table_walk, finished_step, table_element, table_entry, table_walk, used_at, used_columns}
use Rattle.pdw_walk.specs.Walk.{Walk, ◌>>◌, col_id, count_reference, done, is_among, pure, refused, take_alias, with_references, with_taken}
use Rattle.pdw_walk.specs.declared.entry.Draft.TheOpen.{Draft-F}
use Rattle.pdw_walk.specs.declared.entry.Draft.TheFolds.{fold-roll-Draft}
use Rattle.pdw_walk.specs.declared.entry.Draft.TheVariants as draft
use Rattle.pdw_walk.specs.declared.entry.Element.{Element}
use Rattle.pdw_walk.specs.declared.entry.Slot.{Slot}
use Rattle.pdw_walk.specs.declared.entry.Slot.TheVariants.{Base, Made}
use Rattle.pdw_walk.specs.declared.fault.JudgeFault.TheVariants.{DuplicateName, Limit}
use Rattle.pdw_walk.specs.declared.fault.LimitName.TheVariants as limit
use Rattle.pdw_walk.specs.declared.fault.TheConstants.{MOST_REFERENCES}
use Rattle.pdw_form.specs.declared.judged.JFrom.{JFrom}
use Rattle.pdw_form.specs.declared.judged.JFrom.TheOpen.{JFrom-F}
use Rattle.pdw_form.specs.declared.judged.JFrom.TheFolds.{fold-roll-JFrom}
use Rattle.pdw_form.specs.declared.judged.JFrom.TheVariants as from

-- what a row of a table reference has of a slot
abbrev pub read_at : List Value → ℕ → Slot → Value
read_at row reference (Base other column) = if reference == other then slice_index_or row column Null else Null
read_at row reference (Made n) = Null

module _ (row : List Value) (reference : ℕ) where
  -- the used columns of numbers from a place on
  abbrev cells : List Slot → ℕ → ℕ → Value
  cells numbers from c = scanned (flat_map (used_at reference) (enumerate_from from numbers)) row (col_id c)

  another : (slot : Slot) (numbers : List Slot) (from c : ℕ) → (from == c) ≡ false → cells (slot ∷ numbers) from c ≡ cells numbers (from + 1) c
  another (Made n) numbers from c other = refl
  another (Base of column) numbers from c other = by (reference == of)
    where
      by : (b : Bool) → scanned ((if b then (col_id from, column) ∷ [] else []) ++ flat_map (used_at reference) (enumerate_from (from + 1) numbers)) row (col_id c) ≡ cells numbers (from + 1) c
      by true = ap (λ b. if b then slice_index_or row column Null else cells numbers (from + 1) c) other
      by false = refl

  -- the numbers before those of a list are not among its used columns
  before : (numbers : List Slot) (from c : ℕ) → c < from → cells numbers from c ≡ Null
  before [] from c below = refl
  before (slot ∷ numbers) from c below = another slot numbers from c (ne_eqb from c (λ e. absurd (omega (arith, below, e)))) ∙ before numbers (from + 1) c (omega (arith, below))

  this : (slot : Slot) (numbers : List Slot) (from c : ℕ) → (from == c) ≡ true → cells (slot ∷ numbers) from c ≡ read_at row reference slot
  this (Made n) numbers from c same = before numbers (from + 1) c (omega (arith, eqb-true from c same))
  this (Base of column) numbers from c same = by (reference == of)
    where
      by : (b : Bool) → scanned ((if b then (col_id from, column) ∷ [] else []) ++ flat_map (used_at reference) (enumerate_from (from + 1) numbers)) row (col_id c) ≡ (if b then slice_index_or row column Null else Null)
      by true = ap (λ b. if b then slice_index_or row column Null else cells numbers (from + 1) c) same
      by false = before numbers (from + 1) c (omega (arith, eqb-true from c same))

  at : (numbers : List Slot) (from k : ℕ) (otherwise : Slot) → k < length numbers → cells numbers from (from + k) ≡ read_at row reference (slice_index_or numbers k otherwise)
  at [] from k otherwise inside = absurd (omega (arith, inside))
  at (slot ∷ numbers) from zero otherwise inside = this slot numbers from (from + 0) (eq-eqb from (from + 0) (omega arith))
  at (slot ∷ numbers) from (suc k) otherwise inside =
      another slot numbers from (from + suc k) (ne_eqb from (from + suc k) (λ e. absurd (omega (arith, e))))
      ∙ ap (λ c. cells numbers (from + 1) c) (omega arith) ∙ at numbers (from + 1) k otherwise (omega (arith, inside))

  past : (numbers : List Slot) (from c : ℕ) → from + length numbers ≤ c → cells numbers from c ≡ Null
  past [] from c outside = refl
  past (slot ∷ numbers) from c outside = another slot numbers from c (ne_eqb from c (λ e. absurd (omega (arith, outside, e)))) ∙ past numbers (from + 1) c (omega (arith, outside))

  -- a scanned row has at each number what its slot is in the row
  pub scanned_reads : (numbers : List Slot) (N : Numbering) → Exact N numbers → (c : ColId) → scanned (used_columns numbers reference) row c ≡ read_at row reference (N.slot_at c)
  scanned_reads numbers N exact c = by (cases_lt c.0 (length numbers))
    where
      by : (c.0 < length numbers) ⊎ (length numbers ≤ c.0) → scanned (used_columns numbers reference) row c ≡ read_at row reference (N.slot_at c)
      by (inl inside) = ap (λ k. cells numbers 0 k) (omega arith) ∙ at numbers 0 c.0 (Made c.0) inside ∙ ap (read_at row reference) (sym (exact.inside c.0 inside))
      by (inr outside) = past numbers 0 c.0 (omega (arith, outside)) ∙ ap (read_at row reference) (sym (exact.outside c.0 outside))

-- ---- the entries of a table show its rows

module _ (row : List Value) (reference : ℕ) (alias : List ℕ) (N : Numbering) (m : Env) (reads : (c : ColId) → m c ≡ read_at row reference (N.slot_at c)) where
  value_of_column : (k : ℕ) (c : ColId) → N.number_of (Base reference k) ≡ Some c → slice_index_or row k Null ≡ m c
  value_of_column k c given =
      sym (reads c ∙ (ap (read_at row reference) (N.forth (Base reference k) c given) ∙ ap (λ b. if b then slice_index_or row k Null else Null) (eq-eqb reference reference refl)))

  -- the rest of a row, with the columns from a place on
  pub row_shown : (columns : List TableColumn) (k : ℕ) (rest : List Value) → ((i : ℕ) → slice_index_or rest i Null ≡ slice_index_or row (k + i) Null)
      → Shows N m Every (map (table_entry alias reference) (enumerate_from k columns)) (labelled (map (λ column. label_of alias column.name) columns) rest)
  row_shown [] k rest same = none
  row_shown (column ∷ columns) k [] same =
      more refl refl (λ c every given. same 0 ∙ (ap (λ i. slice_index_or row i Null) (omega arith) ∙ value_of_column k c given))
      (row_shown columns (k + 1) [] (λ i. same (suc i) ∙ ap (λ i. slice_index_or row i Null) (omega arith)))
  row_shown (column ∷ columns) k (value ∷ rest) same =
      more refl refl (λ c every given. same 0 ∙ (ap (λ i. slice_index_or row i Null) (omega arith) ∙ value_of_column k c given))
      (row_shown columns (k + 1) rest (λ i. same (suc i) ∙ ap (λ i. slice_index_or row i Null) (omega arith)))

  -- a row has nothing of another reference
  pub nothing_else : (c : ColId) → ((column : ℕ) → N.slot_at c ≡ Base reference column → ⊥) → m c ≡ Null
  nothing_else c other = reads c ∙ by (N.slot_at c) other
    where
      by : (slot : Slot) → ((column : ℕ) → slot ≡ Base reference column → ⊥) → read_at row reference slot ≡ Null
      by (Made n) apart = refl
      by (Base other column) apart = ap (λ b. if b then slice_index_or row column Null else Null) (ne_eqb reference other (λ e. apart column (ap (λ r. Base r column) (sym e))))

-- ---- what a table gives

table_labels_same : (alias : List ℕ) (reference : ℕ) (columns : List TableColumn) (k : ℕ)
    → map (λ entry. label_of entry.alias entry.column) (map (table_entry alias reference) (enumerate_from k columns)) ≡ map (λ column. label_of alias column.name) columns
table_labels_same alias reference [] k = refl
table_labels_same alias reference (column ∷ columns) k = ap (λ rest. label_of alias column.name ∷ rest) (table_labels_same alias reference columns (k + 1))

module _ (w w' : Walk) (alias : List ℕ) (reference : ℕ) (low : w.references ≤ reference) (high : reference < w'.references) where
  table_within : (columns : List TableColumn) (k : ℕ) → AllByRecursion (λ entry. Within w w' entry.slot) (map (table_entry alias reference) (enumerate_from k columns))
  table_within [] k = tt
  table_within (column ∷ columns) k = ((low, high), table_within columns (k + 1))

table_settled : (numbers : List Slot) (alias : List ℕ) (reference : ℕ) (columns : List TableColumn) (k : ℕ) → SettledIn numbers (map (table_entry alias reference) (enumerate_from k columns))
table_settled numbers alias reference [] k = tt
table_settled numbers alias reference (column ∷ columns) k = (tt, table_settled numbers alias reference columns (k + 1))

pub finished_table : (numbers : List Slot) (table alias : List ℕ) (reference : ℕ) → finished numbers (draft.Table table alias reference) ≡ from.Table table alias (used_columns numbers reference)
finished_table numbers table alias reference = ap (finished numbers) (sym (draft.rolls-Table table alias reference)) ∙ fold-roll-Draft JFrom (finished_step numbers) (Draft-F.Table table alias reference)

module _ (database : Database) where
  pub rows_of_table : (table alias : List ℕ) (cols : List (ColId × ℕ)) → from_rows database (from.Table table alias cols) ≡ map (scanned cols) (database.rows table)
  unfolding from_rows
  rows_of_table table alias cols = ap (from_rows database) (sym (from.rolls-Table table alias cols)) ∙ fold-roll-JFrom (List Env) (Env → Bool) NumberedMeaning (from_step database) (sub_step database) (query_step database) (JFrom-F.Table table alias cols)

  -- the state after a table reference
  abbrev referred : List (List ℕ) → Walk → Walk
  referred taken w = with_taken taken (with_references (w.references + 1) w)

  table_grows : (taken : List (List ℕ)) (w : Walk) → Grows w (referred taken w)
  table_grows taken w = record {
    added = [];
    numbers = sym (append-nil w.numbers);
    references = omega arith;
    proper = λ p. p;
    new_aggs = [];
    aggs = sym (append-nil w.aggs);
    made = record { low = tt; high = tt; rising = λ i j d before inside. absurd (omega (arith, inside)) };
  }

  module _ (name alias : List ℕ) (taken : List (List ℕ)) (w : Walk) (columns : List TableColumn) where
    abbrev element : Element
    element = table_element name alias columns w.references

    table_row : (numbers : List Slot) (N : Numbering) → Exact N numbers → (row : List Value) → RowOf database N w (referred taken w) element.entries (labelled (map (λ column. label_of alias column.name) columns) row) (scanned (used_columns numbers w.references) row)
    table_row numbers N exact row = (
      row_shown row w.references alias N (scanned (used_columns numbers w.references) row) (scanned_reads row w.references numbers N exact) columns 0 row (λ i. ap (λ k. slice_index_or row k Null) (omega arith)),
      λ c out. nothing_else row w.references alias N (scanned (used_columns numbers w.references) row) (scanned_reads row w.references numbers N exact) c
          (λ column at. out (subst (Within w (referred taken w)) (sym at) (le_refl w.references, omega arith))),
    )

    table_rows : (rows : List (List Value)) (numbers : List Slot) (N : Numbering) → Exact N numbers
        → Related (RowOf database N w (referred taken w) element.entries) (map (labelled (map (λ column. label_of alias column.name) columns)) rows) (map (scanned (used_columns numbers w.references)) rows)
    table_rows [] numbers N exact = no_rows
    table_rows (row ∷ rows) numbers N exact = one_more (table_row numbers N exact row) (table_rows rows numbers N exact)

    table_gives : ElementGives database (record { labels = map (λ column. label_of alias column.name) columns; scopes = λ outers. map (labelled (map (λ column. label_of alias column.name) columns)) (database.rows name) }) w element (referred taken w)
    table_gives = record {
      grows = table_grows taken w;
      kept = refl;
      labels = table_labels_same alias w.references columns 0;
      within = table_within w (referred taken w) alias w.references (le_refl w.references) (omega arith) columns 0;
      settled = table_settled w.numbers alias w.references columns 0;
      rows = λ env later N exact fits. subst (λ rows. Related (RowOf database N w (referred taken w) element.entries) (map (labelled (map (λ column. label_of alias column.name) columns)) (database.rows name)) rows)
          (sym (ap (from_rows database) (finished_table (w.numbers ++ later) name alias w.references) ∙ rows_of_table name alias (used_columns (w.numbers ++ later) w.references)))
          (table_rows (database.rows name) (w.numbers ++ later) N exact);
    }

-- ---- the walk of a table

counted : (w : Walk) (reference : ℕ) (w' : Walk) → count_reference w ≡ done reference w' → (w.references ≡ reference) × (with_references (w.references + 1) w ≡ w')
unfolding count_reference
counted w reference w' e = by (w.references == MOST_REFERENCES) e
  where
    by : (b : Bool) → (if b then refused (Limit limit.References MOST_REFERENCES) else done w.references (with_references (w.references + 1) w)) ≡ done reference w' → (w.references ≡ reference) × (with_references (w.references + 1) w ≡ w')
    by true e = refused_not_done e
    by false e = (done_value e, done_walk e)

pub taken_alias : (alias : List ℕ) (w : Walk) (u : Unit {0}) (w' : Walk) → take_alias alias w ≡ done u w' → with_taken (w.taken ++ alias ∷ []) w ≡ w'
unfolding take_alias
taken_alias alias w u w' e = by (is_among alias w.taken) e
  where
    by : (b : Bool) → (if b then refused (DuplicateName alias) else done tt (with_taken (w.taken ++ alias ∷ []) w)) ≡ done u w' → with_taken (w.taken ++ alias ∷ []) w ≡ w'
    by true e = refused_not_done e
    by false e = done_walk e

module _ (database : Database) (name alias : List ℕ) where
  abbrev meaning_of : Option Table → ElementMeaning
  meaning_of table = record { labels = table_labels alias table; scopes = λ outers. map (labelled (table_labels alias table)) (database.rows name) }

  by_table : (table : Option Table) (w : Walk) (e : Element) (w' : Walk) → table_walk name alias table w ≡ done e w' → ElementGives database (meaning_of table) w e w'
  unfolding known_table_walk
  by_table None w e w' walked = refused_not_done walked
  by_table (Some table) w e w' walked =
      let first = in_turn (count_reference w) (λ reference. take_alias alias >> pure (table_element name alias table.columns reference)) e w' walked in
      let second = in_turn (take_alias alias first.middle) (λ u. pure (table_element name alias table.columns first.value)) e w' first.ended in
      let begun = counted w first.value first.middle first.begun in
      subst₂ (λ e w'. ElementGives database (meaning_of (Some table)) w e w')
      (ap (table_element name alias table.columns) begun.0 ∙ done_value second.ended)
      (ap (λ w1. with_taken (w1.taken ++ alias ∷ []) w1) begun.1 ∙ (taken_alias alias first.middle second.value second.middle second.begun ∙ done_walk second.ended))
      (table_gives database name alias (w.taken ++ alias ∷ []) w table.columns)

  pub table_means : ElementMeans database (λ tables outers. table_walk name alias (table_named name tables)) (table_meaning database name alias)
  table_means = record { gives = λ outers w e w' proper settled walked. by_table (table_named name database.tables) w e w' walked }
