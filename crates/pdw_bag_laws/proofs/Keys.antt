-- Each row once, and rows in parts of equal keys: what stands in them is decided by the rows that occur.
use Rattle.std.proofs.Common.{◌≡◌, Bool, true, false, cond, ◌&&◌, ◌||◌, List, [], ◌∷◌, map, filter, None, Some, Option, is_some, T, refl, sym, ap, ap₂, subst, ◌∙◌, true≢false}
use Rattle.std.specs.Cmp.Lexicographic.{lists_total}
use Rattle.std.specs.Cmp.{IsTotalOrder, Equal-is, tied_itself}
use Rattle.std.specs.FinMap as finite
use Rattle.std.specs.FinMap.Entries.{below_all, is_sorted}
use Rattle.std.specs.FinMap.{slice_cmp-IsAntisymmetric}
use Rattle.std.specs.List.{AllByRecursion, list_any}
use Rattle.std.specs.Ordering.{eq_by_cmp, is_eq, is_lt}
use Rattle.std.specs.declared.cmp.Ordering.TheVariants.{Equal}
use Rattle.pdw_base.proofs.ComparisonLemmas.{value_cmp-total, value_cmp-Equal}
use Rattle.pdw_base.specs.declared.value.Value.{Value}
use Rattle.pdw_expr.specs.Parts.{each_once, parts, row_cmp, same_row}

-- ---- rows that are the same

pub row_cmp-total : IsTotalOrder row_cmp
row_cmp-total = lists_total value_cmp-total

pub row_cmp-Equal : (a b : List Value) → row_cmp a b ≡ Equal → a ≡ b
row_cmp-Equal = slice_cmp-IsAntisymmetric value_cmp-Equal

pub same_row-≡ : (a b : List Value) → same_row a b ≡ true → a ≡ b
same_row-≡ a b same = row_cmp-Equal a b ((Equal-is (row_cmp a b)).0 same)

pub same_row-itself : (a : List Value) → same_row a a ≡ true
same_row-itself a = ap is_eq (tied_itself row_cmp-total a)

both_true : (a b : Bool) → (a ≡ true → b ≡ true) → (b ≡ true → a ≡ true) → a ≡ b
both_true true b there back = sym (there refl)
both_true false true there back = back refl
both_true false false there back = refl

pub same_row-sym : (a b : List Value) → same_row a b ≡ same_row b a
same_row-sym a b = both_true (same_row a b) (same_row b a) (turned a b) (turned b a)
  where
    turned : (a b : List Value) → same_row a b ≡ true → same_row b a ≡ true
    turned a b same = subst (λ c. same_row c a ≡ true) (same_row-≡ a b same) (same_row-itself a)

-- ---- each row once

-- whether a row occurs
abbrev pub occurs : List Value → List (List Value) → Bool
occurs row rows = list_any (eq_by_cmp row_cmp row) rows

abbrev Entry : Type 0
Entry = List Value × Unit {0}

abbrev entry_of : List Value → Entry
entry_of row = (row, tt)

found : (b : Bool) (o : Option (Unit {0})) → is_some (cond b (Some (tt {0})) o) ≡ (b || is_some o)
found true o = refl
found false o = refl

among : (rows : List (List Value)) (row : List Value) → is_some (finite.find row_cmp row (map entry_of rows)) ≡ occurs row rows
among [] row = refl
among (first ∷ rest) row = found (same_row row first) _ ∙ ap (λ b. same_row row first || b) (among rest row)

-- the rows that occur once are those that occur
pub occurs-each_once : (rows : List (List Value)) (row : List Value) → occurs row (each_once rows) ≡ occurs row rows
unfolding each_once
occurs-each_once rows row =
    sym (finite.contains_key-keys (finite.from_entries {R = row_cmp} (map entry_of rows)) row)
    ∙ ap is_some (finite.get-from_entries row_cmp-total (map entry_of rows) row)
    ∙ among rows row

one_unit : (a b : Option (Unit {0})) → is_some a ≡ is_some b → a ≡ b
one_unit None None same = refl
one_unit None (Some two) same = absurd (true≢false (sym same))
one_unit (Some one) None same = absurd (true≢false same)
one_unit (Some one) (Some two) same = refl

-- where the same rows occur, the rows that occur once are one list
pub each_once-same : (rows others : List (List Value)) → ((row : List Value) → occurs row rows ≡ occurs row others) → each_once rows ≡ each_once others
unfolding each_once
each_once-same rows others same =
    ap finite.keys (finite.same_map row_cmp-total row_cmp-Equal _ _ (λ row.
    finite.get-from_entries row_cmp-total (map entry_of rows) row
    ∙ one_unit _ _ (among rows row ∙ same row ∙ sym (among others row))
    ∙ sym (finite.get-from_entries row_cmp-total (map entry_of others) row)))

-- ---- rising rows have each row at most once

abbrev firsts : List Entry → List (List Value)
firsts entries = map (λ entry. entry.0) entries

both_hold : (a b : Bool) → T (a && b) → (a ≡ true) × T b
both_hold true b hold = (refl, hold)
both_hold false b hold = absurd hold

before_differs : (a b : List Value) → is_lt (row_cmp a b) ≡ true → same_row b a ≡ false
before_differs a b before = by (same_row b a) refl
  where
    by : (is : Bool) → same_row b a ≡ is → same_row b a ≡ false
    by true same =
        let itself = subst (λ c. is_lt (row_cmp a c) ≡ true) (same_row-≡ b a same) before in
        absurd (true≢false (sym itself ∙ ap is_lt (tied_itself row_cmp-total a)))
    by false differs = differs

none_above : (row : List Value) (entries : List Entry) → T (below_all row_cmp row entries) → filter (λ other. same_row other row) (firsts entries) ≡ []
none_above row [] below = refl
none_above row (entry ∷ entries) below =
    let both = both_hold (is_lt (row_cmp row entry.0)) (below_all row_cmp row entries) below in
    let rest = filter (λ other. same_row other row) (firsts entries) in
    ap (λ is. cond is (entry.0 ∷ rest) rest) (before_differs row entry.0 both.0) ∙ none_above row entries both.1

abbrev pub one_or_none : Bool → List Value → List (List Value)
one_or_none there row = cond there (row ∷ []) []

one_of_sorted : (row : List Value) (entries : List Entry) → T (is_sorted row_cmp entries) → filter (λ other. same_row other row) (firsts entries) ≡ one_or_none (occurs row (firsts entries)) row
one_of_sorted row [] sorted = refl
one_of_sorted row (entry ∷ entries) sorted =
    let both = split (below_all row_cmp entry.0 entries) (is_sorted row_cmp entries) sorted in
    by (same_row entry.0 row) refl both.0 (one_of_sorted row entries both.1)
    ∙ ap (λ is. one_or_none (is || occurs row (firsts entries)) row) (same_row-sym entry.0 row)
  where
    split : (a b : Bool) → T (a && b) → T a × T b
    split true b hold = (tt, hold)
    split false b hold = absurd hold

    by : (is : Bool) → same_row entry.0 row ≡ is → T (below_all row_cmp entry.0 entries)
        → filter (λ other. same_row other row) (firsts entries) ≡ one_or_none (occurs row (firsts entries)) row
        → cond is (entry.0 ∷ filter (λ other. same_row other row) (firsts entries)) (filter (λ other. same_row other row) (firsts entries))
        ≡ one_or_none (is || occurs row (firsts entries)) row
    by true same below _ =
        let equal = same_row-≡ entry.0 row same in
        ap₂ (λ first rest. first ∷ rest) equal (none_above row entries (subst (λ first. T (below_all row_cmp first entries)) equal below))
    by false _ _ rest = rest

-- of the rows that occur once, one is the same as a row that occurs
pub one-each_once : (rows : List (List Value)) (row : List Value) → filter (λ other. same_row other row) (each_once rows) ≡ one_or_none (occurs row rows) row
unfolding each_once
one-each_once rows row =
    let entries = finite.from_entries {R = row_cmp} (map entry_of rows) in
    one_of_sorted row (finite.entries entries) (finite.entries_sorted entries)
    ∙ ap (λ there. one_or_none there row) (occurs-each_once rows row)

-- ---- parts by their keys

-- each of the rows that occur once is one that occurs
pub all-each_once : (P : List Value → Type 0) (rows : List (List Value)) → ((row : List Value) → occurs row rows ≡ true → P row) → AllByRecursion P (each_once rows)
all-each_once P rows each = members (each_once rows) (λ row there. each row (sym (occurs-each_once rows row) ∙ there))
  where
    here_or_later : (a b : Bool) → b ≡ true → (a || b) ≡ true
    here_or_later true b there = refl
    here_or_later false b there = there

    members : (found : List (List Value)) → ((row : List Value) → occurs row found ≡ true → P row) → AllByRecursion P found
    members [] f = tt
    members (row ∷ rest) f =
        (f row (ap (λ is. is || occurs row rest) (same_row-itself row)), members rest (λ other there. f other (here_or_later (same_row other row) (occurs other rest) there)))

-- the rows of a key
abbrev pub part_of : {X : Type 0} → (X → List Value) → List X → List Value → List X
part_of key rows k = filter (λ row. same_row (key row) k) rows

-- where the same keys occur, and what is made of the parts of each is the same, what is made of all parts is one list
pub parts-alike : {X Y O : Type 0} (key : X → List Value) (other : Y → List Value) (make : List X → O) (made : List Y → O) (xs : List X) (ys : List Y)
    → ((k : List Value) → occurs k (map key xs) ≡ occurs k (map other ys))
    → ((k : List Value) → occurs k (map key xs) ≡ true → make (part_of key xs k) ≡ made (part_of other ys k))
    → map make (parts key xs) ≡ map made (parts other ys)
parts-alike key other make made xs ys same each =
    each_alike (each_once (map key xs)) (all-each_once (λ k. make (part_of key xs k) ≡ made (part_of other ys k)) (map key xs) each)
    ∙ ap (λ keys. map made (map (part_of other ys) keys)) (each_once-same (map key xs) (map other ys) same)
  where
    each_alike : (keys : List (List Value)) → AllByRecursion (λ k. make (part_of key xs k) ≡ made (part_of other ys k)) keys
        → map make (map (part_of key xs) keys) ≡ map made (map (part_of other ys) keys)
    each_alike [] all = refl
    each_alike (k ∷ keys) all = ap₂ (λ first rest. first ∷ rest) all.0 (each_alike keys all.1)
