-- Numbers and items each once: what holds of all holds of these, no number stands twice, and grouping by output columns
-- gives these columns.
use Rattle.std.proofs.Common.{◌≡◌, ℕ, ◌&&◌, ◌||◌, ◌==◌, Bool, true, false, not, List, [], ◌∷◌, ◌++◌, map, fold, Option, Some, refl, sym, ap, ap₂, subst, ◌∙◌, eq-eqb, if◌then◌else◌}
use Rattle.std.specs.List.{list_all, list_any}
use Rattle.std.proofs.lemmas.Bool.{and_parts, and_from, or_from, or_left, or_parts, or_right, eqb-false, ne_eqb, not-true, not_from_false}
use Rattle.std.proofs.lemmas.List.{map-append}
use Rattle.std.proofs.lemmas.List.Folds.{list_all-append, list_any-append}
use Rattle.pdw_algebra.specs.Schema.{kind_at}
use Rattle.pdw_algebra.specs.Shape.{has_number, item_column, item_kind, key_column, kind_or_int}
use Rattle.pdw_base.specs.Schema.{Columns}
use Rattle.pdw_base.specs.declared.schema.ColId.{ColId}
use Rattle.pdw_base.specs.declared.value.Kind.{Kind}
use Rattle.pdw_form.specs.Columns.{each_item_once, each_number_once, new_item, new_number}
use Rattle.pdw_expr.specs.declared.scalar.Scalar.{Scalar}
use Rattle.pdw_form.specs.declared.judged.JItem.{JItem}

abbrev Item : Type 0
Item = ColId × Option Scalar

-- ---- what holds of all

module _ {X Y : Type 0} (holds : X → Bool) (keeps : Y → X) (there : List X → Y → Bool) where
  -- a list to which a value is added where it is new
  abbrev added : List X → Y → List X
  added before y = if there before y then before else before ++ keeps y ∷ []

  added_holds : (before : List X) (y : Y) → list_all holds before ≡ true → holds (keeps y) ≡ true → list_all holds (added before y) ≡ true
  added_holds before y all here = by (there before y)
    where
      by : (b : Bool) → list_all holds (if b then before else before ++ keeps y ∷ []) ≡ true
      by true = all
      by false = list_all-append holds before (keeps y ∷ []) ∙ and_from _ _ all (and_from _ _ here refl)

  all_added : (before : List X) (ys : List Y) → list_all holds before ≡ true → list_all (λ y. holds (keeps y)) ys ≡ true → list_all holds (fold added before ys) ≡ true
  all_added before [] all each = all
  all_added before (y ∷ ys) all each =
      let both = and_parts _ _ each in
      all_added (added before y) ys (added_holds before y all both.0) both.1

pub numbers_hold : (holds : ColId → Bool) (numbers : List ColId) → list_all holds numbers ≡ true → list_all holds (each_number_once numbers) ≡ true
numbers_hold holds numbers all = all_added holds (λ c. c) (λ before c. list_any (λ other. other.0 == c.0) before) [] numbers refl all

pub items_hold : (holds : Item → Bool) (items : List JItem) → list_all (λ item. holds (item.out, item.make)) items ≡ true → list_all holds (each_item_once items) ≡ true
items_hold holds items all = all_added holds (λ item. (item.out, item.make)) (λ before item. list_any (λ other. other.0.0 == item.out.0) before) [] items refl all

-- ---- the numbers of the items

numbers-new : (before : List Item) (item : JItem) → new_number (map (λ i. i.0) before) item.out ≡ map (λ i. i.0) (new_item before item)
numbers-new before item = ap (λ b. if b then map (λ i. i.0) before else map (λ i. i.0) before ++ item.out ∷ []) (any-numbers before) ∙ by (list_any (λ other. other.0.0 == item.out.0) before)
  where
    any-numbers : (items : List Item) → list_any (λ other. other.0 == item.out.0) (map (λ i. i.0) items) ≡ list_any (λ other. other.0.0 == item.out.0) items
    any-numbers [] = refl
    any-numbers (i ∷ items) = ap (λ b. (i.0.0 == item.out.0) || b) (any-numbers items)

    by : (b : Bool) → (if b then map (λ i. i.0) before else map (λ i. i.0) before ++ item.out ∷ []) ≡ map (λ i. i.0) (if b then before else before ++ (item.out, item.make) ∷ [])
    by true = refl
    by false = sym (map-append (λ i. i.0) before ((item.out, item.make) ∷ []))

numbers-items : (before : List Item) (items : List JItem) → fold new_number (map (λ i. i.0) before) (map (λ item. item.out) items) ≡ map (λ i. i.0) (fold new_item before items)
numbers-items before [] = refl
numbers-items before (item ∷ items) =
    ap (λ numbers. fold new_number numbers (map (λ i. i.out) items)) (numbers-new before item) ∙ numbers-items (new_item before item) items

pub numbers-once : (items : List JItem) → each_number_once (map (λ item. item.out) items) ≡ map (λ item. item.0) (each_item_once items)
numbers-once items = numbers-items [] items

-- ---- no number twice

abbrev stands : ColId → List ColId → Bool
stands c numbers = list_any (λ other. other.0 == c.0) numbers

abbrev pub no_repeat : List ColId → Bool
no_repeat [] = true
no_repeat (c ∷ numbers) = not (stands c numbers) && no_repeat numbers

other_way : (a b : ℕ) → (a == b) ≡ false → (b == a) ≡ false
other_way a b differ = ne_eqb b a (λ same. eqb-false a b differ (sym same))

no_repeat-push : (numbers : List ColId) (c : ColId) → no_repeat numbers ≡ true → stands c numbers ≡ false → no_repeat (numbers ++ c ∷ []) ≡ true
no_repeat-push [] c once new = refl
no_repeat-push (n ∷ numbers) c once new =
    let both = and_parts _ _ once in
    let apart = or_parts _ _ new in
    let missing = list_any-append (λ other. other.0 == n.0) numbers (c ∷ []) ∙ or_from _ _ (not-true _ both.0) (or_from _ _ (other_way n.0 c.0 apart.0) refl) in
    and_from _ _ (not_from_false _ missing) (no_repeat-push numbers c both.1 apart.1)

no_repeat-new : (before : List ColId) (c : ColId) → no_repeat before ≡ true → no_repeat (new_number before c) ≡ true
no_repeat-new before c once = by (stands c before) refl
  where
    by : (b : Bool) → stands c before ≡ b → no_repeat (if b then before else before ++ c ∷ []) ≡ true
    by true there = once
    by false new = no_repeat-push before c once new

no_repeat-fold : (before numbers : List ColId) → no_repeat before ≡ true → no_repeat (fold new_number before numbers) ≡ true
no_repeat-fold before [] once = once
no_repeat-fold before (c ∷ numbers) once = no_repeat-fold (new_number before c) numbers (no_repeat-new before c once)

pub no_repeat-once : (numbers : List ColId) → no_repeat (each_number_once numbers) ≡ true
no_repeat-once numbers = no_repeat-fold [] numbers refl

-- ---- grouping by all columns

abbrev numbers_of : Columns → List ColId
numbers_of columns = map (λ column. column.0) columns

kind-past : (column : ColId × Kind) (columns : Columns) (keys : List ColId) → stands column.0 keys ≡ false
    → map (key_column (column ∷ columns)) keys ≡ map (key_column columns) keys
kind-past column columns [] new = refl
kind-past column columns (key ∷ keys) new =
    let apart = or_parts _ _ new in
    let differ = other_way key.0 column.0.0 apart.0 in
    ap₂ (λ (k : ColId × Kind) (rest : Columns). k ∷ rest) (ap (λ (b : Bool). (key, kind_or_int (if b then Some column.1 else kind_at columns key))) differ) (kind-past column columns keys apart.1)

pub keys-columns : (columns : Columns) → no_repeat (numbers_of columns) ≡ true → map (key_column columns) (numbers_of columns) ≡ columns
keys-columns [] once = refl
keys-columns (column ∷ columns) once =
    let both = and_parts _ _ once in
    ap₂ (λ (k : ColId × Kind) (rest : Columns). k ∷ rest)
    (ap (λ (b : Bool). (column.0, kind_or_int (if b then Some column.1 else kind_at columns column.0))) (eq-eqb column.0.0 column.0.0 refl))
    (kind-past column columns (numbers_of columns) (not-true _ both.0) ∙ keys-columns columns both.1)

keys_there-more : (column : ColId × Kind) (columns : Columns) (keys : List ColId) → list_all (λ key. has_number key columns) keys ≡ true
    → list_all (λ key. has_number key (column ∷ columns)) keys ≡ true
keys_there-more column columns [] all = refl
keys_there-more column columns (key ∷ keys) all =
    let both = and_parts _ _ all in
    and_from _ _ (or_right _ _ both.0) (keys_there-more column columns keys both.1)

pub keys_there : (columns : Columns) → list_all (λ key. has_number key columns) (numbers_of columns) ≡ true
keys_there [] = refl
keys_there (column ∷ columns) =
    and_from _ _ (or_left _ _ (eq-eqb column.0.0 column.0.0 refl)) (keys_there-more column columns (numbers_of columns) (keys_there columns))

-- ---- output columns

numbers-outputs : (columns : Columns) (items : List Item) → numbers_of (map (item_column columns) items) ≡ map (λ item. item.0) items
numbers-outputs columns [] = refl
numbers-outputs columns (item ∷ items) = ap (λ (rest : List ColId). item.0 ∷ rest) (numbers-outputs columns items)

-- the numbers of the output columns are those of the items, each once
pub outputs-numbers : (columns : Columns) (items : List JItem) → each_number_once (map (λ item. item.out) items) ≡ numbers_of (map (item_column columns) (each_item_once items))
outputs-numbers columns items = numbers-once items ∙ sym (numbers-outputs columns (each_item_once items))

pub outputs_once : (columns : Columns) (items : List JItem) → no_repeat (numbers_of (map (item_column columns) (each_item_once items))) ≡ true
outputs_once columns items = subst (λ numbers. no_repeat numbers ≡ true) (outputs-numbers columns items) (no_repeat-once (map (λ item. item.out) items))

-- the column of an item stays the first one
first-kept : (columns : Columns) (first : Item) (before : List Item) (items : List JItem)
    → kind_at (map (item_column columns) (fold new_item (first ∷ before) items)) first.0 ≡ Some (kind_or_int (item_kind columns first))
first-kept columns first before [] = ap (λ (b : Bool). if b then Some (kind_or_int (item_kind columns first)) else kind_at (map (item_column columns) before) first.0) (eq-eqb first.0.0 first.0.0 refl)
first-kept columns first before (item ∷ items) = by (list_any (λ other. other.0.0 == item.out.0) (first ∷ before)) (first-kept columns first before items) (first-kept columns first (before ++ (item.out, item.make) ∷ []) items)
  where
    by : (b : Bool)
        → kind_at (map (item_column columns) (fold new_item (first ∷ before) items)) first.0 ≡ Some (kind_or_int (item_kind columns first))
        → kind_at (map (item_column columns) (fold new_item (first ∷ before ++ (item.out, item.make) ∷ []) items)) first.0 ≡ Some (kind_or_int (item_kind columns first))
        → kind_at (map (item_column columns) (fold new_item (if b then first ∷ before else first ∷ before ++ (item.out, item.make) ∷ []) items)) first.0 ≡ Some (kind_or_int (item_kind columns first))
    by true stays grows = stays
    by false stays grows = grows

pub first-output : (columns : Columns) (item : JItem) (items : List JItem)
    → kind_at (map (item_column columns) (each_item_once (item ∷ items))) item.out ≡ Some (kind_or_int (item_kind columns (item.out, item.make)))
first-output columns item items = first-kept columns (item.out, item.make) [] items
