-- A subquery conjunct keeps the rows that its join keeps: EXISTS and IN are Semi joins, NOT EXISTS and NOT IN Anti joins.
use Rattle.std.proofs.Common.{◌≡◌, Bool, true, false, cond, not, ◌&&◌, ◌||◌, List, [], ◌∷◌, ◌++◌, map, filter, fold, Option, Some, None, is_some, refl, sym, ap, subst, ◌∙◌, if◌then◌else◌, append_assoc, append-nil, eq-eqb}
use Rattle.std.proofs.lemmas.List.Folds.{list_any-append}
use Rattle.std.specs.Bool.{⊤}
use Rattle.std.specs.FinMap.Entries.{by_order}
use Rattle.std.specs.List.{AllByRecursion, list_any}
use Rattle.std.specs.Ordering.{is_eq}
use Rattle.std.specs.declared.cmp.Ordering.{Ordering}
use Rattle.std.specs.declared.cmp.Ordering.TheVariants.{Less, Equal, Greater}
use Rattle.pdw_algebra.specs.Shape.{are_apart}
use Rattle.pdw_base.specs.Schema.{Columns, Env}
use Rattle.pdw_base.specs.declared.schema.ColId.{ColId}
use Rattle.pdw_base.specs.declared.truth.Truth.{Truth}
use Rattle.pdw_base.specs.declared.truth.Truth.TheVariants.{True, False, Unknown}
use Rattle.pdw_base.specs.declared.value.Value.{Value}
use Rattle.pdw_bind.proofs.OnceLaws.{items_once}
use Rattle.pdw_algebra.proofs.WithinLaws.{UsesOnly, meets-append, union-swapped, value-left, value-right}
use Rattle.pdw_algebra.specs.Within.{AllWithin, IsWithin}
use Rattle.pdw_bind.specs.Bind.{Bound, equality, in_condition, item_scalar, subquery_kind}
use Rattle.pdw_form.specs.Columns.{each_item_once, first_of}
use Rattle.pdw_expr.specs.Columns.{scalar_columns, scalar_columns_step}
use Rattle.pdw_expr.specs.Comparison.{comparison}
use Rattle.pdw_expr.specs.Cond.{truth_of, truth_step}
use Rattle.pdw_expr.specs.Env.{union}
use Rattle.pdw_expr.specs.Join.{left_partnered}
use Rattle.pdw_expr.specs.Logic.{any_of, decided, disjunction, is_truth, negation}
use Rattle.pdw_expr.specs.Parts.{each_once, row_cmp}
use Rattle.pdw_expr.specs.Rows.{item_value, joined, key_of, meets, projected}
use Rattle.pdw_expr.specs.Scalar.{value_of, value_step}
use Rattle.pdw_expr.specs.declared.cond.Cmp.TheVariants.{Eq}
use Rattle.pdw_expr.specs.declared.cond.Cond.{Cond}
use Rattle.pdw_expr.specs.declared.cond.Cond.TheOpen.{Cond-F}
use Rattle.pdw_expr.specs.declared.cond.Cond.TheFolds.{fold-roll-Cond}
use Rattle.pdw_expr.specs.declared.cond.Cond.TheVariants as cond
use Rattle.pdw_expr.specs.declared.scalar.Scalar.{Scalar}
use Rattle.pdw_expr.specs.declared.scalar.Scalar.TheOpen.{Scalar-F}
use Rattle.pdw_expr.specs.declared.scalar.Scalar.TheFolds.{fold-roll-Scalar}
use Rattle.pdw_expr.specs.declared.scalar.Scalar.TheVariants.{Col, rolls-Col}
use Rattle.pdw_form.proofs.Distinct.{distinct-values, tied}
use Rattle.pdw_form.proofs.Once.{once}
use Rattle.pdw_expr.proofs.PartLemmas.{each_once-more, each_once-nil}
use Rattle.pdw_expr.specs.Predicates.{first_column, has_rows, is_one_of, negated_if}
use Rattle.pdw_form.specs.Numbered.{NumberedMeaning, distinct_rows, group_rows, items_of, outs_of, row_values, subquery_holds}
use Rattle.pdw_expr.specs.Rising.{put_once}
use Rattle.pdw_expr.specs.Predicates.{distinct_if}
use Rattle.pdw_form.specs.declared.judged.JGroup.{JGroup}
use Rattle.pdw_form.specs.declared.judged.JItem.{JItem}

-- ---- whether a row passes a test

or_twice : (a b : Bool) → (a || (a || b)) ≡ (a || b)
or_twice true b = refl
or_twice false b = refl

or_swap : (a b c : Bool) → (a || (b || c)) ≡ (b || (a || c))
or_swap true true c = refl
or_swap true false c = refl
or_swap false b c = refl

or_last : (a b : Bool) → (a || b) ≡ (b || (a || false))
or_last true true = refl
or_last true false = refl
or_last false true = refl
or_last false false = refl

and_comm : (a b : Bool) → (a && b) ≡ (b && a)
and_comm true true = refl
and_comm true false = refl
and_comm false true = refl
and_comm false false = refl

any-map : {X Y : Type 0} (test : Y → Bool) (f : X → Y) (xs : List X) → list_any test (map f xs) ≡ list_any (λ x. test (f x)) xs
any-map test f [] = refl
any-map test f (x ∷ xs) = ap (λ b. test (f x) || b) (any-map test f xs)

any-filter : {X : Type 0} (test keeps : X → Bool) (xs : List X) → list_any test (filter keeps xs) ≡ list_any (λ x. keeps x && test x) xs
any-filter test keeps [] = refl
any-filter test keeps (x ∷ xs) = by (keeps x) (any-filter test keeps xs)
  where
    by : (b : Bool) → list_any test (filter keeps xs) ≡ list_any (λ x. keeps x && test x) xs
        → list_any test (cond b (x ∷ filter keeps xs) (filter keeps xs)) ≡ ((b && test x) || list_any (λ x. keeps x && test x) xs)
    by true rest = ap (λ b. test x || b) rest
    by false rest = rest

-- without a condition all rows are kept
every : (rows : List Env) → filter (λ row. true) rows ≡ rows
every [] = refl
every (row ∷ rows) = ap (λ rest. row ∷ rest) (every rows)

module _ {X : Type 0} (P : X → Type 0) (test other : X → Bool) (same : (x : X) → P x → test x ≡ other x) where
  any-same : (xs : List X) → AllByRecursion P xs → list_any test xs ≡ list_any other xs
  any-same [] all = refl
  any-same (x ∷ xs) all = λ i. same x all.0 i || any-same xs all.1 i

  filter-same : (xs : List X) → AllByRecursion P xs → filter test xs ≡ filter other xs
  filter-same [] all = refl
  filter-same (x ∷ xs) all = λ i. cond (same x all.0 i) (x ∷ filter-same xs all.1 i) (filter-same xs all.1 i)

-- rows without their duplicates pass a test where the rows do
module _ (test : List Value → Bool) where
  any-put_once : (row : List Value) (rows : List (List Value)) → list_any test (put_once row rows) ≡ (test row || list_any test rows)
  any-put_once row [] = refl
  any-put_once row (first ∷ rest) = by (row_cmp row first) refl (any-put_once row rest)
    where
      by : (o : Ordering) → row_cmp row first ≡ o → list_any test (put_once row rest) ≡ (test row || list_any test rest)
          → list_any test (by_order o (row ∷ first ∷ rest) (first ∷ rest) (first ∷ put_once row rest)) ≡ (test row || (test first || list_any test rest))
      by Less is more = refl
      by Equal is more = sym (ap (λ r. test r || (test first || list_any test rest)) (tied row first (ap is_eq is)) ∙ or_twice (test first) (list_any test rest))
      by Greater is more = ap (λ b. test first || b) more ∙ or_swap (test first) (test row) (list_any test rest)

  any-once_after : (before rows : List (List Value)) → list_any test (each_once before) ≡ list_any test before → list_any test (each_once (before ++ rows)) ≡ list_any test (before ++ rows)
  any-once_after before [] e = ap (λ l. list_any test (each_once l)) (append-nil before) ∙ e ∙ ap (list_any test) (sym (append-nil before))
  any-once_after before (row ∷ rows) e =
      ap (λ l. list_any test (each_once l)) (sym (append_assoc before (row ∷ []) rows))
      ∙ any-once_after (before ++ row ∷ []) rows (
      ap (list_any test) (each_once-more before row)
      ∙ any-put_once row (each_once before)
      ∙ ap (λ b. test row || b) e
      ∙ or_last (test row) (list_any test before)
      ∙ sym (list_any-append test before (row ∷ [])))
      ∙ ap (list_any test) (append_assoc before (row ∷ []) rows)

  any-distinct : (distinct : Bool) (rows : List (List Value)) → list_any test (distinct_if distinct rows) ≡ list_any test rows
  any-distinct true rows = any-once_after [] rows (ap (list_any test) each_once-nil)
  any-distinct false rows = refl

-- ---- the truth of EXISTS and IN

-- the other way round where the conjunct is negated
abbrev unless : Bool → Bool → Bool
unless negated b = if negated then not b else b

-- what makes IN True, and what keeps NOT IN from being True
abbrev decisive : Bool → Truth → Bool
decisive negated truth = if negated then not (is_truth truth False) else is_truth truth True

decisive-either : (negated : Bool) (a b : Truth) → decisive negated (disjunction a b) ≡ (decisive negated a || decisive negated b)
decisive-either true True b = refl
decisive-either true False b = refl
decisive-either true Unknown True = refl
decisive-either true Unknown False = refl
decisive-either true Unknown Unknown = refl
decisive-either false True b = refl
decisive-either false False b = refl
decisive-either false Unknown True = refl
decisive-either false Unknown False = refl
decisive-either false Unknown Unknown = refl

or_assoc : (a b c : Bool) → ((a || b) || c) ≡ (a || (b || c))
or_assoc true b c = refl
or_assoc false b c = refl

or_false : (b : Bool) → (b || false) ≡ b
or_false true = refl
or_false false = refl

decisive-any : (negated : Bool) (start : Truth) (truths : List Truth) → decisive negated (fold disjunction start truths) ≡ (decisive negated start || list_any (decisive negated) truths)
decisive-any negated start [] = sym (or_false (decisive negated start))
decisive-any negated start (truth ∷ truths) =
    decisive-any negated (disjunction start truth) truths
    ∙ ap (λ b. b || list_any (decisive negated) truths) (decisive-either negated start truth)
    ∙ or_assoc (decisive negated start) (decisive negated truth) (list_any (decisive negated) truths)

decides : (negated : Bool) (truth : Truth) → is_truth (negated_if negated truth) True ≡ unless negated (decisive negated truth)
decides true True = refl
decides true False = refl
decides true Unknown = refl
decides false truth = refl

decisive-any_of : (negated : Bool) (truths : List Truth) → decisive negated (any_of truths) ≡ list_any (decisive negated) truths
decisive-any_of true truths = decisive-any true False truths
decisive-any_of false truths = decisive-any false False truths

exists-decides : (negated is : Bool) → is_truth (negated_if negated (decided is)) True ≡ unless negated is
exists-decides true true = refl
exists-decides true false = refl
exists-decides false true = refl
exists-decides false false = refl

has_rows-any : (rows : List (List Value)) → has_rows rows ≡ list_any (λ row. true) rows
has_rows-any [] = refl
has_rows-any (row ∷ rows) = refl

-- whether one row of the subquery decides the conjunct for a row of the query
abbrev counts : Bool → Option Scalar → Env → List Value → Bool
counts negated None l row = true
counts negated (Some x) l row = decisive negated (comparison Eq (value_of x l) (first_column row))

holds-any : (negated : Bool) (left : Option Scalar) (query : NumberedMeaning) (l : Env) → subquery_holds negated left query l ≡ unless negated (list_any (counts negated left l) (row_values query l))
holds-any negated None query l = exists-decides negated (has_rows (row_values query l)) ∙ ap (unless negated) (has_rows-any (row_values query l))
holds-any negated (Some x) query l =
    let values = map first_column (row_values query l) in
    decides negated (is_one_of (value_of x l) values)
    ∙ ap (unless negated) (
    decisive-any_of negated (map (comparison Eq (value_of x l)) values)
    ∙ any-map (decisive negated) (comparison Eq (value_of x l)) values
    ∙ any-map (λ v. decisive negated (comparison Eq (value_of x l) v)) first_column (row_values query l))

-- ---- the condition of the join

truth-compare : (x y : Scalar) (row : Env) → truth_of (cond.Compare Eq x y) row ≡ comparison Eq (value_of x row) (value_of y row)
truth-compare x y row = ap (λ c. truth_of c row) (sym (cond.rolls-Compare Eq x y)) ∙ ap (λ f. f row) (fold-roll-Cond (Env → Truth) truth_step (Cond-F.Compare Eq x y))

truth-not_test : (part : Cond) (wanted : Truth) (row : Env) → truth_of (cond.Not (cond.Test part wanted)) row ≡ negation (decided (is_truth (truth_of part row) wanted))
truth-not_test part wanted row =
    ap (λ c. truth_of c row) (sym (cond.rolls-Not (cond.Test part wanted)))
    ∙ ap (λ f. f row) (fold-roll-Cond (Env → Truth) truth_step (Cond-F.Not (cond.Test part wanted)))
    ∙ ap (λ c. negation (truth_of c row)) (sym (cond.rolls-Test part wanted))
    ∙ ap (λ f. negation (f row)) (fold-roll-Cond (Env → Truth) truth_step (Cond-F.Test part wanted))

value-column : (c : ColId) (row : Env) → value_of (Col c) row ≡ row c
value-column c row = ap (λ x. value_of x row) (sym (rolls-Col c)) ∙ ap (λ f. f row) (fold-roll-Scalar (Env → Value) value_step (Scalar-F.Col c))

columns-column : (c : ColId) → scalar_columns (Col c) ≡ c ∷ []
columns-column c = ap scalar_columns (sym (rolls-Col c)) ∙ fold-roll-Scalar (List ColId) scalar_columns_step (Scalar-F.Col c)

denied : (b : Bool) → is_truth (negation (decided b)) True ≡ not b
denied true = refl
denied false = refl

item-test : (negated : Bool) (x y : Scalar) (row : Env) → meets (equality negated (cond.Compare Eq x y) ∷ []) row ≡ decisive negated (comparison Eq (value_of x row) (value_of y row))
item-test true x y row =
    ap (λ truth. is_truth truth True) (truth-not_test (cond.Compare Eq x y) False row)
    ∙ denied (is_truth (truth_of (cond.Compare Eq x y) row) False)
    ∙ ap (λ truth. not (is_truth truth False)) (truth-compare x y row)
item-test false x y row = ap (λ truth. is_truth truth True) (truth-compare x y row)

-- the columns of a subquery's first item
abbrev pub item_columns : Bool → JItem → List ColId
item_columns grouped item = if grouped then item.out ∷ [] else of_make item.make
  where
    of_make : Option Scalar → List ColId
    of_make None = item.out ∷ []
    of_make (Some x) = scalar_columns x

columns-item : (grouped : Bool) (item : JItem) (make : Option Scalar) → scalar_columns (item_scalar grouped (record item { make = make })) ≡ item_columns grouped (record item { make = make })
columns-item true item make = columns-column item.out
columns-item false item None = columns-column item.out
columns-item false item (Some x) = refl

value-item : (row : Env) (item : JItem) (make : Option Scalar) → item_value row item.out make ≡ value_of (item_scalar false (record item { make = make })) row
value-item row item None = sym (value-column item.out row)
value-item row item (Some x) = refl

-- the columns of the left side of IN, and of the subquery's first item
abbrev pub SidesWithin : Bool → Option Scalar → Option JItem → Columns → Columns → Type 0
SidesWithin grouped None item outer inner = ⊤
SidesWithin grouped (Some x) None outer inner = ⊥
SidesWithin grouped (Some x) (Some item) outer inner = UsesOnly outer (scalar_columns x) × UsesOnly inner (item_columns grouped item)

module _ (negated : Bool) (query : Bound) (outer inner : Columns) (apart : are_apart outer inner ≡ true) (l r : Env) (is_left : IsWithin outer l) (is_right : IsWithin inner r) where
  counts-item : (x : Scalar) (item : JItem) → query.item ≡ Some item → UsesOnly outer (scalar_columns x) → UsesOnly inner (item_columns query.is_grouped item)
      → (row : List Value) → first_column row ≡ value_of (item_scalar query.is_grouped item) r → counts negated (Some x) l row ≡ meets (in_condition negated (Some x) query) (union l r)
  counts-item x item is left_uses right_uses row first =
      let y = item_scalar query.is_grouped item in
      let uses : UsesOnly inner (scalar_columns y) = subst (UsesOnly inner) (sym (columns-item query.is_grouped item item.make)) right_uses in
      let left = sym (value-left outer inner apart r is_right l x left_uses) in
      let right = first ∙ sym (value-right outer inner apart l is_left r y uses) in
      (λ i. decisive negated (comparison Eq (left i) (right i)))
      ∙ sym (item-test negated x y (union l r))
      ∙ ap (λ some. meets (in_condition negated (Some x) (record query { item = some })) (union l r)) (sym is)

  -- the value of the subquery's first item, where it has one, is the first column of its row
  abbrev IsFirst : Option JItem → List Value → Type 0
  IsFirst None row = ⊤
  IsFirst (Some item) row = first_column row ≡ value_of (item_scalar query.is_grouped item) r

  -- the row decides the conjunct exactly where the condition of the join is met
  counts-met : (left : Option Scalar) (first : Option JItem) → query.item ≡ first → SidesWithin query.is_grouped left first outer inner
      → (row : List Value) → IsFirst first row → counts negated left l row ≡ meets (in_condition negated left query) (union l r)
  counts-met None first is sides row value = refl
  counts-met (Some x) None is sides row value = absurd sides
  counts-met (Some x) (Some item) is sides row value = counts-item x item is sides.0 sides.1 row value

-- ---- the join

-- DISTINCT changes nothing for a test
any-distinct_rows : (test : List Value → Bool) (distinct : Bool) (outs : List ColId) (rows : List Env)
    → list_any test (map (key_of outs) (distinct_rows distinct outs rows)) ≡ list_any (λ row. test (key_of outs row)) rows
any-distinct_rows test distinct outs rows =
    ap (list_any test) (distinct-values outs once distinct rows)
    ∙ any-distinct test distinct (map (key_of outs) rows)
    ∙ any-map test (key_of outs) rows

-- Semi and Anti joins are filters of the left side
joins : (negated : Bool) (conds : List Cond) (rows side : List Env) → filter (λ l. unless negated (left_partnered union (meets conds) side l)) rows ≡ joined (subquery_kind negated) conds rows side
joins true conds rows side = refl
joins false conds rows side = refl

-- what the subquery's join has on its right
abbrev pub subquery_side : Option JGroup → List JItem → List Env → List Env
subquery_side None items kept = kept
subquery_side (Some group) items kept = map (projected (each_item_once items)) (group_rows (Some group) kept)

-- the subquery by its numbers
abbrev pub subquery_meaning : Bool → List JItem → Option JGroup → List Cond → List Env → NumberedMeaning
subquery_meaning distinct items group conds kept = record {
  outs = outs_of items;
  rows = λ row. distinct_rows distinct (outs_of items) (map (projected (items_of items)) (group_rows group (filter (λ r. meets conds (union r row)) kept)));
}

module _ (negated : Bool) (left : Option Scalar) (query : Bound) (items : List JItem) (distinct : Bool) (outer inner : Columns)
    (first : query.item ≡ first_of items) (apart : are_apart outer inner ≡ true) (sides : SidesWithin query.is_grouped left (first_of items) outer inner) (l : Env) (is_left : IsWithin outer l) where
  -- whether the row has a partner on the right
  abbrev found : List Env → Bool
  found side = left_partnered union (meets (in_condition negated left query ++ query.outer)) side l

  -- whether an output row of the subquery decides the conjunct
  abbrev test : Env → Bool
  test row = counts negated left l (key_of (outs_of items) row)

  plain-first : query.is_grouped ≡ false → (r : Env) (is_right : IsWithin inner r) → (items : List JItem)
      → IsFirst negated query outer inner apart l r is_left is_right (first_of items) (key_of (outs_of items) (projected (items_of items) r))
  plain-first plain r is_right [] = tt
  plain-first plain r is_right (item ∷ rest) =
      ap (λ b. if b then item_value r item.out item.make else projected (items_of rest) r item.out) (eq-eqb item.out.0 item.out.0 refl)
      ∙ value-item r item item.make
      ∙ ap (λ grouped. value_of (item_scalar grouped item) r) (sym plain)

  plain-met : query.is_grouped ≡ false → (r : Env) → IsWithin inner r
      → (meets query.outer (union r l) && test (projected (items_of items) r)) ≡ meets (in_condition negated left query ++ query.outer) (union l r)
  plain-met plain r is_right =
      let row = key_of (outs_of items) (projected (items_of items) r) in
      and_comm (meets query.outer (union r l)) (counts negated left l row)
      ∙ (λ i. counts-met negated query outer inner apart l r is_left is_right left (first_of items) first sides row (plain-first plain r is_right items) i && meets query.outer (union-swapped outer inner apart l r is_left is_right i))
      ∙ sym (meets-append (in_condition negated left query) query.outer (union l r))

  plain-found : query.is_grouped ≡ false → (kept : List Env) → AllWithin inner kept
      → list_any (counts negated left l) (row_values (subquery_meaning distinct items None query.outer kept) l) ≡ found kept
  plain-found plain kept within =
      let near = filter (λ r. meets query.outer (union r l)) kept in
      any-distinct_rows (counts negated left l) distinct (outs_of items) (map (projected (items_of items)) near)
      ∙ any-map test (projected (items_of items)) near
      ∙ any-filter (λ r. test (projected (items_of items) r)) (λ r. meets query.outer (union r l)) kept
      ∙ any-same (IsWithin inner) (λ r. meets query.outer (union r l) && test (projected (items_of items) r)) (λ r. meets (in_condition negated left query ++ query.outer) (union l r)) (plain-met plain) kept within

  grouped-first : query.is_grouped ≡ true → (r : Env) (is_right : IsWithin inner r) → (items : List JItem)
      → IsFirst negated query outer inner apart l r is_left is_right (first_of items) (key_of (outs_of items) r)
  grouped-first grouped r is_right [] = tt
  grouped-first grouped r is_right (item ∷ rest) = sym (value-column item.out r) ∙ ap (λ grouped. value_of (item_scalar grouped item) r) (sym grouped)

  grouped-met : query.is_grouped ≡ true → query.outer ≡ [] → (r : Env) → IsWithin inner r → test r ≡ meets (in_condition negated left query ++ query.outer) (union l r)
  grouped-met grouped none r is_right =
      counts-met negated query outer inner apart l r is_left is_right left (first_of items) first sides (key_of (outs_of items) r) (grouped-first grouped r is_right items)
      ∙ ap (λ conds. meets conds (union l r)) (sym (append-nil (in_condition negated left query)) ∙ ap (λ conds. in_condition negated left query ++ conds) (sym none))

  grouped-found : query.is_grouped ≡ true → query.outer ≡ [] → (group : JGroup) (kept : List Env) → AllWithin inner (subquery_side (Some group) items kept)
      → list_any (counts negated left l) (row_values (subquery_meaning distinct items (Some group) query.outer kept) l) ≡ found (subquery_side (Some group) items kept)
  grouped-found grouped none group kept within =
      any-distinct_rows (counts negated left l) distinct (outs_of items) (map (projected (items_of items)) (group_rows (Some group) (filter (λ r. meets query.outer (union r l)) kept)))
      ∙ ap (λ rows. list_any test (map (projected (items_of items)) (group_rows (Some group) rows))) (ap (λ conds. filter (λ r. meets conds (union r l)) kept) none ∙ every kept)
      ∙ ap (λ project. list_any test (map project (group_rows (Some group) kept))) (sym (items_once items))
      ∙ any-same (IsWithin inner) test (λ r. meets (in_condition negated left query ++ query.outer) (union l r)) (grouped-met grouped none) (subquery_side (Some group) items kept) within

-- the rows for which a subquery conjunct holds are those that its join keeps
pub subquery_rows : (negated : Bool) (left : Option Scalar) (query : Bound) (group : Option JGroup) (items : List JItem) (distinct : Bool) (outer inner : Columns) (kept rows : List Env)
    → query.is_grouped ≡ is_some group → query.item ≡ first_of items → (is_some group ≡ true → query.outer ≡ [])
    → are_apart outer inner ≡ true → AllWithin outer rows → AllWithin inner (subquery_side group items kept) → SidesWithin (is_some group) left (first_of items) outer inner
    → filter (subquery_holds negated left (subquery_meaning distinct items group query.outer kept)) rows ≡ joined (subquery_kind negated) (in_condition negated left query ++ query.outer) rows (subquery_side group items kept)
subquery_rows negated left query None items distinct outer inner kept rows plain first none apart is_outer within sides =
    let conds = in_condition negated left query ++ query.outer in
    let own : SidesWithin query.is_grouped left (first_of items) outer inner = subst (λ grouped. SidesWithin grouped left (first_of items) outer inner) (sym plain) sides in
    filter-same (IsWithin outer) (subquery_holds negated left (subquery_meaning distinct items None query.outer kept)) (λ l. unless negated (left_partnered union (meets conds) kept l))
    (λ l is_left.
    holds-any negated left (subquery_meaning distinct items None query.outer kept) l
    ∙ ap (unless negated) (plain-found negated left query items distinct outer inner first apart own l is_left plain kept within))
    rows is_outer
    ∙ joins negated conds rows kept
subquery_rows negated left query (Some group) items distinct outer inner kept rows grouped first none apart is_outer within sides =
    let conds = in_condition negated left query ++ query.outer in
    let side = subquery_side (Some group) items kept in
    let own : SidesWithin query.is_grouped left (first_of items) outer inner = subst (λ grouped. SidesWithin grouped left (first_of items) outer inner) (sym grouped) sides in
    filter-same (IsWithin outer) (subquery_holds negated left (subquery_meaning distinct items (Some group) query.outer kept)) (λ l. unless negated (left_partnered union (meets conds) side l))
    (λ l is_left.
    holds-any negated left (subquery_meaning distinct items (Some group) query.outer kept) l
    ∙ ap (unless negated) (grouped-found negated left query items distinct outer inner first apart own l is_left grouped (none refl) group kept within))
    rows is_outer
    ∙ joins negated conds rows side
