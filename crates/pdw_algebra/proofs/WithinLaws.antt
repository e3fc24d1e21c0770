-- Rows that have NULL outside some columns, and the union of two rows whose columns lie apart.
use Rattle.std.proofs.Common.{◌≡◌, ◌==◌, Bool, true, false, not, ◌&&◌, ◌||◌, List, [], ◌∷◌, ◌++◌, map, fold, refl, sym, ap, subst, ◌∙◌, true≢false}
use Rattle.std.proofs.lemmas.List.Elements.{All-nil, All-cons}
use Rattle.std.proofs.lemmas.List.Folds.{list_all-append}
use Rattle.std.specs.List.{AllByRecursion, list_all}
use Rattle.pdw_algebra.specs.Shape.{are_apart, has_number}
use Rattle.pdw_algebra.specs.Within.{IsWithin}
use Rattle.pdw_base.specs.Schema.{Columns, Env}
use Rattle.pdw_base.specs.declared.schema.ColId.{ColId}
use Rattle.pdw_base.specs.declared.truth.Truth.{Truth}
use Rattle.pdw_base.specs.declared.truth.Truth.TheVariants.{True, False, Unknown}
use Rattle.pdw_base.specs.declared.value.Value.TheVariants.{Null}
use Rattle.pdw_expr.proofs.ColumnLaws.{truth_depends, value_depends}
use Rattle.pdw_expr.proofs.EnvLaws.{Agree-union_left, Agree-union_right, union-nulls}
use Rattle.pdw_expr.specs.Columns.{cond_columns, scalar_columns}
use Rattle.pdw_expr.specs.Cond.{truth_of}
use Rattle.pdw_expr.specs.Env.{Agree, nulls, or_else, union}
use Rattle.pdw_expr.specs.Logic.{conjunction, is_truth}
use Rattle.pdw_expr.specs.Rows.{meets}
use Rattle.pdw_expr.specs.Scalar.{value_of}
use Rattle.pdw_expr.specs.declared.cond.Cond.{Cond}
use Rattle.pdw_expr.specs.declared.scalar.Scalar.{Scalar}
use Rattle.pdw_algebra.proofs.AllLaws.{numbers-same}

-- these are among the columns
abbrev pub UsesOnly : Columns → List ColId → Type 0
UsesOnly columns used = AllByRecursion (λ c. has_number c columns ≡ true) used

-- ---- columns that lie apart

both_so : (a b : Bool) → (a && b) ≡ true → (a ≡ true) × (b ≡ true)
both_so true b e = (refl, e)
both_so false b e = absurd (true≢false (sym e))

denied : (b : Bool) → not b ≡ true → b ≡ false
denied true e = absurd (true≢false (sym e))
denied false e = refl

module _ (right : Columns) (c : ColId) where
  -- a column of the left side is none of the right side
  pub not_right : (left : Columns) → are_apart left right ≡ true → has_number c left ≡ true → has_number c right ≡ false
  not_right [] apart is = absurd (true≢false (sym is))
  not_right (column ∷ left) apart is = by (column.0.0 == c.0) refl is (not_right left both.1)
    where
      both : (not (has_number column.0 right) ≡ true) × (are_apart left right ≡ true)
      both = both_so (not (has_number column.0 right)) (are_apart left right) apart

      by : (here : Bool) → (column.0.0 == c.0) ≡ here → (here || has_number c left) ≡ true → (has_number c left ≡ true → has_number c right ≡ false) → has_number c right ≡ false
      by true same _ _ = subst (λ d. has_number d right ≡ false) (numbers-same column.0 c same) (denied (has_number column.0 right) both.0)
      by false other there more = more there

-- ---- the union of two rows whose columns lie apart

or_Null : (a : Env) (c : ColId) → or_else (a c) Null ≡ a c
or_Null a c = ap (λ row. row c) (union-nulls a)

null_on : (row : Env) (used : List ColId) → AllByRecursion (λ c. row c ≡ Null) used → Agree used row nulls
null_on row [] all = All-nil (λ c. row c ≡ nulls c)
null_on row (c ∷ used) all = All-cons (λ c. row c ≡ nulls c) c used all.0 (null_on row used all.1)

module _ (left right : Columns) (apart : are_apart left right ≡ true) (l r : Env) (is_left : IsWithin left l) (is_right : IsWithin right r) where
  swapped_at : (c : ColId) (b : Bool) → has_number c left ≡ b → or_else (r c) (l c) ≡ or_else (l c) (r c)
  swapped_at c true is =
      let none = is_right.elsewhere c (not_right right c left apart is) in
      ap (λ value. or_else value (l c)) none ∙ sym (or_Null l c) ∙ ap (or_else (l c)) (sym none)
  swapped_at c false is =
      let none = is_left.elsewhere c is in
      ap (or_else (r c)) none ∙ or_Null r c ∙ ap (λ value. or_else value (r c)) (sym none)

  -- it is the same whichever row comes first
  pub union-swapped : union r l ≡ union l r
  union-swapped = λ i c. swapped_at c (has_number c left) refl i

module _ (left right : Columns) (apart : are_apart left right ≡ true) (r : Env) (is_right : IsWithin right r) where
  right_null : (used : List ColId) → UsesOnly left used → AllByRecursion (λ c. r c ≡ Null) used
  right_null [] all = tt
  right_null (c ∷ used) all = (is_right.elsewhere c (not_right right c left apart all.0), right_null used all.1)

  -- what uses the columns of the left row alone
  pub value-left : (l : Env) (x : Scalar) → UsesOnly left (scalar_columns x) → value_of x (union l r) ≡ value_of x l
  value-left l x uses = value_depends x (union l r) l (Agree-union_left (scalar_columns x) l r (null_on r (scalar_columns x) (right_null (scalar_columns x) uses)))

  pub truth-left : (l : Env) (c : Cond) → UsesOnly left (cond_columns c) → truth_of c (union l r) ≡ truth_of c l
  truth-left l c uses = truth_depends c (union l r) l (Agree-union_left (cond_columns c) l r (null_on r (cond_columns c) (right_null (cond_columns c) uses)))

module _ (left right : Columns) (apart : are_apart left right ≡ true) (l : Env) (is_left : IsWithin left l) where
  not_left : (c : ColId) (b : Bool) → has_number c left ≡ b → has_number c right ≡ true → has_number c left ≡ false
  not_left c true is other = absurd (true≢false (sym other ∙ not_right right c left apart is))
  not_left c false is other = is

  left_null : (used : List ColId) → UsesOnly right used → AllByRecursion (λ c. l c ≡ Null) used
  left_null [] all = tt
  left_null (c ∷ used) all = (is_left.elsewhere c (not_left c (has_number c left) refl all.0), left_null used all.1)

  -- what uses the columns of the right row alone
  pub value-right : (r : Env) (x : Scalar) → UsesOnly right (scalar_columns x) → value_of x (union l r) ≡ value_of x r
  value-right r x uses = value_depends x (union l r) r (Agree-union_right (scalar_columns x) l r (null_on l (scalar_columns x) (left_null (scalar_columns x) uses)))

  pub truth-right : (r : Env) (c : Cond) → UsesOnly right (cond_columns c) → truth_of c (union l r) ≡ truth_of c r
  truth-right r c uses = truth_depends c (union l r) r (Agree-union_right (cond_columns c) l r (null_on l (cond_columns c) (left_null (cond_columns c) uses)))

-- ---- all of some conditions

abbrev pub is_met : Env → Cond → Bool
is_met row c = is_truth (truth_of c row) True

both_true : (a b : Truth) → is_truth (conjunction a b) True ≡ (is_truth a True && is_truth b True)
both_true True b = refl
both_true False b = refl
both_true Unknown True = refl
both_true Unknown False = refl
both_true Unknown Unknown = refl

and_assoc : (a b c : Bool) → ((a && b) && c) ≡ (a && (b && c))
and_assoc true b c = refl
and_assoc false b c = refl

all_met : (row : Env) (start : Truth) (conds : List Cond) → is_truth (fold conjunction start (map (λ c. truth_of c row) conds)) True ≡ (is_truth start True && list_all (is_met row) conds)
all_met row start [] = sym (and_true (is_truth start True))
  where
    and_true : (b : Bool) → (b && true) ≡ b
    and_true true = refl
    and_true false = refl
all_met row start (c ∷ conds) =
    all_met row (conjunction start (truth_of c row)) conds
    ∙ ap (λ b. b && list_all (is_met row) conds) (both_true start (truth_of c row))
    ∙ and_assoc (is_truth start True) (is_met row c) (list_all (is_met row) conds)

-- a row meets some conditions where each is True
pub meets-all : (conds : List Cond) (row : Env) → meets conds row ≡ list_all (is_met row) conds
meets-all conds row = all_met row True conds

pub meets-append : (conds others : List Cond) (row : Env) → meets (conds ++ others) row ≡ (meets conds row && meets others row)
meets-append conds others row =
    meets-all (conds ++ others) row
    ∙ list_all-append (is_met row) conds others
    ∙ (λ i. sym (meets-all conds row) i && sym (meets-all others row) i)
