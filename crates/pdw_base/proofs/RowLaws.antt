-- The laws of positional rows: a row and its environment give each other back.
use Rattle.std.proofs.Common.{◌≡◌, ℕ, zero, suc, ◌+◌, ◌<◌, ◌≤◌, Bool, true, false, cond, not, List, [], ◌∷◌, length, get_or, Some, None, ◌==◌, nat_lt, if◌then◌else◌, All, refl, sym, ap, ap₂, ◌∙◌, subst, arith, suc-le-suc, eqb-true, eq-eqb, ltb-false}
use Rattle.std.specs.List.{position_or_len}
use Rattle.std.proofs.lemmas.List.{length-map, get_or-map}
use Rattle.std.proofs.lemmas.List.Quantifiers.{position-Some}
use Rattle.pdw_base.specs.declared.schema.ColId.{ColId}
use Rattle.pdw_base.specs.declared.value.Kind.{Kind}
use Rattle.pdw_base.specs.declared.value.Value.{Value}
use Rattle.pdw_base.specs.declared.value.Value.TheVariants.{Null}
use Rattle.pdw_base.specs.Value.{IsOfKind}
use Rattle.pdw_base.specs.Schema.{Columns, IsAscending, place_of, Env, cell, row_over, FitsColumns}

pub row_over-length : (columns : Columns) (env : Env) → length (row_over columns env) ≡ length columns
row_over-length columns env = length-map columns (λ column. env column.0)

pub FitsColumns-length : (columns : Columns) (row : List Value) → FitsColumns columns row → length row ≡ length columns
FitsColumns-length [] [] fits = refl
FitsColumns-length [] (value ∷ row) fits = absurd fits
FitsColumns-length (column ∷ columns) [] fits = absurd fits
FitsColumns-length (column ∷ columns) (value ∷ row) fits = ap suc (FitsColumns-length columns row fits.1)

pub row_over-FitsColumns : (columns : Columns) (env : Env) → All (λ column. IsOfKind column.1 (env column.0)) columns → FitsColumns columns (row_over columns env)
row_over-FitsColumns [] env kinds = _
row_over-FitsColumns (column ∷ columns) env kinds =
    (kinds 0 column (omega arith), row_over-FitsColumns columns env (λ k d within. kinds (suc k) d (suc-le-suc within)))

module _ (c : ColId) where
  abbrev has_number : ColId × Kind → Bool
  has_number column = column.0.0 == c.0

  at_place : (columns : Columns) (row : List Value) (i : ℕ) (d : ColId × Kind) → i < length columns → has_number (get_or columns i d) ≡ true
      → ((k : ℕ) → k < i → has_number (get_or columns k d) ≡ false) → cell columns row c ≡ get_or row i Null
  at_place [] row i d within here before = absurd (omega arith)
  at_place (column ∷ columns) [] zero d within here before = refl
  at_place (column ∷ columns) [] (suc i) d within here before = refl
  at_place (column ∷ columns) (value ∷ row) zero d within here before = ap (λ b. if b then value else cell columns row c) here
  at_place (column ∷ columns) (value ∷ row) (suc i) d within here before =
      ap (λ b. if b then value else cell columns row c) (before 0 (omega arith))
      ∙ at_place columns row i d (omega arith) here (λ k less. before (suc k) (suc-le-suc less))

  -- the value of a column stands at the column's place
  pub cell-place : (columns : Columns) (row : List Value) (i : ℕ) → place_of c columns ≡ Some i → cell columns row c ≡ get_or row i Null
  cell-place [] row i there = cc
  cell-place (column ∷ columns) row i there =
      let found = position-Some has_number (column ∷ columns) i column there in
      at_place (column ∷ columns) row i column found.0 found.1 found.2

  without : (columns : Columns) → place_of c columns ≡ None → length columns ≤ position_or_len has_number columns
  without columns none = by (nat_lt (position_or_len has_number columns) (length columns)) refl none
    where
      by : (b : Bool) → nat_lt (position_or_len has_number columns) (length columns) ≡ b → cond b (Some (position_or_len has_number columns)) None ≡ None
          → length columns ≤ position_or_len has_number columns
      by true e none = cc
      by false e none = let outside = ltb-false _ _ e in omega arith

  after_all : (columns : Columns) (row : List Value) → length columns ≤ position_or_len has_number columns → cell columns row c ≡ Null
  after_all [] row all = refl
  after_all (column ∷ columns) [] all = refl
  after_all (column ∷ columns) (value ∷ row) all = by (has_number column) all (after_all columns row)
    where
      by : (b : Bool) → length (column ∷ columns) ≤ cond (not b) (1 + position_or_len has_number columns) 0
          → (length columns ≤ position_or_len has_number columns → cell columns row c ≡ Null) → (if b then value else cell columns row c) ≡ Null
      by true all rest = absurd (omega arith)
      by false all rest = rest (omega arith)

  -- a column that is absent is NULL
  pub cell-absent : (columns : Columns) (row : List Value) → place_of c columns ≡ None → cell columns row c ≡ Null
  cell-absent columns row none = after_all columns row (without columns none)

  -- an environment is read back at each column that is there
  pub cell-row_over : (columns : Columns) (env : Env) (i : ℕ) → place_of c columns ≡ Some i → cell columns (row_over columns env) c ≡ env c
  cell-row_over [] env i there = cc
  cell-row_over (column ∷ columns) env i there =
      let all = column ∷ columns in
      let found = position-Some has_number all i column there in
      cell-place all (row_over all env) i there
      ∙ get_or-map (λ (d : ColId × Kind). env d.0) all i column Null found.0
      ∙ ap (λ n. env (record { 0 = n })) (eqb-true _ _ found.1)

  -- a row that fits has at each column a value of the column's kind
  pub cell-IsOfKind : (columns : Columns) (row : List Value) (i : ℕ) (d : ColId × Kind) → FitsColumns columns row → place_of c columns ≡ Some i
      → IsOfKind (get_or columns i d).1 (cell columns row c)
  cell-IsOfKind columns row i d fits there =
      let found = position-Some has_number columns i d there in
      subst (IsOfKind (get_or columns i d).1) (sym (cell-place columns row i there)) (kind_at columns row i fits found.0)
    where
      kind_at : (columns : Columns) (row : List Value) (i : ℕ) → FitsColumns columns row → i < length columns → IsOfKind (get_or columns i d).1 (get_or row i Null)
      kind_at [] row i fits within = absurd (omega arith)
      kind_at (column ∷ columns) [] i fits within = absurd fits
      kind_at (column ∷ columns) (value ∷ row) zero fits within = fits.0
      kind_at (column ∷ columns) (value ∷ row) (suc i) fits within = kind_at columns row i fits.1 (omega arith)

IsAscending-tail : (column : ColId × Kind) (columns : Columns) → IsAscending (column ∷ columns) → IsAscending columns
IsAscending-tail column columns ascending i j d less within = ascending (suc i) (suc j) d (suc-le-suc less) (suc-le-suc within)

IsAscending-head : (column : ColId × Kind) (columns : Columns) → IsAscending (column ∷ columns) → All (λ later. column.0.0 < later.0.0) columns
IsAscending-head column columns ascending k d within = ascending 0 (suc k) d (omega arith) (suc-le-suc within)

-- columns of greater numbers are read behind the first
behind : (column : ColId × Kind) (value : Value) (columns : Columns) (row : List Value) (later : Columns) → All (λ d. column.0.0 < d.0.0) later
    → row_over later (cell (column ∷ columns) (value ∷ row)) ≡ row_over later (cell columns row)
behind column value columns row [] greater = refl
behind column value columns row (d ∷ later) greater =
    ap₂ (λ x xs. x ∷ xs) (other (column.0.0 == d.0.0) refl) (behind column value columns row later (λ k e within. greater (suc k) e (suc-le-suc within)))
  where
    other : (b : Bool) → (column.0.0 == d.0.0) ≡ b → (if b then value else cell columns row d.0) ≡ cell columns row d.0
    other true same = let less = greater 0 d (omega arith) in let equal = eqb-true _ _ same in absurd (omega arith)
    other false same = refl

-- a row is read back from its environment
pub row_over-cell : (columns : Columns) (row : List Value) → IsAscending columns → FitsColumns columns row → row_over columns (cell columns row) ≡ row
row_over-cell [] [] ascending fits = refl
row_over-cell [] (value ∷ row) ascending fits = absurd fits
row_over-cell (column ∷ columns) [] ascending fits = absurd fits
row_over-cell (column ∷ columns) (value ∷ row) ascending fits =
    ap₂ (λ x xs. x ∷ xs) (ap (λ b. if b then value else cell columns row column.0) (eq-eqb column.0.0 column.0.0 refl))
    (behind column value columns row columns (IsAscending-head column columns ascending)
    ∙ row_over-cell columns row (IsAscending-tail column columns ascending) fits.1)
