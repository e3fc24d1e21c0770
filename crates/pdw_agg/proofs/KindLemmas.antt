-- The kinds of values: expressions and aggregates over rows that fit.
use Rattle.std.proofs.Common.{◌≡◌, ◌==◌, ◌&&◌, ℤ, pos, Bool, true, false, cond, not, leb, length, List, [], ◌∷◌, map, fold, Option, Some, None, refl, sym, ap, subst, ◌∙◌, if◌then◌else◌}
use Rattle.std.specs.Prelude.{◌-ℤ◌, ◌*ℤ◌, ◌+ℤ◌, int_div, int_rem, neg_ℤ}
use Rattle.std.specs.List.{AllByRecursion}
use Rattle.std.specs.Ordering.{int_eq, is_gt, is_lt}
use Rattle.pdw_algebra.specs.Schema.{kind_at}
use Rattle.pdw_algebra.specs.Shape.{kind_or_int}
use Rattle.pdw_algebra.specs.Types.{is_number, literal_kind, number_if, scalar_kind, scalar_kind_step}
use Rattle.pdw_base.specs.Comparison.{value_cmp}
use Rattle.pdw_base.specs.Schema.{Columns, Env, FitsColumns, cell}
use Rattle.pdw_base.specs.Value.{IsOfKind}
use Rattle.pdw_base.specs.declared.schema.ColId.{ColId}
use Rattle.pdw_base.specs.declared.value.Kind.{Kind}
use Rattle.pdw_base.specs.declared.value.Kind.TheVariants as kind
use Rattle.pdw_base.specs.declared.value.Value.{Value}
use Rattle.pdw_base.specs.declared.value.Value.TheVariants.{Null, Int, Text, Wide}
use Rattle.pdw_catalog.specs.declared.table.TheConstants.{MOST_TEXT_BYTES}
use Rattle.pdw_expr.specs.Aggregate.{greater, greatest, least, lesser, present, summed}
use Rattle.pdw_expr.specs.Arithmetic.{computed, fitted, in_range, negated, on_numbers, unless_zero}
use Rattle.pdw_expr.specs.Comparison.{is_null}
use Rattle.pdw_expr.specs.Scalar.{value_of, value_step}
use Rattle.pdw_expr.specs.declared.scalar.Arith.{Arith}
use Rattle.pdw_expr.specs.declared.scalar.Arith.TheVariants.{Add, Sub, Mul, Div, Rem}
use Rattle.pdw_expr.specs.declared.scalar.Scalar.{Scalar}
use Rattle.pdw_expr.specs.declared.scalar.Scalar.TheFolds.{fold-roll-Scalar, ind-Scalar, map-Scalar}
use Rattle.pdw_expr.specs.declared.scalar.Scalar.TheOpen.{Scalar-F}
use Rattle.pdw_expr.specs.declared.scalar.Scalar.TheViews.{roll-Scalar}

-- ---- numbers

pub fitted-Int : (z : ℤ) → IsOfKind kind.Int (fitted z)
fitted-Int z = by (in_range z)
  where
    by : (b : Bool) → IsOfKind kind.Int (if b then Int z else Null)
    by true = refl
    by false = _

unless_zero-Int : (divisor : ℤ) (value : Value) → IsOfKind kind.Int value → IsOfKind kind.Int (unless_zero divisor value)
unless_zero-Int divisor value is = by (int_eq divisor (pos 0))
  where
    by : (b : Bool) → IsOfKind kind.Int (if b then Null else value)
    by true = _
    by false = is

on_numbers-Int : (op : Arith) (a b : ℤ) → IsOfKind kind.Int (on_numbers op a b)
on_numbers-Int Add a b = fitted-Int (a +ℤ b)
on_numbers-Int Sub a b = fitted-Int (a -ℤ b)
on_numbers-Int Mul a b = fitted-Int (a *ℤ b)
on_numbers-Int Div a b = unless_zero-Int b (fitted (int_div a b)) (fitted-Int (int_div a b))
on_numbers-Int Rem a b = unless_zero-Int b (fitted (int_rem a b)) (fitted-Int (int_rem a b))

computed-Int : (op : Arith) (a b : Value) → IsOfKind kind.Int (computed op a b)
computed-Int op Null b = _
computed-Int op (Text t) b = _
computed-Int op (Wide n) b = _
computed-Int op (Int a) Null = _
computed-Int op (Int a) (Text t) = _
computed-Int op (Int a) (Wide n) = _
computed-Int op (Int a) (Int b) = on_numbers-Int op a b

negated-Int : (a : Value) → IsOfKind kind.Int (negated a)
negated-Int Null = _
negated-Int (Int n) = fitted-Int (neg_ℤ n)
negated-Int (Text t) = _
negated-Int (Wide n) = _

links-Int : (env : Env) (links : List (Arith × (Env → Value))) (start : Value) → IsOfKind kind.Int start
    → IsOfKind kind.Int (fold (λ value link. computed link.0 value (link.1 env)) start links)
links-Int env [] start is = is
links-Int env (link ∷ links) start is = links-Int env links (computed link.0 start (link.1 env)) (computed-Int link.0 start (link.1 env))

-- ---- columns

-- each column has a value of its kind; one that is absent counts as INT
abbrev pub FitsEnv : Columns → Env → Type 0
FitsEnv columns env = (c : ColId) → IsOfKind (kind_or_int (kind_at columns c)) (env c)

pub cell-fits : (columns : Columns) (row : List Value) → FitsColumns columns row → FitsEnv columns (cell columns row)
cell-fits [] row fits c = _
cell-fits (column ∷ columns) [] fits c = absurd fits
cell-fits (column ∷ columns) (value ∷ row) fits c = by (column.0.0 == c.0) (cell-fits columns row fits.1 c)
  where
    by : (here : Bool) → IsOfKind (kind_or_int (kind_at columns c)) (cell columns row c)
        → IsOfKind (kind_or_int (if here then Some column.1 else kind_at columns c)) (if here then value else cell columns row c)
    by true later = fits.0
    by false later = later

-- ---- expressions

number_is : (b : Bool) (k : Kind) → number_if b ≡ Some k → (b ≡ true) × (kind.Int ≡ k)
number_is true k e = (refl, (cc))
number_is false k e = cc

is_number-Int : (k : Option Kind) → is_number k ≡ true → k ≡ Some kind.Int
is_number-Int None e = cc
is_number-Int (Some kind.Int) e = refl
is_number-Int (Some kind.Text) e = cc
is_number-Int (Some kind.Wide) e = cc

both_true : (a b : Bool) → (a && b) ≡ true → a ≡ true
both_true true b e = refl
both_true false b e = e

literal-kind : (v : Value) (k : Kind) → literal_kind v ≡ Some k → IsOfKind k v
literal-kind Null k e = _
literal-kind (Int n) k e = let same : kind.Int ≡ k = cc in sym same
literal-kind (Wide n) k e = cc
literal-kind (Text t) k e = by (leb (length t) MOST_TEXT_BYTES) e
  where
    by : (b : Bool) → (if b then Some kind.Text else None) ≡ Some k → k ≡ kind.Text
    by true e = let same : kind.Text ≡ k = cc in sym same
    by false e = cc

module _ (columns : Columns) (env : Env) (fits : FitsEnv columns env) where
  abbrev HasKind : Scalar → Type 0
  HasKind e = (k : Kind) → scalar_kind columns e ≡ Some k → IsOfKind k (value_of e env)

  abbrev Known : Type 0
  Known = (e : Scalar) × HasKind e

  abbrev known : Scalar-F Known → Scalar-F Scalar
  known = map-Scalar Known Scalar (λ e. e.0)

  chain-kind : (k : Kind) (h : Arith × Known → Arith × Scalar) (g : Arith × Scalar → Arith × (Env → Value)) (links : List (Arith × Known)) (start : Value)
      → kind.Int ≡ k → IsOfKind kind.Int start → IsOfKind k (fold (λ value link. computed link.0 value (link.1 env)) start (map g (map h links)))
  chain-kind k h g links start is here =
      subst (λ kind. IsOfKind kind (fold (λ value link. computed link.0 value (link.1 env)) start (map g (map h links)))) is (links-Int env (map g (map h links)) start here)

  layer : (y : Scalar-F Known) (k : Kind) → scalar_kind_step columns (map-Scalar Scalar (Option Kind) (scalar_kind columns) (known y)) ≡ Some k
      → IsOfKind k (value_step (map-Scalar Scalar (Env → Value) value_of (known y)) env)
  layer (Scalar-F.Col c) k typed = subst (λ kind. IsOfKind (kind_or_int kind) (env c)) typed (fits c)
  layer (Scalar-F.Lit value) k typed = literal-kind value k typed
  layer (Scalar-F.Neg operand) k typed =
      let is = number_is (is_number (scalar_kind columns operand.0)) k typed in
      subst (λ kind. IsOfKind kind (negated (value_of operand.0 env))) is.1 (negated-Int (value_of operand.0 env))
  layer (Scalar-F.Chain first rest) k typed =
      let is = number_is _ k typed in
      chain-kind k (λ link. (link.0, link.1.0)) (λ link. (link.0, value_of link.1)) rest (value_of first.0 env) is.1
      (first.1 kind.Int (is_number-Int (scalar_kind columns first.0) (both_true _ _ is.0)))

  pub scalar-kind : (e : Scalar) → HasKind e
  scalar-kind = ind-Scalar HasKind (λ x y is. subst (λ z. HasKind (roll-Scalar z)) is (λ k typed.
      let value = fold-roll-Scalar (Env → Value) value_step (known y) in
      let of_kind = fold-roll-Scalar (Option Kind) (scalar_kind_step columns) (known y) in
      subst (IsOfKind k) (sym (ap (λ f. f env) value)) (layer y k (sym of_kind ∙ typed))))

-- ---- what aggregates keep

abbrev pub AllOf : Kind → List Value → Type 0
AllOf k values = AllByRecursion (IsOfKind k) values

module _ (k : Kind) where
  present-all : (values : List Value) → AllOf k values → AllOf k (present values)
  present-all [] all = tt
  present-all (value ∷ values) all = by (not (is_null value)) (present-all values all.1)
    where
      by : (b : Bool) → AllOf k (present values) → AllOf k (cond b (value ∷ present values) (present values))
      by true rest = (all.0, rest)
      by false rest = rest

  picked : (b : Bool) (x y : Value) → IsOfKind k x → IsOfKind k y → IsOfKind k (if b then y else x)
  picked true x y first second = second
  picked false x y first second = first

  fold-lesser : (first : Value) (values : List Value) → IsOfKind k first → AllOf k values → IsOfKind k (fold lesser first values)
  fold-lesser first [] is all = is
  fold-lesser first (value ∷ values) is all = fold-lesser (lesser first value) values (picked (is_lt (value_cmp value first)) first value is all.0) all.1

  fold-greater : (first : Value) (values : List Value) → IsOfKind k first → AllOf k values → IsOfKind k (fold greater first values)
  fold-greater first [] is all = is
  fold-greater first (value ∷ values) is all = fold-greater (greater first value) values (picked (is_gt (value_cmp value first)) first value is all.0) all.1

  least-kind : (values : List Value) → AllOf k values → IsOfKind k (least values)
  least-kind [] all = _
  least-kind (first ∷ rest) all = fold-lesser first rest all.0 all.1

  greatest-kind : (values : List Value) → AllOf k values → IsOfKind k (greatest values)
  greatest-kind [] all = _
  greatest-kind (first ∷ rest) all = fold-greater first rest all.0 all.1

  pub least-present : (values : List Value) → AllOf k values → IsOfKind k (least (present values))
  least-present values all = least-kind (present values) (present-all values all)

  pub greatest-present : (values : List Value) → AllOf k values → IsOfKind k (greatest (present values))
  greatest-present values all = greatest-kind (present values) (present-all values all)

pub summed-kind : (values : List Value) → IsOfKind kind.Wide (summed values)
summed-kind [] = _
summed-kind (first ∷ rest) = refl
