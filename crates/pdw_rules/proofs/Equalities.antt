-- Where a conjunct compares two columns by `=`, a row that meets all conjuncts has one value in both.
use Rattle.std.proofs.Common.{◌≡◌, ◌==◌, Bool, true, false, true≢false, ◌&&◌, ◌⊎◌, Some, Option, List, [], ◌∷◌, refl, sym, ap, ◌∙◌, subst, inl, inr}
use Rattle.std.proofs.lemmas.Bool.{and_parts, or_cases}
use Rattle.std.specs.Cmp.{Equal-is}
use Rattle.std.specs.FinMap.{int_cmp-IsAntisymmetric, nat_cmp-IsAntisymmetric, slice_cmp-IsAntisymmetric}
use Rattle.std.specs.List.{list_all, list_any}
use Rattle.std.specs.Ordering.{int_cmp, is_eq, nat_cmp}
use Rattle.std.specs.Cmp.Lexicographic.{slice_cmp}
use Rattle.std.specs.declared.cmp.Ordering.TheVariants.{Equal}
use Rattle.std.specs.declared.cmp.Ordering.{Ordering}
use Rattle.pdw_algebra.proofs.AllLaws.{numbers-same}
use Rattle.pdw_algebra.proofs.WithinLaws.{is_met, meets-all}
use Rattle.pdw_base.specs.Schema.{Env}
use Rattle.pdw_base.specs.declared.schema.ColId.{ColId}
use Rattle.pdw_base.specs.declared.truth.Truth.TheVariants.{True}
use Rattle.pdw_base.specs.declared.truth.Truth.{Truth}
use Rattle.pdw_base.specs.declared.value.Value.TheVariants.{Int, Text, Wide}
use Rattle.pdw_base.specs.declared.value.Value.{Value}
use Rattle.pdw_expr.specs.Comparison.{comparison}
use Rattle.pdw_expr.specs.Cond.{truth_of, truth_step}
use Rattle.pdw_expr.specs.Logic.{decided, is_truth}
use Rattle.pdw_expr.specs.Rows.{meets}
use Rattle.pdw_expr.specs.Scalar.{value_of, value_step}
use Rattle.pdw_expr.specs.declared.cond.Cmp.TheVariants as compares
use Rattle.pdw_expr.specs.declared.cond.Cmp.{Cmp}
use Rattle.pdw_expr.specs.declared.cond.Cond.TheFolds.{fold-roll-Cond, ind-Cond, map-Cond}
use Rattle.pdw_expr.specs.declared.cond.Cond.TheOpen.{Cond-F}
use Rattle.pdw_expr.specs.declared.cond.Cond.TheViews.{roll-Cond}
use Rattle.pdw_expr.specs.declared.cond.Cond.{Cond}
use Rattle.pdw_expr.specs.declared.scalar.Scalar.TheFolds.{fold-roll-Scalar, ind-Scalar, map-Scalar}
use Rattle.pdw_expr.specs.declared.scalar.Scalar.TheOpen.{Scalar-F}
use Rattle.pdw_expr.specs.declared.scalar.Scalar.TheViews.{roll-Scalar}
use Rattle.pdw_expr.specs.declared.scalar.Scalar.{Scalar}
use Rattle.pdw_groups.specs.Columns.{column_alone, column_step, equal_pair, equality_columns, equality_step}
use Rattle.pdw_rules.specs.Rules.{equates, is_pair, matches_on}

-- ---- values that compare as equal

decided-eq : (o : Ordering) → is_truth (decided (is_eq o)) True ≡ true → o ≡ Equal
decided-eq o holds = (Equal-is o).0 (by (is_eq o) holds)
  where
    by : (b : Bool) → is_truth (decided b) True ≡ true → b ≡ true
    by true h = refl
    by false h = absurd (true≢false (sym h))

equal-values : (u v : Value) → is_truth (comparison compares.Eq u v) True ≡ true → u ≡ v
equal-values (Int x) (Int y) holds = ap Int (int_cmp-IsAntisymmetric x y (decided-eq (int_cmp x y) holds))
equal-values (Text x) (Text y) holds = ap Text (slice_cmp-IsAntisymmetric nat_cmp-IsAntisymmetric x y (decided-eq (slice_cmp nat_cmp x y) holds))
equal-values (Wide x) (Wide y) holds = ap Wide (int_cmp-IsAntisymmetric x y (decided-eq (int_cmp x y) holds))
equal-values _ _ holds = absurd (true≢false (sym holds))

-- ---- an expression that is a column alone

abbrev IsColumn : Scalar → Type 0
IsColumn e = (c : ColId) → column_alone e ≡ Some c → (env : Env) → value_of e env ≡ env c

abbrev Known : Type 0
Known = (e : Scalar) × IsColumn e

abbrev known : Scalar-F Known → Scalar-F Scalar
known = map-Scalar Known Scalar (λ e. e.0)

column-layer : (y : Scalar-F Known) (c : ColId) → column_step (map-Scalar Scalar (Option ColId) column_alone (known y)) ≡ Some c → (env : Env)
    → value_step (map-Scalar Scalar (Env → Value) value_of (known y)) env ≡ env c
column-layer (Scalar-F.Col d) c alone env = ap env (cc)
column-layer (Scalar-F.Lit value) c alone env = absurd (cc)
column-layer (Scalar-F.Neg operand) c alone env = absurd (cc)
column-layer (Scalar-F.Chain first rest) c alone env = absurd (cc)

column-value : (e : Scalar) → IsColumn e
column-value = ind-Scalar IsColumn (λ x y is. subst (λ z. IsColumn (roll-Scalar z)) is (λ c alone env.
    let value = fold-roll-Scalar (Env → Value) value_step (known y) in
    let column = fold-roll-Scalar (Option ColId) column_step (known y) in
    ap (λ f. f env) value ∙ column-layer y c (sym column ∙ alone) env))

-- ---- a conjunct that compares two columns

module _ (a b : ColId) where
  paired : (c d : ColId) (env : Env) → is_pair a b (c ∷ d ∷ []) ≡ true → env c ≡ env d → env a ≡ env b
  paired c d env pair same = by (or_cases ((c.0 == a.0) && (d.0 == b.0)) ((c.0 == b.0) && (d.0 == a.0)) pair)
    where
      by : (((c.0 == a.0) && (d.0 == b.0)) ≡ true) ⊎ (((c.0 == b.0) && (d.0 == a.0)) ≡ true) → env a ≡ env b
      by (inl there) =
          let parts = and_parts (c.0 == a.0) (d.0 == b.0) there in
          sym (ap env (numbers-same c a parts.0)) ∙ same ∙ ap env (numbers-same d b parts.1)
      by (inr turned) =
          let parts = and_parts (c.0 == b.0) (d.0 == a.0) turned in
          sym (ap env (numbers-same d a parts.1)) ∙ sym same ∙ ap env (numbers-same c b parts.0)

  abbrev Equates : Cond → Type 0
  Equates c = (env : Env) → is_pair a b (equality_columns c) ≡ true → is_truth (truth_of c env) True ≡ true → env a ≡ env b

  compared-columns : (op : Cmp) (e f : Scalar) (env : Env) (x y : Option ColId) → column_alone e ≡ x → column_alone f ≡ y → is_pair a b (equal_pair op x y) ≡ true
      → is_truth (comparison op (value_of e env) (value_of f env)) True ≡ true → env a ≡ env b
  compared-columns compares.Eq e f env (Some c) (Some d) first second pair holds =
      paired c d env pair (sym (column-value e c first env) ∙ equal-values (value_of e env) (value_of f env) holds ∙ column-value f d second env)
  compared-columns _ e f env _ _ first second pair holds = absurd (true≢false (sym pair))

  abbrev KnownCond : Type 0
  KnownCond = (c : Cond) × Equates c

  abbrev known_cond : Cond-F KnownCond → Cond-F Cond
  known_cond = map-Cond KnownCond Cond (λ c. c.0)

  cond-layer : (y : Cond-F KnownCond) (env : Env) → is_pair a b (equality_step (map-Cond Cond (List ColId) equality_columns (known_cond y))) ≡ true
      → is_truth (truth_step (map-Cond Cond (Env → Truth) truth_of (known_cond y)) env) True ≡ true → env a ≡ env b
  cond-layer (Cond-F.Compare op e f) env pair holds = compared-columns op e f env (column_alone e) (column_alone f) refl refl pair holds
  cond-layer _ env pair holds = absurd (true≢false (sym pair))

  cond-equates : (c : Cond) → Equates c
  cond-equates = ind-Cond Equates (λ x y is. subst (λ z. Equates (roll-Cond z)) is (λ env pair holds.
      let truth = fold-roll-Cond (Env → Truth) truth_step (known_cond y) in
      let columns = fold-roll-Cond (List ColId) equality_step (known_cond y) in
      cond-layer y env
      (sym (ap (λ cs. is_pair a b cs) columns) ∙ pair)
      (sym (ap (λ f. is_truth (f env) True) truth) ∙ holds)))

  -- of conjuncts that are all True, one of which compares the two columns
  all-equate : (conds : List Cond) (env : Env) → list_any (equates a b) conds ≡ true → list_all (is_met env) conds ≡ true → env a ≡ env b
  all-equate [] env some all = absurd (true≢false (sym some))
  all-equate (c ∷ conds) env some all =
      let parts = and_parts (is_met env c) (list_all (is_met env) conds) all in
      by (or_cases (equates a b c) (list_any (equates a b) conds) some) parts.0 (λ later. all-equate conds env later parts.1)
    where
      by : ((equates a b c ≡ true) ⊎ (list_any (equates a b) conds ≡ true)) → is_met env c ≡ true → (list_any (equates a b) conds ≡ true → env a ≡ env b) → env a ≡ env b
      by (inl here) met rest = cond-equates c env here met
      by (inr later) met rest = rest later

pub meets-equates : (conds : List Cond) (a b : ColId) → matches_on conds a b ≡ true → (env : Env) → meets conds env ≡ true → env a ≡ env b
meets-equates conds a b matches env met = all-equate a b conds env matches (sym (meets-all conds env) ∙ met)
