-- Conditions, one lemma for each variant: from what the parts mean to what the condition means.
use Rattle.std.proofs.Common.{◌≡◌, Bool, true, false, not, ◌&&◌, List, [], ◌∷◌, ◌++◌, map, Option, Some, None, refl, sym, ap, ap₂, subst, ◌∙◌}
use Rattle.std.specs.List.{flat_map, list_all}
use Rattle.pdw_syntax.specs.declared.expr.SqlExpr.{SqlExpr}
use Rattle.pdw_syntax.specs.declared.query.Primary.TheOpen.{SqlCond-F}
use Rattle.pdw_base.specs.Schema.{Env}
use Rattle.pdw_base.specs.declared.truth.Truth.{Truth}
use Rattle.pdw_base.specs.declared.truth.Truth.TheVariants.{True}
use Rattle.pdw_base.specs.declared.value.Kind.TheVariants as kind
use Rattle.pdw_base.specs.declared.value.Value.{Value}
use Rattle.pdw_catalog.specs.Database.{Database}
use Rattle.pdw_expr.specs.Comparison.{comparison, is_null}
use Rattle.pdw_expr.specs.Cond.{truth_of}
use Rattle.pdw_expr.specs.Cond as numbered
use Rattle.pdw_expr.specs.Like.{like}
use Rattle.pdw_expr.specs.Logic.{all_of, any_of, decided, is_truth, negation}
use Rattle.pdw_expr.specs.Scalar.{value_of}
use Rattle.pdw_expr.specs.declared.cond.Cmp.{Cmp}
use Rattle.pdw_expr.specs.declared.cond.Cmp.TheVariants.{Eq, Ge, Le}
use Rattle.pdw_expr.specs.declared.cond.Cond.{Cond}
use Rattle.pdw_expr.specs.declared.cond.Cond.TheFolds.{fold-roll-Cond}
use Rattle.pdw_expr.specs.declared.cond.Cond.TheOpen.{Cond-F}
use Rattle.pdw_expr.specs.declared.cond.Cond.TheVariants as cond
use Rattle.pdw_expr.specs.declared.scalar.Scalar.{Scalar}
use Rattle.pdw_names.proofs.ReadLaws.{Reading, StepReads, all_meanings, each_reads, ends_checked, ends_with, expr_reads, goes_on_then, read_all, read_typed, reading_then, reads_test, test_reads}
use Rattle.pdw_form.proofs.Related.{Related, none, more, related-append}
use Rattle.pdw_names.proofs.Relations.{CondMeans, ConjunctMeans, ExprMeans, QueryMeans, SubqueryIf, SubqueryMeans, TestMeans}
use Rattle.pdw_names.proofs.TestedLaws.{all_true_each, list_all_map}
use Rattle.pdw_names.proofs.WalkLaws.{refused-done}
use Rattle.pdw_expr.specs.Predicates.{between, first_column, has_rows, is_one_of, negated_if}
use Rattle.pdw_semantics.specs.Conds.{QueryMeaning, truth_step}
use Rattle.pdw_semantics.specs.Environment.{Group, environment}
use Rattle.pdw_semantics.specs.Exprs as named
use Rattle.pdw_semantics.specs.Froms.{ElementMeaning, JoinMeaning}
use Rattle.pdw_walk.specs.Conds.{Condition, Conjunct, QueryWalk, Subquery, any_nested, cond_step, conjunct, plain, predicate, tests}
use Rattle.pdw_walk.specs.Conds as walk
use Rattle.pdw_walk.specs.Exprs.{expr, same_kind}
use Rattle.pdw_walk.specs.Froms.{ElementWalk, JoinWalk}
use Rattle.pdw_walk.specs.Lookup.{Place}
use Rattle.pdw_walk.specs.Walk.{Step, ◌>>=◌, ◌<$>◌, each, pure, refuse}
use Rattle.pdw_walk.specs.declared.entry.Typed.{Typed}
use Rattle.pdw_walk.specs.declared.fault.JudgeFault.TheVariants.{SubqueryPlace, TypeMismatch}

-- ---- the truths of numbered conditions

truth_compare : (op : Cmp) (a b : Scalar) (m : Env) → truth_of (cond.Compare op a b) m ≡ comparison op (value_of a m) (value_of b m)
truth_compare op a b m = ap (λ c. truth_of c m) (sym (cond.rolls-Compare op a b)) ∙ ap (λ f. f m) (fold-roll-Cond (Env → Truth) numbered.truth_step (Cond-F.Compare op a b))

truth_like : (a b : Scalar) (m : Env) → truth_of (cond.Like a b) m ≡ like (value_of a m) (value_of b m)
truth_like a b m = ap (λ c. truth_of c m) (sym (cond.rolls-Like a b)) ∙ ap (λ f. f m) (fold-roll-Cond (Env → Truth) numbered.truth_step (Cond-F.Like a b))

truth_null : (a : Scalar) (m : Env) → truth_of (cond.IsNull a) m ≡ decided (is_null (value_of a m))
truth_null a m = ap (λ c. truth_of c m) (sym (cond.rolls-IsNull a)) ∙ ap (λ f. f m) (fold-roll-Cond (Env → Truth) numbered.truth_step (Cond-F.IsNull a))

truth_test : (part : Cond) (wanted : Truth) (m : Env) → truth_of (cond.Test part wanted) m ≡ decided (is_truth (truth_of part m) wanted)
truth_test part wanted m = ap (λ c. truth_of c m) (sym (cond.rolls-Test part wanted)) ∙ ap (λ f. f m) (fold-roll-Cond (Env → Truth) numbered.truth_step (Cond-F.Test part wanted))

truth_not : (part : Cond) (m : Env) → truth_of (cond.Not part) m ≡ negation (truth_of part m)
truth_not part m = ap (λ c. truth_of c m) (sym (cond.rolls-Not part)) ∙ ap (λ f. f m) (fold-roll-Cond (Env → Truth) numbered.truth_step (Cond-F.Not part))

map_map : {X Y Z : Type 0} (f : Y → Z) (g : X → Y) (xs : List X) → map f (map g xs) ≡ map (λ x. f (g x)) xs
map_map f g [] = refl
map_map f g (x ∷ xs) = ap (λ zs. f (g x) ∷ zs) (map_map f g xs)

truth_all : (parts : List Cond) (m : Env) → truth_of (cond.All parts) m ≡ all_of (map (λ c. truth_of c m) parts)
truth_all parts m = ap (λ c. truth_of c m) (sym (cond.rolls-All parts)) ∙ (ap (λ f. f m) (fold-roll-Cond (Env → Truth) numbered.truth_step (Cond-F.All parts)) ∙ ap all_of (map_map (λ truth. truth m) truth_of parts))

truth_any : (parts : List Cond) (m : Env) → truth_of (cond.Any parts) m ≡ any_of (map (λ c. truth_of c m) parts)
truth_any parts m = ap (λ c. truth_of c m) (sym (cond.rolls-Any parts)) ∙ (ap (λ f. f m) (fold-roll-Cond (Env → Truth) numbered.truth_step (Cond-F.Any parts)) ∙ ap any_of (map_map (λ truth. truth m) truth_of parts))

truth_negated : (negated : Bool) (c : Cond) (m : Env) → truth_of (walk.negated_if negated c) m ≡ negated_if negated (truth_of c m)
truth_negated true c m = truth_not c m
truth_negated false c m = refl

-- the truth of what may be negated, as it is read
negated_read : (negated : Bool) (c : Cond) (m : Env) (truth : Truth) → truth_of c m ≡ truth → negated_if negated truth ≡ truth_of (walk.negated_if negated c) m
negated_read negated c m truth same = ap (negated_if negated) (sym same) ∙ sym (truth_negated negated c m)

-- ---- predicates

abbrev two : Typed × Typed → Env → Value × Value
two both m = (read_typed both.0 m, read_typed both.1 m)

abbrev three : (Typed × Typed) × Typed → Env → (Value × Value) × Value
three all m = (two all.0 m, read_typed all.1 m)

module _ (expr-means : (x : SqlExpr) → ExprMeans (expr x) (named.value_of x)) where
  expr_reading : (x : SqlExpr) (place : Place) → Reading read_typed place (expr x place) (named.value_of x)
  expr_reading x place w a w' proper settled walked = expr_reads ((expr-means x).gives place w a w' proper settled walked)

  abbrev two_of : SqlExpr → SqlExpr → Group → Value × Value
  two_of x y group = (named.value_of x group, named.value_of y group)

  compare_test : (op : Cmp) (x y : SqlExpr) → TestMeans (λ place. expr x place >>= (λ a. expr y place >>= (λ b. walk.comparison op a b))) (λ group. comparison op (named.value_of x group) (named.value_of y group))
  unfolding walk.comparison
  compare_test op x y = record {
    gives = λ place w c w' proper settled walked. reads_test (
        reading_then read_typed place (named.value_of x) (expr x place) (λ a. expr y place >>= walk.comparison op a) (expr_reading x place)
        (goes_on_then read_typed place (named.value_of x) read_typed (named.value_of y) (expr y place) (λ a b. walk.comparison op a b) (expr_reading y place)
        (ends_checked two place (two_of x y) (λ v. comparison op v.0 v.1) (λ both. cond.Compare op both.0.scalar both.1.scalar) (λ both m. sym (truth_compare op both.0.scalar both.1.scalar m))
        (λ both. not (list_all (λ x. same_kind both.0.kind x.kind) (both.1 ∷ []))) TypeMismatch))
        w c w' proper settled walked);
  }

  like_test : (negated : Bool) (x y : SqlExpr) → TestMeans (λ place. expr x place >>= (λ a. expr y place >>= (λ b. walk.like negated a b))) (λ group. negated_if negated (like (named.value_of x group) (named.value_of y group)))
  unfolding walk.like
  like_test negated x y = record {
    gives = λ place w c w' proper settled walked. reads_test (
        reading_then read_typed place (named.value_of x) (expr x place) (λ a. expr y place >>= walk.like negated a) (expr_reading x place)
        (goes_on_then read_typed place (named.value_of x) read_typed (named.value_of y) (expr y place) (λ a b. walk.like negated a b) (expr_reading y place)
        (ends_checked two place (two_of x y) (λ v. negated_if negated (like v.0 v.1)) (λ both. walk.negated_if negated (cond.Like both.0.scalar both.1.scalar))
        (λ both m. negated_read negated (cond.Like both.0.scalar both.1.scalar) m (like (read_typed both.0 m) (read_typed both.1 m)) (truth_like both.0.scalar both.1.scalar m))
        (λ both. not (list_all (λ x. same_kind kind.Text x.kind) (both.0 ∷ both.1 ∷ []))) TypeMismatch))
        w c w' proper settled walked);
  }

  null_test : (negated : Bool) (x : SqlExpr) → TestMeans (λ place. walk.is_null negated <$> expr x place) (λ group. negated_if negated (decided (is_null (named.value_of x group))))
  null_test negated x = record {
    gives = λ place w c w' proper settled walked. reads_test (
        reading_then read_typed place (named.value_of x) (expr x place) (λ a. pure (walk.is_null negated a)) (expr_reading x place)
        (ends_with read_typed place (named.value_of x) (λ v. negated_if negated (decided (is_null v))) (walk.is_null negated)
        (λ a m. negated_read negated (cond.IsNull a.scalar) m (decided (is_null (read_typed a m))) (truth_null a.scalar m)))
        w c w' proper settled walked);
  }

  abbrev within_bounds : (Typed × Typed) × Typed → Cond
  within_bounds all = cond.All (cond.Compare Ge all.0.0.scalar all.0.1.scalar ∷ cond.Compare Le all.0.0.scalar all.1.scalar ∷ [])

  truth_within : (all : (Typed × Typed) × Typed) (m : Env) → truth_of (within_bounds all) m ≡ between (read_typed all.0.0 m) (read_typed all.0.1 m) (read_typed all.1 m)
  truth_within all m =
      truth_all (cond.Compare Ge all.0.0.scalar all.0.1.scalar ∷ cond.Compare Le all.0.0.scalar all.1.scalar ∷ []) m
      ∙ ap₂ (λ low high. all_of (low ∷ high ∷ [])) (truth_compare Ge all.0.0.scalar all.0.1.scalar m) (truth_compare Le all.0.0.scalar all.1.scalar m)

  between_test : (negated : Bool) (x low high : SqlExpr) → TestMeans (λ place. expr x place >>= (λ a. expr low place >>= (λ b. expr high place >>= (λ c. walk.between negated a b c))))
      (λ group. negated_if negated (between (named.value_of x group) (named.value_of low group) (named.value_of high group)))
  unfolding walk.between
  between_test negated x low high = record {
    gives = λ place w c w' proper settled walked. reads_test (
        reading_then read_typed place (named.value_of x) (expr x place) (λ a. expr low place >>= (λ b. expr high place >>= (λ c. walk.between negated a b c))) (expr_reading x place)
        (goes_on_then read_typed place (named.value_of x) read_typed (named.value_of low) (expr low place) (λ a b. expr high place >>= (λ c. walk.between negated a b c)) (expr_reading low place)
        (goes_on_then two place (two_of x low) read_typed (named.value_of high) (expr high place) (λ both c. walk.between negated both.0 both.1 c) (expr_reading high place)
        (ends_checked three place (λ group. (two_of x low group, named.value_of high group)) (λ v. negated_if negated (between v.0.0 v.0.1 v.1)) (λ all. walk.negated_if negated (within_bounds all))
        (λ all m. negated_read negated (within_bounds all) m (between (read_typed all.0.0 m) (read_typed all.0.1 m) (read_typed all.1 m)) (truth_within all m))
        (λ all. not (list_all (λ x. same_kind all.0.0.kind x.kind) (all.0.1 ∷ all.1 ∷ []))) TypeMismatch)))
        w c w' proper settled walked);
  }

  -- ---- a list

  list_reading : (list : List SqlExpr) (place : Place) → Related (StepReads read_typed place (λ y. expr y place)) list (map named.value_of list)
  list_reading [] place = none
  list_reading (y ∷ list) place = more (expr_reading y place) (list_reading list place)

  abbrev one_and_all : Typed × List Typed → Env → Value × List Value
  one_and_all both m = (read_typed both.0 m, read_all read_typed both.1 m)

  abbrev listed_cond : Typed × List Typed → Cond
  listed_cond both = cond.Any (map (λ b. cond.Compare Eq both.0.scalar b.scalar) both.1)

  comparisons_true : (a : Typed) (list : List Typed) (m : Env) → map (λ c. truth_of c m) (map (λ b. cond.Compare Eq a.scalar b.scalar) list) ≡ map (comparison Eq (read_typed a m)) (read_all read_typed list m)
  comparisons_true a [] m = refl
  comparisons_true a (b ∷ list) m = ap₂ (λ first rest. first ∷ rest) (truth_compare Eq a.scalar b.scalar m) (comparisons_true a list m)

  truth_listed : (both : Typed × List Typed) (m : Env) → truth_of (listed_cond both) m ≡ is_one_of (read_typed both.0 m) (read_all read_typed both.1 m)
  truth_listed both m = truth_any (map (λ b. cond.Compare Eq both.0.scalar b.scalar) both.1) m ∙ ap any_of (comparisons_true both.0 both.1 m)

  abbrev list_values : SqlExpr → List SqlExpr → Group → Value × List Value
  list_values x list group = (named.value_of x group, all_meanings (map named.value_of list) group)

  list_test : (negated : Bool) (x : SqlExpr) (list : List SqlExpr) → TestMeans (λ place. expr x place >>= (λ a. each (λ y. expr y place) list >>= (λ bs. walk.in_list negated a bs)))
      (λ group. negated_if negated (is_one_of (named.value_of x group) (map (λ y. named.value_of y group) list)))
  unfolding walk.in_list
  list_test negated x list = subst (λ (values : Group → List Value). TestMeans (λ place. expr x place >>= (λ a. each (λ y. expr y place) list >>= (λ bs. walk.in_list negated a bs))) (λ group. negated_if negated (is_one_of (named.value_of x group) (values group))))
      (λ i group. map_map (λ (value : Group → Value). value group) named.value_of list i)
      (record {
        gives = λ place w c w' proper settled walked. reads_test (
            reading_then read_typed place (named.value_of x) (expr x place) (λ a. each (λ y. expr y place) list >>= (λ bs. walk.in_list negated a bs)) (expr_reading x place)
            (goes_on_then read_typed place (named.value_of x) (read_all read_typed) (all_meanings (map named.value_of list)) (each (λ y. expr y place) list) (λ a bs. walk.in_list negated a bs)
            (each_reads read_typed place (λ y. expr y place) (list_reading list place))
            (ends_checked one_and_all place (list_values x list) (λ v. negated_if negated (is_one_of v.0 v.1)) (λ both. walk.negated_if negated (listed_cond both))
            (λ both m. negated_read negated (listed_cond both) m (is_one_of (read_typed both.0 m) (read_all read_typed both.1 m)) (truth_listed both m))
            (λ both. not (list_all (λ x. same_kind both.0.kind x.kind) both.1)) TypeMismatch))
            w c w' proper settled walked);
      })

-- ---- tests of parts

test_reading : {test : Place → Step Cond} {truth : Group → Truth} → TestMeans test truth → (place : Place) → Reading truth_of place (test place) truth
test_reading means place w a w' proper settled walked = test_reads (means.gives place w a w' proper settled walked)

is_test : (negated : Bool) (wanted : Truth) (test : Place → Step Cond) (truth : Group → Truth) → TestMeans test truth
    → TestMeans (λ place. (λ c. walk.negated_if negated (cond.Test c wanted)) <$> test place) (λ group. negated_if negated (decided (is_truth (truth group) wanted)))
is_test negated wanted test truth means = record {
  gives = λ place w c w' proper settled walked. reads_test (
      reading_then truth_of place truth (test place) (λ c. pure (walk.negated_if negated (cond.Test c wanted))) (test_reading means place)
      (ends_with truth_of place truth (λ t. negated_if negated (decided (is_truth t wanted))) (λ c. walk.negated_if negated (cond.Test c wanted))
      (λ c m. negated_read negated (cond.Test c wanted) m (decided (is_truth (truth_of c m) wanted)) (truth_test c wanted m)))
      w c w' proper settled walked);
}

not_test : (test : Place → Step Cond) (truth : Group → Truth) → TestMeans test truth → TestMeans (λ place. cond.Not <$> test place) (λ group. negation (truth group))
not_test test truth means = record {
  gives = λ place w c w' proper settled walked. reads_test (
      reading_then truth_of place truth (test place) (λ c. pure (cond.Not c)) (test_reading means place)
      (ends_with truth_of place truth negation cond.Not (λ c m. sym (truth_not c m)))
      w c w' proper settled walked);
}

refused_test : (truth : Group → Truth) → TestMeans (λ place. refuse SubqueryPlace) truth
refused_test truth = record { gives = λ place w c w' proper settled walked. refused-done walked }

-- ---- conditions

and_true : (b : Bool) → b ≡ (b && true)
and_true true = refl
and_true false = refl

list_all_append : {X : Type 0} (p : X → Bool) (first second : List X) → list_all p (first ++ second) ≡ (list_all p first && list_all p second)
list_all_append p [] second = refl
list_all_append p (x ∷ first) second = ap (λ b. p x && b) (list_all_append p first second) ∙ associated (p x) (list_all p first) (list_all p second)
  where
    associated : (a b c : Bool) → (a && (b && c)) ≡ ((a && b) && c)
    associated true b c = refl
    associated false b c = refl

module _ (database : Database) where
  -- a condition that is one conjunct
  conjunct_means : (nested : Bool) (test : Place → Step Cond) (subquery negated : Option Subquery) (truth : Group → Truth)
      → TestMeans test truth → SubqueryIf database subquery truth → SubqueryIf database negated (λ group. negation (truth group)) → CondMeans database (conjunct nested test subquery negated) truth
  conjunct_means nested test subquery negated truth tested of_subquery of_negation = record {
    test = tested;
    truths = truth ∷ [];
    conjuncts = more (record { test = tested; subquery = of_subquery }) none;
    splits = λ group. and_true (is_truth (truth group) True);
    negation = of_negation;
  }

  plain_means : (test : Place → Step Cond) (truth : Group → Truth) → TestMeans test truth → CondMeans database (plain test) truth
  plain_means test truth tested = conjunct_means false test None None truth tested tt tt

  tests_reading : {parts : List Condition} {truths : List (Group → Truth)} → Related (CondMeans database) parts truths → (place : Place) → Related (StepReads truth_of place (λ part. part.test place)) parts truths
  tests_reading none place = none
  tests_reading (more first rest) place = more (test_reading first.test place) (tests_reading rest place)

  all_test : (parts : List Condition) (truths : List (Group → Truth)) → Related (CondMeans database) parts truths → TestMeans (λ place. cond.All <$> tests parts place) (λ group. all_of (map (λ part. part group) truths))
  all_test parts truths means = record {
    gives = λ place w c w' proper settled walked. reads_test (
        reading_then (read_all truth_of) place (all_meanings truths) (tests parts place) (λ cs. pure (cond.All cs)) (each_reads truth_of place (λ part. part.test place) (tests_reading means place))
        (ends_with (read_all truth_of) place (all_meanings truths) all_of cond.All (λ cs m. sym (truth_all cs m)))
        w c w' proper settled walked);
  }

  any_test : (parts : List Condition) (truths : List (Group → Truth)) → Related (CondMeans database) parts truths → TestMeans (λ place. cond.Any <$> tests parts place) (λ group. any_of (map (λ part. part group) truths))
  any_test parts truths means = record {
    gives = λ place w c w' proper settled walked. reads_test (
        reading_then (read_all truth_of) place (all_meanings truths) (tests parts place) (λ cs. pure (cond.Any cs)) (each_reads truth_of place (λ part. part.test place) (tests_reading means place))
        (ends_with (read_all truth_of) place (all_meanings truths) any_of cond.Any (λ cs m. sym (truth_any cs m)))
        w c w' proper settled walked);
  }

  -- the conjuncts of several conditions
  all_truths : {parts : List Condition} {truths : List (Group → Truth)} → Related (CondMeans database) parts truths → List (Group → Truth)
  all_truths none = []
  all_truths (more first rest) = first.truths ++ all_truths rest

  all_conjuncts : {parts : List Condition} {truths : List (Group → Truth)} (means : Related (CondMeans database) parts truths) → Related (ConjunctMeans database) (flat_map (λ part. part.conjuncts) parts) (all_truths means)
  unfolding all_truths
  all_conjuncts none = none
  all_conjuncts (more first rest) = related-append first.conjuncts (all_conjuncts rest)

  all_split : {parts : List Condition} {truths : List (Group → Truth)} (means : Related (CondMeans database) parts truths) (group : Group)
      → list_all (λ truth. is_truth (truth group) True) truths ≡ list_all (λ truth. is_truth (truth group) True) (all_truths means)
  unfolding all_truths
  all_split none group = refl
  all_split (more first rest) group =
      ap₂ (λ here others. here && others) (first.splits group) (all_split rest group) ∙ sym (list_all_append (λ truth. is_truth (truth group) True) first.truths (all_truths rest))

  abbrev walked : SqlCond-F ElementWalk Condition JoinWalk QueryWalk ElementWalk → Condition
  walked = cond_step

  abbrev meant : SqlCond-F ElementMeaning (Group → Truth) JoinMeaning QueryMeaning ElementMeaning → Group → Truth
  meant = truth_step

  -- ---- conditions of conditions

  pub test_means : (negated : Bool) (part : Condition) (truth : Group → Truth) (wanted : Truth) → CondMeans database part truth → CondMeans database (walked (SqlCond-F.Test negated part wanted)) (meant (SqlCond-F.Test negated truth wanted))
  test_means negated part truth wanted means = conjunct_means part.nested (λ place. (λ c. walk.negated_if negated (cond.Test c wanted)) <$> part.test place) None None
      (λ group. negated_if negated (decided (is_truth (truth group) wanted))) (is_test negated wanted part.test truth means.test) tt tt

  pub not_means : (part : Condition) (truth : Group → Truth) → CondMeans database part truth → CondMeans database (walked (SqlCond-F.Not part)) (meant (SqlCond-F.Not truth))
  not_means part truth means = conjunct_means part.nested (λ place. cond.Not <$> part.test place) part.negation None (λ group. negation (truth group)) (not_test part.test truth means.test) means.negation tt

  pub all_means : (parts : List Condition) (truths : List (Group → Truth)) → Related (CondMeans database) parts truths → CondMeans database (walked (SqlCond-F.All parts)) (meant (SqlCond-F.All truths))
  all_means parts truths means = record {
    test = all_test parts truths means;
    truths = all_truths means;
    conjuncts = all_conjuncts means;
    splits = λ group. all_true_each (map (λ part. part group) truths) ∙ (list_all_map (λ t. is_truth t True) (λ (part : Group → Truth). part group) truths ∙ all_split means group);
    negation = tt;
  }

  pub any_means : (parts : List Condition) (truths : List (Group → Truth)) → Related (CondMeans database) parts truths → CondMeans database (walked (SqlCond-F.Any parts)) (meant (SqlCond-F.Any truths))
  any_means parts truths means = conjunct_means (any_nested parts) (λ place. cond.Any <$> tests parts place) None None (λ group. any_of (map (λ part. part group) truths)) (any_test parts truths means) tt tt

  pub paren_cond_means : (part : Condition) (truth : Group → Truth) → CondMeans database part truth → CondMeans database (walked (SqlCond-F.«SqlCond::Paren» part)) (meant (SqlCond-F.«SqlCond::Paren» truth))
  paren_cond_means part truth means = means

  -- ---- EXISTS

  exists_means_by : (negated : Bool) (query : QueryWalk) (of_query : QueryMeaning) → QueryMeans database query of_query
      → SubqueryMeans database (record { negated = negated; left = None; query = query }) (λ group. negated_if negated (decided (has_rows (of_query.rows (environment group)))))
  exists_means_by negated query of_query means = record { query = of_query; walk = means; left = λ group. refl }

  pub exists_means : (query : QueryWalk) (of_query : QueryMeaning) → QueryMeans database query of_query → CondMeans database (walked (SqlCond-F.Exists query)) (meant (SqlCond-F.Exists of_query))
  exists_means query of_query means = conjunct_means true (λ place. refuse SubqueryPlace) (Some (record { negated = false; left = None; query = query }))
      (Some (record { negated = true; left = None; query = query })) (λ group. decided (has_rows (of_query.rows (environment group)))) (refused_test (λ group. decided (has_rows (of_query.rows (environment group)))))
      (exists_means_by false query of_query means) (exists_means_by true query of_query means)

  -- ---- predicates over expressions

  module _ (expr-means : (x : SqlExpr) → ExprMeans (expr x) (named.value_of x)) where
    in_means_by : (negated : Bool) (x : SqlExpr) (query : QueryWalk) (of_query : QueryMeaning) → QueryMeans database query of_query
        → SubqueryMeans database (record { negated = negated; left = Some (expr x); query = query }) (λ group. negated_if negated (is_one_of (named.value_of x group) (map first_column (of_query.rows (environment group)))))
    in_means_by negated x query of_query means = record { query = of_query; walk = means; left = (named.value_of x, expr-means x, λ group. refl) }

    pub in_query_means : (negated : Bool) (x : SqlExpr) (query : QueryWalk) (of_query : QueryMeaning) → QueryMeans database query of_query
        → CondMeans database (walked (SqlCond-F.InQuery negated x query)) (meant (SqlCond-F.InQuery negated x of_query))
    in_query_means true x query of_query means = conjunct_means true (λ place. refuse SubqueryPlace) (Some (record { negated = true; left = Some (expr x); query = query })) None
        (meant (SqlCond-F.InQuery true x of_query)) (refused_test (meant (SqlCond-F.InQuery true x of_query))) (in_means_by true x query of_query means) tt
    in_query_means false x query of_query means = conjunct_means true (λ place. refuse SubqueryPlace) (Some (record { negated = false; left = Some (expr x); query = query })) (Some (record { negated = true; left = Some (expr x); query = query }))
        (meant (SqlCond-F.InQuery false x of_query)) (refused_test (meant (SqlCond-F.InQuery false x of_query))) (in_means_by false x query of_query means) (in_means_by true x query of_query means)

    pub compare_means : (op : Cmp) (x y : SqlExpr) → CondMeans database (walked (SqlCond-F.Compare op x y)) (meant (SqlCond-F.Compare op x y))
    unfolding walk.compared
    compare_means op x y = plain_means (λ place. expr x place >>= (λ a. expr y place >>= (λ b. walk.comparison op a b))) (meant (SqlCond-F.Compare op x y)) (compare_test expr-means op x y)

    pub like_means : (negated : Bool) (x y : SqlExpr) → CondMeans database (walked (SqlCond-F.Like negated x y)) (meant (SqlCond-F.Like negated x y))
    unfolding walk.likened
    like_means negated x y = plain_means (λ place. expr x place >>= (λ a. expr y place >>= (λ b. walk.like negated a b))) (meant (SqlCond-F.Like negated x y)) (like_test expr-means negated x y)

    pub null_means : (negated : Bool) (x : SqlExpr) → CondMeans database (walked (SqlCond-F.IsNull negated x)) (meant (SqlCond-F.IsNull negated x))
    unfolding walk.null_tested
    null_means negated x = plain_means (λ place. walk.is_null negated <$> expr x place) (meant (SqlCond-F.IsNull negated x)) (null_test expr-means negated x)

    pub between_means : (negated : Bool) (x low high : SqlExpr) → CondMeans database (walked (SqlCond-F.Between negated x low high)) (meant (SqlCond-F.Between negated x low high))
    unfolding walk.ranged
    between_means negated x low high = plain_means (λ place. expr x place >>= (λ a. expr low place >>= (λ b. expr high place >>= (λ c. walk.between negated a b c)))) (meant (SqlCond-F.Between negated x low high)) (between_test expr-means negated x low high)

    pub in_list_means : (negated : Bool) (x : SqlExpr) (list : List SqlExpr) → CondMeans database (walked (SqlCond-F.InList negated x list)) (meant (SqlCond-F.InList negated x list))
    unfolding walk.listed
    in_list_means negated x list = plain_means (λ place. expr x place >>= (λ a. each (λ y. expr y place) list >>= (λ bs. walk.in_list negated a bs))) (meant (SqlCond-F.InList negated x list)) (list_test expr-means negated x list)
