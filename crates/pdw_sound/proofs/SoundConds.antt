-- Conditions, one lemma for each variant: from what is sound in the parts to a sound condition.
use Rattle.std.proofs.Common.{◌≡◌, ◌&&◌, Bool, true, false, not, List, [], ◌∷◌, map, Option, Some, None, is_some, refl, sym, ap, ap₂, ◌∙◌}
use Rattle.std.specs.List.{AllByRecursion, flat_map, list_all}
use Rattle.std.proofs.lemmas.Bool.{and_parts, and_from}
use Rattle.std.proofs.lemmas.List.Folds.{list_all-map}
use Rattle.pdw_algebra.specs.Shape.{all_typed}
use Rattle.pdw_algebra.specs.Types.{is_text, is_typed, same_kinds, scalar_kind, typed_step}
use Rattle.pdw_syntax.specs.declared.expr.SqlExpr.{SqlExpr}
use Rattle.pdw_syntax.specs.declared.query.Primary.TheOpen.{SqlCond-F}
use Rattle.pdw_base.specs.Schema.{Columns}
use Rattle.pdw_base.specs.declared.truth.Truth.{Truth}
use Rattle.pdw_base.specs.declared.value.Kind.{Kind}
use Rattle.pdw_base.specs.declared.value.Kind.TheVariants as kind
use Rattle.pdw_sound.proofs.SoundExprs.{expr_knows, expr_sound}
use Rattle.pdw_sound.proofs.SoundRelations.{CondSound, CondSoundIf, ConjunctSound, QuerySound, SubquerySound, SubquerySoundIf, TestKinds, TestSound, TestedKinds}
use Rattle.pdw_sound.proofs.SoundSteps.{Both, Every, HasKind, IsTyped, Knowing, StepKnows, each_knows, ends_checked, ends_with, goes_on_then, knowing_then, knows_test}
use Rattle.pdw_syntax.specs.Written.{expr_written}
use Rattle.pdw_catalog.specs.Database.{Database}
use Rattle.pdw_expr.specs.declared.cond.Cmp.{Cmp}
use Rattle.pdw_expr.specs.declared.cond.Cmp.TheVariants.{Eq, Ge, Le}
use Rattle.pdw_expr.specs.declared.cond.Cond.{Cond}
use Rattle.pdw_expr.specs.declared.cond.Cond.TheFolds.{fold-roll-Cond}
use Rattle.pdw_expr.specs.declared.cond.Cond.TheOpen.{Cond-F}
use Rattle.pdw_expr.specs.declared.cond.Cond.TheVariants as cond
use Rattle.pdw_expr.specs.declared.scalar.Scalar.{Scalar}
use Rattle.pdw_names.proofs.CondMeaningLaws.{all_means, any_means, between_means, compare_means, exists_means, in_list_means, in_query_means, like_means, not_means, null_means, test_means}
use Rattle.pdw_names.proofs.ExprMeaningLaws.{expr-means}
use Rattle.pdw_form.proofs.Related.{Related, none, more}
use Rattle.pdw_names.proofs.Relations.{CondMeans, Proper, SettledAt}
use Rattle.pdw_names.proofs.WalkLaws.{all-append, not-false, refused-done}
use Rattle.pdw_semantics.specs.Conds.{QueryMeaning, truth_step}
use Rattle.pdw_semantics.specs.Environment.{Group}
use Rattle.pdw_semantics.specs.Froms.{ElementMeaning, JoinMeaning}
use Rattle.pdw_walk.specs.Conds.{Condition, Conjunct, QueryWalk, Subquery, any_nested, cond_step, conjunct, plain, tested, tests}
use Rattle.pdw_walk.specs.Conds as walk
use Rattle.pdw_walk.specs.Exprs.{expr, same_kind}
use Rattle.pdw_walk.specs.Froms.{ElementWalk, JoinWalk}
use Rattle.pdw_walk.specs.Lookup.{Place}
use Rattle.pdw_walk.specs.Walk.{Step, Walk, ◌>>=◌, ◌<$>◌, done, each, pure, refuse}
use Rattle.pdw_walk.specs.declared.entry.Typed.{Typed}
use Rattle.pdw_walk.specs.declared.fault.JudgeFault.TheVariants.{SubqueryPlace, TypeMismatch}

-- ---- which numbered conditions are well-typed

typed_compare : (columns : Columns) (op : Cmp) (a b : Scalar) → is_typed columns (cond.Compare op a b) ≡ same_kinds (scalar_kind columns a) (scalar_kind columns b)
typed_compare columns op a b = ap (is_typed columns) (sym (cond.rolls-Compare op a b)) ∙ fold-roll-Cond Bool (typed_step columns) (Cond-F.Compare op a b)

typed_like : (columns : Columns) (a b : Scalar) → is_typed columns (cond.Like a b) ≡ (is_text (scalar_kind columns a) && is_text (scalar_kind columns b))
typed_like columns a b = ap (is_typed columns) (sym (cond.rolls-Like a b)) ∙ fold-roll-Cond Bool (typed_step columns) (Cond-F.Like a b)

typed_null : (columns : Columns) (a : Scalar) → is_typed columns (cond.IsNull a) ≡ is_some (scalar_kind columns a)
typed_null columns a = ap (is_typed columns) (sym (cond.rolls-IsNull a)) ∙ fold-roll-Cond Bool (typed_step columns) (Cond-F.IsNull a)

typed_test : (columns : Columns) (part : Cond) (wanted : Truth) → is_typed columns (cond.Test part wanted) ≡ is_typed columns part
typed_test columns part wanted = ap (is_typed columns) (sym (cond.rolls-Test part wanted)) ∙ fold-roll-Cond Bool (typed_step columns) (Cond-F.Test part wanted)

typed_not : (columns : Columns) (part : Cond) → is_typed columns (cond.Not part) ≡ is_typed columns part
typed_not columns part = ap (is_typed columns) (sym (cond.rolls-Not part)) ∙ fold-roll-Cond Bool (typed_step columns) (Cond-F.Not part)

typed_all : (columns : Columns) (parts : List Cond) → is_typed columns (cond.All parts) ≡ all_typed columns parts
typed_all columns parts =
    ap (is_typed columns) (sym (cond.rolls-All parts)) ∙ (fold-roll-Cond Bool (typed_step columns) (Cond-F.All parts) ∙ list_all-map (λ (part : Bool). part) (is_typed columns) parts)

typed_any : (columns : Columns) (parts : List Cond) → is_typed columns (cond.Any parts) ≡ all_typed columns parts
typed_any columns parts =
    ap (is_typed columns) (sym (cond.rolls-Any parts)) ∙ (fold-roll-Cond Bool (typed_step columns) (Cond-F.Any parts) ∙ list_all-map (λ (part : Bool). part) (is_typed columns) parts)

typed_negated : (columns : Columns) (negated : Bool) (c : Cond) → IsTyped c columns → IsTyped (walk.negated_if negated c) columns
typed_negated columns true c is = typed_not columns c ∙ is
typed_negated columns false c is = is

pub every_typed : (conds : List Cond) (columns : Columns) → Every IsTyped conds columns → all_typed columns conds ≡ true
every_typed [] columns all = refl
every_typed (c ∷ conds) columns all = and_from _ _ all.0 (every_typed conds columns all.1)

-- ---- operands

same_some : (a b : Kind) → same_kinds (Some a) (Some b) ≡ same_kind a b
same_some kind.Int kind.Int = refl
same_some kind.Int kind.Text = refl
same_some kind.Int kind.Wide = refl
same_some kind.Text kind.Int = refl
same_some kind.Text kind.Text = refl
same_some kind.Text kind.Wide = refl
same_some kind.Wide kind.Int = refl
same_some kind.Wide kind.Text = refl
same_some kind.Wide kind.Wide = refl

is_text_kind : (k : Kind) → is_text (Some k) ≡ same_kind kind.Text k
is_text_kind kind.Int = refl
is_text_kind kind.Text = refl
is_text_kind kind.Wide = refl

compare_typed : (op : Cmp) (a b : Typed) (columns : Columns) → same_kind a.kind b.kind ≡ true → HasKind a columns → HasKind b columns → IsTyped (cond.Compare op a.scalar b.scalar) columns
compare_typed op a b columns same left right = typed_compare columns op a.scalar b.scalar ∙ (ap₂ same_kinds left right ∙ (same_some a.kind b.kind ∙ same))

text_typed : (a : Typed) (columns : Columns) → same_kind kind.Text a.kind ≡ true → HasKind a columns → is_text (scalar_kind columns a.scalar) ≡ true
text_typed a columns same has = ap is_text has ∙ (is_text_kind a.kind ∙ same)

like_typed : (a b : Typed) (columns : Columns) → list_all (λ (x : Typed). same_kind kind.Text x.kind) (a ∷ b ∷ []) ≡ true → HasKind a columns → HasKind b columns → IsTyped (cond.Like a.scalar b.scalar) columns
like_typed a b columns same left right =
    let first = and_parts _ _ same in
    let second = and_parts _ _ first.1 in
    typed_like columns a.scalar b.scalar ∙ and_from _ _ (text_typed a columns first.0 left) (text_typed b columns second.0 right)

null_typed : (a : Typed) (columns : Columns) → HasKind a columns → IsTyped (cond.IsNull a.scalar) columns
null_typed a columns has = typed_null columns a.scalar ∙ ap is_some has

abbrev bounds : Scalar → Scalar → Scalar → List Cond
bounds a low high = cond.Compare Ge a low ∷ cond.Compare Le a high ∷ []

between_typed : (a low high : Typed) (columns : Columns) → list_all (λ (x : Typed). same_kind a.kind x.kind) (low ∷ high ∷ []) ≡ true → HasKind a columns → HasKind low columns → HasKind high columns
    → IsTyped (cond.All (bounds a.scalar low.scalar high.scalar)) columns
between_typed a low high columns same has from to =
    let first = and_parts _ _ same in
    let second = and_parts _ _ first.1 in
    typed_all columns (bounds a.scalar low.scalar high.scalar)
    ∙ and_from _ _ (compare_typed Ge a low columns first.0 has from) (and_from _ _ (compare_typed Le a high columns second.0 has to) refl)

abbrev equals : Typed → List Typed → List Cond
equals a list = map (λ b. cond.Compare Eq a.scalar b.scalar) list

equals_typed : (a : Typed) (list : List Typed) (columns : Columns) → list_all (λ (x : Typed). same_kind a.kind x.kind) list ≡ true → HasKind a columns → Every HasKind list columns → all_typed columns (equals a list) ≡ true
equals_typed a [] columns same has all = refl
equals_typed a (b ∷ list) columns same has all =
    let parts = and_parts _ _ same in
    and_from _ _ (compare_typed Eq a b columns parts.0 has all.0) (equals_typed a list columns parts.1 has all.1)

-- ---- predicates

compare_knows : (op : Cmp) (x y : SqlExpr) → expr_written x ≡ true → expr_written y ≡ true → (place : Place) → Knowing IsTyped place (walk.compared op x y place)
unfolding walk.compared walk.comparison
compare_knows op x y left right place =
    knowing_then HasKind place (expr x place) (λ a. expr y place >>= walk.comparison op a) (expr_knows x left place)
    (goes_on_then HasKind place HasKind (expr y place) (λ a b. walk.comparison op a b) (expr_knows y right place)
    (ends_checked (Both HasKind HasKind) place (λ both. cond.Compare op both.0.scalar both.1.scalar) (λ both. not (list_all (λ x. same_kind both.0.kind x.kind) (both.1 ∷ []))) TypeMismatch
    (λ both tested columns has. compare_typed op both.0 both.1 columns (and_parts _ _ (not-false _ tested)).0 has.0 has.1)))

like_knows : (negated : Bool) (x y : SqlExpr) → expr_written x ≡ true → expr_written y ≡ true → (place : Place) → Knowing IsTyped place (walk.likened negated x y place)
unfolding walk.likened walk.like
like_knows negated x y left right place =
    knowing_then HasKind place (expr x place) (λ a. expr y place >>= walk.like negated a) (expr_knows x left place)
    (goes_on_then HasKind place HasKind (expr y place) (λ a b. walk.like negated a b) (expr_knows y right place)
    (ends_checked (Both HasKind HasKind) place (λ both. walk.negated_if negated (cond.Like both.0.scalar both.1.scalar)) (λ both. not (list_all (λ x. same_kind kind.Text x.kind) (both.0 ∷ both.1 ∷ []))) TypeMismatch
    (λ both tested columns has. typed_negated columns negated (cond.Like both.0.scalar both.1.scalar) (like_typed both.0 both.1 columns (not-false _ tested) has.0 has.1))))

null_knows : (negated : Bool) (x : SqlExpr) → expr_written x ≡ true → (place : Place) → Knowing IsTyped place (walk.null_tested negated x place)
unfolding walk.null_tested
null_knows negated x written place =
    knowing_then HasKind place (expr x place) (λ a. pure (walk.is_null negated a)) (expr_knows x written place)
    (ends_with HasKind place (walk.is_null negated) (λ a columns has. typed_negated columns negated (cond.IsNull a.scalar) (null_typed a columns has)))

abbrev within_bounds : (Typed × Typed) × Typed → Cond
within_bounds all = cond.All (bounds all.0.0.scalar all.0.1.scalar all.1.scalar)

between_knows : (negated : Bool) (x low high : SqlExpr) → expr_written x ≡ true → expr_written low ≡ true → expr_written high ≡ true → (place : Place) → Knowing IsTyped place (walk.ranged negated x low high place)
unfolding walk.ranged walk.between
between_knows negated x low high written from to place =
    knowing_then HasKind place (expr x place) (λ a. expr low place >>= (λ b. expr high place >>= (λ c. walk.between negated a b c))) (expr_knows x written place)
    (goes_on_then HasKind place HasKind (expr low place) (λ a b. expr high place >>= (λ c. walk.between negated a b c)) (expr_knows low from place)
    (goes_on_then (Both HasKind HasKind) place HasKind (expr high place) (λ both c. walk.between negated both.0 both.1 c) (expr_knows high to place)
    (ends_checked (Both (Both HasKind HasKind) HasKind) place (λ all. walk.negated_if negated (within_bounds all))
    (λ all. not (list_all (λ x. same_kind all.0.0.kind x.kind) (all.0.1 ∷ all.1 ∷ []))) TypeMismatch
    (λ all tested columns has. typed_negated columns negated (within_bounds all) (between_typed all.0.0 all.0.1 all.1 columns (not-false _ tested) has.0.0 has.0.1 has.1)))))

list_written : (place : Place) (list : List SqlExpr) → list_all expr_written list ≡ true → AllByRecursion (StepKnows HasKind place (λ y. expr y place)) list
list_written place [] written = tt
list_written place (y ∷ list) written = let parts = and_parts _ _ written in (expr_knows y parts.0 place, list_written place list parts.1)

list_knows : (negated : Bool) (x : SqlExpr) (list : List SqlExpr) → expr_written x ≡ true → list_all expr_written list ≡ true → (place : Place) → Knowing IsTyped place (walk.listed negated x list place)
unfolding walk.listed walk.in_list
list_knows negated x list written all_written place =
    knowing_then HasKind place (expr x place) (λ a. each (λ y. expr y place) list >>= (λ bs. walk.in_list negated a bs)) (expr_knows x written place)
    (goes_on_then HasKind place (Every HasKind) (each (λ y. expr y place) list) (λ a bs. walk.in_list negated a bs)
    (each_knows HasKind place (λ y. expr y place) list (list_written place list all_written))
    (ends_checked (Both HasKind (Every HasKind)) place (λ both. walk.negated_if negated (cond.Any (equals both.0 both.1))) (λ both. not (list_all (λ x. same_kind both.0.kind x.kind) both.1)) TypeMismatch
    (λ both tested columns has. typed_negated columns negated (cond.Any (equals both.0 both.1))
    (typed_any columns (equals both.0 both.1) ∙ equals_typed both.0 both.1 columns (not-false _ tested) has.0 has.1))))

-- ---- tests of parts

-- the kinds of a test, with the walk's other facts
abbrev TestKnows : (Place → Step Cond) → Type 0
TestKnows test = (place : Place) → Knowing IsTyped place (test place)

test_knows : {test : Place → Step Cond} → TestSound test → TestKnows test
test_knows sound place w c w' proper settled walked =
    let g = (sound.means).gives place w c w' proper settled walked in
    let k = sound.kinds place w c w' proper settled walked in
    record { grows = g.grows; met = g.met; typed = k.typed; aggs = k.aggs; made = k.made; unmet = k.unmet; references = k.references; taken = k.taken; uses = k.uses }

knows_kinds : {test : Place → Step Cond} → TestKnows test → (place : Place) (w : Walk) (c : Cond) (w' : Walk) → Proper w.numbers → SettledAt w.numbers place → test place w ≡ done c w' → TestKinds place w c w'
knows_kinds knows place w c w' proper settled walked = knows_test (knows place w c w' proper settled walked)

is_test_knows : (negated : Bool) (wanted : Truth) (test : Place → Step Cond) → TestKnows test → TestKnows (walk.truth_tested negated test wanted)
is_test_knows negated wanted test knows place =
    knowing_then IsTyped place (test place) (λ c. pure (walk.negated_if negated (cond.Test c wanted))) (knows place)
    (ends_with IsTyped place (λ c. walk.negated_if negated (cond.Test c wanted)) (λ c columns is. typed_negated columns negated (cond.Test c wanted) (typed_test columns c wanted ∙ is)))

not_knows : (test : Place → Step Cond) → TestKnows test → TestKnows (λ place. cond.Not <$> test place)
not_knows test knows place =
    knowing_then IsTyped place (test place) (λ c. pure (cond.Not c)) (knows place)
    (ends_with IsTyped place cond.Not (λ c columns is. typed_not columns c ∙ is))

refused_knows : TestKnows (λ place. refuse SubqueryPlace)
refused_knows place w c w' proper settled walked = refused-done walked

module _ (database : Database) where
  tests_know : (parts : List Condition) → AllByRecursion (CondSound database) parts → (place : Place) → AllByRecursion (StepKnows IsTyped place (λ part. part.test place)) parts
  tests_know [] all place = tt
  tests_know (part ∷ parts) all place = (test_knows (all.0).test place, tests_know parts all.1 place)

  all_knows : (parts : List Condition) → AllByRecursion (CondSound database) parts → TestKnows (λ place. cond.All <$> tests parts place)
  all_knows parts all place =
      knowing_then (Every IsTyped) place (tests parts place) (λ cs. pure (cond.All cs)) (each_knows IsTyped place (λ part. part.test place) parts (tests_know parts all place))
      (ends_with (Every IsTyped) place cond.All (λ cs columns is. typed_all columns cs ∙ every_typed cs columns is))

  any_knows : (parts : List Condition) → AllByRecursion (CondSound database) parts → TestKnows (λ place. cond.Any <$> tests parts place)
  any_knows parts all place =
      knowing_then (Every IsTyped) place (tests parts place) (λ cs. pure (cond.Any cs)) (each_knows IsTyped place (λ part. part.test place) parts (tests_know parts all place))
      (ends_with (Every IsTyped) place cond.Any (λ cs columns is. typed_any columns cs ∙ every_typed cs columns is))

  -- ---- conditions

  -- a condition that is one conjunct
  conjunct_sound : (nested : Bool) (test : Place → Step Cond) (subquery negation : Option Subquery) (truth : Group → Truth)
      → CondMeans database (conjunct nested test subquery negation) truth → TestKnows test → SubquerySoundIf database subquery → SubquerySoundIf database negation
      → CondSound database (conjunct nested test subquery negation)
  conjunct_sound nested test subquery negation truth means knows of_subquery of_negation =
      let tested_by : TestSound test = record { meaning = truth; means = means.test; kinds = knows_kinds knows } in
      record {
        meaning = truth;
        means = means;
        test = tested_by;
        conjuncts = (record { test = tested_by; subquery = of_subquery }, tt);
        negation = of_negation;
      }

  abbrev walked : SqlCond-F ElementWalk Condition JoinWalk QueryWalk ElementWalk → Condition
  walked = cond_step

  abbrev meant : SqlCond-F ElementMeaning (Group → Truth) JoinMeaning QueryMeaning ElementMeaning → Group → Truth
  meant = truth_step

  -- ---- predicates over expressions

  pub compare_sound : (op : Cmp) (x y : SqlExpr) → expr_written x ≡ true → expr_written y ≡ true → CondSound database (walked (SqlCond-F.Compare op x y))
  compare_sound op x y left right =
      conjunct_sound false (walk.compared op x y) None None (meant (SqlCond-F.Compare op x y)) (compare_means database expr-means op x y) (compare_knows op x y left right) tt tt

  pub like_sound : (negated : Bool) (x y : SqlExpr) → expr_written x ≡ true → expr_written y ≡ true → CondSound database (walked (SqlCond-F.Like negated x y))
  like_sound negated x y left right =
      conjunct_sound false (walk.likened negated x y) None None (meant (SqlCond-F.Like negated x y)) (like_means database expr-means negated x y) (like_knows negated x y left right) tt tt

  pub null_sound : (negated : Bool) (x : SqlExpr) → expr_written x ≡ true → CondSound database (walked (SqlCond-F.IsNull negated x))
  null_sound negated x written =
      conjunct_sound false (walk.null_tested negated x) None None (meant (SqlCond-F.IsNull negated x)) (null_means database expr-means negated x) (null_knows negated x written) tt tt

  pub between_sound : (negated : Bool) (x low high : SqlExpr) → expr_written x ≡ true → expr_written low ≡ true → expr_written high ≡ true → CondSound database (walked (SqlCond-F.Between negated x low high))
  between_sound negated x low high written from to =
      conjunct_sound false (walk.ranged negated x low high) None None (meant (SqlCond-F.Between negated x low high)) (between_means database expr-means negated x low high) (between_knows negated x low high written from to) tt tt

  pub in_list_sound : (negated : Bool) (x : SqlExpr) (list : List SqlExpr) → expr_written x ≡ true → list_all expr_written list ≡ true → CondSound database (walked (SqlCond-F.InList negated x list))
  in_list_sound negated x list written all_written =
      conjunct_sound false (walk.listed negated x list) None None (meant (SqlCond-F.InList negated x list)) (in_list_means database expr-means negated x list) (list_knows negated x list written all_written) tt tt

  -- ---- subqueries

  in_sub : (negated : Bool) (x : SqlExpr) (query : QueryWalk) → expr_written x ≡ true → QuerySound database query → SubquerySound database (record { negated = negated; left = Some (expr x); query = query })
  in_sub negated x query written sound = record { query = sound; left = expr_sound x written }

  exists_sub : (negated : Bool) (query : QueryWalk) → QuerySound database query → SubquerySound database (record { negated = negated; left = None; query = query })
  exists_sub negated query sound = record { query = sound; left = tt }

  pub in_query_sound : (negated : Bool) (x : SqlExpr) (query : QueryWalk) → expr_written x ≡ true → QuerySound database query → CondSound database (walked (SqlCond-F.InQuery negated x query))
  in_query_sound true x query written sound =
      conjunct_sound true (λ place. refuse SubqueryPlace) (Some (record { negated = true; left = Some (expr x); query = query })) None (meant (SqlCond-F.InQuery true x sound.meaning))
      (in_query_means database expr-means true x query sound.meaning sound.means) refused_knows (in_sub true x query written sound) tt
  in_query_sound false x query written sound =
      conjunct_sound true (λ place. refuse SubqueryPlace) (Some (record { negated = false; left = Some (expr x); query = query })) (Some (record { negated = true; left = Some (expr x); query = query })) (meant (SqlCond-F.InQuery false x sound.meaning))
      (in_query_means database expr-means false x query sound.meaning sound.means) refused_knows (in_sub false x query written sound) (in_sub true x query written sound)

  pub exists_sound : (query : QueryWalk) → QuerySound database query → CondSound database (walked (SqlCond-F.Exists query))
  exists_sound query sound =
      conjunct_sound true (λ place. refuse SubqueryPlace) (Some (record { negated = false; left = None; query = query })) (Some (record { negated = true; left = None; query = query })) (meant (SqlCond-F.Exists sound.meaning))
      (exists_means database query sound.meaning sound.means) refused_knows (exists_sub false query sound) (exists_sub true query sound)

  -- ---- conditions of conditions

  pub test_sound : (negated : Bool) (part : Condition) (wanted : Truth) → CondSound database part → CondSound database (walked (SqlCond-F.Test negated part wanted))
  test_sound negated part wanted sound =
      conjunct_sound part.nested (walk.truth_tested negated part.test wanted) None None (meant (SqlCond-F.Test negated sound.meaning wanted)) (test_means database negated part sound.meaning wanted sound.means)
      (is_test_knows negated wanted part.test (test_knows sound.test)) tt tt

  pub not_sound : (part : Condition) → CondSound database part → CondSound database (walked (SqlCond-F.Not part))
  not_sound part sound =
      conjunct_sound part.nested (λ place. cond.Not <$> part.test place) part.negation None (meant (SqlCond-F.Not sound.meaning)) (not_means database part sound.meaning sound.means)
      (not_knows part.test (test_knows sound.test)) sound.negation tt

  -- the meanings of several conditions
  meanings : (parts : List Condition) → AllByRecursion (CondSound database) parts → List (Group → Truth)
  meanings [] all = []
  meanings (part ∷ parts) all = (all.0).meaning ∷ meanings parts all.1

  all_meant : (parts : List Condition) (all : AllByRecursion (CondSound database) parts) → Related (CondMeans database) parts (meanings parts all)
  unfolding meanings
  all_meant [] all = none
  all_meant (part ∷ parts) all = more (all.0).means (all_meant parts all.1)

  all_conjuncts : (parts : List Condition) → AllByRecursion (CondSound database) parts → AllByRecursion (ConjunctSound database) (flat_map (λ part. part.conjuncts) parts)
  all_conjuncts [] all = tt
  all_conjuncts (part ∷ parts) all = all-append (ConjunctSound database) part.conjuncts (flat_map (λ part. part.conjuncts) parts) (all.0).conjuncts (all_conjuncts parts all.1)

  pub all_sound : (parts : List Condition) → AllByRecursion (CondSound database) parts → CondSound database (walked (SqlCond-F.All parts))
  all_sound parts all =
      let truth = meant (SqlCond-F.All (meanings parts all)) in
      let means : CondMeans database (walked (SqlCond-F.All parts)) truth = all_means database parts (meanings parts all) (all_meant parts all) in
      record {
        meaning = truth;
        means = means;
        test = record { meaning = truth; means = means.test; kinds = knows_kinds (all_knows parts all) };
        conjuncts = all_conjuncts parts all;
        negation = tt;
      }

  pub any_sound : (parts : List Condition) → AllByRecursion (CondSound database) parts → CondSound database (walked (SqlCond-F.Any parts))
  any_sound parts all =
      conjunct_sound (any_nested parts) (λ place. cond.Any <$> tests parts place) None None (meant (SqlCond-F.Any (meanings parts all))) (any_means database parts (meanings parts all) (all_meant parts all))
      (any_knows parts all) tt tt

  pub paren_cond_sound : (part : Condition) → CondSound database part → CondSound database (walked (SqlCond-F.«SqlCond::Paren» part))
  paren_cond_sound part sound = sound

  -- ---- the conjuncts of ON and of HAVING

  conjuncts_know : (place : Place) (conjuncts : List Conjunct) → AllByRecursion (ConjunctSound database) conjuncts → AllByRecursion (StepKnows IsTyped place (λ c. c.test place)) conjuncts
  conjuncts_know place [] all = tt
  conjuncts_know place (c ∷ conjuncts) all = (test_knows (all.0).test place, conjuncts_know place conjuncts all.1)

  tested_by : (place : Place) (conjuncts : List Conjunct) → AllByRecursion (ConjunctSound database) conjuncts → (w : Walk) (conds : List Cond) (w' : Walk) → Proper w.numbers → SettledAt w.numbers place
      → each (λ c. c.test place) conjuncts w ≡ done conds w' → TestedKinds place w conds w'
  tested_by place conjuncts all w conds w' proper settled walked =
      let knows = each_knows IsTyped place (λ (c : Conjunct). c.test place) conjuncts (conjuncts_know place conjuncts all) w conds w' proper settled walked in
      record {
        typed = λ aggs begins columns sees. every_typed conds columns (knows.typed aggs begins columns sees);
        aggs = knows.aggs;
        made = knows.made;
        unmet = knows.unmet;
        references = knows.references;
        taken = knows.taken;
        uses = knows.uses;
      }

  pub tested_sound : (place : Place) (c : Option Condition) → CondSoundIf database c → (w : Walk) (conds : List Cond) (w' : Walk) → Proper w.numbers → SettledAt w.numbers place
      → tested place c w ≡ done conds w' → TestedKinds place w conds w'
  unfolding tested
  tested_sound place None sound w conds w' proper settled same = tested_by place [] tt w conds w' proper settled same
  tested_sound place (Some c) sound w conds w' proper settled same = tested_by place c.conjuncts sound.conjuncts w conds w' proper settled same
