-- The value of an expression, and the truth of a condition, depend on its columns alone.
use Rattle.std.proofs.Common.{◌≡◌, List, [], ◌∷◌, ◌++◌, map, fold, refl, ap, ap₂, subst, sym, ◌∙◌, arith}
use Rattle.std.specs.List.{flat_map}
use Rattle.std.proofs.lemmas.List.Elements.{All-nil, All-cons, All-head, All-tail}
use Rattle.pdw_base.specs.Schema.{Env}
use Rattle.pdw_base.specs.declared.schema.ColId.{ColId}
use Rattle.pdw_base.specs.declared.truth.Truth.{Truth}
use Rattle.pdw_base.specs.declared.value.Value.{Value}
use Rattle.pdw_expr.specs.Arithmetic.{computed, negated}
use Rattle.pdw_expr.specs.Comparison.{comparison, is_null}
use Rattle.pdw_expr.specs.Columns.{scalar_columns, scalar_columns_step, cond_columns, cond_columns_step}
use Rattle.pdw_expr.specs.Cond.{truth_of, truth_step}
use Rattle.pdw_expr.specs.Env.{Agree}
use Rattle.pdw_expr.specs.Like.{like}
use Rattle.pdw_expr.specs.Logic.{decided, negation, all_of, any_of, is_truth}
use Rattle.pdw_expr.specs.Scalar.{value_of, value_step}
use Rattle.pdw_expr.specs.declared.cond.Cond.{Cond}
use Rattle.pdw_expr.specs.declared.cond.Cond.TheOpen.{Cond-F}
use Rattle.pdw_expr.specs.declared.cond.Cond.TheViews.{roll-Cond}
use Rattle.pdw_expr.specs.declared.cond.Cond.TheFolds.{fold-roll-Cond, ind-Cond, map-Cond}
use Rattle.pdw_expr.specs.declared.scalar.Arith.{Arith}
use Rattle.pdw_expr.specs.declared.scalar.Scalar.{Scalar}
use Rattle.pdw_expr.specs.declared.scalar.Scalar.TheOpen.{Scalar-F}
use Rattle.pdw_expr.specs.declared.scalar.Scalar.TheViews.{roll-Scalar}
use Rattle.pdw_expr.specs.declared.scalar.Scalar.TheFolds.{fold-roll-Scalar, ind-Scalar, map-Scalar}

-- ---- agreement on several columns

module _ (a b : Env) where
  abbrev Same : ColId → Type 0
  Same c = a c ≡ b c

  pub Agree-left : (xs ys : List ColId) → Agree (xs ++ ys) a b → Agree xs a b
  Agree-left [] ys agree = All-nil Same
  Agree-left (x ∷ xs) ys agree = All-cons Same x xs (All-head Same x (xs ++ ys) agree) (Agree-left xs ys (All-tail Same x (xs ++ ys) agree))

  pub Agree-right : (xs ys : List ColId) → Agree (xs ++ ys) a b → Agree ys a b
  Agree-right [] ys agree = agree
  Agree-right (x ∷ xs) ys agree = Agree-right xs ys (All-tail Same x (xs ++ ys) agree)

-- ---- expressions

abbrev ValueDepends : Scalar → Type 0
ValueDepends e = (a b : Env) → Agree (scalar_columns e) a b → value_of e a ≡ value_of e b

abbrev Known : Type 0
Known = (e : Scalar) × ValueDepends e

abbrev known : Scalar-F Known → Scalar-F Scalar
known = map-Scalar Known Scalar (λ e. e.0)

abbrev links_value : List (Arith × Known) → Env → Value → Value
links_value links env start = fold (λ value link. computed link.0 value (value_of link.1.0 env)) start links

abbrev links_columns : List (Arith × Known) → List ColId
links_columns links = flat_map (λ link. scalar_columns link.1.0) links

links_depend : (links : List (Arith × Known)) (a b : Env) (start : Value) → Agree (links_columns links) a b → links_value links a start ≡ links_value links b start
links_depend [] a b start agree = refl
links_depend (link ∷ links) a b start agree =
    let here = link.1.1 a b (Agree-left a b (scalar_columns link.1.0) (links_columns links) agree) in
    ap (λ value. links_value links a (computed link.0 start value)) here
    ∙ links_depend links a b (computed link.0 start (value_of link.1.0 b)) (Agree-right a b (scalar_columns link.1.0) (links_columns links) agree)

links_value-map : (h : Arith × Known → Arith × Scalar) (g : Arith × Scalar → Arith × (Env → Value))
    → ((link : Arith × Known) → g (h link) ≡ (link.0, value_of link.1.0)) → (links : List (Arith × Known)) (env : Env) (start : Value)
    → fold (λ value link. computed link.0 value (link.1 env)) start (map g (map h links)) ≡ links_value links env start
links_value-map h g is [] env start = refl
links_value-map h g is (link ∷ links) env start =
    ap (λ l. fold (λ value link. computed link.0 value (link.1 env)) (computed l.0 start (l.1 env)) (map g (map h links))) (is link)
    ∙ links_value-map h g is links env (computed link.0 start (value_of link.1.0 env))

links_columns-map : (h : Arith × Known → Arith × Scalar) (g : Arith × Scalar → Arith × List ColId)
    → ((link : Arith × Known) → g (h link) ≡ (link.0, scalar_columns link.1.0)) → (links : List (Arith × Known))
    → flat_map (λ link. link.1) (map g (map h links)) ≡ links_columns links
links_columns-map h g is [] = refl
links_columns-map h g is (link ∷ links) = ap₂ (λ l rest. l.1 ++ rest) (is link) (links_columns-map h g is links)

layer : (y : Scalar-F Known) (a b : Env) → Agree (scalar_columns_step (map-Scalar Scalar (List ColId) scalar_columns (known y))) a b
    → value_step (map-Scalar Scalar (Env → Value) value_of (known y)) a ≡ value_step (map-Scalar Scalar (Env → Value) value_of (known y)) b
layer (Scalar-F.Col c) a b agree = agree 0 c (omega arith)
layer (Scalar-F.Lit value) a b agree = refl
layer (Scalar-F.Neg operand) a b agree = ap negated (operand.1 a b agree)
layer (Scalar-F.Chain first rest) a b agree =
    let columns = links_columns-map _ _ (λ link. refl) rest in
    let all : Agree (scalar_columns first.0 ++ links_columns rest) a b = subst (λ xs. Agree (scalar_columns first.0 ++ xs) a b) columns agree in
    let start = first.1 a b (Agree-left a b (scalar_columns first.0) (links_columns rest) all) in
    links_value-map _ _ (λ link. refl) rest a (value_of first.0 a)
    ∙ ap (links_value rest a) start
    ∙ links_depend rest a b (value_of first.0 b) (Agree-right a b (scalar_columns first.0) (links_columns rest) all)
    ∙ sym (links_value-map _ _ (λ link. refl) rest b (value_of first.0 b))

pub value_depends : (e : Scalar) → ValueDepends e
value_depends = ind-Scalar ValueDepends (λ x y is. subst (λ z. ValueDepends (roll-Scalar z)) is (λ a b agree.
    let value = fold-roll-Scalar (Env → Value) value_step (known y) in
    let columns = fold-roll-Scalar (List ColId) scalar_columns_step (known y) in
    ap (λ f. f a) value ∙ layer y a b (subst (λ xs. Agree xs a b) columns agree) ∙ sym (ap (λ f. f b) value)))

-- ---- conditions

abbrev TruthDepends : Cond → Type 0
TruthDepends c = (a b : Env) → Agree (cond_columns c) a b → truth_of c a ≡ truth_of c b

abbrev KnownCond : Type 0
KnownCond = (c : Cond) × TruthDepends c

abbrev known_cond : Cond-F KnownCond → Cond-F Cond
known_cond = map-Cond KnownCond Cond (λ c. c.0)

abbrev parts_truths : List KnownCond → Env → List Truth
parts_truths parts env = map (λ part. truth_of part.0 env) parts

abbrev parts_columns : List KnownCond → List ColId
parts_columns parts = flat_map (λ part. cond_columns part.0) parts

parts_depend : (parts : List KnownCond) (a b : Env) → Agree (parts_columns parts) a b → parts_truths parts a ≡ parts_truths parts b
parts_depend [] a b agree = refl
parts_depend (part ∷ parts) a b agree =
    ap₂ (λ truth truths. truth ∷ truths) (part.1 a b (Agree-left a b (cond_columns part.0) (parts_columns parts) agree))
    (parts_depend parts a b (Agree-right a b (cond_columns part.0) (parts_columns parts) agree))

parts_truths-map : (parts : List KnownCond) (env : Env) → map (λ part. part env) (map truth_of (map (λ (part : KnownCond). part.0) parts)) ≡ parts_truths parts env
parts_truths-map [] env = refl
parts_truths-map (part ∷ parts) env = ap (λ truths. truth_of part.0 env ∷ truths) (parts_truths-map parts env)

parts_columns-map : (parts : List KnownCond) → flat_map (λ part. part) (map cond_columns (map (λ (part : KnownCond). part.0) parts)) ≡ parts_columns parts
parts_columns-map [] = refl
parts_columns-map (part ∷ parts) = ap (λ rest. cond_columns part.0 ++ rest) (parts_columns-map parts)

both_depend : (e f : Scalar) (a b : Env) → Agree (scalar_columns e ++ scalar_columns f) a b → (value_of e a ≡ value_of e b) × (value_of f a ≡ value_of f b)
both_depend e f a b agree = (
  value_depends e a b (Agree-left a b (scalar_columns e) (scalar_columns f) agree),
  value_depends f a b (Agree-right a b (scalar_columns e) (scalar_columns f) agree),
)

all_depend : (parts : List KnownCond) (a b : Env) → Agree (flat_map (λ part. part) (map cond_columns (map (λ (part : KnownCond). part.0) parts))) a b
    → map (λ part. part a) (map truth_of (map (λ (part : KnownCond). part.0) parts)) ≡ map (λ part. part b) (map truth_of (map (λ (part : KnownCond). part.0) parts))
all_depend parts a b agree =
    parts_truths-map parts a ∙ parts_depend parts a b (subst (λ xs. Agree xs a b) (parts_columns-map parts) agree) ∙ sym (parts_truths-map parts b)

cond_layer : (y : Cond-F KnownCond) (a b : Env) → Agree (cond_columns_step (map-Cond Cond (List ColId) cond_columns (known_cond y))) a b
    → truth_step (map-Cond Cond (Env → Truth) truth_of (known_cond y)) a ≡ truth_step (map-Cond Cond (Env → Truth) truth_of (known_cond y)) b
cond_layer (Cond-F.Compare op e f) a b agree = let both = both_depend e f a b agree in ap₂ (comparison op) both.0 both.1
cond_layer (Cond-F.Like text pattern) a b agree = let both = both_depend text pattern a b agree in ap₂ like both.0 both.1
cond_layer (Cond-F.IsNull e) a b agree = ap (λ value. decided (is_null value)) (value_depends e a b agree)
cond_layer (Cond-F.Test part wanted) a b agree = ap (λ truth. decided (is_truth truth wanted)) (part.1 a b agree)
cond_layer (Cond-F.Not part) a b agree = ap negation (part.1 a b agree)
cond_layer (Cond-F.All parts) a b agree = ap all_of (all_depend parts a b agree)
cond_layer (Cond-F.Any parts) a b agree = ap any_of (all_depend parts a b agree)

pub truth_depends : (c : Cond) → TruthDepends c
truth_depends = ind-Cond TruthDepends (λ x y is. subst (λ z. TruthDepends (roll-Cond z)) is (λ a b agree.
    let truth = fold-roll-Cond (Env → Truth) truth_step (known_cond y) in
    let columns = fold-roll-Cond (List ColId) cond_columns_step (known_cond y) in
    ap (λ f. f a) truth ∙ cond_layer y a b (subst (λ xs. Agree xs a b) columns agree) ∙ sym (ap (λ f. f b) truth)))
