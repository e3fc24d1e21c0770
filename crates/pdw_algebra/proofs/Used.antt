-- Rows are NULL outside their columns, and what is typed over columns depends on these alone.
use Rattle.std.proofs.Common.{◌≡◌, ◌==◌, Bool, true, false, true≢false, ◌&&◌, ◌||◌, List, [], ◌∷◌, ◌++◌, map, Option, Some, None, is_some, refl, sym, ap, ap₂, subst, ◌∙◌, if◌then◌else◌}
use Rattle.std.specs.List.{AllByRecursion, flat_map, list_all}
use Rattle.std.proofs.lemmas.Bool.{and_parts, or_parts}
use Rattle.pdw_algebra.specs.Schema.{kind_at}
use Rattle.pdw_algebra.specs.Shape.{all_typed, are_apart, has_number}
use Rattle.pdw_algebra.specs.Types.{is_number, is_text, is_typed, number_if, same_kinds, scalar_kind, scalar_kind_step, typed_step}
use Rattle.pdw_base.specs.Schema.{Columns, Env}
use Rattle.pdw_base.specs.declared.schema.ColId.{ColId}
use Rattle.pdw_base.specs.declared.truth.Truth.TheVariants.{True}
use Rattle.pdw_base.specs.declared.value.Kind.{Kind}
use Rattle.pdw_base.specs.declared.value.Kind.TheVariants as kind
use Rattle.pdw_expr.specs.Columns.{cond_columns, cond_columns_step, scalar_columns, scalar_columns_step}
use Rattle.pdw_expr.specs.Cond.{truth_of}
use Rattle.pdw_expr.specs.Env.{or_else, union}
use Rattle.pdw_expr.specs.Logic.{is_truth}
use Rattle.pdw_expr.specs.Rows.{meets}
use Rattle.pdw_expr.specs.declared.cond.Cond.{Cond}
use Rattle.pdw_expr.specs.declared.cond.Cond.TheOpen.{Cond-F}
use Rattle.pdw_expr.specs.declared.cond.Cond.TheViews.{roll-Cond}
use Rattle.pdw_expr.specs.declared.cond.Cond.TheFolds.{fold-roll-Cond, ind-Cond, map-Cond}
use Rattle.pdw_expr.specs.declared.scalar.Arith.{Arith}
use Rattle.pdw_expr.specs.declared.scalar.Scalar.{Scalar}
use Rattle.pdw_expr.specs.declared.scalar.Scalar.TheOpen.{Scalar-F}
use Rattle.pdw_expr.specs.declared.scalar.Scalar.TheViews.{roll-Scalar}
use Rattle.pdw_expr.specs.declared.scalar.Scalar.TheFolds.{fold-roll-Scalar, ind-Scalar, map-Scalar}
use Rattle.pdw_algebra.proofs.AllLaws.{all-append, all-map}
use Rattle.pdw_algebra.proofs.WithinLaws.{UsesOnly, is_met, meets-all, truth-left, truth-right}
use Rattle.pdw_algebra.specs.Within.{IsWithin}

-- conditions that use some columns alone
abbrev pub CondsUse : Columns → List Cond → Type 0
CondsUse columns conds = AllByRecursion (λ c. UsesOnly columns (cond_columns c)) conds

-- ---- numbers of columns

or_assoc : (a b c : Bool) → ((a || b) || c) ≡ (a || (b || c))
or_assoc true b c = refl
or_assoc false b c = refl

or_right : (a b : Bool) → b ≡ true → (a || b) ≡ true
or_right true b there = refl
or_right false b there = there

pub has_number-append : (left right : Columns) (c : ColId) → has_number c (left ++ right) ≡ (has_number c left || has_number c right)
has_number-append [] right c = refl
has_number-append (x ∷ left) right c =
    ap (λ b. (x.0.0 == c.0) || b) (has_number-append left right c) ∙ sym (or_assoc (x.0.0 == c.0) (has_number c left) (has_number c right))

pub has_number-left : (left right : Columns) (c : ColId) → has_number c left ≡ true → has_number c (left ++ right) ≡ true
has_number-left left right c there = has_number-append left right c ∙ ap (λ b. b || has_number c right) there

pub has_number-right : (left right : Columns) (c : ColId) → has_number c right ≡ true → has_number c (left ++ right) ≡ true
has_number-right left right c there = has_number-append left right c ∙ or_right (has_number c left) (has_number c right) there

has_number-neither : (left right : Columns) (c : ColId) → has_number c (left ++ right) ≡ false → (has_number c left ≡ false) × (has_number c right ≡ false)
has_number-neither left right c absent = or_parts (has_number c left) (has_number c right) (sym (has_number-append left right c) ∙ absent)

-- ---- more columns

module _ (left right : Columns) where
  pub within-more : (row : Env) → IsWithin left row → IsWithin (left ++ right) row
  within-more row within = record { elsewhere = λ c absent. within.elsewhere c (has_number-neither left right c absent).0 }

  pub within-after : (row : Env) → IsWithin right row → IsWithin (left ++ right) row
  within-after row within = record { elsewhere = λ c absent. within.elsewhere c (has_number-neither left right c absent).1 }

  pub within-union : (l r : Env) → IsWithin left l → IsWithin right r → IsWithin (left ++ right) (union l r)
  within-union l r first second = record {
    elsewhere = λ c absent.
        let neither = has_number-neither left right c absent in
        ap₂ or_else (first.elsewhere c neither.0) (second.elsewhere c neither.1);
  }

  pub uses-more : (conds : List Cond) → CondsUse left conds → CondsUse (left ++ right) conds
  uses-more conds used =
      all-map (λ c. UsesOnly left (cond_columns c)) (λ c. UsesOnly (left ++ right) (cond_columns c))
      (λ c used. all-map (λ d. has_number d left ≡ true) (λ d. has_number d (left ++ right) ≡ true) (λ d there. has_number-left left right d there) (cond_columns c) used) conds used

  pub uses-after : (conds : List Cond) → CondsUse right conds → CondsUse (left ++ right) conds
  uses-after conds used =
      all-map (λ c. UsesOnly right (cond_columns c)) (λ c. UsesOnly (left ++ right) (cond_columns c))
      (λ c used. all-map (λ d. has_number d right ≡ true) (λ d. has_number d (left ++ right) ≡ true) (λ d there. has_number-right left right d there) (cond_columns c) used) conds used

pub uses-append : (columns : Columns) (xs ys : List Cond) → CondsUse columns xs → CondsUse columns ys → CondsUse columns (xs ++ ys)
uses-append columns xs ys first second = all-append (λ c. UsesOnly columns (cond_columns c)) xs ys first second

-- ---- conditions over a union

each-met : (a b : Env) (conds : List Cond) → AllByRecursion (λ c. truth_of c a ≡ truth_of c b) conds → list_all (is_met a) conds ≡ list_all (is_met b) conds
each-met a b [] same = refl
each-met a b (c ∷ conds) same = ap₂ (λ t rest. is_truth t True && rest) same.0 (each-met a b conds same.1)

meets-same : (a b : Env) (conds : List Cond) → AllByRecursion (λ c. truth_of c a ≡ truth_of c b) conds → meets conds a ≡ meets conds b
meets-same a b conds same = meets-all conds a ∙ each-met a b conds same ∙ sym (meets-all conds b)

module _ (left right : Columns) (apart : are_apart left right ≡ true) (l r : Env) where
  pub meets-left : IsWithin right r → (conds : List Cond) → CondsUse left conds → meets conds (union l r) ≡ meets conds l
  meets-left within conds used =
      meets-same (union l r) l conds
      (all-map (λ c. UsesOnly left (cond_columns c)) (λ c. truth_of c (union l r) ≡ truth_of c l) (λ c used. truth-left left right apart r within l c used) conds used)

  pub meets-right : IsWithin left l → (conds : List Cond) → CondsUse right conds → meets conds (union l r) ≡ meets conds r
  meets-right within conds used =
      meets-same (union l r) r conds
      (all-map (λ c. UsesOnly right (cond_columns c)) (λ c. truth_of c (union l r) ≡ truth_of c r) (λ c used. truth-right left right apart l within r c used) conds used)

-- ---- what is typed over columns uses them

pub kind-there : (columns : Columns) (c : ColId) → is_some (kind_at columns c) ≡ true → has_number c columns ≡ true
kind-there [] c = λ there. there
kind-there (column ∷ columns) c = by (column.0.0 == c.0) (kind-there columns c)
  where
    by : (here : Bool) → (is_some (kind_at columns c) ≡ true → has_number c columns ≡ true)
        → is_some (if here then Some column.1 else kind_at columns c) ≡ true → (here || has_number c columns) ≡ true
    by true rest there = refl
    by false rest there = rest there

number_if-some : (b : Bool) → is_some (number_if b) ≡ true → b ≡ true
number_if-some true there = refl
number_if-some false there = there

number-some : (k : Option Kind) → is_number k ≡ true → is_some k ≡ true
number-some None number = number
number-some (Some k) number = refl

text-some : (k : Option Kind) → is_text k ≡ true → is_some k ≡ true
text-some None text = text
text-some (Some k) text = refl

pub same-first : (a b : Option Kind) → same_kinds a b ≡ true → is_some a ≡ true
same-first None b same = same
same-first (Some a) b same = refl

pub same-second : (a b : Option Kind) → same_kinds a b ≡ true → is_some b ≡ true
same-second a None same = absurd (true≢false (sym same ∙ none a))
  where
    none : (a : Option Kind) → same_kinds a None ≡ false
    none None = refl
    none (Some kind.Int) = refl
    none (Some kind.Text) = refl
    none (Some kind.Wide) = refl
same-second a (Some b) same = refl

module _ (columns : Columns) where
  has-append : (xs ys : List ColId) → UsesOnly columns xs → UsesOnly columns ys → UsesOnly columns (xs ++ ys)
  has-append xs ys first second = all-append (λ c. has_number c columns ≡ true) xs ys first second

  abbrev ScalarHas : Scalar → Type 0
  ScalarHas x = is_some (scalar_kind columns x) ≡ true → UsesOnly columns (scalar_columns x)

  abbrev Known : Type 0
  Known = (x : Scalar) × ScalarHas x

  abbrev known : Scalar-F Known → Scalar-F Scalar
  known = map-Scalar Known Scalar (λ x. x.0)

  links_have : (h : Arith × Known → Arith × Scalar) (k : Arith × Scalar → Arith × Option Kind) (g : Arith × Scalar → Arith × List ColId)
      → ((link : Arith × Known) → k (h link) ≡ (link.0, scalar_kind columns link.1.0)) → ((link : Arith × Known) → g (h link) ≡ (link.0, scalar_columns link.1.0))
      → (links : List (Arith × Known)) → list_all (λ link. is_number link.1) (map k (map h links)) ≡ true → UsesOnly columns (flat_map (λ link. link.1) (map g (map h links)))
  links_have h k g kinds used [] numbers = tt
  links_have h k g kinds used (link ∷ links) numbers =
      let parts = and_parts (is_number (k (h link)).1) (list_all (λ link. is_number link.1) (map k (map h links))) numbers in
      let number = ap (λ l. is_number l.1) (sym (kinds link)) ∙ parts.0 in
      has-append (g (h link)).1 (flat_map (λ link. link.1) (map g (map h links)))
      (subst (λ l. UsesOnly columns l.1) (sym (used link)) (link.1.1 (number-some (scalar_kind columns link.1.0) number))) (links_have h k g kinds used links parts.1)

  layer : (y : Scalar-F Known) → is_some (scalar_kind_step columns (map-Scalar Scalar (Option Kind) (scalar_kind columns) (known y))) ≡ true
      → UsesOnly columns (scalar_columns_step (map-Scalar Scalar (List ColId) scalar_columns (known y)))
  layer (Scalar-F.Col c) there = (kind-there columns c there, tt)
  layer (Scalar-F.Lit value) there = tt
  layer (Scalar-F.Neg operand) there = operand.1 (number-some (scalar_kind columns operand.0) (number_if-some (is_number (scalar_kind columns operand.0)) there))
  layer (Scalar-F.Chain first rest) there =
      let parts = and_parts (is_number (scalar_kind columns first.0)) _ (number_if-some _ there) in
      has-append (scalar_columns first.0) _ (first.1 (number-some (scalar_kind columns first.0) parts.0)) (links_have _ _ _ (λ link. refl) (λ link. refl) rest parts.1)

  -- an expression that has a kind over the columns uses these alone
  pub scalar-within : (x : Scalar) → ScalarHas x
  scalar-within = ind-Scalar ScalarHas (λ x y is. subst (λ z. ScalarHas (roll-Scalar z)) is (λ there.
      subst (UsesOnly columns) (sym (fold-roll-Scalar (List ColId) scalar_columns_step (known y)))
      (layer y (ap is_some (sym (fold-roll-Scalar (Option Kind) (scalar_kind_step columns) (known y))) ∙ there))))

  -- ---- conditions

  abbrev CondHas : Cond → Type 0
  CondHas x = is_typed columns x ≡ true → UsesOnly columns (cond_columns x)

  abbrev KnownCond : Type 0
  KnownCond = (x : Cond) × CondHas x

  abbrev known_cond : Cond-F KnownCond → Cond-F Cond
  known_cond = map-Cond KnownCond Cond (λ x. x.0)

  parts_have : (parts : List KnownCond) → list_all (λ part. part) (map (is_typed columns) (map (λ (part : KnownCond). part.0) parts)) ≡ true
      → UsesOnly columns (flat_map (λ part. part) (map cond_columns (map (λ (part : KnownCond). part.0) parts)))
  parts_have [] typed = tt
  parts_have (part ∷ parts) typed =
      let both = and_parts (is_typed columns part.0) (list_all (λ part. part) (map (is_typed columns) (map (λ (part : KnownCond). part.0) parts))) typed in
      has-append (cond_columns part.0) (flat_map (λ part. part) (map cond_columns (map (λ (part : KnownCond). part.0) parts))) (part.1 both.0) (parts_have parts both.1)

  cond_layer : (y : Cond-F KnownCond) → typed_step columns (map-Cond Cond Bool (is_typed columns) (known_cond y)) ≡ true
      → UsesOnly columns (cond_columns_step (map-Cond Cond (List ColId) cond_columns (known_cond y)))
  cond_layer (Cond-F.Compare op a b) typed =
      has-append (scalar_columns a) (scalar_columns b) (scalar-within a (same-first (scalar_kind columns a) (scalar_kind columns b) typed))
      (scalar-within b (same-second (scalar_kind columns a) (scalar_kind columns b) typed))
  cond_layer (Cond-F.Like a b) typed =
      let both = and_parts (is_text (scalar_kind columns a)) (is_text (scalar_kind columns b)) typed in
      has-append (scalar_columns a) (scalar_columns b) (scalar-within a (text-some (scalar_kind columns a) both.0)) (scalar-within b (text-some (scalar_kind columns b) both.1))
  cond_layer (Cond-F.IsNull a) typed = scalar-within a typed
  cond_layer (Cond-F.Test part truth) typed = part.1 typed
  cond_layer (Cond-F.Not part) typed = part.1 typed
  cond_layer (Cond-F.All parts) typed = parts_have parts typed
  cond_layer (Cond-F.Any parts) typed = parts_have parts typed

  cond_has : (x : Cond) → CondHas x
  cond_has = ind-Cond CondHas (λ x y is. subst (λ z. CondHas (roll-Cond z)) is (λ typed.
      subst (UsesOnly columns) (sym (fold-roll-Cond (List ColId) cond_columns_step (known_cond y)))
      (cond_layer y (sym (fold-roll-Cond Bool (typed_step columns) (known_cond y)) ∙ typed))))

  -- conditions that are typed over the columns use these alone
  pub conds-use : (conds : List Cond) → all_typed columns conds ≡ true → CondsUse columns conds
  conds-use [] typed = tt
  conds-use (x ∷ conds) typed =
      let parts = and_parts (is_typed columns x) (all_typed columns conds) typed in
      (cond_has x parts.0, conds-use conds parts.1)
