-- What has a kind over some columns has it over more of them: so what is well-typed over a part is well-typed over the whole.
use Rattle.std.proofs.Common.{◌≡◌, ◌||◌, ◌==◌, Bool, true, false, not, List, [], ◌∷◌, ◌++◌, map, Option, Some, None, is_some, refl, sym, ap, subst, ◌∙◌, eqb-true, if◌then◌else◌}
use Rattle.std.specs.List.{list_all, list_any}
use Rattle.std.proofs.lemmas.Bool.{and_parts, and_from, false≢true, not-true}
use Rattle.std.proofs.lemmas.Option.{none-some}
use Rattle.pdw_algebra.specs.Schema.{kind_at}
use Rattle.pdw_algebra.specs.Shape.{all_typed, are_apart, has_number}
use Rattle.pdw_algebra.specs.Types.{is_number, is_text, is_typed, number_if, same_kinds, scalar_kind, scalar_kind_step, typed_step}
use Rattle.pdw_base.specs.Schema.{Columns}
use Rattle.pdw_base.specs.declared.schema.ColId.{ColId}
use Rattle.pdw_base.specs.declared.value.Kind.TheVariants as kind
use Rattle.pdw_base.specs.declared.value.Kind.{Kind}
use Rattle.pdw_expr.specs.declared.cond.Cond.TheFolds.{fold-roll-Cond, ind-Cond, map-Cond}
use Rattle.pdw_expr.specs.declared.cond.Cond.TheOpen.{Cond-F}
use Rattle.pdw_expr.specs.declared.cond.Cond.TheViews.{roll-Cond}
use Rattle.pdw_expr.specs.declared.cond.Cond.{Cond}
use Rattle.pdw_expr.specs.declared.scalar.Arith.{Arith}
use Rattle.pdw_expr.specs.declared.scalar.Scalar.TheFolds.{fold-roll-Scalar, ind-Scalar, map-Scalar}
use Rattle.pdw_expr.specs.declared.scalar.Scalar.TheOpen.{Scalar-F}
use Rattle.pdw_expr.specs.declared.scalar.Scalar.TheViews.{roll-Scalar}
use Rattle.pdw_expr.specs.declared.scalar.Scalar.{Scalar}

-- ---- kinds that are carried

-- the second has the kind that the first has
pub record Carried (before after : Option Kind) : Type 0 where
  pub kind : (k : Kind) → before ≡ Some k → after ≡ Some k

-- the second columns have those of the first, with their kinds
pub record Within (part whole : Columns) : Type 0 where
  pub at : (c : ColId) → Carried (kind_at part c) (kind_at whole c)

-- a test that fails where there is no kind
carried_test : (test : Option Kind → Bool) → test None ≡ false → (before after : Option Kind) → Carried before after → test before ≡ true → test after ≡ true
carried_test test fails None after carried holds = absurd (false≢true (sym fails ∙ holds))
carried_test test fails (Some k) after carried holds = ap test (carried.kind k refl) ∙ holds

pub carried_some : (before after : Option Kind) → Carried before after → is_some before ≡ true → is_some after ≡ true
carried_some = carried_test is_some refl

carried_number : (before after : Option Kind) → Carried before after → is_number before ≡ true → is_number after ≡ true
carried_number = carried_test is_number refl

carried_text : (before after : Option Kind) → Carried before after → is_text before ≡ true → is_text after ≡ true
carried_text = carried_test is_text refl

number_carried : (b c : Bool) → (b ≡ true → c ≡ true) → Carried (number_if b) (number_if c)
number_carried true c gives = record { kind = λ k is. ap number_if (gives refl) ∙ is }
number_carried false c gives = record { kind = λ k is. cc }

no_kind : (a : Option Kind) → same_kinds a None ≡ false
no_kind None = refl
no_kind (Some kind.Int) = refl
no_kind (Some kind.Text) = refl
no_kind (Some kind.Wide) = refl

pub carried_same : (a b a' b' : Option Kind) → Carried a a' → Carried b b' → same_kinds a b ≡ true → same_kinds a' b' ≡ true
carried_same a b a' b' first second same =
    carried_test (same_kinds a') (no_kind a') b b' second (carried_test (λ k. same_kinds k b) refl a a' first same)

module _ (part whole : Columns) (within : Within part whole) where
  -- ---- expressions

  abbrev ScalarCarried : Scalar → Type 0
  ScalarCarried x = Carried (scalar_kind part x) (scalar_kind whole x)

  abbrev Known : Type 0
  Known = (x : Scalar) × ScalarCarried x

  abbrev known : Scalar-F Known → Scalar-F Scalar
  known = map-Scalar Known Scalar (λ x. x.0)

  links_carried : (h : Arith × Known → Arith × Scalar) (g g' : Arith × Scalar → Arith × Option Kind)
      → ((link : Arith × Known) → (g (h link)).1 ≡ scalar_kind part link.1.0) → ((link : Arith × Known) → (g' (h link)).1 ≡ scalar_kind whole link.1.0)
      → (links : List (Arith × Known)) → list_all (λ link. is_number link.1) (map g (map h links)) ≡ true → list_all (λ link. is_number link.1) (map g' (map h links)) ≡ true
  links_carried h g g' here there [] all = refl
  links_carried h g g' here there (link ∷ links) all =
      let parts = and_parts _ _ all in
      let first = carried_number (scalar_kind part link.1.0) (scalar_kind whole link.1.0) link.1.1 (ap is_number (sym (here link)) ∙ parts.0) in
      and_from _ _ (ap is_number (there link) ∙ first) (links_carried h g g' here there links parts.1)

  scalar_layer : (y : Scalar-F Known) → Carried (scalar_kind_step part (map-Scalar Scalar (Option Kind) (scalar_kind part) (known y))) (scalar_kind_step whole (map-Scalar Scalar (Option Kind) (scalar_kind whole) (known y)))
  scalar_layer (Scalar-F.Col c) = within.at c
  scalar_layer (Scalar-F.Lit value) = record { kind = λ k is. is }
  scalar_layer (Scalar-F.Neg operand) = number_carried _ _ (carried_number _ _ operand.1)
  scalar_layer (Scalar-F.Chain first rest) =
      number_carried _ _ (λ all. let parts = and_parts _ _ all in
      and_from _ _ (carried_number _ _ first.1 parts.0) (links_carried _ _ _ (λ link. refl) (λ link. refl) rest parts.1))

  pub scalar_carried : (x : Scalar) → ScalarCarried x
  scalar_carried = ind-Scalar ScalarCarried (λ x y is. subst (λ z. ScalarCarried (roll-Scalar z)) is (record {
    kind = λ k has.
        let before = fold-roll-Scalar (Option Kind) (scalar_kind_step part) (known y) in
        let after = fold-roll-Scalar (Option Kind) (scalar_kind_step whole) (known y) in
        after ∙ (scalar_layer y).kind k (sym before ∙ has);
  }))

  -- ---- conditions

  abbrev CondCarried : Cond → Type 0
  CondCarried c = is_typed part c ≡ true → is_typed whole c ≡ true

  abbrev KnownCond : Type 0
  KnownCond = (c : Cond) × CondCarried c

  abbrev known_cond : Cond-F KnownCond → Cond-F Cond
  known_cond = map-Cond KnownCond Cond (λ c. c.0)

  parts_carried : (parts : List KnownCond) → list_all (λ part. part) (map (is_typed part) (map (λ (c : KnownCond). c.0) parts)) ≡ true
      → list_all (λ part. part) (map (is_typed whole) (map (λ (c : KnownCond). c.0) parts)) ≡ true
  parts_carried [] all = refl
  parts_carried (c ∷ parts) all =
      let both = and_parts _ _ all in
      and_from _ _ (c.1 both.0) (parts_carried parts both.1)

  cond_layer : (y : Cond-F KnownCond) → typed_step part (map-Cond Cond Bool (is_typed part) (known_cond y)) ≡ true
      → typed_step whole (map-Cond Cond Bool (is_typed whole) (known_cond y)) ≡ true
  cond_layer (Cond-F.Compare op a b) typed = carried_same _ _ _ _ (scalar_carried a) (scalar_carried b) typed
  cond_layer (Cond-F.Like a b) typed =
      let both = and_parts _ _ typed in
      and_from _ _ (carried_text _ _ (scalar_carried a) both.0) (carried_text _ _ (scalar_carried b) both.1)
  cond_layer (Cond-F.IsNull a) typed = carried_some _ _ (scalar_carried a) typed
  cond_layer (Cond-F.Test inner truth) typed = inner.1 typed
  cond_layer (Cond-F.Not inner) typed = inner.1 typed
  cond_layer (Cond-F.All parts) typed = parts_carried parts typed
  cond_layer (Cond-F.Any parts) typed = parts_carried parts typed

  pub typed_carried : (c : Cond) → CondCarried c
  typed_carried = ind-Cond CondCarried (λ x y is. subst (λ z. CondCarried (roll-Cond z)) is (λ typed.
      let before = fold-roll-Cond Bool (typed_step part) (known_cond y) in
      let after = fold-roll-Cond Bool (typed_step whole) (known_cond y) in
      after ∙ cond_layer y (sym before ∙ typed)))

  pub all_carried : (conds : List Cond) → all_typed part conds ≡ true → all_typed whole conds ≡ true
  all_carried [] typed = refl
  all_carried (c ∷ conds) typed =
      let both = and_parts _ _ typed in
      and_from _ _ (typed_carried c both.0) (all_carried conds both.1)

-- ---- columns before and after others

has_from_kind : (columns : Columns) (c : ColId) (k : Kind) → kind_at columns c ≡ Some k → has_number c columns ≡ true
has_from_kind [] c k has = absurd (none-some k has)
has_from_kind (column ∷ columns) c k has = by (column.0.0 == c.0) (has_from_kind columns c k) has
  where
    by : (here : Bool) → (kind_at columns c ≡ Some k → has_number c columns ≡ true) → (if here then Some column.1 else kind_at columns c) ≡ Some k → (here || has_number c columns) ≡ true
    by true later has = refl
    by false later has = later has

left_kind : (xs ys : Columns) (c : ColId) (k : Kind) → kind_at xs c ≡ Some k → kind_at (xs ++ ys) c ≡ Some k
left_kind [] ys c k has = absurd (none-some k has)
left_kind (x ∷ xs) ys c k has = by (x.0.0 == c.0) (left_kind xs ys c k) has
  where
    by : (here : Bool) → (kind_at xs c ≡ Some k → kind_at (xs ++ ys) c ≡ Some k)
        → (if here then Some x.1 else kind_at xs c) ≡ Some k → (if here then Some x.1 else kind_at (xs ++ ys) c) ≡ Some k
    by true later has = has
    by false later has = later has

right_kind : (xs ys : Columns) → are_apart xs ys ≡ true → (c : ColId) (k : Kind) → kind_at ys c ≡ Some k → kind_at (xs ++ ys) c ≡ Some k
right_kind [] ys apart c k has = has
right_kind (x ∷ xs) ys apart c k has = by (x.0.0 == c.0) refl (right_kind xs ys both.1 c k has)
  where
    both : (not (has_number x.0 ys) ≡ true) × (are_apart xs ys ≡ true)
    both = and_parts _ _ apart

    by : (here : Bool) → (x.0.0 == c.0) ≡ here → kind_at (xs ++ ys) c ≡ Some k → (if here then Some x.1 else kind_at (xs ++ ys) c) ≡ Some k
    by true here later =
        let same = eqb-true _ _ here in
        let there = has_from_kind ys c k has in
        let missing = not-true _ both.0 in
        absurd (false≢true (sym missing ∙ ap (λ n. list_any (λ column. column.0.0 == n) ys) same ∙ there))
    by false here later = later

pub within_left : (xs ys : Columns) → Within xs (xs ++ ys)
within_left xs ys = record { at = λ c. record { kind = left_kind xs ys c } }

pub within_right : (xs ys : Columns) → are_apart xs ys ≡ true → Within ys (xs ++ ys)
within_right xs ys apart = record { at = λ c. record { kind = right_kind xs ys apart c } }
