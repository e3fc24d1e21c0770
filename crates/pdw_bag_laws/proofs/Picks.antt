-- The least and the greatest of values: which comes first does not matter.
use Rattle.std.proofs.Common.{◌≡◌, Bool, true, false, cond, List, [], ◌∷◌, ◌++◌, fold, not, refl, sym, ap, subst, ◌∙◌, if◌then◌else◌, append-nil, true≢false}
use Rattle.std.proofs.lemmas.List.Sums.{fold-append}
use Rattle.std.specs.List.{AllByRecursion}
use Rattle.std.specs.Ordering.{is_gt, is_lt, ordering_reverse}
use Rattle.std.specs.declared.cmp.Ordering.TheVariants.{Less, Equal, Greater}
use Rattle.std.specs.declared.cmp.Ordering.{Ordering}
use Rattle.pdw_base.proofs.ComparisonLemmas.{value_cmp-total, value_cmp-Equal}
use Rattle.pdw_base.specs.Comparison.{value_cmp}
use Rattle.pdw_base.specs.declared.value.Value.TheVariants.{Null, Int, Text, Wide}
use Rattle.pdw_base.specs.declared.value.Value.{Value}
use Rattle.pdw_expr.specs.Aggregate.{greater, greatest, least, lesser, present}
use Rattle.pdw_expr.specs.Comparison.{is_null}

-- ---- one of two values, by a strict order

-- a test says which of two values is better
record IsStrict (better : Value → Value → Bool) : Type 0 where
  chain : (a b c : Value) → better a b ≡ true → better b c ≡ true → better a c ≡ true
  never_both : (a b : Value) → better a b ≡ true → better b a ≡ false
  -- of two values that differ one is better
  tie : (a b : Value) → better a b ≡ false → better b a ≡ false → a ≡ b

abbrev before : Value → Value → Bool
before a b = is_lt (value_cmp a b)

before-strict : IsStrict before
before-strict = record {
  chain = λ a b c first second.
      ap is_lt (value_cmp-total.trans a b c (less (value_cmp a b) first) (less (value_cmp b c) second));
  never_both = λ a b first. ap is_lt (value_cmp-total.antisymm b a ∙ ap ordering_reverse (less (value_cmp a b) first));
  tie = λ a b first second. value_cmp-Equal a b (neither (value_cmp a b) first (ap is_lt (sym (value_cmp-total.antisymm b a)) ∙ second));
}
  where
    less : (o : Ordering) → is_lt o ≡ true → o ≡ Less
    less Less e = refl
    less Equal e = absurd (true≢false (sym e))
    less Greater e = absurd (true≢false (sym e))

    neither : (o : Ordering) → is_lt o ≡ false → is_lt (ordering_reverse o) ≡ false → o ≡ Equal
    neither Less e f = absurd (true≢false e)
    neither Equal e f = refl
    neither Greater e f = absurd (true≢false f)

-- the same order from its other end
abbrev after : Value → Value → Bool
after a b = is_gt (value_cmp a b)

after-before : (a b : Value) → after a b ≡ before b a
after-before a b = turned (value_cmp a b) ∙ ap is_lt (sym (value_cmp-total.antisymm b a))
  where
    turned : (o : Ordering) → is_gt o ≡ is_lt (ordering_reverse o)
    turned Less = refl
    turned Equal = refl
    turned Greater = refl

after-strict : IsStrict after
after-strict = subst IsStrict (λ i a b. sym (after-before a b) i) (record {
  chain = λ a b c first second. before-strict.chain c b a second first;
  never_both = λ a b first. before-strict.never_both b a first;
  tie = λ a b first second. before-strict.tie a b second first;
})

-- a choice of one of two values
pub record IsChoice (choose : Value → Value → Value) : Type 0 where
  pub comm : (a b : Value) → choose a b ≡ choose b a
  pub assoc : (a b c : Value) → choose (choose a b) c ≡ choose a (choose b c)
  pub kept : (a b : Value) → is_null a ≡ false → is_null b ≡ false → is_null (choose a b) ≡ false

module _ (better : Value → Value → Bool) (strict : IsStrict better) where
  abbrev picked : Value → Value → Value
  picked a b = if better b a then b else a

  picked-comm : (a b : Value) → picked a b ≡ picked b a
  picked-comm a b = by (better b a) (better a b) refl refl
    where
      by : (left right : Bool) → better b a ≡ left → better a b ≡ right → (if left then b else a) ≡ (if right then a else b)
      by true true first second = absurd (true≢false (sym second ∙ strict.never_both b a first))
      by true false first second = refl
      by false true first second = refl
      by false false first second = strict.tie a b second first

  -- what is not better than one that is not better is not better
  not_better : (a b c : Value) → better b a ≡ false → better c b ≡ false → better c a ≡ false
  not_better a b c first second = by (better c a) (better a b) refl refl
    where
      by : (whole turned : Bool) → better c a ≡ whole → better a b ≡ turned → better c a ≡ false
      by false turned e f = e
      by true true e f = absurd (true≢false (sym (strict.chain c a b e f) ∙ second))
      by true false e f = absurd (true≢false (sym e ∙ ap (better c) (strict.tie a b f first) ∙ second))

  picked-assoc : (a b c : Value) → picked (picked a b) c ≡ picked a (picked b c)
  picked-assoc a b c = by (better b a) (better c b) refl refl
    where
      by : (left right : Bool) → better b a ≡ left → better c b ≡ right → picked (if left then b else a) c ≡ picked a (if right then c else b)
      by true true first second =
          ap (λ is. if is then c else b) second
          ∙ sym (ap (λ is. if is then c else a) (strict.chain c b a second first))
      by true false first second = ap (λ is. if is then c else b) second ∙ sym (ap (λ is. if is then b else a) first)
      by false true first second = refl
      by false false first second =
          ap (λ is. if is then c else a) (not_better a b c first second)
          ∙ sym (ap (λ is. if is then b else a) first)

  picked-kept : (a b : Value) → is_null a ≡ false → is_null b ≡ false → is_null (picked a b) ≡ false
  picked-kept a b first second = by (better b a)
    where
      by : (is : Bool) → is_null (if is then b else a) ≡ false
      by true = second
      by false = first

  picked-choice : IsChoice picked
  picked-choice = record { comm = picked-comm; assoc = picked-assoc; kept = picked-kept }

-- the lesser and the greater of two values
pub lesser-choice : IsChoice lesser
lesser-choice = picked-choice before before-strict

pub greater-choice : IsChoice greater
greater-choice = picked-choice after after-strict

-- ---- one of two values that may be absent

-- NULL counts for nothing
abbrev pub or_other : (Value → Value → Value) → Value → Value → Value
or_other join a b = if is_null a then b else (if is_null b then a else join a b)

null-is : (a : Value) → is_null a ≡ true → a ≡ Null
null-is Null is = refl
null-is (Int n) is = absurd (true≢false (sym is))
null-is (Text t) is = absurd (true≢false (sym is))
null-is (Wide n) is = absurd (true≢false (sym is))

pub or_other-comm : (join : Value → Value → Value) → ((a b : Value) → join a b ≡ join b a) → (a b : Value) → or_other join a b ≡ or_other join b a
or_other-comm join comm a b = by (is_null a) (is_null b) refl refl
  where
    by : (left right : Bool) → is_null a ≡ left → is_null b ≡ right
        → (if left then b else (if right then a else join a b)) ≡ (if right then a else (if left then b else join b a))
    by true true first second = null-is b second ∙ sym (null-is a first)
    by true false first second = refl
    by false true first second = refl
    by false false first second = comm a b

pub or_other-alone : (join : Value → Value → Value) (a : Value) → or_other join a Null ≡ a
or_other-alone join Null = refl
or_other-alone join (Int n) = refl
or_other-alone join (Text t) = refl
or_other-alone join (Wide n) = refl

pub or_other-both : (join : Value → Value → Value) (a b : Value) → is_null a ≡ false → is_null b ≡ false → or_other join a b ≡ join a b
or_other-both join a b first second = ap (λ is. if is then b else (if is_null b then a else join a b)) first ∙ ap (λ is. if is then a else join a b) second

-- ---- values without NULL

abbrev pub NoNull : List Value → Type 0
NoNull values = AllByRecursion (λ value. is_null value ≡ false) values

pub present-no_null : (values : List Value) → NoNull (present values)
present-no_null [] = tt
present-no_null (value ∷ values) = by (is_null value) refl (present-no_null values)
  where
    by : (is : Bool) → is_null value ≡ is → NoNull (present values) → NoNull (cond (not is) (value ∷ present values) (present values))
    by true is rest = rest
    by false is rest = (is, rest)

module _ (choose : Value → Value → Value) (choice : IsChoice choose) where
  fold-first : (a b : Value) (values : List Value) → fold choose (choose a b) values ≡ choose a (fold choose b values)
  fold-first a b [] = refl
  fold-first a b (c ∷ values) = ap (λ first. fold choose first values) (choice.assoc a b c) ∙ fold-first a (choose b c) values

  fold-kept : (a : Value) (values : List Value) → is_null a ≡ false → NoNull values → is_null (fold choose a values) ≡ false
  fold-kept a [] here all = here
  fold-kept a (b ∷ values) here all = fold-kept (choose a b) values (choice.kept a b here all.0) all.1

  -- the choice among all is that between the choices among each
  fold-both : (x y : Value) (xs ys : List Value) → NoNull (x ∷ xs) → NoNull (y ∷ ys)
      → fold choose x (xs ++ y ∷ ys) ≡ or_other choose (fold choose x xs) (fold choose y ys)
  fold-both x y xs ys left right =
      fold-append choose x xs (y ∷ ys)
      ∙ fold-first (fold choose x xs) y ys
      ∙ sym (or_other-both choose (fold choose x xs) (fold choose y ys) (fold-kept x xs left.0 left.1) (fold-kept y ys right.0 right.1))

-- ---- least and greatest

pub least-append : (xs ys : List Value) → NoNull xs → NoNull ys → least (xs ++ ys) ≡ or_other lesser (least xs) (least ys)
least-append [] ys left right = refl
least-append (x ∷ xs) [] left right = ap (fold lesser x) (append-nil xs) ∙ sym (or_other-alone lesser (fold lesser x xs))
least-append (x ∷ xs) (y ∷ ys) left right = fold-both lesser lesser-choice x y xs ys left right

pub greatest-append : (xs ys : List Value) → NoNull xs → NoNull ys → greatest (xs ++ ys) ≡ or_other greater (greatest xs) (greatest ys)
greatest-append [] ys left right = refl
greatest-append (x ∷ xs) [] left right = ap (fold greater x) (append-nil xs) ∙ sym (or_other-alone greater (fold greater x xs))
greatest-append (x ∷ xs) (y ∷ ys) left right = fold-both greater greater-choice x y xs ys left right
