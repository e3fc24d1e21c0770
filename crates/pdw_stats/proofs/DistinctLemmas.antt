-- How many different values there are: those of a set that has seen them, and the same for lists of the same values.
use Rattle.std.proofs.Common.{◌≡◌, ◌⊎◌, inl, inr, Bor, ℤ, Bool, true, false, cond, ◌||◌, List, [], ◌∷◌, ◌++◌, length, map, filter, refl, sym, ap, ◌∙◌, true≢false, subst}
use Rattle.std.specs.List.{AllByRecursion, IsDistinct}
use Rattle.std.specs.List.Sorted.{IsStrictlySortedBy}
use Rattle.std.specs.Set.{distinct_count, is_member, unique_keys}
use Rattle.std.specs.BTreeSet.{insert_key}
use Rattle.std.specs.Cmp.{IsEquivalence, Equal-is, eq_by_cmp_equiv}
use Rattle.std.specs.Ordering.{match_ordering, on}
use Rattle.std.specs.declared.cmp.Ordering.{Ordering}
use Rattle.std.specs.declared.cmp.Ordering.TheVariants.{Less, Equal, Greater}
use Rattle.std.proofs.lemmas.Map.Keys.{IsDistinct-cons, IsDistinct-from_sorted, IsDistinct-head, IsDistinct-tail}
use Rattle.std.proofs.lemmas.Map.Made.{length-from_keys}
use Rattle.std.proofs.lemmas.List.{length-map}
use Rattle.std.proofs.lemmas.List.Elements.{filter-append}
use Rattle.std.proofs.lemmas.List.Folds.{list_any-append}
use Rattle.pdw_base.proofs.ComparisonLemmas.{value_cmp-Equal, value_cmp-total}
use Rattle.pdw_base.specs.Comparison.{value_cmp}
use Rattle.pdw_base.specs.Value.{owned}
use Rattle.pdw_base.specs.declared.text.Str.{Str}
use Rattle.pdw_base.specs.declared.value.Value.{Value}
use Rattle.pdw_base.specs.declared.value.ValueRef.{ValueRef}
use Rattle.pdw_base.specs.declared.value.ValueRef.TheVariants as lent
use Rattle.pdw_stats.specs.Known.{Sees, has_seen}
use Rattle.pdw_stats.specs.Measured.{is_known, known_values, same_value}
use Rattle.pdw_stats.specs.declared.known.Known.{Known}

same_value-equiv : IsEquivalence same_value
same_value-equiv = eq_by_cmp_equiv value_cmp-total

pub same_value-≡ : (a b : Value) → same_value a b ≡ true → a ≡ b
same_value-≡ a b same = value_cmp-Equal a b ((Equal-is (value_cmp a b)).0 same)

pub same_value-itself : (a : Value) → same_value a a ≡ true
same_value-itself = same_value-equiv.refl

-- ---- the values that a set has seen

abbrev value_in : Known → Value
value_in known = owned known.value

apart_values : (known : Known) (seen : List Known) → AllByRecursion (λ other. same_value (value_in known) (value_in other) ≡ false) seen
    → AllByRecursion (λ value. same_value (value_in known) value ≡ false) (map value_in seen)
apart_values known [] apart = tt
apart_values known (other ∷ seen) apart = (apart.0, apart_values known seen apart.1)

distinct_values : (seen : List Known) → IsDistinct (on value_in same_value) seen → IsDistinct same_value (map value_in seen)
unfolding IsDistinct
distinct_values [] apart = tt
distinct_values (known ∷ seen) apart =
    IsDistinct-cons same_value (value_in known) (map value_in seen)
    (apart_values known seen (IsDistinct-head (on value_in same_value) known seen apart))
    (distinct_values seen (IsDistinct-tail (on value_in same_value) known seen apart))

member_values : (seen : List Known) (value : Value) → is_member same_value (map value_in seen) value ≡ has_seen seen value
member_values [] value = refl
member_values (known ∷ seen) value = ap (λ b. same_value value (value_in known) || b) (member_values seen value)

-- an ordered set that has seen just these values other than NULL has as many as there are different ones
pub length-seen : (seen : List Known) (values : List Value) → IsStrictlySortedBy (on value_in value_cmp) seen
    → ((value : Value) → has_seen seen value ≡ is_member same_value (filter is_known values) value) → length seen ≡ known_values values
length-seen seen values sorted same =
    sym (length-map seen value_in)
    ∙ length-from_keys same_value-equiv (map value_in seen) (filter is_known values)
    (distinct_values seen (IsDistinct-from_sorted (on value_in value_cmp) seen sorted))
    (λ value. member_values seen value ∙ same value)

-- ---- one value more

or_turned : (a b : Bool) → (a || b) ≡ (b || a)
or_turned true true = refl
or_turned true false = refl
or_turned false true = refl
or_turned false false = refl

or_again : (a b : Bool) → (a || b) ≡ ((a || b) || a)
or_again true b = refl
or_again false true = refl
or_again false false = refl

or_regrouped : (a b c : Bool) → (a || (b || c)) ≡ ((a || b) || c)
or_regrouped true b c = refl
or_regrouped false b c = refl

-- a value that is put into the set was seen, and no other
has_seen-insert_key : (known : Known) (seen : List Known) (value : Value)
    → has_seen (insert_key (on value_in value_cmp) seen known) value ≡ (has_seen seen value || same_value value (value_in known))
has_seen-insert_key known [] value = or_turned (same_value value (value_in known)) false
has_seen-insert_key known (other ∷ seen) value = by (value_cmp (value_in known) (value_in other)) refl (has_seen-insert_key known seen value)
  where
    by : (o : Ordering) → value_cmp (value_in known) (value_in other) ≡ o
        → has_seen (insert_key (on value_in value_cmp) seen known) value ≡ (has_seen seen value || same_value value (value_in known))
        → has_seen (match_ordering o (known ∷ other ∷ seen) (other ∷ seen) (other ∷ insert_key (on value_in value_cmp) seen known)) value ≡ (has_seen (other ∷ seen) value || same_value value (value_in known))
    by Less e rest = or_turned (same_value value (value_in known)) (has_seen (other ∷ seen) value)
    by Equal e rest =
        or_again (same_value value (value_in other)) (has_seen seen value)
        ∙ ap (λ v. has_seen (other ∷ seen) value || same_value value v) (sym (value_cmp-Equal (value_in known) (value_in other) e))
    by Greater e rest =
        ap (λ b. same_value value (value_in other) || b) rest
        ∙ or_regrouped (same_value value (value_in other)) (has_seen seen value) (same_value value (value_in known))

pub Sees-known : (old new : List Known) (known : Known) → is_known (value_in known) ≡ true → new ≡ insert_key (on value_in value_cmp) old known → Sees old new (value_in known ∷ [])
Sees-known old new known is_one put = λ value.
    ap (λ seen. has_seen seen value) put
    ∙ has_seen-insert_key known old value
    ∙ ap (λ b. has_seen old value || b) (or_turned false (same_value value (value_in known)) ∙ ap (λ b. is_member same_value (cond b (value_in known ∷ []) []) value) (sym is_one))

-- a value of one of the three forms is not NULL
pub is_known-form : (value : ValueRef) → ((n : ℤ) × (value ≡ lent.Int n)) ⊎ (((text : Bor Str) × (value ≡ lent.Text text)) ⊎ ((n : ℤ) × (value ≡ lent.Wide n))) → is_known (owned value) ≡ true
is_known-form value (inl form) = ap (λ v. is_known (owned v)) form.1
is_known-form value (inr (inl form)) = ap (λ v. is_known (owned v)) form.1
is_known-form value (inr (inr form)) = ap (λ v. is_known (owned v)) form.1

pub Sees-append : (old now new : List Known) (values others : List Value) → Sees old now values → Sees now new others → Sees old new (values ++ others)
Sees-append old now new values others first second = λ value.
    second value
    ∙ ap (λ b. b || is_member same_value (filter is_known others) value) (first value)
    ∙ sym (or_regrouped (has_seen old value) (is_member same_value (filter is_known values) value) (is_member same_value (filter is_known others) value))
    ∙ ap (λ b. has_seen old value || b)
    (sym (ap (λ xs. is_member same_value xs value) (filter-append is_known values others) ∙ list_any-append (same_value value) (filter is_known values) (filter is_known others)))

-- ---- lists of the same values

member-unique_keys : (xs : List Value) (value : Value) → is_member same_value (unique_keys same_value xs) value ≡ is_member same_value xs value
member-unique_keys [] value = refl
member-unique_keys (x ∷ xs) value = by (is_member same_value xs x) (same_value value x) refl refl (member-unique_keys xs value)
  where
    by : (b c : Bool) → is_member same_value xs x ≡ b → same_value value x ≡ c → is_member same_value (unique_keys same_value xs) value ≡ is_member same_value xs value
        → is_member same_value (cond b (unique_keys same_value xs) (x ∷ unique_keys same_value xs)) value ≡ (c || is_member same_value xs value)
    by true true there same rest = rest ∙ subst (λ v. is_member same_value xs v ≡ true) (sym (same_value-≡ value x same)) there
    by true false there other rest = rest
    by false c none same rest = ap (λ b. b || is_member same_value (unique_keys same_value xs) value) same ∙ ap (λ b. c || b) rest

absent_apart : (x : Value) (ys : List Value) → is_member same_value ys x ≡ false → AllByRecursion (λ y. same_value x y ≡ false) ys
absent_apart x [] none = tt
absent_apart x (y ∷ ys) none = by (same_value x y) refl none (absent_apart x ys)
  where
    by : (b : Bool) → same_value x y ≡ b → (b || is_member same_value ys x) ≡ false → (is_member same_value ys x ≡ false → AllByRecursion (λ z. same_value x z ≡ false) ys)
        → (same_value x y ≡ false) × AllByRecursion (λ z. same_value x z ≡ false) ys
    by true same gone rest = absurd (true≢false gone)
    by false other gone rest = (other, rest gone)

distinct-unique_keys : (xs : List Value) → IsDistinct same_value (unique_keys same_value xs)
unfolding IsDistinct
distinct-unique_keys [] = tt
distinct-unique_keys (x ∷ xs) = by (is_member same_value xs x) refl (distinct-unique_keys xs)
  where
    by : (b : Bool) → is_member same_value xs x ≡ b → IsDistinct same_value (unique_keys same_value xs) → IsDistinct same_value (cond b (unique_keys same_value xs) (x ∷ unique_keys same_value xs))
    by true there rest = rest
    by false none rest = (absent_apart x (unique_keys same_value xs) (member-unique_keys xs x ∙ none), rest)

pub distinct_count-alike : (xs ys : List Value) → ((value : Value) → is_member same_value xs value ≡ is_member same_value ys value)
    → distinct_count same_value xs ≡ distinct_count same_value ys
distinct_count-alike xs ys alike =
    length-from_keys same_value-equiv (unique_keys same_value xs) ys (distinct-unique_keys xs) (λ value. member-unique_keys xs value ∙ alike value)
