-- Words and numbers read back as what they were written for.
use Rattle.std.proofs.Common.{◌≡◌, ℕ, zero, suc, ◌<◌, ◌≤◌, ◌+◌, ◌^◌, ◌/◌, ◌%◌, ◌==◌, ◌&&◌, ◌||◌, List, [], ◌∷◌, ◌++◌, length, length-append, get_or, slice_index, decimal, bytes_eq, codes, option_map, nat_le, nat_lt, cond, not, Bool, true, false, Option, Some, None, refl, sym, ap, subst, ◌∙◌, arith}
use Rattle.std.specs.List.{list_all}
use Rattle.std.specs.Str.Parse.{digits_value}
use Rattle.std.proofs.Math.ListN.{get_or-append}
use Rattle.std.proofs.lemmas.Bool.{and_from, and_left, and_parts, le-leb, lt-ltb, ne_eqb}
use Rattle.std.proofs.lemmas.Fmt.{decimal_by_steps_wide, decimal_digit, decimal_is_IsNumeral_wide, length-decimal-le_wide}
use Rattle.pdw_planjson.proofs.NumeralLaws.{numeral-is, of-digit}
use Rattle.pdw_planjson.specs.Bounds.{bound_in}
use Rattle.pdw_planjson.specs.Limits.{IsBound}
use Rattle.pdw_planjson.specs.Numerals.{has_no_leading_zero, is_digit, is_numeral, number_in}
use Rattle.pdw_planjson.specs.Written.{bound_word}

-- ---- numbers

record Digits (n : ℕ) (ds : List ℕ) : Type 0 where
  some : 0 < length ds
  digits : list_all is_digit ds ≡ true
  first : 0 < n → 48 < get_or ds 0 0

a-digit : (d : ℕ) → d < 10 → is_digit (48 + d) ≡ true
a-digit d small = and_from (nat_le 48 (48 + d)) (nat_le (48 + d) 57) (le-leb 48 (48 + d) (omega arith)) (le-leb (48 + d) 57 (omega arith))

all-more : (ds : List ℕ) (c : ℕ) → list_all is_digit ds ≡ true → is_digit c ≡ true → list_all is_digit (ds ++ c ∷ []) ≡ true
all-more [] c all one = and_from (is_digit c) true one refl
all-more (d ∷ ds) c all one =
    let parts = and_parts (is_digit d) (list_all is_digit ds) all in
    and_from (is_digit d) (list_all is_digit (ds ++ c ∷ [])) parts.0 (all-more ds c parts.1 one)

one-digit : (n : ℕ) → n < 10 → Digits n ((48 + n) ∷ [])
one-digit n small = record { some = omega arith; digits = and_from (is_digit (48 + n)) true (a-digit n small) refl; first = λ above. omega arith }

more-digits : (n : ℕ) (ds : List ℕ) → 10 ≤ n → Digits (n / 10) ds → Digits n (ds ++ (48 + n % 10) ∷ [])
more-digits n ds large of = record {
  some = omega (arith, length-append ds ((48 + n % 10) ∷ []));
  digits = all-more ds (48 + n % 10) of.digits (a-digit (n % 10) (omega arith));
  first = λ above. omega (arith, get_or-append ds ((48 + n % 10) ∷ []) 0 0 of.some, of.first (omega arith));
}

digits-of : (n : ℕ) → n < 10 ^ 64 → Digits n (decimal n)
digits-of = decimal_by_steps_wide Digits one-digit more-digits

no-zero-first : (n : ℕ) → n < 10 ^ 64 → has_no_leading_zero (decimal n) ≡ true
no-zero-first zero small = ap has_no_leading_zero (decimal_digit 0 (omega arith))
no-zero-first (suc n) small =
    let first = (digits-of (suc n) small).first (omega arith) in
    or-right (length (decimal (suc n)) == 1) (not (slice_index (decimal (suc n)) 0 == 48)) (ap not (ne_eqb (slice_index (decimal (suc n)) 0) 48 (λ is. omega (arith, first, is))))
  where
    or-right : (a b : Bool) → b ≡ true → (a || b) ≡ true
    or-right true b is = refl
    or-right false b is = is

is-numeral : (n : ℕ) → n < 10 ^ 32 → is_numeral (decimal n) ≡ true
unfolding is_numeral
is-numeral n small =
    let few : n < 10 ^ 64 = omega arith in
    let ds = decimal n in
    let of = digits-of n few in
    let some = lt-ltb 0 (length ds) of.some in
    let short = le-leb (length ds) 32 (length-decimal-le_wide 32 n (omega arith) small few) in
    let sized = and_from (nat_lt 0 (length ds)) (nat_le (length ds) 32) some short in
    let all = and_from (nat_lt 0 (length ds) && nat_le (length ds) 32) (list_all is_digit ds) sized of.digits in
    and_from (nat_lt 0 (length ds) && nat_le (length ds) 32 && list_all is_digit ds) (has_no_leading_zero ds) all (no-zero-first n few)

pub number-back : (n : ℕ) → n < 10 ^ 32 → number_in (decimal n) ≡ Some n
number-back n small =
    let few : n < 10 ^ 64 = omega arith in
    sym (numeral-is (decimal n) (is-numeral n small)) ∙ ap Some (decimal_is_IsNumeral_wide n few).1

-- digits are not the word `none`
apart : (ds : List ℕ) → list_all is_digit ds ≡ true → bytes_eq ds (codes "none") ≡ false
apart [] all = refl
apart (c ∷ cs) all =
    let range = of-digit c (and_parts (is_digit c) (list_all is_digit cs) all).0 in
    and_left (c == 110) (bytes_eq cs (codes "one")) (ne_eqb c 110 (λ is. omega (arith, range.1, is)))

pub bound-back : (bound : Option ℕ) → IsBound bound → bound_in (bound_word bound) ≡ Some bound
unfolding bound_in
bound-back None fits = refl
bound-back (Some n) fits =
    ap (λ (test : Bool). cond test (Some None) (option_map Some (number_in (decimal n)))) (apart (decimal n) (digits-of n (omega arith)).digits) ∙ ap (option_map Some) (number-back n fits)
