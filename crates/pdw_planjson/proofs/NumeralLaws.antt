-- Which texts `parse` reads as numbers.
use Rattle.std.proofs.Common.{◌≡◌, ℕ, zero, suc, ◌<◌, ◌≤◌, ◌+◌, ◌^◌, ◌==◌, ◌&&◌, ◌||◌, List, [], ◌∷◌, length, drop, slice_index, nat_le, nat_lt, cond, not, Bool, true, false, Option, Some, None, Result, Ok, Err, refl, sym, ap, subst, ◌∙◌, arith}
use Rattle.std.specs.List.{list_all}
use Rattle.std.specs.Char.{digit_value}
use Rattle.std.specs.Str.Parse.{AllDigits, IsNumeral, ParsesUnsigned, digits_value, without_leading_plus}
use Rattle.std.proofs.lemmas.Bool.{and_parts, eqb-false, leb-true, ltb-true, ne_eqb}
use Rattle.std.proofs.lemmas.Int.Digits.{digits_value-lt}
use Rattle.std.proofs.Math.Nat.{pow-le-pow_right}
use Rattle.std.proofs.lemmas.Str.{digit_value_digit}
use Rattle.pdw_planjson.specs.Numerals.{has_no_leading_zero, is_digit, is_numeral, number_in}

pub of-digit : (c : ℕ) → is_digit c ≡ true → (48 ≤ c) × (c ≤ 57)
of-digit c h = let parts = and_parts (nat_le 48 c) (nat_le c 57) h in (leb-true 48 c parts.0, leb-true c 57 parts.1)

all-digits : (text : List ℕ) → list_all is_digit text ≡ true → AllDigits 10 text
all-digits [] h = tt
all-digits (c ∷ cs) h =
    let parts = and_parts (is_digit c) (list_all is_digit cs) h in
    let range = of-digit c parts.0 in
    (omega (arith, digit_value_digit c range, range.1), all-digits cs parts.1)

-- a text of digits alone begins with no plus
no-plus : (text : List ℕ) → list_all is_digit text ≡ true → without_leading_plus text ≡ text
no-plus [] h = refl
no-plus (c ∷ cs) h =
    let range = of-digit c (and_parts (is_digit c) (list_all is_digit cs) h).0 in
    ap (λ (plus : Bool). drop (cond plus 1 0) (c ∷ cs)) (ne_eqb c 43 (λ is. omega (arith, range.0, is)))

pub record OfNumeral (text : List ℕ) : Type 0 where
  pub some : 0 < length text
  pub few : length text ≤ 32
  pub digits : list_all is_digit text ≡ true

pub of-numeral : (text : List ℕ) → is_numeral text ≡ true → OfNumeral text
unfolding is_numeral
of-numeral text h =
    let first = and_parts (nat_lt 0 (length text) && nat_le (length text) 32 && list_all is_digit text) (has_no_leading_zero text) h in
    let second = and_parts (nat_lt 0 (length text) && nat_le (length text) 32) (list_all is_digit text) first.0 in
    let third = and_parts (nat_lt 0 (length text)) (nat_le (length text) 32) second.0 in
    record { some = ltb-true 0 (length text) third.0; few = leb-true (length text) 32 third.1; digits = second.1 }

small : (text : List ℕ) → OfNumeral text → digits_value 10 text < 2 ^ 128
small text of =
    let most : 10 ^ length text ≤ 10 ^ 32 = pow-le-pow_right {n = 10} (omega arith) {i = length text} {j = 32} of.few in
    let computed : 10 ^ 32 < 2 ^ 128 = omega arith in
    omega (arith, digits_value-lt 10 text (all-digits text of.digits), most, computed)

pub numeral-is : (text : List ℕ) → is_numeral text ≡ true → Some (digits_value 10 text) ≡ number_in text
unfolding number_in
numeral-is text h = ap (λ (test : Bool). cond test (Some (digits_value 10 text)) None) (sym h)

pub no-numeral : (text : List ℕ) → is_numeral text ≡ false → None ≡ number_in text
unfolding number_in
no-numeral text h = ap (λ (test : Bool). cond test (Some (digits_value 10 text)) None) (sym h)

pub parsed : (text : List ℕ) (n : ℕ) → is_numeral text ≡ true → n ≡ digits_value 10 (without_leading_plus text) → Some n ≡ number_in text
parsed text n h is = ap Some (is ∙ ap (digits_value 10) (no-plus text (of-numeral text h).digits)) ∙ numeral-is text h

pub not-refused : {E : Type 0} (text : List ℕ) (e : E) → is_numeral text ≡ true → ParsesUnsigned 128 10 text (Err e) → ⊥
not-refused text e h parses =
    let of = of-numeral text h in
    let text-is = sym (no-plus text of.digits) in
    parses (subst (λ digits. IsNumeral 10 digits × (digits_value 10 digits < 2 ^ 128)) text-is ((of.some, all-digits text of.digits), small text of))
