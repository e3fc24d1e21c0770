-- What the library's `parse` reads in a field is the number of the field.
use Rattle.std.proofs.Common.{◌≡◌, ◌==◌, ◌&&◌, ℕ, ℤ, pos, negsuc, Bool, true, false, cond, List, [], ◌∷◌, drop, Some, None, Result, Ok, Err, FitsSigned, IsUtf8, IsAscii, if◌then◌else◌, refl, sym, arith}
use Rattle.std.specs.Int.{w64}
use Rattle.std.specs.Result.{result_ok}
use Rattle.std.specs.Str.{all_ascii_digits}
use Rattle.std.specs.Str.Parse.{IsNumeral, ParsesSigned, signed_digits_value, without_leading_sign}
use Rattle.std.proofs.lemmas.Bool.{ltb-true, lt-ltb, eqb-true}
use Rattle.std.proofs.lemmas.Fmt.{IsAscii-from_digits}
use Rattle.std.proofs.lemmas.Str.{IsUtf8-from_ascii}
use Rattle.std.proofs.lemmas.Str.Ascii.{IsAscii-cons, IsAscii-nil}
use Rattle.std.proofs.lemmas.Str.Parse.{IsNumeralModel, numerals_by_value, tells_all_ascii_digits}
use Rattle.std.specs.Str.Parse.{digits_value}
use Rattle.pdw_load.specs.Field.{fits_64_bits, is_whole_number, number_of}

digits : IsNumeralModel (λ ds. all_ascii_digits ds ≡ true) (digits_value 10)
digits = numerals_by_value (λ ds. all_ascii_digits ds ≡ true) tells_all_ascii_digits

both : (a b : Bool) → (a && b) ≡ true → (a ≡ true) × (b ≡ true)
both true b e = (refl, e)
both false b e = cc e

and-true : (a b : Bool) → a ≡ true → b ≡ true → (a && b) ≡ true
and-true a b x y = rw x y

fits-yes : (z : ℤ) → fits_64_bits z ≡ true → FitsSigned w64 z
fits-yes (pos n) e = record { sfits = ltb-true _ _ e }
fits-yes (negsuc n) e = record { sfits = ltb-true _ _ e }

fits-back : (z : ℤ) → FitsSigned w64 z → fits_64_bits z ≡ true
fits-back (pos n) h = lt-ltb _ _ h.sfits
fits-back (negsuc n) h = lt-ltb _ _ h.sfits

numeral : (bs : List ℕ) → is_whole_number bs ≡ true → IsNumeral 10 (without_leading_sign bs)
numeral bs e =
    let parts = both _ _ e in
    (ltb-true _ _ parts.0, digits.to _ parts.1)

whole : (bs : List ℕ) → IsNumeral 10 (without_leading_sign bs) → is_whole_number bs ≡ true
whole bs h = and-true _ _ (lt-ltb _ _ h.0) (digits.from _ h.1)

chosen : {X : Type 0} (x : X) (b : Bool) → b ≡ true → (if b then Some x else None) ≡ Some x
chosen x b e = rw e refl

none : {X : Type 0} (x : X) (b : Bool) → (b ≡ true → ⊥) → (if b then Some x else None) ≡ None
none x true never = absurd (never refl)
none x false never = refl

pub number_of-parsed : {E : Type 0} (bs : List ℕ) (r : Result ℤ E) → ParsesSigned w64 10 bs r → result_ok r ≡ number_of bs
number_of-parsed bs (Ok x) h =
    rw h.1 (sym (chosen (signed_digits_value 10 bs) _ (and-true _ _ (whole bs h.0.0) (fits-back _ h.0.1))))
number_of-parsed bs (Err e) h =
    sym (none (signed_digits_value 10 bs) _ (λ yes.
    let parts = both _ _ yes in
    h (numeral bs parts.0, fits-yes _ parts.1)))

signed : (b : ℕ) (bs : List ℕ) (minus plus : Bool) → (b == 45) ≡ minus → (b == 43) ≡ plus
    → IsAscii (cond minus (drop 1 (b ∷ bs)) (drop (cond plus 1 0) (b ∷ bs))) → IsAscii (b ∷ bs)
signed b bs true plus e f h = let same = eqb-true b 45 e in IsAscii-cons b bs (omega arith) h
signed b bs false true e f h = let same = eqb-true b 43 f in IsAscii-cons b bs (omega arith) h
signed b bs false false e f h = h

ascii-signed : (bs : List ℕ) → IsAscii (without_leading_sign bs) → IsAscii bs
ascii-signed [] h = IsAscii-nil
ascii-signed (b ∷ bs) h = signed b bs (b == 45) (b == 43) refl refl h

-- a field that is not UTF-8 says no number
pub number_of-not_utf8 : (bs : List ℕ) → ¬ (IsUtf8 bs) → number_of bs ≡ None
number_of-not_utf8 bs not_utf8 =
    none (signed_digits_value 10 bs) _ (λ yes.
    not_utf8 (IsUtf8-from_ascii bs (ascii-signed bs (IsAscii-from_digits _ ((numeral bs (both _ _ yes).0).1)))))
