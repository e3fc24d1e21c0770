-- What the test of UTF-8 says of the text of some bytes.
use Rattle.std.proofs.Common.{◌≡◌, ℕ, List, Bool, true, false, Some, None, ap, refl, if◌then◌else◌}
use Rattle.std.specs.Str.{IsUtf8, is_utf8}
use Rattle.std.proofs.lemmas.Str.{IsUtf8-from_is_utf8, is_utf8-from_IsUtf8}
use Rattle.pdw_base.specs.Text.{text_of}

pub text_of-IsUtf8 : (bytes : List ℕ) → IsUtf8 bytes → text_of bytes ≡ Some bytes
text_of-IsUtf8 bytes utf8 = ap (λ b. if b then Some bytes else None) (is_utf8-from_IsUtf8 bytes utf8)

pub text_of-not_utf8 : (bytes : List ℕ) → ¬ (IsUtf8 bytes) → text_of bytes ≡ None
text_of-not_utf8 bytes none = by (is_utf8 bytes) (λ e. none (IsUtf8-from_is_utf8 bytes e))
  where
    by : (b : Bool) → (b ≡ true → ⊥) → (if b then Some bytes else None) ≡ None
    by true never = absurd (never refl)
    by false never = refl
