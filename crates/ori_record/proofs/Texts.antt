-- The test of UTF-8.
use Rattle.std.proofs.Common.{◌≡◌, ℕ, Bool, true, false, List, refl}
use Rattle.std.specs.Str.{IsUtf8, is_utf8}
use Rattle.std.proofs.lemmas.Str.{is_utf8-from_IsUtf8, IsUtf8-from_is_utf8}

pub utf8_yes : (bytes : List ℕ) → IsUtf8 bytes → is_utf8 bytes ≡ true
utf8_yes bytes h = is_utf8-from_IsUtf8 bytes h

pub utf8_no : (bytes : List ℕ) → (IsUtf8 bytes → ⊥) → is_utf8 bytes ≡ false
utf8_no bytes h = by (is_utf8 bytes) refl
  where
    by : (b : Bool) → is_utf8 bytes ≡ b → b ≡ false
    by true e = absurd (h (IsUtf8-from_is_utf8 bytes e))
    by false e = refl

pub ruleset utf8_tests = (utf8_yes, utf8_no)
