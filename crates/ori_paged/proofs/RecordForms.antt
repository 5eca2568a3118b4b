-- What is read from the pages of the form.
use Rattle.std.proofs.Common.{◌≡◌, ℕ, ◌-◌, ◌<◌, ◌≤◌, ◌^◌, List, [], ◌∷◌, ◌++◌, length, take, drop, replicate, refl}
use Rattle.std.proofs.Common.{arith, length-append}
use Rattle.std.specs.Int.{w16, w32, from_be_bytes, to_be_bytes}
use Rattle.std.proofs.lemmas.Nat.{from_be_bytes-to_be_bytes_2, from_be_bytes-to_be_bytes_4}
use Rattle.std.proofs.lemmas.List.{take_at}
use Rattle.ori_bytes.specs.declared.limits.TheConstants.{PAGE_BYTES, SLOTS_KIND, FIRST_CLUSTER_OWNER}
use Rattle.ori_page.specs.Pages.{page_head}
use Rattle.ori_rows.specs.Stage.{head_page, record_page}

-- a record that a page has room for
pub record_fits : (bytes : List ℕ) → length (record_page bytes) ≡ PAGE_BYTES → length bytes ≤ 4086
record_fits bytes h =
    let front = page_head FIRST_CLUSTER_OWNER SLOTS_KIND ++ to_be_bytes w16 (length bytes) ++ bytes in
    omega (arith, h, length-append front (replicate (PAGE_BYTES - length front) 0))

pub record_length : (bytes : List ℕ) → length bytes ≤ 4086 → from_be_bytes w16 (drop 8
    (record_page bytes)) ≡ length bytes
record_length bytes h = from_be_bytes-to_be_bytes_2 (length bytes) (omega arith)

pub record_bytes_at : (bytes : List ℕ) → take (length bytes) (drop 10 (record_page bytes)) ≡ bytes
record_bytes_at bytes = take_at bytes _ (length bytes) refl

pub pages_counted : (count : ℕ) → count < 2 ^ 32 → from_be_bytes w32 (drop 12 (head_page count)) ≡ count
pages_counted count h = from_be_bytes-to_be_bytes_4 count h

pub no_items : (xs : List ℕ) → length xs ≡ 0 → xs ≡ []
no_items [] h = refl
no_items (x ∷ xs) h = absurd (omega arith)
