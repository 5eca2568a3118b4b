-- What is read back from heads, fresh pages and free ones.
use Rattle.std.proofs.Common.{◌≡◌, ℕ, ◌<◌, ◌^◌, List, drop, refl}
use Rattle.std.proofs.lemmas.Nat.{from_be_bytes-to_be_bytes_4}
use Rattle.ori_bytes.specs.declared.limits.TheConstants.{HEAD_OWNER, HEAD_KIND, FREE_OWNER, FREE_KIND}
use Rattle.ori_page.specs.declared.head.Head.{Head}
use Rattle.ori_page.specs.Pages.{owner_of, kind_of, next_of, fresh_page, free_page}
use Rattle.ori_page.specs.Heads.{head_of, with_head, Fits32}

-- a page with a head's fields reads as that head
pub record ReadsAs (head : Head) (page : List ℕ) : Type 0 where
  pub owner : owner_of page ≡ HEAD_OWNER
  pub kind : kind_of page ≡ HEAD_KIND
  pub format : (head_of page).format ≡ head.format
  pub count : (head_of page).count ≡ head.count
  pub first_free : (head_of page).first_free ≡ head.first_free
  pub free_count : (head_of page).free_count ≡ head.free_count
  pub first_retired : (head_of page).first_retired ≡ head.first_retired
  pub next_index : (head_of page).next_index ≡ head.next_index

pub head_reads : (head : Head) (page : List ℕ) → Fits32 head → ReadsAs head (with_head head page)
unfolding with_head
head_reads head page fits = record {
  owner = refl;
  kind = refl;
  format = from_be_bytes-to_be_bytes_4 head.format fits.format;
  count = from_be_bytes-to_be_bytes_4 head.count fits.count;
  first_free = from_be_bytes-to_be_bytes_4 head.first_free fits.first_free;
  free_count = from_be_bytes-to_be_bytes_4 head.free_count fits.free_count;
  first_retired = from_be_bytes-to_be_bytes_4 head.first_retired fits.first_retired;
  next_index = from_be_bytes-to_be_bytes_4 head.next_index fits.next_index;
}

pub fresh_kind : (owner kind : ℕ) → kind_of (fresh_page owner kind) ≡ kind
fresh_kind owner kind = refl

pub free_owner : (next : ℕ) → owner_of (free_page next) ≡ FREE_OWNER
free_owner next = refl

pub free_kind : (next : ℕ) → kind_of (free_page next) ≡ FREE_KIND
free_kind next = refl

pub free_next : (next : ℕ) → next < 2 ^ 32 → next_of (free_page next) ≡ next
free_next next fits = from_be_bytes-to_be_bytes_4 next fits

pub head_rest : (head : Head) (page : List ℕ) → drop 32 (with_head head page) ≡ drop 32 page
unfolding with_head
head_rest head page = refl
