-- Page 0, the head: what it names, and how it stands in the page's bytes.
use Rattle.std.specs.Prelude.{◌≡◌, ℕ, ◌<◌, ◌^◌, List, ◌++◌, drop}
use Rattle.std.specs.Int.{w32, to_be_bytes}
use Rattle.ori_bytes.specs.declared.limits.TheConstants.{HEAD_OWNER, HEAD_KIND}
use Rattle.ori_page.specs.declared.head.Head.{Head}
use Rattle.ori_page.specs.Pages.{page_head, number_at}

-- what the head's fields name
abbrev pub head_of : List ℕ → Head
head_of page = record {
  format = number_at 8 page;
  count = number_at 12 page;
  first_free = number_at 16 page;
  free_count = number_at 20 page;
  first_retired = number_at 24 page;
  next_index = number_at 28 page;
}

-- the bytes that begin a head
abbrev pub head_bytes : Head → List ℕ
head_bytes head = page_head HEAD_OWNER HEAD_KIND ++ to_be_bytes w32 head.format ++ to_be_bytes w32 head.count
    ++ to_be_bytes w32 head.first_free ++ to_be_bytes w32 head.free_count ++ to_be_bytes w32 head.first_retired
    ++ to_be_bytes w32 head.next_index

-- a page with these fields of a head, and what followed them
unfoldable pub with_head : Head → List ℕ → List ℕ
with_head head page = head_bytes head ++ drop 32 page

-- each field fits its four bytes
pub record Fits32 (head : Head) : Type 0 where
  pub format : head.format < 2 ^ 32
  pub count : head.count < 2 ^ 32
  pub first_free : head.first_free < 2 ^ 32
  pub free_count : head.free_count < 2 ^ 32
  pub first_retired : head.first_retired < 2 ^ 32
  pub next_index : head.next_index < 2 ^ 32

-- The head is as it was but for the numbers of pages and of free pages and the first free page.
pub record KeepsHead (old new : List ℕ) : Type 0 where
  pub format : (head_of new).format ≡ (head_of old).format
  pub first_retired : (head_of new).first_retired ≡ (head_of old).first_retired
  pub next_index : (head_of new).next_index ≡ (head_of old).next_index
  pub rest : drop 32 new ≡ drop 32 old
