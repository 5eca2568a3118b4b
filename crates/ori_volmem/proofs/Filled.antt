-- The bytes of a picked image.
use Rattle.std.proofs.Common.{◌≡◌, ◌≤◌, ◌<◌, ◌+◌, ◌-◌, ℕ, min, Bool, not, ◌&&◌, ◌==◌, if◌then◌else◌, nat_le, nat_lt}
use Rattle.std.proofs.Common.{List, ◌++◌, length, take, drop, get_or, replicate, arith, rules, sym, ◌∙◌, ap}
use Rattle.std.proofs.lemmas.List.{places}
use Rattle.std.proofs.lemmas.Bool.Decides.{nat_tests}
use borrow.Rule.Slice.PartMut.{put_mid, mid_of, same_len_mid}
use Rattle.ori_volmem.specs.declared.span.Span.{Span}
use Rattle.ori_volume.specs.Disk.{FileData}
use Rattle.ori_volmem.specs.Record.{in_span, is_before}
use Rattle.ori_volmem.specs.Crashes.{crash_length, loose_byte, crash_byte, IsFileCrash}

pub mid_byte : (old mid : List ℕ) (from count k : ℕ) (byte : ℕ → ℕ) (test : Bool) → from + count ≤ length old
    → length mid ≡ count
    → ((i : ℕ) → i < count → get_or mid i 0 ≡ byte (from + i)) → test ≡ nat_le from k && nat_lt k (from + count)
    → get_or (put_mid from count old mid) k 0 ≡ (if test then byte k else get_or old k 0)
mid_byte old mid from count k byte test fits long part tests = grind (arith, nat_tests, places, part (k - from))

pub span_test : (span : Span) (len from end k : ℕ) → from ≡ min span.from len → k < len
    → nat_lt k end ≡ is_before k span.end → in_span span k ≡ nat_le from k && nat_lt k end
span_test span len from end k starts within ends = grind (arith, nat_tests)

-- the bytes as a read gives them, up to another length
base_byte : (bytes : List ℕ) (n k : ℕ) → k < n
    → get_or (take n (take (min n (length bytes)) bytes) ++ replicate (n - length (take (min n (length bytes)) bytes))
    0) k 0 ≡ get_or bytes k 0
base_byte bytes n k within = grind (arith, places)

pub span_bytes : (old mid : List ℕ) (span : Span) (from end : ℕ) (byte : ℕ → ℕ) → from ≡ min span.from (length old)
    → end ≤ length old → from < end
    → ((k : ℕ) → k < length old → nat_lt k end ≡ is_before k span.end) → length mid ≡ end - from
    → ((i : ℕ) → i < length mid → get_or mid i 0 ≡ byte (from + i))
    → (k : ℕ) → k < length (put_mid from (end - from) old mid)
    → get_or (put_mid from (end - from) old mid) k 0 ≡ (if in_span span k then byte k else get_or old k 0)
span_bytes old mid span from end byte starts fits before ends long part k within =
    let lent : length mid ≡ length (mid_of from (end - from) old) = search (rules, places) in
    let inside : k < length old = omega (arith, same_len_mid from (end - from) old mid lent) in
    let ends_at : end ≡ from + (end - from) = omega arith in
    mid_byte old mid from (end - from) k byte (in_span span k) (omega arith) long (λ i below. part i (omega arith))
    (span_test span (length old) from end k starts inside (ends k inside)
    ∙ ap (λ (e : ℕ). nat_le from k && nat_lt k e) ends_at)

pub image_as_read : (file : FileData) (image : List ℕ) (n pick seed : ℕ)
    → n ≡ crash_length pick seed file.least file.greatest → pick ≡ 0
    → image ≡ take n (take (min n (length file.bytes)) file.bytes)
    ++ replicate (n - length (take (min n (length file.bytes)) file.bytes)) 0
    → IsFileCrash pick seed file image
image_as_read file image n pick seed length_is none is =
    let long : length image ≡ n = ap length is ∙ search (rules, places) in
    record {
      long = long ∙ length_is;
      each = λ k within.
          let below : k < n = omega arith in
          let base = ap (λ (l : List ℕ). get_or l k 0) is ∙ base_byte file.bytes n k below in
          let p : (p : ℕ) → p ≡ 0 → get_or file.bytes k 0 ≡ crash_byte p seed file k =
          λ p zero. grind (arith, nat_tests) in
          base ∙ p pick none;
    }

if_some : (pick : ℕ) → (pick ≡ 0 → ⊥) → (test : Bool) → not (pick == 0) && test ≡ test
if_some pick some test = grind (arith, nat_tests)

pub image_as_drawn : (file : FileData) (base image : List ℕ) (n pick seed : ℕ)
    → n ≡ crash_length pick seed file.least file.greatest → (pick ≡ 0 → ⊥)
    → base ≡ take n (take (min n (length file.bytes)) file.bytes)
    ++ replicate (n - length (take (min n (length file.bytes)) file.bytes)) 0 → length image ≡ length base
    → ((k : ℕ) → k < length image → get_or image k 0 ≡ (if file.loose k then loose_byte pick seed k else get_or base k
    0))
    → IsFileCrash pick seed file image
image_as_drawn file base image n pick seed length_is some is same each =
    let long : length base ≡ n = ap length is ∙ search (rules, places) in
    record {
      long = same ∙ long ∙ length_is;
      each = λ k within.
          let below : k < n = omega arith in
          let at_base = ap (λ (l : List ℕ). get_or l k 0) is ∙ base_byte file.bytes n k below in
          each k within ∙ ap (λ (b : ℕ). if file.loose k then loose_byte pick seed k else b) at_base
          ∙ ap (λ (test : Bool). if test then loose_byte pick seed k else get_or file.bytes k 0)
          (sym (if_some pick some (file.loose k)));
    }

pub resized : (bytes slice front items : List ℕ) (n kept len front_len : ℕ) → slice ≡ bytes → len ≡ length bytes
    → kept ≡ min n len → front ≡ take kept slice → front_len ≡ length front
    → items ≡ take n front ++ replicate (n - front_len) 0
    → items ≡ take n (take (min n (length bytes)) bytes) ++ replicate (n - length (take (min n (length bytes)) bytes)) 0
resized bytes slice front items n kept len front_len same counts keeps is_front front_counts is = cc

pub mid_long : (xs : List ℕ) (from end : ℕ) → end ≤ length xs → from < end
    → length (take (end - from) (drop from xs)) ≡ end - from
mid_long xs from end fits some = search (rules, places)
