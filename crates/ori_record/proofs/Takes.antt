-- What reading takes from the front of bytes is spelled as the grammar says.
use Rattle.std.proofs.Common.{◌≡◌, ◌<◌, ℕ, zero, suc, ◌^◌, Bool, true, cond, ltb}
use Rattle.std.proofs.Common.{leb, ℤ}
use Rattle.std.proofs.Common.{pos, negsuc, Option, Some, None, List, [], ◌∷◌, ◌++◌, length, take, drop, get_or, refl}
use Rattle.std.proofs.Common.{sym}
use Rattle.std.proofs.Common.{ap, subst, ◌∙◌, append_assoc, arith}
use Rattle.std.proofs.lemmas.Bool.{ltb-true, leb-true}
use Rattle.std.proofs.lemmas.Int.{ints}
use Rattle.std.proofs.lemmas.Nat.{be_bytes_4}
use Rattle.std.proofs.lemmas.List.{take-append-drop, length-take-le}
use Rattle.std.proofs.lemmas.Str.{IsUtf8-from_is_utf8}
use Rattle.std.specs.Int.{w32, to_be_bytes, from_be_bytes}
use Rattle.std.specs.Str.{IsUtf8, is_utf8}
use Rattle.ori_bytes.specs.Varint.{IsVarint, zigzag_of}
use Rattle.ori_bytes.specs.declared.rid.Rid.{Rid}
use Rattle.ori_spec_data.specs.Numbers.{IsSigned}
use Rattle.ori_spec_data.specs.Value.{Links, unlinked, linked}
use Rattle.ori_spec_data.specs.Fields.{IsRisingLinks}
use Rattle.ori_spec_data.specs.Sizes.{links_count}
use Rattle.ori_spec_data.specs.Apply.{rises}
use Rattle.ori_record.specs.Spelling.{Joins, IsNumber, IsCount, IsCounted, IsText, IsLink, AreLinks, AreNamedLinks}
use Rattle.ori_record.specs.Reading.{◌>>=◌, octet_at, u32_at, number_at, narrow, narrow_at, as_count, count_at}
use Rattle.ori_record.specs.Reading.{taken_at, counted_at, utf8_at, text_at, link_at, repeat_at, rids_at, named_link_at}
use Rattle.ori_record.specs.Reading.{links_at, link_list_at, link_set_at, link_map_at, is_rising_links}
use Rattle.ori_record.proofs.Options.{bind_some, passed, some_is}
use Rattle.ori_record.proofs.Numbers.{number_taken, narrowed}
use Rattle.ori_record.proofs.Rising.{rising_links_of}

-- the bytes begin with some of which P holds, and these come after them
pub record Takes (P : List ℕ → Type 0) (bytes more : List ℕ) : Type 0 where
  pub front : List ℕ
  pub fact : P front
  pub whole : bytes ≡ front ++ more

pub taken_as : (P Q : List ℕ → Type 0) (bytes more : List ℕ) → Takes P bytes more → ((b : List ℕ) → P b → Q b)
    → Takes Q bytes more
taken_as P Q bytes more t f = record { front = t.front; fact = f t.front t.fact; whole = t.whole }

pub taken_both : (P Q : List ℕ → Type 0) (bytes middle more : List ℕ) → Takes P bytes middle → Takes Q middle more
    → Takes (Joins P Q) bytes more
taken_both P Q bytes middle more t u = record {
  front = t.front ++ u.front;
  fact = record { front = t.front; back = u.front; first = t.fact; second = u.fact; whole = refl };
  whole = t.whole ∙ ap (λ (x : List ℕ). t.front ++ x) u.whole ∙ sym (append_assoc t.front u.front more);
}

-- reading that ends in a value made of what was read
pub made : {X Y : Type 0} (o : Option (X × List ℕ)) (f : X → Y) (y : Y) (more : List ℕ)
    → ◌>>=◌ {B = Y × List ℕ} o (λ x. Some (f x.0, x.1)) ≡ Some (y, more)
    → (x : X) × (o ≡ Some (x, more)) × (f x ≡ y)
made {Y = Y} o f y more e =
    let b = bind_some o (λ x. Some (f x.0, x.1)) (y, more) e in
    let is = some_is (f b.0.0, b.0.1) (y, more) b.2 in
    let rest : b.0.1 ≡ more = ap (λ (x : Y × List ℕ). x.1) is in
    (b.0.0, b.1 ∙ ap (λ (x : List ℕ). Some (b.0.0, x)) rest, ap (λ (x : Y × List ℕ). x.0) is)

-- the same of a test before it
pub made_if : {X Y : Type 0} (o : Option (X × List ℕ)) (test : X → Bool) (f : X → Y) (y : Y) (more : List ℕ)
    → ◌>>=◌ {B = Y × List ℕ} o (λ x. cond (test x.0) (Some (f x.0, x.1)) None) ≡ Some (y, more)
    → (x : X) × (o ≡ Some (x, more)) × (f x ≡ y) × (test x ≡ true)
made_if {Y = Y} o test f y more e =
    let b = bind_some o (λ x. cond (test x.0) (Some (f x.0, x.1)) None) (y, more) e in
    let p = passed (test b.0.0) (Some (f b.0.0, b.0.1)) (y, more) b.2 in
    let is = some_is (f b.0.0, b.0.1) (y, more) p.1 in
    let rest : b.0.1 ≡ more = ap (λ (x : Y × List ℕ). x.1) is in
    (b.0.0, b.1 ∙ ap (λ (x : List ℕ). Some (b.0.0, x)) rest, ap (λ (x : Y × List ℕ). x.0) is, p.0)

-- ---- bytes and numbers

pub octet_taken : (bytes : List ℕ) (b : ℕ) (more : List ℕ) → octet_at bytes ≡ Some (b, more) → (bytes ≡ b ∷ more)
    × (b < 256)
unfolding octet_at
octet_taken [] b more e = absurd cc
octet_taken (x ∷ xs) b more e =
    let p = passed (ltb x 256) (Some (x, xs)) (b, more) e in
    let is = some_is (x, xs) (b, more) p.1 in
    (ap (λ (y : ℕ × List ℕ). y.0 ∷ y.1) is, subst (λ (y : ℕ × List ℕ). y.0 < 256) is (ltb-true x 256 p.0))

four_bytes : (a b c d : ℕ) → a < 256 → b < 256 → c < 256 → d < 256 → (i : ℕ)
    → get_or (a ∷ b ∷ c ∷ d ∷ []) i 0 < 256
four_bytes a b c d h i j k zero = h
four_bytes a b c d h i j k (suc zero) = i
four_bytes a b c d h i j k (suc (suc zero)) = j
four_bytes a b c d h i j k (suc (suc (suc zero))) = k
four_bytes a b c d h i j k (suc (suc (suc (suc n)))) = omega arith

four_whole : (bytes one two three more : List ℕ) (a b c d : ℕ) → (bytes ≡ a ∷ one) × (a < 256)
    → (one ≡ b ∷ two) × (b < 256) → (two ≡ c ∷ three) × (c < 256) → (three ≡ d ∷ more) × (d < 256)
    → (bytes ≡ to_be_bytes w32 (from_be_bytes w32 (a ∷ b ∷ c ∷ d ∷ [])) ++ more)
    × (from_be_bytes w32 (a ∷ b ∷ c ∷ d ∷ []) < 2 ^ 32)
four_whole bytes one two three more a b c d x y z w =
    let four : List ℕ = a ∷ b ∷ c ∷ d ∷ [] in
    let back : to_be_bytes w32 (from_be_bytes w32 four) ≡ four
    = be_bytes_4 four (from_be_bytes w32 four) refl (four_bytes a b c d x.1 y.1 z.1 w.1) refl in
    let whole : bytes ≡ four ++ more
    = x.0 ∙ ap (λ (l : List ℕ). a ∷ l) (y.0 ∙ ap (λ (l : List ℕ). b ∷ l) (z.0 ∙ ap (λ (l : List ℕ). c ∷ l) w.0)) in
    let below : from_be_bytes w32 four < 2 ^ 32 = omega (arith, x.1, y.1, z.1, w.1) in
    (whole ∙ ap (λ (l : List ℕ). l ++ more) (sym back), below)

pub u32_taken : (bytes : List ℕ) (n : ℕ) (more : List ℕ) → u32_at bytes ≡ Some (n, more)
    → (bytes ≡ to_be_bytes w32 n ++ more) × (n < 2 ^ 32)
unfolding u32_at
u32_taken bytes n more e =
    let p = bind_some (octet_at bytes) (λ a. octet_at a.1 >>= λ b. octet_at b.1 >>= λ c. octet_at c.1 >>= λ d.
    Some (from_be_bytes w32 (a.0 ∷ b.0 ∷ c.0 ∷ d.0 ∷ []), d.1)) (n, more) e in
    let a = p.0 in
    let q = bind_some (octet_at a.1) (λ b. octet_at b.1 >>= λ c. octet_at c.1 >>= λ d.
    Some (from_be_bytes w32 (a.0 ∷ b.0 ∷ c.0 ∷ d.0 ∷ []), d.1)) (n, more) p.2 in
    let b = q.0 in
    let r = bind_some (octet_at b.1) (λ c. octet_at c.1 >>= λ d.
    Some (from_be_bytes w32 (a.0 ∷ b.0 ∷ c.0 ∷ d.0 ∷ []), d.1)) (n, more) q.2 in
    let c = r.0 in
    let s = bind_some (octet_at c.1) (λ d.
    Some (from_be_bytes w32 (a.0 ∷ b.0 ∷ c.0 ∷ d.0 ∷ []), d.1)) (n, more) r.2 in
    let d = s.0 in
    let is = some_is (from_be_bytes w32 (a.0 ∷ b.0 ∷ c.0 ∷ d.0 ∷ []), d.1) (n, more) s.2 in
    subst (λ (v : ℕ × List ℕ). (bytes ≡ to_be_bytes w32 v.0 ++ v.1) × (v.0 < 2 ^ 32)) is
    (four_whole bytes a.1 b.1 c.1 d.1 a.0 b.0 c.0 d.0 (octet_taken bytes a.0 a.1 p.1) (octet_taken a.1 b.0 b.1 q.1)
    (octet_taken b.1 c.0 c.1 r.1) (octet_taken c.1 d.0 d.1 s.1))

zigzag_signed : (z : ℤ) → zigzag_of z < 2 ^ 64 → IsSigned 64 z
zigzag_signed (pos n) h = (omega (arith, ints), omega (arith, ints))
zigzag_signed (negsuc n) h = (omega (arith, ints), omega (arith, ints))

-- what a varint spells has 64 bits
pub varint_signed : (bytes : List ℕ) (z : ℤ) → IsVarint bytes z → IsSigned 64 z
varint_signed bytes z v = zigzag_signed z v.range

pub long_taken : (bytes : List ℕ) (z : ℤ) (more : List ℕ) → number_at bytes ≡ Some (z, more)
    → Takes (IsNumber 64 z) bytes more
long_taken bytes z more e =
    let t = (number_taken bytes z more e).1 in
    record { front = t.0; fact = (t.1, varint_signed t.0 z t.1); whole = t.2 }

pub narrow_taken : (bits : ℕ) (bytes : List ℕ) (z : ℤ) (more : List ℕ) → narrow_at bits bytes ≡ Some (z, more)
    → Takes (IsNumber bits z) bytes more
unfolding narrow_at
narrow_taken bits bytes z more e =
    let a = bind_some (number_at bytes) (λ n. narrow bits n.0 >>= λ x. Some (x, n.1)) (z, more) e in
    let b = bind_some (narrow bits a.0.0) (λ x. Some (x, a.0.1)) (z, more) a.2 in
    let n = narrowed bits a.0.0 b.0 b.1 in
    let is = some_is (b.0, a.0.1) (z, more) b.2 in
    let t = (number_taken bytes a.0.0 a.0.1 a.1).1 in
    let value : a.0.0 ≡ z = n.1 ∙ ap (λ (x : ℤ × List ℕ). x.0) is in
    let rest : a.0.1 ≡ more = ap (λ (x : ℤ × List ℕ). x.1) is in
    record {
      front = t.0;
      fact = subst (λ (x : ℤ). IsVarint t.0 x × IsSigned bits x) value (t.1, n.0);
      whole = t.2 ∙ ap (λ (x : List ℕ). t.0 ++ x) rest;
    }

count_is : (z : ℤ) (n : ℕ) → as_count z ≡ Some n → z ≡ pos n
count_is (pos m) n e = ap pos (some_is m n e)
count_is (negsuc m) n e = absurd cc

pub count_taken : (bytes : List ℕ) (n : ℕ) (more : List ℕ) → count_at bytes ≡ Some (n, more)
    → Takes (IsCount n) bytes more
unfolding count_at
count_taken bytes n more e =
    let a = bind_some (number_at bytes) (λ z. as_count z.0 >>= λ x. Some (x, z.1)) (n, more) e in
    let b = bind_some (as_count a.0.0) (λ x. Some (x, a.0.1)) (n, more) a.2 in
    let is = some_is (b.0, a.0.1) (n, more) b.2 in
    let t = (number_taken bytes a.0.0 a.0.1 a.1).1 in
    let value : a.0.0 ≡ pos n = count_is a.0.0 b.0 b.1 ∙ ap (λ (x : ℕ × List ℕ). pos x.0) is in
    let rest : a.0.1 ≡ more = ap (λ (x : ℕ × List ℕ). x.1) is in
    record {
      front = t.0;
      fact = subst (λ (x : ℤ). IsVarint t.0 x) value t.1;
      whole = t.2 ∙ ap (λ (x : List ℕ). t.0 ++ x) rest;
    }

-- ---- texts and links

pub taken_taken : (n : ℕ) (bytes text more : List ℕ) → taken_at n bytes ≡ Some (text, more) → (bytes ≡ text ++ more)
    × (length text ≡ n)
unfolding taken_at
taken_taken n bytes text more e =
    let p = passed (leb n (length bytes)) (Some (take n bytes, drop n bytes)) (text, more) e in
    subst (λ (x : List ℕ × List ℕ). (bytes ≡ x.0 ++ x.1) × (length x.0 ≡ n))
    (some_is (take n bytes, drop n bytes) (text, more) p.1)
    (sym (take-append-drop n bytes), length-take-le n bytes (leb-true n (length bytes) p.0))

counted_from : (bytes : List ℕ) (n : ℕ) (middle text more : List ℕ) → Takes (IsCount n) bytes middle
    → (middle ≡ text ++ more) × (length text ≡ n) → Takes (IsCounted text) bytes more
counted_from bytes n middle text more t u =
    taken_both (IsCount (length text)) (λ b. b ≡ text) bytes middle more
    (subst (λ (k : ℕ). Takes (IsCount k) bytes middle) (sym u.1) t) (record { front = text; fact = refl; whole = u.0 })

pub counted_taken : (bytes text more : List ℕ) → counted_at bytes ≡ Some (text, more)
    → Takes (IsCounted text) bytes more
unfolding counted_at
counted_taken bytes text more e =
    let a = bind_some (count_at bytes) (λ n. taken_at n.0 n.1) (text, more) e in
    counted_from bytes a.0.0 a.0.1 text more (count_taken bytes a.0.0 a.0.1 a.1)
    (taken_taken a.0.0 a.0.1 text more a.2)

pub utf8_taken : (n : ℕ) (bytes text more : List ℕ) → utf8_at n bytes ≡ Some (text, more) → (bytes ≡ text ++ more)
    × (length text ≡ n) × IsUtf8 text
unfolding utf8_at
utf8_taken n bytes text more e =
    let m = made_if (taken_at n bytes) is_utf8 (λ x. x) text more e in
    let t = taken_taken n bytes m.0 more m.1 in
    subst (λ (x : List ℕ). (bytes ≡ x ++ more) × (length x ≡ n) × IsUtf8 x) m.2
    (t.0, t.1, IsUtf8-from_is_utf8 m.0 m.3)

pub text_taken : (bytes text more : List ℕ) → text_at bytes ≡ Some (text, more) → Takes (IsText text) bytes more
unfolding text_at
text_taken bytes text more e =
    let a = bind_some (count_at bytes) (λ n. utf8_at n.0 n.1) (text, more) e in
    let u = utf8_taken a.0.0 a.0.1 text more a.2 in
    taken_as (IsCounted text) (IsText text) bytes more
    (counted_from bytes a.0.0 a.0.1 text more (count_taken bytes a.0.0 a.0.1 a.1) (u.0, u.1)) (λ b h. (h, u.2))

pub link_taken : (bytes : List ℕ) (rid : Rid) (more : List ℕ) → link_at bytes ≡ Some (rid, more)
    → Takes (IsLink rid) bytes more
unfolding link_at
link_taken bytes rid more e =
    let a = bind_some (narrow_at 16 bytes) (λ c. number_at c.1 >>= λ p.
    Some (record { cluster = c.0; position = p.0 }, p.1)) (rid, more) e in
    let b = made (number_at a.0.1) (λ p. record { cluster = a.0.0; position = p }) rid more a.2 in
    subst (λ (r : Rid). Takes (IsLink r) bytes more) b.2
    (taken_both (IsNumber 16 a.0.0) (IsNumber 64 b.0) bytes a.0.1 more (narrow_taken 16 bytes a.0.0 a.0.1 a.1)
    (long_taken a.0.1 b.0 more b.1))

-- ---- one after the other

-- lists of a kind, their bytes, and how long they are
pub record Grows (T R : Type 0) (add : T → R → R) (none : R) (Is : T → List ℕ → Type 0) (Are : R → List ℕ → Type 0)
    (count : R → ℕ) : Type 0 where
  pub first : Are none []
  pub no_more : count none ≡ 0
  pub others : (x : T) (r : R) (b : List ℕ) → Joins (Is x) (Are r) b → Are (add x r) b
  pub one_more : (x : T) (r : R) → count (add x r) ≡ suc (count r)

pub repeat_taken : {T R : Type 0} (one : List ℕ → Option (T × List ℕ)) (add : T → R → R) (none : R)
    (Is : T → List ℕ → Type 0) (Are : R → List ℕ → Type 0) (count : R → ℕ) → Grows T R add none Is Are count
    → ((b : List ℕ) (x : T) (m : List ℕ) → one b ≡ Some (x, m) → Takes (Is x) b m) → (n : ℕ) (bytes : List ℕ) (r : R)
    (more : List ℕ) → repeat_at one add none n bytes ≡ Some (r, more) → Takes (Are r) bytes more × (count r ≡ n)
repeat_taken {R = R} one add none Is Are count g read zero bytes r more e =
    subst (λ (x : R × List ℕ). Takes (Are x.0) bytes x.1 × (count x.0 ≡ 0)) (some_is (none, bytes) (r, more) e)
    (record { front = []; fact = g.first; whole = refl }, g.no_more)
repeat_taken {R = R} one add none Is Are count g read (suc n) bytes r more e =
    let a = bind_some (one bytes) (λ x. repeat_at one add none n x.1 >>= λ xs. Some (add x.0 xs.0, xs.1)) (r, more) e in
    let b = made (repeat_at one add none n a.0.1) (add a.0.0) r more a.2 in
    let t = repeat_taken one add none Is Are count g read n a.0.1 b.0 more b.1 in
    subst (λ (x : R). Takes (Are x) bytes more × (count x ≡ suc n)) b.2 (
      taken_as (Joins (Is a.0.0) (Are b.0)) (Are (add a.0.0 b.0)) bytes more
          (taken_both (Is a.0.0) (Are b.0) bytes a.0.1 more (read bytes a.0.0 a.0.1 a.1) t.0) (g.others a.0.0 b.0),
      g.one_more a.0.0 b.0 ∙ ap suc t.1,
    )

links_grow : Grows Rid (List Rid) (λ rid rids. rid ∷ rids) [] IsLink AreLinks length
links_grow = record { first = refl; no_more = refl; others = λ x r b h. h; one_more = λ x r. refl }

pub link_list_taken : (bytes : List ℕ) (rids : List Rid) (more : List ℕ) → link_list_at bytes ≡ Some (rids, more)
    → Takes (Joins (IsCount (length rids)) (AreLinks rids)) bytes more
unfolding link_list_at rids_at
link_list_taken bytes rids more e =
    let a = bind_some (count_at bytes) (λ n. rids_at n.0 n.1 >>= λ x. Some (x.0, x.1)) (rids, more) e in
    let b = made (rids_at a.0.0 a.0.1) (λ x. x) rids more a.2 in
    let t = repeat_taken link_at (λ rid rids. rid ∷ rids) [] IsLink AreLinks length links_grow link_taken a.0.0 a.0.1
    b.0 more b.1 in
    subst (λ (x : List Rid). Takes (Joins (IsCount (length x)) (AreLinks x)) bytes more) b.2
    (taken_both (IsCount (length b.0)) (AreLinks b.0) bytes a.0.1 more
    (subst (λ (k : ℕ). Takes (IsCount k) bytes a.0.1) (sym t.1) (count_taken bytes a.0.0 a.0.1 a.1)) t.0)

pub link_set_taken : (bytes : List ℕ) (rids : List Rid) (more : List ℕ) → link_set_at bytes ≡ Some (rids, more)
    → Takes (Joins (IsCount (length rids)) (AreLinks rids)) bytes more × (rises rids ≡ true)
unfolding link_set_at
link_set_taken bytes rids more e =
    let m = made_if (link_list_at bytes) rises (λ x. x) rids more e in
    subst (λ (x : List Rid). Takes (Joins (IsCount (length x)) (AreLinks x)) bytes more × (rises x ≡ true)) m.2
    (link_list_taken bytes m.0 more m.1, m.3)

abbrev IsNamedLink : List ℕ × Rid → List ℕ → Type 0
IsNamedLink x bytes = Joins (IsText x.0) (IsLink x.1) bytes

named_link_taken : (bytes : List ℕ) (x : List ℕ × Rid) (more : List ℕ) → named_link_at bytes ≡ Some (x, more)
    → Takes (IsNamedLink x) bytes more
unfolding named_link_at
named_link_taken bytes x more e =
    let a = bind_some (text_at bytes) (λ n. link_at n.1 >>= λ rid. Some ((n.0, rid.0), rid.1)) (x, more) e in
    let b = made (link_at a.0.1) (λ rid. (a.0.0, rid)) x more a.2 in
    subst (λ (y : List ℕ × Rid). Takes (IsNamedLink y) bytes more) b.2
    (taken_both (IsText a.0.0) (IsLink b.0) bytes a.0.1 more (text_taken bytes a.0.0 a.0.1 a.1)
    (link_taken a.0.1 b.0 more b.1))

-- three parts, grouped from the end
pub regrouped : (P Q R : List ℕ → Type 0) (b : List ℕ) → Joins (Joins P Q) R b → Joins P (Joins Q R) b
regrouped P Q R b h = record {
  front = h.first.front;
  back = h.first.back ++ h.back;
  first = h.first.first;
  second = record { front = h.first.back; back = h.back; first = h.first.second; second = h.second; whole = refl };
  whole = h.whole ∙ ap (λ (x : List ℕ). x ++ h.back) h.first.whole ∙ append_assoc h.first.front h.first.back h.back;
}

named_links_grow : Grows (List ℕ × Rid) Links (λ x links. linked x.0 x.1 links) unlinked IsNamedLink AreNamedLinks
    links_count
named_links_grow = record {
  first = refl;
  no_more = refl;
  others = λ x r b h. regrouped (IsText x.0) (IsLink x.1) (AreNamedLinks r) b h;
  one_more = λ x r. omega arith;
}

pub link_map_taken : (bytes : List ℕ) (links : Links) (more : List ℕ) → link_map_at bytes ≡ Some (links, more)
    → Takes (Joins (IsCount (links_count links)) (AreNamedLinks links)) bytes more × IsRisingLinks links
unfolding link_map_at links_at
link_map_taken bytes links more e =
    let a = bind_some (count_at bytes) (λ n. links_at n.0 n.1 >>= λ x.
    cond (is_rising_links x.0) (Some (x.0, x.1)) None) (links, more) e in
    let b = made_if (links_at a.0.0 a.0.1) is_rising_links (λ x. x) links more a.2 in
    let t = repeat_taken named_link_at (λ x links. linked x.0 x.1 links) unlinked IsNamedLink AreNamedLinks links_count
    named_links_grow named_link_taken a.0.0 a.0.1 b.0 more b.1 in
    subst (λ (x : Links). Takes (Joins (IsCount (links_count x)) (AreNamedLinks x)) bytes more × IsRisingLinks x) b.2 (
      taken_both (IsCount (links_count b.0)) (AreNamedLinks b.0) bytes a.0.1 more
          (subst (λ (k : ℕ). Takes (IsCount k) bytes a.0.1) (sym t.1) (count_taken bytes a.0.0 a.0.1 a.1)) t.0,
      rising_links_of b.0 b.3,
    )
