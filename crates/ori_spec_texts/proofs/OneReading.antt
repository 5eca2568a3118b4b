-- Input whose lines all have a form is read so, however much of it is taken at first: whole lines split bytes in one
-- way, and a line
-- that is too long stays so as it goes on.
use Rattle.std.specs.Prelude.{◌≡◌, ◌≢◌, ◌⊎◌, ℕ, ◌+◌, ◌<◌, ◌≤◌, Bool, true, false, nat_lt, ◌==◌, List, [], ◌∷◌, ◌++◌}
use Rattle.std.specs.Prelude.{length, flat_map, IsTrue, if◌then◌else◌, refl}
use Rattle.std.specs.List.{AllByRecursion}
use mathlib.Core.Logic.{inl, inr}
use Rattle.std.proofs.Common.{arith, sym, ap, subst, ◌∙◌, append_assoc}
use Rattle.std.proofs.lemmas.List.{append-nil, length-append}
use Rattle.std.proofs.lemmas.Bool.{true≢false}
use Rattle.std.proofs.lemmas.Bool.Decides.{nat_tests}
use Rattle.ori_bytes.specs.declared.limits.TheConstants.{MAX_LINE_BYTES}
use Rattle.ori_spec_texts.specs.Line.{LineData, StopData, at_end, IsWholeLine, Splits, without_last, body_of}
use Rattle.ori_spec_texts.specs.Line.{is_too_long, is_skipped, Gives, IsTaken, IsMalformed, Reads, IsValid}

-- ---- bytes without a newline

abbrev Lacks : List ℕ → Type 0
Lacks bytes = AllByRecursion (λ b. b ≢ 10) bytes

lacks_none : (front rest : List ℕ) → Lacks (front ++ 10 ∷ rest) → ⊥
lacks_none [] rest lacks = lacks.0 refl
lacks_none (b ∷ front) rest lacks = lacks_none front rest lacks.1

lacks-front : (front rest : List ℕ) → Lacks (front ++ rest) → Lacks front
lacks-front [] rest lacks = tt
lacks-front (b ∷ front) rest lacks = (lacks.0, lacks-front front rest lacks.1)

-- there is one first newline
one_newline : (a x b y : List ℕ) → Lacks a → Lacks b → a ++ 10 ∷ x ≡ b ++ 10 ∷ y → (a ≡ b) × (x ≡ y)
one_newline [] x [] y p q e = (refl, cc)
one_newline [] x (k ∷ b) y p q e = absurd (q.0 (cc))
one_newline (k ∷ a) x [] y p q e = absurd (p.0 (cc))
one_newline (k ∷ a) x (m ∷ b) y p q e =
    let tails : a ++ 10 ∷ x ≡ b ++ 10 ∷ y = cc in
    let ih = one_newline a x b y p.1 q.1 tails in
    let heads : k ≡ m = cc in
    let same : a ≡ b = ih.0 in
    (cc, ih.1)

-- bytes without a newline stand before the first one
stands_before : (bytes rest b y : List ℕ) → Lacks bytes → bytes ++ rest ≡ b ++ 10 ∷ y → (more : List ℕ)
    × (b ≡ bytes ++ more)
stands_before [] rest b y p e = (b, refl)
stands_before (k ∷ bytes) rest [] y p e = absurd (p.0 (cc))
stands_before (k ∷ bytes) rest (m ∷ b) y p e =
    let tails : bytes ++ rest ≡ b ++ 10 ∷ y = cc in
    let heads : m ≡ k = cc in
    let ih = stands_before bytes rest b y p.1 tails in
    let same : b ≡ bytes ++ ih.0 = ih.1 in
    (ih.0, cc)

-- ---- lines that are too long

without_last-short : (b : ℕ) (bytes : List ℕ) → length (without_last b bytes) ≤ length bytes
without_last-short b [] = omega arith
without_last-short b (x ∷ []) = grind (arith, nat_tests)
without_last-short b (x ∷ y ∷ bytes) = omega (arith, without_last-short b (y ∷ bytes))

without_last-append : (b : ℕ) (bytes : List ℕ) (x : ℕ) (more : List ℕ) → without_last b (bytes ++ x ∷ more) ≡ bytes
    ++ without_last b (x ∷ more)
without_last-append b [] x more = refl
without_last-append b (y ∷ []) x more = refl
without_last-append b (y ∷ z ∷ bytes) x more = ap (λ (l : List ℕ). y ∷ l) (without_last-append b (z ∷ bytes) x more)

other_kept : (x : ℕ) → x ≢ 10 → (if x == 10 then [] else x ∷ []) ≡ x ∷ []
other_kept x other = grind (arith, nat_tests)

no_newline_kept : (bytes : List ℕ) → Lacks bytes → without_last 10 bytes ≡ bytes
no_newline_kept [] lacks = refl
no_newline_kept (x ∷ []) lacks = other_kept x lacks.0
no_newline_kept (x ∷ y ∷ bytes) lacks = ap (λ (l : List ℕ). x ∷ l) (no_newline_kept (y ∷ bytes) lacks.1)

-- a body never gets shorter as the line goes on
grows : (bytes more : List ℕ) → length (without_last 13 bytes) ≤ length (without_last 13 (bytes ++ more))
grows bytes [] = omega (arith, ap (λ (l : List ℕ). length (without_last 13 l)) (append-nil bytes))
grows bytes (x ∷ more) = omega (
  arith,
  without_last-short 13 bytes,
  ap length (without_last-append 13 bytes x more),
  length-append bytes (without_last 13 (x ∷ more)),
)

body_grows : (bytes more : List ℕ) → Lacks bytes → length (body_of bytes) ≤ length (body_of (bytes ++ more))
body_grows bytes [] lacks = omega (arith, ap (λ (l : List ℕ). length (body_of l)) (append-nil bytes))
body_grows bytes (x ∷ more) lacks =
    omega (
      arith,
      ap (λ (l : List ℕ). length (without_last 13 l)) (no_newline_kept bytes lacks),
      grows bytes (without_last 10 (x ∷ more)),
      ap (λ (l : List ℕ). length (without_last 13 l)) (without_last-append 10 bytes x more),
    )

longer : (n m : ℕ) → n ≤ m → IsTrue (nat_lt MAX_LINE_BYTES n) → IsTrue (nat_lt MAX_LINE_BYTES m)
longer n m more long = grind (arith, nat_tests)

stays_long : (bytes more : List ℕ) → Lacks bytes → IsTrue (is_too_long bytes) → IsTrue (is_too_long (bytes ++ more))
stays_long bytes more lacks long = longer _ _ (body_grows bytes more lacks) long

-- ---- the first of the lines that bytes give

record FirstIsWhole (ended : Bool) (bytes first : List ℕ) (others : List (List ℕ)) : Type 0 where
  whole : IsWholeLine first
  behind : List ℕ
  parts : bytes ≡ first ++ behind
  given : Gives ended behind others

record FirstIsLast (ended : Bool) (bytes first : List ℕ) (others : List (List ℕ)) : Type 0 where
  lacks : Lacks first
  all : bytes ≡ first
  none : others ≡ []
  why : (IsTrue ended × (0 < length first)) ⊎ IsTrue (is_too_long first)

gives_first : (ended : Bool) (bytes first : List ℕ) (others whole : List (List ℕ)) (rest : List ℕ)
    → Splits bytes whole rest
    → ((first ∷ others ≡ whole) × ((ended ≡ false) ⊎ (rest ≡ [])))
    ⊎ ((first ∷ others ≡ whole ++ rest ∷ []) × ((IsTrue ended × (0 < length rest)) ⊎ IsTrue (is_too_long rest)))
    → FirstIsWhole ended bytes first others ⊎ FirstIsLast ended bytes first others
gives_first ended bytes first others [] rest splits (inl p) = absurd (cc (p.0))
gives_first ended bytes first others [] rest splits (inr p) =
    let same : first ≡ rest = cc (p.0) in
    inr (record {
      lacks = subst (λ (l : List ℕ). Lacks l) (sym same) splits.partial;
      all = splits.whole ∙ sym same;
      none = cc (p.0);
      why = subst (λ (l : List ℕ). (IsTrue ended × (0 < length l)) ⊎ IsTrue (is_too_long l)) (sym same) p.1;
    })
gives_first ended bytes first others (line ∷ lines) rest splits (inl p) =
    let same : first ≡ line = cc (p.0) in
    let rests : others ≡ lines = cc (p.0) in
    inl (record {
      whole = subst (λ (l : List ℕ). IsWholeLine l) (sym same) splits.each.0;
      behind = flat_map (λ l. l) lines ++ rest;
      parts = splits.whole ∙ append_assoc line (flat_map (λ l. l) lines) rest
          ∙ ap (λ (l : List ℕ). l ++ (flat_map (λ k. k) lines ++ rest)) (sym same);
      given = record {
        split = (
          lines,
          rest,
          record { whole = refl; each = splits.each.1; partial = splits.partial },
          inl (rests, p.1),
        );
      };
    })
gives_first ended bytes first others (line ∷ lines) rest splits (inr p) =
    let same : first ≡ line = cc (p.0) in
    let rests : others ≡ lines ++ rest ∷ [] = cc (p.0) in
    inl (record {
      whole = subst (λ (l : List ℕ). IsWholeLine l) (sym same) splits.each.0;
      behind = flat_map (λ l. l) lines ++ rest;
      parts = splits.whole ∙ append_assoc line (flat_map (λ l. l) lines) rest
          ∙ ap (λ (l : List ℕ). l ++ (flat_map (λ k. k) lines ++ rest)) (sym same);
      given = record {
        split = (
          lines,
          rest,
          record { whole = refl; each = splits.each.1; partial = splits.partial },
          inr (rests, p.1),
        );
      };
    })

first_of_lines : (ended : Bool) (bytes first : List ℕ) (others : List (List ℕ)) → Gives ended bytes (first ∷ others)
    → FirstIsWhole ended bytes first others ⊎ FirstIsLast ended bytes first others
first_of_lines ended bytes first others g = gives_first ended bytes first others g.split.0 g.split.1 g.split.2 g.split.3

no_line : (bytes : List ℕ) (whole : List (List ℕ)) (rest : List ℕ) → Splits bytes whole rest
    → (([] ≡ whole) × ((true ≡ false) ⊎ (rest ≡ []))) ⊎ (([] ≡ whole ++ rest ∷ [])
    × ((IsTrue true × (0 < length rest)) ⊎ IsTrue (is_too_long rest))) → bytes ≡ []
no_line bytes [] rest splits (inl (none, inl never)) = absurd (true≢false never)
no_line bytes [] rest splits (inl (none, inr nothing)) = splits.whole ∙ nothing
no_line bytes [] rest splits (inr p) = absurd (cc (p.0))
no_line bytes (line ∷ lines) rest splits (inl p) = absurd (cc (p.0))
no_line bytes (line ∷ lines) rest splits (inr p) = absurd (cc (p.0))

-- input that ends without a line is empty
no_lines : (bytes : List ℕ) → Gives true bytes [] → bytes ≡ []
no_lines bytes g = no_line bytes g.split.0 g.split.1 g.split.2 g.split.3

-- ---- a line that has a form, behind which reading goes on

record Fine (at : ℕ) (line : List ℕ) (lines : List (List ℕ)) : Type 0 where
  taken : IsTaken line (at + length line)
  formed : IsMalformed line (at + length line) → ⊥
  said : List LineData
  more : Reads (at + length line) lines said at_end

pub true_false : (b : Bool) → IsTrue b → b ≡ false → ⊥
true_false true h e = true≢false e
true_false false h e = absurd (cc (h))

fine_of : (at : ℕ) (line : List ℕ) (lines : List (List ℕ)) (said : List LineData) → Reads at (line ∷ lines) said at_end
    → Fine at line lines
fine_of at line lines said (inl p) =
    record { taken = p.0; formed = λ bad. true_false (is_skipped line) p.1 bad.counts; said = said; more = p.2 }
fine_of at line lines said (inr (inl p)) =
    record { taken = p.3.taken; formed = λ bad. bad.none p.0 p.3.text p.3.says; said = p.1; more = p.4 }
fine_of at line lines said (inr (inr (inl p))) = absurd (cc (p.2))
fine_of at line lines said (inr (inr (inr (inl p)))) = absurd (cc (p.2))
fine_of at line lines said (inr (inr (inr (inr p)))) = absurd (cc (p.3))

-- reading comes past it
past_fine : (at : ℕ) (line : List ℕ) (valid lines : List (List ℕ)) (said : List LineData) (stop : StopData)
    → Fine at line valid → Reads at (line ∷ lines) said stop
    → ((said : List LineData) → Reads (at + length line) lines said stop → stop ≡ at_end) → stop ≡ at_end
past_fine at line valid lines said stop fine (inl p) go_on = go_on said p.2
past_fine at line valid lines said stop fine (inr (inl p)) go_on = go_on p.1 p.4
past_fine at line valid lines said stop fine (inr (inr (inl p))) go_on = absurd (fine.formed p.0)
past_fine at line valid lines said stop fine (inr (inr (inr (inl p)))) go_on =
    absurd (true_false (is_too_long line) p.0 fine.taken.short)
past_fine at line valid lines said stop fine (inr (inr (inr (inr p)))) go_on =
    absurd (omega (arith, fine.taken.within, p.1))

-- ---- what was taken of input that is valid

-- the first line of what was taken is whole
whole_first : (at : ℕ) (line : List ℕ) (valid lines unread : List (List ℕ)) (said valid_said : List LineData)
    (stop : StopData) (input taken rest : List ℕ) (ended : Bool)
    → input ≡ taken ++ rest → FirstIsWhole ended taken line (lines ++ unread) → Gives true input valid
    → Reads at (line ∷ lines) said stop → Reads at valid valid_said at_end
    → ((behind : List ℕ) (others : List (List ℕ)) (said more : List LineData) → Gives ended behind (lines ++ unread)
    → Gives true (behind ++ rest) others
    → Reads (at + length line) lines said stop → Reads (at + length line) others more at_end → stop ≡ at_end)
    → stop ≡ at_end
whole_first at line [] lines unread said valid_said stop input taken rest ended parts first given reads valid_reads
    go_on =
    let none : input ≡ [] = no_lines input given in
    let sum : 0 ≡ length line + length first.behind + length rest =
    ap length (sym none ∙ parts) ∙ length-append taken rest ∙ ap (λ (n : ℕ). n + length rest)
    (ap length first.parts ∙ length-append line first.behind) in
    absurd (omega (arith, sum, ap length first.whole.1, length-append first.whole.0 (10 ∷ [])))
whole_first at line (other ∷ others) lines unread said valid_said stop input taken rest ended parts first given reads
    valid_reads go_on =
    let all : input ≡ line ++ (first.behind ++ rest) =
    parts ∙ ap (λ (l : List ℕ). l ++ rest) first.parts ∙ append_assoc line first.behind rest in
    let from : input ≡ first.whole.0 ++ 10 ∷ (first.behind ++ rest) =
    all ∙ ap (λ (l : List ℕ). l ++ (first.behind ++ rest)) first.whole.1
    ∙ append_assoc first.whole.0 (10 ∷ []) (first.behind ++ rest) in
    elim (first_of_lines true input other others given) [
      | inl w ↦
          let there : input ≡ w.whole.0 ++ 10 ∷ w.behind =
          w.parts ∙ ap (λ (l : List ℕ). l ++ w.behind) w.whole.1 ∙ append_assoc w.whole.0 (10 ∷ []) w.behind in
          let one = one_newline w.whole.0 w.behind first.whole.0 (first.behind ++ rest) w.whole.2 first.whole.2
          (sym there ∙ from) in
          let same : other ≡ line = w.whole.1 ∙ ap (λ (l : List ℕ). l ++ 10 ∷ []) one.0 ∙ sym first.whole.1 in
          let fine = fine_of at line others valid_said (subst (λ (l : List ℕ). Reads at (l ∷ others) valid_said at_end)
          same valid_reads) in
          past_fine at line others lines said stop fine reads
          (λ more goes. go_on first.behind others more fine.said first.given
          (subst (λ (l : List ℕ). Gives true l others) one.1 w.given) goes fine.more)
      | inr last ↦ absurd (lacks_none first.whole.0 (first.behind ++ rest)
          (subst (λ (l : List ℕ). Lacks l) (sym last.all ∙ from) last.lacks))
    ]

-- the one line of what was taken has no end
last_first : (at : ℕ) (line : List ℕ) (valid lines : List (List ℕ)) (said valid_said : List LineData) (stop : StopData)
    (input taken rest : List ℕ) (ended : Bool)
    → input ≡ taken ++ rest → (IsTrue ended → rest ≡ []) → lines ≡ [] → FirstIsLast ended taken line []
    → Gives true input valid → Reads at (line ∷ lines) said stop → Reads at valid valid_said at_end
    → stop ≡ at_end
last_first at line [] lines said valid_said stop input taken rest ended parts over none first given reads valid_reads =
    let empty : [] ≡ line ++ rest = sym (no_lines input given) ∙ parts ∙ ap (λ (l : List ℕ). l ++ rest) first.all in
    let sum : 0 ≡ length line + length rest = ap length empty ∙ length-append line rest in
    elim first.why [
      | inl some ↦ absurd (omega (arith, some.1, sum))
      | inr long ↦ absurd (true_false (is_too_long (line ++ rest)) (stays_long line rest first.lacks long)
          (ap is_too_long (sym empty)))
    ]
last_first at line (other ∷ others) lines said valid_said stop input taken rest ended parts over none first given reads
    valid_reads =
    let all : input ≡ line ++ rest = parts ∙ ap (λ (l : List ℕ). l ++ rest) first.all in
    let fine = fine_of at other others valid_said valid_reads in
    elim (first_of_lines true input other others given) [
      | inl w ↦
          let there : line ++ rest ≡ w.whole.0 ++ 10 ∷ w.behind =
          sym all ∙ w.parts ∙ ap (λ (l : List ℕ). l ++ w.behind) w.whole.1
          ∙ append_assoc w.whole.0 (10 ∷ []) w.behind in
          let before = stands_before line rest w.whole.0 w.behind first.lacks there in
          let goes : other ≡ line ++ (before.0 ++ 10 ∷ []) =
          w.whole.1 ∙ ap (λ (l : List ℕ). l ++ 10 ∷ []) before.1 ∙ append_assoc line before.0 (10 ∷ []) in
          elim first.why [
            | inl some ↦
                let end : line ≡ w.whole.0 ++ 10 ∷ w.behind =
                sym (append-nil line) ∙ ap (λ (l : List ℕ). line ++ l) (sym (over some.0)) ∙ there in
                absurd (lacks_none w.whole.0 w.behind (subst (λ (l : List ℕ). Lacks l) end first.lacks))
            | inr long ↦ absurd (true_false (is_too_long other)
                (subst (λ (l : List ℕ). IsTrue (is_too_long l)) (sym goes)
                (stays_long line (before.0 ++ 10 ∷ []) first.lacks long)) fine.taken.short)
          ]
      | inr last ↦
          let goes : other ≡ line ++ rest = sym last.all ∙ all in
          elim first.why [
            | inl some ↦
                let same : other ≡ line = goes ∙ ap (λ (l : List ℕ). line ++ l) (over some.0) ∙ append-nil line in
                past_fine at line others lines said stop (subst (λ (l : List ℕ). Fine at l others) same fine) reads
                (λ more past. (subst (λ (ls : List (List ℕ)). Reads (at + length line) ls more stop) none past).1)
            | inr long ↦ absurd (true_false (is_too_long other)
                (subst (λ (l : List ℕ). IsTrue (is_too_long l)) (sym goes) (stays_long line rest first.lacks long))
                fine.taken.short)
          ]
    ]

none_of_both : (xs ys : List (List ℕ)) → xs ++ ys ≡ [] → xs ≡ []
none_of_both [] ys e = refl
none_of_both (x ∷ xs) ys e = absurd (cc (e))

reads_valid : (at : ℕ) (lines unread valid : List (List ℕ)) (said valid_said : List LineData) (stop : StopData)
    (input taken rest : List ℕ) (ended : Bool)
    → input ≡ taken ++ rest → (IsTrue ended → rest ≡ []) → Gives ended taken (lines ++ unread) → Gives true input valid
    → Reads at lines said stop → Reads at valid valid_said at_end
    → stop ≡ at_end
reads_valid at [] unread valid said valid_said stop input taken rest ended parts over given valid_given reads
    valid_reads = reads.1
reads_valid at (line ∷ lines) unread valid said valid_said stop input taken rest ended parts over given valid_given
    reads valid_reads =
    elim (first_of_lines ended taken line (lines ++ unread) given) [
      | inl w ↦ whole_first at line valid lines unread said valid_said stop input taken rest ended parts w valid_given
          reads valid_reads
          (λ behind others more valid_more given_more valid_given_more reads_more valid_reads_more.
          reads_valid (at + length line) lines unread others more valid_more stop (behind ++ rest) behind rest ended
          refl over given_more valid_given_more reads_more valid_reads_more)
      | inr last ↦
          let none : lines ≡ [] = none_of_both lines unread last.none in
          last_first at line valid lines said valid_said stop input taken rest ended parts over none
          (record { lacks = last.lacks; all = last.all; none = refl; why = last.why }) valid_given reads valid_reads
    ]

-- Of valid input some was taken, all of it where it ended: its lines, as far as they were read, had a form each.
pub valid_reads_on : (input taken rest : List ℕ) (ended : Bool) (lines unread : List (List ℕ)) (said : List LineData)
    (stop : StopData) → IsValid input → input ≡ taken ++ rest
    → (IsTrue ended → rest ≡ []) → Gives ended taken (lines ++ unread) → Reads 0 lines said stop → stop ≡ at_end
valid_reads_on input taken rest ended lines unread said stop valid parts over given reads =
    reads_valid 0 lines unread valid.0 said valid.1 stop input taken rest ended parts over given valid.2 reads valid.3
