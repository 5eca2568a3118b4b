-- Readings of lines follow one another.
use Rattle.std.proofs.Common.{◌≡◌, ◌≢◌, ℕ, ◌+◌, ◌≤◌, Bool, false, List, [], ◌∷◌, ◌++◌, length, refl, sym, ◌∙◌, ap}
use Rattle.std.proofs.Common.{subst, inl, inr, arith, IsTrue, Option}
use Rattle.std.specs.Prelude.{◌⊎◌}
use Rattle.std.proofs.lemmas.Bool.{both_ways}
use Rattle.std.proofs.lemmas.List.{append_assoc, append-nil, length-append}
use Rattle.ori_bytes.specs.declared.limits.TheConstants.{MAX_INPUT_BYTES}
use Rattle.ori_volume.proofs.Pieces.{took_nothing, took_more}
use Rattle.ori_spec_texts.specs.Line.{LineData, StopData, at_end, at_bad_line, at_limit, IsWholeLine, is_too_long}
use Rattle.ori_spec_texts.specs.Line.{Reads}
use Rattle.ori_text.specs.Lines.{Reading, joined, AreWhole, HasLast, Advances}
use Rattle.ori_text.specs.LineReading.{Moves}
use Rattle.ori_text.proofs.Splitting.{joined-append, AreWhole-append}
use Rattle.ori_text.proofs.Reading.{Reads-then}

-- ---- what lines say

at_end≢bad : at_end ≢ at_bad_line
at_end≢bad e = cc

at_end≢limit : at_end ≢ at_limit
at_end≢limit e = cc

nothing_said : (first : LineData) (others : List LineData) → [] ≡ first ∷ others → ⊥
nothing_said first others e = cc

-- the lines before the end of reading end within the limit
pub reads_within : (at : ℕ) (xs : List (List ℕ)) (said : List LineData) → at ≤ MAX_INPUT_BYTES → Reads at xs said at_end
    → at + length (joined xs) ≤ MAX_INPUT_BYTES
reads_within at [] said within p = omega arith
reads_within at (x ∷ xs) said within p =
    let here : at + length (x ++ joined xs) ≡ (at + length x) + length (joined xs) =
    omega (arith, length-append x (joined xs)) in
    elim p [
      | inl skipped ↦ omega (arith, reads_within (at + length x) xs said skipped.0.within skipped.2)
      | inr others ↦ elim others [
        | inl first ↦ omega (arith, reads_within (at + length x) xs first.1 first.3.taken.within first.4)
        | inr ends ↦ elim ends [
          | inl malformed ↦ absurd (at_end≢bad malformed.2)
          | inr long ↦ elim long [
            | inl too_long ↦ absurd (at_end≢bad too_long.2)
            | inr limit ↦ absurd (at_end≢limit limit.3)
          ]
        ]
      ]
    ]

-- ---- readings

pub no_advance : (r : Reading) → Advances r r [] [] [] at_end
no_advance r = record {
  parts = append-nil r.held;
  given = omega arith;
  reads = (refl, refl);
  whole = inl tt;
  over = λ e. (refl, e);
}

empty_left : (xs ys : List ℕ) → [] ≡ xs ++ ys → (xs ≡ []) × (ys ≡ [])
empty_left [] ys e = (refl, sym e)
empty_left (x ∷ xs) ys e = absurd (cc)

whole_line_some : (line : List ℕ) → IsWholeLine line → line ≢ []
whole_line_some line w e = not_nil w.0 (sym e ∙ w.1) where
  not_nil : (before : List ℕ) → [] ≡ before ++ 10 ∷ [] → ⊥
  not_nil [] q = cc
  not_nil (b ∷ bs) q = cc

-- whole lines that hold no byte are none
no_whole : (ys : List (List ℕ)) → AreWhole ys → joined ys ≡ [] → ys ≡ []
no_whole [] w e = refl
no_whole (y ∷ ys) w e = absurd (whole_line_some y w.0 (empty_left y (joined ys) (sym e)).0)

no_last : (ended : Bool) (ys : List (List ℕ)) (held : List ℕ) → HasLast ended ys held → joined ys ≡ [] → ⊥
no_last ended ys held l e =
    let all : joined l.front ++ joined (l.last ∷ []) ≡ [] =
    sym (joined-append l.front (l.last ∷ [])) ∙ (sym (ap joined l.parts) ∙ e) in
    let last_nil : l.last ++ [] ≡ [] = (empty_left (joined l.front) (joined (l.last ∷ [])) (sym all)).1 in
    let none : length l.last ≡ 0 = sym (ap length (append-nil l.last)) ∙ ap length last_nil in
    omega (arith, l.some)

-- a line that is passed over isn't too long
pub reads_short : (at : ℕ) (xs : List (List ℕ)) (last : List ℕ) → Reads at (xs ++ last ∷ []) [] at_end
    → is_too_long last ≡ false
reads_short at [] last p = elim p [
  | inl skipped ↦ skipped.0.short
  | inr others ↦ elim others [
    | inl first ↦ absurd (nothing_said first.0 first.1 first.2)
    | inr ends ↦ elim ends [
      | inl malformed ↦ absurd (at_end≢bad malformed.2)
      | inr long ↦ elim long [
        | inl too_long ↦ absurd (at_end≢bad too_long.2)
        | inr limit ↦ limit.0
      ]
    ]
  ]
]
reads_short at (x ∷ xs) last p = elim p [
  | inl skipped ↦ reads_short (at + length x) xs last skipped.2
  | inr others ↦ elim others [
    | inl first ↦ absurd (nothing_said first.0 first.1 first.2)
    | inr ends ↦ elim ends [
      | inl malformed ↦ absurd (at_end≢bad malformed.2)
      | inr long ↦ elim long [
        | inl too_long ↦ absurd (at_end≢bad too_long.2)
        | inr limit ↦ absurd (at_end≢limit limit.3)
      ]
    ]
  ]
]

-- behind a last line that wasn't too long nothing comes
last_stays : (at : ℕ) (b c : Reading) (others : List ℕ) (xs ys : List (List ℕ)) (said : List LineData) (stop : StopData)
    → Reads at xs [] at_end → HasLast b.ended xs b.held → Advances b c others ys said stop → AreWhole (xs ++ ys)
    ⊎ HasLast c.ended (xs ++ ys) c.held
last_stays at b c others xs ys said stop reads last q =
    let short : is_too_long last.last ≡ false =
    reads_short at last.front last.last (subst (λ t. Reads at t [] at_end) last.parts reads) in
    let ended : IsTrue b.ended = elim last.why [ inl e ↦ e | inr long ↦ absurd (both_ways _ short long) ] in
    let over = q.over ended in
    let nothing : [] ≡ joined ys ++ c.held =
    sym (ap (λ t. t ++ others) last.nothing_held ∙ over.0) ∙ q.parts in
    let both = empty_left (joined ys) c.held nothing in
    let none : ys ≡ [] = elim q.whole [
      | inl whole ↦ no_whole ys whole both.0
      | inr l ↦ absurd
          (no_last c.ended ys c.held l both.0)
    ] in
    inr (record {
      front = last.front;
      last = last.last;
      parts = ap (λ t. xs ++ t) none ∙ (append-nil xs ∙ last.parts);
      whole = last.whole;
      unfinished = last.unfinished;
      some = last.some;
      nothing_held = both.1;
      why = inl over.1;
    })

pub advance_more : (a b c : Reading) (more others : List ℕ) (xs ys : List (List ℕ)) (said : List LineData)
    (stop : StopData)
    → Advances a b more xs [] at_end → Advances b c others ys said stop
    → Advances a c (more ++ others) (xs ++ ys) said stop
advance_more a b c more others xs ys said stop p q = record {
  parts =
      sym (append_assoc a.held more others)
      ∙ (ap (λ t. t ++ others) p.parts
      ∙ (append_assoc (joined xs) b.held others
      ∙ (ap (λ t. joined xs ++ t) q.parts
      ∙ (sym (append_assoc (joined xs) (joined ys) c.held)
      ∙ ap (λ t. t ++ c.held) (sym (joined-append xs ys))))));
  given = omega (arith, p.given, q.given, ap length (joined-append xs ys), length-append (joined xs) (joined ys));
  reads = Reads-then a.given xs ys [] said stop p.reads (subst (λ n. Reads n ys said stop) p.given q.reads);
  whole = elim p.whole [
    | inl all ↦ elim q.whole [
      | inl others_whole ↦ inl (AreWhole-append xs ys all others_whole)
      | inr last ↦ inr (record {
        front = xs ++ last.front;
        last = last.last;
        parts = ap (λ t. xs ++ t) last.parts ∙ sym (append_assoc xs last.front (last.last ∷ []));
        whole = AreWhole-append xs last.front all last.whole;
        unfinished = last.unfinished;
        some = last.some;
        nothing_held = last.nothing_held;
        why = last.why;
      })
    ]
    | inr last ↦ last_stays a.given b c others xs ys said stop p.reads last q
  ];
  over = λ e.
      let first = p.over e in
      let second = q.over first.1 in
      (ap (λ t. t ++ others) first.0 ∙ second.0, second.1);
}

pub no_move : (left : Option (List ℕ)) (r : Reading) → Moves left left r r [] at_end
no_move left r = record {
  more = [];
  lines = [];
  took = took_nothing left;
  advances = no_advance r;
  source_end =
      λ before e. before e;
}

pub move_more : (left_a left_b left_c : Option (List ℕ)) (a b c : Reading) (said : List LineData) (stop : StopData)
    → Moves left_a left_b a b [] at_end → Moves left_b left_c b c said stop → Moves left_a left_c a c said stop
move_more left_a left_b left_c a b c said stop p q = record {
  more = p.more ++ q.more;
  lines = p.lines ++ q.lines;
  took = took_more left_a left_b left_c p.more q.more p.took q.took;
  advances = advance_more a b c p.more q.more p.lines q.lines said stop p.advances q.advances;
  source_end = λ before e. q.source_end (p.source_end before) e;
}
