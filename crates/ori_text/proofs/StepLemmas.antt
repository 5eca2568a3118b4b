-- One step of reading is a reading.
use Rattle.std.proofs.Common.{◌≡◌, ℕ, ◌+◌, ◌-◌, ◌*◌, ◌<◌, ◌≤◌, Bool, true, false, List, [], ◌∷◌, ◌++◌, length, take}
use Rattle.std.proofs.Common.{drop, refl, sym, ◌∙◌, ap, subst, inl, inr, arith, IsTrue, Option, Some, None, Result, Ok}
use Rattle.std.proofs.Common.{Err}
use Rattle.std.specs.Prelude.{◌==◌, if◌then◌else◌}
use Rattle.std.specs.List.{copy_within}
use Rattle.std.proofs.Math.Seq.{take-add}
use Rattle.std.proofs.lemmas.Bool.{both_ways, cases_eq, eq-eqb, ne_eqb}
use Rattle.std.proofs.lemmas.List.{append-nil, length-append, take_at, length-take, length-drop, length-take-le}
use Rattle.ori_bytes.specs.declared.limits.TheConstants.{MAX_INPUT_BYTES}
use Rattle.ori_volume.specs.Causes.{Rose}
use Rattle.ori_volume.specs.Streams.{Took}
use Rattle.ori_volume.proofs.Pieces.{took_nothing}
use Rattle.ori_spec_texts.specs.Line.{LineData, StopData, at_end, at_bad_line, at_limit, is_skipped, IsTaken, IsSaid}
use Rattle.ori_spec_texts.specs.Line.{IsMalformed, Reads}
use Rattle.ori_text.specs.declared.line.Line.{Line}
use Rattle.ori_text.specs.declared.line.TheConstants.{BUFFER_BYTES}
use Rattle.ori_text.specs.declared.line.LineFault.{LineFault}
use Rattle.ori_text.specs.declared.line.LineFault.TheVariants as faults
use Rattle.ori_text.specs.Lines.{Reading, Advances}
use Rattle.ori_text.specs.LineReading.{line_of, IsAtEnd, Moves, HoldsPart, IsLine, IsEndOfInput, IsSourceFault, IsFault}
use Rattle.ori_text.specs.LineReading.{IsNext}
use Rattle.ori_text.specs.LineSteps.{HasNoFront, TakesFront, IsTaking, ReadsMore, progress, GoesFurther, MayGoOn}
use Rattle.ori_text.proofs.Readings.{no_move, move_more, reads_within}
use Rattle.ori_text.proofs.Buffers.{seen}

-- ---- a line taken from what is held

abbrev pub one : List ℕ → List (List ℕ)
one line = line ∷ []

pub advances_by_one : (old new : Reading) (line : List ℕ) (said : List LineData) (stop : StopData)
    → TakesFront old new line → Reads old.given (one line) said stop → Advances old new [] (one line) said stop
advances_by_one old new line said stop t reads = record {
  parts = append-nil old.held ∙ (t.front.parts ∙ ap (λ l. l ++ new.held) (sym (append-nil line)));
  given = t.given ∙ ap (λ l. old.given + length l) (sym (append-nil line));
  reads = reads;
  whole = elim t.front.shape [
    | inl whole ↦ inl (whole, tt)
    | inr last ↦ inr (record {
      front = [];
      last = line;
      parts = refl;
      whole = tt;
      unfinished = last.no_end;
      some = t.front.some;
      nothing_held = last.nothing_behind;
      why = elim last.why [ inl e ↦ inl (t.same_end ∙ e) | inr long ↦ inr long ];
    })
  ];
  over = λ e. (refl, t.same_end ∙ e);
}

moves_by_one : (left : Option (List ℕ)) (old new : Reading) (line : List ℕ) (said : List LineData) (stop : StopData)
    → TakesFront old new line → Reads old.given (one line) said stop → Moves left left old new said stop
moves_by_one left old new line said stop t reads = record {
  more = [];
  lines = one line;
  took = took_nothing left;
  advances = advances_by_one old new line said stop t reads;
  source_end = λ before e. before (sym t.same_end ∙ e);
}

is_said_at : (line : List ℕ) (m n : ℕ) (said : LineData) → m ≡ n → IsSaid line m said → IsSaid line n said
is_said_at line m n said e h = subst (λ k. IsSaid line k said) e h

pub step_said : (left : Option (List ℕ)) (old new : Reading) (said : Line) → (line : List ℕ) × TakesFront old new line
    × IsSaid line new.given (line_of said) → IsLine left left old new said
step_said left old new said h =
    let at_line = is_said_at h.0 new.given (old.given + length h.0) (line_of said) h.1.given h.2 in
    record {
      moves = moves_by_one left old new h.0 (line_of said ∷ []) at_end h.1
          (inr (inl (line_of said, [], refl, at_line, (refl, refl))));
      further = omega (arith, h.1.given, h.1.front.some);
      within = h.2.taken.within;
    }

abbrev bit : Bool → ℕ
bit b = if b then 1 else 0

pub step_skipped : (left : Option (List ℕ)) (old new : Reading) (bound : ℕ) → (line : List ℕ) × TakesFront old new line
    × IsTaken line new.given × IsTrue (is_skipped line)
    → Moves left left old new [] at_end × (new.given ≤ MAX_INPUT_BYTES) × (progress old < progress new)
step_skipped left old new bound h =
    let taken : IsTaken h.0 (old.given + length h.0) = subst (λ n. IsTaken h.0 n) h.1.given h.2 in
    let lengths : length old.held ≡ length h.0 + length new.held =
    ap length h.1.front.parts ∙ length-append h.0 new.held in
    let ends : bit new.ended ≡ bit old.ended = ap bit h.1.same_end in (
      moves_by_one left old new h.0 [] at_end h.1 (inl (taken, h.3, (refl, refl))),
      h.2.within,
      omega
          (arith, h.1.given, h.1.front.some),
    )

pub step_fault : (left : Option (List ℕ)) (before now : ℕ) (old new : Reading) (fault : LineFault)
    → IsTaking old new (Err fault) → IsFault left left before now old new fault
step_fault left before now old new faults.Source h = absurd h
step_fault left before now old new faults.Bad h =
    moves_by_one left old new h.0 [] at_bad_line h.1 (elim h.2 [
      | inl malformed ↦ inr (inr (inl (subst (λ n. IsMalformed h.0 n) h.1.given malformed, refl, refl)))
      | inr long ↦ inr (inr (inr (inl (long, refl, refl))))
    ])
step_fault left before now old new faults.TooLarge h =
    moves_by_one left old new h.0 [] at_limit h.1 (inr (inr (inr
    (inr (h.2, omega (arith, h.1.given, h.3), refl, refl)))))
step_fault left before now old new faults.NoMemory h =
    subst (λ r. Moves left left old r [] at_end) (sym h) (no_move left old)

-- ---- the end, and more

pub step_end : (left : Option (List ℕ)) (old new : Reading) → new ≡ old → HasNoFront new → IsTrue new.ended
    → IsEndOfInput left left old new
step_end left old new same none ended = record {
  moves = subst (λ r. Moves left left old r [] at_end) (sym same) (no_move left old);
  nothing_held = none.last ended;
  ended = ended;
}

pub source_fault : (left_old left_new : Option (List ℕ)) (before now : ℕ) (old mid new : Reading) → mid ≡ old
    → HasNoFront mid → mid.ended ≡ false
    → (left_new ≡ left_old) × (new ≡ mid) × Rose before now → IsSourceFault left_old left_new before now old new
source_fault left_old left_new before now old mid new same none going h =
    let there : Moves left_old left_old old new [] at_end =
    subst (λ r. Moves left_old left_old old r [] at_end) (sym (h.1 ∙ same)) (no_move left_old old) in
    record {
      moves = subst (λ l. Moves left_old l old new [] at_end) (sym h.0) there;
      part = subst (λ r. HoldsPart r) (sym h.1) none.part;
      goes_on = ap (λ (r : Reading). r.ended) h.1 ∙ going;
      rose = h.2;
    }

pub step_read : (left_old left_new : Option (List ℕ)) (old new : Reading) → old.given ≤ MAX_INPUT_BYTES
    → old.ended ≡ false → ReadsMore left_old left_new old new
    → Moves left_old left_new old new [] at_end × (new.given ≤ MAX_INPUT_BYTES) × (progress old < progress new)
step_read left_old left_new old new within going h = (
  record {
    more = h.more;
    lines = [];
    took = h.took;
    advances = record {
      parts = sym h.held;
      given = h.given ∙ omega arith;
      reads = (refl, refl);
      whole = inl tt;
      over = λ e. absurd (both_ways _ going e);
    };
    source_end = λ before e. elim h.goes_on [ inl on ↦ absurd (both_ways _ on.1 e) | inr over ↦ over.2 ];
  },
  omega (arith, h.given),
  elim h.goes_on [
    | inl on ↦
        let lengths : length new.held ≡ length old.held + length h.more =
        ap length h.held ∙ length-append old.held h.more in
        let now : bit new.ended ≡ 0 = ap bit on.1 in
        let was : bit old.ended ≡ 0 = ap bit going in
        omega (arith, h.given, on.0)
    | inr over ↦
        let lengths : length new.held ≡ length old.held + length h.more =
        ap length h.held ∙ length-append old.held h.more in
        let now : bit new.ended ≡ 1 = ap bit over.1 in
        let was : bit old.ended ≡ 0 = ap bit going in
        omega (arith, h.given)
  ],
)

-- ---- reading into the buffer

pub moved : (buffer : List ℕ) (start end : ℕ) → start ≤ end → end ≤ length buffer
    → take (end - start) (copy_within buffer start end 0) ≡ take (end - start) (drop start buffer)
moved buffer start end order fits =
    take_at (take (end - start) (drop start buffer)) (drop (0 + (end - start)) buffer) (end - start)
    (length-take-le (end - start) (drop start buffer) (omega (arith, length-drop start buffer)))

-- what the reader held, with what was read behind it
pub held_more : (buffer moved_buffer new_buffer : List ℕ) (start end count : ℕ) → start ≤ end → end ≤ length buffer
    → moved_buffer ≡ copy_within buffer start end 0
    → take (end - start) new_buffer ≡ take (end - start) moved_buffer
    → take ((end - start) + count) new_buffer ≡ take (end - start) (drop start buffer)
    ++ take count (drop (end - start) new_buffer)
held_more buffer moved_buffer new_buffer start end count order fits is front =
    take-add (end - start) count new_buffer
    ∙ ap (λ t. t ++ take count (drop (end - start) new_buffer))
    (front ∙ (ap (λ t. take (end - start) t) is ∙ moved buffer start end order fits))

end_left : (left_old left_new : Option (List ℕ)) (bytes : List ℕ) → bytes ≡ [] → Took left_old left_new bytes
    → IsAtEnd left_old → IsAtEnd left_new
end_left None None bytes e took end = tt
end_left None (Some xs) bytes e took end = absurd (cc)
end_left (Some xs) None bytes e took end = absurd (cc (took.2))
end_left (Some xs) (Some ys) bytes e took end =
    let same : ys ≡ took.0 = cc (took.2) in
    same ∙ (sym (ap (λ b. b ++ took.0) e) ∙ (sym took.1 ∙ end))

pub reads_more : (left_old left_new : Option (List ℕ)) (buffer moved_buffer new_buffer : List ℕ)
    (start end count given : ℕ) (view : Reading) (ended : Bool)
    → seen buffer start end given ended ≡ view → start ≤ end → end ≤ length buffer
    → moved_buffer ≡ copy_within buffer start end 0
    → take (end - start) new_buffer ≡ take (end - start) moved_buffer → (end - start) + count ≤ length new_buffer
    → Took left_old left_new (take count (drop (end - start) new_buffer)) → (count ≡ 0 → IsAtEnd left_old)
    → ReadsMore left_old left_new view (seen new_buffer 0 ((end - start) + count) given (count == 0))
reads_more left_old left_new buffer moved_buffer new_buffer start end count given view ended is order fits copy front
    room took over = record {
      more = take count (drop (end - start) new_buffer);
      took = took;
      held = ap (λ n. take n new_buffer) (omega arith) ∙ (held_more buffer moved_buffer new_buffer start end count order
          fits copy front ∙ ap (λ (r : Reading). r.held ++ take count (drop (end - start) new_buffer)) is);
      given = ap (λ (r : Reading). r.given) is;
      goes_on = elim (cases_eq count 0) [
        | inl zero ↦
            let nothing : take count (drop (end - start) new_buffer) ≡ [] =
            ap (λ n. take n (drop (end - start) new_buffer)) zero in
            inr (nothing, eq-eqb count 0 zero, end_left left_old left_new _ nothing took (over zero))
        | inr some ↦
            inl (
              omega (arith, length-take count (drop (end - start) new_buffer), length-drop (end - start) new_buffer),
              ne_eqb count 0 some,
            )
      ];
    }

-- ---- steps after one another

-- where reading stands between two steps
pub record Waits (left_old left_new : Option (List ℕ)) (before now : ℕ) (old new : Reading) : Type 0 where
  pub moves : Moves left_old left_new old new [] at_end
  pub within : new.given ≤ MAX_INPUT_BYTES
  pub later : before ≤ now

pub waits_first : (left : Option (List ℕ)) (faults_now : ℕ) (r : Reading) → r.given ≤ MAX_INPUT_BYTES
    → Waits left left faults_now faults_now r r
waits_first left faults_now r within = record { moves = no_move left r; within = within; later = omega arith }

pub waits_more : (left_a left_b left_c : Option (List ℕ)) (before mid now : ℕ) (a b c : Reading)
    → Waits left_a left_b before mid a b → GoesFurther left_b left_c b c → mid ≤ now
    → Waits left_a left_c before now a c
waits_more left_a left_b left_c before mid now a b c w f later = record {
  moves = move_more left_a left_b left_c a b c [] at_end w.moves f.moves;
  within = f.within;
  later = omega (arith, w.later);
}

pub progress_bounded : (r : Reading) → r.given ≤ MAX_INPUT_BYTES → length r.held ≤ BUFFER_BYTES
    → progress r ≤ 2 * MAX_INPUT_BYTES + BUFFER_BYTES + 1
progress_bounded r within bounded = omega (arith, bit_le r.ended) where
  bit_le : (b : Bool) → bit b ≤ 1
  bit_le true = omega arith
  bit_le false = omega arith

given_from_moves : (left_a left_b : Option (List ℕ)) (a b : Reading) (said : List LineData) (stop : StopData)
    → Moves left_a left_b a b said stop → a.given ≤ b.given
given_from_moves left_a left_b a b said stop m = omega (arith, m.advances.given)

pub then_said : (left_a left_b left_c : Option (List ℕ)) (before mid : ℕ) (a b c : Reading) (said : Line)
    → Waits left_a left_b before mid a b → IsLine left_b left_c b c said → IsLine left_a left_c a c said
then_said left_a left_b left_c before mid a b c said w h = record {
  moves = move_more left_a left_b left_c a b c (line_of said ∷ []) at_end w.moves h.moves;
  further = omega (arith, h.further, given_from_moves left_a left_b a b [] at_end w.moves);
  within = h.within;
}

pub then_end : (left_a left_b left_c : Option (List ℕ)) (before mid : ℕ) (a b c : Reading)
    → Waits left_a left_b before mid a b → IsEndOfInput left_b left_c b c → IsEndOfInput left_a left_c a c
then_end left_a left_b left_c before mid a b c w h = record {
  moves = move_more left_a left_b left_c a b c [] at_end w.moves h.moves;
  nothing_held = h.nothing_held;
  ended = h.ended;
}

pub then_fault : (left_a left_b left_c : Option (List ℕ)) (before mid now : ℕ) (a b c : Reading) (fault : LineFault)
    → Waits left_a left_b before mid a b → IsFault left_b left_c mid now b c fault
    → IsFault left_a left_c before now a c fault
then_fault left_a left_b left_c before mid now a b c faults.Source w h = record {
  moves = move_more left_a left_b left_c a b c [] at_end w.moves h.moves;
  part = h.part;
  goes_on = h.goes_on;
  rose = omega (arith, w.later, h.rose);
}
then_fault left_a left_b left_c before mid now a b c faults.Bad w h =
    move_more left_a left_b left_c a b c [] at_bad_line w.moves h
then_fault left_a left_b left_c before mid now a b c faults.TooLarge w h =
    move_more left_a left_b left_c a b c [] at_limit w.moves h
then_fault left_a left_b left_c before mid now a b c faults.NoMemory w h =
    move_more left_a left_b left_c a b c [] at_end w.moves h

pub less_left : (left_old left_new : Option (List ℕ)) (old new : Reading) → GoesFurther left_old left_new old new
    → 2 * MAX_INPUT_BYTES + BUFFER_BYTES + 2 - progress new < 2 * MAX_INPUT_BYTES + BUFFER_BYTES + 2 - progress old
less_left left_old left_new old new f =
    by_bounds (progress old) (progress new) (2 * MAX_INPUT_BYTES + BUFFER_BYTES + 1) f.further
    (progress_bounded new f.within f.bounded) where
      by_bounds : (p q bound : ℕ) → p < q → q ≤ bound → bound + 1 - q < bound + 1 - p
      by_bounds p q bound h k = omega arith

-- ---- where reading may go on

moves_within : (left_old left_new : Option (List ℕ)) (old new : Reading) (said : List LineData)
    → old.given ≤ MAX_INPUT_BYTES → Moves left_old left_new old new said at_end → new.given ≤ MAX_INPUT_BYTES
moves_within left_old left_new old new said within m =
    omega (arith, m.advances.given, reads_within old.given m.lines said within m.advances.reads)

pub goes_on : (left_old left_new : Option (List ℕ)) (before now : ℕ) (old new : Reading)
    (r : Result (Option Line) LineFault) → old.given ≤ MAX_INPUT_BYTES → IsNext left_old left_new before now old new r
    → MayGoOn r new
goes_on left_old left_new before now old new (Ok None) within h =
    moves_within left_old left_new old new [] within h.moves
goes_on left_old left_new before now old new (Ok (Some line)) within h = h.within
goes_on left_old left_new before now old new (Err faults.Source) within h =
    moves_within left_old left_new old new [] within h.moves
goes_on left_old left_new before now old new (Err faults.Bad) within h = tt
goes_on left_old left_new before now old new (Err faults.TooLarge) within h = tt
goes_on left_old left_new before now old new (Err faults.NoMemory) within h =
    moves_within left_old left_new old new [] within h
