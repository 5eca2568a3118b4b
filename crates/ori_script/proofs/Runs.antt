-- A run goes on with a line, and ends.
use Rattle.std.specs.Prelude.{Any, get_or}
use Rattle.std.proofs.Common.{◌≡◌, ◌⊎◌, ℕ, zero, suc, ◌+◌, ◌<◌, Bool, List, [], ◌∷◌, ◌++◌, length, Option, refl, sym}
use Rattle.std.proofs.Common.{ap, ◌∙◌, append_assoc, inl, inr, arith, subst, IsTrue}
use Rattle.std.proofs.lemmas.List.{append-nil, length-append, nil_from_length}
use Rattle.ori_volume.proofs.Pieces.{took_more}
use Rattle.ori_spec_texts.specs.Line.{LineData, StopData, at_end, Reads}
use Rattle.ori_spec_texts.specs.Reply.{AnswerData, answer_text, answers_text}
use Rattle.ori_spec_runs.specs.Run.{RunData, Step, Run}
use Rattle.ori_text.specs.Lines.{Reading, joined, AreWhole, HasLast}
use Rattle.ori_text.specs.LineReading.{IsAtEnd, Moves}
use Rattle.ori_script.specs.Script.{HasRead}
use Rattle.ori_text.proofs.Splitting.{joined-append, AreWhole-append}
use Rattle.ori_text.proofs.Reading.{Reads-then, no_long}

-- the one element of a list
one_is : {X : Type 0} (k : ℕ) (x y : X) → k < 1 → y ≡ get_or (y ∷ []) k x
one_is zero x y within = refl
one_is (suc k) x y within = absurd (omega arith)

pub only : {X : Type 0} (P : X → Type 0) (y : X) → Any P (y ∷ []) → P y
only P y (k, x, within, is, has) = subst P (sym is ∙ sym (one_is k x y within)) has

pub Run-then : (old mid new : RunData) (lines : List LineData) (line : LineData) (answers : List AnswerData)
    (answer : AnswerData)
    → Run old lines answers mid → Step mid line answer new → Run old (lines ++ line ∷ []) (answers ++ answer ∷ []) new
Run-then old mid new [] line [] answer p step = (new, subst (λ (s : RunData). Step s line answer new) p step, refl)
Run-then old mid new [] line (a ∷ answers) answer p step = absurd p
Run-then old mid new (l ∷ lines) line [] answer p step = absurd p
Run-then old mid new (l ∷ lines) line (a ∷ answers) answer p step =
    (p.0, p.1, Run-then p.0 mid new lines line answers answer p.2 step)

pub answers_text-append : (xs ys : List AnswerData) → answers_text (xs ++ ys) ≡ answers_text xs ++ answers_text ys
answers_text-append [] ys = refl
answers_text-append (x ∷ xs) ys = ap (λ (t : List ℕ). answer_text x ++ t) (answers_text-append xs ys)
    ∙ sym (append_assoc (answer_text x) (answers_text xs) (answers_text ys))

-- lines have bytes
some_joined : (line : List ℕ) (lines : List (List ℕ)) (ended : Bool) (held : List ℕ) → AreWhole (line ∷ lines)
    ⊎ HasLast ended (line ∷ lines) held → 0 < length (joined (line ∷ lines))
some_joined line lines ended held (inl whole) =
    omega (arith, length-append line (joined lines), ap length whole.0.1, length-append whole.0.0 (10 ∷ []))
some_joined line lines ended held (inr h) =
    let all : joined (line ∷ lines) ≡ joined h.front ++ (h.last ++ []) = ap joined h.parts
    ∙ joined-append h.front (h.last ∷ []) in
    omega (arith, ap length all, length-append (joined h.front) (h.last ++ []), length-append h.last [], h.some)

no_lines : (lines : List (List ℕ)) (ended : Bool) (held : List ℕ) → AreWhole lines ⊎ HasLast ended lines held
    → length (joined lines) ≡ 0 → lines ≡ []
no_lines [] ended held w e = refl
no_lines (line ∷ lines) ended held w e = absurd (omega (arith, some_joined line lines ended held w))

last_after : (lines : List (List ℕ)) (ended : Bool) (more : List (List ℕ)) (held : List ℕ) → AreWhole lines
    → HasLast ended more held → HasLast ended (lines ++ more) held
last_after lines ended more held w h = record {
  front = lines ++ h.front;
  last = h.last;
  parts = ap (λ (t : List (List ℕ)). lines ++ t) h.parts ∙ sym (append_assoc lines h.front (h.last ∷ []));
  whole = AreWhole-append lines h.front w h.whole;
  unfinished = h.unfinished;
  some = h.some;
  nothing_held = h.nothing_held;
  why = h.why;
}

-- further lines behind whole ones
moved_behind : (l0 l1 l2 : Option (List ℕ)) (old new : Reading) (before said : List LineData)
    (stop : StopData) (g : HasRead l0 l1 old before at_end) → AreWhole g.lines → (m : Moves l1 l2 old new said stop)
    → (IsTrue new.ended → IsAtEnd l2) → HasRead l0 l2 new (before ++ said) stop
moved_behind l0 l1 l2 old new before said stop g w m over =
    let a = m.advances in
    let all : joined (g.lines ++ m.lines) ≡ joined g.lines ++ joined m.lines = joined-append g.lines m.lines in
    record {
      input = g.input ++ m.more;
      took = took_more l0 l1 l2 g.input m.more g.took m.took;
      source_end = over;
      lines = g.lines ++ m.lines;
      parts = ap (λ (t : List ℕ). t ++ m.more) g.parts ∙ append_assoc (joined g.lines) old.held m.more
          ∙ ap (λ (t : List ℕ). joined g.lines ++ t) a.parts
          ∙ sym (append_assoc (joined g.lines) (joined m.lines) new.held)
          ∙ ap (λ (t : List ℕ). t ++ new.held) (sym all);
      given = omega (arith, a.given, g.given, ap length all, length-append (joined g.lines) (joined m.lines));
      whole = elim a.whole [
        | inl more ↦ inl (AreWhole-append g.lines m.lines w more)
        | inr h ↦ inr (last_after g.lines new.ended m.lines new.held w h)
      ];
      reads = Reads-then 0 g.lines m.lines before said stop g.reads
          (subst (λ (n : ℕ). Reads n m.lines said stop) (omega (arith, g.given)) a.reads);
    }

ended_before : (l0 l1 : Option (List ℕ)) (old : Reading) (before : List LineData)
    (g : HasRead l0 l1 old before at_end) → HasLast old.ended g.lines old.held → IsTrue old.ended
ended_before l0 l1 old before g h =
    elim h.why [
      | inl ended ↦ ended
      | inr long ↦ absurd (no_long 0 h.front h.last before
          (subst (λ (ls : List (List ℕ)). Reads 0 ls before at_end) h.parts g.reads) long)
    ]

-- behind a last line without an end nothing comes
moved_over : (l0 l1 l2 : Option (List ℕ)) (old new : Reading) (before said : List LineData)
    (stop : StopData) (g : HasRead l0 l1 old before at_end) → HasLast old.ended g.lines old.held
    → (m : Moves l1 l2 old new said stop)
    → (IsTrue new.ended → IsAtEnd l2) → HasRead l0 l2 new (before ++ said) stop
moved_over l0 l1 l2 old new before said stop g h m over =
    let a = m.advances in
    let past = a.over (ended_before l0 l1 old before g h) in
    let none : [] ≡ joined m.lines ++ new.held = sym (ap (λ (t : List ℕ). t ++ m.more) h.nothing_held ∙ past.0)
    ∙ a.parts in
    let sum : 0 ≡ length (joined m.lines) + length new.held = ap length none
    ∙ length-append (joined m.lines) new.held in
    let no_more : m.lines ≡ [] = no_lines m.lines new.ended new.held a.whole (omega (arith, sum)) in
    let ends = subst (λ (ls : List (List ℕ)). Reads old.given ls said stop) no_more a.reads in
    let held_none : new.held ≡ [] = nil_from_length new.held (omega (arith, sum)) in
    record {
      input = g.input ++ m.more;
      took = took_more l0 l1 l2 g.input m.more g.took m.took;
      source_end = over;
      lines = g.lines;
      parts = ap (λ (t : List ℕ). t ++ m.more) g.parts ∙ ap (λ (t : List ℕ). (joined g.lines ++ old.held) ++ t) past.0
          ∙ append-nil (joined g.lines ++ old.held)
          ∙ ap (λ (t : List ℕ). joined g.lines ++ t) (h.nothing_held ∙ sym held_none);
      given = omega (arith, a.given, g.given, ap (λ (ls : List (List ℕ)). length (joined ls)) no_more);
      whole = inr (record {
        front = h.front;
        last = h.last;
        parts = h.parts;
        whole = h.whole;
        unfinished =
            h.unfinished;
        some = h.some;
        nothing_held = held_none;
        why = inl past.1;
      });
      reads = subst (λ (s : List LineData). Reads 0 g.lines s stop) (sym (append-nil before)
          ∙ ap (λ (s : List LineData). before ++ s) (sym ends.0))
          (subst (λ (st : StopData). Reads 0 g.lines before st) (sym ends.1) g.reads);
    }

pub moved : (l0 l1 l2 : Option (List ℕ)) (old new : Reading) (before said : List LineData)
    (stop : StopData) (g : HasRead l0 l1 old before at_end) (m : Moves l1 l2 old new said stop)
    → HasRead l0 l2 new (before ++ said) stop
moved l0 l1 l2 old new before said stop g m =
    let over : IsTrue new.ended → IsAtEnd l2 = m.source_end g.source_end in
    elim g.whole [
      | inl w ↦ moved_behind l0 l1 l2 old new before said stop g w m over
      | inr h ↦ moved_over l0 l1 l2 old new before said stop g h m over
    ]
