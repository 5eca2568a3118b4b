-- How a run goes on after a line, and what stands where it ends.
use Rattle.std.specs.Prelude.{Any, unwrap_or}
use Rattle.std.proofs.Common.{◌≡◌, ◌⊎◌, ℕ, zero, suc, ◌+◌, ◌≤◌, Bool, true, false, List, [], ◌∷◌, ◌++◌, length}
use Rattle.std.proofs.Common.{replicate, Option, Some, None, refl, sym, ap, ap₂, ◌∙◌, append_assoc, inl, inr, arith}
use Rattle.std.proofs.Common.{subst, IsTrue}
use Rattle.std.proofs.lemmas.List.{append-nil}
use Rattle.std.proofs.lemmas.List.Quantifiers.{Any-push}
use Rattle.ori_bytes.specs.declared.limits.TheConstants.{MAX_SESSIONS}
use Rattle.ori_volume.specs.Disk.{Files}
use Rattle.ori_volume.specs.Streams.{Gave}
use Rattle.ori_volume.proofs.Pieces.{took_nothing, gave_nothing, gave_more}
use Rattle.ori_spec_data.specs.Base.{EntryData}
use Rattle.ori_spec_data.specs.Histories.{IsLegalHistory}
use Rattle.ori_spec_data.specs.Soundness.{IsSoundBase}
use Rattle.ori_spec_texts.specs.Line.{LineData, statement, tries, step, reopen, StopData, at_end, at_bad_line}
use Rattle.ori_spec_texts.specs.Line.{at_limit, Splits}
use Rattle.ori_spec_texts.specs.Line.{Gives, Reads, IsSaid, StepData, IsStepText, flush, settle, checkpoint, history}
use Rattle.ori_spec_texts.specs.Line.{bag}
use Rattle.ori_spec_texts.specs.Line.{check}
use Rattle.ori_spec_texts.specs.Reply.{AnswerData, answer_text, answers_text, tells_fault}
use Rattle.ori_spec_crash.specs.Crash.{doubts}
use Rattle.ori_spec_runs.specs.Answer.{closed}
use Rattle.ori_spec_runs.specs.Run.{RunData, run_start, Step}
use Rattle.ori_spec_runs.proofs.Legal.{run_legal}
use Rattle.ori_text.specs.declared.line.Line.{Line}
use Rattle.ori_text.specs.declared.line.LineFault.{LineFault}
use Rattle.ori_text.specs.declared.line.LineFault.TheVariants as faults
use Rattle.ori_text.specs.Lines.{Reading, joined, AreWhole, HasLast}
use Rattle.ori_text.specs.LineReading.{Moves, HoldsPart, IsLine, IsEndOfInput, IsSourceFault, IsFault, IsAtEnd, line_of}
use Rattle.ori_text.proofs.Splitting.{joined-append, AreWhole-append, parts_of}
use Rattle.ori_text.proofs.Reading.{no_long}
use Rattle.ori_spec_data.specs.Limits.{FoundData}
use Rattle.ori_engine.specs.Openings.{IsStarted, IsFresh}
use Rattle.ori_script.specs.Founds.{Finds}
use Rattle.ori_script.specs.declared.run.Turn.{Turn}
use Rattle.ori_script.specs.declared.run.Turn.TheVariants.{Answered, Reopens, Ended}
use Rattle.ori_script.specs.Keeping.{StoreData, KeptData, Keeps, TellsHalted, IsOfPart, IsOfSession, IsStepped}
use Rattle.ori_script.specs.Keeping.{reopenings}
use Rattle.ori_script.specs.Script.{FailsToOpen, Ends, left_of, PassedData, passed_by, RunsTo, RanTo, HadFailed}
use Rattle.ori_script.specs.Script.{HadHalted, HasRead}
use Rattle.ori_script.specs.Script.{HasAnswered, GoesOn, AsksReopening, HasEnded}
use Rattle.ori_script.specs.Turns.{TurnsBy, IsTurned, fault_status}
use Rattle.ori_script.proofs.Runs.{Run-then, answers_text-append, only, moved}

-- ---- a line that was said is of a session

said_part : (s : StepData) (text : List ℕ) → IsStepText text s → IsOfPart s
said_part (flush part) text h = h.0
said_part settle text h = tt
said_part checkpoint text h = tt
said_part reopen text h = tt
said_part history text h = tt
said_part (bag vertex dir class) text h = tt
said_part check text h = tt

said_session : (line : List ℕ) (end : ℕ) (said : LineData) → IsSaid line end said → IsOfSession said
said_session line end (statement session text) p = (omega (arith, p.says.0.0), p.says.0.1)
said_session line end (tries session count text) p = (omega (arith, p.says.0.0), p.says.0.1)
said_session line end (step s) p = said_part s p.says.0 p.says.1

pub line_session : (at : ℕ) (lines : List (List ℕ)) (line : LineData) → Reads at lines (line ∷ []) at_end
    → IsOfSession line
line_session at [] line p = absurd (cc (p.0))
line_session at (first ∷ lines) line p =
    elim p [
      | inl skipped ↦ line_session (at + length first) lines line skipped.2
      | inr p1 ↦ elim p1 [
        | inl said ↦
            let same : line ≡ said.0 = cc (said.2) in
            subst IsOfSession (sym same) (said_session first (at + length first) said.0 said.3)
        | inr p2 ↦ elim p2 [
          | inl malformed ↦ absurd (cc (malformed.2))
          | inr p3 ↦ elim p3 [
            | inl too_long ↦ absurd (cc (too_long.2))
            | inr late ↦ absurd (cc (late.3))
          ]
        ]
      ]
    ]

-- ---- the lines that the input gives

record GivenBy (input : List ℕ) (lines : List (List ℕ)) (reading : Reading) : Type 0 where
  ended : Bool
  unread : List (List ℕ)
  given : Gives ended input (lines ++ unread)
  only : IsTrue ended → IsTrue reading.ended

whole_last : (l0 l2 : Option (List ℕ)) (reading : Reading) (said : List LineData) (stop : StopData)
    (m : HasRead l0 l2 reading said stop) (h : HasLast reading.ended m.lines reading.held)
    → m.input ≡ joined h.front ++ h.last
whole_last l0 l2 reading said stop m h =
    m.parts ∙ ap (λ (t : List ℕ). joined m.lines ++ t) h.nothing_held ∙ append-nil (joined m.lines) ∙ ap joined h.parts
    ∙ joined-append h.front (h.last ∷ []) ∙ ap (λ (t : List ℕ). joined h.front ++ t) (append-nil h.last)

given_behind : (l0 l2 : Option (List ℕ)) (reading : Reading) (said : List LineData) (stop : StopData)
    (m : HasRead l0 l2 reading said stop) → AreWhole m.lines → GivenBy m.input m.lines reading
given_behind l0 l2 reading said stop m w =
    let p = parts_of reading.held in
    record {
      ended = false;
      unread = p.lines;
      given = record {
        split = (
          m.lines ++ p.lines,
          p.rest,
          record {
            whole = m.parts ∙ ap (λ (t : List ℕ). joined m.lines ++ t) p.splits.whole
                ∙ sym (append_assoc (joined m.lines) (joined p.lines) p.rest)
                ∙ ap (λ (t : List ℕ). t ++ p.rest) (sym (joined-append m.lines p.lines));
            each = AreWhole-append m.lines p.lines w p.splits.each;
            partial = p.splits.partial;
          },
          inl (refl, inl refl),
        );
      };
      only = λ e. absurd (cc (e));
    }

given_last : (l0 l2 : Option (List ℕ)) (reading : Reading) (said : List LineData) (stop : StopData)
    (m : HasRead l0 l2 reading said stop) (h : HasLast reading.ended m.lines reading.held)
    → GivenBy m.input m.lines reading
given_last l0 l2 reading said stop m h =
    let splits : Splits m.input h.front h.last = record {
      whole = whole_last l0 l2 reading said stop m h;
      each =
          h.whole;
      partial = h.unfinished;
    } in
    let all : m.lines ++ [] ≡ h.front ++ h.last ∷ [] = append-nil m.lines ∙ h.parts in
    elim h.why [
      | inl ended ↦ record {
        ended = true;
        unread = [];
        given =
            record { split = (h.front, h.last, splits, inr (all, inl (refl, h.some))) };
        only = λ _. ended;
      }
      | inr long ↦ record {
        ended = false;
        unread = [];
        given =
            record { split = (h.front, h.last, splits, inr (all, inr long)) };
        only = λ e. absurd (cc (e));
      }
    ]

given_of : (l0 l2 : Option (List ℕ)) (reading : Reading) (said : List LineData) (stop : StopData)
    (m : HasRead l0 l2 reading said stop) → GivenBy m.input m.lines reading
given_of l0 l2 reading said stop m =
    elim m.whole [
      | inl w ↦ given_behind l0 l2 reading said stop m w
      | inr h ↦ given_last l0 l2 reading said stop m h
    ]

-- at the end of the input all its lines were read
all_given : (l0 l2 : Option (List ℕ)) (reading : Reading) (said : List LineData) (stop : StopData)
    (m : HasRead l0 l2 reading said stop) → reading.held ≡ [] → Gives true m.input (m.lines ++ [])
all_given l0 l2 reading said stop m none =
    elim m.whole [
      | inl w ↦ record {
        split = (
          m.lines,
          [],
          record {
            whole = m.parts ∙ ap (λ (t : List ℕ). joined m.lines ++ t) none;
            each = w;
            partial =
                tt;
          },
          inl (append-nil m.lines, inr refl),
        );
      }
      | inr h ↦ record {
        split = (
          h.front,
          h.last,
          record {
            whole = whole_last l0 l2 reading said stop m h;
            each = h.whole;
            partial =
                h.unfinished;
          },
          inr (append-nil m.lines ∙ h.parts, inl (refl, h.some)),
        );
      }
    ]

-- where less than a line is held all whole lines were read
whole_given : (l0 l2 : Option (List ℕ)) (reading : Reading) (said : List LineData)
    (m : HasRead l0 l2 reading said at_end)
    → HoldsPart reading → reading.ended ≡ false → Gives false m.input (m.lines ++ [])
whole_given l0 l2 reading said m part goes_on =
    elim m.whole [
      | inl w ↦ record {
        split = (
          m.lines,
          reading.held,
          record { whole = m.parts; each = w; partial = part.no_end },
          inl (append-nil m.lines, inl refl),
        );
      }
      | inr h ↦ elim h.why [
        | inl ended ↦ absurd (cc (ended, goes_on))
        | inr long ↦ absurd (no_long 0 h.front h.last said
            (subst (λ (ls : List (List ℕ)). Reads 0 ls said at_end) h.parts m.reads) long)
      ]
    ]

-- ---- ends

-- a base that a volume was found with is sound
found_sound : (files : Option Files) (found : FoundData) → Finds files found → IsSoundBase found.base
found_sound None found finds = absurd finds
found_sound (Some f) found finds = finds.opens.sound

-- a run ends there
pub ran_to : (files : Option Files) (found : FoundData) (said : List LineData) (answers : List AnswerData)
    (kept : KeptData) → Finds files found → RunsTo found said answers kept
    → RanTo found said answers (left_of kept.store)
ran_to files found said answers kept finds r =
    let is : kept.store.earlier ++ unwrap_or kept.store.state.feed [] ≡ r.now.history =
    ap (λ (o : Option (List EntryData)). kept.store.earlier ++ unwrap_or o []) r.keeps.feed ∙ sym r.keeps.history in
    let legal = run_legal found said answers r.now (found_sound files found finds) r.run in
    record {
      final = r.now;
      run = r.run;
      history_is = is;
      legal = subst (λ (h : List EntryData). IsLegalHistory found.base h) (sym is) legal;
      failed_is = r.keeps.failed;
      doubt_is = r.keeps.doubt;
      doubtful_is = ap₂ (λ (f d : List (ℕ × EntryData)). f ++ d) r.keeps.failed
          (ap₂ (λ (h : List EntryData) (d : Option EntryData). doubts h d) is r.keeps.doubt);
      halted_is = r.keeps.halted;
    }

module _ (files : Option Files) (passed : PassedData) (l0 l1 l2 t0 t1 : Option (List ℕ)) (old new : Reading)
    (kept : KeptData) (g : GoesOn files passed l0 l1 t0 t1 old kept) where
  before : HasRead l0 l1 old g.said at_end
  before = subst (λ (s : List LineData). HasRead l0 l1 old s at_end) (append-nil g.said) g.read

  -- a run ends before its next line, whose answers are all printed
  ended_at : (stop : StopData) (status : ℕ) (ended : Bool) (unread : List (List ℕ))
      (m : HasRead l0 l2 new (g.said ++ []) stop)
      → (IsTrue ended → IsAtEnd l2) → Gives ended m.input (m.lines ++ unread) → Ends status ended unread [] stop []
      → HasEnded files passed l0 l2 t0 t1 status kept.store
  ended_at stop status ended unread m over gives ends = record {
    answers = g.answers;
    run = record {
      input = m.input;
      took = m.took;
      ended = ended;
      source_end = over;
      lines = m.lines;
      unread = unread;
      given = gives;
      said = g.said;
      late = [];
      stop = stop;
      reads = m.reads;
      run = λ found finds. ran_to files found g.said g.answers kept finds (g.run found finds);
      output = answers_text g.answers;
      unprinted = [];
      gave = g.gave;
      printed = inl (refl, refl);
      ends = ends;
    };
    told = g.told;
  }

  pub input_ended : IsEndOfInput l1 l2 old new → HasEnded files passed l0 l2 t0 t1 0 kept.store
  input_ended e =
      let m = moved l0 l1 l2 old new g.said [] at_end before e.moves in
      ended_at at_end 0 true [] m (λ _. m.source_end e.ended)
      (all_given l0 l2 new (g.said ++ []) at_end m e.nothing_held)
      (inl (refl, refl, refl, refl, refl, refl))

  source_failed : (f f' : ℕ) → IsSourceFault l1 l2 f f' old new → HasEnded files passed l0 l2 t0 t1 3 kept.store
  source_failed f f' e =
      let m = moved l0 l1 l2 old new g.said [] at_end before e.moves in
      ended_at at_end 3 false [] m (λ h. absurd (cc (h))) (whole_given l0 l2 new (g.said ++ []) m e.part e.goes_on)
      (inr (inr (inl (refl, refl, refl, refl, refl, refl))))

  -- reading stopped
  stopped : (stop : StopData) (status : ℕ) → Moves l1 l2 old new [] stop
      → ((ended : Bool) (unread : List (List ℕ)) → Ends status ended unread [] stop [])
      → HasEnded files passed l0 l2 t0 t1 status kept.store
  stopped stop status e ends =
      let m = moved l0 l1 l2 old new g.said [] stop before e in
      let b = given_of l0 l2 new (g.said ++ []) stop m in
      ended_at stop status b.ended b.unread m (λ h. m.source_end (b.only h)) b.given (ends b.ended b.unread)

  pub line_failed : (f f' : ℕ) (fault : LineFault) → IsFault l1 l2 f f' old new fault
      → HasEnded files passed l0 l2 t0 t1 (fault_status fault) kept.store
  line_failed f f' faults.Source e = source_failed f f' e
  line_failed f f' faults.Bad e =
      stopped at_bad_line 8 e (λ _ _. inr (inr (inr (inr (inl (refl, refl, refl, refl))))))
  line_failed f f' faults.TooLarge e =
      stopped at_limit 9 e (λ _ _. inr (inr (inr (inr (inr (inl (refl, refl, refl, refl)))))))
  line_failed f f' faults.NoMemory e = stopped at_end 2 e (λ _ _. inr (inl (refl, refl, refl)))

-- ---- after a line

-- What a line does to what is kept, where an opening found this; and what its answer tells. The earlier openings passed
-- so, before it and after it.
pub record IsStep (files : Option Files) (before after : PassedData) (old : KeptData) (line : LineData)
    (answer : AnswerData) (new : KeptData) : Type 0 where
  pub steps : (found : FoundData) → Finds files found → (run : RunData) → Keeps old run
      → (next : RunData) × Step run line answer next × Keeps new next
  pub fault_told : IsTrue (tells_fault answer) → HadFailed after new.store
  pub failed_stays : HadFailed before old.store → HadFailed after new.store
  pub halted_told : (at : ℕ) → TellsHalted at answer → HadHalted after new.store at
  pub halted_stays : (at : ℕ) → HadHalted before old.store at → HadHalted after new.store at
  pub counted : length after.halts ≡ length before.halts + reopenings (line ∷ [])
  pub few : length new.store.failed ≤ length old.store.failed + reopenings (line ∷ [])

-- the run with one line more
pub runs_on : (found : FoundData) (said : List LineData) (answers : List AnswerData) (kept : KeptData)
    (line : LineData) (answer : AnswerData) (next : KeptData) → RunsTo found said answers kept
    → ((run : RunData) → Keeps kept run → (next' : RunData) × Step run line answer next' × Keeps next next')
    → RunsTo found (said ++ line ∷ []) (answers ++ answer ∷ []) next
runs_on found said answers kept line answer next r steps =
    let s = steps r.now r.keeps in
    record {
      now = s.0;
      run = Run-then (run_start found) r.now s.0 said line answers answer r.run s.1;
      keeps = s.2;
    }

pub some_push : {X : Type 0} (P : X → Type 0) (xs : List X) (y : X) → Any P (xs ++ y ∷ []) → Any P xs ⊎ P y
some_push P [] y found = inr (only P y found)
some_push P (z ∷ xs) y (zero, x, within, is, has) = inl (zero, x, omega arith, is, has)
some_push P (z ∷ xs) y (suc k, x, within, is, has) =
    elim (some_push P xs y (k, x, omega arith, is, has)) [
      | inl found ↦ inl (suc found.0, found.1, omega (arith, found.2), found.3, found.4)
      | inr last ↦ inr last
    ]

-- what an answer tells holds after it, where it stays so and where the next answer tells it
told_on : {Before After : Type 0} (P : AnswerData → Type 0) (answers : List AnswerData) (answer : AnswerData)
    → (Before → After) → (P answer → After) → (Any P answers → Before) → Any P (answers ++ answer ∷ []) → After
told_on P answers answer stays told before found =
    elim (some_push P answers answer found) [
      | inl earlier ↦ stays (before earlier)
      | inr here ↦ told here
    ]

more_text : (answers : List AnswerData) (answer : AnswerData)
    → answers_text (answers ++ answer ∷ []) ≡ answers_text answers ++ answer_text answer
more_text answers answer =
    answers_text-append answers (answer ∷ [])
    ∙ ap (λ (t : List ℕ). answers_text answers ++ t) (append-nil (answer_text answer))

reopenings-append : (xs ys : List LineData) → reopenings (xs ++ ys) ≡ reopenings xs + reopenings ys
reopenings-append [] ys = omega arith
reopenings-append (statement session text ∷ xs) ys = reopenings-append xs ys
reopenings-append (tries session count text ∷ xs) ys = reopenings-append xs ys
reopenings-append (step s ∷ xs) ys = omega (arith, reopenings-append xs ys)

pub any_longer : {X : Type 0} (P : X → Type 0) (xs ys : List X) → Any P xs → Any P (xs ++ ys)
any_longer P [] ys found = absurd (omega (arith, found.2))
any_longer P (z ∷ xs) ys (zero, x, within, is, has) = (zero, x, omega arith, is, has)
any_longer P (z ∷ xs) ys (suc k, x, within, is, has) =
    let r = any_longer P xs ys (k, x, omega arith, is, has) in (suc r.0, r.1, omega (arith, r.2), r.3, r.4)

-- a line that asks for no reopening
plain_step : (files : Option Files) (passed : PassedData) (old : KeptData) (line : LineData) (answer : AnswerData)
    (new : KeptData) → IsStepped old line answer new → IsStep files passed passed old line answer new
plain_step files passed old line answer new s = record {
  steps = λ found finds. s.steps;
  fault_told = λ told. inr (s.fault_told told);
  failed_stays = λ had. elim had [
    | inl earlier ↦ inl earlier
    | inr now ↦ inr (s.failed_stays now)
  ];
  halted_told = λ at told. Any-push (λ h. h ≡ Some at) passed.halts new.store.state.halted (s.halted_told at told);
  halted_stays = λ at had. elim (some_push (λ h. h ≡ Some at) passed.halts old.store.state.halted had) [
    | inl earlier ↦ any_longer (λ h. h ≡ Some at) passed.halts (new.store.state.halted ∷ []) earlier
    | inr now ↦ Any-push (λ h. h ≡ Some at) passed.halts new.store.state.halted (s.halted_stays at now)
  ];
  counted = omega (arith, s.plain);
  few = omega (arith, ap (λ (ds : List (ℕ × EntryData)). length ds) s.same_failed);
}

-- what the answers tell, with one more
told_more : (files : Option Files) (before after : PassedData) (said : List LineData) (answers : List AnswerData)
    (kept next : KeptData) (line : LineData) (answer : AnswerData) → HasAnswered before said answers kept.store
    → IsStep files before after kept line answer next
    → HasAnswered after (said ++ line ∷ []) (answers ++ answer ∷ []) next.store
told_more files before after said answers kept next line answer told s =
    let all = reopenings-append said (line ∷ []) in
    record {
      fault_told = told_on (λ x. IsTrue (tells_fault x)) answers answer s.failed_stays s.fault_told told.fault_told;
      halted_told = λ at. told_on (λ x. TellsHalted at x) answers answer (s.halted_stays at) (s.halted_told at)
          (told.halted_told at);
      one_each = omega (arith, all, s.counted, told.one_each);
      few_decided = omega (arith, all, s.few, told.few_decided);
    }

-- A line was run, and of its answer's text a part was given.
module _ (files : Option Files) (before after : PassedData) (l0 l2 t0 t1 t2 : Option (List ℕ)) (new : Reading)
    (kept next : KeptData) (line : LineData) (said : List LineData) (answers : List AnswerData)
    (read : HasRead l0 l2 new (said ++ line ∷ []) at_end)
    (run : (found : FoundData) → Finds files found → RunsTo found said answers kept)
    (told : HasAnswered before said answers kept.store) (gave : Gave t0 t1 (answers_text answers))
    (answer : AnswerData) (s : IsStep files before after kept line answer next) (output unprinted : List ℕ)
    (text : answer_text answer ≡ output ++ unprinted) (more : Gave t1 t2 output) where
  ran : (found : FoundData) → Finds files found → RunsTo found (said ++ line ∷ []) (answers ++ answer ∷ []) next
  ran found finds = runs_on found said answers kept line answer next (run found finds) (s.steps found finds)

  pub went_on : unprinted ≡ [] → GoesOn files after l0 l2 t0 t2 new next
  went_on all =
      let whole : answer_text answer ≡ output =
      text ∙ ap (λ (t : List ℕ). output ++ t) all ∙ append-nil output in
      let texts = more_text answers answer ∙ ap (λ (t : List ℕ). answers_text answers ++ t) whole in
      record {
        said = said ++ line ∷ [];
        read = subst (λ (ls : List LineData). HasRead l0 l2 new ls at_end) (sym (append-nil (said ++ line ∷ []))) read;
        answers = answers ++ answer ∷ [];
        run = ran;
        told = told_more files before after said answers kept next line answer told s;
        gave = subst (λ (t : List ℕ). Gave t0 t2 t) (sym texts)
            (gave_more t0 t1 t2 (answers_text answers) output gave more);
      }

  pub cut_off : (status : ℕ) → (status ≡ 2) ⊎ (status ≡ 4) → HasEnded files after l0 l2 t0 t2 status next.store
  cut_off status why =
      let b = given_of l0 l2 new (said ++ line ∷ []) at_end read in
      record {
        answers = answers ++ answer ∷ [];
        run = record {
          input = read.input;
          took = read.took;
          ended = b.ended;
          source_end = λ h. read.source_end (b.only h);
          lines = read.lines;
          unread = b.unread;
          given = b.given;
          said = said ++ line ∷ [];
          late = [];
          stop = at_end;
          reads = subst (λ (ls : List LineData). Reads 0 read.lines ls at_end) (sym (append-nil (said ++ line ∷ [])))
              read.reads;
          run = λ found finds. ran_to files found _ _ next finds (ran found finds);
          output = answers_text answers ++ output;
          unprinted = unprinted;
          gave = gave_more t0 t1 t2 (answers_text answers) output gave more;
          printed = inr (record {
            before = answers;
            last = answer;
            front = output;
            answers_are = refl;
            text = text;
            printed = refl;
          });
          ends = elim why [
            | inl memory ↦ inr (inl (memory, refl, refl))
            | inr sink ↦ inr (inr (inr (inl (sink, refl, refl))))
          ];
        };
        told = told_more files before after said answers kept next line answer told s;
      }

module _ (files : Option Files) (passed : PassedData) (l0 l1 l2 t0 t1 t2 : Option (List ℕ)) (old new : Reading)
    (kept : KeptData) (line : Line) (next : KeptData) (g : GoesOn files passed l0 l1 t0 t1 old kept)
    (e : IsLine l1 l2 old new line) where
  with_line : HasRead l0 l2 new (g.said ++ line_of line ∷ []) at_end
  with_line =
      moved l0 l1 l2 old new g.said (line_of line ∷ []) at_end
      (subst (λ (s : List LineData). HasRead l0 l1 old s at_end) (append-nil g.said) g.read) e.moves

  pub after_line : (turn : Turn) → TurnsBy kept (line_of line) t1 t2 turn next
      → IsTurned files passed l0 l2 t0 t2 new next turn
  after_line Answered a =
      went_on files passed passed l0 l2 t0 t1 t2 new kept next (line_of line) g.said g.answers with_line g.run g.told
      g.gave a.answer
      (plain_step files passed kept (line_of line) a.answer next a.stepped) a.output a.unprinted a.text a.gave
      a.printed
  after_line Reopens a =
      subst (λ (k : KeptData). AsksReopening files passed l0 l2 t0 t2 new k) (sym a.2) (record {
        said = g.said;
        read = subst (λ (x : LineData). HasRead l0 l2 new (g.said ++ x ∷ []) at_end) a.0 with_line;
        answers = g.answers;
        run = g.run;
        told = g.told;
        gave = subst (λ (t : Option (List ℕ)). Gave t0 t (answers_text g.answers)) (sym a.1) g.gave;
      })
  after_line (Ended status) a =
      cut_off files passed passed l0 l2 t0 t1 t2 new kept next (line_of line) g.said g.answers with_line g.run g.told
      g.gave a.answer
      (plain_step files passed kept (line_of line) a.answer next a.stepped) a.output a.unprinted a.text a.gave
      status a.printed

-- ---- a reopening that failed

-- a run has ended behind a line that asked for a reopening
pub record IsLate (files : Option Files) (passed : PassedData) (l0 l1 t0 t1 : Option (List ℕ)) (status : ℕ)
    (store : StoreData) : Type 0 where
  pub ended : HasEnded files passed l0 l1 t0 t1 status store
  pub late : ended.run.late ≡ step reopen ∷ []

pub late_failed : (files : Option Files) (passed : PassedData) (l0 l1 t0 t1 : Option (List ℕ)) (old : Reading)
    (kept : KeptData) (status : ℕ) → AsksReopening files passed l0 l1 t0 t1 old kept → FailsToOpen status
    → IsLate files passed l0 l1 t0 t1 status kept.store
late_failed files passed l0 l1 t0 t1 old kept status g why =
    let b = given_of l0 l1 old (g.said ++ step reopen ∷ []) at_end g.read in
    record {
      ended = record {
        answers = g.answers;
        run = record {
          input = g.read.input;
          took = g.read.took;
          ended = b.ended;
          source_end = λ h. g.read.source_end (b.only h);
          lines = g.read.lines;
          unread = b.unread;
          given = b.given;
          said = g.said;
          late = step reopen ∷ [];
          stop = at_end;
          reads = g.read.reads;
          run = λ found finds. ran_to files found g.said g.answers kept finds (g.run found finds);
          output = answers_text g.answers;
          unprinted = [];
          gave = g.gave;
          printed = inl (refl, refl);
          ends = inr (inr (inr (inr (inr (inr (why, refl, refl, refl))))));
        };
        told = g.told;
      };
      late = refl;
    }

-- ---- the start

-- what is kept where an opening found this base, and nothing has been done yet
pub record IsBegun (found : FoundData) (kept : KeptData) : Type 0 where
  pub started : IsStarted found kept.store.state
  pub fresh : IsFresh kept.store.state
  pub first : kept.store.earlier ≡ []
  pub none_failed : kept.store.failed ≡ []
  pub sessions : kept.sessions ≡ replicate MAX_SESSIONS closed

begun_keeps : (found : FoundData) (kept : KeptData) → IsBegun found kept
    → Keeps kept (run_start found)
begun_keeps found kept begun = record {
  sound = begun.started.sound;
  base = begun.started.base_is;
  feed = begun.fresh.feed;
  history = sym (ap (λ (es : List EntryData). es ++ []) begun.first);
  failed = begun.none_failed;
  halted = begun.fresh.halted;
  doubt = begun.fresh.doubt;
  limit = begun.started.limit_is;
  sessions = begun.sessions;
}

module _ (files : Option Files) (left taken : Option (List ℕ)) (kept : KeptData)
    (begun : (found : FoundData) → Finds files found → IsBegun found kept) (none : kept.store.failed ≡ [])
    (first : ℕ) where
  runs_none : (found : FoundData) → Finds files found → RunsTo found [] [] kept
  runs_none found finds = record {
    now = run_start found;
    run = refl;
    keeps = begun_keeps found kept (begun found finds);
  }

  none_told : {T : Type 0} (P : AnswerData → Type 0) → Any P [] → T
  none_told P found = absurd (omega (arith, found.2))

  nothing_told : HasAnswered (passed_by [] first first) [] [] kept.store
  nothing_told = record {
    fault_told = none_told (λ x. IsTrue (tells_fault x));
    halted_told = λ at. none_told (λ x. TellsHalted at x);
    one_each = refl;
    few_decided = omega (arith, ap (λ (ds : List (ℕ × EntryData)). length ds) none);
  }

  pub started : (reading : Reading) → reading ≡ record { given = 0; held = []; ended = false }
      → GoesOn files (passed_by [] first first) left left taken taken reading kept
  started reading fresh =
      subst (λ (r : Reading). GoesOn files (passed_by [] first first) left left taken taken r kept) (sym fresh)
      (record {
        said = [];
        read = record {
          input = [];
          took = took_nothing left;
          source_end = λ e. absurd (cc (e));
          lines = [];
          parts = refl;
          given = refl;
          whole = inl tt;
          reads = (refl, refl);
        };
        answers = [];
        run = runs_none;
        told = nothing_told;
        gave = gave_nothing taken;
      })

  -- before anything is read memory may run out
  pub not_begun : HasEnded files (passed_by [] first first) left left taken taken 2 kept.store
  not_begun = record {
    answers = [];
    run = record {
      input = [];
      took = took_nothing left;
      ended = false;
      source_end = λ e. absurd (cc (e));
      lines = [];
      unread = [];
      given = record { split = ([], [], record { whole = refl; each = tt; partial = tt }, inl (refl, inl refl)) };
      said = [];
      late = [];
      stop = at_end;
      reads = (refl, refl);
      run = λ found finds. ran_to files found [] [] kept finds (runs_none found finds);
      output = [];
      unprinted = [];
      gave = gave_nothing taken;
      printed = inl (refl, refl);
      ends = inr (inl (refl, refl, refl));
    };
    told = nothing_told;
  }
