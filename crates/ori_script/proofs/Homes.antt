-- Work on the homes and the log as a step of the run.
use Rattle.std.proofs.Common.{◌≡◌, ◌⊎◌, inl, inr, ℕ, ◌<◌, ◌≤◌, List, [], ◌∷◌, Option, Some, None, Result, Ok, Err, IfOk}
use Rattle.std.proofs.Common.{IsTrue, IsSome, refl, sym, ap, ◌∙◌, subst, arith}
use Rattle.std.specs.Prelude.{IsErrOf}
use Rattle.ori_bytes.specs.declared.causes.Causes.{Causes}
use Rattle.ori_bytes.specs.declared.memory.NoMemory.{NoMemory}
use Rattle.ori_pool.specs.declared.fault.TendFault.{TendFault}
use Rattle.ori_pool.specs.declared.fault.TendFault.TheVariants.{Fault, Halted, Busy}
use Rattle.ori_spec_data.specs.Base.{EntryData}
use Rattle.ori_spec_data.specs.Keeping.{StateData}
use Rattle.ori_spec_data.specs.Replies as replies
use Rattle.ori_spec_texts.specs.Line.{StepData, step, flush, settle, checkpoint}
use Rattle.ori_spec_texts.specs.Reply.{AnswerData, to_done, to_step, answer_text, tells_fault}
use Rattle.ori_spec_runs.specs.Answer.{SessionData}
use Rattle.ori_spec_runs.specs.Run.{RunData, Tends, Checkpoints, StepTells}
use Rattle.ori_engine.specs.Openings.{troubles_of}
use Rattle.ori_engine.specs.Tending.{tend_counted}
use Rattle.ori_script.specs.declared.past.Past.{Past}
use Rattle.ori_script.specs.Pasts.{EarlierData, may_leave, HasRoom, IsReady}
use Rattle.ori_script.specs.Keeping.{StoreData, store_behind, KeptData, Keeps, HasFailed, TellsHalted, tended}
use Rattle.ori_script.specs.Keeping.{reopenings}
use Rattle.ori_script.specs.Keeping.{IsStepped, IsStepOf}
use Rattle.ori_script.proofs.Counted.{fault_counted}

-- the state is the same, but that commits may have ended
abbrev IsSame : StateData → StateData → Type 0
IsSame old new = new ≡ record old { halted = new.halted }

pub ready_same : (old new : StateData) → IsSame old new → (past : Past) → IsReady past old → IsReady past new
ready_same old new same past ready = record {
  room = subst (λ (n : ℕ). HasRoom past n) (sym (ap may_leave same)) ready.room;
  place = λ some. ready.place (subst (λ (d : Option EntryData). IsSome d) (ap (λ (s : StateData). s.doubt) same) some);
}

-- what was answered was counted, and the count never falls
tend_later : {T : Type 0} (done : Result T TendFault) (old new : Causes) → new ≡ tend_counted done old
    → troubles_of old ≤ troubles_of new
tend_later (Ok value) old new is = omega (arith, ap troubles_of is)
tend_later (Err Fault) old new is =
    let raised = ap (λ (c : Causes). c.fault) is in
    let device = ap (λ (c : Causes). c.device) is in omega (arith, raised, device)
tend_later (Err (Halted at)) old new is = omega (arith, ap troubles_of is)
tend_later (Err (Busy turn)) old new is = omega (arith, ap troubles_of is)

some_on : (old new : Option ℕ) → ((at : ℕ) → old ≡ Some at → new ≡ Some at) → IsSome old → IsSome new
some_on None new stays some = absurd (cc some)
some_on (Some at) new stays some = subst (λ (o : Option ℕ). IsSome o) (sym (stays at refl)) refl

module _ (e : EarlierData) (sessions : List SessionData) (old new : StateData) (causes_old causes_new : Causes)
    (same : IsSame old new) where
  abbrev Was : KeptData
  Was = record { store = store_behind e old causes_old; sessions = sessions }

  abbrev Is : KeptData
  Is = record { store = store_behind e new causes_new; sessions = sessions }

  keeps_so : (run : RunData) (halted : Option ℕ) → Keeps Was run → new.halted ≡ halted
      → Keeps Is (record run { halted = halted })
  keeps_so run halted k is = record {
    sound = k.sound;
    base = ap (λ (s : StateData). s.base) same ∙ k.base;
    feed = ap (λ (s : StateData). s.feed) same ∙ k.feed;
    history = k.history;
    failed = k.failed;
    halted = is;
    doubt = ap (λ (s : StateData). s.doubt) same ∙ k.doubt;
    limit = ap (λ (s : StateData). s.limit) same ∙ k.limit;
    sessions = k.sessions;
  }

  keeps_same : (run : RunData) → Keeps Was run → new.halted ≡ old.halted → Keeps Is run
  keeps_same run k is = record {
    sound = k.sound;
    base = ap (λ (s : StateData). s.base) same ∙ k.base;
    feed = ap (λ (s : StateData). s.feed) same ∙ k.feed;
    history = k.history;
    failed = k.failed;
    halted = is ∙ k.halted;
    doubt = ap (λ (s : StateData). s.doubt) same ∙ k.doubt;
    limit = ap (λ (s : StateData). s.limit) same ∙ k.limit;
    sessions = k.sessions;
  }

  module _ {T : Type 0} (done : Result T TendFault) (counted : causes_new ≡ tend_counted done causes_old)
      (alone : (turn : ℕ) → IsErrOf done (Busy turn) → ⊥)
      (ended : (at : ℕ) → IsErrOf done (Halted at) → new.halted ≡ Some at)
      (stays : (at : ℕ) → old.halted ≡ Some at → new.halted ≡ Some at) where
    fault_so : (d : Result T TendFault) → done ≡ d → IsTrue (tells_fault (tended d)) → HasFailed
        (store_behind e new causes_new)
    fault_so (Ok value) is told = absurd (cc told)
    fault_so (Err Fault) is told =
        inr (fault_counted causes_old causes_new
        (subst (λ (d : Result T TendFault). causes_new ≡ tend_counted d causes_old) is counted))
    fault_so (Err (Halted at)) is told =
        inl (subst (λ (o : Option ℕ). IsSome o)
        (sym (ended at is)) refl)
    fault_so (Err (Busy turn)) is told =
        absurd (alone turn is)

    halted_so : (d : Result T TendFault) → done ≡ d → (at : ℕ) → TellsHalted at (tended d) → new.halted ≡ Some at
    halted_so (Ok value) is at told = absurd told
    halted_so (Err Fault) is at told = absurd (cc told)
    halted_so (Err (Halted n)) is at told =
        let same_at : n ≡ at = cc told in
        ended n is
        ∙ ap (λ (m : ℕ). Some m) same_at
    halted_so (Err (Busy turn)) is at told = absurd (cc told)

    stepped_so : (s : StepData) → reopenings (step s ∷ []) ≡ 0
        → ((run : RunData) → Keeps Was run → (next : RunData) × StepTells run s (tended done) next × Keeps Is next)
        → IsStepped Was (step s) (tended done) Is
    stepped_so s plain steps = record {
      steps = steps;
      fault_told = fault_so done refl;
      failed_stays = λ had. elim had [
        | inl over ↦ inl (some_on old.halted new.halted stays over)
        | inr some ↦ inr (omega (arith, some, tend_later done causes_old causes_new counted))
      ];
      halted_told = halted_so done refl;
      halted_stays = stays;
      plain = plain;
      same_failed = refl;
    }

-- ---- a flush and a settle

tends_by : {T : Type 0} (done : Result T TendFault) (run : RunData)
    → ((at : ℕ) → IsErrOf done (Halted at) → ⊥) → ((turn : ℕ) → IsErrOf done (Busy turn) → ⊥)
    → Tends run (tended done) run
tends_by (Ok value) run never alone = (inl refl, refl)
tends_by (Err Fault) run never alone = (inr refl, refl)
tends_by (Err (Halted at)) run never alone = absurd (never at refl)
tends_by (Err (Busy turn)) run never alone = absurd (alone turn refl)

module _ (old new : StateData) (causes_old causes_new : Causes) (same : IsSame old new)
    (kept : new.halted ≡ old.halted) {T : Type 0} (done : Result T TendFault)
    (counted : causes_new ≡ tend_counted done causes_old) (never : (at : ℕ) → IsErrOf done (Halted at) → ⊥)
    (alone : (turn : ℕ) → IsErrOf done (Busy turn) → ⊥) (text : Result (List ℕ) NoMemory)
    (is : IfOk text (λ t. t ≡ answer_text (tended done))) where
  tend_step : (s : StepData) → reopenings (step s ∷ []) ≡ 0
      → ((run : RunData) (answer : AnswerData) → Tends run answer run → StepTells run s answer run)
      → IsStepOf old causes_old s text new causes_new
  tend_step s plain tells = λ e sessions. record {
    answer = tended done;
    stepped = stepped_so e sessions old new causes_old causes_new same done counted alone
        (λ at ended. absurd (never at ended)) (λ at was. kept ∙ was) s plain
        (λ run k. (
          run,
          tells run (tended done) (tends_by done run never alone),
          keeps_same e sessions old new causes_old causes_new same run k kept,
        ));
    text_is = is;
  }

  pub flush_step : (part : ℕ) → IsStepOf old causes_old (flush part) text new causes_new
  flush_step part = tend_step (flush part) refl (λ run answer t. t)

  pub settle_step : IsStepOf old causes_old settle text new causes_new
  settle_step = tend_step settle refl (λ run answer t. t)

-- ---- a checkpoint

module _ (old new : StateData) (causes_old causes_new : Causes) (same : IsSame old new) {T : Type 0}
    (done : Result T TendFault)
    (halted : (new.halted ≡ old.halted) ⊎ ((done ≡ Err Fault) × (old.halted ≡ None) × IsSome new.halted))
    (counted : causes_new ≡ tend_counted done causes_old)
    (ended : (at : ℕ) → IsErrOf done (Halted at) → old.halted ≡ Some at)
    (refused : (at : ℕ) → old.halted ≡ Some at → done ≡ Err (Halted at))
    (alone : (turn : ℕ) → IsErrOf done (Busy turn) → ⊥) (text : Result (List ℕ) NoMemory)
    (is : IfOk text (λ t. t ≡ answer_text (tended done))) where
  stays : (at : ℕ) → old.halted ≡ Some at → new.halted ≡ Some at
  stays at was = elim halted [
    | inl still ↦ still ∙ was
    | inr over ↦ absurd (cc (over.1, was))
  ]

  -- commits go on, where it isn't refused for their end
  going : (h : Option ℕ) → old.halted ≡ h → ((at : ℕ) → done ≡ Err (Halted at) → ⊥) → old.halted ≡ None
  going None was none = was
  going (Some at) was none = absurd (none at (refused at was))

  module _ (e : EarlierData) (sessions : List SessionData) (run : RunData)
      (k : Keeps (Was e sessions old new causes_old causes_new same) run) where
    abbrev Done : Result T TendFault → Type 0
    Done d = (next : RunData) × Checkpoints run (tended d) next
        × Keeps (Is e sessions old new causes_old causes_new same) next

    run_goes : ((at : ℕ) → done ≡ Err (Halted at) → ⊥) → run.halted ≡ None
    run_goes none = sym k.halted ∙ going old.halted refl none

    still : (done ≡ Err Fault → ⊥) → new.halted ≡ old.halted
    still none = elim halted [
      | inl same_halted ↦ same_halted
      | inr over ↦ absurd (none over.0)
    ]

    checks : (d : Result T TendFault) → done ≡ d → Done d
    checks (Ok value) done_is = (
      run,
      inr (run_goes (λ at other. cc (done_is, other)), inl (refl, refl)),
      keeps_same e sessions old new causes_old causes_new same run k (still (λ other. cc (done_is, other))),
    )
    checks (Err Fault) done_is = (
      record run { halted = new.halted },
      inr (run_goes (λ at other. cc (done_is, other)), inr (refl, refl)),
      keeps_so e sessions old new causes_old causes_new same run new.halted k refl,
    )
    checks (Err (Halted at)) done_is = (
      run,
      inl (
        at,
        sym k.halted ∙ ended at done_is,
        refl,
        refl,
      ),
      keeps_same e sessions old new causes_old causes_new same run k (still (λ other. cc (done_is, other))),
    )
    checks (Err (Busy turn)) done_is =
        absurd (alone turn done_is)

  pub checkpoint_step : IsStepOf old causes_old checkpoint text new causes_new
  checkpoint_step = λ e sessions. record {
    answer = tended done;
    stepped = stepped_so e sessions old new causes_old causes_new same done counted alone
        (λ at is_at. stays at (ended at is_at)) stays checkpoint refl
        (λ run k. checks e sessions run k done refl);
    text_is = is;
  }
