-- The history of a run is legal, and leads to the run's base.
use Rattle.std.proofs.Common.{◌≡◌, ◌⊎◌, List, [], ◌∷◌, ◌++◌, Option, Some, None, option_map, IsSome, IfSome, ℕ}
use Rattle.std.proofs.Common.{inl, inr, refl}
use Rattle.std.proofs.Common.{sym, ap, subst, ◌∙◌}
use Rattle.ori_spec_data.specs.Base.{BaseData, EntryData, AskedData, asks_commit, asks_define}
use Rattle.ori_spec_data.specs.Apply.{apply, replay}
use Rattle.ori_spec_data.specs.Asked.{IsAskable, refusal_of, entry_on}
use Rattle.ori_spec_data.specs.Limits.{FoundData, limit_cause}
use Rattle.ori_spec_data.specs.Refusing.{CommitRefusalData}
use Rattle.ori_spec_data.specs.Views.{view_of}
use Rattle.ori_spec_data.specs.Soundness.{IsSoundBase}
use Rattle.ori_spec_data.specs.Histories.{IsLegalHistory}
use Rattle.ori_spec_texts.specs.Line.{LineData, statement, tries, step, StepData, flush, settle, checkpoint, reopen}
use Rattle.ori_spec_texts.specs.Line.{history, bag, check}
use Rattle.ori_spec_data.specs.Replies.{RefusalData, by_base, halted, ReplyData}
use Rattle.ori_spec_texts.specs.Reply.{AnswerData}
use Rattle.ori_spec_runs.specs.Answer.{SessionData, with_open, PendingData, one, whole, schema, asked_by, MeaningData}
use Rattle.ori_spec_runs.specs.Answer.{answered, turned, pending, meaning}
use Rattle.ori_spec_runs.specs.Run.{RunData, run_start, session_of, with_session, left_by, first_of, feed_cause}
use Rattle.ori_spec_runs.specs.Run.{cause, Accepts, Fails, DecidesBy, Replies, reopened, joined, Reopens}
use Rattle.ori_spec_runs.specs.Run.{Tells, TellsOrNot, Checkpoints, StepTells, Step, Run}
use Rattle.ori_spec_data.proofs.Kept.{apply_sound}

-- ---- histories with one entry more

legal_more : (base : BaseData) (history : List EntryData) (e : EntryData) → IsLegalHistory base history
    → IsLegalHistory (replay base history) (e ∷ []) → IsLegalHistory base (history ++ e ∷ [])
legal_more base [] e legal last = last
legal_more base (f ∷ es) e legal last = (legal.0, legal.1, legal.2, legal_more (apply base f) es e legal.3 last)

replay_more : (base : BaseData) (history : List EntryData) (e : EntryData)
    → replay base (history ++ e ∷ []) ≡ apply (replay base history) e
replay_more base [] e = refl
replay_more base (f ∷ es) e = replay_more (apply base f) es e

-- ---- along a run

-- an entry on a base is legal, and keeps it sound
record IsSoundOn (base : BaseData) (e : EntryData) : Type 0 where
  legal : IsLegalHistory base (e ∷ [])
  sound : IsSoundBase (apply base e)

-- The history is legal from a base on and leads to the base that the run has, which is sound. An entry in doubt would
-- be legal, and commits have ended where one is.
record IsLed (base : BaseData) (run : RunData) : Type 0 where
  legal : IsLegalHistory base run.history
  replayed : run.base ≡ replay base run.history
  sound : IsSoundBase run.base
  doubted : IfSome run.doubt (IsSoundOn run.base)
  ended : IsSome run.doubt → IsSome run.halted

led_start : (found : FoundData) → IsSoundBase found.base → IsLed found.base (run_start found)
led_start found sound =
    record { legal = tt; replayed = refl; sound = sound; doubted = tt; ended = λ none. absurd (cc none) }

led_session : (base : BaseData) (run : RunData) (session : ℕ) (kept : SessionData) → IsLed base run
    → IsLed base (with_session run session kept)
led_session base run session kept led = record {
  legal = led.legal;
  replayed = led.replayed;
  sound = led.sound;
  doubted = led.doubted;
  ended = led.ended;
}

led_left : (base : BaseData) (run : RunData) (session : ℕ) (p : PendingData) → IsLed base run
    → IsLed base (left_by run session p)
led_left base run session (one plan) led = led
led_left base run session (whole tx) led =
    led_session base run session (with_open (session_of run session) None) led
led_left base run session (schema definition) led = led

-- ---- a commit

first_none : (a b : Option RefusalData) → first_of a b ≡ None → (a ≡ None) × (b ≡ None)
first_none None b h = (refl, h)
first_none (Some why) b h = absurd cc

none_by_base : (o : Option CommitRefusalData) → option_map by_base o ≡ None → o ≡ None
none_by_base None h = refl
none_by_base (Some why) h = absurd cc

-- where nothing stands against what is asked, the base doesn't refuse it, and commits go on
record IsUnrefused (run : RunData) (asked : AskedData) : Type 0 where
  going : run.halted ≡ None
  allowed : refusal_of run.base asked ≡ None

none_halted : (o : Option ℕ) → option_map halted o ≡ None → o ≡ None
none_halted None h = refl
none_halted (Some at) h = absurd cc

unrefused : (run : RunData) (asked : AskedData) → cause run asked ≡ None → IsUnrefused run asked
unrefused run asked h =
    let later = first_none (option_map halted run.halted) _ h in
    let base = first_none (feed_cause run.feed asked) _ later.1 in
    record {
      going = none_halted run.halted later.0;
      allowed = none_by_base (refusal_of run.base asked)
          (first_none (option_map by_base (refusal_of run.base asked)) (limit_cause run.limit run.base asked) base.1).0;
    }

-- nothing is in doubt while commits go on
no_doubt : (doubt : Option EntryData) (ended : Option ℕ) → (IsSome doubt → IsSome ended) → ended ≡ None
    → doubt ≡ None
no_doubt None ended over going = refl
no_doubt (Some e) ended over going =
    absurd (cc (subst (λ (o : Option ℕ). IsSome o) going (over refl)))

sound_on : (base : BaseData) (session : ℕ) (asked : AskedData) → IsSoundBase base → IsAskable asked
    → refusal_of base asked ≡ None → IsSoundOn base (entry_on base session asked)
sound_on base session (asks_commit tx) sound formed free =
    record { legal = (formed, free, refl, tt); sound = apply_sound base tx sound formed free }
sound_on base session (asks_define definition) sound none free = absurd none

module _ (base : BaseData) (old new : RunData) (session : ℕ) (p : PendingData) (reply : ReplyData)
    (led : IsLed base old) (askable : IsAskable (asked_by p)) where
  abbrev Entry : EntryData
  Entry = entry_on old.base session (asked_by p)

  left_doubt : (q : PendingData) → (left_by old session q).doubt ≡ old.doubt
  left_doubt (one plan) = refl
  left_doubt (whole tx) = refl
  left_doubt (schema definition) = refl

  led_accepted : IsUnrefused old (asked_by p) → Accepts old session p Entry reply new → IsLed base new
  led_accepted free a =
      let on = sound_on old.base session (asked_by p) led.sound askable free.allowed in
      let none : (left_by old session p).doubt ≡ None =
      left_doubt p ∙ no_doubt old.doubt old.halted led.ended free.going in
      subst (IsLed base) (sym a.new_is) (record {
        legal = legal_more base old.history Entry led.legal
            (subst (λ b. IsLegalHistory b (Entry ∷ [])) led.replayed on.legal);
        replayed = ap (λ b. apply b Entry) led.replayed ∙ sym (replay_more base old.history Entry);
        sound = on.sound;
        doubted = subst (λ (d : Option EntryData). IfSome d (IsSoundOn (apply old.base Entry))) (sym none) tt;
        ended = λ some. absurd (cc (subst (λ (d : Option EntryData). IsSome d) none some));
      })

  -- commits that have ended stay ended
  ended_by : {halted_by : Option ℕ} → (halted_by ≡ old.halted) ⊎ IsSome halted_by → IsSome old.halted
      → IsSome halted_by
  ended_by (inl same) some = subst (λ (o : Option ℕ). IsSome o) (sym same) some
  ended_by (inr own) some = own

  led_failed : IsUnrefused old (asked_by p) → Fails old session p Entry reply new → IsLed base new
  led_failed free f =
      let left = led_left base old session p led in
      let on = sound_on old.base session (asked_by p) led.sound askable free.allowed in
      subst (IsLed base) (sym f.new_is) (record {
        legal = left.legal;
        replayed = left.replayed;
        sound = left.sound;
        doubted = elim f.doubt_is [
          | inl same ↦ doubt_on
              (subst (λ (d : Option EntryData). IfSome d (IsSoundOn old.base)) (sym same) led.doubted)
          | inr own ↦ doubt_on (subst (λ (d : Option EntryData). IfSome d (IsSoundOn old.base)) (sym own.0) on)
        ];
        ended = elim f.doubt_is [
          | inl same ↦ λ some. ended_by f.halted_is
              (led.ended (subst (λ (d : Option EntryData). IsSome d) same some))
          | inr own ↦ λ some. own.1
        ];
      })
    where
      -- the base is the same behind a transaction that ended
      left_base : (q : PendingData) → (left_by old session q).base ≡ old.base
      left_base (one plan) = refl
      left_base (whole tx) = refl
      left_base (schema definition) = refl

      doubt_on : IfSome f.left_open (IsSoundOn old.base) → IfSome f.left_open (IsSoundOn (left_by old session p).base)
      doubt_on h = subst (λ b. IfSome f.left_open (IsSoundOn b)) (sym (left_base p)) h

  led_decided : (why : Option RefusalData) → cause old (asked_by p) ≡ why → DecidesBy old session p why reply new
      → IsLed base new
  led_decided (Some why) e d = subst (IsLed base) (sym d.1) (led_left base old session p led)
  led_decided None e (inl a) = led_accepted (unrefused old (asked_by p) e) a
  led_decided None e (inr f) = led_failed (unrefused old (asked_by p) e) f

-- ---- a reopening

module _ (base : BaseData) (old : RunData) (led : IsLed base old) where
  led_reopened : IsLed base (reopened old)
  led_reopened = record {
    legal = led.legal;
    replayed = led.replayed;
    sound = led.sound;
    doubted = tt;
    ended = λ none. absurd (cc none);
  }

  led_joined : (e : EntryData) → IsSoundOn old.base e → IsLed base (joined (reopened old) e)
  led_joined e on = record {
    legal = legal_more base old.history e led.legal (subst (λ b. IsLegalHistory b (e ∷ [])) led.replayed on.legal);
    replayed = ap (λ b. apply b e) led.replayed ∙ sym (replay_more base old.history e);
    sound = on.sound;
    doubted = tt;
    ended = λ none. absurd (cc none);
  }

  led_by : (doubt : Option EntryData) (new : RunData) → IfSome doubt (IsSoundOn old.base) → Reopens old doubt new
      → IsLed base new
  led_by None new on is = subst (IsLed base) (sym is) led_reopened
  led_by (Some e) new on (inl is) = subst (IsLed base) (sym is) led_reopened
  led_by (Some e) new on (inr is) = subst (IsLed base) (sym is) (led_joined e on)

-- ---- lines

module _ (base : BaseData) (old : RunData) (led : IsLed base old) where
  led_same : (new : RunData) → new ≡ old → IsLed base new
  led_same new e = subst (IsLed base) (sym e) led

  led_replied : (new : RunData) (session : ℕ) (m : MeaningData) (reply : ReplyData)
      → Replies old session m reply new → IsLed base new
  led_replied new session (answered said) reply r = led_same new r.1
  led_replied new session (turned said kept) reply r =
      subst (IsLed base) (sym r.1) (led_session base old session kept led)
  led_replied new session (pending p) reply r =
      led_decided base old new session p reply led r.0 (cause old (asked_by p)) refl r.1

  led_told : (new : RunData) (session : ℕ) (text : List ℕ) (reply : ReplyData) → Tells old session text reply new
      → IsLed base new
  led_told new session text reply (inl t) =
      led_replied new session (meaning (view_of old.base) (session_of old session) t.0) reply t.2
  led_told new session text reply (inr t) = led_same new t.2

  led_told_or_not : (new : RunData) (session : ℕ) (text : List ℕ) (reply : ReplyData)
      → TellsOrNot old session text reply new → IsLed base new
  led_told_or_not new session text reply (inl t) = led_told new session text reply t
  led_told_or_not new session text reply (inr t) = led_same new t.1

  -- nothing is in doubt where a checkpoint is made, so that it may end commits
  led_checkpoint : (new : RunData) (answer : AnswerData) → Checkpoints old answer new → IsLed base new
  led_checkpoint new answer (inl s) = led_same new s.3
  led_checkpoint new answer (inr (going, inl s)) = led_same new s.1
  led_checkpoint new answer (inr (going, inr s)) = subst (IsLed base) (sym s.1) (record {
    legal = led.legal;
    replayed = led.replayed;
    sound = led.sound;
    doubted = led.doubted;
    ended = λ some. absurd (cc (subst (λ (o : Option ℕ). IsSome o) going (led.ended some)));
  })

  led_step : (new : RunData) (s : StepData) (answer : AnswerData) → StepTells old s answer new → IsLed base new
  led_step new (flush part) answer s = led_same new s.1
  led_step new settle answer s = led_same new s.1
  led_step new checkpoint answer s = led_checkpoint new answer s
  led_step new reopen answer s = led_by base old led old.doubt new led.doubted s.1
  led_step new history answer s = led_same new s.1
  led_step new (bag vertex dir class) answer s = led_same new s.1
  led_step new check answer s = led_same new s.1

  led_line : (new : RunData) (line : LineData) (answer : AnswerData) → Step old line answer new → IsLed base new
  led_line new (statement session text) answer s = led_told_or_not new session text s.0 s.1
  led_line new (tries session count text) answer s = led_same new s.1
  led_line new (step t) answer s = led_step new t answer s

led_run : (base : BaseData) (old new : RunData) (lines : List LineData) (answers : List AnswerData) → IsLed base old
    → Run old lines answers new → IsLed base new
led_run base old new [] [] led r = led_same base old led new r
led_run base old new [] (answer ∷ answers) led r = absurd r
led_run base old new (line ∷ lines) [] led r = absurd r
led_run base old new (line ∷ lines) (answer ∷ answers) led r =
    led_run base r.0 new lines answers (led_line base old led r.0 line answer r.1) r.2

-- ---- the laws of runs

module _ (found : FoundData) (lines : List LineData) (answers : List AnswerData) (final : RunData)
    (sound : IsSoundBase found.base) (run : Run (run_start found) lines answers final) where
  led_final : IsLed found.base final
  led_final = led_run found.base (run_start found) final lines answers (led_start found sound) run

  pub run_legal : IsLegalHistory found.base final.history
  run_legal = led_final.legal

  pub run_sound : IsSoundBase final.base
  run_sound = led_final.sound

  pub run_replays : replay found.base final.history ≡ final.base
  run_replays = sym led_final.replayed
