-- What a session's statement over an engine is in the run.
use Rattle.std.proofs.Common.{◌≡◌, ◌⊎◌, inl, inr, ℕ, ◌+◌, ◌-◌, ◌<◌, ◌≤◌, Bool, true, false, ◌||◌, List, [], ◌∷◌}
use Rattle.std.proofs.Common.{◌++◌, length, get_or, Option, Some, None, option_map, IsTrue, IsSome, IfSome, refl, sym}
use Rattle.std.proofs.Common.{Result, Err, ap, ap₂, ◌∙◌, subst, append_assoc, arith}
use Rattle.std.specs.Prelude.{set, if◌then◌else◌}
use Rattle.std.specs.List.{AllByRecursion}
use Rattle.std.proofs.lemmas.List.{set-get_or}
use Rattle.ori_bytes.specs.declared.rid.Rid.{Rid}
use Rattle.ori_bytes.specs.declared.causes.Causes.{Causes}
use Rattle.ori_bytes.specs.declared.limits.TheConstants.{MAX_PAGES, MAX_POSITIONS, MAX_WEIGHT, MAX_FEED_BYTES}
use Rattle.ori_volume.proofs.Known.{some_told}
use Rattle.ori_spec_data.specs.Base.{BaseData, ChangeData, TxData, EntryData, AskedData, asks_commit, asks_define}
use Rattle.ori_spec_data.specs.Base.{asked_in, entry_by}
use Rattle.ori_spec_data.specs.Apply.{apply}
use Rattle.ori_spec_data.specs.Asked.{IsAskable, refusal_of, fresh_by, entry_on}
use Rattle.ori_spec_data.specs.Limits.{asked_need, need_told, room_after, limit_after}
use Rattle.ori_spec_data.specs.Soundness.{IsSoundBase}
use Rattle.ori_spec_data.specs.Keeping.{StateData, DecisionData, accepted, halted_at, feed_full, refused, pages_full}
use Rattle.ori_spec_data.specs.Keeping.{log_full, fault, device, busy, damaged, no_memory, counted, bytes_with, IsFull}
use Rattle.ori_spec_data.specs.Keeping.{IsAsked, IsGranted, AreFresh, Joins, Breaks, Decides}
use Rattle.ori_spec_data.specs.Replies as replies
use Rattle.ori_spec_data.specs.Replies.{RefusalData, ReplyData, is_fault, is_fault_refusal}
use Rattle.ori_spec_data.specs.Views.{ViewData, view_of, are_real}
use Rattle.ori_spec_data.proofs.Kept.{apply_sound}
use Rattle.ori_spec_texts.specs.Statement.{StatementData, inserts, selects, updates, deletes_vertex, begins, commits}
use Rattle.ori_spec_texts.specs.Statement.{rolls_back, IsStatement}
use Rattle.ori_spec_texts.specs.Line.{statement}
use Rattle.ori_spec_texts.specs.Reply.{to_session}
use Rattle.ori_spec_runs.specs.Answer.{SessionData, closed, with_open, plan_of, plan_by, PendingData, one}
use Rattle.ori_spec_runs.specs.Answer.{whole}
use Rattle.ori_spec_runs.specs.Answer.{schema, asked_by, MeaningData, answered, turned, pending, alone, changed}
use Rattle.ori_spec_runs.specs.Answer.{changes_by, view_in, made_in, begun, ended_by, ended, rolled_back, meaning}
use Rattle.ori_spec_runs.specs.Run as runs
use Rattle.ori_spec_runs.specs.Run.{RunData, session_of, with_session, left_by, cause, reply_on}
use Rattle.ori_spec_runs.specs.Run.{Replies, TellsOrNot, Step}
use Rattle.ori_model.specs.declared.reply.Reply.{Reply}
use Rattle.ori_model.specs.Replies.{reply_of}
use Rattle.ori_session.specs.Reads.{WhereReal, IsUnbuilt, IsReadFault}
use Rattle.ori_session.specs.Commits.{reply_by, stays, left_open, AnswersOn}
use Rattle.ori_session.specs.Runs.{IsAnswer, Executes}
use Rattle.ori_engine.specs.Openings.{IsKeptState, troubles_of}
use Rattle.ori_script.specs.declared.past.Past.{Past}
use Rattle.ori_script.specs.Pasts.{EarlierData, HasRoom, HasPlace, doubt_count, may_leave, IsReady}
use Rattle.ori_script.specs.Keeping.{StoreData, store_behind, KeptData, Keeps, HasFailed, IsStepped}
use Rattle.ori_script.proofs.Causes.{full_feed, free_feed, need_is, within, asked_back, IsFree, by_halt, by_feed}
use Rattle.ori_script.proofs.Causes.{by_refusal, by_log, by_none}
use Rattle.ori_script.proofs.Counted.{IsInside, no_busy, no_damaged, read_so, read_told, fault_counted}
use Rattle.ori_script.proofs.Counted.{device_counted, faults_kept, faults_read}
use Rattle.ori_script.proofs.Runs.{only}

-- ---- what is kept

module _ (earlier : List EntryData) (failed : List (ℕ × EntryData)) where
  abbrev pub store_as : StateData → Causes → StoreData
  store_as state causes = record { earlier = earlier; failed = failed; state = state; causes = causes }

  abbrev pub kept_as : StateData → Causes → List SessionData → KeptData
  kept_as state causes sessions = record { store = store_as state causes; sessions = sessions }

  -- the engine's state is as before, and this is kept of the sessions
  keeps_with : (old new : StateData) (causes_old causes_new : Causes) (cur next now : List SessionData) (run : RunData)
      → Keeps (kept_as old causes_old cur) run → new ≡ old → next ≡ now
      → Keeps (kept_as new causes_new next) (record run { sessions = now })
  keeps_with old new causes_old causes_new cur next now run k same is = record {
    sound = k.sound;
    base = ap (λ (s : StateData). s.base) same ∙ k.base;
    feed = ap (λ (s : StateData). s.feed) same ∙ k.feed;
    history = k.history;
    failed = k.failed;
    halted = ap (λ (s : StateData). s.halted) same ∙ k.halted;
    doubt = ap (λ (s : StateData). s.doubt) same ∙ k.doubt;
    limit = ap (λ (s : StateData). s.limit) same ∙ k.limit;
    sessions = is;
  }

  -- a session's transaction has ended, where what is pending was one
  keeps_left : (old : StateData) (causes_old causes_new : Causes) (cur next : List SessionData) (run : RunData)
      (session : ℕ) (p : PendingData) → Keeps (kept_as old causes_old cur) run
      → next ≡ (left_by run session p).sessions → Keeps (kept_as old causes_new next) (left_by run session p)
  keeps_left old causes_old causes_new cur next run session (one plan) k is =
      keeps_with old old causes_old causes_new cur next _ run k refl is
  keeps_left old causes_old causes_new cur next run session (whole tx) k is =
      keeps_with old old causes_old causes_new cur next _ run k refl is
  keeps_left old causes_old causes_new cur next run session (schema definition) k is =
      keeps_with old old causes_old causes_new cur next _ run k refl is

-- nothing else is kept of a session than before
set_kept : (cur next : List SessionData) (i : ℕ) (left : SessionData) → next ≡ set cur i left
    → left ≡ get_or cur i closed → next ≡ cur
set_kept cur next i left is same = is ∙ ap (λ (s : SessionData). set cur i s) same ∙ set-get_or cur i closed

-- ---- a session's place

module _ (cur next : List SessionData) (session : ℕ) (d : DecisionData) (left : SessionData)
    (is : next ≡ set cur (session - 1) left) where
  -- a session's transaction has ended with its commit
  left_is : (p : PendingData) (run : RunData) → stays d ≡ false → left ≡ left_open (get_or cur (session - 1) closed) p d
      → cur ≡ run.sessions → next ≡ (left_by run session p).sessions
  left_is (one plan) run goes opens same = set_kept cur next (session - 1) left is opens ∙ same
  left_is (whole tx) run goes opens same =
      let own = get_or cur (session - 1) closed in
      let over : left ≡ with_open own None =
      opens ∙ ap (λ (b : Bool). if b then own else with_open own None) goes in
      is ∙ ap (λ (s : SessionData). set cur (session - 1) s) over
      ∙ ap (λ (l : List SessionData). set l (session - 1) (with_open (get_or l (session - 1) closed) None)) same
  left_is (schema definition) run goes opens same = set_kept cur next (session - 1) left is opens ∙ same

  -- or stays open
  left_stays : (p : PendingData) → stays d ≡ true → left ≡ left_open (get_or cur (session - 1) closed) p d → next ≡ cur
  left_stays (one plan) stay opens = set_kept cur next (session - 1) left is opens
  left_stays (whole tx) stay opens =
      let own = get_or cur (session - 1) closed in
      set_kept cur next (session - 1) left is
      (opens ∙ ap (λ (b : Bool). if b then own else with_open own None) stay)
  left_stays (schema definition) stay opens = set_kept cur next (session - 1) left is opens

-- ---- what an engine shows

some_is : {T : Type 0} {x y : T} → Some x ≡ Some y → x ≡ y
some_is e = cc

-- it tells a base, whose records have real identifiers
module _ (state : StateData) (causes : Causes) (view : Option ViewData) (known : IsKeptState state causes)
    (shows : view ≡ option_map view_of state.base) where
  in_base : (P : ViewData → Type 0) → WhereReal view P → P (view_of known.base)
  in_base P h =
      let is : view ≡ Some (view_of known.base) = shows
      ∙ ap (λ (o : Option BaseData). option_map view_of o) known.base_is in
      some_told (λ (s : ViewData). IsTrue (are_real s.records) → P s) view (view_of known.base) is h known.real

-- commits never find the pages full
never_full : (state : StateData) (causes : Causes) (base : BaseData) (n heavy : ℕ) → IsKeptState state causes
    → state.base ≡ Some base → IsSoundBase base → IfSome state.in_use (λ m. n ≡ m) → heavy ≤ MAX_WEIGHT
    → MAX_PAGES < n + heavy → ⊥
never_full state causes base n heavy known is sound used light full =
    let n_is = some_told (λ (m : ℕ). n ≡ m) state.in_use (get_or known.base.next 0 0 + 1) known.in_use_is used in
    let same : known.base ≡ base = some_is (sym known.base_is ∙ is) in
    let next = ap (λ (b : BaseData). get_or b.next 0 0) same in
    omega (arith, n_is, next, first_next base.next sound.next, light, full)
  where
    first_next : (next : List ℕ) → AllByRecursion (λ m. m ≤ MAX_POSITIONS) next → get_or next 0 0 ≤ MAX_POSITIONS
    first_next [] h = omega arith
    first_next (m ∷ ms) h = h.0

-- an entry that can be asked and isn't refused keeps a base sound
sound_on : (base : BaseData) (session : ℕ) (asked : AskedData) → IsSoundBase base → IsAskable asked
    → refusal_of base asked ≡ None → IsSoundBase (apply base (entry_on base session asked))
sound_on base session (asks_commit tx) sound formed free = apply_sound base tx sound formed free
sound_on base session (asks_define definition) sound none free = absurd none

-- ---- what is decided by a commit

module _ (earlier : List EntryData) (failed : List (ℕ × EntryData)) (view : Option ViewData) (old new : StateData)
    (causes_old causes_new : Causes) (cur cur' : List SessionData) (session : ℕ) (reply : ReplyData)
    (left : SessionData)
    (known : IsKeptState old causes_old) (shows : view ≡ option_map view_of old.base) (inside : IsInside causes_new)
    (is : cur' ≡ set cur (session - 1) left) (run : RunData)
    (k : Keeps (kept_as earlier failed old causes_old cur) run) where
  abbrev After : KeptData
  After = kept_as earlier failed new causes_new cur'

  -- it is out of memory, or the device failed
  abbrev IsWanting : Type 0
  IsWanting = (reply ≡ replies.refused replies.no_memory) ⊎ (reply ≡ replies.refused replies.device)

  abbrev Decided : PendingData → Type 0
  Decided p = (next : RunData)
      × (runs.Decides run session p reply next
      ⊎ (IsWanting × (next ≡ run)))
      × Keeps After next

  front_is : old.front ≡ length run.feed
  front_is = known.front_is ∙ ap (λ (feed : List EntryData). length feed) (some_is (sym known.feed_is ∙ k.feed))

  -- all is as before
  wants : (p : PendingData) → IsWanting → new ≡ old → cur' ≡ cur → Decided p
  wants p told same now = (
    run,
    inr (told, refl),
    keeps_with earlier failed old new causes_old causes_new cur cur' run.sessions run k same
        (now ∙ k.sessions),
  )

  module _ (p : PendingData) (askable : IsAskable (asked_by p)) where
    abbrev asked : AskedData
    asked = asked_by p

    -- nothing stands against it so far
    free : IsAsked old asked → IsFree run asked
    free h =
        let front = front_is in
        let bytes = some_told (λ (feed : List EntryData). bytes_with feed asked ≤ MAX_FEED_BYTES) old.feed run.feed
        k.feed h.bytes in
        record {
          going = sym k.halted ∙ h.running;
          feed = free_feed run.feed asked (omega (arith, front, h.entries)) bytes;
        }

    allowed : IfSome old.base (λ base. refusal_of base asked ≡ None) → refusal_of run.base asked ≡ None
    allowed h = some_told (λ (base : BaseData). refusal_of base asked ≡ None) old.base run.base k.base h

    -- nothing stands against it
    granted_so : IsGranted old asked → cause run asked ≡ None
    granted_so granted =
        by_none run asked (free granted.allowed.asked_is) (allowed granted.allowed.allowed)
        (subst (λ (o : Option ℕ). IfSome o (λ n. asked_need run.base asked ≤ n)) k.limit
        (within old.limit old.base run.base asked k.base granted.room))

    abbrev entry : EntryData
    entry = entry_on run.base session asked

    -- the entry has the identifiers that the run's base gives
    made_so : (rids : List Rid) → AreFresh old asked rids → rids ≡ fresh_by run.base asked
    made_so rids are_fresh =
        some_told (λ (base : BaseData). rids ≡ fresh_by base asked) old.base run.base k.base are_fresh.1

    -- it is refused, and the transaction has ended
    refuse : (why : RefusalData) → cause run asked ≡ Some why → reply ≡ replies.refused why → new ≡ old
        → cur' ≡ (left_by run session p).sessions → Decided p
    refuse why caused told same now =
        let kept = keeps_left earlier failed old causes_old causes_new cur cur' run session p k now in (
          left_by run session p,
          inl (
            askable,
            subst (λ (c : Option RefusalData). runs.DecidesBy run session p c reply (left_by run session p))
                (sym caused) (told, refl),
          ),
          subst (λ (s : StateData). Keeps (kept_as earlier failed s causes_new cur') (left_by run session p)) (sym same)
              kept,
        )

    -- what is left of the log's room
    limit_joined : (rids : List Rid) → Joins old (entry_by session asked rids) new
        → new.limit ≡ limit_after run.base asked run.limit
    limit_joined rids joins =
        some_told (λ (need : ℕ). new.limit ≡ option_map (room_after need) old.limit)
        (need_told old.base (asked_in (entry_by session asked rids))) (asked_need run.base asked)
        (ap (λ (a : AskedData). need_told old.base a) (asked_back session asked rids)
        ∙ need_is old.base run.base asked k.base) joins.limit
        ∙ ap (λ (o : Option ℕ). option_map (room_after (asked_need run.base asked)) o) k.limit

    -- it joins the history
    accept : (rids : List Rid) → IsGranted old asked → AreFresh old asked rids
        → Joins old (entry_by session asked rids) new
        → IfSome old.base (λ base. IsSoundBase base
        → reply ≡ reply_on (apply base (entry_by session asked rids)) rids p)
        → cur' ≡ (left_by run session p).sessions → Decided p
    accept rids granted are_fresh joins on_base now =
        let named : rids ≡ fresh_by run.base asked = made_so rids are_fresh in
        let answers : reply ≡ reply_on (apply run.base (entry_by session asked rids)) rids p =
        some_told (λ (base : BaseData). IsSoundBase base
        → reply ≡ reply_on (apply base (entry_by session asked rids)) rids p) old.base run.base k.base on_base
        k.sound in
        let kept = keeps_left earlier failed old causes_old causes_new cur cur' run session p k now in
        let made : entry_by session asked rids ≡ entry = ap (λ (ids : List Rid). entry_by session asked ids) named in
        let next : RunData = record (left_by run session p) {
          base = apply run.base entry;
          history = run.history ++ entry ∷ [];
          feed = run.feed ++ entry ∷ [];
          limit = limit_after run.base asked run.limit;
        } in (
          next,
          inl (
            askable,
            subst (λ (c : Option RefusalData). runs.DecidesBy run session p c reply next) (sym (granted_so granted))
                (inl (record {
                  reply_is = answers
                      ∙ ap (λ (ids : List Rid). reply_on (apply run.base (entry_by session asked ids)) ids p) named;
                  new_is = refl;
                })),
          ),
          record {
            sound = sound_on run.base session asked k.sound askable (allowed granted.allowed.allowed);
            base = joins.base
                ∙ ap (λ (o : Option BaseData). option_map (λ b. apply b (entry_by session asked rids)) o) k.base
                ∙ ap (λ (e : EntryData). Some (apply run.base e)) made;
            feed = joins.feed
                ∙ ap (λ (o : Option (List EntryData)). option_map (λ feed. feed ++ entry_by session asked rids ∷ []) o)
                k.feed
                ∙ ap (λ (e : EntryData). Some (run.feed ++ e ∷ [])) made;
            history = ap (λ (h : List EntryData). h ++ entry ∷ []) k.history
                ∙ append_assoc earlier run.feed (entry ∷ []);
            failed = kept.failed;
            halted = joins.halted ∙ kept.halted;
            doubt = joins.doubt ∙ kept.doubt;
            limit = limit_joined rids joins;
            sessions = now;
          },
        )

    -- its write failed
    fails : (rids : List Rid) → IsGranted old asked → AreFresh old asked rids
        → Breaks old (entry_by session asked rids) new → reply ≡ replies.refused replies.fault
        → cur' ≡ (left_by run session p).sessions → Decided p
    fails rids granted are_fresh breaks told now =
        let made : entry_by session asked rids ≡ entry =
        ap (λ (ids : List Rid). entry_by session asked ids) (made_so rids are_fresh) in
        let kept = keeps_left earlier failed old causes_old causes_new cur cur' run session p k now in
        let same = breaks.same in
        let next : RunData = record (left_by run session p) { halted = new.halted; doubt = new.doubt } in
        let halted : (new.halted ≡ run.halted) ⊎ IsSome new.halted =
        elim breaks.halted [
          | inl still ↦ inl (still ∙ k.halted)
          | inr over ↦ inr over
        ] in
        let doubt : (new.doubt ≡ run.doubt) ⊎ ((new.doubt ≡ Some entry) × IsSome new.halted) =
        elim breaks.doubt [
          | inl still ↦ inl (still ∙ k.doubt)
          | inr own ↦ inr (own.0 ∙ ap (λ (e : EntryData). Some e) made, own.1)
        ] in (
          next,
          inl (
            askable,
            subst (λ (c : Option RefusalData). runs.DecidesBy run session p c reply next) (sym (granted_so granted))
                (inr (record {
                  reply_is = told;
                  halted_by = new.halted;
                  left_open = new.doubt;
                  new_is = refl;
                  halted_is = halted;
                  doubt_is = doubt;
                })),
          ),
          record {
            sound = kept.sound;
            base = ap (λ (s : StateData). s.base) same ∙ kept.base;
            feed = ap (λ (s : StateData). s.feed) same ∙ kept.feed;
            history = kept.history;
            failed = kept.failed;
            halted = refl;
            doubt = refl;
            limit = ap (λ (s : StateData). s.limit) same ∙ kept.limit;
            sessions = now;
          },
        )

    decide : (d : DecisionData) → Decides old session asked d new → reply ≡ reply_by d p
        → causes_new ≡ counted d causes_old → AnswersOn old session p d reply
        → left ≡ left_open (get_or cur (session - 1) closed) p d → Decided p
    decide (accepted place rids) h told causes on_base opens =
        accept rids h.0 h.2 h.3 on_base
        (left_is cur cur' session (accepted place rids) left is p run refl opens k.sessions)
    decide (halted_at at) h told causes on_base opens =
        refuse (replies.halted at) (by_halt run asked at (sym k.halted ∙ h.0)) told h.1
        (left_is cur cur' session (halted_at at) left is p run refl opens k.sessions)
    decide (feed_full entries bytes) h told causes on_base opens =
        let entries_are : entries ≡ length run.feed = h.1 ∙ front_is in
        let bytes_are : bytes ≡ bytes_with run.feed asked =
        some_told (λ (feed : List EntryData). bytes ≡ bytes_with feed asked) old.feed run.feed k.feed h.3 in
        let full : IsFull (length run.feed) (bytes_with run.feed asked) =
        subst (λ (n : ℕ). IsFull n (bytes_with run.feed asked)) entries_are
        (subst (λ (n : ℕ). IsFull entries n) bytes_are h.2) in
        refuse (replies.feed_full (length run.feed) (bytes_with run.feed asked))
        (by_feed run asked _ (sym k.halted ∙ h.0) (full_feed run.feed asked full))
        (told ∙ ap₂ (λ (n m : ℕ). replies.refused (replies.feed_full n m)) entries_are bytes_are) h.4
        (left_is cur cur' session (feed_full entries bytes) left is p run refl opens k.sessions)
    decide (refused why) h told causes on_base opens =
        let refuses = some_told (λ (base : BaseData). refusal_of base asked ≡ Some why) old.base run.base k.base h.1 in
        refuse (replies.by_base why) (by_refusal run asked why (free h.0) refuses) told h.3
        (left_is cur cur' session (refused why) left is p run refl opens k.sessions)
    decide (pages_full n heavy) h told causes on_base opens =
        absurd (never_full old causes_old run.base n heavy known k.base k.sound h.2 h.3 h.4)
    decide (log_full need room) h told causes on_base opens =
        let limited : run.limit ≡ Some room =
        sym k.limit ∙ some_told (λ (base : BaseData). old.limit ≡ Some room) old.base run.base k.base h.2 in
        let needed : need ≡ asked_need run.base asked =
        some_told (λ (n : ℕ). need ≡ n) (need_told old.base asked) (asked_need run.base asked)
        (need_is old.base run.base asked k.base) h.1 in
        refuse (replies.log_full (asked_need run.base asked) room)
        (by_log run asked room (free h.0.asked_is) (allowed h.0.allowed) limited (omega (arith, needed, h.4)))
        (told ∙ ap (λ (n : ℕ). replies.refused (replies.log_full n room)) needed) h.5
        (left_is cur cur' session (log_full need room) left is p run refl opens k.sessions)
    decide fault h told causes on_base opens =
        fails h.1.0 h.0 h.1.1 h.1.2 told (left_is cur cur' session fault left is p run refl opens k.sessions)
    decide device h told causes on_base opens =
        wants p (inr told) h.1 (left_stays cur cur' session device left is p refl opens)
    decide (busy turn) h told causes on_base opens = absurd (no_busy causes_old causes_new inside causes)
    decide (damaged page) h told causes on_base opens = absurd (no_damaged causes_old causes_new inside causes)
    decide no_memory h told causes on_base opens =
        wants p (inl told) h (left_stays cur cur' session no_memory left is p refl opens)

  -- ---- a statement

  -- a fact of what the keeper shows holds of the run's base
  in_run : (P : ViewData → Type 0) → WhereReal view P → P (view_of run.base)
  in_run P h =
      subst (λ (b : BaseData). P (view_of b)) (some_is (sym known.base_is ∙ k.base))
      (in_base old causes_old view known shows P h)

  means : (s : StatementData) → meaning (view_of run.base) (get_or cur (session - 1) closed) s
      ≡ meaning (view_of run.base) (session_of run session) s
  means s =
      ap (λ (l : List SessionData). meaning (view_of run.base) (get_or l (session - 1) closed) s) k.sessions

  finish : (m : MeaningData) → new ≡ old → IsAnswer m (get_or cur (session - 1) closed) reply left
      → (next : RunData) × Replies run session m reply next × Keeps After next
  finish (answered said) same h = (
    run,
    (h.0, refl),
    keeps_with earlier failed old new causes_old causes_new cur cur' run.sessions run k same
        (set_kept cur cur' (session - 1) left is h.1 ∙ k.sessions),
  )
  finish (turned said kept) same h = (
    with_session run session kept,
    (h.0, refl),
    keeps_with earlier failed old new causes_old causes_new cur cur'
        (set run.sessions (session - 1) kept) run k same
        (is ∙ ap₂ (λ (l : List SessionData) (s : SessionData). set l (session - 1) s) k.sessions h.1),
  )
  finish (pending p) same h = absurd h

  wanting_read : IsReadFault view causes_old causes_new reply → IsWanting
  wanting_read wrong =
      elim (read_so causes_old causes_new inside wrong.fault wrong.counted) [
        | inl none ↦ inl (wrong.reply_is ∙ ap replies.refused none)
        | inr failed ↦ inr (wrong.reply_is ∙ ap replies.refused failed)
      ]

  abbrev Told : List ℕ → Type 0
  Told text = (next : RunData) × TellsOrNot run session text reply next × Keeps After next

  refused_so : (text : List ℕ) (why : (IsUnbuilt text reply × (causes_new ≡ causes_old))
      ⊎ IsReadFault view causes_old causes_new reply) → left ≡ get_or cur (session - 1) closed → new ≡ old → Told text
  refused_so text why kept same = (
    run,
    elim why [
      | inl unbuilt ↦ inl (inr (unbuilt.0.none, unbuilt.0.reply_is, refl))
      | inr wrong ↦ inr (wanting_read wrong, refl)
    ],
    keeps_with earlier failed old new causes_old causes_new cur cur' run.sessions run k same
        (set_kept cur cur' (session - 1) left is kept ∙ k.sessions),
  )

  finished_so : (text : List ℕ) (s : StatementData) → IsStatement text s
      → WhereReal view (λ shown. IsAnswer (meaning shown (get_or cur (session - 1) closed) s)
      (get_or cur (session - 1) closed) reply left)
      → new ≡ old → Told text
  finished_so text s says answer same =
      let own = get_or cur (session - 1) closed in
      let done = finish (meaning (view_of run.base) own s) same
      (in_run (λ shown. IsAnswer (meaning shown own s) own reply left) answer) in (
        done.0,
        inl (inl (s, says, subst (λ (m : MeaningData). Replies run session m reply done.0) (means s) done.1)),
        done.2,
      )

  committed_so : (text : List ℕ) (s : StatementData) (p : PendingData) → IsStatement text s
      → WhereReal view (λ shown. meaning shown (get_or cur (session - 1) closed) s ≡ pending p)
      → Decided p → Told text
  committed_so text s p says meant done =
      let own = get_or cur (session - 1) closed in
      let is_pending = sym (in_run (λ shown. meaning shown own s ≡ pending p) meant) ∙ means s in (
        done.0,
        elim done.1 [
          | inl decides ↦ inl (inl (
            s,
            says,
            subst (λ (m : MeaningData). Replies run session m reply done.0) is_pending decides,
          ))
          | inr wanting ↦ inr wanting
        ],
        done.2,
      )

-- ---- faults

not_told : {T : Type 0} (reply : ReplyData) (why : RefusalData) → reply ≡ replies.refused why
    → is_fault_refusal why ≡ false → IsTrue (is_fault reply.told) → T
not_told reply why is fine told = absurd (cc (ap (λ (r : ReplyData). is_fault r.told) is ∙ fine, told))

-- a meaning never tells of a fault
abbrev IsFine : MeaningData → Type 0
IsFine (answered said) = is_fault said.told ≡ false
IsFine (turned said kept) = is_fault said.told ≡ false
IsFine (pending p) = Unit {0}

module _ (view : ViewData) (own : SessionData) where
  fine_alone : (cs : List ChangeData) → IsFine (alone (plan_of cs))
  fine_alone [] = refl
  fine_alone (c ∷ cs) = tt

  fine_ended : (tx : TxData) (cs : List ChangeData) → IsFine (ended_by own tx cs)
  fine_ended tx [] = refl
  fine_ended tx (c ∷ cs) = tt

  fine_changed : (current : Option TxData) (s : StatementData)
      → IsFine (changed own current (plan_by (view_in view current) (made_in current) s))
  fine_changed None s = fine_alone (changes_by view.records 0 s)
  fine_changed (Some tx) s = refl

  fine_begun : (current : Option TxData) → IsFine (begun own current)
  fine_begun None = refl
  fine_begun (Some tx) = refl

  fine_finished : (current : Option TxData) → IsFine (ended own current)
  fine_finished None = refl
  fine_finished (Some tx) = fine_ended tx tx.changes

  fine_dropped : (current : Option TxData) → IsFine (rolled_back own current)
  fine_dropped None = refl
  fine_dropped (Some tx) = refl

  fine_meaning : (s : StatementData) → IsFine (meaning view own s)
  fine_meaning (inserts name value) = fine_changed own.transaction (inserts name value)
  fine_meaning (selects rid) = refl
  fine_meaning (updates rid name value) = fine_changed own.transaction (updates rid name value)
  fine_meaning (deletes_vertex rid) = fine_changed own.transaction (deletes_vertex rid)
  fine_meaning begins = fine_begun own.transaction
  fine_meaning commits = fine_finished own.transaction
  fine_meaning rolls_back = fine_dropped own.transaction

fine_answer : (m : MeaningData) (old : SessionData) (reply : ReplyData) (new : SessionData) → IsFine m
    → IsAnswer m old reply new → is_fault reply.told ≡ false
fine_answer (answered said) old reply new fine h = ap (λ (r : ReplyData). is_fault r.told) h.0 ∙ fine
fine_answer (turned said kept) old reply new fine h = ap (λ (r : ReplyData). is_fault r.told) h.0 ∙ fine
fine_answer (pending p) old reply new fine h = absurd h

fine_given : (p : PendingData) (place : ℕ) (rids : List Rid) → is_fault (reply_by (accepted place rids) p).told ≡ false
fine_given (one plan) place rids = refl
fine_given (whole tx) place rids = refl
fine_given (schema definition) place rids = refl

some_stays : (old new : Option ℕ) → ((at : ℕ) → old ≡ Some at → new ≡ Some at) → IsSome old → IsSome new
some_stays None new stays some = absurd (cc some)
some_stays (Some at) new stays some = subst (λ (o : Option ℕ). IsSome o) (sym (stays at refl)) refl

-- a reply is that commits have ended
abbrev SaysHalted : ℕ → ReplyData → Type 0
SaysHalted at reply = reply.told ≡ Err (replies.halted at)

halted_fault : (at : ℕ) (reply : ReplyData) → SaysHalted at reply → IsTrue (is_fault reply.told)
halted_fault at reply says = ap (λ (t : Result ℕ RefusalData). is_fault t) says

told_is : (reply : ReplyData) (why : RefusalData) → reply ≡ replies.refused why → reply.told ≡ Err why
told_is reply why is = ap (λ (r : ReplyData). r.told) is

-- A decision answers a fault only where one has come, and that commits have ended only where they have; and what had
-- come stays.
module _ (earlier : List EntryData) (failed : List (ℕ × EntryData)) (old new : StateData)
    (causes_old causes_new : Causes)
    (inside : IsInside causes_new) where
  abbrev HadFailed : Type 0
  HadFailed = HasFailed (store_as earlier failed old causes_old)

  abbrev HasNow : Type 0
  HasNow = HasFailed (store_as earlier failed new causes_new)

  -- commits stay ended
  abbrev StayEnded : Type 0
  StayEnded = (at : ℕ) → old.halted ≡ Some at → new.halted ≡ Some at

  stays_so : StayEnded → troubles_of causes_old ≤ troubles_of causes_new → HadFailed → HasNow
  stays_so still later (inl over) = inl (some_stays old.halted new.halted still over)
  stays_so still later (inr some) = inr (omega (arith, later, some))

  same_halted : new ≡ old → new.halted ≡ old.halted
  same_halted same = ap (λ (s : StateData). s.halted) same

  still : new ≡ old → StayEnded
  still same at was = same_halted same ∙ was

  module _ (session : ℕ) (p : PendingData) (reply : ReplyData) where
    fine_decided : (asked : AskedData) (d : DecisionData) → Decides old session asked d new
        → causes_new ≡ counted d causes_old
        → reply ≡ reply_by d p → IsTrue (is_fault reply.told) → HasNow
    fine_decided asked (accepted place rids) h causes told = λ fault.
        absurd (cc (ap (λ (r : ReplyData). is_fault r.told) told ∙ fine_given p place rids, fault))
    fine_decided asked (halted_at at) h causes told = λ _.
        inl (subst (λ (o : Option ℕ). IsSome o) (sym (same_halted h.1 ∙ h.0)) refl)
    fine_decided asked (feed_full entries bytes) h causes told =
        not_told reply (replies.feed_full entries bytes) told refl
    fine_decided asked (refused why) h causes told = not_told reply (replies.by_base why) told refl
    fine_decided asked (pages_full n heavy) h causes told = not_told reply (replies.pages_full n heavy) told refl
    fine_decided asked (log_full need room) h causes told = not_told reply (replies.log_full need room) told refl
    fine_decided asked fault h causes told = λ _. inr (fault_counted causes_old causes_new causes)
    fine_decided asked device h causes told = λ _. inr (device_counted causes_old causes_new causes)
    fine_decided asked (busy turn) h causes told = absurd (no_busy causes_old causes_new inside causes)
    fine_decided asked (damaged page) h causes told = absurd (no_damaged causes_old causes_new inside causes)
    fine_decided asked no_memory h causes told = not_told reply replies.no_memory told refl

    -- only the decision that commits have ended is told so
    halted_decided : (asked : AskedData) (d : DecisionData) → Decides old session asked d new
        → causes_new ≡ counted d causes_old
        → reply ≡ reply_by d p → (at : ℕ) → SaysHalted at reply → new.halted ≡ Some at
    halted_decided asked (accepted place rids) h causes told at says =
        absurd (cc (ap (λ (r : ReplyData). is_fault r.told) told ∙ fine_given p place rids, halted_fault at reply says))
    halted_decided asked (halted_at n) h causes told at says =
        let is : n ≡ at = cc (told_is reply (replies.halted n) told, says) in
        same_halted h.1 ∙ h.0 ∙ ap (λ (m : ℕ). Some m) is
    halted_decided asked (feed_full entries bytes) h causes told at says =
        not_told reply (replies.feed_full entries bytes) told refl (halted_fault at reply says)
    halted_decided asked (refused why) h causes told at says =
        not_told reply (replies.by_base why) told refl (halted_fault at reply says)
    halted_decided asked (pages_full n heavy) h causes told at says =
        not_told reply (replies.pages_full n heavy) told refl (halted_fault at reply says)
    halted_decided asked (log_full need room) h causes told at says =
        not_told reply (replies.log_full need room) told refl (halted_fault at reply says)
    halted_decided asked fault h causes told at says = absurd (cc (told_is reply replies.fault told, says))
    halted_decided asked device h causes told at says = absurd (cc (told_is reply replies.device told, says))
    halted_decided asked (busy turn) h causes told at says = absurd (no_busy causes_old causes_new inside causes)
    halted_decided asked (damaged page) h causes told at says = absurd (no_damaged causes_old causes_new inside causes)
    halted_decided asked no_memory h causes told at says =
        not_told reply replies.no_memory told refl (halted_fault at reply says)

    -- a write is only tried where commits go on
    stay_ended : (asked : AskedData) (d : DecisionData) → Decides old session asked d new → StayEnded
    stay_ended asked (accepted place rids) h = λ at was. h.3.halted ∙ was
    stay_ended asked (halted_at n) h = still h.1
    stay_ended asked (feed_full entries bytes) h = still h.4
    stay_ended asked (refused why) h = still h.3
    stay_ended asked (pages_full n heavy) h = still h.5
    stay_ended asked (log_full need room) h = still h.5
    stay_ended asked fault h = λ at was. absurd (cc (h.0.allowed.asked_is.running, was))
    stay_ended asked device h = still h.1
    stay_ended asked (busy turn) h = still h.2
    stay_ended asked (damaged page) h = still h.2
    stay_ended asked no_memory h = still h

  abbrev IsRefused : Option ViewData → List ℕ → ReplyData → Type 0
  IsRefused view text reply =
      (IsUnbuilt text reply × (causes_new ≡ causes_old)) ⊎ IsReadFault view causes_old causes_new reply

  refused_fine : (view : Option ViewData) (text : List ℕ) (reply : ReplyData) → IsRefused view text reply
      → IsTrue (is_fault reply.told) → HasNow
  refused_fine view text reply (inl unbuilt) = not_told reply replies.unbuilt unbuilt.0.reply_is refl
  refused_fine view text reply (inr wrong) =
      elim (read_so causes_old causes_new inside wrong.fault wrong.counted) [
        | inl none ↦ not_told reply replies.no_memory (wrong.reply_is ∙ ap replies.refused none) refl
        | inr failed ↦ λ _. inr (read_told causes_old causes_new wrong.fault wrong.counted failed)
      ]

  refused_quiet : (view : Option ViewData) (text : List ℕ) (reply : ReplyData) → IsRefused view text reply
      → (at : ℕ) → SaysHalted at reply → ⊥
  refused_quiet view text reply (inl unbuilt) at says =
      cc (told_is reply replies.unbuilt unbuilt.0.reply_is, says)
  refused_quiet view text reply (inr wrong) at says =
      elim (read_so causes_old causes_new inside wrong.fault wrong.counted) [
        | inl none ↦ cc (told_is reply replies.no_memory (wrong.reply_is ∙ ap replies.refused none), says)
        | inr failed ↦ cc (told_is reply replies.device (wrong.reply_is ∙ ap replies.refused failed), says)
      ]

  refused_later : (view : Option ViewData) (text : List ℕ) (reply : ReplyData) → IsRefused view text reply
      → troubles_of causes_old ≤ troubles_of causes_new
  refused_later view text reply (inl unbuilt) = omega (arith, ap troubles_of unbuilt.1)
  refused_later view text reply (inr wrong) = faults_read causes_old causes_new wrong.fault wrong.counted

-- ---- the opening

module _ (session : ℕ) (old new : StateData) where
  same_opening : new ≡ old → new.opening ≡ old.opening
  same_opening same = ap (λ (s : StateData). s.opening) same

  opening_decided : (asked : AskedData) (d : DecisionData) → Decides old session asked d new → new.opening ≡ old.opening
  opening_decided asked (accepted place rids) h = h.3.opening
  opening_decided asked (halted_at at) h = same_opening h.1
  opening_decided asked (feed_full entries bytes) h = same_opening h.4
  opening_decided asked (refused why) h = same_opening h.3
  opening_decided asked (pages_full n heavy) h = same_opening h.5
  opening_decided asked (log_full need room) h = same_opening h.5
  opening_decided asked fault h = ap (λ (s : StateData). s.opening) h.1.2.same
  opening_decided asked device h = same_opening h.1
  opening_decided asked (busy turn) h = same_opening h.2
  opening_decided asked (damaged page) h = same_opening h.2
  opening_decided asked no_memory h = same_opening h

  pub opening_so : (causes_old causes_new : Causes) (view : Option ViewData) (text : List ℕ) (kept : SessionData)
      (reply : Reply) (left : SessionData) → Executes session old new causes_old causes_new view text kept reply left
      → new.opening ≡ old.opening
  opening_so causes_old causes_new view text kept reply left (inl h) = same_opening h.state
  opening_so causes_old causes_new view text kept reply left (inr (inl h)) = same_opening h.state
  opening_so causes_old causes_new view text kept reply left (inr (inr h)) =
      opening_decided (asked_by h.left) h.decided.decision h.decided.decides

-- ---- all of it

some_reply : (b : Bool) → IsTrue (b || false) → IsTrue b
some_reply true h = refl
some_reply false h = h

inside_of : (state : StateData) (causes : Causes) → IsKeptState state causes → causes.busy ≡ 0 → IsInside causes
inside_of state causes known none = record { busy = none; damaged = known.inside }

module _ (earlier : List EntryData) (failed : List (ℕ × EntryData)) (view : Option ViewData) (old new : StateData)
    (causes_old causes_new : Causes) (text : List ℕ) (cur cur' : List SessionData) (session : ℕ) (reply : Reply)
    (left : SessionData) (known : IsKeptState old causes_old) (after : IsKeptState new causes_new)
    (none : causes_new.busy ≡ 0)
    (shows : view ≡ option_map view_of old.base) (is : cur' ≡ set cur (session - 1) left) where
  abbrev Said : ReplyData
  Said = reply_of reply

  inside : IsInside causes_new
  inside = inside_of new causes_new after none

  abbrev Stepped : Type 0
  Stepped = IsStepped (kept_as earlier failed old causes_old cur) (statement session text)
      (to_session session (Said ∷ []))
      (kept_as earlier failed new causes_new cur')

  stepped_by : ((run : RunData) → Keeps (kept_as earlier failed old causes_old cur) run
      → (next : RunData) × TellsOrNot run session text Said next
      × Keeps (kept_as earlier failed new causes_new cur') next)
      → (IsTrue (is_fault Said.told) → HasFailed (store_as earlier failed new causes_new))
      → ((at : ℕ) → SaysHalted at Said → new.halted ≡ Some at)
      → ((at : ℕ) → old.halted ≡ Some at → new.halted ≡ Some at) → troubles_of causes_old ≤ troubles_of causes_new
      → Stepped
  stepped_by told fine ended stays later = record {
    steps = λ run k. (let t = told run k in (t.0, (Said, t.1, refl), t.2));
    fault_told = λ fault. fine (some_reply (is_fault Said.told) fault);
    failed_stays = stays_so earlier failed old new causes_old causes_new inside stays later;
    halted_told = λ at found. ended at (only (λ (r : ReplyData). SaysHalted at r) Said found);
    halted_stays = stays;
    plain = refl;
    same_failed = refl;
  }

  pub told_so : Executes session old new causes_old causes_new view text (get_or cur (session - 1) closed) reply left
      → Stepped
  told_so (inl h) =
      let fine = refused_fine earlier failed old new causes_old causes_new inside view text Said h.why in
      stepped_by
      (λ run k. refused_so earlier failed view old new causes_old causes_new cur cur' session Said left known shows
      inside
      is run k text h.why h.kept h.state)
      fine
      (λ at says. absurd (refused_quiet earlier failed old new causes_old causes_new inside view text Said h.why at
      says))
      (still earlier failed old new causes_old causes_new inside h.state)
      (refused_later earlier failed old new causes_old causes_new inside view text Said h.why)
  told_so (inr (inl h)) =
      let own = get_or cur (session - 1) closed in
      let answer = in_base old causes_old view known shows
      (λ shown. IsAnswer (meaning shown own h.statement) own Said left) h.answer in
      let fine = fine_answer _ own Said left (fine_meaning (view_of known.base) own h.statement) answer in
      stepped_by
      (λ run k. finished_so earlier failed view old new causes_old causes_new cur cur' session Said left known shows
      inside
      is run k text h.statement h.is h.answer h.state)
      (λ fault. absurd (cc (fine, fault))) (λ at says. absurd (cc (fine, halted_fault at Said says)))
      (still earlier failed old new causes_old causes_new inside h.state)
      (omega (arith, ap troubles_of h.causes))
  told_so (inr (inr h)) =
      let by = h.decided in
      stepped_by
      (λ run k. committed_so earlier failed view old new causes_old causes_new cur cur' session Said left known shows
      inside is run k text h.statement h.left h.is h.meant
      (decide earlier failed view old new causes_old causes_new cur cur' session Said left known shows inside is
      run k h.left by.askable by.decision by.decides by.reply_is by.causes by.on_base by.left_is))
      (fine_decided earlier failed old new causes_old causes_new inside session h.left Said (asked_by h.left)
      by.decision by.decides by.causes by.reply_is)
      (halted_decided earlier failed old new causes_old causes_new inside session h.left Said (asked_by h.left)
      by.decision by.decides by.causes by.reply_is)
      (stay_ended earlier failed old new causes_old causes_new inside session h.left Said (asked_by h.left)
      by.decision by.decides)
      (faults_kept causes_old causes_new by.decision by.causes)

-- ---- behind earlier openings

told_at : (before after : EarlierData) (view : Option ViewData) (old new : StateData) (causes_old causes_new : Causes)
    (text : List ℕ) (cur cur' : List SessionData) (session : ℕ) (reply : Reply) (left : SessionData)
    → after.entries ≡ before.entries → after.failed ≡ before.failed
    → IsKeptState old causes_old → IsKeptState new causes_new → causes_new.busy ≡ 0
    → view ≡ option_map view_of old.base
    → cur' ≡ set cur (session - 1) left
    → Executes session old new causes_old causes_new view text (get_or cur (session - 1) closed) reply left
    → IsStepped (record { store = store_behind before old causes_old; sessions = cur }) (statement session text)
    (to_session session (reply_of reply ∷ []))
    (record { store = store_behind after new causes_new; sessions = cur' })
told_at before after view old new causes_old causes_new text cur cur' session reply left entries failed known now none
    shows is executes =
    subst (λ (es : List EntryData). IsStepped (kept_as before.entries before.failed old causes_old cur)
    (statement session text) (to_session session (reply_of reply ∷ []))
    (kept_as es after.failed new causes_new cur')) (sym entries)
    (subst (λ (ds : List (ℕ × EntryData)). IsStepped (kept_as before.entries before.failed old causes_old cur)
    (statement session text) (to_session session (reply_of reply ∷ []))
    (kept_as before.entries ds new causes_new cur')) (sym failed)
    (told_so before.entries before.failed view old new causes_old causes_new text cur cur' session reply left known now
    none shows is executes))

pub told_behind : (before after : EarlierData) → after ≡ before → (view : Option ViewData) (old new : StateData)
    (causes_old causes_new : Causes) (text : List ℕ) (cur cur' : List SessionData) (session : ℕ) (reply : Reply)
    (left : SessionData)
    → IsKeptState old causes_old → IsKeptState new causes_new → causes_new.busy ≡ 0
    → view ≡ option_map view_of old.base
    → cur' ≡ set cur (session - 1) left
    → Executes session old new causes_old causes_new view text (get_or cur (session - 1) closed) reply left
    → IsStepped (record { store = store_behind before old causes_old; sessions = cur }) (statement session text)
    (to_session session (reply_of reply ∷ []))
    (record { store = store_behind after new causes_new; sessions = cur' })
told_behind before after same view old new causes_old causes_new text cur cur' session reply left =
    told_at before after view old new causes_old causes_new text cur cur' session reply left
    (ap (λ (e : EarlierData). e.entries) same) (ap (λ (e : EarlierData). e.failed) same)

-- a statement for which there was no room
pub wanting_behind : (before after : EarlierData) → after ≡ before → (state : StateData) (causes : Causes)
    (text : List ℕ) (cur : List SessionData) (session : ℕ)
    → IsStepped (record { store = store_behind before state causes; sessions = cur }) (statement session text)
    (to_session session (replies.refused replies.no_memory ∷ []))
    (record { store = store_behind after state causes; sessions = cur })
wanting_behind before after same state causes text cur session =
    subst (λ (e : EarlierData). IsStepped (record { store = store_behind before state causes; sessions = cur })
    (statement session text) (to_session session (replies.refused replies.no_memory ∷ []))
    (record { store = store_behind e state causes; sessions = cur })) (sym same) (record {
      steps = λ run k. (run, (replies.refused replies.no_memory, inr (inl refl, refl), refl), k);
      fault_told = λ told. absurd (cc told);
      failed_stays = λ failed. failed;
      halted_told = λ at told. absurd (cc (only (λ (reply : ReplyData). reply.told ≡ Err (replies.halted at))
          (replies.refused replies.no_memory) told));
      halted_stays = λ at was. was;
      plain = refl;
      same_failed = refl;
    })

-- ---- room

-- an opening leaves at most one entry more after a statement
module _ (session : ℕ) (old new : StateData) (causes_old : Causes) (known : IsKeptState old causes_old) where
  count_one : (d : Option EntryData) → doubt_count d ≤ 1
  count_one None = omega arith
  count_one (Some e) = omega arith

  same_leaves : new ≡ old → may_leave new ≤ old.front + 1
  same_leaves same = omega (arith, ap may_leave same, count_one old.doubt)

  none_doubted : (doubt : Option EntryData) (ended : Option ℕ) → (IsSome doubt → IsSome ended) → ended ≡ None
      → doubt_count doubt ≡ 0
  none_doubted None ended over going = refl
  none_doubted (Some e) ended over going = absurd (cc (subst (λ (o : Option ℕ). IsSome o) going (over refl)))

  decided_leaves : (asked : AskedData) (d : DecisionData) → Decides old session asked d new
      → may_leave new ≤ old.front + 1
  decided_leaves asked (accepted place rids) h =
      omega (
        arith,
        h.3.front,
        ap doubt_count h.3.doubt,
        none_doubted old.doubt old.halted known.doubted h.0.allowed.asked_is.running,
      )
  decided_leaves asked (halted_at at) h = same_leaves h.1
  decided_leaves asked (feed_full entries bytes) h = same_leaves h.4
  decided_leaves asked (refused why) h = same_leaves h.3
  decided_leaves asked (pages_full n heavy) h = same_leaves h.5
  decided_leaves asked (log_full need room) h = same_leaves h.5
  decided_leaves asked fault h =
      omega (arith, ap (λ (s : StateData). s.front) h.1.2.same, count_one new.doubt)
  decided_leaves asked device h = same_leaves h.1
  decided_leaves asked (busy turn) h = same_leaves h.2
  decided_leaves asked (damaged page) h = same_leaves h.2
  decided_leaves asked no_memory h = same_leaves h

  leaves : (causes_new : Causes) (view : Option ViewData) (text : List ℕ) (kept : SessionData) (reply : Reply)
      (left : SessionData) → Executes session old new causes_old causes_new view text kept reply left
      → may_leave new ≤ old.front + 1
  leaves causes_new view text kept reply left (inl h) = same_leaves h.state
  leaves causes_new view text kept reply left (inr (inl h)) = same_leaves h.state
  leaves causes_new view text kept reply left (inr (inr h)) =
      decided_leaves (asked_by h.left) h.decided.decision h.decided.decides

  pub ready_so : (p : Past) (causes_new : Causes) (view : Option ViewData) (text : List ℕ) (kept : SessionData)
      (reply : Reply) (left : SessionData) → Executes session old new causes_old causes_new view text kept reply left
      → HasRoom p (old.front + 1) → HasPlace p → IsReady p new
  ready_so p causes_new view text kept reply left executes room place =
      let few = leaves causes_new view text kept reply left executes in
      record {
        room = record { entries = omega (arith, few, room.entries); marks = omega (arith, few, room.marks) };
        place = λ _. place;
      }
