-- What stands at an opening's end, and at the next opening.
use Rattle.std.proofs.Common.{◌≡◌, ℕ, ◌≤◌, List, [], ◌∷◌, ◌++◌, length, Option, Some, None, refl, sym, ap, ◌∙◌, subst}
use Rattle.std.proofs.Common.{inl, inr, arith, length-append, append_assoc, replicate}
use Rattle.std.proofs.lemmas.List.{append-nil}
use Rattle.ori_bytes.specs.declared.limits.TheConstants.{MAX_SESSIONS}
use Rattle.ori_volume.specs.Disk.{Files, files_of, IsImage}
use Rattle.ori_volume.specs.Story.{Story, moment_of}
use Rattle.ori_spec_data.specs.Base.{BaseData, EntryData, asked_in}
use Rattle.ori_spec_data.specs.Limits.{limit_after}
use Rattle.ori_spec_data.specs.Soundness.{IsSoundBase}
use Rattle.ori_spec_data.specs.Apply.{apply, replay}
use Rattle.ori_spec_data.specs.Keeping.{StateData}
use Rattle.ori_spec_crash.specs.Crash.{CrashSafe, doubts, AreWithin, OpensWhole, IsClosed}
use Rattle.ori_spec_crash.proofs.Marks.{replay-append, within_more}
use Rattle.ori_spec_crash.proofs.Composing.{crash_behind, crash_found}
use Rattle.ori_spec_runs.specs.Answer.{closed}
use Rattle.ori_spec_runs.specs.Run.{RunData, doubtful, reopened, joined}
use Rattle.ori_rows.specs.Stage.{OpensTo}
use Rattle.ori_engine.specs.Doubts.{OpensWith}
use Rattle.ori_engine.specs.Openings.{Survives, IsFresh}
use Rattle.ori_engine.specs.Reopening.{LeavesNow}
use Rattle.ori_script.specs.Pasts.{EarlierData}
use Rattle.ori_script.specs.Keeping.{KeptData, Keeps}
use Rattle.ori_script.specs.Openings.{GoesBehind}

-- an image of the feed over the opening's base is one of the whole history
whole_of : (base mid : BaseData) (past feed : List EntryData) (doubt : Option EntryData) (image : Files)
    → mid ≡ replay base past → OpensWith mid feed doubt image → OpensWhole (OpensTo image) base (past ++ feed) doubt
whole_of base mid past feed None image is h =
    inl (subst (OpensTo image) (ap (λ (b : BaseData). replay b feed) is ∙ sym (replay-append base past feed)) h)
whole_of base mid past feed (Some e) image is h =
    let same : replay mid feed ≡ replay base (past ++ feed) =
    ap (λ (b : BaseData). replay b feed) is ∙ sym (replay-append base past feed) in
    elim h [
      | inl old ↦ inl (subst (OpensTo image) same old)
      | inr more ↦ inr (e, refl, subst (λ (b : BaseData). OpensTo image (apply b e)) same more)
    ]

within_longer : (e : EarlierData) (feed : List EntryData) → AreWithin (length e.entries) e.failed
    → AreWithin (length (e.entries ++ feed)) e.failed
within_longer e feed within = longer e.failed within
  where
    longer : (ds : List (ℕ × EntryData)) → AreWithin (length e.entries) ds → AreWithin (length (e.entries ++ feed)) ds
    longer [] h = tt
    longer (d ∷ ds) h = (omega (arith, h.0, length-append e.entries feed), longer ds h.1)

-- what an opening leaves at its end, over all openings so far
pub closed_at : (e : EarlierData) (base : BaseData) (first old at now : Story) (g : GoesBehind e base first old at)
    (feed : List EntryData) (marks : List ℕ) (doubt : Option EntryData) (state : StateData)
    → Survives feed doubt marks old now → Survives feed doubt marks at now
    → LeavesNow state g.mid feed now → state.doubt ≡ doubt
    → IsClosed OpensTo base (e.entries ++ feed) e.failed doubt (e.marks ++ marks) first now
closed_at e base first old at now g feed marks doubt state since since_end whole is = record {
  crash = g.behind feed doubt marks now (since g.mid g.opens) (since_end g.mid g.opens_at);
  within = within_longer e feed g.within;
  whole = λ image here. whole_of base g.mid e.entries feed doubt image g.base_is
      (subst (λ (d : Option EntryData). OpensWith g.mid feed d image) is (whole.images image here));
}

-- ---- the next opening

within_doubt : (history : List EntryData) (doubt : Option EntryData) → AreWithin (length history) (doubts history doubt)
within_doubt history None = tt
within_doubt history (Some e) = (omega arith, tt)

-- An opening ended with this history, and the files open now to this base; the next opening had ended at a later story.
module _ (base mid : BaseData) (history : List EntryData) (failed : List (ℕ × EntryData)) (marks : List ℕ)
    (first old at : Story) (opens : OpensTo (files_of old.now.disk) mid)
    (stands : (image : Files) → IsImage at.now.disk image → OpensTo image mid)
    (opens_at : OpensTo (files_of at.now.disk) mid) where
  -- nothing was in doubt
  pub behind_none : IsClosed OpensTo base history failed None marks first old → mid ≡ replay base history
      → GoesBehind (record { entries = history; marks = marks; failed = failed }) base first old at
  behind_none closed is = record {
    mid = mid;
    opens = opens;
    opens_at = opens_at;
    base_is = is;
    within = closed.within;
    behind = λ feed late after now since since_end. subst
        (λ (ds : List (ℕ × EntryData)). CrashSafe OpensTo base (history ++ feed)
        (ds ++ doubts (history ++ feed) late) (marks ++ after) first now) (append-nil failed)
        (crash_behind OpensTo base mid history feed failed None late marks after first old now closed since is);
  }

  abbrev Tried : EntryData → List (ℕ × EntryData)
  Tried e = failed ++ (length history, e) ∷ []

  -- the entry in doubt wasn't found
  pub behind_lost : (e : EntryData) → IsClosed OpensTo base history failed (Some e) marks first old
      → mid ≡ replay base history
      → GoesBehind (record { entries = history; marks = marks; failed = Tried e }) base first old at
  behind_lost e closed is = record {
    mid = mid;
    opens = opens;
    opens_at = opens_at;
    base_is = is;
    within = within_more (length history) (length history) failed (doubts history (Some e)) (omega arith) closed.within
        (within_doubt history (Some e));
    behind = λ feed late after now since since_end.
        crash_behind OpensTo base mid history feed failed (Some e) late marks after first old now closed since is;
  }

  -- it was found
  pub behind_found : (e : EntryData) → IsClosed OpensTo base history failed (Some e) marks first old
      → mid ≡ apply (replay base history) e → moment_of old ≤ moment_of at
      → GoesBehind (record {
        entries = history ++ e ∷ [];
        marks = marks ++ moment_of at ∷ [];
        failed = Tried e;
      }) base first old at
  behind_found e closed is later = record {
    mid = mid;
    opens = opens;
    opens_at = opens_at;
    base_is = is ∙ sym (replay-append base history (e ∷ []));
    within = within_more (length history) (length (history ++ e ∷ [])) failed (doubts history (Some e))
        (omega (arith, length-append history (e ∷ []))) closed.within
        (omega (arith, length-append history (e ∷ [])), tt);
    behind = λ feed late after now since since_end.
        subst (λ (h : List EntryData). CrashSafe OpensTo base h (Tried e ++ doubts h late)
        ((marks ++ moment_of at ∷ []) ++ after) first now) (sym (append_assoc history (e ∷ []) feed))
        (subst (λ (ms : List ℕ). CrashSafe OpensTo base (history ++ e ∷ feed)
        (Tried e ++ doubts (history ++ e ∷ feed) late) ms first now)
        (sym (append_assoc marks (moment_of at ∷ []) after))
        (crash_found OpensTo base mid history feed failed (Some e) late marks after first old now closed since e at
        (record {
          doubted = refl;
          base_is = is;
          later = later;
          since = since_end;
          stands = stands;
        })));
  }

-- ---- the run

-- a reopening of the run, where what is kept behind it has come about so
module _ (old new : KeptData) (run : RunData) (k : Keeps old run) (base : BaseData) (limit : Option ℕ)
    (fresh : IsFresh new.store.state) (sound : IsSoundBase base) (base_is : new.store.state.base ≡ Some base)
    (limit_is : new.store.state.limit ≡ limit) (sessions : new.sessions ≡ replicate MAX_SESSIONS closed)
    (feed : List EntryData) (feed_is : old.store.state.feed ≡ Some feed) where
  some_feed : feed ≡ run.feed
  some_feed = cc (feed_is, k.feed)

  history_so : old.store.earlier ++ feed ≡ run.history
  history_so = ap (λ (f : List EntryData). old.store.earlier ++ f) some_feed ∙ sym k.history

  -- nothing joins the history
  pub reopens_same : base ≡ run.base → limit ≡ run.limit → new.store.earlier ≡ old.store.earlier ++ feed
      → new.store.failed ≡ doubtful run → Keeps new (reopened run)
  reopens_same base_same limit_same earlier failed = record {
    sound = subst IsSoundBase base_same sound;
    base = base_is ∙ ap (λ (b : BaseData). Some b) base_same;
    feed = fresh.feed;
    history = sym history_so ∙ sym earlier ∙ sym (append-nil new.store.earlier);
    failed = failed;
    halted = fresh.halted;
    doubt = fresh.doubt;
    limit = limit_is ∙ limit_same;
    sessions = sessions;
  }

  -- the entry in doubt does
  pub reopens_joined : (e : EntryData) → base ≡ apply run.base e → limit ≡ limit_after run.base (asked_in e) run.limit
      → new.store.earlier ≡ (old.store.earlier ++ feed) ++ e ∷ [] → new.store.failed ≡ doubtful run
      → Keeps new (joined (reopened run) e)
  reopens_joined e base_same limit_same earlier failed = record {
    sound = subst IsSoundBase base_same sound;
    base = base_is ∙ ap (λ (b : BaseData). Some b) base_same;
    feed = fresh.feed;
    history = ap (λ (h : List EntryData). h ++ e ∷ []) (sym history_so) ∙ sym earlier
        ∙ sym (append-nil new.store.earlier);
    failed = failed;
    halted = fresh.halted;
    doubt = fresh.doubt;
    limit = limit_is ∙ limit_same;
    sessions = sessions;
  }
