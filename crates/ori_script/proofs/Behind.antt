-- The next opening stands behind the earlier ones.
use Rattle.std.proofs.Common.{◌≡◌, ◌⊎◌, ℕ, ◌+◌, ◌≤◌, Bool, true, false, List, [], ◌∷◌, ◌++◌, length, Option, Some, None}
use Rattle.std.proofs.Common.{IfSome, refl, sym, ap, ◌∙◌, subst, inl, inr}
use Rattle.ori_volume.specs.Disk.{Files, files_of, IsImage}
use Rattle.ori_volume.specs.Story.{Story, moment_of}
use Rattle.ori_volume.proofs.Known.{some_told}
use Rattle.ori_spec_data.specs.Base.{BaseData, EntryData}
use Rattle.ori_spec_data.specs.Apply.{apply, replay}
use Rattle.ori_rows.specs.Stage.{OpensTo}
use Rattle.ori_engine.specs.Doubts.{DoubtData, entry_in_doubt}
use Rattle.ori_engine.specs.Reopening as engines
use Rattle.ori_engine.specs.Reopening.{HasTailOf, OpensWhole}
use Rattle.ori_script.specs.Pasts.{EarlierData, with_feed, decided}
use Rattle.ori_script.specs.Openings.{IsClosedBy, VolumeData, EngineData, StandsBehind, ComesToNext, GoesBehind}
use Rattle.ori_script.specs.Openings.{LeadsOver}
use Rattle.ori_script.specs.Openings.{TellsOne, decided_by, is_found}
use Rattle.ori_script.proofs.Openings.{ClosesOn, told_of, some_same, closes_some, again, opens_one}
use Rattle.ori_script.proofs.Reopened.{behind_none, behind_lost, behind_found}
use Rattle.ori_script.proofs.Stepping.{tail_same, not_there, is_there}

module _ (entry : VolumeData) (old : EngineData) (before after : EarlierData) (new : EngineData) (volume : VolumeData)
    (one : TellsOne entry.told) (b : StandsBehind old.holds before entry.told)
    (c : ComesToNext old before after new volume) where
  by : IsClosedBy old.state old.holds before c.between c.left c.mid.told.files c.mid.told.story
  by = c.closed.closed

  abbrev With : EarlierData
  With = with_feed before by.feed by.marks

  after_is : after ≡ decided_by With c.left c.tail new.state.opening.moment
  after_is =
      c.decided_is
      ∙ ap (λ (e : EarlierData). decided_by e c.left c.tail new.state.opening.moment) by.joined

  -- the files that the opening left open again
  opens_again : (files : Files) (base : BaseData) → entry.told.files ≡ Some files → OpensTo files base
      → (x : Files) × (c.mid.told.files ≡ Some x) × engines.Reopens by.base c.left x
  opens_again files base is opens =
      again old.holds before c.between entry.told old.state c.left c.mid.told.files c.mid.told.story b by by.base
      by.base_is
      files base is opens

  -- the opening before left this base, and the next began on these stories
  module _ (base : BaseData) (s0 x y : Story) (whole : OpensWhole x y) (told : volume.told.story ≡ Some y)
      (closed : ClosesOn old.state before by.feed by.marks c.left base s0 x)
      (files : c.mid.told.files ≡ Some (files_of x.now.disk)) where
    base_is : by.base ≡ replay base With.entries
    base_is = some_same by.base_is closed.base_is

    at_end : new.state.opening.moment ≡ moment_of y
    at_end =
        some_told (λ (s : Story). new.state.opening.moment ≡ moment_of s) volume.told.story y told c.begins.opened_at

    reads_at : (mid : BaseData) → OpensTo (files_of x.now.disk) mid → OpensTo (files_of y.now.disk) mid
    reads_at mid opens =
        (whole mid opens).1 (files_of y.now.disk)
        (some_told (λ (s : Story). IsImage s.now.disk (files_of s.now.disk)) volume.told.story y told c.begins.read)

    tail_here : HasTailOf (files_of x.now.disk) c.tail
    tail_here = some_told (λ (fs : Files). HasTailOf fs c.tail) c.mid.told.files (files_of x.now.disk) files c.tail_is

    goes : (doubt : Option DoubtData) → c.left ≡ doubt
        → engines.Reopens by.base doubt (files_of x.now.disk)
        → GoesBehind (decided_by With doubt c.tail new.state.opening.moment) base s0 x y
    goes None is h =
        behind_none base by.base With.entries before.failed With.marks s0 x y h
        (whole by.base h).1 (reads_at by.base h)
        (subst (λ (d : Option DoubtData). ClosesOn old.state before by.feed by.marks d base s0 x) is closed).closed
        base_is
    goes (Some d) is (inl ((n, more, tail), h)) =
        subst (λ (f : Bool). GoesBehind (decided With d.entry f new.state.opening.moment) base s0 x y)
        (sym (not_there c.tail d.tail n more (tail_same (files_of x.now.disk) n c.tail tail tail_here)))
        (behind_lost base by.base With.entries before.failed With.marks s0 x y h
        (whole by.base h).1 (reads_at by.base h) d.entry
        (subst (λ (o : Option DoubtData). ClosesOn old.state before by.feed by.marks o base s0 x) is closed).closed
        base_is)
    goes (Some d) is (inr (tail, h)) =
        subst (λ (f : Bool). GoesBehind (decided With d.entry f new.state.opening.moment) base s0 x y)
        (sym (is_there c.tail d.tail (tail_same (files_of x.now.disk) d.tail c.tail tail tail_here)))
        (subst (λ (m : ℕ). GoesBehind (decided With d.entry true m) base s0 x y) (sym at_end)
        (behind_found base (apply by.base d.entry) With.entries before.failed With.marks s0 x y h
        (whole (apply by.base d.entry) h).1 (reads_at (apply by.base d.entry) h) d.entry
        (subst (λ (o : Option DoubtData). ClosesOn old.state before by.feed by.marks o base s0 x) is closed).closed
        (ap (λ (z : BaseData). apply z d.entry) base_is) (whole (apply by.base d.entry) h).0))

  leads_some : (s0 : Story) → entry.told.story ≡ Some s0 → LeadsOver before (Some s0) b.begun.story b.ended.story
      → LeadsOver after (Some s0) c.mid.told.story volume.told.story
  leads_some s0 is leads = λ base opens.
      (let x = closes_some old.holds before c.between entry.told old.state c.left c.mid.told.files c.mid.told.story b
      by s0 base opens leads in
      let y = told_of OpensWhole c.mid.told.story volume.told.story x.0 x.1 c.begins.stands in
      let files : c.mid.told.files ≡ Some (files_of x.0.now.disk) =
      some_told (λ (s : Story). c.mid.told.files ≡ Some (files_of s.now.disk)) c.mid.told.story x.0 x.1 c.one in
      let entered : entry.told.files ≡ Some (files_of s0.now.disk) =
      some_told (λ (s : Story). entry.told.files ≡ Some (files_of s.now.disk)) entry.told.story s0 is one in
      let t = opens_again (files_of s0.now.disk) base entered opens in
      let same : t.0 ≡ files_of x.0.now.disk = some_same t.1 files in (
        x.0,
        x.1,
        y.0,
        y.1,
        subst (λ (e : EarlierData). GoesBehind e base s0 x.0 y.0) (sym after_is)
            (goes base s0 x.0 y.0 y.2 y.1 x.2 files c.left refl
            (subst (λ (fs : Files). engines.Reopens by.base c.left fs) same t.2)),
      ))

  leads : (first : Option Story) → entry.told.story ≡ first → LeadsOver before first b.begun.story b.ended.story
      → LeadsOver after first c.mid.told.story volume.told.story
  leads None is before_leads = tt
  leads (Some s0) is before_leads = leads_some s0 is before_leads

  pub stands_next : StandsBehind new.holds after entry.told
  stands_next = record {
    begun = c.mid.told;
    ended = volume.told;
    since = c.begins.since;
    since_end = c.begins.since_end;
    reads = λ files base is opens. (let t = opens_again files base is opens in
        let o = opens_one by.base c.left t.0 t.2 in (t.0, o.0, t.1, o.1));
    one = c.one;
    leads = leads entry.told.story refl b.leads;
  }
