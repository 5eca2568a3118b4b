use Rattle.std.proofs.Common.{◌≡◌, ◌<◌, ℕ, true, length, List, Option, Some, Result, Ok, Err, IfOk, IsSome, IfSome}
use Rattle.std.proofs.Common.{sym, subst, ap, ◌∙◌, arith}
use Rattle.ori_volume.specs.Disk.{Files}
use Rattle.ori_volume.proofs.Known.{some_told}
use Rattle.ori_page.specs.Spaces.{page_at}
use Rattle.ori_log.specs.declared.log.Log.{Log}
use Rattle.ori_cover.specs.Homes.{IsHome}
use Rattle.ori_turns.specs.Seats.{last_of}
use Rattle.ori_turns.specs.Caches.{Cache, GivesCache}
use Rattle.ori_cache.specs.declared.home.Home.{Home}
use Rattle.ori_cache.specs.Reads.{ReadsDevice, IsPageOf}
use Rattle.ori_cache.proofs.Homes.{HomeIs, known_home, read_gives}
use Rattle.ori_cache.proofs.Parts.{part_stays, absent_clean}
use Rattle.ori_cache.specs.ReadLaws.{not_read, seat_unread}
use Rattle.ori_cache.proofs.Turns.{device_read, only_same, if_ok}
use Rattle.ori_cache.proofs.reading.read_taken.Goals as goal

-- what was read at the home of a page that isn't dirty
home_pages : {E : Type 0} (cache : Cache) (page : ℕ) (files : Option Files) (fs : Files) → files ≡ Some fs
    → HomeIs cache page fs → (done : Result Home E)
    → IfOk done (λ home. IfSome files (λ fs. (content : List ℕ) → IsHome page content fs.pages
    → home.content ≡ content))
    → IfOk done (λ home. home.whole ≡ true → IfSome files (λ fs. IsHome page home.content fs.pages))
    → IfOk done (λ home. IsPageOf cache page home.content × (home.whole ≡ true → page < length cache.pages))
home_pages cache page files fs is home_is (Err fault) value whole = tt
home_pages cache page files fs is home_is (Ok home) value whole = (
  (λ below. some_told (λ fs. (content : List ℕ) → IsHome page content fs.pages → home.content ≡ content) files fs is
      value (page_at cache.pages page) (home_is.reads below)),
  (λ is_whole. home_is.below (some_told (λ fs. IsHome page home.content fs.pages) files fs is
      (whole is_whole)).whole),
)

pub give_device-requires-clause-rule : goal.give_device-requires-clause-rule
give_device-requires-clause-rule g c =
    let read = c.read_home-done.ensures.read in
    c.in_ok-device.ensures.reads c.read_home-done.new.device (read.log, read.halted) read.faults read.volume

pub returns-clause-reads : goal.returns-clause-reads
returns-clause-reads g c =
    let read = c.read_home-done.ensures.read in
    device_read (ReadsDevice g.V.Volume.files g.V.Volume.story g.V.Volume.moment g.V.Volume.faults
    g.V.Volume.log_faults) c.in_ok-device.device c.read_home-done.new.device
    (last_of g.V.Volume.faults g.V.Volume.log_faults c.read_home-done.new.device) read
    (g.F.Frames.seat c.args.frames.now) (g.F.Frames.seat c.take_device.new.self)
    (g.F.Frames.seat c.give_device.new.self) c.in_ok-device.ensures.seat c.give_device.ensures.seat
    c.in_ok-device.ensures.told (omega (arith, c.in_ok-device.ensures.faults, read.faults))
    (λ mine. let was = c.in_ok-device.ensures.last mine in
    (read.log ∙ was.0, read.halted ∙ was.1, read.volume.log_faults ∙ was.2))

pub returns-clause-keeps : goal.returns-clause-keeps
returns-clause-keeps g c =
    let read = c.read_home-done.ensures.read in
    let may = c.in_ok-device.ensures.rules c.args.part c.args.held.now c.requires.rule in
    if_ok c.read_home-done.result _ _ (λ home is whole.
    c.give_device.ensures.keeps c.args.part c.args.page home.content c.args.held.now may c.requires.own
    c.requires.absent (subst (λ (o : Option Files). IfSome o (λ files. IsHome c.args.page home.content files.pages))
    (sym read.volume.files) (is whole))) c.read_home-done.ensures.whole

pub returns-clause-gives : goal.returns-clause-gives
returns-clause-gives g c = λ cache gives is.
    let read = c.read_home-done.ensures.read in
    let took = c.in_ok-device.ensures.gives cache gives in
    let part = part_stays (g.F.Frames.seat c.args.frames.now) c.args.part c.args.held.now c.requires.taken cache took.0
    took.1 is in
    let given = read_gives c.in_ok-device.device.log c.in_ok-device.device.halted
    (g.V.Volume.story c.in_ok-device.device.volume) (g.V.Volume.story c.read_home-done.new.device.volume)
    (g.V.Volume.files c.in_ok-device.device.volume) (g.V.Volume.files c.read_home-done.new.device.volume)
    read.volume.story read.volume.files took.0 took.3 in
    let known = known_home took.0 c.args.page
    (part.dirty c.args.page c.requires.own ∙ absent_clean c.args.held.now c.args.page c.requires.absent)
    c.in_ok-device.device.log c.in_ok-device.device.halted (g.V.Volume.story c.in_ok-device.device.volume)
    (g.V.Volume.files c.in_ok-device.device.volume)
    (subst (λ (l : Option Log). IsSome l) (sym (c.in_ok-device.ensures.last c.requires.engine).0) c.requires.open)
    (λ x was. (
      (g.met.V.Volume.tells_one c.in_ok-device.device.volume x was).files_now,
      g.met.V.Volume.reads_as_image c.in_ok-device.device.volume x was,
    )) took.3 in (
      took.0,
      took.1.same,
      c.give_device.ensures.gives took.0 took.0 took.2 (only_same _ took.0)
          (subst (λ (l : Option Log). GivesCache l c.read_home-done.new.device.halted
          (g.V.Volume.story c.read_home-done.new.device.volume) (g.V.Volume.files c.read_home-done.new.device.volume)
          took.0) (sym read.log)
          (subst (λ (h : Option ℕ). GivesCache c.in_ok-device.device.log h
          (g.V.Volume.story c.read_home-done.new.device.volume) (g.V.Volume.files c.read_home-done.new.device.volume)
          took.0) (sym read.halted) given)),
      part,
      home_pages took.0 c.args.page (g.V.Volume.files c.in_ok-device.device.volume) known.0 known.1 known.2
          c.read_home-done.result c.read_home-done.ensures.value c.read_home-done.ensures.whole,
    )

pub returns-in_err-device-clause-reads : goal.returns-in_err-device-clause-reads
returns-in_err-device-clause-reads g c = seat_unread (ReadsDevice g.V.Volume.files g.V.Volume.story
    g.V.Volume.moment g.V.Volume.faults g.V.Volume.log_faults) (λ a. not_read a) (g.F.Frames.seat c.args.frames.now)
    (g.F.Frames.seat c.take_device.new.self) c.requires.free c.in_err-device.ensures.same
