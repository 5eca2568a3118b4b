-- Reads keep what they keep, one after the other: the laws of a source over the cache.
use Rattle.std.proofs.Common.{◌≡◌, ◌⊎◌, inl, inr, ⊎_elim, ℕ, ◌<◌, ◌≤◌, Bool, true, false, List, length, Option, Some}
use Rattle.std.proofs.Common.{None}
use Rattle.std.proofs.Common.{is_some, refl, sym, ap, ◌∙◌, subst, arith}
use Rattle.std.specs.Prelude.{⊤}
use Rattle.std.proofs.lemmas.Bool.{cases_lt}
use Rattle.ori_bytes.specs.declared.causes.Causes.{Causes}
use Rattle.ori_volume.specs.Disk.{Files}
use Rattle.ori_volume.specs.Causes.{Rose}
use Rattle.ori_volume.specs.Story.{Story, Tells}
use Rattle.ori_volume.proofs.Known.{tells_refl, tells_then}
use Rattle.ori_volume.proofs.OnlyRead.{unread, read_then}
use Rattle.ori_pool.specs.declared.device.Device.{Device}
use Rattle.ori_turns.specs.Seats.{Seat, Told, IsTended}
use Rattle.ori_turns.specs.Caches.{Cache, SamePages}
use Rattle.ori_cache.specs.Reads.{ReadsDevice, ReadsTold, ReadsSeat, ReadsFrames}
use Rattle.ori_cache.specs.Ready.{IsReady, HasCounted, ReadsCached}

-- ---- a value that isn't there

abbrev is_truth : Bool → Type 0
is_truth true = ⊤
is_truth false = ⊥

pub no_value : {T : Type 0} (o : Option T) → is_some o ≡ false → o ≡ None
no_value None is = refl
no_value (Some x) is = absurd (subst is_truth is tt)

-- ---- the cache

pub no_change : (c : Cache) → SamePages c c
no_change c = record { pages = refl; doubt = refl; records = refl }

pub same_then : (a b c : Cache) → SamePages a b → SamePages b c → SamePages a c
same_then a b c first second = record {
  pages = second.pages ∙ first.pages;
  doubt = second.doubt ∙ first.doubt;
  records = second.records ∙ first.records;
}

-- ---- the device

module _ {V : Type 0} {holds : V → Option Files} {tells : V → Option Story} {time failed counted : V → ℕ} where
  pub not_read : (a : Device V) → ReadsDevice holds tells time failed counted a a
  not_read a = record { log = refl; halted = refl; faults = omega arith; volume = unread a.volume }

  pub reads_then : (a b c : Device V) → ReadsDevice holds tells time failed counted a b
      → ReadsDevice holds tells time failed counted b c → ReadsDevice holds tells time failed counted a c
  reads_then a b c first second = record {
    log = second.log ∙ first.log;
    halted = second.halted ∙ first.halted;
    faults = omega (arith, first.faults, second.faults);
    volume = read_then a.volume b.volume c.volume first.volume second.volume;
  }

-- ---- seats

module _ {D : Type 0} (R : D → D → Type 0) (same : (a : D) → R a a) where
  told_same : (a : Told D) → ReadsTold R a a
  told_same a = record { places = λ k. refl; device = same a.device }

  pub tended_same : (a : Seat D) → a.device ≡ None → IsTended a a
  tended_same a free = record {
    engine = refl;
    device = free;
    faults = omega arith;
    log = λ mine. (refl, refl, refl);
  }

  -- nothing was read
  pub seat_same : (a : Seat D) → a.device ≡ None → ReadsSeat R a a
  seat_same a free = record {
    parts = refl;
    tended = tended_same a free;
    told = tells_refl (ReadsTold R) a.told told_same;
  }

  pub seat_unread : (a b : Seat D) → a.device ≡ None → b ≡ a → ReadsSeat R a b
  seat_unread a b free is = subst (ReadsSeat R a) (sym is) (seat_same a free)

  -- no turn was taken
  pub seat_kept : (a b : Seat D) → a.device ≡ None → b ≡ a → IsTended a b × Tells (ReadsTold R) a.told b.told
  seat_kept a b free is = subst (λ (s : Seat D). IsTended a s × Tells (ReadsTold R) a.told s.told) (sym is)
      (tended_same a free, tells_refl (ReadsTold R) a.told told_same)

pub tended_then : {D : Type 0} (a b c : Seat D) → IsTended a b → IsTended b c → IsTended a c
tended_then a b c first second = record {
  engine = second.engine ∙ first.engine;
  device = second.device;
  faults = omega (arith, first.faults, second.faults);
  log = λ mine.
      let one = first.log mine in
      let two = second.log (first.engine ∙ mine) in
      (two.0 ∙ one.0, two.1 ∙ one.1, two.2 ∙ one.2);
}

module _ {D : Type 0} (R : D → D → Type 0) (on : (a b c : D) → R a b → R b c → R a c) where
  pub told_then : (a b c : Option (Told D)) → Tells (ReadsTold R) a b → Tells (ReadsTold R) b c
      → Tells (ReadsTold R) a c
  told_then a b c first second = tells_then (ReadsTold R) (ReadsTold R) (ReadsTold R) a b c
      (λ x y z one two. record {
        places = λ k. two.places k ∙ one.places k;
        device = on x.device y.device z.device one.device two.device;
      }) first second

-- ---- causes

pub counted_same : (f w : ℕ) (c : Causes) → HasCounted f f w w c c
counted_same f w c = record {
  device_later = omega arith;
  device = λ lt. absurd (omega (arith, lt));
  busy_later = omega arith;
  busy = λ lt. absurd (omega (arith, lt));
}

rises : (a b c d : ℕ) → a ≤ b → c ≤ d → Rose b c → Rose a d
rises a b c d ab cd rose = omega (arith, ab, cd, rose)

either_rose : (x y z a b c : ℕ) → (x < y → Rose a b) → (y < z → Rose b c) → a ≤ b → b ≤ c → x < z → Rose a c
either_rose x y z a b c first second ab bc lt = ⊎_elim
    (λ (one : x < y). rises a a b c (omega arith) bc (first one))
    (λ (two : y ≤ x). rises a b c c ab (omega arith) (second (omega (arith, two, lt))))
    (cases_lt x y)

pub counted_then : (f g h v w u : ℕ) (a b c : Causes) → f ≤ g → g ≤ h → v ≤ w → w ≤ u → HasCounted f g v w a b
    → HasCounted g h w u b c → HasCounted f h v u a c
counted_then f g h v w u a b c fg gh vw wu first second = record {
  device_later = omega (arith, first.device_later, second.device_later);
  device = either_rose a.device b.device c.device f g h first.device
      second.device fg gh;
  busy_later = omega (arith, first.busy_later, second.busy_later);
  busy = either_rose a.busy b.busy c.busy v w u first.busy second.busy vw wu;
}

-- ---- reads of the cache

module _ {V : Type 0} (holds : V → Option Files) (tells : V → Option Story) (time failed counted : V → ℕ)
    {F : Type 0} (seat_of : F → Seat (Device V)) (shows : F → Cache → Type 0) (one_sharing : F → F → Type 0)
    (waited : F → ℕ) where
  pub frames_then : ((a b c : F) → one_sharing a b → one_sharing b c → one_sharing a c) → (a b c : F)
      → ReadsFrames seat_of shows one_sharing waited (ReadsDevice holds tells time failed counted) a b
      → ReadsFrames seat_of shows one_sharing waited (ReadsDevice holds tells time failed counted) b c
      → ReadsFrames seat_of shows one_sharing waited (ReadsDevice holds tells time failed counted) a c
  frames_then on a b c first second = record {
    shares = on a b c first.shares second.shares;
    tended = tended_then (seat_of a) (seat_of b) (seat_of c) first.tended second.tended;
    told = told_then (ReadsDevice holds tells time failed counted) (λ x y z one two. reads_then x y z one two)
        (seat_of a).told (seat_of b).told (seat_of c).told first.told second.told;
    waits = omega (arith, first.waits, second.waits);
    gives = λ cache is.
        let one = first.gives cache is in
        let two = second.gives one.0 one.2 in
        (two.0, same_then cache one.0 two.0 one.1 two.1, two.2);
  }

  -- nothing was taken
  pub frames_stay : (R : Device V → Device V → Type 0) (same : (d : Device V) → R d d) (a : F) → one_sharing a a
      → IsReady (seat_of a) → ReadsFrames seat_of shows one_sharing waited R a a
  frames_stay R same a shares ready =
      let kept = seat_kept R same (seat_of a) (seat_of a) (no_value (seat_of a).device ready.device) refl in
      record {
        shares = shares;
        tended = kept.0;
        told = kept.1;
        waits = omega arith;
        gives = λ cache is. (cache, no_change cache, is);
      }

  pub frames_same : (a : F) → one_sharing a a → IsReady (seat_of a)
      → ReadsFrames seat_of shows one_sharing waited (ReadsDevice holds tells time failed counted) a a
  frames_same a shares ready =
      frames_stay (ReadsDevice holds tells time failed counted) (λ x. not_read x) a shares ready

  pub cached_same : (a : F) (number : ℕ) (causes : Causes) → one_sharing a a → IsReady (seat_of a)
      → ReadsCached seat_of shows one_sharing waited (ReadsDevice holds tells time failed counted) a a number number
      causes causes
  cached_same a number causes shares ready = record {
    frames = frames_same a shares ready;
    count = refl;
    causes = counted_same (seat_of a).last.faults (waited a) causes;
  }

  pub cached_then : ((a b c : F) → one_sharing a b → one_sharing b c → one_sharing a c) → (a b c : F)
      (x y z : ℕ) (p q r : Causes)
      → ReadsCached seat_of shows one_sharing waited (ReadsDevice holds tells time failed counted) a b x y p q
      → ReadsCached seat_of shows one_sharing waited (ReadsDevice holds tells time failed counted) b c y z q r
      → ReadsCached seat_of shows one_sharing waited (ReadsDevice holds tells time failed counted) a c x z p r
  cached_then on a b c x y z p q r first second = record {
    frames = frames_then on a b c first.frames second.frames;
    count = second.count ∙ first.count;
    causes = counted_then (seat_of a).last.faults (seat_of b).last.faults (seat_of c).last.faults (waited a) (waited b)
        (waited c) p q r first.frames.tended.faults second.frames.tended.faults first.frames.waits second.frames.waits
        first.causes second.causes;
  }
