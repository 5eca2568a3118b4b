use Rattle.std.proofs.Common.{◌≡◌, ◌<◌, inr, ℕ, Bool, List, length, Result, Ok, Err, OnOk, OnErr, refl, sym, subst}
use Rattle.std.proofs.Common.{ap, ◌∙◌, ◌≤◌, ⊎_elim, arith}
use Rattle.std.proofs.lemmas.Bool.{cases_lt}
use Rattle.ori_log.specs.Log.{ImageData}
use Rattle.ori_cover.specs.Given.{ArePut}
use Rattle.ori_pool.specs.declared.fault.OpFault.{OpFault}
use Rattle.ori_pool.specs.declared.fault.OpFault.TheVariants.{Fault, Halted, Busy, NoMemory}
use Rattle.ori_turns.specs.Caches.{Cache}
use Rattle.ori_turns.specs.Committed.{CommitsCache, IfDone}
use Rattle.ori_overlay.specs.Changed.{Shows, number_of}
use Rattle.ori_turns.specs.Knowing.{Knows}
use Rattle.ori_overlay.specs.Over.{AreChanged}
use Rattle.ori_cache.specs.Pools.{CommitsPool}
use Rattle.ori_cache.proofs.Committing.{are_others, counted_after}
use Rattle.ori_cache.proofs.pool.Pool.commit.Goals as goal

done_map : {T : Type 0} (result : Result T OpFault) (P Q : Result T OpFault → Type 0)
    → ((done : Result T OpFault) → P done → Q done) → IfDone result P → IfDone result Q
done_map (Ok value) P Q step holds = step (Ok value) holds
done_map (Err (Fault doubt)) P Q step holds = step (Err (Fault doubt)) holds
done_map (Err (Halted at_fault)) P Q step holds = step (Err (Halted at_fault)) holds
done_map (Err (Busy turn)) P Q step holds = tt
done_map (Err NoMemory) P Q step holds = step (Err NoMemory) holds

not_zero : (n : ℕ) → (n ≡ 0 → ⊥) → 0 < n
not_zero n some = ⊎_elim (λ (lt : 0 < n). lt) (λ (le : n ≤ 0). absurd (some (omega (arith, le)))) (cases_lt 0 n)

-- how many pages there are after it
number_after : {T : Type 0} (result : Result T OpFault) (images : List ImageData) (due : Bool) (put : List (List ℕ))
    (old new : Cache) (total before now : ℕ) → CommitsCache images due put result old new → OnOk result (now ≡ total)
    → OnErr result (now ≡ before) → length put ≡ total → length old.pages ≡ before → length new.pages ≡ now
number_after (Ok value) images due put old new total before now did ok err is was =
    ap length did.pages ∙ is ∙ sym ok
number_after (Err why) images due put old new total before now did ok err is was =
    ap length did.pages ∙ was ∙ sym err

pub returns-clause-committed : goal.returns-clause-committed
returns-clause-committed g c =
    let a = c.args.self.now in
    let s0 = a.overlay.source in
    let s1 = c.images.new.self.source in
    let s2 = c.put-done.new.self.overlay.source in
    let images = c.in-Ok.images in
    let number : c.changed.result ≡ number_of a.overlay.changes s1.count =
    subst (λ s. c.changed.result ≡ number_of a.overlay.changes s.count) (sym c.images.ensures.source)
    c.changed.ensures.number in
    let are_put : (cache : Cache) (put : List (List ℕ)) → g.F.Frames.gives s1.frames cache
    → length cache.pages ≡ s1.count → Shows a.overlay.changes cache.pages put → ArePut images cache.pages put =
    (λ cache put gives count shows. c.in-Ok.ensures.put cache.pages put (record {
      cache = cache;
      gives = subst (λ s. g.F.Frames.gives s.frames cache) c.images.ensures.source gives;
      pages_are = refl;
      count = subst (λ s. length cache.pages ≡ s.count) c.images.ensures.source count;
    }) shows) in
    let mid : CommitsPool g.V.Volume.files g.V.Volume.story g.V.Volume.moment g.V.Volume.faults g.V.Volume.log_faults
    g.F.Frames.seat g.F.Frames.gives g.F.Frames.shares g.F.Frames.waits s1.frames s2.frames s1.count s2.count
    a.overlay.changes a.known c.put-done.new.self.known c.put-done.result = record {
      shares = c.put-done.ensures.shares;
      waits = c.put-done.ensures.waits;
      busy = λ turn is. (c.put-done.ensures.busy turn is).0;
      ended = c.put-done.ensures.ended;
      unchanged = λ none. absurd (c.if-changed-eq0.false (number ∙ none));
      stands = λ none at_fault is. absurd (c.if-changed-eq0.false (number ∙ none));
      fine = λ none going. absurd (c.if-changed-eq0.false (number ∙ none));
      crash = λ some. inr (done_map c.put-done.result _ _ (λ done t. (
        t.0,
        t.1,
        t.2,
        t.3,
        t.4,
        t.5,
        t.6,
        t.7,
        (λ cache put gives count shows. t.8 cache put gives (are_put cache put gives count shows)),
      )) c.put-done.ensures.crash);
      same = λ some turn is. (c.put-done.ensures.busy turn is).1;
      other = λ doubt is cache put gives count shows. are_others cache.pages put
          (number_of a.overlay.changes s0.count)
          (subst (λ (n : ℕ). AreChanged cache.pages put n) c.changed.ensures.number
          (c.changed.ensures.changed cache.pages put (record {
            cache = cache;
            gives = subst (λ s. g.F.Frames.gives s.frames cache) c.images.ensures.source gives;
            pages_are = refl;
            count = subst (λ s. length cache.pages ≡ s.count) c.images.ensures.source count;
          }) shows)) (not_zero (number_of a.overlay.changes s0.count)
          (λ none. c.if-changed-eq0.false (c.changed.ensures.number ∙ none)));
      gives = λ cache put gives count shows.
          let put_is = are_put cache put gives count shows in
          let did = c.put-done.ensures.gives cache put gives put_is in (
            did.0,
            did.2,
            inr (
              images,
              subst (λ s. length images ≡ number_of a.overlay.changes s.count) (sym c.images.ensures.source)
                  c.in-Ok.ensures.number,
              put_is,
              did.1,
            ),
            number_after c.put-done.result images a.known.due put cache did.0 c.count-count.result s1.count s2.count
                did.1 c.put-done.ensures.count c.put-done.ensures.refused
                (shows.count ∙ sym c.count-count.ensures) count,
            counted_after c.put-done.result images a.known.due put cache did.0 (g.F.Frames.seat s1.frames).last
                (g.F.Frames.seat s2.frames).last a.known c.put-done.new.self.known did.1 did.3
                (λ turn is. (c.put-done.ensures.busy turn is).1.last) s1.ready.attached
                (subst (λ s. Knows (g.F.Frames.seat s.frames).last a.known) (sym c.images.ensures.source) a.knows)
                c.put-done.new.self.knows,
          );
    } in
    subst (λ s. CommitsPool g.V.Volume.files g.V.Volume.story g.V.Volume.moment g.V.Volume.faults
    g.V.Volume.log_faults g.F.Frames.seat g.F.Frames.gives g.F.Frames.shares g.F.Frames.waits s0.frames s.frames
    s0.count s.count a.overlay.changes a.known c.put-done.new.self.known c.put-done.result)
    (sym c.begin-2.ensures.source)
    (subst (λ s. CommitsPool g.V.Volume.files g.V.Volume.story g.V.Volume.moment g.V.Volume.faults
    g.V.Volume.log_faults g.F.Frames.seat g.F.Frames.gives g.F.Frames.shares g.F.Frames.waits s.frames s2.frames
    s.count s2.count a.overlay.changes a.known c.put-done.new.self.known c.put-done.result) c.images.ensures.source
    mid)
