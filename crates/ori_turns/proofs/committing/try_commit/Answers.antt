use Rattle.std.proofs.Common.{◌≡◌, ℕ, List, IsSome, IfSome, refl, subst, sym, ap, ◌∙◌}
use Rattle.ori_volume.specs.Story.{Tells}
use Rattle.ori_volume.proofs.Known.{tells_same}
use Rattle.ori_bytes.specs.declared.limits.TheConstants.{PARTITIONS}
use Rattle.ori_log.specs.Log.{ImageData}
use Rattle.ori_log.specs.declared.log.Log.{Log}
use Rattle.ori_pool.specs.Devices.{is_due}
use Rattle.ori_cover.specs.Given.{ArePut}
use Rattle.ori_turns.specs.Seats.{Last, last_of, IsTold, PartsStay, told_at}
use Rattle.ori_turns.specs.Hands.{EachHeld}
use Rattle.ori_turns.specs.Committed.{HasWanted, WasCommitted, IsWhole}
use Rattle.ori_turns.proofs.Synced.{Hand, told_given}
use Rattle.ori_turns.proofs.Put.{done_of, commits_then}
use Rattle.ori_turns.proofs.Wanted.{needs}
use Rattle.ori_turns.proofs.Refused.{device_back, parts_stay, halted_same}
use Rattle.ori_turns.proofs.committing.try_commit.Goals as goal

pub commit_taken-requires-clause-needs : goal.commit_taken-requires-clause-needs
commit_taken-requires-clause-needs g c =
    needs c.args.known.now.due c.args.images c.take_all_wanted.new.hand.parts.items
    (subst (λ (l : List ImageData). HasWanted c.args.known.now.due l PARTITIONS c.take_all_wanted.new.hand.parts.items)
    c.as_slice.ensures c.in_default.ensures.wanted)
    (g.F.Frames.seat c.take_all_wanted.new.frames).last.log
    (subst (λ s. IfSome s.last.log (λ (l : Log). c.args.known.now.due ≡ is_due l)) (sym c.in_default.ensures.seat)
    c.requires.knows.due)
    (subst (λ s. IsSome s.last.log) (sym c.in_default.ensures.seat) c.requires.open)
    c.requires.some c.requires.few c.requires.rising
    c.in_default.ensures.taken.range

pub returns-clause-crash : goal.returns-clause-crash
returns-clause-crash g c =
    let did = c.in-Some-commit_taken.ensures.crash in
    let last = ap (λ s. s.last) did.3 in
    done_of c.in-Some-commit_taken.done _ (
      did.0,
      did.1,
      subst (IsTold (λ told. did.0 ≡ told.device)) c.in_default.ensures.seat did.2,
      told_given did.0 did.1 _ (g.F.Frames.seat c.take_all_wanted.new.frames)
          (g.F.Frames.seat c.commit_taken.new.frames) did.3,
      last,
      subst (λ (x : Last). WasCommitted c.in-Some-commit_taken.done (g.F.Frames.seat c.args.frames.now).last x)
          (sym last) (subst (λ (x : Last). WasCommitted c.in-Some-commit_taken.done x
          (last_of g.V.Volume.faults g.V.Volume.log_faults did.1))
          (ap (λ s. s.last) c.in_default.ensures.seat) did.4),
      did.5,
      did.6,
      did.8,
      λ cache put gives are_put.
          let took = c.in_default.ensures.gives cache gives in
          subst (λ (pages : List (List ℕ)). Tells (IsWhole pages put c.in-Some-commit_taken.done)
          (g.V.Volume.story did.0.volume) (g.V.Volume.story did.1.volume)) took.1.pages
          (did.9 took.0 put took.2 took.3
          (subst (λ (pages : List (List ℕ)). ArePut c.args.images pages put) (sym took.1.pages) are_put)),
    )

pub returns-clause-gives : goal.returns-clause-gives
returns-clause-gives g c = λ cache put gives are_put.
    let took = c.in_default.ensures.gives cache gives in
    let now = c.in-Some-commit_taken.ensures.gives took.0 put took.2 took.3
    (subst (λ (pages : List (List ℕ)). ArePut c.args.images pages put) (sym took.1.pages) are_put) in (
      now.0,
      commits_then c.args.images c.args.known.now.due put c.in-Some-commit_taken.done cache took.0 now.0 took.1 now.1,
      now.2,
      now.3,
      done_of c.in-Some-commit_taken.done _ now.4,
    )

pub returns-in_default-commit_taken-clause-leaves : goal.returns-in_default-commit_taken-clause-leaves
returns-in_default-commit_taken-clause-leaves g c =
    let same = c.in_default-commit_taken.ensures.same in
    subst (λ s. IsTold (λ told. EachHeld (λ k part. part ≡ told_at told k) c.commit_taken.new.hand.parts.items) s)
    (sym same.1)
    (subst (λ (l : Hand). IsTold (λ told. EachHeld (λ k part. part ≡ told_at told k) l)
    (g.F.Frames.seat c.take_all_wanted.new.frames)) (sym (ap (λ h. h.parts.items) same.0))
    c.in_default.ensures.taken.told)

pub returns-clause-halted : goal.returns-clause-halted
returns-clause-halted g c = λ at is.
    let did = c.in-Some-commit_taken.ensures.crash in
    device_back did.0 did.1 _ (g.F.Frames.seat c.take_all_wanted.new.frames) (g.F.Frames.seat c.commit_taken.new.frames)
    did.3 did.2 (halted_same c.in-Some-commit_taken.done did.0 did.1 at is did.5)
    ∙ ap (λ s. s.told) c.in_default.ensures.seat

pub returns-clause-stay : goal.returns-clause-stay
returns-clause-stay g c =
    let did = c.in-Some-commit_taken.ensures.crash in
    subst (λ s. Tells PartsStay s.told (g.F.Frames.seat c.commit_taken.new.frames).told) c.in_default.ensures.seat
    (parts_stay did.0 did.1 _ (g.F.Frames.seat c.take_all_wanted.new.frames)
    (g.F.Frames.seat c.commit_taken.new.frames) did.3)

pub returns-in_default-commit_taken-clause-stay : goal.returns-in_default-commit_taken-clause-stay
returns-in_default-commit_taken-clause-stay g c =
    tells_same PartsStay (g.F.Frames.seat c.args.frames.now).told (g.F.Frames.seat c.commit_taken.new.frames).told
    (λ told. refl) (ap (λ s. s.told) c.in_default-commit_taken.ensures.same.1 ∙ ap (λ s. s.told) c.in_default.ensures.seat)

pub returns-in-Some-clause-stay : goal.returns-in-Some-clause-stay
returns-in-Some-clause-stay g c =
    tells_same PartsStay (g.F.Frames.seat c.args.frames.now).told (g.F.Frames.seat c.take_all_wanted.new.frames).told
    (λ told. refl) (ap (λ s. s.told) c.in-Some.ensures.seat)
