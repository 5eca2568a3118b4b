use Rattle.std.proofs.Common.{◌≡◌, ℕ, List, Option, subst, sym, ap}
use Rattle.ori_part.specs.Parts.{PartData}
use Rattle.ori_volume.specs.Story.{Tells}
use Rattle.ori_cover.specs.Views.{on_disk}
use Rattle.ori_turns.specs.Seats.{Last, last_of, IsTold, told_at}
use Rattle.ori_turns.specs.Hands.{EachHeld}
use Rattle.ori_turns.specs.Checkpointed.{Checkpointed}
use Rattle.ori_turns.proofs.Synced.{told_given, told_parts}
use Rattle.ori_turns.proofs.Finished.{made, by_why}
use Rattle.ori_turns.proofs.checkpointing.try_checkpoint.Goals as goal

pub returns-clause-crash : goal.returns-clause-crash
returns-clause-crash g c =
    let did = c.in-Some-checkpoint_taken.ensures.crash in
    let last = ap (λ s. s.last) did.3 in
    made c.in-Some-checkpoint_taken.done _ (
      did.0,
      did.1,
      subst (IsTold (λ told. did.0 ≡ told.device)) c.in_default.ensures.seat did.2,
      told_given did.0 did.1 _ (g.F.Frames.seat c.take_parts.new.frames)
          (g.F.Frames.seat c.checkpoint_taken.new.frames) did.3,
      last,
      subst (λ (x : Last). Checkpointed c.in-Some-checkpoint_taken.done (g.F.Frames.seat c.args.frames.now).last x)
          (sym last) (subst (λ (x : Last). Checkpointed c.in-Some-checkpoint_taken.done x
          (last_of g.V.Volume.faults g.V.Volume.log_faults did.1))
          (ap (λ s. s.last) c.in_default.ensures.seat) did.4),
      λ cache gives.
          let took = c.in_default.ensures.gives cache gives in
          subst (λ (pages : List (List ℕ)). Tells (on_disk.holds pages) (g.V.Volume.story did.0.volume)
          (g.V.Volume.story did.1.volume)) took.1.pages (did.8 took.0 took.2 took.3),
    )

pub returns-in_default-checkpoint_taken-clause-untouched : goal.returns-in_default-checkpoint_taken-clause-untouched
returns-in_default-checkpoint_taken-clause-untouched g c = λ why is other.
    let same = c.in_default-checkpoint_taken.ensures.same in
    subst (λ s. IsTold (λ told. EachHeld (λ k part. part ≡ told_at told k) c.checkpoint_taken.new.hand.parts.items) s)
    (sym same.1)
    (subst (λ (h : List (Option PartData)). IsTold (λ told. EachHeld (λ k part. part ≡ told_at told k) h)
    (g.F.Frames.seat c.take_parts.new.frames)) (sym (ap (λ h. h.parts.items) same.0)) c.take_parts.ensures.taken.told)

pub returns-clause-untouched : goal.returns-clause-untouched
returns-clause-untouched g c = λ why is other.
    let did = c.in-Some-checkpoint_taken.ensures.crash in
    by_why c.in-Some-checkpoint_taken.done why _ is other
    (λ at halted. subst (λ (h : List (Option PartData)). IsTold (λ told. EachHeld (λ k part. part ≡ told_at told k) h)
    (g.F.Frames.seat c.checkpoint_taken.new.frames)) (sym (ap (λ h. h.parts.items) (did.6 at halted).1))
    (told_parts did.0 did.1 _ (g.F.Frames.seat c.take_parts.new.frames) (g.F.Frames.seat c.checkpoint_taken.new.frames)
    c.take_parts.new.hand.parts.items did.3 c.take_parts.ensures.taken.told))
    did.7
