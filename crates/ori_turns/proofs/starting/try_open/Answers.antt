use Rattle.std.proofs.Common.{◌≡◌, ◌∙◌, List, Option, subst, sym, ap}
use Rattle.ori_part.specs.Parts.{PartData}
use Rattle.ori_turns.specs.Seats.{Last, last_of, IsTold, told_at}
use Rattle.ori_turns.specs.Hands.{EachHeld, HandIs}
use Rattle.ori_turns.specs.Openings.{WasOpened}
use Rattle.ori_turns.proofs.Synced.{told_given, ok_so}
use Rattle.ori_turns.proofs.Started.{tried}
use Rattle.ori_turns.proofs.starting.try_open.Goals as goal

pub returns-clause-crash : goal.returns-clause-crash
returns-clause-crash g c =
    let did = c.in-Some-open_taken.ensures.crash in
    let last = ap (λ s. s.last) did.3 in
    tried c.in-Some-open_taken.done _ (
      did.0,
      did.1,
      subst (IsTold (λ told. did.0 ≡ told.device)) c.in_default.ensures.seat did.2,
      told_given did.0 did.1 _ (g.F.Frames.seat c.take_parts.new.frames)
          (g.F.Frames.seat c.open_taken.new.frames) did.3,
      last,
      subst (λ (x : Last). WasOpened c.in-Some-open_taken.done (g.F.Frames.seat c.args.frames.now).last x)
          (sym last) (subst (λ (x : Last). WasOpened c.in-Some-open_taken.done x
          (last_of g.V.Volume.faults g.V.Volume.log_faults did.1))
          (ap (λ s. s.last) c.in_default.ensures.seat) did.4),
      did.5,
      did.6,
      did.7,
    )

pub returns-clause-gives : goal.returns-clause-gives
returns-clause-gives g c = ok_so c.in-Some-open_taken.done _ _ (λ opening opens cache gives.
    let took = c.in_default.ensures.gives cache gives in
    let now = opens took.0 took.2 took.3 in (
      now.0,
      record {
        pages = now.1.pages ∙ took.1.pages;
        sure = now.1.sure ∙ took.1.pages;
        count = now.1.count;
        records = now.1.records;
        dirty = now.1.dirty;
      },
      now.2,
      now.3,
    )) c.in-Some-open_taken.ensures.gives

pub returns-in_default-open_taken-clause-untouched : goal.returns-in_default-open_taken-clause-untouched
returns-in_default-open_taken-clause-untouched g c = λ turn is.
    let same = c.in_default-open_taken.ensures.same in
    subst (λ s. IsTold (λ told. EachHeld (λ k part. part ≡ told_at told k) c.open_taken.new.hand.parts.items) s)
    (sym same.1)
    (subst (λ (h : List (Option PartData)). IsTold (λ told. EachHeld (λ k part. part ≡ told_at told k) h)
    (g.F.Frames.seat c.take_parts.new.frames)) (sym (ap (λ h. h.parts.items) same.0)) c.take_parts.ensures.taken.told)

pub returns-in_default-open_taken-clause-still : goal.returns-in_default-open_taken-clause-still
returns-in_default-open_taken-clause-still g c = λ turn is cache gives.
    let took = c.take_parts.ensures.gives cache gives in (
      took.0,
      took.1,
      c.in_default-open_taken.ensures.goes_on took.0 took.2,
      subst (λ (h : List (Option PartData)). HandIs took.0 h)
          (sym (ap (λ h. h.parts.items) c.in_default-open_taken.ensures.same.0)) took.3,
    )
