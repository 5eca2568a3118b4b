use Rattle.std.proofs.Common.{◌≡◌, inr, Ok, Err, IsErrOf, sym, subst, ap, ◌∙◌}
use Rattle.ori_turns.specs.Seats.{IsTold, last_of}
use Rattle.ori_turns.specs.Openings.{WasOpened}
use Rattle.ori_cache.proofs.pool.Pool.start.Goals as goal

pub returns-in-Ok-open-clause-crash : goal.returns-in-Ok-open-clause-crash
returns-in-Ok-open-clause-crash g c =
    let did = c.in-Ok-open.ensures.crash in
    let same = sym (ap g.F.Frames.seat (ap (λ s. s.frames) c.over.ensures.source ∙ c.of-source.ensures.frames)) in
    inr (
      did.0,
      did.1,
      did.2,
      subst (IsTold (λ told. did.1 ≡ told.device)) same did.3,
      subst (λ s. s.last ≡ last_of g.V.Volume.faults g.V.Volume.log_faults did.1) same did.4,
      subst (λ s. WasOpened (Ok c.in-Ok-open.opening) (g.F.Frames.seat c.args.frames).last s.last) same did.5,
      did.6,
      did.7,
    )

-- a refusal is this one
err_is : {T E : Type 0} (a b : E) → a ≡ b → IsErrOf {T = T} (Err a) b
err_is a b is = ap Err is

pub returns-in-Err-clause-busy : goal.returns-in-Err-clause-busy
returns-in-Err-clause-busy g c = λ turn is. (
  c.in-Err.ensures.busy turn (err_is _ _ is),
  c.in-Err.ensures.same turn (err_is _ _ is),
  c.in-Err.ensures.still turn (err_is _ _ is),
)
