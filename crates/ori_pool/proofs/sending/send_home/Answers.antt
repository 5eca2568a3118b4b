use Rattle.std.proofs.Common.{◌∙◌, arith, below_more, subst, sym}
use Rattle.ori_pool.specs.Held.{IsSent}
use Rattle.ori_cover.specs.Views.{on_disk, as_read}
use Rattle.ori_cover.proofs.Views.{disk_laws, read_laws}
use Rattle.ori_pool.proofs.Contents.{tended_then, tended_places}
use Rattle.ori_pool.proofs.GoingHome.{told_more, own_on}
use Rattle.ori_pool.proofs.sending.send_home.Goals as goal

pub returns-in_err-send_part-clause-crash : goal.returns-in_err-send_part-clause-crash
returns-in_err-send_part-clause-crash g c =
    told_more on_disk disk_laws _ _ _ _ _ _ c.loop-at.invariant.sends c.in_err-send_part.ensures.crash

pub returns-in_err-send_part-clause-read : goal.returns-in_err-send_part-clause-read
returns-in_err-send_part-clause-read g c =
    told_more as_read read_laws _ _ _ _ _ _ c.loop-at.invariant.reads c.in_err-send_part.ensures.read

pub loop-at-preserved : goal.loop-at-preserved
loop-at-preserved g c = record {
  sends = told_more on_disk disk_laws _ _ _ _ _ _ c.loop-at.invariant.sends c.in_ok-send_part.ensures.crash;
  reads = told_more as_read read_laws _ _ _ _ _ _ c.loop-at.invariant.reads c.in_ok-send_part.ensures.read;
  own = own_on _ _ (tended_places _ _ c.in_ok-send_part.ensures.tended) c.loop-at.invariant.own;
  sent = below_more _ c.loop-at.at
      (λ k below. subst (λ o. IsSent o)
      (sym (c.in_ok-send_part.ensures.others k (λ e. absurd (omega (arith, e, below)))))
      (c.loop-at.invariant.sent k below)) c.in_ok-send_part.ensures.sent;
  tended = tended_then _ _ _ c.loop-at.invariant.tended c.in_ok-send_part.ensures.tended;
  log = c.in_ok-send_part.ensures.same.0 ∙ c.loop-at.invariant.log;
  halted = c.in_ok-send_part.ensures.same.1 ∙ c.loop-at.invariant.halted;
  later = omega (arith, c.loop-at.invariant.later, c.in_ok-send_part.ensures.faults.later);
  fine = c.in_ok-send_part.ensures.log_faults ∙ c.loop-at.invariant.fine;
}

pub returns-in_err-send_part-clause-tended : goal.returns-in_err-send_part-clause-tended
returns-in_err-send_part-clause-tended g c =
    tended_then _ _ _ c.loop-at.invariant.tended c.in_err-send_part.ensures.tended
