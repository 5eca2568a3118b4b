use Rattle.std.proofs.Common.{◌∙◌, arith}
use Rattle.ori_cover.specs.Views.{on_disk, as_read}
use Rattle.ori_cover.proofs.Views.{disk_laws, read_laws}
use Rattle.ori_pool.proofs.Contents.{tended_then, tended_places}
use Rattle.ori_pool.proofs.GoingHome.{told_more, own_on}
use Rattle.ori_pool.proofs.sending.send_part.Goals as goal

pub returns-in_err-send_next-clause-crash : goal.returns-in_err-send_next-clause-crash
returns-in_err-send_next-clause-crash g c =
    told_more on_disk disk_laws _ _ _ _ _ _ c.pages.invariant.sends c.in_err-send_next.ensures.crash

pub returns-in_err-send_next-clause-read : goal.returns-in_err-send_next-clause-read
returns-in_err-send_next-clause-read g c =
    told_more as_read read_laws _ _ _ _ _ _ c.pages.invariant.reads c.in_err-send_next.ensures.read

pub pages-preserved : goal.pages-preserved
pages-preserved g c = record {
  sends = told_more on_disk disk_laws _ _ _ _ _ _ c.pages.invariant.sends c.in_ok-send_next.ensures.crash;
  reads = told_more as_read read_laws _ _ _ _ _ _ c.pages.invariant.reads c.in_ok-send_next.ensures.read;
  own = own_on _ _ (tended_places _ _ c.in_ok-send_next.ensures.tended) c.pages.invariant.own;
  others = λ k apart. c.in_ok-send_next.ensures.others k apart ∙ c.pages.invariant.others k apart;
  tended = tended_then _ _ _ c.pages.invariant.tended c.in_ok-send_next.ensures.tended;
  log = c.in_ok-send_next.ensures.same.0 ∙ c.pages.invariant.log;
  halted = c.in_ok-send_next.ensures.same.1 ∙ c.pages.invariant.halted;
  later = omega (arith, c.pages.invariant.later, c.in_ok-send_next.ensures.faults.later);
  fine = c.in_ok-send_next.ensures.log_faults ∙ c.pages.invariant.fine;
}

pub returns-clause-crash : goal.returns-clause-crash
returns-clause-crash g c =
    told_more on_disk disk_laws _ _ _ _ _ _ c.pages.invariant.sends c.in_ok-send_next.ensures.crash

pub returns-clause-read : goal.returns-clause-read
returns-clause-read g c =
    told_more as_read read_laws _ _ _ _ _ _ c.pages.invariant.reads c.in_ok-send_next.ensures.read

pub returns-in_err-send_next-clause-tended : goal.returns-in_err-send_next-clause-tended
returns-in_err-send_next-clause-tended g c =
    tended_then _ _ _ c.pages.invariant.tended c.in_err-send_next.ensures.tended

pub returns-clause-tended : goal.returns-clause-tended
returns-clause-tended g c = tended_then _ _ _ c.pages.invariant.tended c.in_ok-send_next.ensures.tended
