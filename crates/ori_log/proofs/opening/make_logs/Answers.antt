use Rattle.ori_volume.proofs.Known.{tells_map, tells_then}
use Rattle.ori_log.proofs.Making.{WroteA, WroteB, SyncedA, write_a, write_a_fails, write_b, write_b_fails, sync_a}
use Rattle.ori_log.proofs.Making.{sync_a_fails, sync_b}
use Rattle.ori_log.proofs.opening.make_logs.Goals as goal

pub returns-in_err-write_first-clause-crash : goal.returns-in_err-write_first-clause-crash
returns-in_err-write_first-clause-crash g c =
    tells_map _ _ _ _ (λ a b told step. write_a_fails c.in_err-write_first.field-0.0 c.from_residual.result a b
    c.from_residual.ensures.0 step) c.in_err-write_first.ensures.crash

pub returns-in_err-write_first-2-clause-crash : goal.returns-in_err-write_first-2-clause-crash
returns-in_err-write_first-2-clause-crash g c =
    tells_then WroteA _ _ _ _ _
    (λ a b d before step. write_b_fails c.in_err-write_first-2.field-0.0 c.from_residual-in_err-write_first-2.result a b
    d c.from_residual-in_err-write_first-2.ensures.0 before step)
    (tells_map _ WroteA _ _ (λ a b told step. write_a a b step) c.in_ok-write_first.ensures.crash)
    c.in_err-write_first-2.ensures.crash

pub returns-in_err-sync_one-clause-crash : goal.returns-in_err-sync_one-clause-crash
returns-in_err-sync_one-clause-crash g c =
    tells_then WroteB _ _ _ _ _
    (λ a b d before step. sync_a_fails c.in_err-sync_one.field-0.0 c.from_residual-in_err-sync_one.result a b d
    c.from_residual-in_err-sync_one.ensures.0 before step)
    (tells_then WroteA _ WroteB _ _ _ (λ a b d before step. write_b a b d before step)
    (tells_map _ WroteA _ _ (λ a b told step. write_a a b step) c.in_ok-write_first.ensures.crash)
    c.in_ok-write_first-2.ensures.crash)
    c.in_err-sync_one.ensures.crash

pub returns-clause-crash : goal.returns-clause-crash
returns-clause-crash g c =
    tells_then SyncedA _ _ _ _ _ (λ a b d before step. sync_b c.sync_one-2.result a b d before step)
    (tells_then WroteB _ SyncedA _ _ _ (λ a b d before step. sync_a a b d before step)
    (tells_then WroteA _ WroteB _ _ _ (λ a b d before step. write_b a b d before step)
    (tells_map _ WroteA _ _ (λ a b told step. write_a a b step) c.in_ok-write_first.ensures.crash)
    c.in_ok-write_first-2.ensures.crash)
    c.in_ok-sync_one.ensures.crash)
    c.sync_one-2.ensures.crash
