use Rattle.std.proofs.Common.{ℕ, ◌∙◌}
use Rattle.std.proofs.lemmas.Result.{on_ok_weaker}
use Rattle.ori_cover.specs.Views.{on_disk, as_read}
use Rattle.ori_cover.proofs.Views.{disk_laws, read_laws}
use Rattle.ori_pool.specs.declared.fault.TendFault.{TendFault}
use Rattle.ori_pool.proofs.Contents.{tended_places, tended_then}
use Rattle.ori_pool.proofs.Ended.{checkpoint_unsent, checkpoint_sent}
use Rattle.ori_pool.proofs.GoingHome.{sent_written, all_on}
use Rattle.ori_pool.proofs.finishing.checkpoint.Goals as goal

pub returns-in_default-send_home-clause-crash : goal.returns-in_default-send_home-clause-crash
returns-in_default-send_home-clause-crash g c = λ none.
    checkpoint_unsent on_disk disk_laws ℕ TendFault _ _ _ _ _ _ _ _ c.requires.open
    c.in_default-send_home.ensures.same.0 c.in_default-send_home.ensures.crash

pub returns-in_default-send_home-clause-read : goal.returns-in_default-send_home-clause-read
returns-in_default-send_home-clause-read g c = λ none.
    checkpoint_unsent as_read read_laws ℕ TendFault _ _ _ _ _ _ _ _ c.requires.open
    c.in_default-send_home.ensures.same.0 c.in_default-send_home.ensures.read

pub returns-clause-crash : goal.returns-clause-crash
returns-clause-crash g c = λ none.
    checkpoint_sent on_disk disk_laws _ _ _ _ _ _ _ _ _ _ _ c.in-Ok.ensures.same.0
    (λ others. sent_written _ others (all_on _ _ (tended_places _ _ c.in-Ok.ensures.tended) c.requires.all)
    c.in-Ok.ensures.sent)
    c.in-Ok.ensures.crash (c.finish.ensures.crash (c.in-Ok.ensures.same.1 ∙ none))

pub returns-clause-read : goal.returns-clause-read
returns-clause-read g c = λ none.
    checkpoint_sent as_read read_laws _ _ _ _ _ _ _ _ _ _ _ c.in-Ok.ensures.same.0
    (λ others. sent_written _ others (all_on _ _ (tended_places _ _ c.in-Ok.ensures.tended) c.requires.all)
    c.in-Ok.ensures.sent)
    c.in-Ok.ensures.read (c.finish.ensures.read (c.in-Ok.ensures.same.1 ∙ none))

pub returns-clause-clean : goal.returns-clause-clean
returns-clause-clean g c =
    on_ok_weaker c.finish.result
    (λ clean others. clean others
    (sent_written _ others (all_on _ _ (tended_places _ _ c.in-Ok.ensures.tended) c.requires.all) c.in-Ok.ensures.sent))
    c.finish.ensures.clean

pub returns-clause-tended : goal.returns-clause-tended
returns-clause-tended g c = tended_then _ _ _ c.in-Ok.ensures.tended c.finish.ensures.tended
