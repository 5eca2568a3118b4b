use Rattle.std.proofs.Common.{List, ℕ, length, ap, sym, ◌∙◌}
use Rattle.std.specs.Int.{w16, to_be_bytes}
use Rattle.ori_posmap.specs.Bytes.{patched}
use Rattle.ori_cluster.proofs.Windows.{counts_written}
use Rattle.ori_cluster.proofs.slots.write_counts.Goals as goal

pub returns : goal.returns
returns c =
    let page = c.args.page.now in
    c.put-2.ensures ∙ ap (patched 10 c.to_be_bytes-2.result) c.put.ensures
    ∙ ap (λ (z : List ℕ). patched 10 z (patched 8 c.to_be_bytes.result page)) c.to_be_bytes-2.ensures
    ∙ ap (λ (z : List ℕ). patched 10 (to_be_bytes w16 c.args.end) (patched 8 z page)) c.to_be_bytes.ensures
    ∙ counts_written page c.args.count c.args.end (ap length (sym c.bytes-whole.ensures.value)
    ∙ c.bytes-whole.ensures.whole)
