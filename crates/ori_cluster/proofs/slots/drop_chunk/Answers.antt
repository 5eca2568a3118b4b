use Rattle.std.proofs.Common.{◌≡◌, length, ap, sym, subst, ◌∙◌, arith}
use Rattle.ori_bytes.specs.declared.limits.TheConstants.{PAGE_BYTES}
use Rattle.ori_page.specs.Pages.{owner_of}
use Rattle.ori_cluster.specs.Slots.{HasLess, slot_count, used_end}
use Rattle.ori_cluster.proofs.Pages.{less}
use Rattle.ori_cluster.proofs.DropPages.{owner_stays, short_stays}
use Rattle.ori_cluster.proofs.slots.drop_chunk.Goals as goal

pub returns-clause-owner : goal.returns-clause-owner
returns-clause-owner c =
    let long : length c.args.page.now ≡ PAGE_BYTES
    = ap length (sym c.bytes-whole.ensures.value) ∙ c.bytes-whole.ensures.whole in
    ap owner_of c.write_slot.ensures ∙ owner_stays c.args.slot c.args.page.now long c.requires

pub returns-clause-count : goal.returns-clause-count
returns-clause-count c =
    let long : length c.args.page.now ≡ PAGE_BYTES
    = ap length (sym c.bytes-whole.ensures.value) ∙ c.bytes-whole.ensures.whole in
    ap slot_count c.write_slot.ensures ∙ short_stays c.args.slot 8 c.args.page.now long c.requires (omega arith)

pub returns-clause-used : goal.returns-clause-used
returns-clause-used c =
    let long : length c.args.page.now ≡ PAGE_BYTES
    = ap length (sym c.bytes-whole.ensures.value) ∙ c.bytes-whole.ensures.whole in
    ap used_end c.write_slot.ensures ∙ short_stays c.args.slot 10 c.args.page.now long c.requires (omega arith)

pub returns-clause-page : goal.returns-clause-page
returns-clause-page c = λ owner i h.
    subst (HasLess owner c.args.slot c.args.page.now) (sym c.write_slot.ensures)
    (less owner c.args.slot c.args.page.now i h)
