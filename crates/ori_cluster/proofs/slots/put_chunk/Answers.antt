use Rattle.std.proofs.Common.{length, refl, ap, sym, ◌∙◌, arith}
use Rattle.ori_cluster.specs.Slots.{chunk_bytes}
use Rattle.ori_cluster.proofs.Pages.{chunk_length, more_after}
use Rattle.ori_cluster.proofs.PutPages.{more_owner}
use Rattle.ori_cluster.proofs.slots.put_chunk.Goals as goal

pub returns-clause-page : goal.returns-clause-page
returns-clause-page c owner i =
    more_after owner c.args.next c.args.bytes.now c.args.page.now c.u16_at-count.result c.u16_at-end.result
    c.write_chunk.new.page c.write_slot.new.page c.write_counts.new.page c.write_chunk.ensures.page
    c.write_chunk.ensures.slot c.requires.room i c.u16_at-count.ensures c.u16_at-end.ensures c.write_chunk.ensures.value
    c.write_slot.ensures c.write_counts.ensures

pub returns-clause-owner : goal.returns-clause-owner
returns-clause-owner c =
    more_owner c.u16_at-end.result c.u16_at-count.result (chunk_bytes c.args.next c.args.bytes.now) _ _ c.args.page.now
    c.write_chunk.new.page c.write_slot.new.page c.write_counts.new.page
    (ap length (sym c.bytes-whole.ensures.value) ∙ c.bytes-whole.ensures.whole)
    (omega (arith, c.requires.front, c.u16_at-end.ensures))
    (omega (
      arith,
      c.requires.room,
      c.u16_at-end.ensures,
      c.u16_at-count.ensures,
      chunk_length c.args.next c.args.bytes.now,
    )) refl c.write_chunk.ensures.value c.write_slot.ensures c.write_counts.ensures
