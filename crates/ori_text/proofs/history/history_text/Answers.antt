use Rattle.std.proofs.Common.{append_assoc}
use Rattle.ori_text.proofs.Histories.{both_printed}
use Rattle.ori_text.proofs.history.history_text.Goals as goal

pub returns : goal.returns
returns c =
    rw (
      both_printed c.args.earlier.now c.args.feed.now,
      c.from_string.ensures,
      c.in_ok-push_str.ensures.bytes,
      c.as_str.ensures.value,
      c.in_ok-put_entries-2.ensures,
      c.in_ok-put_entries.ensures,
      c.new-text.ensures.bytes,
      c.in_ok-format.ensures.ok,
    ) (simp append_assoc)
