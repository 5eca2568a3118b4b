use Rattle.std.proofs.Common.{append_assoc}
use Rattle.ori_text.proofs.history.entry_string.Goals as goal

pub returns-in_ok-format-in-Commit : goal.returns-in_ok-format-in-Commit
returns-in_ok-format-in-Commit c =
    rw (
      c.in-Commit.is,
      ← c.as_slice.ensures,
      ← c.as_slice-in-Commit.ensures,
      ← c.in_ok-changes-in-Commit.ensures,
      append_assoc,
    ) c.in_ok-format-in-Commit.ensures.ok
