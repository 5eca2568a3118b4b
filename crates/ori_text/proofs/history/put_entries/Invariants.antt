use Rattle.std.proofs.Common.{◌≡◌, ◌+◌, ◌++◌, drop, string_bytes}
use Rattle.ori_spec_texts.specs.Reply.{entries_text}
use Rattle.ori_model.specs.Data.{entries_of}
use Rattle.ori_text.proofs.history.put_entries.Given as goal

-- what is written, and what the entries from here on will write, are all
abbrev pub invariant-loop-entry : goal.invariant-loop-entry
invariant-loop-entry l = record {
  at : l.place ≡ l.first + l.entry-index;
  text : string_bytes l.text ++ entries_text l.place (entries_of (drop l.entry-index l.entries))
      ≡ string_bytes l.fn.text ++ entries_text l.first (entries_of l.entries);
}
