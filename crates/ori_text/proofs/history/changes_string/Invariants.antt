use Rattle.std.proofs.Common.{◌≡◌, ◌++◌, drop, map, string_bytes}
use Rattle.ori_spec_texts.specs.Reply.{changes_text}
use Rattle.ori_model.specs.Data.{change_of}
use Rattle.ori_text.proofs.history.changes_string.Given as goal

-- what is written, and what the changes from here on will write, are all
abbrev pub invariant-loop-change : goal.invariant-loop-change
invariant-loop-change l = string_bytes l.text ++ changes_text (map change_of (drop l.change-index l.changes))
    l.left ≡ changes_text (map change_of l.changes) l.fresh
