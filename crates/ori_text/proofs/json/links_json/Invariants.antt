use Rattle.std.proofs.Common.{◌≡◌, drop}
use Rattle.serde_json.specs.View.{members_view}
use Rattle.ori_spec_texts.specs.Json.{links_members}
use Rattle.ori_value.specs.Links.{links_of}
use Rattle.ori_text.proofs.json.links_json.Given as goal

-- the pairs from here on are members
abbrev pub invariant-loop-i : goal.invariant-loop-i
invariant-loop-i l = members_view l.members.entries ≡ links_members (links_of (drop l.i l.pairs))
