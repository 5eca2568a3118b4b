use Rattle.std.proofs.Common.{◌≡◌, map, drop}
use Rattle.ori_spec_data.specs.Refusing.{has_dangling_link}
use Rattle.ori_value.specs.Links.{links_of}
use Rattle.ori_model.specs.Data.{change_of}
use Rattle.ori_decide.proofs.dangling.is_in_links.Given as goal

abbrev pub invariant-loop-rid : goal.invariant-loop-rid
invariant-loop-rid l = has_dangling_link (map change_of l.changes) (links_of l.items) ≡ has_dangling_link (map
    change_of l.changes) (links_of (drop l.rid-index l.items))
