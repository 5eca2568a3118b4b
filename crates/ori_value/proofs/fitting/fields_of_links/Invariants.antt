use Rattle.std.proofs.Common.{◌≡◌, take}
use Rattle.ori_spec_data.specs.Fit.{fields_of_links}
use Rattle.ori_value.specs.Links.{links_of}
use Rattle.ori_value.specs.View.{fields_of}
use Rattle.ori_value.proofs.fitting.fields_of_links.Given as goal

abbrev pub invariant-loop-name : goal.invariant-loop-name
invariant-loop-name l = fields_of l.fields.items ≡ fields_of_links (links_of (take l.name-index l.links))
