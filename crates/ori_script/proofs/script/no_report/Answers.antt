use Rattle.std.proofs.Common.{◌≡◌, ◌∙◌, ap, ap₂, ℕ, List, [], map, false, None}
use Rattle.ori_model.specs.declared.entry.Entry.{Entry}
use Rattle.ori_model.specs.Data.{entries_of}
use Rattle.ori_script.specs.Pasts.{placed_of}
use Rattle.ori_script.specs.Top.{ReportData, empty_report}
use Rattle.ori_script.proofs.Outcomes.{still_crashes}
use Rattle.ori_script.proofs.script.no_report.Goals as goal

pub returns-clause-still : goal.returns-clause-still
returns-clause-still c =
    let made : List Entry → List (ℕ × Entry) → List ℕ → ReportData =
    λ h f m. record { was_empty = false; history = entries_of h; doubt = None; failed = map placed_of f; marks = m } in
    let nothing : made c.new.result c.new-2.result c.new-3.result ≡ empty_report =
    ap₂ (λ (h : List Entry) (f : List (ℕ × Entry)). made h f c.new-3.result) c.new.ensures c.new-2.ensures
    ∙ ap (λ (m : List ℕ). made [] [] m) c.new-3.ensures in
    λ story. still_crashes _ story nothing
