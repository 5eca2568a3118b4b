use Rattle.ori_spec_data.proofs.HistoryLaws.{empty_overlay, sound_shown}
use Rattle.ori_spec_data.proofs.laws.overlay_law.Goals as goal

pub returns : goal.returns
returns c = record { empty = empty_overlay; shown = sound_shown }
