use Rattle.ori_spec_data.proofs.HistoryLaws.{initial_sound}
use Rattle.ori_spec_data.proofs.Kept.{apply_sound}
use Rattle.ori_spec_data.proofs.laws.sound_law.Goals as goal

pub returns : goal.returns
returns c = record { initial = initial_sound; kept = apply_sound }
