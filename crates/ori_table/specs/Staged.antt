-- A transaction that was staged over rows.
use Rattle.std.specs.Prelude.{◌≡◌, ◌+◌, ◌<◌, ◌≤◌, List, length, Option, None}
use Rattle.ori_bytes.specs.declared.limits.TheConstants.{MAX_WEIGHT, MAX_POSITIONS}
use Rattle.ori_spec_data.specs.Base.{RecordData, TxData}
use Rattle.ori_spec_data.specs.Apply.{fresh, apply_tx}
use Rattle.ori_spec_data.specs.Weighing.{weight, pages_changed}
use Rattle.ori_spec_data.specs.Refusing.{refusal}
use Rattle.ori_log.specs.Images.{AreRising}
use Rattle.ori_table.specs.declared.stage.Staged.{Staged}
use Rattle.ori_rows.specs.Rows.{base_with}
use Rattle.ori_rows.specs.Outcomes.{put_rows}
use Rattle.ori_rows.specs.Images.{Changes}
use Rattle.ori_table.specs.Data.{outcomes_data, CanLay}

-- the rows with its outcomes
abbrev pub rows_with : List (Option RecordData) → Staged → List (Option RecordData)
rows_with rows staged = put_rows rows (outcomes_data staged.outcomes.items)

-- The base accepts it, and its outcomes make of the rows those of the base after it. The images change the pages so.
pub record IsStaged (rows : List (Option RecordData)) (tx : TxData) (staged : Staged) : Type 0 where
  pub allowed : refusal (base_with rows) tx ≡ None
  pub fresh_is : staged.fresh ≡ fresh (base_with rows) tx
  pub made : base_with (rows_with rows staged) ≡ apply_tx (base_with rows) tx
  pub changes : Changes rows (rows_with rows staged) staged.images
  pub count : length staged.images ≡ pages_changed tx.changes
  pub some : 0 < length tx.changes → 0 < length staged.images
  pub few : length staged.images ≤ MAX_WEIGHT
  pub rising : AreRising 0 staged.images
  pub in_use : length (rows_with rows staged) ≤ length rows + weight (base_with rows) tx
  pub light : weight (base_with rows) tx ≤ MAX_WEIGHT
  pub room : length (rows_with rows staged) ≤ MAX_POSITIONS
  pub can_lay : CanLay rows (outcomes_data staged.outcomes.items)
