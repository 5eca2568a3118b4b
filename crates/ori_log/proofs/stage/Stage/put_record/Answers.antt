use Rattle.std.proofs.Common.{◌≡◌, ◌++◌, ◌*◌, ◌+◌, [], ◌∙◌, ◌∷◌, ℕ, List, length, map, flat_map, ap, subst}
use Rattle.std.proofs.Common.{Ok, sym, replicate, append_assoc}
use Rattle.std.specs.Int.{w32, to_be_bytes}
use Rattle.ori_bytes.specs.declared.limits.TheConstants.{CLOSED_GATE}
use Rattle.ori_volume.specs.declared.failed.Failed.{Failed}
use Rattle.ori_volume.specs.Story.{Tells}
use Rattle.ori_volume.proofs.Known.{tells_then}
use Rattle.ori_log.specs.Log.{ImageData, image_bytes}
use Rattle.ori_log.specs.Images.{image_data, behind_gate}
use Rattle.ori_log.specs.Staging.{Stages, StagesFiles}
use Rattle.ori_log.specs.declared.stage.TheConstants.{IMAGE_BYTES}
use Rattle.ori_log.proofs.Images.{record_pieces}
use Rattle.ori_log.proofs.Stages.{stages_then, stages_failed, files_then, files_failed}
use Rattle.ori_log.proofs.stage.Stage.put_record.Goals as goal

pub returns-in_err-put_images-clause-crash : goal.returns-in_err-put_images-clause-crash
returns-in_err-put_images-clause-crash g c =
    tells_then _ _ _ _ _ _
    (λ old mid new first second.
    stages_failed c.args.file c.args.self.now c.put_head.new.self c.put_images.new.self
    (to_be_bytes w32 (4 + IMAGE_BYTES * c.len.result) ++ to_be_bytes w32 c.len.result)
    (flat_map image_bytes (map image_data c.as_slice.result.now))
    (behind_gate c.args.images.now ++ replicate c.args.zeros 0)
    c.in_err-put_images.field-0.0 c.from_residual-in_err-put_images.result old mid new
    c.from_residual-in_err-put_images.ensures.0 first second)
    c.in_ok-put_head.ensures.crash c.in_err-put_images.ensures.crash

pub returns-in_err-put_images-clause-files : goal.returns-in_err-put_images-clause-files
returns-in_err-put_images-clause-files g c =
    tells_then _ _ _ _ _ _
    (λ old mid new first second.
    files_failed c.args.file c.args.self.now c.put_head.new.self c.put_images.new.self
    (to_be_bytes w32 (4 + IMAGE_BYTES * c.len.result) ++ to_be_bytes w32 c.len.result)
    (flat_map image_bytes (map image_data c.as_slice.result.now))
    (behind_gate c.args.images.now ++ replicate c.args.zeros 0)
    c.in_err-put_images.field-0.0 c.from_residual-in_err-put_images.result old mid new
    c.from_residual-in_err-put_images.ensures.0 first second)
    c.in_ok-put_head.ensures.files c.in_err-put_images.ensures.files

pub returns-clause-crash : goal.returns-clause-crash
returns-clause-crash g c =
    let head : List ℕ = to_be_bytes w32 (4 + IMAGE_BYTES * c.len.result) ++ to_be_bytes w32 c.len.result in
    let images : List ℕ = flat_map image_bytes (map image_data c.as_slice.result.now) in
    let zeros : List ℕ = replicate c.args.zeros 0 in
    let pieces : head ++ images ++ CLOSED_GATE ∷ [] ≡ behind_gate c.args.images.now =
    ap (λ (n : ℕ). (to_be_bytes w32 (4 + IMAGE_BYTES * n) ++ to_be_bytes w32 n) ++ images ++ CLOSED_GATE ∷ [])
    c.len.ensures.value
    ∙ ap (λ (l : List ImageData). (to_be_bytes w32 (4 + IMAGE_BYTES * length c.args.images.now)
    ++ to_be_bytes w32 (length c.args.images.now)) ++ flat_map image_bytes l ++ CLOSED_GATE ∷ []) c.as_slice.ensures
    ∙ record_pieces c.args.images.now c.len.ensures.whole in
    let front = tells_then _ _ _ _ _ _
    (λ old mid new first second. stages_then c.args.file c.args.self.now c.put_head.new.self c.put_images.new.self head
    images (Ok tt) old mid new first second)
    c.in_ok-put_head.ensures.crash c.in_ok-put_images.ensures.crash in
    let all = tells_then _ _ _ _ _ _
    (λ old mid new first second. stages_then c.args.file c.args.self.now c.put_images.new.self c.put_end.new.self
    (head ++ images) (CLOSED_GATE ∷ zeros) c.put_end.result old mid new first second)
    front c.put_end.ensures.crash in
    subst (λ (l : List ℕ). Tells (Stages {T = Unit {0}} {E = Failed} c.args.file c.args.self.now c.put_end.new.self l
    c.put_end.result) (g.V.Volume.story c.args.volume.now) (g.V.Volume.story c.put_end.new.volume))
    (append_assoc head images (CLOSED_GATE ∷ zeros)
    ∙ ap (λ (l : List ℕ). head ++ l) (sym (append_assoc images (CLOSED_GATE ∷ []) zeros))
    ∙ sym (append_assoc head (images ++ CLOSED_GATE ∷ []) zeros) ∙ ap (λ (l : List ℕ). l ++ zeros) pieces) all

pub returns-clause-files : goal.returns-clause-files
returns-clause-files g c =
    let head : List ℕ = to_be_bytes w32 (4 + IMAGE_BYTES * c.len.result) ++ to_be_bytes w32 c.len.result in
    let images : List ℕ = flat_map image_bytes (map image_data c.as_slice.result.now) in
    let zeros : List ℕ = replicate c.args.zeros 0 in
    let pieces : head ++ images ++ CLOSED_GATE ∷ [] ≡ behind_gate c.args.images.now =
    ap (λ (n : ℕ). (to_be_bytes w32 (4 + IMAGE_BYTES * n) ++ to_be_bytes w32 n) ++ images ++ CLOSED_GATE ∷ [])
    c.len.ensures.value
    ∙ ap (λ (l : List ImageData). (to_be_bytes w32 (4 + IMAGE_BYTES * length c.args.images.now)
    ++ to_be_bytes w32 (length c.args.images.now)) ++ flat_map image_bytes l ++ CLOSED_GATE ∷ []) c.as_slice.ensures
    ∙ record_pieces c.args.images.now c.len.ensures.whole in
    let front = tells_then _ _ _ _ _ _
    (λ old mid new first second. files_then c.args.file c.args.self.now c.put_head.new.self c.put_images.new.self head
    images (Ok tt) old mid new first second)
    c.in_ok-put_head.ensures.files c.in_ok-put_images.ensures.files in
    let all = tells_then _ _ _ _ _ _
    (λ old mid new first second. files_then c.args.file c.args.self.now c.put_images.new.self c.put_end.new.self
    (head ++ images) (CLOSED_GATE ∷ zeros) c.put_end.result old mid new first second)
    front c.put_end.ensures.files in
    subst (λ (l : List ℕ). Tells
    (StagesFiles {T = Unit {0}} {E = Failed} c.args.file c.args.self.now c.put_end.new.self l
    c.put_end.result) (g.V.Volume.files c.args.volume.now) (g.V.Volume.files c.put_end.new.volume))
    (append_assoc head images (CLOSED_GATE ∷ zeros)
    ∙ ap (λ (l : List ℕ). head ++ l) (sym (append_assoc images (CLOSED_GATE ∷ []) zeros))
    ∙ sym (append_assoc head (images ++ CLOSED_GATE ∷ []) zeros) ∙ ap (λ (l : List ℕ). l ++ zeros) pieces) all
