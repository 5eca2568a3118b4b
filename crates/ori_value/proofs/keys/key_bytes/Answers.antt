use Rattle.std.proofs.Common.{refl, true, ◌≡◌, ◌∙◌, ap, arith}
use Rattle.ori_spec_data.specs.Keys.{are_indexable, key_bytes}
use Rattle.ori_value.specs.View.{trees_of}
use Rattle.ori_value.proofs.KeySteps.{indexable_at, values_step, values_done}
use Rattle.ori_value.proofs.keys.key_bytes.Goals as goal

pub put_key-requires : goal.put_key-requires
put_key-requires c =
    let values = c.as_slice-value-items.result.now in
    let all : are_indexable (trees_of values) ≡ true = rw c.as_slice-value-items.ensures c.requires.indexable in
    rw c.value-item.is (indexable_at values c.loop-value.value-index c.value-item.result all c.loop-value-test.true)

pub loop-value-init : goal.loop-value-init
loop-value-init c = rw c.new-key.ensures refl

pub loop-value-preserved : goal.loop-value-preserved
loop-value-preserved c =
    values_step c.as_slice-value-items.result.now c.loop-value.value-index c.value-item.result c.loop-value.key
    c.put_key.new.key c.loop-value-test.true c.value-item.is c.in_ok-put_key.ensures ∙ c.loop-value.invariant

pub returns : goal.returns
returns c =
    values_done c.as_slice-value-items.result.now c.loop-value.value-index c.loop-value.key _ (omega arith)
    c.loop-value.invariant ∙ ap key_bytes c.as_slice-value-items.ensures
