use Rattle.std.proofs.Common.{◌<◌, ◌∙◌, length, sym, ap, arith, below_more, is_some, subst}
use Rattle.std.proofs.lemmas.List.{length-map}
use Rattle.ori_bytes.specs.declared.limits.TheConstants.{MAX_PAGES}
use Rattle.ori_log.specs.Images.{image_data}
use Rattle.ori_pool.specs.Held.{held_at, in_place}
use Rattle.ori_pool.proofs.Installing.{page_there, rising_few}
use Rattle.ori_pool.proofs.Contents.{no_more_then}
use Rattle.ori_pool.proofs.images.reserve_all.Goals as goal

pub reserve-requires : goal.reserve-requires
reserve-requires c =
    let low : c.loop-image.image-index < length c.args.images.now = omega (arith, c.loop-image-test.true) in
    c.loop-image.invariant.held c.image-item.result.page
    ∙ ap (λ q. is_some (held_at c.args.hand.now.parts.items q))
    (sym (page_there c.args.images.now c.loop-image.image-index c.image-item.result low c.image-item.is))
    ∙ c.requires.held c.loop-image.image-index (omega (arith, low, length-map c.args.images.now image_data))

pub loop-image-preserved : goal.loop-image-preserved
loop-image-preserved c =
    let low : c.loop-image.image-index < length c.args.images.now = omega (arith, c.loop-image-test.true) in
    record {
      places = below_more _ _ (λ k h. c.in_ok-reserve.ensures.places _ (c.loop-image.invariant.places k h))
          (ap (in_place c.reserve.new.self.parts.items)
          (page_there c.args.images.now c.loop-image.image-index c.image-item.result low c.image-item.is)
          ∙ c.in_ok-reserve.ensures.place);
      held = λ q. c.in_ok-reserve.ensures.held q ∙ c.loop-image.invariant.held q;
      own = λ own. c.in_ok-reserve.ensures.own
          (subst (λ n. n < MAX_PAGES)
          (page_there c.args.images.now c.loop-image.image-index c.image-item.result low c.image-item.is)
          (rising_few 0 _ c.requires.rising c.loop-image.image-index
          (omega (arith, low, length-map c.args.images.now image_data))))
          (c.loop-image.invariant.own own);
      dirty = λ others q. c.in_ok-reserve.ensures.dirty others q ∙ c.loop-image.invariant.dirty others q;
      contents = no_more_then _ _ _ c.loop-image.invariant.contents c.in_ok-reserve.ensures.contents;
    }

pub returns-in_err-reserve-clause-own : goal.returns-in_err-reserve-clause-own
returns-in_err-reserve-clause-own c = λ own.
    let low : c.loop-image.image-index < length c.args.images.now = omega (arith, c.loop-image-test.true) in
    c.in_err-reserve.ensures.own
    (subst (λ n. n < MAX_PAGES)
    (page_there c.args.images.now c.loop-image.image-index c.image-item.result low c.image-item.is)
    (rising_few 0 _ c.requires.rising c.loop-image.image-index
    (omega (arith, low, length-map c.args.images.now image_data))))
    (c.loop-image.invariant.own own)

pub returns-in_err-reserve-clause-contents : goal.returns-in_err-reserve-clause-contents
returns-in_err-reserve-clause-contents c =
    no_more_then _ _ _ c.loop-image.invariant.contents c.in_err-reserve.ensures.contents
