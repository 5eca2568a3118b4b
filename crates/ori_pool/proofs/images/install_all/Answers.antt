use Rattle.std.proofs.Common.{◌∙◌, List, length, map, sym, ap, subst, arith}
use Rattle.std.proofs.lemmas.List.{length-map}
use Rattle.std.proofs.lemmas.Iterator.Consumers.{YieldsList-turn}
use Rattle.std.proofs.lemmas.Iterator.Adapters.{YieldsList-from_vec}
use Rattle.ori_log.specs.Log.{ImageData}
use Rattle.ori_log.specs.Images.{image_data}
use Rattle.ori_pool.specs.Held.{in_place, HavePlaces}
use Rattle.ori_pool.proofs.Installing.{page_there, installs_more}
use Rattle.ori_pool.proofs.GoingHome.{places_more}
use Rattle.ori_pool.proofs.Contents.{from_push}
use Rattle.ori_pool.proofs.images.install_all.Goals as goal

pub install-requires : goal.install-requires
install-requires c =
    let gives = c.into_iter-image-iterator.ensures.into_iter_gives in
    let items = c.into_vec-image-items.result.items in
    let turn = YieldsList-turn (YieldsList-from_vec {s = c.into_iter-image-iterator.result} items gives.0
    (gives.1 ∙ c.into_vec-image-items.result.ok.0)) c.loop-image.yielded c.loop-image.image-iterator
    c.loop-image.yielded_by c.next.result c.next.new.self c.in-Some.image c.in-Some.is c.next.ensures.steps in
    let have : HavePlaces c.args.hand.now.parts.items (map image_data items)
    = subst (λ (l : List ImageData). HavePlaces c.args.hand.now.parts.items l) (sym c.into_vec-image-items.ensures)
    c.requires in
    c.loop-image.invariant.places c.in-Some.image.page
    ∙ ap (in_place c.args.hand.now.parts.items)
    (sym (page_there items (length c.loop-image.yielded) c.in-Some.image turn.0 turn.1))
    ∙ have (length c.loop-image.yielded) (omega (arith, turn.0, length-map items image_data))

pub loop-image-preserved : goal.loop-image-preserved
loop-image-preserved c = record {
  places = λ q. c.install.ensures.places q ∙ c.loop-image.invariant.places q;
  slots = places_more _ _ _ c.loop-image.invariant.slots c.install.ensures.slots;
  installed = λ others page. c.install.ensures.dirty others page
      ∙ installs_more c.loop-image.yielded c.in-Some.image page _ _ (c.loop-image.invariant.installed others page);
  contents = from_push c.loop-image.yielded c.in-Some.image _ _ _ c.loop-image.invariant.contents
      c.install.ensures.contents;
}
