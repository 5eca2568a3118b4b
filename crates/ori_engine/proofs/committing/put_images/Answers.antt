use Rattle.std.proofs.Common.{◌∙◌, ℕ, List, map, length, refl, sym, subst}
use Rattle.std.proofs.lemmas.Iterator.Consumers.{YieldsList-turn, YieldsList-so_far, YieldsList-end}
use Rattle.std.proofs.lemmas.Iterator.Adapters.{YieldsList-from_vec}
use Rattle.std.proofs.lemmas.Result.{err_from_is_err_and}
use Rattle.ori_log.specs.Log.{ImageData}
use Rattle.ori_log.specs.Images.{image_data}
use Rattle.ori_overlay.specs.Changed.{Shows}
use Rattle.ori_cache.specs.ReadLaws.{cached_same, cached_then}
use Rattle.ori_paged.specs.PageRows.{put_images}
use Rattle.ori_engine.proofs.PagesPut.{comes_next, turn_below, turn_owned, put_more, all_came, gives_on, page_since}
use Rattle.ori_engine.proofs.committing.put_images.Goals as goal

pub loop-image-init : goal.loop-image-init
loop-image-init g c =
    let source = c.args.op.now.pool.now.overlay.source in
    record {
      shows = λ base pages given is. is;
      reads = cached_same g.V.Volume.files g.V.Volume.story g.V.Volume.moment g.V.Volume.faults g.V.Volume.log_faults
          g.F.Frames.seat g.F.Frames.gives g.F.Frames.shares g.F.Frames.waits source.frames source.count source.causes
          (g.met.F.Frames.shares_itself source.frames) source.ready;
      head = refl;
      name = refl;
      known = refl;
      opening = refl;
    }

pub put_image-requires-clause-named : goal.put_image-requires-clause-named
put_image-requires-clause-named g c =
    let given = c.into_iter-image-iterator.ensures.into_iter_gives in
    let items = c.into_vec-image-items.result.items in
    let yields = YieldsList-from_vec {s = c.into_iter-image-iterator.result} items given.0
    (given.1 ∙ c.into_vec-image-items.result.ok.0) in
    let turn = YieldsList-turn yields c.loop-image.yielded c.loop-image.image-iterator c.loop-image.yielded_by
    c.next.result c.next.new.self c.in-Some.image c.in-Some.is c.next.ensures.steps in
    turn_below c.args.images c.loop-image.yielded c.in-Some.image
    (comes_next c.args.images items c.loop-image.yielded c.in-Some.image c.into_vec-image-items.ensures
    (YieldsList-so_far yields c.loop-image.yielded c.loop-image.image-iterator c.loop-image.yielded_by) turn.0 turn.1)
    c.requires.rising

pub put_image-requires-clause-owner : goal.put_image-requires-clause-owner
put_image-requires-clause-owner g c =
    let given = c.into_iter-image-iterator.ensures.into_iter_gives in
    let items = c.into_vec-image-items.result.items in
    let yields = YieldsList-from_vec {s = c.into_iter-image-iterator.result} items given.0
    (given.1 ∙ c.into_vec-image-items.result.ok.0) in
    let turn = YieldsList-turn yields c.loop-image.yielded c.loop-image.image-iterator c.loop-image.yielded_by
    c.next.result c.next.new.self c.in-Some.image c.in-Some.is c.next.ensures.steps in
    turn_owned c.args.images c.loop-image.yielded c.in-Some.image
    (comes_next c.args.images items c.loop-image.yielded c.in-Some.image c.into_vec-image-items.ensures
    (YieldsList-so_far yields c.loop-image.yielded c.loop-image.image-iterator c.loop-image.yielded_by) turn.0 turn.1)
    c.requires.owned

pub loop-image-preserved : goal.loop-image-preserved
loop-image-preserved g c =
    let first = c.args.op.now.pool.now.overlay.source in
    let mid = c.loop-image.op.pool.now.overlay.source in
    let last = c.put_image.new.op.pool.now.overlay.source in
    let inv = c.loop-image.invariant in
    let step = c.put_image.ensures.keeps in
    record {
      shows = λ base pages given is.
          subst (λ (l : List (List ℕ)). Shows c.put_image.new.op.pool.now.overlay.changes base l)
          (sym (put_more c.loop-image.yielded c.in-Some.image pages))
          (c.in_ok-put_image.ensures.shows base (put_images pages (map image_data c.loop-image.yielded))
          (gives_on g.F.Frames.seat g.F.Frames.gives g.F.Frames.shares g.F.Frames.waits _ first.frames mid.frames
          first.count mid.count base inv.reads.frames inv.reads.count given) (inv.shows base pages given is));
      reads = cached_then g.V.Volume.files g.V.Volume.story g.V.Volume.moment g.V.Volume.faults
          g.V.Volume.log_faults g.F.Frames.seat g.F.Frames.gives g.F.Frames.shares g.F.Frames.waits
          g.met.F.Frames.shares_on first.frames mid.frames last.frames first.count mid.count last.count first.causes
          mid.causes last.causes inv.reads step.0.0;
      head = step.0.1 ∙ inv.head;
      name = step.1 ∙ inv.name;
      known = step.2 ∙ inv.known;
      opening = step.3 ∙ inv.opening;
    }

pub returns-in_err-put_image-clause-keeps : goal.returns-in_err-put_image-clause-keeps
returns-in_err-put_image-clause-keeps g c =
    let first = c.args.op.now.pool.now.overlay.source in
    let mid = c.loop-image.op.pool.now.overlay.source in
    let last = c.put_image.new.op.pool.now.overlay.source in
    let inv = c.loop-image.invariant in
    let step = c.put_image.ensures.keeps in (
      (
        cached_then g.V.Volume.files g.V.Volume.story g.V.Volume.moment g.V.Volume.faults
            g.V.Volume.log_faults g.F.Frames.seat g.F.Frames.gives g.F.Frames.shares g.F.Frames.waits
            g.met.F.Frames.shares_on first.frames mid.frames last.frames first.count mid.count last.count first.causes
            mid.causes last.causes inv.reads step.0.0,
        step.0.1 ∙ inv.head,
      ),
      step.1 ∙ inv.name,
      step.2 ∙ inv.known,
      step.3 ∙ inv.opening,
    )

pub returns-in_err-put_image-clause-why : goal.returns-in_err-put_image-clause-why
returns-in_err-put_image-clause-why g c =
    let inv = c.loop-image.invariant in
    let p = err_from_is_err_and c.from_residual.result c.from_residual.ensures.1 in
    rw (p.1, p.2) (page_since c.in_err-put_image.field-0.0 _ _ _ _ _ _ inv.reads.frames.tended.faults
    inv.reads.frames.waits c.in_err-put_image.ensures.why)

pub returns-clause-shows : goal.returns-clause-shows
returns-clause-shows g c = λ base pages given is.
    let given_items = c.into_iter-image-iterator.ensures.into_iter_gives in
    let items = c.into_vec-image-items.result.items in
    let yields = YieldsList-from_vec {s = c.into_iter-image-iterator.result} items given_items.0
    (given_items.1 ∙ c.into_vec-image-items.result.ok.0) in
    let end = YieldsList-end yields c.loop-image.yielded c.loop-image.image-iterator c.loop-image.yielded_by
    c.next.result c.next.new.self c.in-None.is c.next.ensures.steps in
    subst (λ (l : List ImageData). Shows c.loop-image.op.pool.now.overlay.changes base (put_images pages l))
    (all_came c.args.images items c.loop-image.yielded c.into_vec-image-items.ensures end.0)
    (c.loop-image.invariant.shows base pages given is)

pub returns-clause-keeps : goal.returns-clause-keeps
returns-clause-keeps g c =
    let inv = c.loop-image.invariant in
    ((inv.reads, inv.head), inv.name, inv.known, inv.opening)
