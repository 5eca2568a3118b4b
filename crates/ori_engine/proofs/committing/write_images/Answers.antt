use Rattle.std.proofs.Common.{◌≡◌, ◌∙◌, rules, ℕ, List, [], ◌∷◌, length, Ok, Err, refl, sym, ap, subst}
use Rattle.ori_rows.specs.Stage.{head_page}
use Rattle.ori_pool.specs.declared.fault.OpFault.{OpFault}
use Rattle.ori_turns.specs.declared.known.Known.{Known}
use Rattle.ori_turns.specs.Caches.{Cache}
use Rattle.ori_overlay.specs.Over.{founded}
use Rattle.ori_overlay.specs.Changed.{Shows}
use Rattle.ori_cache.specs.Reads.{ReadsDevice}
use Rattle.ori_cache.specs.Ready.{ReadsCached}
use Rattle.ori_paged.specs.PageRows.{begun, put_images}
use Rattle.ori_engine.specs.declared.committing.WriteFault.TheVariants.{Page, Commit}
use Rattle.ori_engine.specs.Writing.{WritesPages, PageFor}
use Rattle.ori_engine.proofs.Begun.{founded_begun}
use Rattle.ori_engine.proofs.Operated.{op_committed, page_refused}
use Rattle.ori_engine.proofs.committing.write_images.Goals as goal

pub returns-in-Ok-clause-wrote : goal.returns-in-Ok-clause-wrote
returns-in-Ok-clause-wrote g c =
    let p = c.args.pool.now in
    let op1 = c.put_images.new.op.pool.now in
    let s1 = op1.overlay.source in
    let last = c.commit.new.self.0 in
    let keeps = c.in_default.ensures.keeps in
    let same = c.operation-op.ensures.source in
    let kept = subst (λ s. ReadsCached g.F.Frames.seat g.F.Frames.gives g.F.Frames.shares g.F.Frames.waits
    (ReadsDevice g.V.Volume.files g.V.Volume.story g.V.Volume.moment g.V.Volume.faults g.V.Volume.log_faults) s.frames
    s1.frames s.count s1.count s.causes s1.causes) same keeps.0.0 in
    let known = keeps.2 ∙ c.operation-op.ensures.known.0 in
    let shown : (cache : Cache) → g.F.Frames.gives p.overlay.source.frames cache → length cache.pages ≡ s1.count
    → Shows op1.overlay.changes cache.pages (put_images (begun cache.pages) c.args.images) =
    (λ cache gives long.
    subst (λ (l : List (List ℕ)). Shows op1.overlay.changes cache.pages (put_images l c.args.images))
    (founded_begun p.overlay.changes.head cache.pages c.requires.head)
    (c.in_default.ensures.shows cache.pages (founded p.overlay.changes.head cache.pages) (record {
      cache = cache;
      gives = subst (λ s. g.F.Frames.gives s.frames cache) (sym same) gives;
      pages_are = refl;
      count = long ∙ kept.count ∙ ap (λ s. s.count) (sym same);
    }) (c.operation-op.ensures.pages cache gives (long ∙ kept.count)))) in
    let there : c.commit.new.self.0 ≡ c.pool-2-1.given.0 = search rules in
    subst (λ o. WritesPages g.V.Volume.story g.V.Volume.moment g.F.Frames.seat g.F.Frames.gives
    g.F.Frames.shares g.F.Frames.waits p.overlay.source.frames o.overlay.source.frames
    p.overlay.source.count o.overlay.source.count p.known o.known c.args.images
    (Ok c.in-Ok.moment)) there
    (subst (λ (n : ℕ). WritesPages g.V.Volume.story g.V.Volume.moment g.F.Frames.seat g.F.Frames.gives
    g.F.Frames.shares g.F.Frames.waits p.overlay.source.frames last.overlay.source.frames n last.overlay.source.count
    p.known last.known c.args.images (Ok c.in-Ok.moment)) kept.count
    (subst (λ (k : Known). WritesPages g.V.Volume.story g.V.Volume.moment g.F.Frames.seat g.F.Frames.gives
    g.F.Frames.shares g.F.Frames.waits p.overlay.source.frames last.overlay.source.frames s1.count
    last.overlay.source.count k last.known c.args.images (Ok c.in-Ok.moment)) known
    (op_committed g.V.Volume.files g.V.Volume.story g.V.Volume.moment g.V.Volume.faults g.V.Volume.log_faults
    g.F.Frames.seat g.F.Frames.gives g.F.Frames.shares g.F.Frames.waits p.overlay.source.frames s1.frames
    last.overlay.source.frames s1.count last.overlay.source.count
    op1.overlay.changes op1.known last.known c.args.images (Ok c.in-Ok.moment) s1.ready.engine
    p.overlay.source.ready.engine s1.ready.attached
    op1.knows last.knows (ap (λ (k : Known). k.halted) known ∙ c.requires.going) kept.frames
    c.in-Ok.ensures.committed shown g.met.F.Frames.shares_on)))

pub returns-in-Err-commit-clause-wrote : goal.returns-in-Err-commit-clause-wrote
returns-in-Err-commit-clause-wrote g c =
    let p = c.args.pool.now in
    let op1 = c.put_images.new.op.pool.now in
    let s1 = op1.overlay.source in
    let last = c.commit.new.self.0 in
    let keeps = c.in_default.ensures.keeps in
    let same = c.operation-op.ensures.source in
    let kept = subst (λ s. ReadsCached g.F.Frames.seat g.F.Frames.gives g.F.Frames.shares g.F.Frames.waits
    (ReadsDevice g.V.Volume.files g.V.Volume.story g.V.Volume.moment g.V.Volume.faults g.V.Volume.log_faults) s.frames
    s1.frames s.count s1.count s.causes s1.causes) same keeps.0.0 in
    let known = keeps.2 ∙ c.operation-op.ensures.known.0 in
    let shown : (cache : Cache) → g.F.Frames.gives p.overlay.source.frames cache → length cache.pages ≡ s1.count
    → Shows op1.overlay.changes cache.pages (put_images (begun cache.pages) c.args.images) =
    (λ cache gives long.
    subst (λ (l : List (List ℕ)). Shows op1.overlay.changes cache.pages (put_images l c.args.images))
    (founded_begun p.overlay.changes.head cache.pages c.requires.head)
    (c.in_default.ensures.shows cache.pages (founded p.overlay.changes.head cache.pages) (record {
      cache = cache;
      gives = subst (λ s. g.F.Frames.gives s.frames cache) (sym same) gives;
      pages_are = refl;
      count = long ∙ kept.count ∙ ap (λ s. s.count) (sym same);
    }) (c.operation-op.ensures.pages cache gives (long ∙ kept.count)))) in
    let there : c.commit.new.self.0 ≡ c.pool-2-1.given.0 = search rules in
    subst (λ o. WritesPages g.V.Volume.story g.V.Volume.moment g.F.Frames.seat g.F.Frames.gives
    g.F.Frames.shares g.F.Frames.waits p.overlay.source.frames o.overlay.source.frames
    p.overlay.source.count o.overlay.source.count p.known o.known c.args.images
    (Err (Commit c.in-Err-commit.fault))) there
    (subst (λ (n : ℕ). WritesPages g.V.Volume.story g.V.Volume.moment g.F.Frames.seat g.F.Frames.gives
    g.F.Frames.shares g.F.Frames.waits p.overlay.source.frames last.overlay.source.frames n last.overlay.source.count
    p.known last.known c.args.images (Err (Commit c.in-Err-commit.fault))) kept.count
    (subst (λ (k : Known). WritesPages g.V.Volume.story g.V.Volume.moment g.F.Frames.seat g.F.Frames.gives
    g.F.Frames.shares g.F.Frames.waits p.overlay.source.frames last.overlay.source.frames s1.count
    last.overlay.source.count k last.known c.args.images (Err (Commit c.in-Err-commit.fault))) known
    (op_committed g.V.Volume.files g.V.Volume.story g.V.Volume.moment g.V.Volume.faults g.V.Volume.log_faults
    g.F.Frames.seat g.F.Frames.gives g.F.Frames.shares g.F.Frames.waits p.overlay.source.frames s1.frames
    last.overlay.source.frames s1.count last.overlay.source.count
    op1.overlay.changes op1.known last.known c.args.images (Err c.in-Err-commit.fault) s1.ready.engine
    p.overlay.source.ready.engine s1.ready.attached
    op1.knows last.knows (ap (λ (k : Known). k.halted) known ∙ c.requires.going) kept.frames
    c.in-Err-commit.ensures.committed shown g.met.F.Frames.shares_on)))

pub returns-in-Err-clause-wrote : goal.returns-in-Err-clause-wrote
returns-in-Err-clause-wrote g c =
    let p = c.args.pool.now in
    let op1 = c.put_images.new.op.pool.now in
    let s1 = op1.overlay.source in
    let keeps = c.put_images.ensures.keeps in
    let same = c.operation-op.ensures.source in
    let kept = subst (λ s. ReadsCached g.F.Frames.seat g.F.Frames.gives g.F.Frames.shares g.F.Frames.waits
    (ReadsDevice g.V.Volume.files g.V.Volume.story g.V.Volume.moment g.V.Volume.faults g.V.Volume.log_faults) s.frames
    s1.frames s.count s1.count s.causes s1.causes) same keeps.0.0 in
    let known = keeps.2 ∙ c.operation-op.ensures.known.0 in
    let there : c.put_images.new.op.pool.now ≡ c.in-Err.pool-1-own.given.0 = search rules in
    subst (λ o. WritesPages g.V.Volume.story g.V.Volume.moment g.F.Frames.seat g.F.Frames.gives
    g.F.Frames.shares g.F.Frames.waits p.overlay.source.frames o.overlay.source.frames
    p.overlay.source.count o.overlay.source.count p.known o.known c.args.images
    (Err (Page c.in-Err.fault))) there
    (page_refused g.V.Volume.files g.V.Volume.story g.V.Volume.moment g.V.Volume.faults g.V.Volume.log_faults
    g.F.Frames.seat g.F.Frames.gives g.F.Frames.shares g.F.Frames.waits p.overlay.source.frames s1.frames
    p.overlay.source.count s1.count p.known op1.known c.args.images c.in-Err.fault p.overlay.source.ready.engine
    kept.frames
    kept.count known c.requires.going (subst (λ s. PageFor c.in-Err.fault (g.F.Frames.seat s.frames).last.faults
    (g.F.Frames.seat s1.frames).last.faults (g.F.Frames.waits s.frames) (g.F.Frames.waits s1.frames)) same
    c.in-Err.ensures.why))
