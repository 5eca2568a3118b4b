use Rattle.std.proofs.Common.{◌≡◌, ℕ, List, Option, length, refl, sym, subst}
use Rattle.ori_model.specs.declared.record.Stored.{Stored}
use Rattle.ori_overlay.specs.Changed.{Shows}
use Rattle.ori_overlay.specs.Over.{founded}
use Rattle.ori_cache.specs.Ready.{CacheGives}
use Rattle.ori_table.specs.Kept.{rows_of}
use Rattle.ori_paged.specs.PageRows.{HavePages, ArePagesOf}
use Rattle.ori_paged.proofs.PageRows.{have_begun}
use Rattle.ori_turns.specs.Caches.{Cache}
use Rattle.ori_engine.proofs.ReadRows.{ok_map}
use Rattle.ori_engine.proofs.Begun.{founded_begun}
use Rattle.ori_engine.proofs.starting.read_rows.Goals as goal

pub returns-clause-rows : goal.returns-clause-rows
returns-clause-rows g c =
    let old = c.args.pool.now in
    let op = c.operation-op.result.pool.now.overlay in
    let new = c.read_table.new.space.pool.now.overlay in
    ok_map (λ (t : List (Option Stored) × ℕ). (pages : List (List ℕ))
    → ((base : List (List ℕ)) × CacheGives g.F.Frames.gives op.source.count op.source.frames base
    × Shows op.changes base pages)
    → ((base : List (List ℕ)) × CacheGives g.F.Frames.gives new.source.count new.source.frames base
    × Shows new.changes base pages) × HavePages (rows_of t.0) pages)
    (λ (t : List (Option Stored) × ℕ). (cache : Cache) → g.F.Frames.gives old.overlay.source.frames cache
    → length cache.pages ≡ old.overlay.source.count → ArePagesOf (rows_of t.0) cache.pages) c.read_table.result
    (λ t read. λ cache given many.
    let from : CacheGives g.F.Frames.gives old.overlay.source.count old.overlay.source.frames cache.pages =
    record { cache = cache; gives = given; pages_are = refl; count = many } in
    let there = read (founded old.overlay.changes.head cache.pages) (
      cache.pages,
      subst (λ s. CacheGives g.F.Frames.gives s.count s.frames cache.pages)
          (sym c.operation-op.ensures.source) from,
      c.operation-op.ensures.pages cache given many,
    ) in
    have_begun (rows_of t.0) cache.pages (subst (HavePages (rows_of t.0))
    (founded_begun old.overlay.changes.head cache.pages c.requires.head) there.1))
    c.read_table.ensures.rows
