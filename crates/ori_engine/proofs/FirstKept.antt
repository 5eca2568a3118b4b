-- What is kept first is safe, and held.
use Rattle.std.proofs.Common.{◌≡◌, ℕ, List, Option, Some, None, sym, ap}
use Rattle.std.proofs.Common.{option_map}
use Rattle.ori_volume.specs.Story.{Story, Tells}
use Rattle.ori_volume.proofs.Known.{tells_map}
use Rattle.ori_spec_data.specs.Base.{RecordData, BaseData}
use Rattle.ori_spec_data.specs.Keeping.{OpeningData}
use Rattle.ori_spec_data.specs.Limits.{FoundData}
use Rattle.ori_model.specs.Standing.{PastData}
use Rattle.ori_model.specs.Data.{entries_of}
use Rattle.ori_table.specs.Kept.{rows_of}
use Rattle.ori_turns.specs.Caches.{Cache}
use Rattle.ori_engine.specs.declared.kept.Kept.{Kept}
use Rattle.ori_engine.specs.CacheRows.{IsKeptSince}
use Rattle.ori_engine.specs.Doubts.{doubt_of}
use Rattle.ori_engine.specs.Openings.{Finds, IsStarted}
use Rattle.ori_engine.specs.Reopening.{OpensWhole}
use Rattle.ori_engine.specs.Safety.{SafeSince}
use Rattle.ori_engine.specs.Starting.{FindsRows, StartsSince, IsOpenSince}
use Rattle.ori_engine.specs.States.{kept_of, state_of, IsNewlyKept}
use Rattle.ori_engine.proofs.Engines.{whole_so}
use Rattle.ori_engine.proofs.Found.{first_held}
use Rattle.ori_engine.proofs.OpeningSafe.{first_safe}

module _ (k : Kept) (newly : IsNewlyKept k) where
  starts_safe : (first now : Option Story) → Tells (StartsSince (rows_of k.table.0)) first now
      → Tells (SafeSince (kept_of k None)) first now
  starts_safe first now told = tells_map (StartsSince (rows_of k.table.0)) (SafeSince (kept_of k None)) first now
      (λ x y was starts. λ base opens.
      let s = starts base opens in
      first_safe base x y (kept_of k None) s.crash s.whole s.found.sound s.found.rows_are (ap entries_of newly.feed)
      newly.marks (ap (option_map doubt_of) newly.doubt)) told

  pub kept_since : (gives : Cache → Type 0) (count : ℕ) (first now : PastData)
      → IsOpenSince (rows_of k.table.0) gives count first now → IsKeptSince (kept_of k None) gives count first now
  kept_since gives count first now begins = record {
    safe = λ base opened. starts_safe first.story now.story begins.safe;
    told = λ base opened. (begins.held base opened).told;
    held = λ base opened.
        let found = begins.held base opened in
        first_held k gives count found.given.cache base newly found.given.given found.given.count_is found.given.pages
        found.given.sure found.found.rows_are found.found.sound;
  }

  pub whole_first : (gives : Cache → Type 0) (count : ℕ) (first now : PastData)
      → IsOpenSince (rows_of k.table.0) gives count first now → Tells OpensWhole first.story now.story
  whole_first gives count first now begins =
      whole_so k None first.story now.story newly (starts_safe first.story now.story begins.safe)

pub started_so : (k : Kept) (opening : OpeningData) (found : FoundData) → found.limit ≡ None
    → FindsRows (rows_of k.table.0) found.base → IsStarted found (state_of k None opening)
started_so k opening found none finds = record {
  sound = finds.sound;
  base_is = ap Some finds.rows_are;
  limit_is = sym none;
}
