use Rattle.std.proofs.Common.{◌≡◌, ℕ, ◌+◌, ◌*◌, ◌≤◌, List, length, refl, sym}
use Rattle.ori_bytes.specs.declared.limits.TheConstants.{PAGE_BYTES}
use Rattle.ori_volume.specs.Disk.{Files}
use Rattle.ori_volume.proofs.Known.{some_both}
use Rattle.ori_log.specs.Log.{home_of}
use Rattle.ori_cover.specs.Homes.{IsHome}
use Rattle.ori_cache.proofs.home.read_home.Goals as goal

-- a whole home is what was read there
home_whole : (page : ℕ) (read : List ℕ) (fs : Files)
    → ((content : List ℕ) → IsHome page content fs.pages → read ≡ content)
    → PAGE_BYTES * (page + 1) ≤ length fs.pages → IsHome page read fs.pages
home_whole page read fs reads whole = record {
  whole = whole;
  reads = sym (reads (home_of fs.pages page) (record { whole = whole; reads = refl }));
}

pub returns-clause-whole : goal.returns-clause-whole
returns-clause-whole g c = λ is.
    some_both (g.V.Volume.files c.args.device.now.volume) (g.V.Volume.files c.read_home.new.self.volume) _ _ _
    c.read_home.ensures.read.files (λ fs reads whole. home_whole c.args.page c.in_ok-content.content fs reads whole)
    c.in_ok-content.ensures.value (c.is_whole-whole.ensures.whole is)
