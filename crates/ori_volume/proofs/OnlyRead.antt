-- Reads one after the other.
use Rattle.std.proofs.Common.{ℕ, Option, refl, ◌∙◌}
use Rattle.ori_volume.specs.Disk.{Files}
use Rattle.ori_volume.specs.OnlyRead.{IsOnlyRead}
use Rattle.ori_volume.specs.Story.{Story, Reads}
use Rattle.ori_volume.proofs.Known.{tells_refl, tells_then}

pub no_read : (story : Story) → Reads story story
no_read story = record { past = refl; disk = refl }

module _ {V : Type 0} {holds : V → Option Files} {tells : V → Option Story} {time counted : V → ℕ} where
  pub unread : (a : V) → IsOnlyRead holds tells time counted a a
  unread a = record { files = refl; story = tells_refl Reads (tells a) no_read; moment = refl; log_faults = refl }

  pub read_then : (a b c : V) → IsOnlyRead holds tells time counted a b → IsOnlyRead holds tells time counted b c
      → IsOnlyRead holds tells time counted a c
  read_then a b c first second = record {
    files = second.files ∙ first.files;
    story = tells_then Reads Reads Reads (tells a) (tells b) (tells c)
        (λ x y z one next. record { past = next.past ∙ one.past; disk = next.disk ∙ one.disk })
        first.story second.story;
    moment = second.moment ∙ first.moment;
    log_faults = second.log_faults ∙ first.log_faults;
  }
