-- A home that is read, and what a call reads that changes no byte.
use Rattle.std.proofs.Common.{◌≡◌, ℕ, ◌*◌, List, ◌++◌, length, take, drop, Option, Some, None, IfSome, refl, ap, ◌∙◌}
use Rattle.std.proofs.Common.{arith, max}
use Rattle.std.proofs.lemmas.List.{take_at}
use Rattle.ori_bytes.specs.declared.limits.TheConstants.{PAGE_BYTES}
use Rattle.ori_volume.specs.Disk.{Files}
use Rattle.ori_volume.specs.Effects.{read_bytes}
use Rattle.ori_volume.specs.Story.{Tells}
use Rattle.ori_volume.proofs.Known.{some_map, some_told}
use Rattle.ori_log.specs.Log.{ImageData, pages_named, pages_at_home}
use Rattle.ori_log.specs.Appending.{StandsIn}
use Rattle.ori_log.specs.Attaching.{IsKeptOrMade, AttachesTo}
use Rattle.ori_log.specs.declared.log.Log.{Log}
use Rattle.ori_cover.specs.Given.{HoldsPages}
use Rattle.ori_cover.specs.Homes.{IsHome}
use Rattle.ori_cover.specs.Reading.{OpensPagesRead}
use Rattle.ori_cover.proofs.Homes.{home_read}
use Rattle.ori_cover.proofs.Opening.{opens_pages_read, attached_pages}

-- a page whose bytes were all written over
pub home_told : (told : Option Files) (page : ℕ) (blank lent new : List ℕ) → lent ≡ blank → length lent ≡ PAGE_BYTES
    → length new ≡ length lent
    → IfSome told (λ fs. new ≡ read_bytes fs.pages (PAGE_BYTES * page) (length lent))
    → IfSome told (λ fs. (content : List ℕ) → IsHome page content fs.pages
    → take (length blank) (new ++ drop (length new) blank) ≡ content)
home_told told page blank lent new same whole long is =
    some_map (λ (fs : Files). new ≡ read_bytes fs.pages (PAGE_BYTES * page) (length lent)) _ told
    (λ fs known e content home.
    take_at new (drop (length new) blank) (length blank) (omega (arith, long, ap length same))
    ∙ e ∙ ap (read_bytes fs.pages (PAGE_BYTES * page)) whole ∙ home_read page content fs.pages home) is

-- what is told stays, and is so related to itself
pub told_same : {T : Type 0} (R : T → T → Type 0) (a b : Option T) → ((x : T) → a ≡ Some x → R x x) → b ≡ a
    → Tells R a b
told_same R None b step same = same
told_same R (Some x) b step same = (x, same, step x refl)

-- an opening
pub opened_read : (log : Log) (images : List ImageData) (a b : Option Files)
    → IfSome a (λ fs. (records : List (List ImageData)) × AttachesTo fs records log images)
    → IfSome b (λ fs. StandsIn log fs) → Tells IsKeptOrMade a b
    → Tells (λ old new. (records : List (List ImageData)) × OpensPagesRead log images records old new) a b
opened_read log images None b attaches stands kept = kept
opened_read log images (Some old) b attaches stands kept = (
  kept.0,
  kept.1,
  (
    attaches.0,
    opens_pages_read old kept.0 attaches.0 log images attaches.1 kept.2
        (some_told (λ fs. StandsIn log fs) b kept.0 kept.1 stands),
  ),
)

-- and how many pages it found
pub opened_pages : (log : Log) (images : List ImageData) (a : Option Files)
    → IfSome a (λ fs. (records : List (List ImageData)) × AttachesTo fs records log images)
    → IfSome a (λ fs. (pages : List (List ℕ)) × HoldsPages pages fs
    × (length pages ≡ max (pages_named images) (pages_at_home fs.pages)))
opened_pages log images None attaches = tt
opened_pages log images (Some fs) attaches = attached_pages fs attaches.0 log images attaches.1
