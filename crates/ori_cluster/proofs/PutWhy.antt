-- Why a chunk isn't put, from why a step isn't done.
use Rattle.std.proofs.Common.{◌≡◌, ℕ, ◌+◌, ◌≤◌, Bool, true, List, sym, ◌∙◌, true≢false, arith}
use Rattle.ori_page.specs.declared.fault.PageFault.{PageFault}
use Rattle.ori_page.specs.declared.fault.PageFault.TheVariants.{NoMemory, Device, Busy, Damaged, PagesFull}
use Rattle.ori_page.specs.Spaces.{HasFreeList, in_use}
use Rattle.ori_posmap.specs.Reading.{WhyNotRead}
use Rattle.ori_posmap.specs.Maps.{PositionMap, IsPositionMap, WhyTaken, WhyMap}
use Rattle.ori_cluster.specs.Growing.{WhyUnless}

-- a page isn't taken of later pages
pub unless_taken : (P : Type 0) (pages mid : List (List ℕ)) (m n : ℕ) (fault : PageFault)
    → (HasFreeList pages → HasFreeList mid × (in_use mid + m ≤ in_use pages + n)) → WhyTaken m mid fault
    → WhyUnless P pages n fault
unless_taken P pages mid m n NoMemory on h = tt
unless_taken P pages mid m n Device on h = tt
unless_taken P pages mid m n (Busy turn) on h = h
unless_taken P pages mid m n (Damaged page) on h = λ p l. h.unlisted (on l).0
unless_taken P pages mid m n PagesFull on h = λ l. let x = on l in omega (arith, h x.0, x.1)

-- a page isn't read
pub unless_read : (P : Type 0) (pages : List (List ℕ)) (good : Bool) (p n : ℕ) (fault : PageFault) → (P → good ≡ true)
    → WhyNotRead good p fault → WhyUnless P pages n fault
unless_read P pages good p n NoMemory is h = tt
unless_read P pages good p n Device is h = tt
unless_read P pages good p n (Busy turn) is h = h
unless_read P pages good p n (Damaged page) is h = λ x l. true≢false (sym (is x) ∙ h.1)
unless_read P pages good p n PagesFull is h = absurd h

-- a map doesn't change
pub unless_map : (P : Type 0) (pages mid : List (List ℕ)) (dir n : ℕ) (fault : PageFault)
    → (P → (m : PositionMap) × IsPositionMap mid dir m) → WhyMap mid dir fault → WhyUnless P pages n fault
unless_map P pages mid dir n NoMemory is h = tt
unless_map P pages mid dir n Device is h = tt
unless_map P pages mid dir n (Busy turn) is h = h
unless_map P pages mid dir n (Damaged page) is h = λ x l. let m = is x in h.1 m.0 m.1
unless_map P pages mid dir n PagesFull is h = absurd h

-- a chunk isn't put onto later pages
pub unless_then : (P Q : Type 0) (pages mid : List (List ℕ)) (m n : ℕ) (fault : PageFault) → (P → Q)
    → (HasFreeList pages → HasFreeList mid × (in_use mid + m ≤ in_use pages + n)) → WhyUnless Q mid m fault
    → WhyUnless P pages n fault
unless_then P Q pages mid m n NoMemory is on h = tt
unless_then P Q pages mid m n Device is on h = tt
unless_then P Q pages mid m n (Busy turn) is on h = h
unless_then P Q pages mid m n (Damaged page) is on h = λ p l. h (is p) (on l).0
unless_then P Q pages mid m n PagesFull is on h = λ l. let x = on l in omega (arith, h x.0, x.1)
