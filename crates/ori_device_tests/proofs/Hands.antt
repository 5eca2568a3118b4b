-- The partitions that a hand holds.
use Rattle.std.proofs.Common.{◌≡◌, ℕ, zero, suc, ◌%◌, ◌<◌, ◌≤◌, true, false, List, Option, Some, None, is_some}
use Rattle.std.proofs.Common.{length, replicate, get_or, IsSome, IfSome, refl, sym, ap, subst, ◌∙◌, arith}
use Rattle.std.proofs.lemmas.Bool.{false≢true}
use Rattle.ori_bytes.specs.declared.limits.TheConstants.{PARTITIONS}
use Rattle.ori_log.specs.Log.{ImageData}
use Rattle.ori_log.specs.Images.{AreRising}
use Rattle.ori_log.specs.declared.log.Log.{Log}
use Rattle.ori_part.specs.Parts.{PartData, no_pages}
use Rattle.ori_pool.specs.Devices.{is_due}
use Rattle.ori_pool.specs.Held.{held_at, placed_in, HaveParts, AreTended, HoldsAll, AreOwn}
use Rattle.ori_pool.specs.Operating.{Needs}
use Rattle.ori_device_tests.specs.Ready.{IsReady}

abbrev empties : ℕ → List (Option PartData)
empties n = replicate n (Some no_pages)

some_empty : (n k : ℕ) → k < n → is_some (get_or (empties n) k None) ≡ true
some_empty zero k low = absurd (omega (arith, low))
some_empty (suc n) zero low = refl
some_empty (suc n) (suc k) low = some_empty n k (omega (arith, low))

no_place : (n k page : ℕ) → placed_in (get_or (empties n) k None) page ≡ false
no_place zero k page = refl
no_place (suc n) zero page = refl
no_place (suc n) (suc k) page = no_place n k page

pub empty_all : (parts : List (Option PartData)) → parts ≡ replicate PARTITIONS (Some no_pages) → HoldsAll parts
empty_all parts is q =
    ap (λ hand. is_some (held_at hand q)) is ∙ some_empty PARTITIONS (q % PARTITIONS) (omega arith)

pub empty_own : (parts : List (Option PartData)) → parts ≡ replicate PARTITIONS (Some no_pages) → AreOwn parts
empty_own parts is k page there =
    let never = sym (no_place PARTITIONS k page)
    ∙ sym (ap (λ hand. placed_in (get_or hand k None) page) is) ∙ there in
    absurd (false≢true never)

-- ---- after a call

all_on : (old new : List (Option PartData)) → AreTended old new → HoldsAll old → HoldsAll new
all_on old new tended all q = (tended (q % PARTITIONS)).places.held ∙ all q

own_on : (old new : List (Option PartData)) → AreTended old new → AreOwn old → AreOwn new
own_on old new tended own k page there = own k page (sym ((tended k).places.places page) ∙ there)

-- the device has a log, and the partitions keep their places
pub tended_ready : (log now : Option Log) (old new : List (Option PartData)) → IsReady log old → IsSome now
    → AreTended old new → IsReady now new
tended_ready log now old new ready attached tended = record {
  attached = attached;
  all = all_on old new tended ready.all;
  own = own_on old new tended ready.own;
}

pub same_ready : (log now : Option Log) (old new : List (Option PartData)) → IsReady log old → now ≡ log
    → AreTended old new → IsReady now new
same_ready log now old new ready same tended =
    tended_ready log now old new ready (subst (λ (l : Option Log). IsSome l) (sym same) ready.attached) tended

-- after a commit
pub committed_ready : (log now : Option Log) (old new : List (Option PartData)) → IsReady log old → IsSome now
    → ((number : ℕ) → is_some (get_or new number None) ≡ is_some (get_or old number None)) → AreOwn new
    → IsReady now new
committed_ready log now old new ready attached held own = record {
  attached = attached;
  all = λ q. held (q % PARTITIONS) ∙ ready.all q;
  own = own;
}

-- ---- before a commit

fine : (hand : List (Option PartData)) (log : Option Log) → HoldsAll hand
    → IfSome log (λ l. is_due l ≡ true → HoldsAll hand)
fine hand None all = tt
fine hand (Some log) all = λ due. all

-- a hand with all partitions is ready for two images
pub needs_met : (log : Option Log) (hand : List (Option PartData)) (images : List ImageData) → IsReady log hand
    → length images ≡ 2 → AreRising 0 images → Needs HaveParts log hand images
needs_met log hand images ready two rising = record {
  attached = ready.attached;
  some = omega (arith, two);
  few = omega (arith, two);
  rising = rising;
  held = λ k low. ready.all _;
  all = fine hand log ready.all;
  own = ready.own;
}
