-- What pages say after a chunk was put onto one of them.
use Rattle.std.proofs.Common.{◌≡◌, ◌≢◌, ℕ, ◌<◌, true, List, [], length}
use Rattle.std.proofs.Common.{set, Result, Ok, Err, refl, sym, ap, subst, arith}
use Rattle.std.proofs.lemmas.Bool.{and_parts, eqb-true}
use Rattle.std.proofs.lemmas.List.{get_or-set_same, length-set}
use Rattle.ori_bytes.specs.declared.limits.TheConstants.{FREE_KIND, SLOTS_KIND}
use Rattle.ori_bytes.specs.declared.causes.Causes.{Causes}
use Rattle.ori_page.specs.declared.fault.PageFault.{PageFault}
use Rattle.ori_page.specs.declared.fault.PageFault.TheVariants.{NoMemory, Device, Busy, Damaged, PagesFull}
use Rattle.std.specs.Result.{IsErrAnd}
use Rattle.ori_posmap.specs.Reading.{Caused, KeepsSpace}
use Rattle.ori_page.specs.Pages.{owner_of, kind_of}
use Rattle.ori_page.specs.Spaces.{page_at, IsTaken}
use Rattle.ori_posmap.specs.Maps.{ChangesOwn}
use Rattle.ori_posmap.proofs.Effects.{write_changes, take_changes, changes_then}
use Rattle.ori_cluster.specs.declared.chunk.Link.{Link}
use Rattle.ori_cluster.specs.Slots.{is_slots, IsLone, IsPutAlone}

abbrev pub refused : {T : Type 0} → PageFault → Result T PageFault
refused fault = Err fault

pub slots_owner : (owner : ℕ) (page : List ℕ) → is_slots owner page ≡ true → owner_of page ≡ owner
slots_owner owner page h = eqb-true _ _ (and_parts _ _ (and_parts _ _ (and_parts _ _ h).0).0).0

pub slots_kind : (owner : ℕ) (page : List ℕ) → is_slots owner page ≡ true → kind_of page ≡ SLOTS_KIND
slots_kind owner page h = eqb-true _ _ (and_parts _ _ (and_parts _ _ (and_parts _ _ h).0).0).1

pub slots_used : (owner : ℕ) (page : List ℕ) → is_slots owner page ≡ true → kind_of page ≢ FREE_KIND
slots_used owner page h = λ e. absurd (omega (arith, e, slots_kind owner page h))

pub put_alone : (owner p : ℕ) (next : Link) (bytes content : List ℕ) (before mid : List (List ℕ))
    → IsTaken owner SLOTS_KIND p before mid → IsLone owner next bytes content
    → IsPutAlone owner p next bytes before (set mid p content)
put_alone owner p next bytes content before mid t l =
    let below : p < length mid = omega (arith, t.count) in
    let there : page_at (set mid p content) p ≡ content = get_or-set_same mid p content [] below in
    let used : kind_of (page_at mid p) ≢ FREE_KIND = λ e. absurd (omega (arith, e, ap kind_of t.page)) in
    let write : ChangesOwn (λ q. q ≡ p) 0 mid (set mid p content)
    = write_changes (λ q. q ≡ p) mid p content t.above refl used (slots_used owner content l.slots.slots) in
    record {
      above = t.above;
      below = omega (arith, below, length-set mid p content);
      was_free = t.was_free;
      page = subst (IsLone owner next bytes) (sym there) l;
      changes = changes_then (λ q. ⊥) (λ q. q ≡ p) 1 0 before mid (set mid p content)
          (take_changes owner SLOTS_KIND p before mid (λ e. absurd (omega (arith, e))) t) write
          (λ q low under is e. is (subst (λ (x : ℕ). kind_of (page_at before x) ≡ FREE_KIND) (sym e)
          (t.was_free (subst (λ (x : ℕ). x < length before) e under))));
    }

-- ---- refusals that are passed on

caused_as : (T U : Type 0) (fault : PageFault) (old new : Causes) → Caused (refused {T = T} fault) old new
    → Caused (refused {T = U} fault) old new
caused_as T U NoMemory old new h = h
caused_as T U Device old new h = h
caused_as T U (Busy turn) old new h = h
caused_as T U (Damaged page) old new h = h
caused_as T U PagesFull old new h = h

pub keeps_refused : {S T U : Type 0} (keeps : S → S → Type 0) (count : S → ℕ) (causes : S → Causes) (reads : S → ℕ)
    (most : ℕ) (r : Result U PageFault) (fault : PageFault) (a b : S) → IsErrAnd r (λ y. y ≡ fault)
    → KeepsSpace keeps count causes reads most (refused {T = T} fault) a b
    → KeepsSpace keeps count causes reads most r a b
keeps_refused keeps count causes reads most (Ok x) fault a b h f = absurd h
keeps_refused {T = T} {U = U} keeps count causes reads most (Err y) fault a b h f = record {
  kept = f.kept;
  more = tt;
  caused = subst (λ (z : PageFault). Caused (refused {T = U} z) (causes a) (causes b)) (sym h)
      (caused_as T U fault (causes a) (causes b) f.caused);
  few = f.few;
}
