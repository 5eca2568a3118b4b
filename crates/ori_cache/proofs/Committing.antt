-- What a commit of an operation's pages leaves: what was changed is other, and the tail's records are counted.
use Rattle.std.proofs.Common.{◌≡◌, ◌≢◌, ◌<◌, ℕ, Bool, true, false, List, [], ◌∷◌, length, Option, Some, None, IfSome}
use Rattle.std.proofs.Common.{IsErrOf, Result, Ok, Err, is_some, slice_index_or, refl, sym, ap, ◌∙◌, subst, arith}
use Rattle.std.proofs.Common.{true≢false}
use Rattle.ori_log.specs.Log.{ImageData}
use Rattle.ori_log.specs.declared.log.Log.{Log}
use Rattle.ori_pool.specs.declared.fault.OpFault.{OpFault}
use Rattle.ori_pool.specs.declared.fault.OpFault.TheVariants.{Fault, Halted, Busy, NoMemory}
use Rattle.ori_turns.specs.declared.known.Known.{Known}
use Rattle.ori_turns.specs.Seats.{Last}
use Rattle.ori_turns.specs.Caches.{Cache}
use Rattle.ori_turns.specs.Committed.{CommitsCache, IfDone}
use Rattle.ori_turns.specs.Knowing.{Knows}
use Rattle.ori_overlay.specs.Over.{AreChanged, IsChanged}

-- ---- pages that were changed

not_itself : (base : List (List ℕ)) (page : ℕ) → IsChanged base base page → ⊥
not_itself base page is = is.1 is.0 refl

none_changed : (base : List (List ℕ)) (numbers : List ℕ) (changes : ℕ) → length numbers ≡ changes → 0 < changes
    → ((page : ℕ) → (k : ℕ) × (k < length numbers) × (slice_index_or numbers k page ≡ page) → IsChanged base base page)
    → ⊥
none_changed base [] changes is some each = omega (arith, is, some)
none_changed base (n ∷ ns) changes is some each = not_itself base n (each n (0, omega arith, refl))

-- some are others, so all of them are
pub are_others : (base put : List (List ℕ)) (changes : ℕ) → AreChanged base put changes → 0 < changes → put ≢ base
are_others base put changes are some same =
    let own = subst (λ (l : List (List ℕ)). AreChanged base l changes) same are in
    none_changed base own.numbers changes own.count some (λ page has. (own.each page).0 has)

-- ---- records that are counted

tail_same : (log : Option Log) (m n : ℕ) → is_some log ≡ true → IfSome log (λ (l : Log). m ≡ l.tail)
    → IfSome log (λ (l : Log). n ≡ l.tail) → n ≡ m
tail_same None m n is one two = absurd (true≢false (sym is))
tail_same (Some log) m n is one two = two ∙ sym one

-- where the device is as it was, as much is known of it
pub known_same : (last : Last) (old new : Known) → is_some last.log ≡ true → Knows last old → Knows last new
    → (new.tail ≡ old.tail) × (new.halted ≡ old.halted)
known_same last old new is was now =
    (tail_same last.log old.tail new.tail is was.tail now.tail, now.halted ∙ sym was.halted)

pub counted_after : (result : Result ℕ OpFault) (images : List ImageData) (due : Bool) (put : List (List ℕ))
    (before after : Cache) (was now : Last) (old new : Known) → CommitsCache images due put result before after
    → IfDone result (λ done. new.halted ≡ None → length after.records ≡ new.tail)
    → ((turn : ℕ) → IsErrOf result (Busy turn) → now ≡ was) → is_some was.log ≡ true → Knows was old → Knows now new
    → (old.halted ≡ None → length before.records ≡ old.tail)
    → new.halted ≡ None → length after.records ≡ new.tail
counted_after (Ok value) images due put before after was now old new did done same is one two counted going = done going
counted_after (Err (Fault doubt)) images due put before after was now old new did done same is one two counted going =
    done going
counted_after (Err (Halted at_fault)) images due put before after was now old new did done same is one two counted
    going = done going
counted_after (Err (Busy turn)) images due put before after was now old new did done same is one two counted going =
    let known = known_same was old new is one (subst (λ (l : Last). Knows l new) (same turn refl) two) in
    ap length did.records ∙ counted (sym known.1 ∙ going) ∙ sym known.0
counted_after (Err NoMemory) images due put before after was now old new did done same is one two counted going =
    done going
