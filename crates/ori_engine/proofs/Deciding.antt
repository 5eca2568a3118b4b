-- What a commit answers, by what was tested.
use Rattle.std.proofs.Common.{◌≡◌, inl, inr, option_map, ℕ, ◌+◌, List, [], ◌∷◌}
use Rattle.std.proofs.Common.{◌++◌, length, Option, Some, None, Result, Ok, Err, IfErr, refl, sym, ap, ◌∙◌, subst}
use Rattle.std.proofs.Common.{arith}
use Rattle.ori_bytes.specs.declared.rid.Rid.{Rid}
use Rattle.ori_spec_data.specs.Base.{RecordData, TxData}
use Rattle.ori_spec_data.specs.Base.{EntryData, commit, AskedData, asks_commit}
use Rattle.ori_spec_data.specs.Apply.{fresh}
use Rattle.ori_spec_data.specs.Weighing.{entry_bytes, feed_bytes}
use Rattle.ori_spec_data.specs.Refusing.{refusal}
use Rattle.ori_spec_data.proofs.Kept.{fresh_count}
use Rattle.ori_spec_data.specs.Keeping.{OpeningData, DecisionData, refused, accepted, fault, no_memory, IsAsked}
use Rattle.ori_spec_data.specs.Keeping.{IsAllowed, IsGranted, AreFresh, Decides}
use Rattle.ori_model.specs.declared.entry.Entry.{Entry}
use Rattle.ori_model.specs.declared.fault.CommitFault.{CommitFault}
use Rattle.ori_model.specs.Data.{entry_of, entries_of}
use Rattle.ori_engine.specs.declared.doubt.Doubt.{Doubt}
use Rattle.ori_engine.specs.Doubts.{doubt_of, entry_in_doubt}
use Rattle.ori_rows.specs.Rows.{base_with}
use Rattle.ori_rows.proofs.Changed.{length_puts}
use Rattle.ori_table.specs.Data.{outcomes_data}
use Rattle.ori_table.specs.Staged.{rows_with}
use Rattle.ori_engine.specs.declared.prepared.Prepared.{Prepared}
use Rattle.ori_table.specs.Kept.{rows_of}
use Rattle.ori_decide.specs.Told.{Answers}
use Rattle.ori_engine.specs.declared.kept.Kept.{Kept}
use Rattle.ori_engine.specs.States.{state_of, IsAskedOf, IsPrepared, Refuses, IsInside}
use Rattle.ori_engine.proofs.Refusals.{may_refuse}

pub asked : (k : Kept) (what : AskedData) (opening : OpeningData) → IsAskedOf k what
    → IsAsked (state_of k None opening) what
asked k what opening h = record { running = refl; entries = h.entries; bytes = h.bytes }

pub stage_refuses : (T : Type 0) (k : Kept) (session : ℕ) (tx : TxData) (result : Result T CommitFault)
    → IsAskedOf k (asks_commit tx) → Answers {T = T} (refusal (base_with (rows_of k.table.0)) tx) result
    → IfErr result (Refuses k None session (asks_commit tx))
stage_refuses T k session tx (Ok x) h answers = tt
stage_refuses T k session tx (Err why) h (inl none) = record {
  decides = λ opening.
      subst (λ (d : DecisionData). Decides (state_of k None opening) session (asks_commit tx) d
      (state_of k None opening))
      (sym none) refl;
  no_fault = λ is. let both : no_memory ≡ fault = sym none ∙ is in absurd (cc both);
  inside = subst IsInside (sym none) tt;
}
stage_refuses T k session tx (Err why) h (inr (w, e, t)) = record {
  decides = λ opening.
      subst (λ (d : DecisionData). Decides (state_of k None opening) session (asks_commit tx) d
      (state_of k None opening)) (sym t)
      (asked k (asks_commit tx) opening h, e, may_refuse (base_with (rows_of k.table.0)) tx w e, refl);
  no_fault = λ is. let both : refused w ≡ fault = sym t ∙ is in absurd (cc both);
  inside = subst IsInside (sym t) tt;
}

pub feed_more : (xs : List EntryData) (x : EntryData) → feed_bytes (xs ++ x ∷ []) ≡ feed_bytes xs + entry_bytes x
feed_more [] x = omega arith
feed_more (y ∷ xs) x = let rest = feed_more xs x in omega (arith, rest)

pub entries_more : (xs : List Entry) (x : Entry) → entries_of (xs ++ x ∷ []) ≡ entries_of xs ++ entry_of x ∷ []
entries_more [] x = refl
entries_more (y ∷ xs) x = ap (λ (l : List EntryData). entry_of y ∷ l) (entries_more xs x)

-- ---- what was prepared

-- these are the identifiers of the new records, one for each
pub are_fresh : (k : Kept) (tx : TxData) (rids : List Rid) (opening : OpeningData)
    → rids ≡ fresh (base_with (rows_of k.table.0)) tx → AreFresh (state_of k None opening) (asks_commit tx) rids
are_fresh k tx rids opening h = (
  ap length h ∙ fresh_count (base_with (rows_of k.table.0)).schema.classes (base_with
      (rows_of k.table.0)).next tx.changes,
  h,
)

pub allowed : (k : Kept) (session : ℕ) (tx : TxData) (p : Prepared) (opening : OpeningData) → IsPrepared k session tx p
    → IsAllowed (state_of k None opening) (asks_commit tx)
allowed k session tx p opening h = record {
  asked_is = asked k (asks_commit tx) opening h.asked;
  allowed = (h.staged).allowed;
  pages = omega (
    arith,
    (h.staged).room,
    (h.staged).light,
    length_puts (rows_of k.table.0)
        (outcomes_data p.staged.outcomes.items),
  );
}

pub granted : (k : Kept) (session : ℕ) (tx : TxData) (p : Prepared) (opening : OpeningData) → IsPrepared k session tx p
    → IsGranted (state_of k None opening) (asks_commit tx)
granted k session tx p opening h = record { allowed = allowed k session tx p opening h; room = tt }

-- it was accepted
pub accepts : (old new : Kept) (session : ℕ) (tx : TxData) (p : Prepared) (opening : OpeningData)
    → IsPrepared old session tx p → rows_of new.table.0 ≡ rows_with (rows_of old.table.0) p.staged
    → entries_of new.feed.items ≡ entries_of old.feed.items ++ entry_of p.entry ∷ []
    → length new.feed.items ≡ length old.feed.items + 1 → new.doubt ≡ old.doubt
    → Decides (state_of old None opening) session (asks_commit tx) (accepted (length old.feed.items) p.fresh)
    (state_of new None opening)
accepts old new session tx p opening h rows feed front doubt = (
  granted old session tx p opening h,
  refl,
  are_fresh old tx p.fresh opening h.fresh_is,
  record {
    base = ap (λ (l : List (Option RecordData)). Some (base_with l)) rows ∙ ap Some (h.staged).made;
    feed = ap Some (feed ∙ ap (λ (e : EntryData). entries_of old.feed.items ++ e ∷ []) (h.entry_is ∙ ap (λ
        (rids : List Rid). commit session tx rids) (sym h.fresh_is)));
    limit = refl;
    in_use = omega (arith, ap length rows, (h.staged).in_use);
    front = front;
    halted = refl;
    doubt = ap (λ (o : Option Doubt). entry_in_doubt (option_map doubt_of o)) doubt;
    opening = refl;
  },
)
