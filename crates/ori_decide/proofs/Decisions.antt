-- A decision, a step at a time.
use Rattle.std.proofs.Common.{◌≡◌, ℕ, zero, suc, ◌+◌, ◌-◌, ◌^◌, ◌<◌, ◌≤◌, ℤ, pos, negsuc, true, cond, List}
use Rattle.std.proofs.Common.{[], ◌∷◌, ◌++◌, map, length, take, drop, drop-cons, add-one, get_or, Option, Some, None}
use Rattle.std.proofs.Common.{Err, refl, sym, ap, ◌∙◌, subst, arith, inl, inr, ◌==◌}
use Rattle.std.specs.Prelude.{option_map}
use Rattle.std.specs.List.{AllByRecursion}
use Rattle.std.proofs.lemmas.List.{take_more, map-append}
use Rattle.std.proofs.lemmas.Bool.{lt-ltb, le-ltb, eq-eqb, eqb-true}
use Rattle.ori_bytes.specs.declared.rid.Rid.{Rid}
use Rattle.ori_bytes.specs.declared.limits.TheConstants.{MAX_POSITIONS}
use Rattle.ori_spec_data.specs.Base.{ClassData, RecordData, ChangeData, create, update, delete, touch}
use Rattle.ori_spec_data.specs.Records.{record_at}
use Rattle.ori_spec_data.specs.Apply.{full_cluster}
use Rattle.ori_spec_data.specs.Keeping.{creations}
use Rattle.ori_spec_data.specs.Weighing.{change_weight, changes_weight, weight}
use Rattle.ori_spec_data.specs.Refusing.{CommitRefusalData, conflict, breaks, record_too_large, cluster_full}
use Rattle.ori_spec_data.specs.Refusing.{tx_too_large, or_else, is_version, conflict_of, dangling_of, end_of, broken_by}
use Rattle.ori_spec_data.specs.Refusing.{first_refused}
use Rattle.ori_spec_data.specs.Soundness.{AreClasses}
use Rattle.ori_spec_data.proofs.Rids.{not_both}
use Rattle.ori_spec_data.proofs.Kept.{or_none, passed, not_refused}
use Rattle.ori_model.specs.declared.change.Change.{Change}
use Rattle.ori_model.specs.declared.schema.Class.{Class}
use Rattle.ori_model.specs.declared.fault.CommitFault.{CommitFault}
use Rattle.ori_model.specs.declared.fault.CommitFault.TheVariants.{Halted, FeedFull, Conflict, Schema, RecordTooLarge}
use Rattle.ori_model.specs.declared.fault.CommitFault.TheVariants.{KeyTooLong, Duplicate, ClusterFull, TxTooLarge}
use Rattle.ori_model.specs.declared.fault.CommitFault.TheVariants.{PagesFull, LogFull, Fault, Device, Busy, Damaged}
use Rattle.ori_model.specs.declared.fault.CommitFault.TheVariants.{NoMemory}
use Rattle.ori_model.specs.declared.fault.Rule.{Rule}
use Rattle.ori_model.specs.declared.fault.Rule.TheVariants.{NoClass, Ends, Temporary, VersionEnd, OfKind, Mandatory}
use Rattle.ori_model.specs.declared.fault.Rule.TheVariants.{NotNull, Readonly, Min, Max}
use Rattle.ori_model.specs.declared.reply.Refusal.{Refusal}
use Rattle.ori_model.specs.Refusals.{rule_for, refusal_for}
use Rattle.ori_decide.specs.Steps.{refusal_told}
use Rattle.ori_model.specs.Data.{natural, class_of, change_of, rule_of}
use Rattle.ori_decide.specs.Deciding.{writes}
use Rattle.ori_decide.specs.Leaving.{CanRise, CanLeaveFound, CanWrite}
use Rattle.ori_decide.specs.Renaming.{unnamed}
use Rattle.ori_decide.specs.Told.{Answers}
use Rattle.ori_decide.proofs.Answering.{answers_first, answers_rest}

-- ---- a name for each creation

pub unnamed_count : (cs : List ChangeData) → length (unnamed cs) ≡ creations cs
unnamed_count [] = refl
unnamed_count (create temp class fields ∷ cs) = omega (arith, unnamed_count cs)
unnamed_count (update a b e ∷ cs) = unnamed_count cs
unnamed_count (delete a b ∷ cs) = unnamed_count cs
unnamed_count (touch a b ∷ cs) = unnamed_count cs

-- ---- what changes write

pub can_at : (stored : List RecordData) (xs : List Change) (i : ℕ) (x : Change) → i < length xs → x ≡ get_or xs i x
    → AllByRecursion (CanWrite stored) (map change_of xs) → CanWrite stored (change_of x)
can_at stored [] i x lt is h = absurd (omega arith)
can_at stored (y ∷ xs) zero x lt is h = subst (λ (z : Change). CanWrite stored (change_of z)) (sym is) h.0
can_at stored (y ∷ xs) (suc i) x lt is h = can_at stored xs i x (omega arith) is h.1

pub written_step : (ps : List (Rid × Rid)) (stored : List RecordData) (xs : List Change) (i : ℕ) (x : Change)
    (old new : List (Rid × Option RecordData)) (one : Rid × Option RecordData) → i < length xs → x ≡ get_or xs i x
    → old ≡ map (writes ps stored) (map change_of (take i xs)) → new ≡ old ++ one ∷ []
    → one ≡ writes ps stored (change_of x) → new ≡ map (writes ps stored) (map change_of (take (i + 1) xs))
written_step ps stored xs i x old new one lt is e f g =
    rw (
      take_more xs i x lt,
      ← is,
      map-append change_of (take i xs) (x ∷ []),
      map-append (writes ps stored) (map change_of (take i xs)) (change_of x ∷ []),
      ← e,
      ← g,
    ) f

weight_last : (stored : List RecordData) (ps : List (Rid × Rid)) (cs : List ChangeData) (c : ChangeData)
    → changes_weight stored ps (cs ++ c ∷ []) ≡ changes_weight stored ps cs + change_weight stored ps c
weight_last stored ps [] c = omega arith
weight_last stored ps (d ∷ cs) c = omega (arith, weight_last stored ps cs c)

pub weight_step : (stored : List RecordData) (ps : List (Rid × Rid)) (xs : List Change) (i : ℕ) (x : Change)
    (first old new one : ℕ) → i < length xs → x ≡ get_or xs i x
    → old ≡ first + changes_weight stored ps (map change_of (take i xs)) → new ≡ old + one
    → one ≡ change_weight stored ps (change_of x) → new ≡ first + changes_weight stored ps (map change_of (take (i + 1)
    xs))
weight_step stored ps xs i x first old new one lt is e f g =
    rw (take_more xs i x lt, ← is, map-append change_of (take i xs) (x ∷ []))
    (omega (arith, weight_last stored ps (map change_of (take i xs)) (change_of x)))

-- ---- what may be written

rises : (rid : Rid) (version : ℕ) (o : Option RecordData)
    → cond (is_version version (option_map (λ (s : RecordData). s.version) o)) None (Some (conflict rid version
    (option_map (λ (s : RecordData). s.version) o))) ≡ None
    → end_of rid version ≡ None → (r : RecordData) → o ≡ Some r → CanRise r
rises rid version None h k r e = absurd cc
rises rid version (Some s) h k r e =
    let found : (s.version == version) ≡ true = passed (s.version == version) _ h in
    let same : s.version ≡ version = eqb-true s.version version found in
    let one : s ≡ r = cc in
    λ at. not_both (version == 2 ^ 32 - 1)
    (eq-eqb version (2 ^ 32 - 1) (sym same ∙ ap (λ (x : RecordData). x.version) one
    ∙ at)) (not_refused (version == 2 ^ 32 - 1) _ k)

if_found : (c : ChangeData) (o : Option RecordData) → ((r : RecordData) → o ≡ Some r → CanRise r)
    → ((r : RecordData) → CanRise r → CanLeaveFound c (Some r)) → CanLeaveFound c o
if_found c None h k = tt
if_found c (Some r) h k = k r (h r refl)

can_leave : (c : ChangeData) (o : Option RecordData) → ((r : RecordData) → CanLeaveFound c (Some r)) → CanLeaveFound c o
can_leave c None k = tt
can_leave c (Some r) k = k r

can_one : (classes : List ClassData) (stored : List RecordData) (all : List ChangeData) (c : ChangeData)
    → conflict_of stored c ≡ None → broken_by classes all c ≡ None → CanWrite stored c
can_one classes stored all (create temp class fields) h k = tt
can_one classes stored all (update rid version fields) h k =
    if_found (update rid version fields) (record_at stored rid)
    (rises rid version (record_at stored rid) h (or_none (dangling_of all rid fields) (end_of rid version) k).1) (λ r
    x. x)
can_one classes stored all (delete rid version) h k = can_leave (delete rid version) (record_at stored rid) (λ r. tt)
can_one classes stored all (touch rid version) h k =
    if_found (touch rid version) (record_at stored rid) (rises rid version (record_at stored rid) h k) (λ r x. x)

pub can_write_all : (classes : List ClassData) (stored : List RecordData) (all cs : List ChangeData)
    → first_refused (conflict_of stored) cs ≡ None → first_refused (broken_by classes all) cs ≡ None
    → AllByRecursion (CanWrite stored) cs
can_write_all classes stored all [] h k = tt
can_write_all classes stored all (c ∷ cs) h k =
    let p = or_none (conflict_of stored c) (first_refused (conflict_of stored) cs) h in
    let q = or_none (broken_by classes all c) (first_refused (broken_by classes all) cs) k in
    (can_one classes stored all c p.0 q.0, can_write_all classes stored all cs p.1 q.1)

-- ---- clusters without room

cluster_at : (low : ℕ) (xs : List Class) (i : ℕ) (x : Class) → i < length xs → x ≡ get_or xs i x
    → AreClasses low (map class_of xs) → natural x.cluster ≡ low + i
cluster_at low [] i x lt is h = absurd (omega arith)
cluster_at low (y ∷ xs) zero x lt is h = rw is (omega (arith, h.0))
cluster_at low (y ∷ xs) (suc i) x lt is h = omega (arith, cluster_at (suc low) xs i x (omega arith) is h.2)

as_pos : (z : ℤ) (n : ℕ) → natural z ≡ 1 + n → z ≡ pos (n + 1)
as_pos (pos m) n e = ap pos (omega arith)
as_pos (negsuc m) n e = absurd (omega arith)

pub length_classes : (xs : List Class) → length (map class_of xs) ≡ length xs
length_classes [] = refl
length_classes (x ∷ xs) = ap suc (length_classes xs)

pub full_step : (next : List ℕ) (i : ℕ) → i < length next → get_or next i 0 ≤ MAX_POSITIONS
    → full_cluster 1 next ≡ full_cluster (i + 1) (drop i next)
    → full_cluster 1 next ≡ full_cluster (i + 1 + 1) (drop (i + 1) next)
full_step next i lt few h = h ∙ rw (drop-cons next i 0, le-ltb MAX_POSITIONS (get_or next i 0) few, add-one, add-one)
    refl

pub full_hit : (classes : List Class) (next : List ℕ) (i : ℕ) (x : Class) (z : ℤ) → z ≡ x.cluster
    → i < length classes → i < length next → x ≡ get_or classes i x → AreClasses 1 (map class_of classes)
    → MAX_POSITIONS < get_or next i 0 → full_cluster 1 next ≡ full_cluster (i + 1) (drop i next)
    → Some z ≡ option_map (λ (n : ℕ). pos n) (full_cluster 1 next)
full_hit classes next i x z same lt lt' is are many h =
    let at : full_cluster (i + 1) (drop i next) ≡ Some (i + 1) =
    rw (drop-cons next i 0, lt-ltb MAX_POSITIONS (get_or next i 0) many) refl in
    rw (h, at, same, as_pos x.cluster i (cluster_at 1 classes i x lt is are)) refl

-- ---- the order of the causes

pub by_rules : (S T : Type 0) (a b rest : Option CommitRefusalData) (fault : CommitFault) → a ≡ None
    → Answers {T = S} b (Err fault) → Answers {T = T} (or_else a (or_else b rest)) (Err fault)
by_rules S T a b rest fault none h =
    answers_rest {T = T} a (or_else b rest) (or_else a (or_else b rest)) (Err fault) refl none
    (answers_first S T b (or_else b rest) rest fault refl h)

pub by_sizes : (S T : Type 0) (a b d rest : Option CommitRefusalData) (fault : CommitFault) → a ≡ None → b ≡ None
    → Answers {T = S} d (Err fault) → Answers {T = T} (or_else a (or_else b (or_else d rest))) (Err fault)
by_sizes S T a b d rest fault none none2 h =
    answers_rest {T = T} a (or_else b (or_else d rest)) (or_else a (or_else b (or_else d rest))) (Err fault) refl none
    (by_rules S T b d rest fault none2 h)

pub by_room : (S T : Type 0) (a b d e rest : Option CommitRefusalData) (fault : CommitFault) → a ≡ None → b ≡ None
    → d ≡ None → Answers {T = S} e (Err fault)
    → Answers {T = T} (or_else a (or_else b (or_else d (or_else e rest)))) (Err fault)
by_room S T a b d e rest fault none none2 none3 h =
    answers_rest {T = T} a (or_else b (or_else d (or_else e rest))) (or_else a (or_else b (or_else d (or_else e rest))))
    (Err fault) refl none (by_sizes S T b d e rest fault none2 none3 h)

pub by_weight : (S T : Type 0) (a b d e f : Option CommitRefusalData) (fault : CommitFault) → a ≡ None → b ≡ None
    → d ≡ None → e ≡ None → Answers {T = S} f (Err fault)
    → Answers {T = T} (or_else a (or_else b (or_else d (or_else e f)))) (Err fault)
by_weight S T a b d e f fault none none2 none3 none4 h =
    answers_rest {T = T} a (or_else b (or_else d (or_else e f))) (or_else a (or_else b (or_else d (or_else e f))))
    (Err fault) refl none (answers_rest {T = T} b (or_else d (or_else e f)) (or_else b (or_else d (or_else e f)))
    (Err fault) refl none2 (answers_rest {T = T} d (or_else e f) (or_else d (or_else e f)) (Err fault) refl none3
    (answers_rest {T = T} e f (or_else e f) (Err fault) refl none4 h)))

-- ---- what a statement tells of a refusal

rule_back : (rule : Rule) → rule_for (rule_of rule) ≡ rule
rule_back NoClass = refl
rule_back Ends = refl
rule_back Temporary = refl
rule_back VersionEnd = refl
rule_back OfKind = refl
rule_back Mandatory = refl
rule_back NotNull = refl
rule_back Readonly = refl
rule_back Min = refl
rule_back Max = refl

pub told_is : (T : Type 0) (fault : CommitFault) (r : Refusal) (why : Option CommitRefusalData)
    → refusal_told fault ≡ Some r
    → Answers {T = T} why (Err fault) → Some r ≡ option_map refusal_for why
told_is T (Conflict rid expected found) r why e (inl h) = absurd (cc)
told_is T (Conflict rid expected found) r why e (inr (w, f, g)) =
    let is : w ≡ conflict rid expected found = cc in rw (f, is) (sym e)
told_is T (Schema rid property rule) r why e (inl h) = absurd (cc)
told_is T (Schema rid property rule) r why e (inr (w, f, g)) =
    let is : w ≡ breaks rid property (rule_of rule) = cc in rw (f, is, rule_back rule) (sym e)
told_is T (RecordTooLarge rid bytes) r why e (inl h) = absurd (cc)
told_is T (RecordTooLarge rid bytes) r why e (inr (w, f, g)) =
    let is : w ≡ record_too_large rid bytes = cc in rw (f, is) (sym e)
told_is T (ClusterFull cluster) r why e (inl h) = absurd (cc)
told_is T (ClusterFull cluster) r why e (inr (w, f, g)) =
    let is : w ≡ cluster_full cluster = cc in rw (f, is) (sym e)
told_is T (TxTooLarge weight) r why e (inl h) = absurd (cc)
told_is T (TxTooLarge weight) r why e (inr (w, f, g)) =
    let is : w ≡ tx_too_large weight = cc in rw (f, is) (sym e)
told_is T (Halted at) r why e h = absurd (cc)
told_is T (FeedFull entries bytes) r why e h = absurd (cc)
told_is T (KeyTooLong index rid bytes) r why e h = absurd (cc)
told_is T (Duplicate index one other) r why e h = absurd (cc)
told_is T (PagesFull in_use weight) r why e h = absurd (cc)
told_is T (LogFull need room) r why e h = absurd (cc)
told_is T Fault r why e h = absurd (cc)
told_is T Device r why e h = absurd (cc)
told_is T (Busy turn) r why e h = absurd (cc)
told_is T (Damaged page) r why e h = absurd (cc)
told_is T NoMemory r why e h = absurd (cc)
