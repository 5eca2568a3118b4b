use Rattle.std.proofs.Common.{◌≡◌, ℕ, List, length, map, None, Err, ap, ◌∙◌, subst}
use Rattle.std.proofs.lemmas.Result.{err_from_is_err_and}
use Rattle.ori_bytes.specs.declared.rid.Rid.{Rid}
use Rattle.ori_spec_data.specs.Apply.{renamings, fresh_of, next_after, full_cluster}
use Rattle.ori_spec_data.specs.Weighing.{weight}
use Rattle.ori_spec_data.specs.Refusing.{first_refused, conflict_of, broken_by, too_large_of, full_of, too_heavy}
use Rattle.ori_spec_data.specs.Refusing.{refusal}
use Rattle.ori_spec_data.proofs.Kept.{length_after}
use Rattle.ori_model.specs.declared.change.Change.{Change}
use Rattle.ori_model.specs.Data.{class_of, change_of, tx_of}
use Rattle.ori_decide.specs.declared.deciding.Decided.{Decided}
use Rattle.ori_decide.specs.declared.writing.Work.{Work}
use Rattle.ori_decide.specs.Deciding.{base_over, IsWork}
use Rattle.ori_decide.specs.Told.{Answers}
use Rattle.ori_decide.proofs.Answering.{answers_as}
use Rattle.ori_decide.proofs.Decisions.{can_write_all, by_rules, by_sizes, by_room, by_weight}
use Rattle.ori_decide.proofs.deciding.decide.Goals as goal

pub returns-in_err-check_rules-clause-answers : goal.returns-in_err-check_rules-clause-answers
returns-in_err-check_rules-clause-answers g c =
    let stored = g.R.Records.stored c.args.records.now in
    let classes = map class_of c.args.classes.now in
    let tx = tx_of c.args.tx.now in
    let base = base_over classes c.args.next.now stored in
    let given = err_from_is_err_and c.from_residual-in_err-check_rules.result
    c.from_residual-in_err-check_rules.ensures.1 in
    let a = subst (λ (l : List Change). first_refused (conflict_of stored) (map change_of l) ≡ None)
    c.as_slice-changes.ensures c.in_ok-check_conflicts.ensures in
    let b = subst (λ (l : List Change). Answers {T = Unit {0}} (first_refused (broken_by classes (map change_of l))
    (map change_of l))
    (Err c.in_err-check_rules.field-0.0)) c.as_slice-changes.ensures c.in_err-check_rules.ensures in
    answers_as Decided (refusal base tx) c.from_residual-in_err-check_rules.result given.0
    c.in_err-check_rules.field-0.0
    given.1 given.2 (by_rules (Unit {0}) Decided _ _ _ c.in_err-check_rules.field-0.0 a b)

pub write_all-requires : goal.write_all-requires
write_all-requires g c =
    let changes = map change_of c.as_slice-changes.result.now in
    can_write_all (map class_of c.args.classes.now) (g.R.Records.stored c.args.records.now) changes changes
    c.in_ok-check_conflicts.ensures c.in_ok-check_rules.ensures

pub returns-in_err-work-clause-answers : goal.returns-in_err-work-clause-answers
returns-in_err-work-clause-answers g c =
    let stored = g.R.Records.stored c.args.records.now in
    let classes = map class_of c.args.classes.now in
    let tx = tx_of c.args.tx.now in
    let base = base_over classes c.args.next.now stored in
    let given = err_from_is_err_and c.from_residual-in_err-work.result c.from_residual-in_err-work.ensures.1 in
    let a = subst (λ (l : List Change). first_refused (conflict_of stored) (map change_of l) ≡ None)
    c.as_slice-changes.ensures c.in_ok-check_conflicts.ensures in
    let b = subst (λ (l : List Change). first_refused (broken_by classes (map change_of l)) (map change_of l) ≡ None)
    c.as_slice-changes.ensures c.in_ok-check_rules.ensures in
    let d = subst (λ (ps : List (Rid × Rid)). Answers {T = Work} (first_refused (too_large_of stored ps)
    (map change_of c.as_slice-changes.result.now)) (Err c.in_err-work.field-0.0)) c.in_ok-given.ensures.pairs
    c.in_err-work.ensures.answers in
    let e = subst (λ (l : List Change). Answers {T = Work} (first_refused (too_large_of stored (renamings (map
    change_of l)
    (fresh_of classes c.args.next.now (map change_of l)))) (map change_of l)) (Err c.in_err-work.field-0.0))
    c.as_slice-changes.ensures d in
    answers_as Decided (refusal base tx) c.from_residual-in_err-work.result given.0 c.in_err-work.field-0.0
    given.1 given.2 (by_sizes Work Decided _ _ _ _ c.in_err-work.field-0.0 a b e)

pub check_room-requires-clause-counted : goal.check_room-requires-clause-counted
check_room-requires-clause-counted g c =
    let changes = map change_of c.as_slice-changes.result.now in
    ap (λ (ns : List ℕ). length ns) (c.as_slice.ensures.value ∙ c.in_ok-given.ensures.after)
    ∙ length_after (map class_of c.args.classes.now) c.args.next.now changes ∙ c.requires.counted

pub returns-in_err-check_room-clause-answers : goal.returns-in_err-check_room-clause-answers
returns-in_err-check_room-clause-answers g c =
    let stored = g.R.Records.stored c.args.records.now in
    let classes = map class_of c.args.classes.now in
    let tx = tx_of c.args.tx.now in
    let base = base_over classes c.args.next.now stored in
    let given = err_from_is_err_and c.from_residual-in_err-check_room.result
    c.from_residual-in_err-check_room.ensures.1 in
    let a = subst (λ (l : List Change). first_refused (conflict_of stored) (map change_of l) ≡ None)
    c.as_slice-changes.ensures c.in_ok-check_conflicts.ensures in
    let b = subst (λ (l : List Change). first_refused (broken_by classes (map change_of l)) (map change_of l) ≡ None)
    c.as_slice-changes.ensures c.in_ok-check_rules.ensures in
    let d = subst (λ (ps : List (Rid × Rid)). first_refused (too_large_of stored ps)
    (map change_of c.as_slice-changes.result.now) ≡ None) c.in_ok-given.ensures.pairs c.in_ok-work.ensures.answers in
    let e = subst (λ (l : List Change). first_refused (too_large_of stored (renamings (map change_of l)
    (fresh_of classes c.args.next.now (map change_of l)))) (map change_of l) ≡ None) c.as_slice-changes.ensures d in
    let f = subst (λ (ns : List ℕ). Answers {T = Unit {0}} (full_of (full_cluster 1 ns)) (Err
    c.in_err-check_room.field-0.0))
    (c.as_slice.ensures.value ∙ c.in_ok-given.ensures.after) c.in_err-check_room.ensures in
    let h = subst (λ (l : List Change). Answers {T = Unit {0}} (full_of (full_cluster 1 (next_after classes
    c.args.next.now
    (map change_of l)))) (Err c.in_err-check_room.field-0.0)) c.as_slice-changes.ensures f in
    answers_as Decided (refusal base tx) c.from_residual-in_err-check_room.result given.0 c.in_err-check_room.field-0.0
    given.1 given.2 (by_room (Unit {0}) Decided _ _ _ _ _ c.in_err-check_room.field-0.0 a b e h)

pub returns-in_err-check_weight-clause-answers : goal.returns-in_err-check_weight-clause-answers
returns-in_err-check_weight-clause-answers g c =
    let stored = g.R.Records.stored c.args.records.now in
    let classes = map class_of c.args.classes.now in
    let tx = tx_of c.args.tx.now in
    let base = base_over classes c.args.next.now stored in
    let given = err_from_is_err_and c.from_residual-in_err-check_weight.result
    c.from_residual-in_err-check_weight.ensures.1 in
    let a = subst (λ (l : List Change). first_refused (conflict_of stored) (map change_of l) ≡ None)
    c.as_slice-changes.ensures c.in_ok-check_conflicts.ensures in
    let b = subst (λ (l : List Change). first_refused (broken_by classes (map change_of l)) (map change_of l) ≡ None)
    c.as_slice-changes.ensures c.in_ok-check_rules.ensures in
    let d = subst (λ (ps : List (Rid × Rid)). first_refused (too_large_of stored ps)
    (map change_of c.as_slice-changes.result.now) ≡ None) c.in_ok-given.ensures.pairs c.in_ok-work.ensures.answers in
    let e = subst (λ (l : List Change). first_refused (too_large_of stored (renamings (map change_of l)
    (fresh_of classes c.args.next.now (map change_of l)))) (map change_of l) ≡ None) c.as_slice-changes.ensures d in
    let f = subst (λ (ns : List ℕ). full_of (full_cluster 1 ns) ≡ None)
    (c.as_slice.ensures.value ∙ c.in_ok-given.ensures.after) c.in_ok-check_room.ensures in
    let h = subst (λ (l : List Change). full_of (full_cluster 1 (next_after classes c.args.next.now (map change_of l)))
    ≡ None)
    c.as_slice-changes.ensures f in
    let pairs = subst (λ (l : List Change). c.in_ok-given.given.pairs ≡ renamings (map change_of l)
    (fresh_of classes c.args.next.now (map change_of l))) c.as_slice-changes.ensures c.in_ok-given.ensures.pairs in
    let weighs = subst (λ (l : List Change). IsWork c.in_ok-given.given.pairs stored (map change_of l)
    c.in_ok-work.work)
    c.as_slice-changes.ensures c.in_ok-work.ensures.work in
    let work = subst (λ (ps : List (Rid × Rid)). IsWork ps stored tx.changes c.in_ok-work.work) pairs weighs in
    let heavy : c.in_ok-work.work.weight ≡ weight base tx = work.weighs in
    let k = subst (λ (n : ℕ). Answers {T = Unit {0}} (too_heavy n) (Err c.in_err-check_weight.field-0.0)) heavy
    c.in_err-check_weight.ensures in
    answers_as Decided (refusal base tx) c.from_residual-in_err-check_weight.result given.0
    c.in_err-check_weight.field-0.0
    given.1 given.2 (by_weight (Unit {0}) Decided _ _ _ _ _ c.in_err-check_weight.field-0.0 a b e h k)
