-- Refusals in their order, a change at a time.
use Rattle.std.proofs.Common.{◌≡◌, ℕ, ◌+◌, ◌<◌, ◌≤◌, List, length, drop, get_or, map, Option, None, Result, Err, refl}
use Rattle.std.proofs.Common.{sym, ap, ◌∙◌, subst, inl, inr, drop-cons, add-one}
use Rattle.std.proofs.lemmas.List.{drop_all}
use Rattle.ori_spec_data.specs.Base.{ChangeData}
use Rattle.ori_spec_data.specs.Refusing.{CommitRefusalData, or_else, first_refused}
use Rattle.ori_model.specs.declared.change.Change.{Change}
use Rattle.ori_model.specs.declared.fault.CommitFault.{CommitFault}
use Rattle.ori_model.specs.Data.{change_of}
use Rattle.ori_decide.specs.Told.{Answers}

pub answers_first : (S T : Type 0) (a whole : Option CommitRefusalData) (rest : Option CommitRefusalData)
    (fault : CommitFault) → whole ≡ or_else a rest → Answers {T = S} a (Err fault) → Answers {T = T} whole (Err fault)
answers_first S T a whole rest why is (inl none) = inl none
answers_first S T a whole rest why is (inr (w, e, t)) =
    inr (w, is ∙ ap (λ (o : Option CommitRefusalData). or_else o rest) e, t)

pub answers_rest : {T : Type 0} (a b whole : Option CommitRefusalData) (result : Result T CommitFault)
    → whole ≡ or_else a b → a ≡ None → Answers b result → Answers whole result
answers_rest a b whole result is none h =
    let same : whole ≡ b = is ∙ ap (λ (o : Option CommitRefusalData). or_else o b) none in
    subst (λ (o : Option CommitRefusalData). Answers o result) (sym same) h

refused_step : (f : ChangeData → Option CommitRefusalData) (xs : List Change) (i : ℕ) (x : Change) → i < length xs
    → x ≡ get_or xs i x → first_refused f (map change_of (drop i xs))
    ≡ or_else (f (change_of x)) (first_refused f (map change_of (drop (i + 1) xs)))
refused_step f xs i x lt is = rw (drop-cons xs i x, ← is, add-one) refl

pub refused_on : (f : ChangeData → Option CommitRefusalData) (whole : Option CommitRefusalData) (xs : List Change)
    (i : ℕ) (x : Change) → i < length xs → x ≡ get_or xs i x → whole ≡ first_refused f (map change_of (drop i xs))
    → f (change_of x) ≡ None → whole ≡ first_refused f (map change_of (drop (i + 1) xs))
refused_on f whole xs i x lt is e none =
    e ∙ refused_step f xs i x lt is
    ∙ ap (λ (o : Option CommitRefusalData). or_else o (first_refused f (map change_of (drop (i + 1) xs)))) none

pub refused_end : (f : ChangeData → Option CommitRefusalData) (whole : Option CommitRefusalData) (xs : List Change)
    (i : ℕ) → length xs ≤ i → whole ≡ first_refused f (map change_of (drop i xs)) → whole ≡ None
refused_end f whole xs i past e = rw (e, drop_all i xs past) refl

pub refused_at : (S T : Type 0) (f : ChangeData → Option CommitRefusalData) (whole : Option CommitRefusalData)
    (xs : List Change) (i : ℕ) (x : Change) (fault : CommitFault) → i < length xs → x ≡ get_or xs i x
    → whole ≡ first_refused f (map change_of (drop i xs)) → Answers {T = S} (f (change_of x)) (Err fault)
    → Answers {T = T} whole (Err fault)
refused_at S T f whole xs i x fault lt is e h =
    answers_first S T (f (change_of x)) whole (first_refused f (map change_of (drop (i + 1) xs))) fault
    (e ∙ refused_step f xs i x lt is) h

-- an error that a `?` hands on
pub answers_as : (T : Type 0) (whole : Option CommitRefusalData) (r : Result T CommitFault) (y x : CommitFault)
    → r ≡ Err y → y ≡ x → Answers {T = T} whole (Err x) → Answers {T = T} whole r
answers_as T whole r y x is same h =
    subst (λ (q : Result T CommitFault). Answers {T = T} whole q) (sym is)
    (subst (λ (z : CommitFault). Answers {T = T} whole (Err z)) (sym same) h)
