-- A history that stands in two lists is printed as their entries one after the other.
use Rattle.std.proofs.Common.{◌≡◌, ℕ, ◌+◌, List, [], ◌∷◌, ◌++◌, length, codes, decimal, refl, ap, sym, ◌∙◌, arith}
use Rattle.std.proofs.lemmas.List.{append_assoc, length-append, length-map}
use Rattle.ori_spec_data.specs.Base.{EntryData}
use Rattle.ori_spec_texts.specs.Reply.{entry_text, entries_text, history_text}
use Rattle.ori_model.specs.declared.entry.Entry.{Entry}
use Rattle.ori_model.specs.Data.{entry_of, entries_of}

-- what stands behind a line stands behind its parts
behind_line : (front place entry first second : List ℕ) → front ++ place ++ entry ++ 10 ∷ (first ++ second)
    ≡ (front ++ place ++ entry ++ 10 ∷ first) ++ second
behind_line front place entry first second =
    sym (append_assoc (front ++ place ++ entry) (10 ∷ first) second)

entries_text-append : (place : ℕ) (xs ys : List EntryData)
    → entries_text place (xs ++ ys) ≡ entries_text place xs ++ entries_text (place + length xs) ys
entries_text-append place [] ys = ap (λ n. entries_text n ys) (omega arith)
entries_text-append place (x ∷ xs) ys =
    let rest : entries_text (place + 1) (xs ++ ys) ≡ entries_text (place + 1) xs
    ++ entries_text (place + length (x ∷ xs)) ys =
    entries_text-append (place + 1) xs ys
    ∙ ap (λ n. entries_text (place + 1) xs ++ entries_text n ys) (omega arith) in
    ap (λ (l : List ℕ). codes "! HISTORY " ++ decimal place ++ 32 ∷ entry_text x ++ 10 ∷ l) rest
    ∙ behind_line (codes "! HISTORY ") (decimal place) (32 ∷ entry_text x) (entries_text (place + 1) xs)
    (entries_text (place + length (x ∷ xs)) ys)

pub both_printed : (xs ys : List Entry) → history_text (entries_of xs ++ entries_of ys)
    ≡ entries_text 0 (entries_of xs) ++ entries_text (length xs) (entries_of ys) ++ codes "! OK "
    ++ decimal (length xs + length ys) ++ 10 ∷ []
both_printed xs ys =
    let count : length (entries_of xs ++ entries_of ys) ≡ length xs + length ys =
    omega (arith, length-append (entries_of xs) (entries_of ys), length-map xs entry_of, length-map ys entry_of) in
    let at : 0 + length (entries_of xs) ≡ length xs = omega (arith, length-map xs entry_of) in
    rw (count, entries_text-append 0 (entries_of xs) (entries_of ys), at) refl
