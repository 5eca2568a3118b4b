-- Each line is given before more is read.
use Rattle.std.proofs.Common.{◌≡◌, ℕ, ◌+◌, false, List, [], ◌∷◌, ◌++◌, length, refl, sym, ◌∙◌, subst, inl, inr}
use Rattle.std.proofs.Common.{IsTrue, Result, Ok}
use Rattle.std.specs.Prelude.{◌⊎◌}
use Rattle.std.proofs.lemmas.Bool.{both_ways}
use Rattle.std.proofs.lemmas.List.{append-nil}
use Rattle.ori_spec_texts.specs.Line.{at_end, is_too_long, is_skipped, IsTaken, Reads}
use Rattle.ori_text.specs.declared.line.LineFault.{LineFault}
use Rattle.ori_text.specs.declared.line.Step.{Step}
use Rattle.ori_text.specs.declared.line.Step.TheVariants as steps
use Rattle.ori_text.specs.Lines.{Reading, AreWhole, Advances}
use Rattle.ori_text.specs.LineReading.{HoldsPart}
use Rattle.ori_text.specs.LineSteps.{TakesFront, HoldsNoLine, IsPrompt, IsPromptStep}
use Rattle.ori_text.proofs.Readings.{no_advance, advance_more, reads_short}
use Rattle.ori_text.proofs.StepLemmas.{advances_by_one}

whole_where_open : (a b : Reading) (lines : List (List ℕ)) → Advances a b [] lines [] at_end → b.ended ≡ false
    → AreWhole lines
whole_where_open a b lines adv going = elim adv.whole [
  | inl whole ↦ whole
  | inr last ↦
      let short : is_too_long last.last ≡ false =
      reads_short a.given last.front last.last (subst (λ t. Reads a.given t [] at_end) last.parts adv.reads) in
      absurd (elim last.why [ inl e ↦ both_ways _ going e | inr long ↦ both_ways _ short long ])
]

holds_no_line : (a b : Reading) (lines : List (List ℕ)) → Advances a b [] lines [] at_end → HoldsPart b
    → b.ended ≡ false → HoldsNoLine a
holds_no_line a b lines adv part going = record {
  lines = lines;
  part = b.held;
  parts = sym (append-nil a.held) ∙ adv.parts;
  whole = whole_where_open a b lines adv going;
  reads = adv.reads;
  no_end = part.no_end;
  short = part.short;
}

-- between two steps: the source is as it was, or what was held has no line that is given
abbrev pub PromptSoFar : {S : Type 0} → S → S → Reading → Reading → Type 0
PromptSoFar source_first source_now first now =
    ((source_now ≡ source_first) × ((lines : List (List ℕ)) × Advances first now [] lines [] at_end))
    ⊎ HoldsNoLine first

pub prompt_first : {S : Type 0} (source : S) (r : Reading) → PromptSoFar source source r r
prompt_first source r = inl (refl, ([], no_advance r))

pub prompt_more : {S : Type 0} (s t u : S) (a b c : Reading) → PromptSoFar s t a b
    → IsPromptStep t u b c (Ok steps.Further) → PromptSoFar s u a c
prompt_more s t u a b c so_far step = elim so_far [
  | inl before ↦ elim step [
    | inl leaves ↦
        let more = leaves.further refl in
        inl (
          leaves.same ∙ before.0,
          (
            before.1.0 ++ more.0,
            advance_more a b c [] [] before.1.0 more.0 [] at_end
                before.1.1 more.1,
          ),
        )
    | inr reads ↦ inr (holds_no_line a b before.1.0 before.1.1 reads.0 reads.1)
  ]
  | inr none ↦ inr none
]

pub prompt_last : {S : Type 0} (s t u : S) (a b c : Reading) (r : Result Step LineFault) → PromptSoFar s t a b
    → IsPromptStep t u b c r → IsPrompt s u a
prompt_last s t u a b c r so_far step = elim so_far [
  | inl before ↦ elim step [
    | inl leaves ↦ inl (leaves.same ∙ before.0)
    | inr reads ↦ inr (holds_no_line a b before.1.0 before.1.1 reads.0 reads.1)
  ]
  | inr none ↦ inr none
]

-- ---- steps

pub prompt_skipped : {S : Type 0} (source : S) (old new : Reading) → (line : List ℕ) × TakesFront old new line
    × IsTaken line new.given × IsTrue (is_skipped line) → IsPromptStep source source old new (Ok steps.Further)
prompt_skipped source old new h =
    let taken : IsTaken h.0 (old.given + length h.0) = subst (λ n. IsTaken h.0 n) h.1.given h.2 in
    inl (record {
      same = refl;
      further = λ e. (
        h.0 ∷ [],
        advances_by_one old new h.0 [] at_end h.1
            (inl (taken, h.3, (refl, refl))),
      );
    })
