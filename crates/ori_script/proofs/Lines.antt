-- What the lines come to that do nothing.
use Rattle.std.proofs.Common.{◌≡◌, inl, ℕ, false, List, [], ◌∷◌, ◌++◌, Option, Some, None, Result, Ok, Err, IfOk, refl}
use Rattle.std.proofs.Common.{sym, ap, ◌∙◌, subst}
use Rattle.std.specs.Prelude.{unwrap_or}
use Rattle.std.proofs.lemmas.List.{append-nil}
use Rattle.ori_bytes.specs.declared.memory.NoMemory.{NoMemory}
use Rattle.ori_spec_data.specs.Base.{EntryData}
use Rattle.ori_spec_data.specs.Replies.{ReplyData, refused, halted, unbuilt}
use Rattle.ori_spec_texts.specs.Line.{LineData, StepData, history, tries, step}
use Rattle.ori_spec_texts.specs.Reply.{AnswerData, to_session, to_history, to_step, reply_text, answer_text}
use Rattle.ori_spec_texts.specs.Reply.{tells_fault}
use Rattle.ori_spec_runs.specs.Run.{RunData, StepTells}
use Rattle.ori_script.specs.Keeping.{KeptData, Keeps, TellsHalted, printed}
use Rattle.ori_script.specs.Keeping.{IsStepped, IsAnswered, Answers, reopenings}
use Rattle.ori_script.proofs.Runs.{only}

-- the text of an answer with one reply
pub alone_text : (session : ℕ) (reply : ReplyData) (text : Result (List ℕ) NoMemory)
    → IfOk text (λ t. t ≡ reply_text session reply) → IfOk text (λ t. t ≡ answer_text (to_session session (reply ∷ [])))
alone_text session reply (Ok t) is = is ∙ sym (append-nil (reply_text session reply))
alone_text session reply (Err why) is = is

pub tries_so : (session count : ℕ) (body : List ℕ) (kept : KeptData) (text : Result (List ℕ) NoMemory)
    → IfOk text (λ t. t ≡ answer_text (to_session session (refused unbuilt ∷ [])))
    → IsAnswered kept (tries session count body) text kept
tries_so session count body kept text h = record {
  answer = to_session session (refused unbuilt ∷ []);
  stepped = record {
    steps = λ run keeps. (run, (inl refl, refl), keeps);
    fault_told = λ told. absurd (cc told);
    failed_stays = λ failed. failed;
    halted_told = λ at told.
        absurd (cc (only (λ (reply : ReplyData). reply.told ≡ Err (halted at)) (refused unbuilt) told));
    halted_stays = λ at was. was;
    plain = refl;
    same_failed = refl;
  };
  text_is = h;
}

-- what is to be printed answers the line
pub printed_so : (old : KeptData) (line : LineData) (text : Result (List ℕ) NoMemory) (new : KeptData)
    → IsAnswered old line text new → Answers old line (printed text) new
printed_so old line (Ok text) new h = h
printed_so old line (Err why) new h = h

-- a step that isn't a reopening leaves all as it was
module _ (kept : KeptData) (answer : AnswerData) (s : StepData)
    (tells : (run : RunData) → Keeps kept run → StepTells run s answer run) (fine : tells_fault answer ≡ false)
    (quiet : (at : ℕ) → TellsHalted at answer → ⊥) (plain : reopenings (step s ∷ []) ≡ 0) where
  idle : IsStepped kept (step s) answer kept
  idle = record {
    steps = λ run keeps. (run, tells run keeps, keeps);
    fault_told = λ told. absurd (cc (fine, told));
    failed_stays = λ failed. failed;
    halted_told = λ at told. absurd (quiet at told);
    halted_stays = λ at was. was;
    plain = plain;
    same_failed = refl;
  }

-- the history is that of earlier openings and the feed
past : (kept : KeptData) (run : RunData) → Keeps kept run
    → kept.store.earlier ++ unwrap_or kept.store.state.feed [] ≡ run.history
past kept run keeps =
    ap (λ (o : Option (List EntryData)). kept.store.earlier ++ unwrap_or o []) keeps.feed ∙ sym keeps.history

abbrev pub whole : KeptData → List EntryData
whole kept = kept.store.earlier ++ unwrap_or kept.store.state.feed []

-- a step that can't be done yet
pub unbuilt_step : (s : StepData) (kept : KeptData) (text : Result (List ℕ) NoMemory)
    → ((run : RunData) → StepTells run s (to_step unbuilt) run) → reopenings (step s ∷ []) ≡ 0
    → IfOk text (λ t. t ≡ answer_text (to_step unbuilt)) → Answers kept (step s) (printed text) kept
unbuilt_step s kept text tells plain is =
    printed_so kept (step s) text kept (record {
      answer = to_step unbuilt;
      stepped = idle kept (to_step unbuilt) s (λ run keeps. tells run) refl (λ at told. cc told) plain;
      text_is = is;
    })

-- the history is printed
pub history_step : (kept : KeptData) (text : Result (List ℕ) NoMemory)
    → IfOk text (λ t. t ≡ answer_text (to_history (whole kept))) → Answers kept (step history) (printed text) kept
history_step kept text is =
    printed_so kept (step history) text kept (record {
      answer = to_history (whole kept);
      stepped = idle kept (to_history (whole kept)) history (λ run keeps. (ap to_history (past kept run keeps), refl))
          refl (λ at told. told) refl;
      text_is = is;
    })
