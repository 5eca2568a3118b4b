-- What a switch does to the bytes of the files.
use Rattle.std.proofs.Common.{◌≡◌, ◌≤◌, inl, inr, ⊎_elim, ℕ, ◌+◌, ◌%◌, ◌^◌, max, true≢false, List, [], ◌∷◌, Result}
use Rattle.std.proofs.Common.{Ok, Err, refl, take, length-take}
use Rattle.std.proofs.Common.{sym, ◌∙◌, ap, ap₂, subst, length, slice_index, arith}
use Rattle.std.specs.Result.{IsErr}
use Rattle.ori_bytes.specs.declared.limits.TheConstants.{CLOSED_GATE}
use Rattle.ori_volume.specs.declared.failed.Failed.{Failed}
use Rattle.ori_volume.specs.declared.file.FileNo.{FileNo}
use Rattle.ori_volume.specs.declared.file.FileNo.TheVariants.{Master}
use Rattle.ori_volume.specs.Disk.{of_file, with_file, Files, firm_file}
use Rattle.ori_volume.specs.Effects.{put, written, TornBytes}
use Rattle.ori_volume.specs.Story.{ChangesFile, FilesWrite, FilesCut}
use Rattle.ori_volume.proofs.Lasting.{written_torn}
use Rattle.ori_log.specs.Files.{other_log, file_named}
use Rattle.ori_log.specs.Appending.{StandsIn}
use Rattle.ori_log.specs.declared.log.Log.{Log}
use Rattle.ori_log.specs.Switching.{switched_files, SwitchesFiles, ClearCutShort, ClearsFiles, MasterTorn, SetsFiles}
use Rattle.ori_log.specs.declared.fault.LogFault.{LogFault}
use Rattle.ori_log.proofs.Behind.{with_twice}
use Rattle.ori_log.proofs.Puts.{length-put}
use Rattle.ori_log.proofs.Switching.{one_byte, other_in_log, other_master, other_here, master_apart, with_master}
use Rattle.ori_log.proofs.Switching.{first_byte, next_names}

-- one file alone changes, twice
elsewhere_then : (file : FileNo) (B D : List ℕ → List ℕ → Type 0) (a b c : Files) → ChangesFile file B a b
    → ChangesFile file D b c → c ≡ with_file a file (of_file c file)
elsewhere_then file B D a b c first second =
    second.elsewhere ∙ ap (λ (f : Files). with_file f file (of_file c file)) first.elsewhere
    ∙ with_twice a file (of_file b file) (of_file c file)

-- ---- the other log

clears_err : {T E : Type 0} (file : FileNo) (result : Result T E) (a b : Files) → IsErr result
    → ClearCutShort file a b → ClearsFiles file result a b
clears_err file (Ok _) a b failed is = absurd (true≢false (sym failed))
clears_err file (Err _) a b failed is = is

pub clears_cut : (file : FileNo) (fault : Failed) (result : Result (Unit {0}) Failed) (a b : Files) → IsErr result
    → FilesCut {T = Unit {0}} {E = Failed} file 0 (Err fault) a b → ClearsFiles file result a b
clears_cut file fault result a b failed cut = clears_err file result a b failed (record {
  only = cut.elsewhere;
  short = ⊎_elim (λ (same : of_file b file ≡ of_file a file). omega (arith, ap length same))
      (λ (none : of_file b file ≡ take 0 (of_file a file)).
      omega (arith, ap length none, length-take 0 (of_file a file)))
      cut.here;
})

pub clears_write : (file : FileNo) (fault : Failed) (result : Result (Unit {0}) Failed) (a b c : Files) → IsErr result
    → FilesCut {T = Unit {0}} {E = Failed} file 0 (Ok tt) a b
    → FilesWrite {T = Unit {0}} {E = Failed} file 0 (CLOSED_GATE ∷ []) (Err fault) b c → ClearsFiles file result a c
clears_write file fault result a b c failed cut writes = clears_err file result a c failed (record {
  only = elsewhere_then file _ _ a b c cut writes;
  short = omega (arith, writes.here.no_longer, ap length cut.here, length-take 0 (of_file a file));
})

pub clears_all : (file : FileNo) (result : Result (Unit {0}) Failed) (a b c : Files)
    → FilesCut {T = Unit {0}} {E = Failed} file 0 (Ok tt) a b
    → FilesWrite {T = Unit {0}} {E = Failed} file 0 (CLOSED_GATE ∷ []) (Ok tt) b c → ClearsFiles file result a c
clears_all file (Ok _) a b c cut writes =
    elsewhere_then file _ _ a b c cut writes
    ∙ ap (λ (l : List ℕ). with_file a file l)
    (writes.here ∙ ap (λ (l : List ℕ). put l 0 (CLOSED_GATE ∷ [])) cut.here ∙ one_byte (of_file a file) CLOSED_GATE)
clears_all file (Err _) a b c cut writes = record {
  only = elsewhere_then file _ _ a b c cut writes;
  short = omega (
    arith,
    ap length writes.here,
    length-put (of_file b file) (CLOSED_GATE ∷ []) 0 (omega arith),
    ap length cut.here,
    length-take 0 (of_file a file),
  );
}

-- ---- the master

torn_put : (xs : List ℕ) (byte : ℕ) → TornBytes 0 1 xs (put xs 0 (byte ∷ []))
torn_put xs byte = (written_torn 0 (byte ∷ []) (firm_file xs) (written (firm_file xs) 0 (byte ∷ [])) refl).torn

sets_err : {T E : Type 0} (byte : ℕ) (result : Result T E) (a b : Files) → IsErr result → MasterTorn a b
    → SetsFiles byte result a b
sets_err byte (Ok _) a b failed torn = absurd (true≢false (sym failed))
sets_err byte (Err _) a b failed torn = torn

pub sets_write : (byte : ℕ) (fault : Failed) (result : Result (Unit {0}) Failed) (a b : Files) → IsErr result
    → FilesWrite {T = Unit {0}} {E = Failed} Master 0 (byte ∷ []) (Err fault) a b → SetsFiles byte result a b
sets_write byte fault result a b failed writes =
    sets_err byte result a b failed (record { only = writes.elsewhere; torn = writes.here })

pub sets_all : (byte : ℕ) (result : Result (Unit {0}) Failed) (a b : Files)
    → FilesWrite {T = Unit {0}} {E = Failed} Master 0 (byte ∷ []) (Ok tt) a b → SetsFiles byte result a b
sets_all byte (Ok _) a b writes = writes.elsewhere ∙ ap (λ (l : List ℕ). with_file a Master l) writes.here
sets_all byte (Err _) a b writes = record {
  only = writes.elsewhere;
  torn = subst (λ (l : List ℕ). TornBytes 0 1 a.master l) (sym writes.here) (torn_put a.master byte);
}

-- ---- the call

module _ (log new_log : Log) (which : FileNo) (which_is : which ≡ other_log log.file) where
  abbrev file : FileNo
  file = log.file

  other_alone : (a b : Files) → b ≡ with_file a which (of_file b which)
      → b ≡ with_file (with_file a (other_log file) (of_file b (other_log file))) Master b.master
  other_alone a b is =
      sym (with_master b)
      ∙ ap (λ (f : Files). with_file f Master b.master)
      (is ∙ ap (λ (f : FileNo). with_file a f (of_file b f)) which_is)

  pub switches_early : (fault : Failed) (result : Result (Unit {0}) LogFault) (a b : Files) → IsErr result
      → ClearsFiles {T = Unit {0}} {E = Failed} which (Err fault) a b → SwitchesFiles log new_log result a b
  switches_early fault (Ok _) a b failed clears = absurd (true≢false (sym failed))
  switches_early fault (Err _) a b failed clears = record {
    only = other_alone a b clears.only;
    short = subst (λ (f : FileNo). length (of_file b f) ≤ max (length (of_file a f)) 1) which_is clears.short;
    either = inl (ap (λ (f : Files). f.master)
        (clears.only ∙ ap (λ (f : FileNo). with_file a f (of_file b f)) which_is)
        ∙ other_master file a (of_file b (other_log file)));
  }

  -- the other log is the one byte
  fresh_files : (a b : Files) → b ≡ with_file a which (CLOSED_GATE ∷ [])
      → b ≡ with_file a (other_log file) (CLOSED_GATE ∷ [])
  fresh_files a b clears = clears ∙ ap (λ (f : FileNo). with_file a f (CLOSED_GATE ∷ [])) which_is

  pub switches_late : (byte : ℕ) (fault : Failed) (result : Result (Unit {0}) LogFault) (a b c : Files) → IsErr result
      → ClearsFiles {T = Unit {0}} {E = Failed} which (Ok tt) a b
      → SetsFiles {T = Unit {0}} {E = Failed} byte (Err fault) b c → SwitchesFiles log new_log result a c
  switches_late byte fault (Ok _) a b c failed clears sets = absurd (true≢false (sym failed))
  switches_late byte fault (Err _) a b c failed clears sets =
      let cleared : b ≡ with_file a (other_log file) (CLOSED_GATE ∷ []) = fresh_files a b clears in
      let only : c ≡ with_file (with_file a (other_log file) (CLOSED_GATE ∷ [])) Master c.master =
      sets.only ∙ ap (λ (f : Files). with_file f Master c.master) cleared in
      let fresh : of_file c (other_log file) ≡ CLOSED_GATE ∷ [] =
      ap (λ (f : Files). of_file f (other_log file)) only
      ∙ master_apart (other_log file) (with_file a (other_log file) (CLOSED_GATE ∷ [])) c.master (other_in_log file)
      ∙ other_here file a (CLOSED_GATE ∷ []) in
      record {
        only = only ∙ ap (λ (l : List ℕ). with_file (with_file a (other_log file) l) Master c.master) (sym fresh);
        short = omega (arith, ap length fresh);
        either = inr (
          fresh,
          subst (λ (l : List ℕ). TornBytes 0 1 l c.master)
              (ap (λ (f : Files). f.master) cleared ∙ other_master file a (CLOSED_GATE ∷ [])) sets.torn,
        );
      }

  -- the log that is attached then stands in the files
  switch_stands : (a c : Files) → c ≡ switched_files file log.master a → new_log.file ≡ which → new_log.place ≡ 0
      → new_log.length ≡ 1 → new_log.master ≡ (log.master + 1) % 2 ^ 8 → StandsIn log a → StandsIn new_log c
  switch_stands a c is here place size byte stands =
      let next : ℕ = (log.master + 1) % 2 ^ 8 in
      let cleared : Files = with_file a (other_log file) (CLOSED_GATE ∷ []) in
      let fresh : of_file c new_log.file ≡ CLOSED_GATE ∷ [] =
      ap (λ (f : FileNo). of_file c f) (here ∙ which_is) ∙ ap (λ (f : Files). of_file f (other_log file)) is
      ∙ master_apart (other_log file) cleared (put a.master 0 (next ∷ [])) (other_in_log file)
      ∙ other_here file a (CLOSED_GATE ∷ []) in
      record {
        some = omega (arith, ap (λ (f : Files). length f.master) is, length-put a.master (next ∷ []) 0 (omega arith));
        byte = byte ∙ sym (ap (λ (f : Files). slice_index f.master 0) is ∙ first_byte a.master next);
        named = here ∙ which_is ∙ ap other_log stands.named ∙ sym (next_names log.master) ∙ sym (ap file_named byte);
        long = size ∙ sym (ap length fresh);
        within = omega (arith, place, ap length fresh);
      }

  pub switches_all : (byte : ℕ) (a b c : Files) → byte ≡ (log.master + 1) % 2 ^ 8 → new_log.file ≡ which
      → new_log.place ≡ 0 → new_log.length ≡ 1 → new_log.master ≡ byte
      → ClearsFiles {T = Unit {0}} {E = Failed} which (Ok tt) a b
      → SetsFiles {T = Unit {0}} {E = Failed} byte (Ok tt) b c
      → SwitchesFiles {T = Unit {0}} {E = LogFault} log new_log (Ok tt) a c
  switches_all byte a b c is here place size master clears sets =
      let cleared : b ≡ with_file a (other_log file) (CLOSED_GATE ∷ []) = fresh_files a b clears in
      let done : c ≡ switched_files file log.master a =
      sets
      ∙ ap₂ (λ (f : Files) (n : ℕ). with_file f Master (put f.master 0 (n ∷ []))) cleared is
      ∙ ap (λ (l : List ℕ). with_file (with_file a (other_log file) (CLOSED_GATE ∷ [])) Master
      (put l 0 ((log.master + 1) % 2 ^ 8 ∷ []))) (other_master file a (CLOSED_GATE ∷ [])) in
      (done, λ stands. switch_stands a c done here place size (master ∙ is) stands)
