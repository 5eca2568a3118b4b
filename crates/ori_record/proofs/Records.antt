-- Whole records that are read are spelled so, and those that are spelled are read.
use Rattle.std.proofs.Common.{◌≡◌, ◌<◌, ◌≤◌, ℕ, suc, true, ◌+◌, ◌^◌, cond, eqb, Some, None, List, [], ◌∷◌, ◌++◌}
use Rattle.std.proofs.Common.{length, Result, Ok, Err, refl, sym, ap, ap₂, subst, ◌∙◌, append_assoc, length-append}
use Rattle.std.proofs.Common.{arith}
use Rattle.std.proofs.lemmas.Bool.{eqb-true}
use Rattle.std.proofs.lemmas.List.{append-nil, nil_from_length}
use Rattle.std.specs.Prelude.{IfOk}
use Rattle.std.specs.Int.{w32, to_be_bytes}
use Rattle.ori_bytes.specs.declared.limits.TheConstants.{MAX_NESTING}
use Rattle.ori_bytes.specs.declared.rid.Rid.{Rid}
use Rattle.ori_spec_data.specs.Base.{RecordData}
use Rattle.ori_spec_data.specs.Value.{Fields, fields_nesting}
use Rattle.ori_record.specs.declared.bag_field.BagField.{BagField}
use Rattle.ori_record.specs.Spelling.{OwnField, AreOwnFields, AreOrdered, IsHeaded, IsText, Spells}
use Rattle.ori_record.specs.Spelling.{plain_among, bags_among}
use Rattle.ori_record.specs.Reading.{◌>>=◌, HeadData, SpelledData, u32_at, octet_at, text_at, heads_at, value_at}
use Rattle.ori_record.specs.Reading.{body_at, both_at, do_heads_rise, own_heads_at, owns_at, record_at, Gives}
use Rattle.ori_record.specs.Seen.{spelled_data}
use Rattle.ori_record.specs.Writing.{own_nestings}
use Rattle.ori_record.specs.declared.fault.RecordFault.{RecordFault}
use Rattle.ori_record.specs.declared.fault.RecordFault.TheVariants.{NotRecord, TooDeep, NoMemory}
use Rattle.ori_model.specs.declared.record.Stored.{Stored}
use Rattle.ori_model.specs.Data.{record_of}
use Rattle.ori_record.proofs.Options.{bind_some, passed, some_is}
use Rattle.ori_record.proofs.Takes.{Takes, made_if, octet_taken, u32_taken, text_taken}
use Rattle.ori_record.proofs.Sound.{heads_taken, value_taken}
use Rattle.ori_record.proofs.Again.{octet_again, u32_again, text_again, value_again}
use Rattle.ori_record.proofs.Merging.{plain_nesting}
use Rattle.ori_record.proofs.OwnReads.{owns_ordered, owns_taken, owns_again, own_entries_long}

-- the record that reading makes, at an identifier
abbrev pub placed : Rid → SpelledData → RecordData
placed rid d = record { rid = rid; version = d.version; class = d.class; fields = d.fields }

abbrev pub unplaced : RecordData → List BagField → SpelledData
unplaced r bags = record { version = r.version; class = r.class; fields = r.fields; bags = bags }

-- a class, fields and bags that were read
pub record IsBody (bytes class : List ℕ) (fs : Fields) (bs : List BagField) : Type 0 where
  pub own : List OwnField
  pub headed : IsHeaded 1 class (λ at e v. AreOwnFields at own e v) bytes
  pub ordered : AreOrdered own
  pub fields : plain_among own ≡ fs
  pub bags : bags_among own ≡ bs
  pub depth : fields_nesting fs ≤ MAX_NESTING

body_made : (from : ℕ) (bytes class middle : List ℕ) (hs : List HeadData) (tail : List ℕ) (os : List OwnField)
    (more : List ℕ) → from ≡ 1 + length bytes → Takes (IsText class) bytes middle
    → heads_at (length middle) middle ≡ Some (hs, tail) → do_heads_rise hs ≡ true
    → owns_at (value_at MAX_NESTING) from hs tail ≡ Some (os, more) → more ≡ []
    → IsBody bytes class (plain_among os) (bags_among os)
body_made from bytes class middle hs tail os more place t e up f nothing =
    let size : length bytes ≡ length t.front + length middle = ap length t.whole ∙ length-append t.front middle in
    let h = heads_taken (length middle) middle hs tail e in
    let size_left : length middle ≡ length h.0 + suc (length tail)
    = ap length h.2 ∙ length-append h.0 (0 ∷ tail) in
    let r = owns_taken MAX_NESTING (value_at MAX_NESTING) (value_taken MAX_NESTING) from
    (1 + length t.front + length h.0 + 1) hs h.0 tail os more (omega (arith, place, size, size_left)) h.1 f in
    let values : tail ≡ r.taken.front
    = r.taken.whole ∙ ap (λ (x : List ℕ). r.taken.front ++ x) nothing ∙ append-nil r.taken.front in
    record {
      own = os;
      headed = record {
        front = t.front;
        entries = h.0;
        values = r.taken.front;
        classed = t.fact;
        fields = r.taken.fact;
        whole = t.whole ∙ ap (λ (x : List ℕ). t.front ++ x) (h.2 ∙ ap (λ (x : List ℕ). h.0 ++ 0 ∷ x) values)
            ∙ sym (append_assoc t.front h.0 (0 ∷ r.taken.front));
      };
      ordered = (owns_ordered (value_at MAX_NESTING) from hs tail os more f).ordered up;
      fields = refl;
      bags = refl;
      depth = omega (arith, r.depth, plain_nesting os);
    }

-- entries that were read, and rise
pub own_heads_taken : (bytes : List ℕ) (hs : List HeadData) (tail : List ℕ) → own_heads_at bytes ≡ Some (hs, tail)
    → (heads_at (length bytes) bytes ≡ Some (hs, tail)) × (do_heads_rise hs ≡ true)
unfolding own_heads_at
own_heads_taken bytes hs tail e =
    let m = made_if (heads_at (length bytes) bytes) do_heads_rise (λ x. x) hs tail e in
    subst (λ (x : List HeadData). (heads_at (length bytes) bytes ≡ Some (x, tail)) × (do_heads_rise x ≡ true)) m.2
    (m.1, m.3)

body_taken : (from : ℕ) (bytes class : List ℕ) (fs : Fields) (bs : List BagField) → from ≡ 1 + length bytes
    → body_at from bytes ≡ Some (class, fs, bs) → IsBody bytes class fs bs
unfolding body_at both_at
body_taken from bytes class fs bs place e =
    let a = bind_some (text_at bytes) (λ c. own_heads_at c.1 >>= λ h. both_at (value_at MAX_NESTING) from h.0 h.1
    >>= λ x. cond (eqb (length x.1) 0) (Some (c.0, x.0.0, x.0.1)) None) (class, fs, bs) e in
    let h = bind_some (own_heads_at a.0.1) (λ h. both_at (value_at MAX_NESTING) from h.0 h.1 >>= λ x.
    cond (eqb (length x.1) 0) (Some (a.0.0, x.0.0, x.0.1)) None) (class, fs, bs) a.2 in
    let x = bind_some (both_at (value_at MAX_NESTING) from h.0.0 h.0.1) (λ x.
    cond (eqb (length x.1) 0) (Some (a.0.0, x.0.0, x.0.1)) None) (class, fs, bs) h.2 in
    let o = bind_some (owns_at (value_at MAX_NESTING) from h.0.0 h.0.1) (λ os.
    Some ((plain_among os.0, bags_among os.0), os.1)) x.0 x.1 in
    let split = some_is ((plain_among o.0.0, bags_among o.0.0), o.0.1) x.0 o.2 in
    let p = passed (eqb (length x.0.1) 0) (Some (a.0.0, x.0.0.0, x.0.0.1)) (class, fs, bs) x.2 in
    let nothing : o.0.1 ≡ []
    = ap (λ (y : (Fields × List BagField) × List ℕ). y.1) split
    ∙ nil_from_length x.0.1 (eqb-true (length x.0.1) 0 p.0) in
    let up = own_heads_taken a.0.1 h.0.0 h.0.1 h.1 in
    let is : (a.0.0, plain_among o.0.0, bags_among o.0.0) ≡ (class, fs, bs)
    = ap (λ (y : (Fields × List BagField) × List ℕ). (a.0.0, y.0.0, y.0.1)) split
    ∙ some_is (a.0.0, x.0.0.0, x.0.0.1) (class, fs, bs) p.1 in
    subst (λ (y : List ℕ × Fields × List BagField). IsBody bytes y.0 y.1 y.2) is
    (body_made from bytes a.0.0 a.0.1 h.0.0 h.0.1 o.0.0 o.0.1 place (text_taken bytes a.0.0 a.0.1 a.1) up.0 up.1 o.1
    nothing)

start_taken : (bytes middle : List ℕ) (d : SpelledData) (version : ℕ) (rid : Rid) → bytes
    ≡ to_be_bytes w32 version ++ middle → version < 2 ^ 32 → (start : ℕ × List ℕ) → middle ≡ start.0 ∷ start.1
    → start.0 ≡ 0 → (class : List ℕ) (fs : Fields) (bs : List BagField)
    → body_at (length middle) start.1 ≡ Some (class, fs, bs)
    → record { version = version; class = class; fields = fs; bags = bs } ≡ d → Spells bytes (placed rid d) d.bags
start_taken bytes middle d version rid whole fits start parts zero_is class fs bs e is =
    let b = body_taken (length middle) start.1 class fs bs (omega (arith, ap length parts)) e in
    let all : bytes ≡ to_be_bytes w32 version ++ 0 ∷ start.1
    = whole ∙ ap (λ (x : List ℕ). to_be_bytes w32 version ++ x) (parts ∙ ap (λ (k : ℕ). k ∷ start.1) zero_is) in
    subst (λ (x : SpelledData). Spells bytes (placed rid x) x.bags) is (
      start.1,
      b.own,
      record {
        whole = all;
        version = fits;
        headed = b.headed;
        ordered = b.ordered;
        fields_are = b.fields;
        bags_are = b.bags;
        depth = b.depth;
      },
    )

pub record_taken : (bytes : List ℕ) (d : SpelledData) (rid : Rid) → record_at bytes ≡ Some d
    → Spells bytes (placed rid d) d.bags
unfolding record_at
record_taken bytes d rid e =
    let a = bind_some (u32_at bytes) (λ v. octet_at v.1 >>= λ s. cond (eqb s.0 0) (body_at (length v.1) s.1 >>= λ b.
    Some (record { version = v.0; class = b.0; fields = b.1; bags = b.2 })) None) d e in
    let s = bind_some (octet_at a.0.1) (λ s. cond (eqb s.0 0) (body_at (length a.0.1) s.1 >>= λ b.
    Some (record { version = a.0.0; class = b.0; fields = b.1; bags = b.2 })) None) d a.2 in
    let t = passed (eqb s.0.0 0) (body_at (length a.0.1) s.0.1 >>= λ b.
    Some (record { version = a.0.0; class = b.0; fields = b.1; bags = b.2 })) d s.2 in
    let b = bind_some (body_at (length a.0.1) s.0.1) (λ b. Some (record {
      version = a.0.0;
      class = b.0;
      fields = b.1;
      bags = b.2;
    })) d t.1 in
    let version = u32_taken bytes a.0.0 a.0.1 a.1 in
    start_taken bytes a.0.1 d a.0.0 rid version.0 version.1 s.0 (octet_taken a.0.1 s.0.0 s.0.1 s.1).0
    (eqb-true s.0.0 0 t.0) b.0.0 b.0.1 b.0.2 b.1 (some_is _ d b.2)

body_again : (from : ℕ) (bytes class : List ℕ) (os : List OwnField) → from ≡ 1 + length bytes
    → IsHeaded 1 class (λ at e v. AreOwnFields at os e v) bytes → AreOrdered os → own_nestings os ≤ MAX_NESTING
    → body_at from bytes ≡ Some (class, plain_among os, bags_among os)
unfolding body_at both_at own_heads_at
body_again from bytes class os place d ordered depth =
    let tail = d.values ++ [] in
    let left = d.entries ++ 0 ∷ tail in
    let whole : bytes ≡ d.front ++ left
    = d.whole ∙ append_assoc d.front d.entries (0 ∷ d.values)
    ∙ ap (λ (x : List ℕ). d.front ++ (d.entries ++ 0 ∷ x)) (sym (append-nil d.values)) in
    let size : length left ≡ length d.entries + suc (length tail) = length-append d.entries (0 ∷ tail) in
    let long : from ≡ 1 + length d.front + length left
    = omega (arith, place, ap length whole, length-append d.front left) in
    let back = owns_again MAX_NESTING (value_at MAX_NESTING) (value_again MAX_NESTING) os (length left) from
    (1 + length d.front + length d.entries + 1) d.entries d.values tail []
    (omega (arith, size, own_entries_long os (1 + length d.front + length d.entries + 1) d.entries d.values d.fields))
    (omega arith) (omega (arith, long, size)) d.fields depth ordered in
    ap (body_at from) whole
    ∙ rw (text_again d.front class left d.classed, back.header, back.rise, back.fields) refl

pub record_again : (bytes : List ℕ) (r : RecordData) (bags : List BagField) → Spells bytes r bags
    → record_at bytes ≡ Some (unplaced r bags)
unfolding record_at
record_again bytes r bags h =
    let s = h.2 in
    let depth : own_nestings h.1 ≤ MAX_NESTING
    = omega (arith, s.depth, ap fields_nesting s.fields_are, plain_nesting h.1) in
    let body : body_at (length (0 ∷ h.0)) h.0 ≡ Some (r.class, r.fields, bags)
    = body_again (length (0 ∷ h.0)) h.0 r.class h.1 (omega arith) s.headed s.ordered depth
    ∙ ap₂ (λ (fs : Fields) (bs : List BagField). Some (r.class, fs, bs)) s.fields_are s.bags_are in
    ap record_at s.whole
    ∙ rw (u32_again r.version (0 ∷ h.0) s.version, octet_again 0 h.0 (omega arith), body) refl

-- two records at one place with the same bytes are one, with the same bags
pub one_record : (bytes : List ℕ) (r s : RecordData) (bags others : List BagField) → Spells bytes r bags
    → Spells bytes s others → (r.rid ≡ s.rid → r ≡ s) × (bags ≡ others)
one_record bytes r s bags others h k =
    let same : unplaced r bags ≡ unplaced s others
    = some_is (unplaced r bags) (unplaced s others)
    (sym (record_again bytes r bags h) ∙ record_again bytes s others k) in (
      λ e. ap (placed r.rid) same ∙ ap (λ (x : Rid). placed x (unplaced s others)) e,
      ap (λ (d : SpelledData). d.bags) same,
    )

-- bytes that reading makes nothing of spell no record
pub no_record : (bytes : List ℕ) → record_at bytes ≡ None → (r : RecordData) (bags : List BagField)
    → Spells bytes r bags → ⊥
no_record bytes e r bags h = let some = record_again bytes r bags h in cc

-- ---- what the public read says

-- a record with its bags
abbrev pub Read : Type 0
Read = Stored × List BagField

pub read_ok : (bytes : List ℕ) (rid : Rid) (r : Result Read RecordFault)
    → Gives (λ x. spelled_data x.0 x.1) r (record_at bytes) → IfOk r (λ x. x.0.rid ≡ rid)
    → IfOk r (λ x. (x.0.rid ≡ rid) × Spells bytes (record_of x.0) x.1)
read_ok bytes rid (Ok x) g e = (e, record_taken bytes (spelled_data x.0 x.1) x.0.rid g)
read_ok bytes rid (Err f) g e = tt

pub read_none : (bytes : List ℕ) (r : Result Read RecordFault) → Gives (λ x. spelled_data x.0 x.1) r (record_at bytes)
    → r ≡ Err NotRecord → (s : RecordData) (bags : List BagField) → Spells bytes s bags → ⊥
read_none bytes (Ok x) g e = absurd cc
read_none bytes (Err NotRecord) g e = no_record bytes g
read_none bytes (Err TooDeep) g e = absurd cc
read_none bytes (Err NoMemory) g e = absurd cc

pub read_shallow : (bytes : List ℕ) (r : Result Read RecordFault)
    → Gives (λ x. spelled_data x.0 x.1) r (record_at bytes) → r ≡ Err TooDeep → ⊥
read_shallow bytes (Ok x) g e = cc
read_shallow bytes (Err NotRecord) g e = cc
read_shallow bytes (Err TooDeep) g e = g
read_shallow bytes (Err NoMemory) g e = cc
