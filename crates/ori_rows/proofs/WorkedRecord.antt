-- The spelling of a record computed: class V, version 1, the text Ann as its field name.
use Rattle.std.specs.Prelude.{◌≡◌, ℕ, zero, suc, ◌+◌, ◌*◌, ◌<◌, ◌≤◌, max, nat_lt, get_or, None, true, List, [], ◌∷◌}
use Rattle.std.specs.Prelude.{◌++◌, length, codes, refl}
use Rattle.std.specs.Str.{is_utf8, chars}
use Rattle.std.proofs.Common.{arith, sym, subst}
use Rattle.std.proofs.lemmas.Str.{IsUtf8-from_is_utf8}
use lib.Utf8.{encode}
use mathlib.Core.Logic.{inr}
use Rattle.std.specs.List.{AllByRecursion, list_all}
use Rattle.std.proofs.lemmas.Bool.{and_parts, true≢false}
use Rattle.std.proofs.Common.{ltb-true, ap, is_some}
use Rattle.ori_spec_data.specs.Value.{str, no_pairs, pair}
use Rattle.ori_spec_data.specs.Base.{RecordData, BaseData, TxData, initial_base, create}
use Rattle.ori_bytes.specs.Varint.{groups_of}
use Rattle.ori_spec_data.specs.Apply.{rid_at, temporary, apply_tx, IsFormed}
use Rattle.ori_spec_data.specs.Refusing.{refusal}
use Rattle.ori_spec_data.specs.Soundness.{IsSoundBase}
use Rattle.ori_spec_data.specs.Records.{record_at}
use Rattle.ori_record.specs.Spelling.{IsCount, IsCounted, Spells, plain}
use Rattle.ori_log.specs.Log.{FilesData, ImageData, record_bytes, AreImages, IsLog, IsMade, pages_named, pages_of}
use Rattle.ori_log.specs.Log.{last_image}
use Rattle.ori_rows.specs.Stage.{head_page, record_page, Opens, IsPageOf}
use Rattle.ori_spec_data.proofs.Kept.{apply_sound}
use Rattle.ori_spec_data.proofs.HistoryLaws.{initial_sound}

abbrev ann : RecordData
ann = record {
  rid = rid_at 1 0;
  version = 1;
  class = codes "V";
  fields = pair (codes "name") (str (codes "Ann"))
      no_pairs;
}

abbrev ann_bytes : List ℕ
ann_bytes = 0 ∷ 0 ∷ 0 ∷ 1 ∷ 0 ∷ 2 ∷ 86 ∷ 8 ∷ 110 ∷ 97 ∷ 109 ∷ 101 ∷ 0 ∷ 0 ∷ 0 ∷ 14 ∷ 7 ∷ 0 ∷ 6 ∷ 65 ∷ 110 ∷ 110 ∷ []

length-ann : length ann_bytes ≡ 22
length-ann = refl

counted : (length_byte n : ℕ) (text : List ℕ) → length text ≡ n → IsCount n (length_byte ∷ [])
    → IsCounted text (length_byte ∷ text)
counted length_byte n text long h = record {
  front = length_byte ∷ [];
  back = text;
  first = subst (λ (k : ℕ). IsCount k (length_byte ∷ [])) (sym long) h;
  second = refl;
  whole = refl;
}

counted-v : IsCounted (codes "V") (2 ∷ 86 ∷ [])
counted-v =
    counted 2 1 (codes "V") refl (record { groups = omega arith; shortest = refl; number = refl; range = omega arith })

counted-name : IsCounted (codes "name") (8 ∷ codes "name")
counted-name =
    counted 8 4 (codes "name") refl
    (record { groups = omega arith; shortest = refl; number = refl; range = omega arith })

counted-ann : IsCounted (codes "Ann") (6 ∷ codes "Ann")
counted-ann =
    counted 6 3 (codes "Ann") refl
    (record { groups = omega arith; shortest = refl; number = refl; range = omega arith })

spells-ann : Spells ann_bytes ann []
unfolding is_utf8 chars encode
spells-ann = (
  2 ∷ 86 ∷ 8 ∷ 110 ∷ 97 ∷ 109 ∷ 101 ∷ 0 ∷ 0 ∷ 0 ∷ 14 ∷ 7 ∷ 0 ∷ 6 ∷ codes "Ann",
  plain (codes "name") (str (codes "Ann")) ∷ [],
  record {
    whole = refl;
    version = omega arith;
    headed = record {
      front = 2 ∷ 86 ∷ [];
      entries = 8 ∷ 110 ∷ 97 ∷ 109 ∷ 101 ∷ 0 ∷ 0 ∷ 0 ∷ 14 ∷ 7 ∷ [];
      values = 6 ∷ codes "Ann";
      classed = (counted-v, IsUtf8-from_is_utf8 (codes "V") refl);
      fields = record {
        name_bytes = 8 ∷ codes "name";
        value_bytes = 6 ∷ codes "Ann";
        entries_left = [];
        values_left = [];
        named = ((counted-name, IsUtf8-from_is_utf8 (codes "name") refl), omega arith);
        fits = omega arith;
        valued = (counted-ann, IsUtf8-from_is_utf8 (codes "Ann") refl);
        left = (refl, refl);
        entry = refl;
        value = refl;
      };
      whole = refl;
    };
    ordered = (tt, refl, tt);
    fields_are = refl;
    bags_are = refl;
    depth = omega arith;
  },
)

-- the volume after that INSERT: one record of two pages in the log, and a closed gate behind it
abbrev images : List ImageData
images = record { page = 0; content = head_page 2 } ∷ record { page = 1; content = record_page ann_bytes } ∷ []

abbrev files : FilesData
files = record { master = 0 ∷ []; log_a = record_bytes images ++ 0 ∷ []; log_b = 0 ∷ []; pages = [] }

bytes-below : (bs : List ℕ) → list_all (λ b. nat_lt b 256) bs ≡ true → AllByRecursion (λ b. b < 256) bs
bytes-below [] e = tt
bytes-below (b ∷ bs) e = let p = and_parts _ _ e in (ltb-true _ _ p.0, bytes-below bs p.1)

are-images : AreImages 0 images
are-images = (
  omega arith,
  omega arith,
  refl,
  bytes-below (head_page 2) refl,
  (omega arith, omega arith, refl, bytes-below (record_page ann_bytes) refl, tt),
)

is-log : IsLog files.log_a (images ∷ [])
is-log = (0, [], refl, (λ e. omega arith), (record { some = omega arith; few = omega arith; rising = are-images }, tt))

no-home : (page : ℕ) → page < max (pages_named images) 0 → last_image page images ≡ None → 4096 * (page + 1) ≤ 0
no-home zero below none = absurd (true≢false (ap is_some none))
no-home (suc zero) below none = absurd (true≢false (ap is_some none))
no-home (suc (suc page)) below none = absurd (omega arith)

made : IsMade files (images ∷ [])
made = record {
  master = refl;
  log_a = omega arith;
  log_b = omega arith;
  pages = omega arith;
  tail = is-log;
  homes =
      no-home;
}

head : get_or (pages_of files (images ∷ [])) 0 [] ≡ head_page 2
head = refl

first : get_or (pages_of files (images ∷ [])) 1 [] ≡ record_page ann_bytes
first = refl

pages : length (pages_of files (images ∷ [])) ≡ 2
pages = refl

abbrev tx : TxData
tx = record {
  changes = create (temporary 0) (codes "V") (pair (codes "name") (str (codes "Ann")) no_pairs)
      ∷ [];
  made = 1;
}

abbrev base : BaseData
base = apply_tx initial_base tx

is-formed : IsFormed tx
is-formed = record {
  one_each = (tt, tt);
  in_order = (0, omega arith, omega arith, refl, tt);
  own =
      ((omega arith, refl, omega arith, refl, tt), tt);
}

accepted : refusal initial_base tx ≡ None
unfolding groups_of
accepted = refl

sound : IsSoundBase base
sound = apply_sound initial_base tx initial_sound is-formed accepted

is-page : (p : ℕ) → p < 1 → IsPageOf (get_or (pages_of files (images ∷ [])) (p + 1) [])
    (record_at base.stored (rid_at 1 p))
is-page zero below = (ann_bytes, spells-ann, refl)
is-page (suc p) below = absurd (omega arith)

opens : Opens files base
opens = record {
  sound = sound;
  stands = inr (
    images ∷ [],
    record {
      form = made;
      stands = inr (record { schema = refl; grown = refl; next = refl; head = refl; each = is-page });
    },
  );
}
