-- The definitions computed on worked examples.
use Rattle.std.specs.Prelude.{◌≡◌, ℕ, ◌^◌, ◌<◌, ◌≤◌, pos, negsuc, zero, ◌-◌, suc, ◌||◌, Bool, nat_eq, decimal, true}
use Rattle.std.specs.Prelude.{false, List, [], ◌∷◌, ◌++◌, replicate, slice_index, codes, Some, None, refl}
use Rattle.std.specs.Fmt.{digits}
use Rattle.std.specs.List.{starts_with}
use Rattle.std.proofs.lemmas.Slice.Eq.{starts_is}
use Rattle.std.proofs.lemmas.Bool.Decides.{Decides-eqb}
use Rattle.std.proofs.lemmas.Bool.{cases_eq, or_parts, true≢false}
use Rattle.std.proofs.lemmas.List.{append_assoc}
use Rattle.std.proofs.Common.{arith, sym, ap, ◌∙◌}
use Rattle.std.specs.Str.{is_utf8, chars}
use Rattle.std.proofs.lemmas.Str.{IsUtf8-from_is_utf8}
use mathlib.Core.Logic.{inl, inr}
use lib.Utf8.{encode}
use lib.Signed.{le_z_yes}
use Rattle.json.specs.Print.{escape_byte}
use Rattle.ori_spec_data.specs.Value.{null, integer, long, link, str, binary, embedded, embedded_list, embedded_map}
use Rattle.ori_spec_data.specs.Value.{link_list, link_set, link_map, no_trees, more_trees, no_pairs, pair, unlinked}
use Rattle.ori_spec_data.specs.Value.{linked, nesting}
use Rattle.serde_json.specs.Written.{compact_text}
use Rattle.ori_spec_texts.specs.Json.{row_json, json_of}
use Rattle.ori_spec_data.specs.Base.{RecordData, TxData, into, initial_base, create}
use Rattle.ori_spec_data.specs.Apply.{rid_at, temporary, fresh, apply_tx, relinked, full_cluster}
use Rattle.ori_spec_texts.specs.Statement.{is_keyword, is_reserved, is_field_name, rows_at, whole_row, IsLink}
use Rattle.ori_spec_texts.specs.Statement.{IsStatement, inserts, updates, deletes_vertex}
use Rattle.ori_spec_texts.specs.Reply.{reply_text, answer_text, to_step, to_done}
use Rattle.ori_spec_data.specs.Replies.{granted, refused, unbuilt}
use Rattle.ori_spec_texts.specs.Line.{Reads, Says, LineData, statement, tries, step, flush, bag, check, settle}
use Rattle.ori_spec_texts.specs.Line.{checkpoint, reopen, history, StepData, IsStepText, at_end, at_bad_line, at_limit}
use Rattle.ori_spec_texts.specs.Line.{is_try, is_too_long, body_of, IsTaken, Gives}

abbrev ann : RecordData
ann = record {
  rid = rid_at 1 0;
  version = 1;
  class = codes "V";
  fields = pair (codes "name") (str (codes "Ann"))
      no_pairs;
}

row-json : row_json (whole_row ann) ≡ codes "{\"@class\":\"V\",\"@rid\":\"#1:0\",\"@version\":1,\"name\":\"Ann\"}"
unfolding escape_byte digits
row-json = refl

reply : reply_text 1 (granted (whole_row ann ∷ []) 1) ≡ codes
    "1 ROW {\"@class\":\"V\",\"@rid\":\"#1:0\",\"@version\":1,\"name\":\"Ann\"}\n1 OK 1\n"
unfolding escape_byte digits
reply = refl

reply-unbuilt : reply_text 12 (refused unbuilt) ≡ codes "12 ERR Unbuilt\n"
unfolding digits
reply-unbuilt = refl

step-unbuilt : answer_text (to_step unbuilt) ≡ codes "! ERR Unbuilt\n"
step-unbuilt = refl

step-done : answer_text to_done ≡ codes "! OK\n"
step-done = refl

abbrev tx : TxData
tx = record {
  changes = create (temporary 0) (codes "V") (pair (codes "name") (str (codes "Ann")) no_pairs)
      ∷ [];
  made = 1;
}

fresh-ann : fresh initial_base tx ≡ rid_at 1 0 ∷ []
fresh-ann = refl

base : apply_tx initial_base tx ≡ record initial_base { stored = ann ∷ []; next = 1 ∷ 0 ∷ [] }
base = refl

missing : rows_at initial_base.stored (rid_at 1 5) ≡ []
missing = refl

set-is-keyword : is_keyword (codes "set") ≡ true
set-is-keyword = refl

in-is-none : is_keyword (codes "In") ≡ false
in-is-none = refl

reserved : is_reserved (codes "in") ≡ true
reserved = refl

reserved-bag : is_reserved (codes "out_E") ≡ true
reserved-bag = refl

free : is_field_name (codes "outer") ≡ true
free = refl

-- a short escape where there is one, else \u00xx below 0x20, and all else as it stands
escapes : compact_text (json_of (str (8 ∷ 9 ∷ 10 ∷ 12 ∷ 13 ∷ 34 ∷ 92 ∷ 31 ∷ 47 ∷ 127 ∷ 195 ∷ 169 ∷ [])))
    ≡ codes "\"\\b\\t\\n\\f\\r\\\"\\\\\\u001f/" ++ 127 ∷ 195 ∷ 169 ∷ 34 ∷ []
unfolding escape_byte
escapes = refl

document : compact_text (json_of (embedded (codes "Doc") (pair (codes "!") (integer (negsuc 4))
    (pair (codes "a") null no_pairs))))
    ≡ codes "{\"!\":-5,\"@class\":\"Doc\",\"a\":null}"
unfolding escape_byte digits
document = refl

blob : compact_text (json_of (binary (171 ∷ 7 ∷ []))) ≡ codes "\"ab07\""
unfolding escape_byte
blob = refl

lists : compact_text (json_of (embedded_list (more_trees (link_list (rid_at 1 2 ∷ temporary 0 ∷ []))
    (more_trees (link_map (linked (codes "k") (rid_at 3 4) unlinked)) no_trees))))
    ≡ codes "[[\"#1:2\",\"#-1:-2\"],{\"k\":\"#3:4\"}]"
unfolding escape_byte digits
lists = refl

-- a set of links is put in order again, and a repeat is dropped, at any depth
set-relinked : relinked ((temporary 0, rid_at 1 7) ∷ (temporary 1, rid_at 1 3) ∷ [])
    (embedded_map (pair (codes "s") (link_set (temporary 1 ∷ temporary 0 ∷ rid_at 1 3 ∷ rid_at 2 0 ∷ [])) no_pairs))
    ≡ embedded_map (pair (codes "s") (link_set (rid_at 1 3 ∷ rid_at 1 7 ∷ rid_at 2 0 ∷ [])) no_pairs)
set-relinked = refl

last-room : full_cluster 1 (250000 ∷ 0 ∷ []) ≡ None
last-room = refl

no-room : full_cluster 1 (0 ∷ 250001 ∷ []) ≡ Some 2
no-room = refl

nested : nesting (embedded_list (more_trees (embedded_map no_pairs) no_trees)) ≡ 2
nested = refl

is-link : IsLink (codes "#1:5") (rid_at 1 5)
is-link = (
  codes "1",
  codes "5",
  refl,
  inl (1, (omega arith, refl, refl), refl),
  (le_z_yes tt, le_z_yes tt),
  inl
      (5, (omega arith, refl, refl), refl),
  (le_z_yes tt, le_z_yes tt),
)

is-temporary-link : IsLink (codes "#-1:-2") (temporary 0)
is-temporary-link = (
  codes "-1",
  codes "-2",
  refl,
  inr (codes "1", 1, refl, (omega arith, refl, refl), refl),
  (le_z_yes tt, le_z_yes tt),
  inr (codes "2", 2, refl, (omega arith, refl, refl), refl),
  (le_z_yes tt, le_z_yes tt),
)

zeros-in-link : IsLink (codes "#-0:007") (rid_at 0 7)
zeros-in-link = (
  codes "-0",
  codes "007",
  refl,
  inr (codes "0", 0, refl, (omega arith, refl, refl), refl),
  (le_z_yes tt, le_z_yes tt),
  inl (7, (omega arith, refl, refl), refl),
  (le_z_yes tt, le_z_yes tt),
)

least-link : IsLink (codes "#-32768:-9223372036854775808") (record
    { cluster = negsuc 32767; position = negsuc 9223372036854775807 })
least-link = (
  codes "-32768",
  codes "-9223372036854775808",
  refl,
  inr
      (codes "32768", 32768, refl, (omega arith, refl, refl), refl),
  (le_z_yes tt, le_z_yes tt),
  inr
      (codes "9223372036854775808", 9223372036854775808, refl, (omega arith, refl, refl), refl),
  (le_z_yes tt, le_z_yes tt),
)

says-insert : IsStatement (codes "INSERT INTO V SET name = 'Ann'") (inserts (codes "name") (str (codes "Ann")))
says-insert = (codes "name = 'Ann'", (codes "'Ann'", refl, inl (codes "Ann", refl, refl, refl), refl), refl)

-- a number is the least kind that has it
says-number : IsStatement (codes "UPDATE #1:5 SET n = 0042") (updates (rid_at 1 5) (codes "n") (integer (pos 42)))
says-number = (
  codes "#1:5",
  codes "n = 0042",
  is-link,
  (
    codes "0042",
    refl,
    inr
        (inl (42, (omega arith, refl, refl), omega arith, refl)),
    refl,
  ),
  refl,
)

says-long : IsStatement (codes "INSERT INTO V SET n = 2147483648") (inserts (codes "n") (long (pos 2147483648)))
says-long = (
  codes "n = 2147483648",
  (
    codes "2147483648",
    refl,
    inr
        (inl (2147483648, (omega arith, refl, refl), omega arith, refl)),
    refl,
  ),
  refl,
)

says-link : IsStatement (codes "INSERT INTO V SET a = #1:5") (inserts (codes "a") (link (rid_at 1 5)))
says-link = (codes "a = #1:5", (codes "#1:5", refl, inr (inr (rid_at 1 5, is-link, refl)), refl), refl)

says-delete : IsStatement (codes "DELETE VERTEX #1:5") (deletes_vertex (rid_at 1 5))
says-delete = (codes "#1:5", is-link, refl)

comment : Reads 0 (codes "-- a\n" ∷ codes "\n" ∷ codes "\r\n" ∷ []) [] at_end
comment = inl (
  record { short = refl; within = omega arith },
  refl,
  inl (
    record { short = refl; within = omega arith },
    refl,
    inl
        (record { short = refl; within = omega arith }, refl, (refl, refl)),
  ),
)

-- ---- lines

taken : (line : List ℕ) (end : ℕ) → is_too_long line ≡ false → end ≤ 2 ^ 30 → IsTaken line end
taken line end short within = record { short = short; within = within }

insert-line : Reads 0 (codes "1 INSERT INTO V SET name = 'Ann'\r\n" ∷ [])
    (statement 1 (codes "INSERT INTO V SET name = 'Ann'") ∷ []) at_end
unfolding digits is_utf8 chars encode
insert-line = inr (inl (
  _,
  _,
  refl,
  record {
    taken = taken _ _ refl (omega arith);
    counts = refl;
    text = IsUtf8-from_is_utf8
        (codes "1 INSERT INTO V SET name = 'Ann'") refl;
    says = ((omega arith, omega arith), refl, refl);
  },
  (refl, refl),
))

try-line : Says (codes "64 TRY 1000000 x") (tries 64 1000000 (codes "x"))
unfolding digits
try-line = ((omega arith, omega arith), omega arith, omega arith, omega arith, refl)

try-alone : is_try (codes "TRY") ≡ true
try-alone = refl

try-05 : is_try (codes "TRY 05 x") ≡ true
try-05 = refl

no-try : is_try (codes "TRYING") ≡ false
no-try = refl

empty-statement : Says (codes "1 ") (statement 1 [])
unfolding digits
empty-statement = ((omega arith, omega arith), refl, refl)

flush-line : Says (codes "! flush 7") (step (flush 7))
unfolding digits
flush-line = (codes "flush 7", (omega arith, refl), refl)

bag-line : Says (codes "! bag #1:00 in E") (step (bag (rid_at 1 0) into (codes "E")))
unfolding digits
bag-line = (
  codes "bag #1:00 in E",
  (
    codes "#1:00",
    (
      codes "1",
      codes "00",
      refl,
      inl (1, (omega arith, refl, refl), refl),
      (le_z_yes tt, le_z_yes tt),
      inl (0, (omega arith, refl, refl), refl),
      (le_z_yes tt, le_z_yes tt),
    ),
    refl,
    refl,
  ),
  refl,
)

-- one carriage return alone is dropped, before a newline and before the end of input
returns : body_of (codes "a\r\r\n") ≡ codes "a\r"
returns = refl

return-at-end : body_of (codes "a\r") ≡ codes "a"
return-at-end = refl

-- ---- lines of no form

abbrev begins : List ℕ → ℕ → Bool
begins line session = starts_with nat_eq line (decimal session ++ 32 ∷ [])

abbrev begins_below : List ℕ → ℕ → Bool
begins_below line zero = false
begins_below line (suc n) = begins line n || begins_below line n

none-below : (line : List ℕ) (n : ℕ) → begins_below line n ≡ false → (session : ℕ) → session < n
    → begins line session ≡ false
none-below line zero none session below = absurd (omega arith)
none-below line (suc n) none session below =
    let p = or_parts _ _ none in
    elim (cases_eq session n) [ inl same ↦ rw same p.0 | inr other ↦ none-below line n p.1 session (omega arith) ]

begins-own : (line : List ℕ) (session : ℕ) (text : List ℕ) → line ≡ decimal session ++ 32 ∷ text
    → begins line session ≡ true
begins-own line session text e =
    (starts_is Decides-eqb line (decimal session ++ 32 ∷ []) (begins line session) refl).1 text
    (e ∙ sym (append_assoc (decimal session) (32 ∷ []) text))

abbrev NoSession : List ℕ → Type 0
NoSession line = begins_below line 65 ≡ false

-- a line that begins with no session's number and no `!` says nothing
says-nothing : (line : List ℕ) → NoSession line → (slice_index line 0 ≡ 33 → ⊥) → (said : LineData) → Says line said → ⊥
says-nothing line none mark (statement session text) h =
    true≢false (sym (begins-own line session text h.2) ∙ none-below line 65 none session (omega arith))
says-nothing line none mark (tries session count text) h =
    true≢false (sym (begins-own line session (codes "TRY " ++ (decimal count ++ 32 ∷ text)) (h.4 ∙ reordered))
    ∙ none-below line 65 none session (omega arith))
  where
    reordered : decimal session ++ codes " TRY " ++ decimal count ++ 32 ∷ text ≡ decimal session ++ 32
        ∷ (codes "TRY " ++ (decimal count ++ 32 ∷ text))
    reordered = append_assoc (decimal session ++ codes " TRY ") (decimal count) (32 ∷ text)
        ∙ append_assoc (decimal session) (codes " TRY ") (decimal count ++ 32 ∷ text)
says-nothing line none mark (step s) h = mark (ap (λ l. slice_index l 0) h.2)

no-session-65 : NoSession (codes "65 BEGIN")
unfolding digits
no-session-65 = refl

no-session-01 : NoSession (codes "01 BEGIN")
unfolding digits
no-session-01 = refl

no-session-bare : NoSession (codes "1")
unfolding digits
no-session-bare = refl

bad-session : (said : LineData) → Says (codes "65 BEGIN") said → ⊥
bad-session = says-nothing (codes "65 BEGIN") no-session-65 (λ e. omega arith)

bad-zero : (said : LineData) → Says (codes "01 BEGIN") said → ⊥
bad-zero = says-nothing (codes "01 BEGIN") no-session-01 (λ e. omega arith)

bare-session : (said : LineData) → Says (codes "1") said → ⊥
bare-session = says-nothing (codes "1") no-session-bare (λ e. omega arith)

bad-line : Reads 0 (codes "\n" ∷ codes "65 BEGIN\n" ∷ codes "1 BEGIN\n" ∷ []) [] at_bad_line
bad-line = inl (
  taken _ _ refl (omega arith),
  refl,
  inr (inr (inl (
    record {
      taken = taken _ _ refl (omega arith);
      counts = refl;
      none = λ said text says. bad-session said
          says;
    },
    refl,
    refl,
  ))),
)

-- ---- limits of lines and of the input

longest : is_too_long (replicate 4000 97 ++ codes "\r\n") ≡ false
longest = refl

too-long : is_too_long (replicate 4001 97 ++ codes "\n") ≡ true
too-long = refl

last-taken : Reads (2 ^ 30 - 5) (codes "--ab\n" ∷ []) [] at_end
last-taken = inl (record { short = refl; within = omega arith }, refl, (refl, refl))

past-limit : Reads (2 ^ 30 - 4) (codes "--ab\n" ∷ []) [] at_limit
past-limit = inr (inr (inr (inr (refl, omega arith, refl, refl))))

-- the end of the input makes a line of what is left
unfinished : Gives true (codes "a\nb") (codes "a\n" ∷ codes "b" ∷ [])
unfinished = record {
  split = (
    codes "a\n" ∷ [],
    codes "b",
    record {
      whole = refl;
      each = ((codes "a", refl, ((λ e. omega arith), tt)), tt);
      partial = ((λ e. omega arith), tt);
    },
    inr (refl, inl (refl, omega arith)),
  );
}

nothing-left : Gives true (codes "a\n") (codes "a\n" ∷ [])
nothing-left = record {
  split = (
    codes "a\n" ∷ [],
    [],
    record { whole = refl; each = ((codes "a", refl, ((λ e. omega arith), tt)), tt); partial = tt },
    inl (refl, inr refl),
  );
}

no-input : Gives true [] []
no-input = record { split = ([], [], record { whole = refl; each = tt; partial = tt }, inl (refl, inr refl)) }

-- ---- volumes

differs : (a b : ℕ) → a ≡ b → nat_eq a b ≡ false → ⊥
differs a b same other = true≢false (sym ((Decides-eqb a b).1 same) ∙ other)

-- the partitions are 0 to 7
flush-8 : (part : ℕ) → part < 8 → codes "flush 8" ≡ codes "flush " ++ decimal part → ⊥
unfolding digits
flush-8 zero below e = differs 56 48 (ap (λ l. slice_index l 6) e) refl
flush-8 (suc zero) below e = differs 56 49 (ap (λ l. slice_index l 6) e) refl
flush-8 (suc (suc zero)) below e = differs 56 50 (ap (λ l. slice_index l 6) e) refl
flush-8 (suc (suc (suc zero))) below e = differs 56 51 (ap (λ l. slice_index l 6) e) refl
flush-8 (suc (suc (suc (suc zero)))) below e = differs 56 52 (ap (λ l. slice_index l 6) e) refl
flush-8 (suc (suc (suc (suc (suc zero))))) below e = differs 56 53 (ap (λ l. slice_index l 6) e) refl
flush-8 (suc (suc (suc (suc (suc (suc zero)))))) below e = differs 56 54 (ap (λ l. slice_index l 6) e) refl
flush-8 (suc (suc (suc (suc (suc (suc (suc zero))))))) below e = differs 56 55 (ap (λ l. slice_index l 6) e) refl
flush-8 (suc (suc (suc (suc (suc (suc (suc (suc part)))))))) below e = absurd (omega arith)

no-step : (s : StepData) → IsStepText (codes "flush 8") s → ⊥
no-step (flush part) h = flush-8 part h.0 h.1
no-step settle e = differs 102 115 (ap (λ l. slice_index l 0) e) refl
no-step checkpoint e = differs 102 99 (ap (λ l. slice_index l 0) e) refl
no-step reopen e = differs 102 114 (ap (λ l. slice_index l 0) e) refl
no-step history e = differs 102 104 (ap (λ l. slice_index l 0) e) refl
no-step (bag vertex dir class) h = differs 102 98 (ap (λ l. slice_index l 0) h.3) refl
no-step check e = differs 102 99 (ap (λ l. slice_index l 0) e) refl
