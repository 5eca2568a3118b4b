-- Worked examples of sizes, weights, refusals and overlays, computed.
use Rattle.std.specs.Prelude.{◌≡◌, ℕ, ◌+◌, ◌-◌, ◌*◌, ◌^◌, true, pos, negsuc, [], ◌∷◌, codes, Some, None, refl}
use Rattle.ori_bytes.specs.declared.rid.Rid.{Rid}
use Rattle.ori_bytes.specs.Varint.{groups_of}
use Rattle.ori_spec_data.specs.Value.{Tree, Fields, null, boolean, integer, short, long, datetime, str, binary}
use Rattle.ori_spec_data.specs.Value.{embedded, embedded_list, embedded_map, link, link_list, link_set, link_map, byte}
use Rattle.ori_spec_data.specs.Value.{more_trees, no_trees, no_pairs, pair, unlinked, linked}
use Rattle.ori_spec_data.specs.Base.{BaseData, initial_base, create, update, delete, TxData, commit}
use Rattle.ori_spec_data.specs.Apply.{rid_at, temporary, apply_tx}
use Rattle.ori_spec_data.specs.Sizes.{record_size, varint_size}
use Rattle.ori_spec_data.specs.Weighing.{weight, entry_bytes, log_need}
use Rattle.ori_spec_data.specs.Refusing.{refusal, conflict, breaks, temporary_link, no_class}
use Rattle.ori_spec_data.specs.Views.{overlay}

size_ann : record_size (codes "V") (pair (codes "name") (str (codes "Ann")) no_pairs) ≡ 22
unfolding groups_of
size_ann = refl

-- a class Doc, a number and a null
size_doc : record_size (codes "Doc") (pair (codes "a") (integer (pos 5)) (pair (codes "b") null no_pairs)) ≡ 25
unfolding groups_of
size_doc = refl

-- a record of class V with one field, f: 15 bytes beside the value's
abbrev size_with : Tree → ℕ
size_with t = record_size (codes "V") (pair (codes "f") t no_pairs)

abbrev five : Fields
five = pair (codes "a") (integer (pos 5)) no_pairs

size_boolean : size_with (boolean true) ≡ 15 + 1
unfolding groups_of
size_boolean = refl

size_short : size_with (short (pos 300)) ≡ 15 + 2
unfolding groups_of
size_short = refl

size_long : size_with (long (pos (2 ^ 63 - 1))) ≡ 15 + 10
unfolding groups_of
size_long = refl

size_datetime : size_with (datetime (negsuc 0)) ≡ 15 + 1
unfolding groups_of
size_datetime = refl

size_binary : size_with (binary (1 ∷ 2 ∷ [])) ≡ 15 + 3
unfolding groups_of
size_binary = refl

-- an empty class, an entry of the header, its end, the value
size_embedded : size_with (embedded [] five) ≡ 15 + (1 + 7 + 1 + 1)
unfolding groups_of
size_embedded = refl

size_list : size_with (embedded_list (more_trees (integer (pos 5)) (more_trees null no_trees))) ≡ 15 + (1 + 2 + 1)
unfolding groups_of
size_list = refl

size_map : size_with (embedded_map five) ≡ 15 + (1 + 2 + 1 + 1)
unfolding groups_of
size_map = refl

size_link : size_with (link (rid_at 3 1)) ≡ 15 + 2
unfolding groups_of
size_link = refl

size_link_list : size_with (link_list (rid_at 3 1 ∷ rid_at 3 1 ∷ [])) ≡ 15 + (1 + 4)
unfolding groups_of
size_link_list = refl

size_link_set : size_with (link_set (rid_at 3 1 ∷ [])) ≡ 15 + (1 + 2)
unfolding groups_of
size_link_set = refl

size_link_map : size_with (link_map (linked (codes "a") (rid_at 3 1) unlinked)) ≡ 15 + (1 + 2 + 2)
unfolding groups_of
size_link_map = refl

size_byte : size_with (byte (negsuc 0)) ≡ 15 + 1
unfolding groups_of
size_byte = refl

size_longest : varint_size (pos (2 ^ 63 - 1)) ≡ 10
unfolding groups_of
size_longest = refl

-- what the entry of a new record counts in the feed: 64 and the record's 22
feed_ann : entry_bytes (commit 1 (record {
  changes = create (temporary 0) (codes "V")
      (pair (codes "name") (str (codes "Ann")) no_pairs) ∷ [];
  made = 1;
}) (rid_at 1 0 ∷ [])) ≡ 86
unfolding groups_of
feed_ann = refl

-- two pages, and what stands around them
need_ann : log_need (record {
  changes = create (temporary 0) (codes "V")
      (pair (codes "name") (str (codes "Ann")) no_pairs) ∷ [];
  made = 1;
}) ≡ 10 + 2 * 4100
need_ann = refl

abbrev number : ℕ → Fields
number n = pair (codes "n") (integer (pos n)) no_pairs

abbrev one : TxData
one = record { changes = create (temporary 0) (codes "V") (number 0) ∷ []; made = 1 }

weight_one : weight initial_base one ≡ 109
unfolding groups_of
weight_one = refl

abbrev after_one : BaseData
after_one = apply_tx initial_base one

abbrev change_of_one : ℕ → TxData
change_of_one version = record { changes = update (rid_at 1 0) version (number 1) ∷ []; made = 0 }

abbrev after_two : BaseData
after_two = apply_tx after_one (change_of_one 1)

fresh_version : refusal after_one (change_of_one 1) ≡ None
unfolding groups_of
fresh_version = refl

-- another session has changed the record, or has deleted it
changed : refusal after_two (change_of_one 1) ≡ Some (conflict (rid_at 1 0) 1 (Some 2))
changed = refl

gone : refusal (apply_tx after_one (record { changes = delete (rid_at 1 0) 1 ∷ []; made = 0 })) (change_of_one 1) ≡ Some
    (conflict (rid_at 1 0) 1 None)
gone = refl

abbrev ninth : Rid
ninth = record { cluster = negsuc 0; position = negsuc 8 }

dangling : refusal initial_base (record {
  changes = create (temporary 0) (codes "V")
      (pair (codes "a") (embedded_list (more_trees (link_list (ninth ∷ [])) no_trees)) no_pairs) ∷ [];
  made = 1;
})
    ≡ Some (breaks (temporary 0) (codes "a") temporary_link)
dangling = refl

no_such_class : refusal initial_base (record {
  changes = create (temporary 0) (codes "X") (number 0)
      ∷ [];
  made = 1;
}) ≡ Some (breaks (temporary 0) (codes "-") no_class)
no_such_class = refl

shown : (overlay after_two (record {
  changes = create (temporary 0) (codes "V") (number 7) ∷ delete (rid_at 1 0) 2
      ∷ [];
  made = 1;
})).stored
    ≡ record { rid = temporary 0; version = 0; class = codes "V"; fields = number 7 } ∷ []
shown = refl
