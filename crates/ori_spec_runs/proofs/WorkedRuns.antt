-- Worked examples of sessions in one script, computed: what statements mean, how commits are decided, and what is
-- printed.
use Rattle.std.specs.Prelude.{◌≡◌, ℕ, pos, negsuc, [], ◌∷◌, codes, Some, None, refl}
use Rattle.std.specs.Fmt.{digits}
use Rattle.ori_bytes.specs.declared.rid.Rid.{Rid}
use Rattle.ori_bytes.specs.Varint.{groups_of}
use Rattle.json.specs.Print.{escape_byte}
use Rattle.ori_spec_data.specs.Value.{Tree, Fields, integer, link, no_pairs, pair}
use Rattle.ori_spec_data.specs.Base.{BaseData, initial_base, create, update, delete, TxData}
use Rattle.ori_spec_data.specs.Base.{asks_commit}
use Rattle.ori_spec_data.specs.Apply.{rid_at, temporary, apply_tx}
use Rattle.ori_spec_data.specs.Refusing.{conflict, breaks, temporary_link}
use Rattle.ori_spec_texts.specs.Statement.{inserts, updates, deletes_vertex, begins, commits}
use Rattle.ori_spec_texts.specs.Statement.{rolls_back, whole_row}
use Rattle.ori_spec_data.specs.Staging.{no_tx}
use Rattle.ori_spec_data.specs.Views.{ViewData, view_of}
use Rattle.ori_spec_data.specs.Replies.{by_base, in_transaction, no_transaction, refused}
use Rattle.ori_spec_data.specs.Replies.{granted}
use Rattle.ori_spec_texts.specs.Reply.{reply_text, history_text}
use Rattle.ori_spec_runs.specs.Answer.{PlanData, plan_of, with_open, closed, one, whole}
use Rattle.ori_spec_runs.specs.Answer.{asked_by, answered, turned, pending, meaning}
use Rattle.ori_spec_data.specs.Asked.{entry_on}
use Rattle.ori_spec_data.specs.Limits.{FoundData}
use Rattle.ori_spec_runs.specs.Run.{RunData, run_start, cause, reply_on}

abbrev n : ℕ → Tree
n k = integer (pos k)

abbrev with_n : ℕ → Fields
with_n k = pair (codes "n") (n k) no_pairs

abbrev first : Rid
first = rid_at 1 0

abbrev made_first : TxData
made_first = record { changes = create (temporary 0) (codes "V") (with_n 0) ∷ []; made = 1 }

abbrev nothing : ViewData
nothing = record (view_of initial_base) { records = [] }

abbrev insert_plan : PlanData
insert_plan = plan_of (create (temporary 0) (codes "V") (with_n 0) ∷ [])

-- an INSERT outside a transaction is to be committed at once
insert_alone : meaning nothing closed (inserts (codes "n") (n 0)) ≡ pending (one insert_plan)
insert_alone = refl

insert_asks : asked_by (one insert_plan) ≡ asks_commit made_first
insert_asks = refl

abbrev base_one : BaseData
base_one = apply_tx initial_base made_first

insert_printed : reply_text 1 (reply_on base_one (first ∷ []) (one insert_plan)) ≡ codes
    "1 ROW {\"@class\":\"V\",\"@rid\":\"#1:0\",\"@version\":1,\"n\":0}\n1 OK 1\n"
unfolding escape_byte digits
insert_printed = refl

-- two sessions change the record in transactions of their own; one of them makes another record too
abbrev of_one : TxData
of_one = record { changes = update first 1 (with_n 1) ∷ []; made = 0 }

updated : meaning (view_of base_one) (with_open closed (Some no_tx)) (updates first (codes "n") (n 1)) ≡ turned
    (granted [] 1) (with_open closed (Some of_one))
updated = refl

abbrev inserted : TxData
inserted = record { changes = create (temporary 0) (codes "V") (with_n 9) ∷ []; made = 1 }

insert_inside : meaning (view_of base_one) (with_open closed (Some no_tx)) (inserts (codes "n") (n 9))
    ≡ turned (granted (whole_row (record { rid = temporary 0; version = 0; class = codes "V"; fields = with_n 9 }) ∷ [])
    1) (with_open closed (Some inserted))
insert_inside = refl

abbrev of_two : TxData
of_two = record { changes = create (temporary 0) (codes "V") (with_n 9) ∷ update first 1 (with_n 2) ∷ []; made = 1 }

updated_too : meaning (view_of base_one) (with_open closed (Some inserted)) (updates first (codes "n") (n 2)) ≡ turned
    (granted [] 1) (with_open closed (Some of_two))
updated_too = refl

temp_printed : reply_text 2 (granted (whole_row (record {
  rid = temporary 0;
  version = 0;
  class = codes "V";
  fields =
      with_n 9;
}) ∷ []) 1)
    ≡ codes "2 ROW {\"@class\":\"V\",\"@rid\":\"#-1:-2\",\"@version\":0,\"n\":9}\n2 OK 1\n"
unfolding escape_byte digits
temp_printed = refl

-- a base whose log has some room
abbrev in_room : BaseData → FoundData
in_room base = record { base = base; limit = Some 1000000 }

abbrev run_one : RunData
run_one = record (run_start (in_room base_one)) {
  history = entry_on initial_base 1 (asks_commit made_first)
      ∷ [];
  feed = entry_on initial_base 1 (asks_commit made_first) ∷ [];
}

commits_one : meaning (view_of base_one) (with_open closed (Some of_one)) commits ≡ pending (whole of_one)
commits_one = refl

accepted : cause run_one (asks_commit of_one) ≡ None
unfolding groups_of
accepted = refl

abbrev base_two : BaseData
base_two = apply_tx base_one of_one

commit_printed : reply_text 1 (reply_on base_two [] (whole of_one)) ≡ codes "1 OK 1\n"
unfolding digits
commit_printed = refl

abbrev run_two : RunData
run_two = record (run_start (in_room base_two)) {
  history = entry_on initial_base 1 (asks_commit made_first)
      ∷ entry_on base_one 1 (asks_commit of_one) ∷ [];
  feed = entry_on initial_base 1 (asks_commit made_first) ∷ entry_on base_one 1 (asks_commit of_one) ∷ [];
}

-- the other's commit finds the record changed
conflicts : cause run_two (asks_commit of_two) ≡ Some (by_base (conflict first 1 (Some 2)))
unfolding groups_of
conflicts = refl

conflict_printed : reply_text 2 (refused (by_base (conflict first 1 (Some 2)))) ≡ codes
    "2 ERR Conflict #1:0 expected 1 found 2\n"
unfolding digits
conflict_printed = refl

history_printed : history_text run_two.history ≡ codes
    "! HISTORY 0 1 COMMIT +#1:0@1\n! HISTORY 1 1 COMMIT ~#1:0@2\n! OK 2\n"
unfolding digits
history_printed = refl

-- a record that was deleted meanwhile
conflicts_gone : cause (record run_one {
  base = apply_tx base_one (record { changes = delete first 1 ∷ []; made = 0 });
}) (asks_commit of_one) ≡ Some (by_base (conflict first 1 None))
unfolding groups_of
conflicts_gone = refl

gone_printed : reply_text 2 (refused (by_base (conflict first 1 None))) ≡ codes
    "2 ERR Conflict #1:0 expected 1 found none\n"
unfolding digits
gone_printed = refl

-- an identifier is given once
abbrev base_gone : BaseData
base_gone = apply_tx base_one (record { changes = delete first 1 ∷ []; made = 0 })

next_position : (apply_tx base_gone made_first).stored ≡ record
    { rid = rid_at 1 1; version = 1; class = codes "V"; fields = with_n 0 } ∷ []
next_position = refl

-- three updates in one transaction are one change
thrice : meaning (view_of base_one) (with_open closed (Some (record
    { changes = update first 1 (with_n 2) ∷ []; made = 0 }))) (updates first (codes "n") (n 3)) ≡ turned (granted [] 1)
    (with_open closed (Some (record { changes = update first 1 (with_n 3) ∷ []; made = 0 })))
thrice = refl

-- a link that nobody made
abbrev ninth : Rid
ninth = record { cluster = negsuc 0; position = negsuc 8 }

dangles : cause (run_start (in_room initial_base)) (asks_commit (record
    { changes = create (temporary 0) (codes "V") (pair (codes "a") (link ninth) no_pairs) ∷ []; made = 1 }))
    ≡ Some (by_base (breaks (temporary 0) (codes "a") temporary_link))
unfolding groups_of
dangles = refl

dangles_printed : reply_text 1 (refused (by_base (breaks (temporary 0) (codes "a") temporary_link))) ≡ codes
    "1 ERR Schema #-1:-2 a Temporary\n"
unfolding digits
dangles_printed = refl

-- a link to the record itself becomes its identifier
own_link : (apply_tx initial_base (record {
  changes = create (temporary 0) (codes "V")
      (pair (codes "a") (link (temporary 0)) no_pairs) ∷ [];
  made = 1;
})).stored
    ≡ record { rid = first; version = 1; class = codes "V"; fields = pair (codes "a") (link first) no_pairs } ∷ []
own_link = refl

-- transactions that are open or aren't, and links that name no record
begin_twice : meaning nothing (with_open closed (Some no_tx)) begins ≡ answered (refused in_transaction)
begin_twice = refl

commit_outside : meaning nothing closed commits ≡ answered (refused no_transaction)
commit_outside = refl

nothing_to_commit : meaning nothing (with_open closed (Some no_tx)) commits ≡ turned (granted [] 0)
    (with_open closed None)
nothing_to_commit = refl

rolled_back : meaning (view_of base_one) (with_open closed (Some of_one)) rolls_back ≡ turned (granted [] 0)
    (with_open closed None)
rolled_back = refl

no_such_record : meaning nothing closed (updates first (codes "n") (n 1)) ≡ answered (granted [] 0)
no_such_record = refl

deleted_twice : meaning (view_of base_one) (with_open closed (Some
    (record { changes = delete first 1 ∷ []; made = 0 }))) (deletes_vertex first) ≡ turned (granted [] 0)
    (with_open closed (Some (record { changes = delete first 1 ∷ []; made = 0 })))
deleted_twice = refl
