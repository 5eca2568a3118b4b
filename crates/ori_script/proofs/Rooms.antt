-- Room for what an opening may leave.
use Rattle.std.proofs.Common.{◌≡◌, ℕ, ◌+◌, List, length, Option, Some, IsSome, sym, ap, ◌∙◌, subst, arith}
use Rattle.ori_bytes.specs.declared.causes.Causes.{Causes}
use Rattle.ori_spec_data.specs.Base.{EntryData}
use Rattle.ori_spec_data.specs.Keeping.{StateData}
use Rattle.ori_model.specs.declared.entry.Entry.{Entry}
use Rattle.ori_model.specs.Data.{entries_of}
use Rattle.ori_engine.specs.KeeperLaws.{entries_length}
use Rattle.ori_engine.specs.Openings.{IsKeptState, IsFresh}
use Rattle.ori_script.specs.declared.past.Past.{Past}
use Rattle.ori_script.specs.Pasts.{HasRoom, IsReady, may_leave, doubt_count}

some_feed : (a b : List EntryData) (o : Option (List EntryData)) → o ≡ Some a → o ≡ Some b → a ≡ b
some_feed a b o is same = cc (is, same)

-- the code's entries are as many as the state's front tells
front_of : (state : StateData) (causes : Causes) → IsKeptState state causes → (es : List Entry)
    → state.feed ≡ Some (entries_of es) → state.front ≡ length es
front_of state causes known es is =
    known.front_is
    ∙ ap (λ (l : List EntryData). length l) (some_feed known.feed (entries_of es) state.feed known.feed_is is)
    ∙ entries_length es

pub room_of : (p : Past) (state : StateData) (causes : Causes) → IsKeptState state causes → (es : List Entry)
    → state.feed ≡ Some (entries_of es) → HasRoom p (may_leave state)
    → HasRoom p (length es + doubt_count state.doubt)
room_of p state causes known es is room =
    subst (λ (n : ℕ). HasRoom p (n + doubt_count state.doubt)) (front_of state causes known es is) room

pub room_none : (p : Past) (n : ℕ) → HasRoom p n → HasRoom p 0
room_none p n room = record { entries = omega (arith, room.entries); marks = omega (arith, room.marks) }

-- a new opening has nothing to leave yet
pub fresh_ready : (p : Past) (state : StateData) → IsFresh state → HasRoom p 0 → IsReady p state
fresh_ready p state fresh room =
    let none : may_leave state ≡ 0 = omega (arith, fresh.front, ap doubt_count fresh.doubt) in
    record {
      room = subst (λ (n : ℕ). HasRoom p n) (sym none) room;
      place = λ some. absurd (cc (subst (λ (d : Option EntryData). IsSome d) fresh.doubt some));
    }
