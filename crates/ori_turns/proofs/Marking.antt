-- What a flush makes of a partition and of the cache.
use Rattle.std.proofs.Common.{◌≡◌, ◌≢◌, ⊎_elim, inl, inr, ℕ, ◌%◌, Bool, true, false, cond, List, Option, Some, None}
use Rattle.std.proofs.Common.{Result, Ok}
use Rattle.std.proofs.Common.{Err, OnOk, OnErr, IsSome, [], ◌∷◌, nat_eq, is_some, ◌<◌, length, refl, sym, ap}
use Rattle.std.proofs.Common.{◌∙◌, subst, arith}
use Rattle.std.proofs.lemmas.Bool.{cases_eq, eq-eqb, ne_eqb}
use Rattle.std.specs.Option.{option_map, option_and_then}
use Rattle.std.specs.Map.{lookup, set_value}
use Rattle.ori_bytes.specs.declared.limits.TheConstants.{PARTITIONS}
use Rattle.ori_volume.specs.Disk.{Files}
use Rattle.ori_volume.specs.Story.{Story, Tells}
use Rattle.ori_page.specs.Spaces.{page_at}
use Rattle.ori_log.specs.declared.log.Log.{Log}
use Rattle.ori_part.specs.declared.place.Place.{Place}
use Rattle.ori_part.specs.Parts.{PartData, has_place, place_at, dirty_at, clean_at, marked, Holds}
use Rattle.ori_cover.specs.Dirty.{Dirty, DirtyPage, unwritten, written, IsMarked}
use Rattle.ori_cover.specs.Steps.{WritesHome}
use Rattle.ori_cover.specs.Reading.{WritesHomeRead}
use Rattle.ori_pool.specs.Held.{dirty_place, dirty_of}
use Rattle.ori_turns.specs.Seats.{Seat, held_part}
use Rattle.ori_turns.specs.Caches.{Cache, AreOwn, GivesCache, IsPart, SamePages, SameHeld, OnlyHeld}
use Rattle.ori_turns.proofs.Homes.{moved, kept_by, marked_by}

-- ---- a mark changes no content

abbrev content_of : Option DirtyPage → Option (List ℕ)
content_of o = option_map (λ (d : DirtyPage). d.content) o

content_in_place : (content : Option (List ℕ)) (is_written : Bool)
    → let place : Place = record { content = content; written = is_written } in
    content ≡ content_of (dirty_place (Some place))
content_in_place None is_written = refl
content_in_place (Some c) is_written = refl

dirty_content : (o : Option Place) → option_and_then (λ (place : Place). place.content) o ≡ content_of (dirty_place o)
dirty_content None = refl
dirty_content (Some place) = content_in_place place.content place.written

same_dirty_content : (page : ℕ) (content : List ℕ) (old new : Dirty) → IsMarked page content old new → (q : ℕ)
    → content_of (new q) ≡ content_of (old q)
same_dirty_content page content old new mark q = ⊎_elim
    (λ (same : q ≡ page). subst (λ n. content_of (new n) ≡ content_of (old n)) (sym same)
    (ap content_of mark.here ∙ sym (ap content_of mark.dirty)))
    (λ (apart : q ≢ page). ap content_of (mark.others q apart))
    (cases_eq q page)

dirty_marked : (part : PartData) (page : ℕ) (content : List ℕ)
    → IsMarked page content (dirty_of part) (dirty_of (marked part page content)) → (q : ℕ)
    → dirty_at (marked part page content) q ≡ dirty_at part q
dirty_marked part page content mark q =
    dirty_content (place_at (marked part page content) q)
    ∙ same_dirty_content page content (dirty_of part) (dirty_of (marked part page content)) mark q
    ∙ sym (dirty_content (place_at part q))

-- what is held with the mark was held without it
pub marked_keeps : (part : PartData) (page : ℕ) (content : List ℕ)
    → IsMarked page content (dirty_of part) (dirty_of (marked part page content)) → (q : ℕ) (l : List ℕ)
    → Holds (marked part page content) q l → Holds part q l
marked_keeps part page content mark q l keeps = ⊎_elim
    (λ (dirty : dirty_at (marked part page content) q ≡ Some l).
    inl (sym (dirty_marked part page content mark q) ∙ dirty))
    (λ (clean : clean_at (marked part page content) q ≡ Some l). inr clean)
    keeps

-- ---- the dirty pages with a mark

abbrev mark_in : ℕ → List ℕ → Dirty → Dirty
mark_in page content dirty q = cond (nat_eq q page) (Some (written content)) (dirty q)

mark_here : (page : ℕ) (content : List ℕ) (dirty : Dirty) → mark_in page content dirty page ≡ Some (written content)
mark_here page content dirty =
    ap (λ b. cond b (Some (written content)) (dirty page)) (eq-eqb page page refl)

mark_other : (page : ℕ) (content : List ℕ) (dirty : Dirty) (q : ℕ) → q ≢ page → mark_in page content dirty q ≡ dirty q
mark_other page content dirty q apart =
    ap (λ b. cond b (Some (written content)) (dirty q)) (ne_eqb q page apart)

is_marked_in : (page : ℕ) (content : List ℕ) (dirty : Dirty) → dirty page ≡ Some (unwritten content)
    → IsMarked page content dirty (mark_in page content dirty)
is_marked_in page content dirty is = record {
  dirty = is;
  here = mark_here page content dirty;
  others = mark_other page content dirty;
}

-- ---- the partition

same_pages : (c : Cache) (now : Dirty) → SamePages c (moved c now)
same_pages c now = record { pages = refl; doubt = refl; records = refl }

part_marked : (c : Cache) (k page : ℕ) (content : List ℕ) (held : PartData)
    → IsMarked page content (dirty_of held) (dirty_of (marked held page content)) → IsPart c k held
    → IsPart (moved c (mark_in page content c.dirty)) k (marked held page content)
part_marked c k page content held mark part = record {
  own = λ q l keeps. part.own q l (marked_keeps held page content mark q l keeps);
  within = λ q l keeps. part.within q l (marked_keeps held page content mark q l keeps);
  contents = λ q l keeps. part.contents q l (marked_keeps held page content mark q l keeps);
  dirty = λ q same. ⊎_elim
      (λ (is : q ≡ page). subst
      (λ n. mark_in page content c.dirty n ≡ dirty_of (marked held page content) n) (sym is)
      (mark_here page content c.dirty ∙ sym mark.here))
      (λ (apart : q ≢ page). mark_other page content c.dirty q apart ∙ part.dirty q same ∙ sym (mark.others q apart))
      (cases_eq q page);
}

-- another handle leaves it
pub part_stays : {D : Type 0} (seat : Seat D) (k : ℕ) (held : PartData) → held_part seat k ≡ Some held
    → (c now : Cache) → SameHeld seat c now → IsPart c k held → IsPart now k held
part_stays seat k held mine c now same part = record {
  own = part.own;
  within = λ q l keeps. subst (λ (p : List (List ℕ)). q < length p) (sym same.same.pages) (part.within q l keeps);
  contents = λ q l keeps. ap (λ (p : List (List ℕ)). page_at p q) same.same.pages ∙ part.contents q l keeps;
  dirty = λ q is. same.held q (subst (λ (o : Option PartData). IsSome o)
      (sym (ap (held_part seat) is ∙ mine)) cc) ∙ part.dirty q is;
}

-- ---- the cache

-- where nothing has changed
pub only_same : {D : Type 0} (seat : Seat D) (c : Cache) → OnlyHeld seat c c
only_same seat c = record {
  same = λ other. record { pages = refl; doubt = refl; records = refl };
  count = omega arith;
  pages = λ q lt free. refl;
  dirty = λ q free. refl;
}

none_some : (o : Option PartData) (held : PartData) → o ≡ None → o ≡ Some held → ⊥
none_some o held none some = cc

module _ {D : Type 0} (seat : Seat D) (k page : ℕ) (content : List ℕ) (held : PartData) (own : page % PARTITIONS ≡ k)
    (mine : held_part seat k ≡ Some held) (is : dirty_of held page ≡ Some (unwritten content)) where
  only_mark : (c : Cache) → OnlyHeld seat c (moved c (mark_in page content c.dirty))
  only_mark c = record {
    same = λ other. same_pages c (mark_in page content c.dirty);
    count = omega arith;
    pages = λ q lt free. refl;
    dirty = λ q free. mark_other page content c.dirty q (λ same.
        none_some (held_part seat (q % PARTITIONS)) held free
        (ap (λ n. held_part seat (n % PARTITIONS)) same ∙ ap (held_part seat) own ∙ mine));
  }

  pub after_flush : {T E : Type 0} (done : Result T E) (new : PartData) (log : Option Log) (halted : Option ℕ)
      (s t : Option Story) (f g : Option Files) → Tells (WritesHome page content done) s t
      → Tells (WritesHomeRead page content done) f g
      → OnOk done ((new ≡ marked held page content) × IsMarked page content (dirty_of held) (dirty_of new))
      → OnErr done (new ≡ held) → (c : Cache) → GivesCache log halted s f c → IsPart c k held
      → (now : Cache) × SamePages c now × OnlyHeld seat c now × GivesCache log halted t g now × IsPart now k new
  after_flush (Ok value) new log halted s t f g told read mark err c gives part =
      let dirty : c.dirty page ≡ Some (unwritten content) = part.dirty page own ∙ is in
      let now : Dirty = mark_in page content c.dirty in (
        moved c now,
        same_pages c now,
        only_mark c,
        marked_by c page content dirty halted s t f g (Ok value) value refl told read now
            (is_marked_in page content c.dirty dirty) log gives,
        subst (λ (p : PartData). IsPart (moved c now) k p) (sym mark.0) (part_marked c k page content held
            (subst (λ (p : PartData). IsMarked page content (dirty_of held) (dirty_of p)) mark.0 mark.1) part),
      )
  after_flush (Err fault) new log halted s t f g told read mark err c gives part =
      let dirty : c.dirty page ≡ Some (unwritten content) = part.dirty page own ∙ is in (
        c,
        record { pages = refl; doubt = refl; records = refl },
        only_same seat c,
        kept_by c page content dirty halted s t f g (Err fault) told read log gives,
        subst (λ (p : PartData). IsPart c k p) (sym err) part,
      )

-- what may be given back after it
pub rule_after : {T E : Type 0} (done : Result T E) (P : PartData → Type 0) (held new with_mark : PartData)
    (X : Type 0) → OnOk done ((new ≡ with_mark) × X) → OnErr done (new ≡ held) → P held → OnOk done (P with_mark)
    → P new
rule_after (Ok value) P held new with_mark X mark err old marked = subst P (sym mark.0) marked
rule_after (Err fault) P held new with_mark X mark err old marked = subst P (sym err) old

pub ok_map : {T E : Type 0} (done : Result T E) (A B : Type 0) → (A → B) → OnOk done A → OnOk done B
ok_map (Ok value) A B step holds = step holds
ok_map (Err fault) A B step holds = tt

pub same_then : (a b c : Cache) → SamePages a b → SamePages b c → SamePages a c
same_then a b c first second = record {
  pages = second.pages ∙ first.pages;
  doubt = second.doubt ∙ first.doubt;
  records = second.records ∙ first.records;
}

-- ---- its places

same_there : (is_one is_this : ℕ → Bool) (es : List (ℕ × Place)) (w : Place)
    → is_some (lookup is_one (set_value is_this es w)) ≡ is_some (lookup is_one es)
same_there is_one is_this [] w = refl
same_there is_one is_this (e ∷ es) w =
    elim (is_this e.0) as (λ b. is_some (lookup is_one (cond b ((e.0, w) ∷ es) (e ∷ set_value is_this es w)))
    ≡ is_some (cond (is_one e.0) (Some e.1) (lookup is_one es))) [
      | true ↦ elim (is_one e.0) as (λ b. is_some (cond b (Some w) (lookup is_one es))
          ≡ is_some (cond b (Some e.1) (lookup is_one es))) [ true ↦ refl | false ↦ refl ]
      | false ↦ elim (is_one e.0) as (λ b. is_some (cond b (Some e.1) (lookup is_one (set_value is_this es w)))
          ≡ is_some (cond b (Some e.1) (lookup is_one es))) [ true ↦ refl | false ↦ same_there is_one is_this es w ]
    ]

own_marked : (k : ℕ) (part : PartData) (page : ℕ) (content : List ℕ) → AreOwn k part
    → AreOwn k (marked part page content)
own_marked k part page content own =
    let same : (q : ℕ) → has_place (marked part page content) q ≡ has_place part q
    = λ q. same_there (nat_eq q) (nat_eq page) part.places _ in
    λ q there. own q (sym (same q) ∙ there)

pub own_after : {T E : Type 0} (done : Result T E) (k : ℕ) (held new : PartData) (page : ℕ) (content : List ℕ)
    (X : Type 0) → OnOk done ((new ≡ marked held page content) × X) → OnErr done (new ≡ held) → AreOwn k held
    → AreOwn k new
own_after (Ok value) k held new page content X mark err own =
    subst (AreOwn k) (sym mark.0) (own_marked k held page content own)
own_after (Err fault) k held new page content X mark err own = subst (AreOwn k) (sym err) own
