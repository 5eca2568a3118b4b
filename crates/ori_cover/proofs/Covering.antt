-- Cover through each step, of the file of pages and of the records of the tail.
use Rattle.std.proofs.Common.{◌≡◌, ◌≢◌, inl, inr, ◌⊎◌, ⊎_elim, ℕ, ◌+◌, ◌*◌, ◌<◌, ◌≤◌, max, if◌then◌else◌, Bool, true}
use Rattle.std.proofs.Common.{false, List, [], ◌∷◌, ◌++◌}
use Rattle.std.proofs.Common.{length, Option, Some, None, refl, sym, ◌∙◌, ap, subst, arith, true≢false}
use Rattle.std.proofs.lemmas.Bool.Decides.{eqb_tells}
use Rattle.std.proofs.lemmas.Option.{none-some}
use Rattle.ori_bytes.specs.declared.limits.TheConstants.{PAGE_BYTES}
use Rattle.ori_volume.specs.Disk.{FileData, IsFileImage, firm_file}
use Rattle.ori_volume.specs.Effects.{read_bytes}
use Rattle.ori_page.specs.Spaces.{page_at}
use Rattle.ori_log.specs.Log.{ImageData, images_of, first_of, last_image}
use Rattle.ori_log.specs.Opening.{IsFirm}
use Rattle.ori_log.specs.Switching.{AreHome}
use Rattle.ori_cover.specs.Homes.{IsHome, IsFirmHome, HomesStay, this_page}
use Rattle.ori_cover.specs.Dirty.{DirtyPage, Dirty, unwritten, written, installed_page, settled_page, AreClean}
use Rattle.ori_cover.specs.Dirty.{AreOfTail}
use Rattle.ori_cover.specs.Dirty.{AreInstalled, IsMarked, AreSettled}
use Rattle.ori_cover.specs.Given.{Gives, ArePut}
use Rattle.ori_cover.specs.Cover.{IsCovered}
use Rattle.ori_cover.proofs.Homes.{home_read, firm_image, home_firm}
use Rattle.ori_cover.proofs.Given.{image_named, last_more, gives_image, gives_stay, gives_put}

abbrev pub Records : Type 0
Records = List (List ImageData)

abbrev pub PageList : Type 0
PageList = List (List ℕ)

pub is_dirty : (o : Option DirtyPage) → (o ≡ None) ⊎ ((d : DirtyPage) × (o ≡ Some d))
is_dirty None = inl refl
is_dirty (Some d) = inr (d, refl)

clean_dirty : (o : Option DirtyPage) (d : DirtyPage) → o ≡ None → o ≡ Some d → ⊥
clean_dirty o d none some = none-some d (sym none ∙ some)

content_of : (a b : DirtyPage) → Some a ≡ Some b → a ≡ b
content_of a b same = cc same

if_written : (x : DirtyPage) (b : Bool) → x.written ≡ b → settled_page (Some x) ≡ (if b then None else Some x)
if_written x b mark = ap (λ (c : Bool). if c then None else Some x) mark

by_mark : (x d : DirtyPage) (b : Bool) → x.written ≡ b → settled_page (Some x) ≡ Some d → Some x ≡ Some d
by_mark x d true mark some = absurd (none-some d (sym (if_written x true mark) ∙ some))
by_mark x d false mark some = sym (if_written x false mark) ∙ some

pub settled_some : (o : Option DirtyPage) (d : DirtyPage) → settled_page o ≡ Some d → o ≡ Some d
settled_some None d some = some
settled_some (Some x) d some = by_mark x d x.written refl some

-- ---- the pages that a tail names

installed_none : (o : Option (List ℕ)) → installed_page o None ≡ None → o ≡ None
installed_none None is = refl
installed_none (Some c) is = absurd (none-some (unwritten c) (sym is))

installed_some : (o : Option (List ℕ)) (d : DirtyPage) → installed_page o None ≡ Some d
    → (o ≡ Some d.content) × (unwritten d.content ≡ d)
installed_some None d is = absurd (none-some d is)
installed_some (Some c) d is =
    let same : unwritten c ≡ d = content_of (unwritten c) d is in
    (ap (λ (x : DirtyPage). Some x.content) same, ap (λ (x : DirtyPage). unwritten x.content) (sym same) ∙ same)

-- where these are the dirty pages, each with its last image, the pages are covered as soon as they are given
pub tail_covered : (dirty : Dirty) (pages : PageList) (records : Records) (file : FileData)
    → AreOfTail records dirty → Gives pages records file → IsCovered dirty pages records file
tail_covered dirty pages records file of_tail gives = record {
  gives = gives;
  clean = λ page within none. gives.home page within
      (installed_none (last_image page (images_of records)) (sym (of_tail page) ∙ none));
  last = λ page d some. (installed_some (last_image page (images_of records)) d (sym (of_tail page) ∙ some)).0;
  written = λ page d some mark. absurd (true≢false (sym mark ∙ sym (ap (λ (x : DirtyPage). x.written)
      (installed_some (last_image page (images_of records)) d (sym (of_tail page) ∙ some)).1)));
}

some_first : (o : Option (List ℕ)) (c : List ℕ) → (content : List ℕ) × (first_of o (Some c) ≡ Some content)
some_first None c = (c, refl)
some_first (Some x) c = (x, refl)

-- a page that is named still is, with a record more
pub named_more : (page : ℕ) (records : Records) (images : List ImageData) (c : List ℕ)
    → last_image page (images_of records) ≡ Some c
    → (content : List ℕ) × (last_image page (images_of (records ++ images ∷ [])) ≡ Some content)
named_more page records images c some =
    let first = some_first (last_image page images) c in (
      first.0,
      last_more page records images ∙ ap (λ (o : Option (List ℕ)). first_of (last_image page images) o) some
          ∙ first.1,
    )

-- once each dirty page is written, none is dirty after a sync
pub settled_clean : (dirty now : Dirty)
    → ((page : ℕ) (d : DirtyPage) → dirty page ≡ Some d → d.written ≡ true) → AreSettled dirty now → AreClean now
settled_clean dirty now all settled page = settled page ∙ by_dirt (dirty page) (all page)
  where
    by_dirt : (o : Option DirtyPage) → ((d : DirtyPage) → o ≡ Some d → d.written ≡ true) → settled_page o ≡ None
    by_dirt None each = refl
    by_dirt (Some d) each = if_written d true (each d refl)

module _ (dirty : Dirty) (pages : PageList) (records : Records) (file : FileData)
    (covered : IsCovered dirty pages records file) where
  -- a dirty page's content is the page's
  pub dirty_content : (page : ℕ) (d : DirtyPage) → dirty page ≡ Some d → page_at pages page ≡ d.content
  dirty_content page d is = covered.gives.image page d.content (covered.last page d is)

  pub dirty_below : (page : ℕ) (d : DirtyPage) → dirty page ≡ Some d → page < length pages
  dirty_below page d is =
      omega (arith, image_named page d.content (images_of records) (covered.last page d is), covered.gives.named)

  -- a page's home is stably it, or it is dirty; its home reads as it, or it is dirty and unwritten
  pub firm_or_dirty : (page : ℕ) → page < length pages
      → IsFirmHome page (page_at pages page) file ⊎ ((d : DirtyPage) × (dirty page ≡ Some d))
  firm_or_dirty page within =
      ⊎_elim (λ (none : dirty page ≡ None). inl (covered.clean page within none))
      (λ (some : (d : DirtyPage) × (dirty page ≡ Some d)). inr some) (is_dirty (dirty page))

  pub home_or_unwritten : (page : ℕ) → page < length pages
      → IsHome page (page_at pages page) file.bytes ⊎ (dirty page ≡ Some (unwritten (page_at pages page)))
  home_or_unwritten page within =
      ⊎_elim (λ (none : dirty page ≡ None). inl (covered.clean page within none).home)
      (λ (some : (d : DirtyPage) × (dirty page ≡ Some d)). by_mark_of some.0 some.0.written refl some.1)
      (is_dirty (dirty page))
    where
      by_mark_of : (d : DirtyPage) (b : Bool) → d.written ≡ b → dirty page ≡ Some d
          → IsHome page (page_at pages page) file.bytes ⊎ (dirty page ≡ Some (unwritten (page_at pages page)))
      by_mark_of d true mark some = inl
          (subst (λ (c : List ℕ). IsHome page c file.bytes) (sym (dirty_content page d some))
          (covered.written page d some mark))
      by_mark_of d false mark some = inr
          (some ∙ ap (λ (x : DirtyPage). Some x) (λ i. record {
            content = sym (dirty_content page d some) i;
            written = mark i;
          }))

  -- a read of the home of a page that isn't dirty gives the page
  pub read_clean : (page : ℕ) → page < length pages → dirty page ≡ None
      → read_bytes file.bytes (PAGE_BYTES * page) PAGE_BYTES ≡ page_at pages page
  read_clean page within none = home_read page (page_at pages page) file.bytes (covered.clean page within none).home

  -- a write of an unwritten page's home, whole, torn or behind a gap
  pub covered_stay : (page : ℕ) (content : List ℕ) (new : FileData) → dirty page ≡ Some (unwritten content)
      → HomesStay (this_page page) file new → new.greatest ≤ max file.greatest (PAGE_BYTES * (page + 1))
      → IsCovered dirty pages records new
  covered_stay page content new is stay long = record {
    gives = gives_stay pages records page content file new covered.gives
        (covered.last page (unwritten content) is) stay long;
    clean = λ other within none.
        stay.firm other (page_at pages other) (λ same. clean_dirty (dirty page) (unwritten content)
        (subst (λ (p : ℕ). dirty p ≡ None) same none) is) (covered.clean other within none);
    last = covered.last;
    written = λ other d some mark.
        stay.reads other d.content (λ same. true≢false (sym mark ∙ ap (λ (x : DirtyPage). x.written)
        (content_of d (unwritten content) (sym some ∙ ap dirty same ∙ is)))) (covered.written other d some mark);
  }

  -- its mark, once its home reads as its content
  pub covered_marked : (page : ℕ) (content : List ℕ) (now : Dirty) → IsMarked page content dirty now
      → IsHome page content file.bytes → IsCovered now pages records file
  covered_marked page content now marked home = record {
    gives = covered.gives;
    clean = λ other within none. covered.clean other within (other_or other (dirty other ≡ None)
        (λ here. absurd (clean_dirty (now page) (written content) (subst (λ (p : ℕ). now p ≡ None) here none)
        marked.here)) (λ apart. sym (marked.others other apart) ∙ none));
    last = λ other d some. other_or other (last_image other (images_of records) ≡ Some d.content)
        (λ here. ap (λ (p : ℕ). last_image p (images_of records)) here
        ∙ covered.last page (unwritten content) marked.dirty
        ∙ ap (λ (x : DirtyPage). Some x.content) (marked_here other d here some))
        (λ apart. covered.last other d (sym (marked.others other apart) ∙ some));
    written = λ other d some mark. other_or other (IsHome other d.content file.bytes)
        (λ here. subst (λ (p : ℕ). IsHome p d.content file.bytes) (sym here)
        (subst (λ (x : DirtyPage). IsHome page x.content file.bytes) (marked_here other d here some) home))
        (λ apart. covered.written other d (sym (marked.others other apart) ∙ some) mark);
  }
    where
      other_or : (other : ℕ) (P : Type 0) → (other ≡ page → P) → (other ≢ page → P) → P
      other_or other P here apart =
          ⊎_elim (λ (is : (_ ≡ true) × (other ≡ page)). here is.1)
          (λ (isnt : (_ ≡ false) × (other ≢ page)). apart isnt.1)
          (eqb_tells other page)

      marked_here : (other : ℕ) (d : DirtyPage) → other ≡ page → now other ≡ Some d → written content ≡ d
      marked_here other d here some = content_of (written content) d (sym marked.here ∙ ap now (sym here) ∙ some)

  -- a sync: written pages become clean
  pub covered_settled : (now : Dirty) → IsFileImage file file.bytes → AreSettled dirty now
      → IsCovered now pages records (firm_file file.bytes)
  covered_settled now sound settled = record {
    gives = gives_image pages records file file.bytes covered.gives sound;
    clean = λ page within none. by_dirt page within (dirty page) refl (sym (settled page) ∙ none);
    last = λ page d some. covered.last page d (still page d some);
    written = λ page d some mark. covered.written page d (still page d some) mark;
  }
    where
      still : (page : ℕ) (d : DirtyPage) → now page ≡ Some d → dirty page ≡ Some d
      still page d some = settled_some (dirty page) d (sym (settled page) ∙ some)

      by_written : (page : ℕ) (x : DirtyPage) (b : Bool) → dirty page ≡ Some x → x.written ≡ b
          → settled_page (dirty page) ≡ None → IsFirmHome page (page_at pages page) (firm_file file.bytes)
      by_written page x true is mark none =
          subst (λ (c : List ℕ). IsFirmHome page c (firm_file file.bytes)) (sym (dirty_content page x is))
          (home_firm page x.content file.bytes (covered.written page x is mark))
      by_written page x false is mark none =
          absurd (none-some x (sym none ∙ ap settled_page is ∙ if_written x false mark))

      by_dirt : (page : ℕ) → page < length pages → (o : Option DirtyPage) → dirty page ≡ o
          → settled_page (dirty page) ≡ None → IsFirmHome page (page_at pages page) (firm_file file.bytes)
      by_dirt page within None is none =
          firm_image page (page_at pages page) file file.bytes (covered.clean page within is) sound
      by_dirt page within (Some x) is none = by_written page x x.written is refl none

  -- a sync with no change of the dirty pages
  pub covered_synced : IsFileImage file file.bytes → IsCovered dirty pages records (firm_file file.bytes)
  covered_synced sound = record {
    gives = gives_image pages records file file.bytes covered.gives sound;
    clean = λ page within none.
        firm_image page (page_at pages page) file file.bytes (covered.clean page within none) sound;
    last = covered.last;
    written = covered.written;
  }

  -- a record more, whose images are installed
  pub covered_installed : (images : List ImageData) (new : PageList) (now : Dirty) → ArePut images pages new
      → AreInstalled images dirty now → IsCovered now new (records ++ images ∷ []) file
  covered_installed images new now put installed = record {
    gives = gives_put images records pages new file covered.gives put;
    clean = λ page within none. by_image page within (last_image page images) refl (sym (installed page) ∙ none);
    last = λ page d some. last_more page records images
        ∙ last_there page d (last_image page images) refl (sym (installed page) ∙ some);
    written = λ page d some mark. written_there page d (last_image page images) refl (sym (installed page) ∙ some) mark;
  }
    where
      install : (page : ℕ) (o : Option (List ℕ)) (P : Option DirtyPage → Type 0) → last_image page images ≡ o
          → P (installed_page (last_image page images) (dirty page)) → P (installed_page o (dirty page))
      install page o P is holds = subst (λ (x : Option (List ℕ)). P (installed_page x (dirty page))) is holds

      by_image : (page : ℕ) → page < length new → (o : Option (List ℕ)) → last_image page images ≡ o
          → installed_page (last_image page images) (dirty page) ≡ None → IsFirmHome page (page_at new page) file
      by_image page within None is none =
          subst (λ (c : List ℕ). IsFirmHome page c file) (sym (put.kept page is))
          (covered.clean page (put.there page within is) (install page None (λ o. o ≡ None) is none))
      by_image page within (Some c) is none =
          absurd (none-some (unwritten c) (sym (install page (Some c) (λ o. o ≡ None) is none)))

      last_there : (page : ℕ) (d : DirtyPage) (o : Option (List ℕ)) → last_image page images ≡ o
          → installed_page (last_image page images) (dirty page) ≡ Some d
          → first_of (last_image page images) (last_image page (images_of records)) ≡ Some d.content
      last_there page d None is some =
          ap (λ (o : Option (List ℕ)). first_of o (last_image page (images_of records))) is
          ∙ covered.last page d (install page None (λ o. o ≡ Some d) is some)
      last_there page d (Some c) is some =
          ap (λ (o : Option (List ℕ)). first_of o (last_image page (images_of records))) is
          ∙ ap (λ (x : DirtyPage). Some x.content)
          (content_of (unwritten c) d (install page (Some c) (λ o. o ≡ Some d) is some))

      written_there : (page : ℕ) (d : DirtyPage) (o : Option (List ℕ)) → last_image page images ≡ o
          → installed_page (last_image page images) (dirty page) ≡ Some d → d.written ≡ true
          → IsHome page d.content file.bytes
      written_there page d None is some mark =
          covered.written page d (install page None (λ o. o ≡ Some d) is some) mark
      written_there page d (Some c) is some mark =
          absurd (true≢false (sym mark ∙ sym (ap (λ (x : DirtyPage). x.written)
          (content_of (unwritten c) d (install page (Some c) (λ o. o ≡ Some d) is some)))))

  -- ---- a switch, once no page is dirty

  module _ (clean : AreClean dirty) where
    -- every home is stably its page
    pub all_home : (page : ℕ) → page < length pages → IsFirmHome page (page_at pages page) file
    all_home page within = covered.clean page within (clean page)

    -- the homes alone give the pages
    pub homes_give : Gives pages [] file
    homes_give = record {
      image = λ page content is. absurd (none-some content is);
      home = λ page within none. all_home page within;
      few = covered.gives.few;
      named = omega arith;
      greatest = covered.gives.greatest;
    }

    pub covered_switched : IsCovered dirty pages [] file
    covered_switched = record {
      gives = homes_give;
      clean = covered.clean;
      last = λ page d some. absurd (clean_dirty (dirty page) d (clean page) some);
      written = covered.written;
    }

    pub are_home : IsFirm file → AreHome records file
    are_home firm = record {
      firm = firm;
      whole = λ page content is. (home_here page content is).home.whole;
      home = λ page content is. (home_here page content is).home.reads ∙ covered.gives.image page content is;
    }
      where
        home_here : (page : ℕ) (content : List ℕ) → last_image page (images_of records) ≡ Some content
            → IsFirmHome page (page_at pages page) file
        home_here page content is =
            all_home page (omega (arith, image_named page content (images_of records) is, covered.gives.named))
