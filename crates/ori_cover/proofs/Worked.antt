-- Cover computed: one page, in the tail alone, written home, torn at home, settled.
use Rattle.std.specs.Prelude.{◌≡◌, ℕ, zero, suc, ◌<◌, ◌≤◌, Bool, true, false, List, [], ◌∷◌, length, Some, None, refl}
use Rattle.std.proofs.Common.{arith, ap, subst, sym, ◌∙◌, true≢false}
use Rattle.std.proofs.lemmas.Option.{none-some}
use Rattle.ori_bytes.specs.declared.limits.TheConstants.{PAGE_BYTES}
use Rattle.ori_volume.specs.Disk.{FileData, firm_file}
use Rattle.ori_volume.specs.Disk.{Files}
use Rattle.std.proofs.Common.{⊎_elim, ◌==◌}
use mathlib.Core.Logic.{inl}
use Rattle.std.proofs.lemmas.Bool.Decides.{nat_tests}
use Rattle.ori_volume.specs.declared.file.FileNo.TheVariants.{LogA}
use Rattle.ori_volume.specs.Disk.{Disk}
use Rattle.ori_log.specs.Images.{behind_gate}
use Rattle.ori_log.specs.Logs.{HoldsOneMore}
use Rattle.ori_log.proofs.Logs.{each_has_either}
use Rattle.ori_cover.specs.Cover.{Covers}
use Rattle.ori_page.specs.Pages.{fresh_page}
use Rattle.ori_page.specs.Spaces.{page_at}
use Rattle.ori_log.specs.Log.{ImageData, images_of, last_image}
use Rattle.ori_log.specs.Log.{record_bytes}
use Rattle.ori_log.specs.Files.{files_data}
use Rattle.ori_log.specs.Logs.{HasTail}
use Rattle.ori_cover.specs.Given.{HoldsPages}
use Rattle.ori_cover.proofs.Given.{gives_whole, gives_pages}
use Rattle.ori_cover.proofs.Holding.{holds_one}
use Rattle.std.specs.List.{AllByRecursion, list_all}
use Rattle.std.proofs.lemmas.Bool.{and_parts}
use Rattle.std.proofs.Common.{ltb-true, ◌++◌, flat_map, nat_lt}
use mathlib.Core.Logic.{inr}
use Rattle.ori_cover.specs.Homes.{IsHome, IsFirmHome}
use Rattle.ori_cover.specs.Dirty.{DirtyPage, Dirty, unwritten, written}
use Rattle.ori_cover.specs.Given.{Gives}
use Rattle.ori_cover.specs.Cover.{IsCovered}
use Rattle.ori_cover.proofs.Homes.{home_firm}
use Rattle.ori_cover.proofs.Given.{image_named}
use Rattle.ori_cover.proofs.Covering.{covered_switched}

abbrev page : List ℕ
page = fresh_page 65537 5

size : length page ≡ PAGE_BYTES
size = refl

-- one record with one image
abbrev records : List (List ImageData)
records = (record { page = 0; content = page } ∷ []) ∷ []

abbrev dirty_as : DirtyPage → Dirty
dirty_as d zero = Some d
dirty_as d (suc p) = None

-- its home, and a home whose write was cut short: any bytes, and any end
at_home : IsHome 0 page page
at_home = record { whole = omega (arith, size); reads = refl }

abbrev torn : FileData
torn = record { bytes = 7 ∷ 0 ∷ 7 ∷ []; loose = λ k. true; least = 0; greatest = PAGE_BYTES }

-- ---- with its image in the tail, whatever the file of pages holds

gives : (file : FileData) → file.greatest ≤ PAGE_BYTES → Gives (page ∷ []) records file
gives file short = record {
  image = image;
  home = home;
  few = omega arith;
  named = omega arith;
  greatest = omega (arith, short);
}
  where
    image : (p : ℕ) (content : List ℕ) → last_image p (images_of records) ≡ Some content
        → page_at (page ∷ []) p ≡ content
    image zero content is = cc is
    image (suc p) content is = absurd (omega (arith, image_named (suc p) content (images_of records) is))

    home : (p : ℕ) → p < 1 → last_image p (images_of records) ≡ None → IsFirmHome p (page_at (page ∷ []) p) file
    home zero within none = absurd (none-some page (sym none))
    home (suc p) within none = absurd (omega arith)

-- dirty, and marked written only where its home reads as it
abbrev page_as : Bool → DirtyPage
page_as mark = record { content = page; written = mark }

dirty_covered : (file : FileData) (mark : Bool) → file.greatest ≤ PAGE_BYTES
    → (mark ≡ true → IsHome 0 page file.bytes)
    → IsCovered (dirty_as (page_as mark)) (page ∷ []) records file
dirty_covered file mark short home =
    record { gives = gives file short; clean = clean; last = last; written = written_home }
  where
    clean : (p : ℕ) → p < 1 → dirty_as (page_as mark) p ≡ None → IsFirmHome p (page_at (page ∷ []) p) file
    clean zero within none = absurd (none-some (page_as mark) (sym none))
    clean (suc p) within none = absurd (omega arith)

    last : (p : ℕ) (e : DirtyPage) → dirty_as (page_as mark) p ≡ Some e
        → last_image p (images_of records) ≡ Some e.content
    last zero e some = let same : page_as mark ≡ e = cc some in ap (λ (x : DirtyPage). Some x.content) same
    last (suc p) e some = absurd (none-some e some)

    written_home : (p : ℕ) (e : DirtyPage) → dirty_as (page_as mark) p ≡ Some e → e.written ≡ true
        → IsHome p e.content file.bytes
    written_home zero e some marked =
        let same : page_as mark ≡ e = cc some in
        subst (λ (x : DirtyPage). IsHome 0 x.content file.bytes) same
        (home (ap (λ (x : DirtyPage). x.written) same ∙ marked))
    written_home (suc p) e some marked = absurd (none-some e some)

-- in the tail alone
in_tail : IsCovered (dirty_as (unwritten page)) (page ∷ []) records (firm_file [])
in_tail = dirty_covered (firm_file []) false (omega arith) (λ marked. absurd (true≢false (sym marked)))

-- its home torn
at_torn : IsCovered (dirty_as (unwritten page)) (page ∷ []) records torn
at_torn = dirty_covered torn false (omega arith) (λ marked. absurd (true≢false (sym marked)))

-- written home, and not yet firm there
at_written : IsCovered (dirty_as (written page)) (page ∷ []) records (record (firm_file page) { loose = λ k. true })
at_written =
    dirty_covered (record (firm_file page) { loose = λ k. true }) true (omega (arith, size)) (λ marked. at_home)

-- ---- at home

clean_covered : (tail : List (List ImageData)) → Gives (page ∷ []) tail (firm_file page)
    → IsCovered (λ p. None) (page ∷ []) tail (firm_file page)
clean_covered tail gives_it = record {
  gives = gives_it;
  clean = λ p within none. home_firm p (page_at (page ∷ []) p) page (home_of_page p within);
  last = λ p d some. absurd (none-some d some);
  written = λ p d some marked. absurd (none-some d some);
}
  where
    home_of_page : (p : ℕ) → p < 1 → IsHome p (page_at (page ∷ []) p) page
    home_of_page zero within = at_home
    home_of_page (suc p) within = absurd (omega arith)

-- settled, with its image in the tail still; and after a switch
settled : IsCovered (λ p. None) (page ∷ []) records (firm_file page)
settled = clean_covered records (gives (firm_file page) (omega (arith, size)))

switched : IsCovered (λ p. None) (page ∷ []) [] (firm_file page)
switched = covered_switched (λ p. None) (page ∷ []) records (firm_file page) settled (λ p. refl)

-- ---- what is no cover

-- a home first: it is torn, and no image is in the tail
home_first : (dirty : Dirty) → IsCovered dirty (page ∷ []) [] torn → ⊥
home_first dirty covered = absurd (omega (arith, (covered.gives.home 0 (omega arith) refl).home.whole))

-- a page marked written before its write was done
marked_early : IsCovered (dirty_as (written page)) (page ∷ []) records torn → ⊥
marked_early covered = absurd (omega (arith, (covered.written 0 (written page) refl refl).whole))

-- a switch before the sync of the pages: the home reads as the page, and a crash may leave any bytes there
switched_early : (dirty : Dirty) → IsCovered dirty (page ∷ []) [] (record (firm_file page) { loose = λ k. true }) → ⊥
switched_early dirty covered =
    absurd (true≢false ((covered.gives.home 0 (omega arith) refl).firm 0 (omega arith) (omega arith)))

-- a page that became clean though its home is only written
settled_early : IsCovered (λ p. None) (page ∷ []) records (record (firm_file page) { loose = λ k. true }) → ⊥
settled_early covered = absurd (true≢false ((covered.clean 0 (omega arith) refl).firm 0 (omega arith) (omega arith)))

-- ---- whole images

bytes_below : (bytes : List ℕ) → list_all (λ b. nat_lt b 256) bytes ≡ true → AllByRecursion (λ b. b < 256) bytes
bytes_below [] all = tt
bytes_below (b ∷ bytes) all = let both = and_parts _ _ all in (ltb-true _ _ both.0, bytes_below bytes both.1)

-- the record in LogA behind an open gate, and a closed gate; any bytes at the page's home
abbrev image_with : List ℕ → Files
image_with home =
    record { master = 0 ∷ []; log_a = flat_map record_bytes records ++ 0 ∷ []; log_b = 0 ∷ []; pages = home }

record_tail : (home : List ℕ) → HasTail records (image_with home)
record_tail home = (
  0,
  [],
  refl,
  (λ same. omega arith),
  (
    record {
      some = omega arith;
      few = omega arith;
      rising = (omega arith, omega arith, refl, bytes_below page refl, tt);
    },
    tt,
  ),
)

-- it holds the page, whatever stands at home
image_of_record : (home : List ℕ) → length home ≤ PAGE_BYTES → HoldsPages (page ∷ []) (image_with home)
image_of_record home short = record {
  records = records;
  form = inr (record {
    master = refl;
    log_a = omega arith;
    log_b = omega arith;
    pages = omega (arith, short);
    tail = record_tail home;
    homes = gives_whole (page ∷ []) (files_data (image_with home)) records (gives (firm_file home) short);
  });
  gives = gives_pages (page ∷ []) records (files_data (image_with home)) (gives (firm_file home) short);
}

-- so what a crash leaves of the write of its home makes no difference
same_pages : (home : List ℕ) (pages : List (List ℕ)) → length home ≤ PAGE_BYTES → HoldsPages pages (image_with home)
    → page ∷ [] ≡ pages
same_pages home pages short holds =
    holds_one (image_with home) (page ∷ []) pages (image_of_record home short) holds

-- ---- an append that stops at its gate: the record stands firm behind it, and the gate is loose

abbrev put_images : List ImageData
put_images = record { page = 0; content = page } ∷ []

abbrev at_gate : Disk
at_gate = record {
  master = firm_file (0 ∷ []);
  log_a = record (firm_file (0 ∷ behind_gate put_images)) { loose = λ k. k == 0 };
  log_b = firm_file (0 ∷ []);
  pages = firm_file [];
}

one_more : HoldsOneMore [] put_images 0 0 at_gate.log_a
one_more = record {
  whole = (
    record {
      some = omega arith;
      few = omega arith;
      rising = (omega arith, omega arith, refl, bytes_below page refl, tt);
    },
    tt,
  );
  reads = refl;
  place_is = refl;
  firm = λ k within other. grind (arith, nat_tests);
  least = omega arith;
  long = omega arith;
}

-- no page covers it, and the one page is in doubt
in_doubt : Covers (λ p. None) [] (page ∷ []) [] at_gate
in_doubt = record {
  sized = record { some = omega arith; one = omega arith; log_a = omega arith; log_b = omega arith };
  covered = record {
    gives = record {
      image = λ p content is. absurd (none-some content is);
      home = λ p within none. absurd (omega (arith, within));
      few = omega arith;
      named = omega arith;
      greatest = omega arith;
    };
    clean = λ p within none. absurd (omega (arith, within));
    last = λ p d some. absurd (none-some d some);
    written = λ p d some marked. absurd (none-some d some);
  };
  tail = λ image allowed. ⊎_elim (λ (tail : HasTail [] image). inl tail)
      (λ (tail : HasTail ([] ++ put_images ∷ []) image). inr (record {
        found = records;
        tail = tail;
        gives = gives (firm_file []) (omega arith);
        named = λ p d some. absurd (none-some d some);
        number = inl refl;
      }))
      (each_has_either [] put_images 0 0 LogA at_gate (record { named = refl; firm = refl; least = omega arith })
      one_more image allowed);
}
