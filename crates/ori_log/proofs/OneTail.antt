-- Files have one tail: records are told apart by their bytes.
use Rattle.std.proofs.Common.{◌≡◌, ◌≢◌, ℕ, ◌%◌, ◌==◌, if◌then◌else◌, List, [], ◌∷◌, ◌++◌, length, flat_map, get_or}
use Rattle.std.proofs.Common.{refl, sym, ◌∙◌, ap, ap₂, append_assoc}
use Rattle.std.specs.List.{AllByRecursion}
use Rattle.std.specs.Int.{w32, to_be_bytes}
use Rattle.ori_bytes.specs.declared.limits.TheConstants.{OPEN_GATE}
use Rattle.ori_log.specs.Log.{ImageData, FilesData, image_bytes, body_bytes, record_bytes, IsLogRecord, IsLog, IsTailOf}
use Rattle.ori_log.specs.Log.{IsTail}
use Rattle.ori_log.proofs.Records.{same_front, same_number, same_images}
use Rattle.ori_log.proofs.Reading.{count_small}

-- records that begin the same bytes are the same
same_record : (a b : List ImageData) (x y : List ℕ) → IsLogRecord a → IsLogRecord b → record_bytes a
    ++ x ≡ record_bytes b ++ y → (a ≡ b) × (x ≡ y)
same_record a b x y is_a is_b same =
    let head = same_front (OPEN_GATE ∷ to_be_bytes w32 (length (body_bytes a)))
    (OPEN_GATE ∷ to_be_bytes w32 (length (body_bytes b))) (body_bytes a ++ x) (body_bytes b ++ y) refl same in
    let count = same_front (to_be_bytes w32 (length a)) (to_be_bytes w32 (length b)) (flat_map image_bytes a ++ x)
    (flat_map image_bytes b ++ y) refl head.1 in
    let many : length a ≡ length b =
    same_number (length a) (length b) (count_small a is_a) (count_small b is_b) count.0 in
    same_images 0 0 a b x y is_a.rising is_b.rising many count.1

same_records : (a b : List (List ImageData)) (x y : List ℕ) (g h : ℕ) → AllByRecursion IsLogRecord a
    → AllByRecursion IsLogRecord b → g ≢ OPEN_GATE → h ≢ OPEN_GATE
    → flat_map record_bytes a ++ g ∷ x ≡ flat_map record_bytes b ++ h ∷ y → a ≡ b
same_records [] [] x y g h whole whole' closed closed' same = refl
same_records [] (o ∷ os) x y g h whole whole' closed closed' same =
    absurd (closed (ap (λ (l : List ℕ). get_or l 0 0) same))
same_records (r ∷ rs) [] x y g h whole whole' closed closed' same =
    absurd (closed' (sym (ap (λ (l : List ℕ). get_or l 0 0) same)))
same_records (r ∷ rs) (o ∷ os) x y g h whole whole' closed closed' same =
    let first = same_record r o (flat_map record_bytes rs ++ g ∷ x) (flat_map record_bytes os ++ h ∷ y) whole.0 whole'.0
    (sym (append_assoc (record_bytes r) (flat_map record_bytes rs) (g ∷ x)) ∙ same
    ∙ append_assoc (record_bytes o) (flat_map record_bytes os) (h ∷ y)) in
    ap₂ (λ (a : List ImageData) (l : List (List ImageData)). a ∷ l) first.0
    (same_records rs os x y g h whole.1 whole'.1 closed closed' first.1)

-- the records of a log
pub one_log : (log : List ℕ) (a b : List (List ImageData)) → IsLog log a → IsLog log b → a ≡ b
one_log log a b is_a is_b = same_records a b is_a.1 is_b.1 is_a.0 is_b.0 is_a.4 is_b.4 is_a.3 is_b.3
    (sym is_a.2 ∙ is_b.2)

-- the records in the tail of files
pub one_tail : (files : FilesData) (a b : List (List ImageData)) → IsTail files a → IsTail files b → a ≡ b
one_tail files a b is_a is_b = tails files.master is_a is_b where
  tails : (master : List ℕ) → IsTailOf master files a → IsTailOf master files b → a ≡ b
  tails [] none none' = none ∙ sym none'
  tails (byte ∷ bytes) there there' = one_log (if byte % 2 == 0 then files.log_a else files.log_b) a b there there'
