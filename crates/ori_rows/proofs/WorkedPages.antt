-- Pages and files computed.
use Rattle.std.specs.Prelude.{◌≡◌, [], ◌∷◌, length, take, refl}
use Rattle.std.proofs.Common.{arith}
use mathlib.Core.Logic.{inl, inr}
use Rattle.ori_spec_data.specs.Base.{initial_base}
use Rattle.ori_log.specs.Log.{record_bytes}
use Rattle.ori_rows.specs.Stage.{head_page, Opens}
use Rattle.ori_spec_data.proofs.HistoryLaws.{initial_sound}

head-page : take 20 (head_page 3) ≡ 0 ∷ 0 ∷ 0 ∷ 1 ∷ 1 ∷ 0 ∷ 0 ∷ 0 ∷ 0 ∷ 0 ∷ 0 ∷ 0 ∷ 0 ∷ 0 ∷ 0 ∷ 3 ∷ 0 ∷ 0 ∷ 0 ∷ 0 ∷ []
head-page = refl

head-page-length : length (head_page 3) ≡ 4096
head-page-length = refl

log-record : take 13 (record_bytes (record { page = 5; content = head_page 1 } ∷ [])) ≡ 165 ∷ 0 ∷ 0 ∷ 16 ∷ 8 ∷ 0 ∷ 0 ∷ 0
    ∷ 1 ∷ 0 ∷ 0 ∷ 0 ∷ 5 ∷ []
log-record = refl

empty-opens : Opens (record { master = []; log_a = []; log_b = []; pages = [] }) initial_base
empty-opens = record {
  sound = initial_sound;
  stands = inl (
    record
        { master = refl; log_a = omega arith; log_b = omega arith; pages = refl },
    refl,
  );
}

made-opens : Opens (record { master = 0 ∷ []; log_a = 0 ∷ []; log_b = 0 ∷ []; pages = [] }) initial_base
made-opens = record {
  sound = initial_sound;
  stands = inr (
    [],
    record {
      form = record {
        master = refl;
        log_a = omega arith;
        log_b = omega arith;
        pages = omega arith;
        tail =
            (0, [], refl, (λ e. omega arith), tt);
        homes = λ page below none. absurd (omega arith);
      };
      stands = inl (refl, refl, refl);
    },
  );
}
