-- The numbers of the sessions of a run.
use Rattle.std.specs.Prelude.{◌≡◌, ◌+◌, ◌<◌, ℕ, List, map, length, get_or}
use Rattle.ori_bytes.specs.declared.limits.TheConstants.{MAX_SESSIONS}
use Rattle.ori_session.specs.declared.session.Session.{Session}

abbrev pub numbers_of : List Session → List ℕ
numbers_of ss = map (λ s. s.number) ss

-- there is each session, and they are in the order of their numbers, which count from 1
abbrev pub AreNumbered : List Session → Type 0
AreNumbered ss = (length ss ≡ MAX_SESSIONS) × ((i : ℕ) → i < MAX_SESSIONS → get_or (numbers_of ss) i 0 ≡ i + 1)
