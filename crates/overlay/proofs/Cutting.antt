-- A run cut at one target and then at another, and a run that passes its first key.
use Prim.Native.Nat.{ℕ, suc, ◌≤◌, ◌<◌}
use native.Mathlib.Omega.{arith}
use mathlib.Core.Path.{◌≡◌, refl}
use mathlib.Core.List.{List, [], ◌∷◌}
use lib.ListN.{length, get_or}
use Rattle.relation.specs.Lists.{hd, Ascends}
use Rattle.relation.specs.Runs.{from}
use Rattle.relation.proofs.Lists.{ascends_head}
use Rattle.relation.proofs.Runs.{in_from, from_in, from_ascends, from_least, from_drop}
use Rattle.query.proofs.Meet.{same_keys}

pub from_zero : (xs : List ℕ) → from 0 xs ≡ xs
from_zero xs = from_drop 0 xs 0 (omega arith) (λ i h. absurd (omega arith)) (λ h. omega arith)

pub from_later : {t u : ℕ} {xs : List ℕ} → Ascends ◌<◌ xs → t ≤ u → from u (from t xs) ≡ from u xs
from_later {t} {u} {xs} s h =
    same_keys (from_ascends u (from_ascends t s)) (from_ascends u s)
    (λ k m. from_in u xs (from_least u (from_ascends t s) m) (in_from t xs (in_from u (from t xs) m)))
    (λ k m. let l = from_least u s m in from_in u (from t xs) l (from_in t xs (omega arith) (in_from u xs m)))

pub from_earlier : {t u : ℕ} {xs : List ℕ} → Ascends ◌<◌ xs → u ≤ t → from u (from t xs) ≡ from t xs
from_earlier {t} {u} {xs} s h =
    same_keys (from_ascends u (from_ascends t s)) (from_ascends t s)
    (λ k m. in_from u (from t xs) m)
    (λ k m. let l = from_least t s m in from_in u (from t xs) (omega arith) m)

-- past its first key
pub from_past : {k : ℕ} {xs : List ℕ} → Ascends ◌<◌ (k ∷ xs) → from (suc k) (k ∷ xs) ≡ xs
from_past {k} {xs} a = from_drop (suc k) (k ∷ xs) 1 (omega arith) (λ i b. let z : i ≡ 0 = omega arith in rw z (omega arith)) (λ b. stop xs a (omega arith))
  where
    stop : (xs : List ℕ) → Ascends ◌<◌ (k ∷ xs) → 0 < length xs → suc k ≤ get_or xs 0 0
    stop [] a b = absurd (omega arith)
    stop (y ∷ ys) a b = omega (arith, ascends_head a y (hd refl))
