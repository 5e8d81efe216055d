-- Where probing from the front ends and what it costs, for any run: an induction on the keys.
use mathlib.Core.Path.{◌≡◌, refl}
use mathlib.Core.List.{List, [], ◌∷◌}
use mathlib.Core.Bool.{Bool, true, false}
use Prim.Native.Nat.{ℕ, zero, suc, ◌+◌, ◌≤◌, ◌<◌, min}
use native.Mathlib.Omega.{arith}
use lib.ListN.{length, get_or}
use lib.Dec.{ltb}
use borrow.Author.Tests.{ltb-true, ltb-false}
use Rattle.seek.specs.declared.Probed.{Probed}
use Rattle.seek.specs.Seek.{scans, linear_of}
use Rattle.seek.specs.Offset.{Leading}

-- o of the keys that follow the first i are passed
record Scanned (run : List ℕ) (t i : ℕ) (s : Probed) : Type 0 where
  o : ℕ
  there : s.offset ≡ i + o
  leads : Leading run t o
  cost : s.probes ≡ i + min (o + 1) (length run)

at_front : (run : List ℕ) (t : ℕ) → (0 < length run → t ≤ get_or run 0 0) → Leading run t 0
at_front run t h = record { inside = omega arith; before = λ k l. absurd (omega arith); stops = h }

scanned : (run : List ℕ) (t i : ℕ) → Scanned run t i (scans run t i)
unfolding scans
scanned [] t i = record { o = 0; there = omega arith; leads = at_front [] t (λ h. absurd (omega arith)); cost = omega arith }
scanned (key ∷ rest) t i = go (scanned rest t (i + 1)) (ltb key t) refl
  where
    earlier : (o : ℕ) → key < t → ((k : ℕ) → k < o → get_or rest k 0 < t) → (k : ℕ) → k < suc o → get_or (key ∷ rest) k 0 < t
    earlier o h b zero l = h
    earlier o h b (suc k) l = b k (omega arith)

    go : Scanned rest t (i + 1) (scans rest t (i + 1)) → (b : Bool) → ltb key t ≡ b → Scanned (key ∷ rest) t i (scans (key ∷ rest) t i)
    go ih true q = simp (scans, q) (record {
      o = suc ih.o;
      there = omega arith;
      leads = record {
        inside = omega arith;
        before = earlier ih.o (ltb-true key t q) ih.leads.before;
        stops = λ h. ih.leads.stops (omega arith);
      };
      cost = omega arith;
    })
    go ih false q =
        simp (scans, q) (record { o = 0; there = omega arith; leads = at_front (key ∷ rest) t (λ h. ltb-false key t q); cost = omega arith })

-- the offset of probing from the front leads, whatever the run
pub linear_leading : (run : List ℕ) (t : ℕ) → Leading run t (linear_of run t).offset
linear_leading run t =
    let s = scanned run t 0 in
    let e : (linear_of run t).offset ≡ s.o = omega arith in
    rw e s.leads

-- probing from the front looks at the keys passed and the one that stops it, or at every key
pub linear_cost : (run : List ℕ) (t : ℕ) → (linear_of run t).probes ≡ min ((linear_of run t).offset + 1) (length run)
linear_cost run t =
    let s = scanned run t 0 in
    omega arith
