-- A hit, as a test and as a fact: the offset is inside the run, and the key there is the target.
use mathlib.Core.Path.{◌≡◌, refl}
use mathlib.Core.List.{List}
use mathlib.Core.Bool.{Bool, true, false, ◌&&◌, false≢true}
use Prim.Native.Nat.{ℕ, ◌≤◌, ◌<◌}
use lib.ListN.{length, get_or}
use lib.Dec.{ltb, eqb}
use borrow.Author.Tests.{ltb-true, lt-ltb, le-ltb, eqb-true, eq-eqb}
use Rattle.seek.specs.declared.Probed.{Probed}
use Rattle.seek.specs.Seek.{hit_at, sought_at}

module _ (run : List ℕ) (t : ℕ) (p : Probed) where
  -- inside the run the comparison decides
  pub hit_inside : p.offset < length run → record { offset = p.offset; probes = p.probes; hit = eqb (get_or run p.offset 0) t } ≡ sought_at run t p
  hit_inside h = simp (lt-ltb p.offset (length run) h)

  -- at its end there is none
  pub hit_outside : length run ≤ p.offset → record { offset = p.offset; probes = p.probes; hit = ltb p.offset (length run) } ≡ sought_at run t p
  hit_outside h = simp (le-ltb p.offset (length run) h)

module _ (run : List ℕ) (t o : ℕ) where
  pub hit_means : hit_at run t o ≡ true → (o < length run) × (get_or run o 0 ≡ t)
  hit_means e = test (ltb o (length run)) refl e
    where
      test : (b : Bool) → ltb o (length run) ≡ b → (b && eqb (get_or run o 0) t) ≡ true → (o < length run) × (get_or run o 0 ≡ t)
      test true i h = (ltb-true o (length run) i, eqb-true (get_or run o 0) t h)
      test false i h = absurd (false≢true h)

  pub hit_given : o < length run → get_or run o 0 ≡ t → hit_at run t o ≡ true
  hit_given h e = simp (lt-ltb o (length run) h, eq-eqb (get_or run o 0) t e)
