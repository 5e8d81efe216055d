-- Public: the rules of seeking, executable, for any run.
use Rattle.std.specs.Prelude.{ℕ, zero, suc, ◌+◌, ◌-◌, ◌*◌, ◌/◌, min, List, [], ◌∷◌, Bool, true, false, ◌&&◌, length, get_or, ltb, eqb}
use Rattle.seek.specs.declared.Probed.{Probed}
use Rattle.seek.specs.declared.Sought.{Sought}
use Rattle.seek.specs.declared.SeekStrategy.{SeekStrategy}
use Rattle.seek.specs.declared.SeekStrategy.TheVariants.{Linear, Binary, Galloping}

abbrev pub probed : ℕ → ℕ → Probed
probed offset probes = record { offset = offset; probes = probes }

-- where lo..hi is probed
abbrev pub mid_of : ℕ → ℕ → ℕ
mid_of lo hi = lo + (hi - lo) / 2

-- The halving rule on lo..hi after p probes, by at most `fuel` more: a key below the target moves lo past it, any other moves hi to it.
unfoldable pub halves : ℕ → List ℕ → ℕ → ℕ → ℕ → ℕ → Probed
halves zero run t lo hi p = probed lo p
halves (suc fuel) run t lo hi p =
    elim (ltb lo hi) [
      | false ↦ probed lo p
      | true ↦ elim (ltb (get_or run (mid_of lo hi) 0) t) [
        | true ↦ halves fuel run t (mid_of lo hi + 1) hi (p + 1)
        | false ↦ halves fuel run t lo (mid_of lo hi) (p + 1)
      ]
    ]

-- as many probes as lo..hi has keys are enough
abbrev pub halving : List ℕ → ℕ → ℕ → ℕ → ℕ → Probed
halving run t lo hi p = halves (hi - lo) run t lo hi p

-- Probes from the front: i keys have been passed, and `rest` is what follows them.
unfoldable pub scans : List ℕ → ℕ → ℕ → Probed
scans [] t i = probed i i
scans (key ∷ rest) t i = elim (ltb key t) [ true ↦ scans rest t (i + 1) | false ↦ probed i (i + 1) ]

-- Probes bound, 2 * bound, .. while inside the run and below, by at most `fuel` probes, then halves strictly between the last bound below and the smaller of the bound and the length.
unfoldable pub gallops : ℕ → List ℕ → ℕ → ℕ → ℕ → Probed
gallops zero run t bound p = halving run t (bound / 2 + 1) (min bound (length run)) p
gallops (suc fuel) run t bound p =
    elim (ltb bound (length run)) [
      | false ↦ halving run t (bound / 2 + 1) (min bound (length run)) p
      | true ↦ elim (ltb (get_or run bound 0) t) [
        | true ↦ gallops fuel run t (bound * 2) (p + 1)
        | false ↦ halving run t (bound / 2 + 1) (min bound (length run)) (p + 1)
      ]
    ]

abbrev pub linear_of : List ℕ → ℕ → Probed
linear_of run t = scans run t 0

abbrev pub binary_of : List ℕ → ℕ → Probed
binary_of run t = halving run t 0 (length run) 0

-- nothing on an empty run; else probe 0, and gallop from 1
unfoldable pub galloping_of : List ℕ → ℕ → Probed
galloping_of run t =
    elim (ltb 0 (length run)) [
      | false ↦ probed 0 0
      | true ↦ elim (ltb (get_or run 0 0) t) [ true ↦ gallops (length run) run t 1 1 | false ↦ probed 0 1 ]
    ]

-- where the strategy's probes end
abbrev pub probed_by : SeekStrategy → List ℕ → ℕ → Probed
probed_by Linear run t = linear_of run t
probed_by Binary run t = binary_of run t
probed_by Galloping run t = galloping_of run t

-- the offset is inside the run, and the key there is the target
abbrev pub hit_at : List ℕ → ℕ → ℕ → Bool
hit_at run t o = ltb o (length run) && eqb (get_or run o 0) t

-- where the probes ended, how many they were, and whether that is a hit
abbrev pub sought_at : List ℕ → ℕ → Probed → Sought
sought_at run t p = record { offset = p.offset; probes = p.probes; hit = hit_at run t p.offset }

abbrev pub seek_of : SeekStrategy → List ℕ → ℕ → Sought
seek_of s run t = sought_at run t (probed_by s run t)
