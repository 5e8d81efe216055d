-- A run that is a merge begins with a stretch of one of the two. Idea: an ascending list is determined by its members.
use mathlib.Core.Path.{◌≡◌, refl, sym, subst, ap, ◌∙◌}
use mathlib.Core.Logic.{◌⊎◌, inl, inr, ⊎_elim}
use mathlib.Core.List.Memᴰ
use mathlib.Core.List.{List, ◌∷◌, ◌++◌}
use Prim.Native.Nat.{ℕ, ◌+◌, ◌-◌, ◌≤◌, ◌<◌}
use native.Mathlib.Decide.{dec_lt}
use native.Mathlib.Nat.{eq-or-lt_of_le}
use native.Mathlib.Omega.{arith}
use lib.ListN.{length, get_or, take, drop}
use lib.Seq.{take-add, drop-drop}
use Rattle.relation.specs.Lists.{◌∈◌, hd, not_in_nil, Ascends}
use Rattle.relation.proofs.Runs.{from_in, from_ascends, from_least, head_least}
use Rattle.overlay.specs.Merge.{merge}
use Rattle.overlay.proofs.Stretch.{split, stretch_merge}
use Rattle.leapfrog_search.specs.Leapfrog.{part, Reached}
use Rattle.leapfrog_search.proofs.Parts.{part_cons, part_none}
use Rattle.two_runs.specs.Runs.{Led, Stretched}
use Rattle.two_runs.specs.declared.Runs.{Runs}

pub part_split : (pool : List ℕ) (x m e : ℕ) → x ≤ m → m ≤ e → part pool x e ≡ part pool x m ++ part pool m e
part_split pool x m e h l =
    let n : e - x ≡ (m - x) + (e - m) = omega arith in
    let o : x + (m - x) ≡ m = omega arith in
    ap (λ (i : ℕ). take i (drop x pool)) n ∙ (take-add (m - x) (e - m) (drop x pool) ∙ ap (λ (zs : List ℕ). part pool x m ++ take (e - m) zs) (drop-drop (m - x) x pool ∙ ap (λ (i : ℕ). drop i pool) o))

module _ {pool : List ℕ} {s : Runs} (l : Led pool s) (h : s.x < s.e) where
  abbrev k : ℕ
  k = get_or pool s.x 0

  -- the second run has no key below the first's
  pub second_least : (y : ℕ) → y ∈ part pool s.y s.f → k ≤ y
  second_least y i =
      ⊎_elim
      (λ (e : s.y ≡ s.f). absurd (not_in_nil (subst (λ (zs : List ℕ). y ∈ zs) (part_none pool s.y s.f e) i)))
      (λ (g : s.y < s.f).
      let c = part_cons pool s.y s.f g l.inside.high₂ in
      let n = head_least (subst (Ascends ◌<◌) c l.inside.ascends₂) y (subst (λ (zs : List ℕ). y ∈ zs) c i) in
      omega (arith, l.least g))
      (eq-or-lt_of_le {n = s.y} {m = s.f} l.inside.low₂)

  -- nor the first's own, where that is the maker's
  first_only : s.own ≡ 1 → k ∈ part pool s.y s.f → ⊥
  first_only o i =
      ⊎_elim
      (λ (e : s.y ≡ s.f). not_in_nil (subst (λ (zs : List ℕ). k ∈ zs) (part_none pool s.y s.f e) i))
      (λ (g : s.y < s.f).
      let c = part_cons pool s.y s.f g l.inside.high₂ in
      let n = head_least (subst (Ascends ◌<◌) c l.inside.ascends₂) k (subst (λ (zs : List ℕ). k ∈ zs) c i) in
      let z : k ≡ get_or pool s.y 0 = omega (arith, l.least g) in
      omega (arith, l.tie g z))
      (eq-or-lt_of_le {n = s.y} {m = s.f} l.inside.low₂)

  pub stretched : (m w : ℕ) → s.x < m → m ≤ s.e → Reached pool s.y s.f (k + 1) w → (w ≡ s.f → m ≡ s.e) → ((a b : ℕ) → a ∈ part pool s.x m → b ∈ part pool w s.f → a < b) → Stretched pool s (record { x = s.x; rest = record { x = m; e = s.e; y = w; f = s.f; own = s.own } })
  stretched m w some within c last apart =
      let sp = part_split pool s.x m s.e (omega arith) within in
      record {
        start = refl;
        end = refl;
        end₂ = refl;
        side = refl;
        some = some;
        within = within;
        reached₂ = c;
        last = last;
        sole = λ o a i j. alone o a i j (eq-or-lt_of_le (second_least a j));
        run =
            ap (λ (zs : List ℕ). merge zs (part pool s.y s.f)) sp
            ∙ (stretch_merge k (part pool s.x m) (part pool m s.e) (part pool s.y s.f) (subst (Ascends ◌<◌) sp l.inside.ascends) l.inside.ascends₂
            (subst (λ (zs : List ℕ). k ∈ zs) (sym (part_cons pool s.x m some (let z : m ≤ length pool = omega (arith, l.inside.high) in z))) (hd refl))
            second_least
            (λ a b i j. apart a b i (subst (λ (zs : List ℕ). b ∈ zs) (sym c.rest) j))
            ∙ ap (λ (zs : List ℕ). part pool s.x m ++ merge (part pool m s.e) zs) (sym c.rest));
      }
    where
      alone : s.own ≡ 1 → (a : ℕ) → a ∈ part pool s.x m → a ∈ part pool s.y s.f → (k ≡ a) ⊎ (k < a) → ⊥
      alone o a i j (inl e) = first_only o (subst (λ (z : ℕ). z ∈ part pool s.y s.f) (sym e) j)
      alone o a i j (inr g) =
          let q = apart a a i (subst (λ (zs : List ℕ). a ∈ zs) (sym c.rest) (from_in (k + 1) (part pool s.y s.f) (let z : k + 1 ≤ a = omega arith in z) j)) in
          omega arith

  -- the second has no other key: all that is left of the first
  pub stretch_all : (w : ℕ) → Reached pool s.y s.f (k + 1) w → w ≡ s.f → Stretched pool s (record { x = s.x; rest = record { x = s.e; e = s.e; y = w; f = s.f; own = s.own } })
  stretch_all w c e = stretched s.e w h (omega arith) c (λ z. refl) (λ a b i j. absurd (not_in_nil (subst (λ (zs : List ℕ). b ∈ zs) (part_none pool w s.f e) j)))

  -- up to the second's next key
  pub stretch_part : (m w : ℕ) → Reached pool s.y s.f (k + 1) w → (w ≡ s.f → ⊥) → Reached pool s.x s.e (get_or pool w 0) m → Stretched pool s (record { x = s.x; rest = record { x = m; e = s.e; y = w; f = s.f; own = s.own } })
  stretch_part m w c n r = stretched m w some r.within c (λ z. absurd (n z)) below
    where
      g : w < s.f
      g = omega (arith, c.within)

      head : part pool w s.f ≡ get_or pool w 0 ∷ part pool (w + 1) s.f
      head = part_cons pool w s.f g l.inside.high₂

      above : k + 1 ≤ get_or pool w 0
      above = from_least (k + 1) l.inside.ascends₂ (subst (λ (zs : List ℕ). get_or pool w 0 ∈ zs) (sym head ∙ c.rest) (hd refl))

      sp : part pool s.x s.e ≡ part pool s.x m ++ part pool m s.e
      sp = part_split pool s.x m s.e r.forward r.within

      up : Ascends ◌<◌ (part pool s.x m ++ part pool m s.e)
      up = subst (Ascends ◌<◌) sp l.inside.ascends

      some : s.x < m
      some = go (eq-or-lt_of_le r.forward)
        where
          go : (s.x ≡ m) ⊎ (s.x < m) → s.x < m
          go (inl e) = absurd (omega (arith, above, from_least (get_or pool w 0) l.inside.ascends (subst (λ (zs : List ℕ). k ∈ zs) (sym (part_cons pool s.x s.e h l.inside.high) ∙ (ap (λ (i : ℕ). part pool i s.e) e ∙ r.rest)) (hd refl))))
          go (inr b) = b

      under : (a : ℕ) → a ∈ part pool s.x m → a < get_or pool w 0
      under a i = go (dec_lt a (get_or pool w 0))
        where
          go : Dec (a < get_or pool w 0) → a < get_or pool w 0
          go (yes b) = b
          go (no b) =
              let j : a ∈ part pool m s.e = subst (λ (zs : List ℕ). a ∈ zs) (sym r.rest) (from_in (get_or pool w 0) (part pool s.x s.e) (let z : get_or pool w 0 ≤ a = omega arith in z) (subst (λ (zs : List ℕ). a ∈ zs) (sym sp) (Memᴰ.append_left (part pool m s.e) i))) in
              absurd (omega (arith, (split (part pool s.x m) up).2 a a i j))

      below : (a b : ℕ) → a ∈ part pool s.x m → b ∈ part pool w s.f → a < b
      below a b i j =
          let z = head_least (subst (Ascends ◌<◌) head (subst (Ascends ◌<◌) (sym c.rest) (from_ascends (k + 1) l.inside.ascends₂))) b (subst (λ (zs : List ℕ). b ∈ zs) head j) in
          omega (arith, under a i)
