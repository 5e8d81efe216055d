-- An atom put on the first piece of two runs: its whole run is what the two have, and it is known whose its keys are.
use mathlib.Core.Path.{◌≡◌, refl, sym, subst, ap, ap₂, ◌∙◌}
use mathlib.Core.Bool.{Bool}
use mathlib.Core.Logic.{◌⊎◌, inl, inr, ⊎_elim}
use mathlib.Core.List.Memᴰ
use mathlib.Core.List.{List, [], ◌++◌}
use Prim.Native.Nat.{ℕ, zero, suc, ◌+◌, ◌-◌, ◌*◌, ◌≤◌, ◌<◌}
use native.Mathlib.Decide.{ℕ_discrete, dec_lt}
use native.Mathlib.Omega.{arith}
use lib.ListN.{length, get_or}
use lib.Seq.{get_or-set_same}
use lib.Dec.{eqb}
use borrow.Author.Tests.{eq-eqb, ne_eqb}
use Rattle.relation.specs.Order.{pick}
use Rattle.relation.specs.Lists.{◌∈◌, hd, Ascends}
use Rattle.relation.specs.Runs.{from}
use Rattle.relation.proofs.Runs.{in_from, from_in, from_ascends, from_least}
use Rattle.query.specs.Limits.{max_atoms}
use Rattle.overlay.specs.Merge.{merge}
use Rattle.overlay.proofs.Merge.{merge_ascends, merge_swap}
use Rattle.overlay.proofs.Stretch.{split}
use Rattle.leapfrog_search.specs.Leapfrog.{part, Reached}
use Rattle.leapfrog_search.proofs.Parts.{part_cons, part_none}
use Rattle.two_runs.specs.Runs.{turned_of, run_of, Inside, Led, InOrder, Stays, Stretched}
use Rattle.two_runs.specs.declared.Runs.{Runs}
use Rattle.two_runs.specs.declared.Stretch.{Stretch}
use Rattle.two_runs.proofs.Two.{none_left, order_run, stays_inside, stays_run}
use Rattle.two_runs.proofs.Stretches.{part_split, second_least}
use Rattle.stretches.specs.Stand.{Stand, stand_of, rest_of, tail_of, whole_of, Behind, Tailed, Sized, school_left, Laid}
use Rattle.stretches.specs.declared.State.{State}
use Rattle.stretches.specs.Pause.{runs_from, placed, Began, Taken, Takes, some, none}

-- ---- the numbers of an atom that is put

pub placed_stand : {s : State} {ends : List ℕ} → Sized s ends → (a x m o l : ℕ) → a < max_atoms → stand_of (placed s a x m o l) ends a ≡ record { at = x; end = m; own = o; left = l; mine = get_or ends (2 * a + o) 0; others = get_or ends (2 * a + 1 - o) 0 }
placed_stand {s} {ends} z a x m o l h =
    let e = get_or-set_same s.own a o 0 (let q : a < length s.own = omega (arith, z.owners) in q) in
    rw (get_or-set_same s.at a x 0 (let q : a < length s.at = omega (arith, z.places) in q), get_or-set_same s.end a m 0 (let q : a < length s.end = omega (arith, z.piece_ends) in q), e, get_or-set_same s.left a l 0 (let q : a < length s.left = omega (arith, z.lefts) in q)) refl

-- ---- the piece and what lies behind it

-- where the two runs stand in s, put on the stretch g
abbrev put : Runs → Stretch → Stand
put s g = record { at = g.x; end = g.rest.x; own = g.rest.own; left = g.rest.f - g.rest.y; mine = s.e; others = s.f }

module _ {pool : List ℕ} {s : Runs} (l : Led pool s) {g : Stretch} (t : Stretched pool s g) where
  behind_at : s.f - (g.rest.f - g.rest.y) ≡ g.rest.y
  behind_at = omega (arith, t.end₂, t.reached₂.within)

  put_tail : tail_of pool (put s g) ≡ merge (part pool g.rest.x g.rest.e) (part pool g.rest.y g.rest.f)
  unfolding merge
  put_tail = go (ℕ_discrete (g.rest.f - g.rest.y) 0)
    where
      go : Dec (g.rest.f - g.rest.y ≡ 0) → tail_of pool (put s g) ≡ merge (part pool g.rest.x g.rest.e) (part pool g.rest.y g.rest.f)
      go (yes e) =
          let q : g.rest.y ≡ g.rest.f = omega (arith, t.end₂, t.reached₂.within) in
          ap (λ (b : Bool). pick b [] (run_of pool (rest_of (put s g)))) (eq-eqb (g.rest.f - g.rest.y) 0 e)
          ∙ sym (ap₂ {C = List ℕ} merge (part_none pool g.rest.x g.rest.e (t.last q)) (part_none pool g.rest.y g.rest.f q))
      go (no n) =
          ap (λ (b : Bool). pick b [] (run_of pool (rest_of (put s g)))) (ne_eqb (g.rest.f - g.rest.y) 0 n)
          ∙ ap₂ {C = List ℕ} merge (ap (part pool g.rest.x) (sym t.end)) (ap₂ {C = List ℕ} (part pool) behind_at (sym t.end₂))

  put_whole : whole_of pool (put s g) ≡ run_of pool s
  put_whole = ap (λ (r : List ℕ). part pool g.x g.rest.x ++ r) put_tail ∙ sym t.run

  within : g.rest.x ≤ s.e
  within = omega (arith, t.within, t.end)

  parts : part pool s.x s.e ≡ part pool s.x g.rest.x ++ part pool g.rest.x s.e
  parts = part_split pool s.x g.rest.x s.e (let q : s.x ≤ g.rest.x = omega (arith, t.start, t.some) in q) within

  put_tailed : Tailed pool (put s g)
  put_tailed = record {
    behind = λ n. record {
      room = omega (arith, t.end₂);
      inside = record {
        low = within;
        high = l.inside.high;
        ascends = (split (part pool s.x g.rest.x) (subst (Ascends ◌<◌) parts l.inside.ascends)).1;
        low₂ = omega arith;
        high₂ = l.inside.high₂;
        ascends₂ = rw (behind_at, t.reached₂.rest) (from_ascends (get_or pool s.x 0 + 1) l.inside.ascends₂);
        side = omega (arith, t.side, l.inside.side);
      };
    };
    ascends = subst (Ascends ◌<◌) (sym put_whole) (merge_ascends (part pool s.x s.e) l.inside.ascends₂);
  }

  pub put_high : g.rest.x ≤ length pool
  put_high = omega (arith, within, l.inside.high)

  module _ (h : s.x < s.e) {lo : ℕ → ℕ} {school : List ℕ} (b : Began pool lo school s) where
    -- the school's keys, where the piece is the maker's
    others_left : g.rest.own ≡ 1 → (z : ℕ) → z ∈ part pool s.y s.f → z ∈ part pool g.rest.y s.f
    others_left o z i = rw t.reached₂.rest (from_in (get_or pool s.x 0 + 1) (part pool s.y s.f) (go (ℕ_discrete z (get_or pool s.x 0))) i)
      where
        go : Dec (z ≡ get_or pool s.x 0) → get_or pool s.x 0 + 1 ≤ z
        go (yes e) =
            absurd
            (t.sole (sym t.side ∙ o) z
            (rw (t.start, e) (subst (λ (zs : List ℕ). get_or pool s.x 0 ∈ zs) (sym (part_cons pool s.x g.rest.x (let q : s.x < g.rest.x = omega (arith, t.start, t.some) in q) put_high)) (hd refl)))
            i)
        go (no n) = omega (arith, second_least l h z i)

    put_laid : Laid pool lo school (put s g)
    put_laid = record {
      side = omega (arith, t.side, l.inside.side);
      low = rw (t.side, t.start) b.low;
      low₂ = rw (t.side, behind_at) (let q = t.reached₂.forward in omega (arith, b.low₂));
      high = within;
      keys = λ z i. ⊎_elim (λ (j : z ∈ pick (eqb s.own 0) (part pool s.x s.e) (part pool s.y s.f)). inl (left z g.rest.own t.side (omega (arith, t.side, l.inside.side)) refl j)) (λ (j : (y : ℕ) → y ∈ run_of pool s → z < y). inr (λ y m. j y (subst (λ (r : List ℕ). y ∈ r) put_whole m))) (b.keys z i);
    }
      where
        left : (z o : ℕ) → o ≡ s.own → o ≤ 1 → g.rest.own ≡ o → z ∈ pick (eqb s.own 0) (part pool s.x s.e) (part pool s.y s.f) → z ∈ school_left pool (put s g)
        left z zero e n f j = rw (f, t.start) (rw (← e) at j)
        left z (suc zero) e n f j = rw (f, behind_at) (others_left f z (rw (← e) at j))
        left z (suc (suc o)) e n f j = absurd (omega arith)

-- ---- the two runs of an atom, put in order

pick_side : (o : ℕ) → o ≤ 1 → (xs ys : List ℕ) → pick (eqb (1 - o) 0) ys xs ≡ pick (eqb o 0) xs ys
pick_side zero h xs ys = refl
pick_side (suc zero) h xs ys = refl
pick_side (suc (suc o)) h xs ys = absurd (omega arith)

turned_began : {pool : List ℕ} {lo : ℕ → ℕ} {school : List ℕ} {r : Runs} → r.own ≤ 1 → Began pool lo school r → Inside pool r → Began pool lo school (turned_of r)
turned_began {pool} {lo} {school} {r} h b i =
    let e : 1 - (1 - r.own) ≡ r.own = omega arith in
    record {
      low = b.low₂;
      low₂ = rw e b.low;
      keys = λ z m. ⊎_elim
          (λ (j : z ∈ pick (eqb r.own 0) (part pool r.x r.e) (part pool r.y r.f)). inl (rw (pick_side r.own h (part pool r.x r.e) (part pool r.y r.f)) j))
          (λ (j : (y : ℕ) → y ∈ run_of pool r → z < y). inr (λ y n. j y (subst (λ (zs : List ℕ). y ∈ zs) (merge_swap i.ascends i.ascends₂) n)))
          (b.keys z m);
    }

module _ {pool : List ℕ} (ends : List ℕ) (a x y o : ℕ) (i : Inside pool (runs_from ends a x y o)) {s : Runs} (q : InOrder pool (runs_from ends a x y o) s) where
  abbrev r : Runs
  r = runs_from ends a x y o

  mine : get_or ends (2 * a + s.own) 0 ≡ s.e
  mine =
      ⊎_elim
      (λ (e : s ≡ r). rw e refl)
      (λ (e : s ≡ turned_of r). rw e (let n : 2 * a + (1 - o) ≡ 2 * a + 1 - o = omega (arith, i.side) in ap (λ (j : ℕ). get_or ends j 0) n))
      q.same

  others : get_or ends (2 * a + 1 - s.own) 0 ≡ s.f
  others =
      ⊎_elim
      (λ (e : s ≡ r). rw e refl)
      (λ (e : s ≡ turned_of r). rw e (let n : 2 * a + 1 - (1 - o) ≡ 2 * a + o = omega (arith, i.side) in ap (λ (j : ℕ). get_or ends j 0) n))
      q.same

  began : {lo : ℕ → ℕ} {school : List ℕ} → Began pool lo school r → Began pool lo school s
  began {lo} {school} b =
      ⊎_elim
      (λ (e : s ≡ r). subst (Began pool lo school) (sym e) b)
      (λ (e : s ≡ turned_of r). subst (Began pool lo school) (sym e) (turned_began i.side b i))
      q.same

  pub took_none : s.x ≡ s.e → run_of pool (runs_from ends a x y o) ≡ []
  took_none e = sym (order_run i q) ∙ none_left q.led e

  module _ (h : s.x < s.e) {g : Stretch} (t : Stretched pool s g) {s₀ : State} (z : Sized s₀ ends) (b : a < max_atoms) where
    stand : stand_of (placed s₀ a g.x g.rest.x g.rest.own (g.rest.f - g.rest.y)) ends a ≡ put s g
    stand =
        placed_stand z a g.x g.rest.x g.rest.own (g.rest.f - g.rest.y) b
        ∙ (let e : get_or ends (2 * a + g.rest.own) 0 ≡ s.e = ap (λ (j : ℕ). get_or ends (2 * a + j) 0) t.side ∙ mine in
        let f : get_or ends (2 * a + 1 - g.rest.own) 0 ≡ s.f = ap (λ (j : ℕ). get_or ends (2 * a + 1 - j) 0) t.side ∙ others in
        λ j. record { at = g.x; end = g.rest.x; own = g.rest.own; left = g.rest.f - g.rest.y; mine = e j; others = f j })

    pub took : Taken pool ends a (run_of pool (runs_from ends a x y o)) (λ (lo : ℕ → ℕ) (school : List ℕ). Began pool lo school (runs_from ends a x y o)) s₀ (placed s₀ a g.x g.rest.x g.rest.own (g.rest.f - g.rest.y))
    took = record {
      x = g.x;
      m = g.rest.x;
      o = g.rest.own;
      l = g.rest.f - g.rest.y;
      is = refl;
      some = t.some;
      high = put_high q.led t;
      whole = ap (whole_of pool) stand ∙ (put_whole q.led t ∙ order_run i q);
      tailed = rw stand (put_tailed q.led t);
      laid = λ lo school k. rw stand (put_laid q.led t h (began k));
    }

-- ---- an atom whose piece has ended, sought to a target

module _ {pool : List ℕ} (ends : List ℕ) (s₀ : State) (a : ℕ) (gone : get_or s₀.at a 0 ≡ get_or s₀.end a 0) (more : get_or s₀.left a 0 ≡ 0 → ⊥) (b : Behind pool (stand_of s₀ ends a)) {t : ℕ} {s : Runs} (c : Stays pool t (rest_of (stand_of s₀ ends a)) s) where
  abbrev st : Stand
  st = stand_of s₀ ends a

  sought_is : s ≡ runs_from ends a s.x s.y st.own
  sought_is = λ j. record { x = s.x; e = c.end j; y = s.y; f = c.end₂ j; own = c.side j }

  pub sought_inside : Inside pool (runs_from ends a s.x s.y st.own)
  sought_inside = subst (Inside pool) sought_is (stays_inside b.inside c)

  sought_run : run_of pool (runs_from ends a s.x s.y st.own) ≡ from t (tail_of pool (stand_of s₀ ends a))
  sought_run =
      ap (run_of pool) (sym sought_is)
      ∙ (stays_run b.inside c
      ∙ ap (λ (d : Bool). from t (pick d [] (run_of pool (rest_of st)))) (sym (ne_eqb st.left 0 more)))

  module _ {lo : ℕ → ℕ} {school : List ℕ} (l : Laid pool lo school (stand_of s₀ ends a)) where
    -- of one run: its key is not below the target, or below all that is left
    cut : (z x e q : ℕ) → Reached pool x e t q → z ∈ part pool x e → (z ∈ part pool q e) ⊎ ((y : ℕ) → y ∈ run_of pool (runs_from ends a s.x s.y st.own) → z < y)
    cut z x e q f i = go (dec_lt z t)
      where
        go : Dec (z < t) → (z ∈ part pool q e) ⊎ ((y : ℕ) → y ∈ run_of pool (runs_from ends a s.x s.y st.own) → z < y)
        go (yes h) = inr (λ y m. let n = from_least t (merge_ascends (part pool st.end st.mine) b.inside.ascends₂) (subst (λ (zs : List ℕ). y ∈ zs) (ap (run_of pool) (sym sought_is) ∙ stays_run b.inside c) m) in omega arith)
        go (no n) = inl (rw f.rest (from_in t (part pool x e) (let h : t ≤ z = omega arith in h) i))

    pub sought_began : Began pool lo school (runs_from ends a s.x s.y st.own)
    sought_began = record {
      low = omega (arith, l.low, c.reached.forward, gone);
      low₂ = omega (arith, l.low₂, c.reached₂.forward);
      keys = λ z i. ⊎_elim
          (λ (j : z ∈ school_left pool st). side z st.own l.side refl j)
          (λ (j : (y : ℕ) → y ∈ whole_of pool st → z < y). inr (λ y m. j y (Memᴰ.append_right (part pool st.at st.end) (in_from t (tail_of pool st) (subst (λ (zs : List ℕ). y ∈ zs) sought_run m)))))
          (l.keys z i);
    }
      where
        side : (z o : ℕ) → o ≤ 1 → st.own ≡ o → z ∈ school_left pool st → (z ∈ pick (eqb st.own 0) (part pool s.x (get_or ends (2 * a + st.own) 0)) (part pool s.y (get_or ends (2 * a + 1 - st.own) 0))) ⊎ ((y : ℕ) → y ∈ run_of pool (runs_from ends a s.x s.y st.own) → z < y)
        side z zero n f j =
            ⊎_elim
            (λ (k : z ∈ part pool s.x st.mine). inl (subst (λ (d : Bool). z ∈ pick d (part pool s.x st.mine) (part pool s.y st.others)) (sym (eq-eqb st.own 0 f)) k))
            (λ (k : (y : ℕ) → y ∈ run_of pool (runs_from ends a s.x s.y st.own) → z < y). inr k)
            (cut z st.end st.mine s.x c.reached (subst (λ (p : ℕ). z ∈ part pool p st.mine) gone (subst (λ (d : Bool). z ∈ pick d (part pool st.at st.mine) (part pool (st.others - st.left) st.others)) (eq-eqb st.own 0 f) j)))
        side z (suc zero) n f j =
            let w : st.own ≡ 0 → ⊥ = λ e. omega arith in
            ⊎_elim
            (λ (k : z ∈ part pool s.y st.others). inl (subst (λ (d : Bool). z ∈ pick d (part pool s.x st.mine) (part pool s.y st.others)) (sym (ne_eqb st.own 0 w)) k))
            (λ (k : (y : ℕ) → y ∈ run_of pool (runs_from ends a s.x s.y st.own) → z < y). inr k)
            (cut z (st.others - st.left) st.others s.y c.reached₂ (subst (λ (d : Bool). z ∈ pick d (part pool st.at st.mine) (part pool (st.others - st.left) st.others)) (ne_eqb st.own 0 w) j))
        side z (suc (suc o)) n f j = absurd (omega arith)

  -- what is taken of them is taken of the tail
  sought_taken : {s₁ : State} → Taken pool ends a (run_of pool (runs_from ends a s.x s.y st.own)) (λ (lo : ℕ → ℕ) (school : List ℕ). Began pool lo school (runs_from ends a s.x s.y st.own)) s₀ s₁ → Taken pool ends a (from t (tail_of pool (stand_of s₀ ends a))) (λ (lo : ℕ → ℕ) (school : List ℕ). Laid pool lo school (stand_of s₀ ends a)) s₀ s₁
  sought_taken k = record {
    x = k.x;
    m = k.m;
    o = k.o;
    l = k.l;
    is = k.is;
    some = k.some;
    high = k.high;
    whole = k.whole ∙ sought_run;
    tailed = k.tailed;
    laid = λ lo school d. k.laid lo school (sought_began d);
  }

  pub sought_takes : {d : Bool} {s₁ : State} → Takes pool ends a (run_of pool (runs_from ends a s.x s.y st.own)) (λ (lo : ℕ → ℕ) (school : List ℕ). Began pool lo school (runs_from ends a s.x s.y st.own)) s₀ s₁ d → Takes pool ends a (from t (tail_of pool (stand_of s₀ ends a))) (λ (lo : ℕ → ℕ) (school : List ℕ). Laid pool lo school (stand_of s₀ ends a)) s₀ s₁ d
  sought_takes (some k) = some (sought_taken k)
  sought_takes (none e q) = none (sym sought_run ∙ e) q
