-- What a step leaves of the arrays: nothing moved, a place moved forward in its piece, an atom put on its next piece, or its run ended; and two steps in a row.
use mathlib.Core.Path.{◌≡◌, refl, sym, subst, ap, ◌∙◌}
use mathlib.Core.Bool.{Bool}
use mathlib.Core.Logic.{◌⊎◌, inl, inr, ⊎_elim}
use mathlib.Core.List.Memᴰ
use mathlib.Core.List.{List, ◌++◌, append_assoc}
use Prim.Native.Nat.{ℕ, ◌-◌, ◌≤◌, ◌<◌}
use native.Mathlib.Decide.{ℕ_discrete}
use native.Mathlib.Omega.{arith}
use lib.ListN.{get_or, take}
use lib.Seq.{get_or-set_other}
use borrow.Author.Tests.{eq-eqb, ne_eqb}
use Rattle.relation.specs.Order.{pick}
use Rattle.relation.specs.Lists.{◌∈◌, Ascends}
use Rattle.overlay.proofs.Stretch.{split}
use Rattle.leapfrog_search.specs.Leapfrog.{part, Moved}
use Rattle.two_runs.proofs.Stretches.{part_split}
use Rattle.stretches.specs.Stand.{Stand, stand_of, tail_of, whole_of, Tailed, Sized, school_left, Laid}
use Rattle.stretches.specs.declared.State.{State}
use Rattle.stretches.specs.Whole.{Forward, Carried}
use Rattle.stretches.specs.Pause.{placed, emptied, Held}

stands : (s : Stand) → s.left ≡ 0 → Forward s s
stands s e = record { place = omega arith; end = refl; own = refl; left = e }

forward_same : {s₀ s : Stand} → s₀.left ≡ 0 → s ≡ s₀ → Forward s₀ s
forward_same {s₀} e q = subst (Forward s₀) (sym q) (stands s₀ e)

-- ---- nothing moved, and two steps

pub carried_none : {pool : List ℕ} {s : State} {ends ring : List ℕ} {k : ℕ} → Held pool s ends ring k → Carried pool ends ring k s s
carried_none {s = s} {ends} h = record {
  sized = h.sized;
  within = h.pieces.within;
  tailed = h.tailed;
  others = λ a n. refl;
  last = λ a e. stands (stand_of s ends a) e;
  laid = λ a i lo school l. l;
}

pub carried_on : {pool ends ring : List ℕ} {k : ℕ} {s₀ s₁ s : State} → Carried pool ends ring k s₀ s₁ → Carried pool ends ring k s₁ s → Carried pool ends ring k s₀ s
carried_on c d = record {
  sized = d.sized;
  within = d.within;
  tailed = d.tailed;
  others = λ a n. d.others a n ∙ c.others a n;
  last = λ a e.
      let f = c.last a e in
      let g = d.last a f.left in
      record { place = omega (arith, f.place, g.place); end = g.end ∙ f.end; own = g.own ∙ f.own; left = g.left };
  laid = λ a i lo school l. d.laid a i lo school (c.laid a i lo school l);
}

-- ---- forward in a piece

-- the atom at another place
abbrev pub at_place : Stand → ℕ → Stand
at_place s q = record { at = q; end = s.end; own = s.own; left = s.left; mine = s.mine; others = s.others }

module _ (pool : List ℕ) (s : Stand) (q : ℕ) (f : s.at ≤ q) (w : q ≤ s.end) where
  whole_split : whole_of pool s ≡ part pool s.at q ++ whole_of pool (at_place s q)
  whole_split = ap (λ (r : List ℕ). r ++ tail_of pool s) (part_split pool s.at q s.end f w) ∙ append_assoc (part pool s.at q) (part pool q s.end) (tail_of pool s)

  pub moved_tailed : Tailed pool s → Tailed pool (at_place s q)
  moved_tailed t = record { behind = λ n. record { room = (t.behind n).room; inside = (t.behind n).inside }; ascends = (split (part pool s.at q) (subst (Ascends ◌<◌) whole_split t.ascends)).1 }

  pub moved_laid : Tailed pool s → {lo : ℕ → ℕ} {school : List ℕ} → Laid pool lo school s → Laid pool lo school (at_place s q)
  moved_laid t {lo} {school} l = record {
    side = l.side;
    low = omega (arith, l.low);
    low₂ = l.low₂;
    high = l.high;
    keys = λ z i. ⊎_elim
        (λ (j : z ∈ school_left pool s). left z (ℕ_discrete s.own 0) j)
        (λ (j : (y : ℕ) → y ∈ whole_of pool s → z < y). inr (λ y m. j y (subst (λ (r : List ℕ). y ∈ r) (sym whole_split) (Memᴰ.append_right (part pool s.at q) m))))
        (l.keys z i);
  }
    where
      up : Ascends ◌<◌ (part pool s.at q ++ whole_of pool (at_place s q))
      up = subst (Ascends ◌<◌) whole_split t.ascends

      run : part pool s.at s.mine ≡ part pool s.at q ++ part pool q s.mine
      run = part_split pool s.at q s.mine f (let n : q ≤ s.mine = omega (arith, l.high) in n)

      left : (z : ℕ) → Dec (s.own ≡ 0) → z ∈ school_left pool s → (z ∈ school_left pool (at_place s q)) ⊎ ((y : ℕ) → y ∈ whole_of pool (at_place s q) → z < y)
      left z (yes e) j =
          ⊎_elim
          (λ (i : z ∈ part pool s.at q). inr (λ y m. (split (part pool s.at q) up).2 z y i m))
          (λ (i : z ∈ part pool q s.mine). inl (subst (λ (b : Bool). z ∈ pick b (part pool q s.mine) (part pool (s.others - s.left) s.others)) (sym (eq-eqb s.own 0 e)) i))
          (Memᴰ.append_cases (part pool s.at q) (subst (λ (r : List ℕ). z ∈ r) run (subst (λ (b : Bool). z ∈ pick b (part pool s.at s.mine) (part pool (s.others - s.left) s.others)) (eq-eqb s.own 0 e) j)))
      left z (no n) j = inl (subst (λ (b : Bool). z ∈ pick b (part pool q s.mine) (part pool (s.others - s.left) s.others)) (sym (ne_eqb s.own 0 n)) (subst (λ (b : Bool). z ∈ pick b (part pool s.at s.mine) (part pool (s.others - s.left) s.others)) (ne_eqb s.own 0 n) j))

-- the places as a leapfrog over the pieces left them
abbrev pub moved_to : State → List ℕ → State
moved_to s at = record { at = at; end = s.end; own = s.own; left = s.left }

module _ {pool : List ℕ} {s : State} {ends ring : List ℕ} {k : ℕ} (h : Held pool s ends ring k) {at : List ℕ} (m : Moved s.end ring k s.at at) where
  pub carried_moved : Carried pool ends ring k s (moved_to s at)
  carried_moved = record {
    sized = record { places = m.places; piece_ends = h.sized.piece_ends; owners = h.sized.owners; lefts = h.sized.lefts; run_ends = h.sized.run_ends };
    within = m.within;
    tailed = λ a i. moved_tailed pool (stand_of s ends a) (get_or at a 0) (m.forward a) (m.within a i) (h.tailed a i);
    others = λ a n. ap (at_place (stand_of s ends a)) (m.others a n);
    last = λ a e. record { place = m.forward a; end = refl; own = refl; left = e };
    laid = λ a i lo school l. moved_laid pool (stand_of s ends a) (get_or at a 0) (m.forward a) (m.within a i) (h.tailed a i) l;
  }

  pub held_moved : Held pool (moved_to s at) ends ring k
  held_moved = record {
    pieces = record { positive = h.pieces.positive; few = h.pieces.few; size = h.pieces.size; apart = h.pieces.apart; atoms = h.pieces.atoms; within = m.within; high = h.pieces.high };
    sized = carried_moved.sized;
    tailed = carried_moved.tailed;
  }

-- ---- an atom changed

pub placed_other : (s : State) (ends : List ℕ) (b x m o l a : ℕ) → (a ≡ b → ⊥) → stand_of (placed s b x m o l) ends a ≡ stand_of s ends a
placed_other s ends b x m o l a n = rw (get_or-set_other s.at b a x 0 n, get_or-set_other s.end b a m 0 n, get_or-set_other s.own b a o 0 n, get_or-set_other s.left b a l 0 n) refl

pub emptied_other : (s : State) (ends : List ℕ) (b a : ℕ) → (a ≡ b → ⊥) → stand_of (emptied s b) ends a ≡ stand_of s ends a
emptied_other s ends b a n = rw (get_or-set_other s.left b a 0 0 n) refl

-- atom b, one of the ring with keys behind its piece, changed, and no other
module _ {pool : List ℕ} {s s' : State} {ends ring : List ℕ} {k b : ℕ} (h : Held pool s ends ring k) (i : b ∈ take k ring) (more : get_or s.left b 0 ≡ 0 → ⊥) (z : Sized s' ends) (other : (a : ℕ) → (a ≡ b → ⊥) → stand_of s' ends a ≡ stand_of s ends a) (w : get_or s'.at b 0 ≤ get_or s'.end b 0) (t : Tailed pool (stand_of s' ends b)) (l : (lo : ℕ → ℕ) (school : List ℕ) → Laid pool lo school (stand_of s ends b) → Laid pool lo school (stand_of s' ends b)) where
  pub carried_one : Carried pool ends ring k s s'
  carried_one = record {
    sized = z;
    within = λ a j. by (λ (a : ℕ). a ∈ take k ring → get_or s'.at a 0 ≤ get_or s'.end a 0) (λ j. w) (λ a n j. subst (λ (d : Stand). d.at ≤ d.end) (sym (other a n)) (h.pieces.within a j)) a (ℕ_discrete a b) j;
    tailed = λ a j. by (λ (a : ℕ). a ∈ take k ring → Tailed pool (stand_of s' ends a)) (λ j. t) (λ a n j. subst (Tailed pool) (sym (other a n)) (h.tailed a j)) a (ℕ_discrete a b) j;
    others = λ a n. other a (λ e. n (subst (λ (c : ℕ). c ∈ take k ring) (sym e) i));
    last = λ a e. forward_same e (other a (λ q. more (subst (λ (c : ℕ). get_or s.left c 0 ≡ 0) q e)));
    laid = λ a j lo school d. by (λ (a : ℕ). Laid pool lo school (stand_of s ends a) → Laid pool lo school (stand_of s' ends a)) (l lo school) (λ a n c. subst (Laid pool lo school) (sym (other a n)) c) a (ℕ_discrete a b) d;
  }
    where
      by : (P : ℕ → Type 0) → P b → ((a : ℕ) → (a ≡ b → ⊥) → P a) → (a : ℕ) → Dec (a ≡ b) → P a
      by P x f a (yes e) = subst P (sym e) x
      by P x f a (no n) = f a n
