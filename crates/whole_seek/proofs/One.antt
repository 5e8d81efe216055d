-- One atom sought to a target: it stands in its piece, or at the end of its last piece, or on a piece behind, or at the end of its run.
-- Idea: its run is its piece and what lies behind; a seek cuts the piece, or passes it whole and cuts what lies behind.
use mathlib.Core.Path.{◌≡◌, refl, sym, subst, ap, ap₂, ◌∙◌}
use mathlib.Core.Bool.{Bool, true, false, false≢true}
use mathlib.Core.Logic.{inr}
use mathlib.Core.List.{List, [], ◌++◌}
use Prim.Native.Nat.{ℕ, ◌≤◌, ◌<◌}
use native.Mathlib.Omega.{arith}
use lib.ListN.{length, get_or, set, length-set}
use lib.Seq.{get_or-set_same, get_or-set_other}
use borrow.Author.Tests.{eq-eqb}
use Rattle.relation.specs.Order.{pick}
use Rattle.relation.specs.Lists.{◌∈◌, not_in_nil, anone}
use Rattle.relation.specs.Runs.{from}
use Rattle.leapfrog.proofs.Steps.{cons_some}
use Rattle.leapfrog_search.specs.Leapfrog.{part, OnKey, Reached}
use Rattle.leapfrog_search.proofs.Parts.{part_cons, part_none}
use Rattle.pieces.proofs.Zip.{from_behind, from_before}
use Rattle.two_runs.specs.Runs as two
use Rattle.stretches.specs.Stand.{stand_of, rest_of, tail_of, whole_of, Tailed, Behind, Sized, Laid}
use Rattle.stretches.specs.declared.State.{State}
use Rattle.stretches.specs.Pause.{emptied, Taken, Takes, some, none}
use Rattle.stretches.proofs.Carrying.{moved_to, moved_tailed, moved_laid, placed_other, emptied_other}
use Rattle.whole_seek.specs.Seek.{SoughtOne}

module _ {pool : List ℕ} {s : State} {ends : List ℕ} {a t q : ℕ} (o : OnKey pool s.at s.end a) (z : Sized s ends) (g : Tailed pool (stand_of s ends a)) (r : Reached pool (get_or s.at a 0) (get_or s.end a 0) t q) where
  -- the atom in its piece, at q
  abbrev s₁ : State
  s₁ = moved_to s (set s.at a q)

  at₁ : get_or (set s.at a q) a 0 ≡ q
  at₁ = get_or-set_same s.at a q 0 (let l : a < length s.at = omega (arith, o.atom, z.places) in l)

  forward : get_or s.at a 0 ≤ get_or (set s.at a q) a 0
  forward = omega (arith, at₁, r.forward)

  within : get_or (set s.at a q) a 0 ≤ get_or s.end a 0
  within = omega (arith, at₁, r.within)

  abbrev piece : List ℕ
  piece = part pool (get_or s.at a 0) (get_or s.end a 0)

  abbrev tail : List ℕ
  tail = tail_of pool (stand_of s ends a)

  rest : part pool (get_or (set s.at a q) a 0) (get_or s.end a 0) ≡ from t piece
  rest = ap (λ (y : ℕ). part pool y (get_or s.end a 0)) at₁ ∙ r.rest

  pub one_sized : Sized s₁ ends
  one_sized = record { places = length-set s.at a q ∙ z.places; piece_ends = z.piece_ends; owners = z.owners; lefts = z.lefts; run_ends = z.run_ends }

  others₁ : (c : ℕ) → (c ≡ a → ⊥) → stand_of s₁ ends c ≡ stand_of s ends c
  others₁ c n = rw (get_or-set_other s.at a c q 0 n) refl

  -- in its piece
  abbrev In : Bool → Type 0
  In = SoughtOne pool ends a t s s₁

  staying : {b : Bool} → whole_of pool (stand_of s₁ ends a) ≡ from t (whole_of pool (stand_of s ends a)) → (b ≡ true → get_or (set s.at a q) a 0 < get_or s.end a 0) → (b ≡ false → from t (whole_of pool (stand_of s ends a)) ≡ []) → In b
  staying w f n = record {
    whole = w;
    some = f;
    none = n;
    sized = one_sized;
    within = within;
    high = o.ends;
    tailed = moved_tailed pool (stand_of s ends a) (get_or (set s.at a q) a 0) forward within g;
    others = others₁;
    last = λ e. record { place = forward; end = refl; own = refl; left = e };
    laid = λ lo school l. moved_laid pool (stand_of s ends a) (get_or (set s.at a q) a 0) forward within g l;
  }

  pub one_found : q < get_or s.end a 0 → SoughtOne pool ends a t s s₁ true
  one_found l = staying whole (λ e. omega (arith, at₁)) (λ e. absurd (false≢true (sym e)))
    where
      kept : from t piece ≡ [] → ⊥
      kept = cons_some (from t piece) (sym r.rest ∙ part_cons pool q (get_or s.end a 0) l o.ends)

      whole : whole_of pool (stand_of s₁ ends a) ≡ from t (whole_of pool (stand_of s ends a))
      whole = ap (λ (l : List ℕ). l ++ tail) rest ∙ sym (from_before t piece tail kept)

  module _ (end : get_or s.end a 0 ≤ q) where
    pub one_gone : get_or (set s.at a q) a 0 ≡ get_or s.end a 0
    one_gone = omega (arith, at₁, r.within)

    gone : from t piece ≡ []
    gone = sym rest ∙ part_none pool (get_or (set s.at a q) a 0) (get_or s.end a 0) one_gone

    -- all its piece is below the target
    behind : from t (whole_of pool (stand_of s ends a)) ≡ from t tail
    behind = from_behind t piece tail gone

    -- at the end of its last piece
    pub one_last : get_or s.left a 0 ≡ 0 → SoughtOne pool ends a t s s₁ false
    unfolding from
    one_last e = staying (ap₂ {C = List ℕ} (λ (x y : List ℕ). x ++ y) (rest ∙ gone) nothing ∙ sym empty) (λ d. absurd (false≢true d)) (λ d. empty)
      where
        nothing : tail_of pool (stand_of s ends a) ≡ []
        nothing = ap (λ (d : Bool). pick d [] (two.run_of pool (rest_of (stand_of s ends a)))) (eq-eqb (get_or s.left a 0) 0 e)

        empty : from t (whole_of pool (stand_of s ends a)) ≡ []
        empty = behind ∙ ap (from t) nothing

    module _ (more : get_or s.left a 0 ≡ 0 → ⊥) where
      pub one_behind : Behind pool (stand_of s₁ ends a)
      one_behind = record { room = (g.behind more).room; inside = (g.behind more).inside }

      abbrev Before : (ℕ → ℕ) → List ℕ → Type 0
      Before lo school = Laid pool lo school (stand_of s₁ ends a)

      laid₁ : (lo : ℕ → ℕ) (school : List ℕ) → Laid pool lo school (stand_of s ends a) → Laid pool lo school (stand_of s₁ ends a)
      laid₁ lo school l = moved_laid pool (stand_of s ends a) (get_or (set s.at a q) a 0) forward within g l

      -- on a piece behind
      taken : {s' : State} → Taken pool ends a (from t tail) Before s₁ s' → SoughtOne pool ends a t s s' true
      taken {s'} k = record {
        whole = k.whole ∙ sym behind;
        some = λ e. inside;
        none = λ e. absurd (false≢true (sym e));
        sized =
            subst (λ (d : State). Sized d ends) (sym k.is)
            (record {
              places = length-set (set s.at a q) a k.x ∙ one_sized.places;
              piece_ends = length-set s.end a k.m ∙ z.piece_ends;
              owners = length-set s.own a k.o ∙ z.owners;
              lefts = length-set s.left a k.l ∙ z.lefts;
              run_ends = z.run_ends;
            });
        within = let l = inside in omega arith;
        high = omega (arith, end', k.high);
        tailed = k.tailed;
        others = λ c n. ap (λ (d : State). stand_of d ends c) k.is ∙ (placed_other s₁ ends a k.x k.m k.o k.l c n ∙ others₁ c n);
        last = λ e. absurd (more e);
        laid = λ lo school l. k.laid lo school (laid₁ lo school l);
      }
        where
          at' : get_or s'.at a 0 ≡ k.x
          at' = ap (λ (d : State). get_or d.at a 0) k.is ∙ get_or-set_same (set s.at a q) a k.x 0 (let l : a < length (set s.at a q) = omega (arith, o.atom, one_sized.places) in l)

          end' : get_or s'.end a 0 ≡ k.m
          end' = ap (λ (d : State). get_or d.end a 0) k.is ∙ get_or-set_same s.end a k.m 0 (let l : a < length s.end = omega (arith, o.atom, z.piece_ends) in l)

          inside : get_or s'.at a 0 < get_or s'.end a 0
          inside = omega (arith, at', end', k.some)

      -- at the end of its run
      ended : {s' : State} → from t tail ≡ [] → s' ≡ emptied s₁ a → SoughtOne pool ends a t s s' false
      ended {s'} e i = subst (λ (d : State). SoughtOne pool ends a t s d false) (sym i) (record {
        whole = emptied_whole ∙ sym (behind ∙ e);
        some = λ d. absurd (false≢true d);
        none = λ d. behind ∙ e;
        sized = record { places = one_sized.places; piece_ends = z.piece_ends; owners = z.owners; lefts = length-set s.left a 0 ∙ z.lefts; run_ends = z.run_ends };
        within = within;
        high = o.ends;
        tailed = record { behind = λ n. absurd (n zero_left); ascends = rw emptied_whole anone };
        others = λ c n. emptied_other s₁ ends a c n ∙ others₁ c n;
        last = λ d. absurd (more d);
        laid = λ lo school l₀.
            let l = laid₁ lo school l₀ in
            record {
              side = l.side;
              low = l.low;
              low₂ = omega (arith, l.low₂, zero_left);
              high = l.high;
              keys = λ y i. inr (λ x m. absurd (not_in_nil (subst (λ (r : List ℕ). x ∈ r) emptied_whole m)));
            };
      })
        where
          zero_left : get_or (set s.left a 0) a 0 ≡ 0
          zero_left = get_or-set_same s.left a 0 0 (let l : a < length s.left = omega (arith, o.atom, z.lefts) in l)

          emptied_whole : whole_of pool (stand_of (emptied s₁ a) ends a) ≡ []
          emptied_whole = ap₂ {C = List ℕ} (λ (x y : List ℕ). x ++ y) (rest ∙ gone) (ap (λ (d : Bool). pick d [] (two.run_of pool (rest_of (stand_of (emptied s₁ a) ends a)))) (eq-eqb (get_or (set s.left a 0) a 0) 0 zero_left))

      pub one_behind_takes : {s' : State} {b : Bool} → Takes pool ends a (from t (tail_of pool (stand_of s₁ ends a))) Before s₁ s' b → SoughtOne pool ends a t s s' b
      one_behind_takes (some k) = taken k
      one_behind_takes (none e i) = ended e i
