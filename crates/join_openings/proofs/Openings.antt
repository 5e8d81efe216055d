-- The opening of a depth's atoms, by the plan's numbers: how one atom more is opened.
-- Idea: the atoms of a depth ascend, so the atom that is opened next still stands where it stood.
use Prim.Native.Nat.{ℕ, ◌+◌, ◌-◌, ◌*◌, ◌<◌}
use native.Mathlib.Omega.{arith}
use native.Mathlib.Decide.{ℕ_discrete}
use mathlib.Core.Path.{◌≡◌, refl, sym, subst, ap, ◌∙◌}
use mathlib.Core.Bool.{Bool, true, false, false≢true}
use mathlib.Core.List.{List}
use lib.ListN.{get_or, set, length-set}
use lib.Seq.{get_or-set_same, get_or-set_other}
use Rattle.query.specs.Limits.{max_atoms}
use Rattle.two_runs.specs.Runs.{run_of}
use Rattle.stretches.specs.Stand.{Stand, stand_of, Sized}
use Rattle.stretches.specs.declared.State.{State}
use Rattle.stretches.specs.Pause.{placed, Began, Taken, Takes, some, none}
use Rattle.stretches.proofs.Taking.{placed_stand}
use Rattle.stretches.proofs.Carrying.{placed_other}
use Rattle.join_plan.specs.Plan.{Plan, opening_at}
use Rattle.join_plan.specs.declared.LayerPlan.{LayerPlan}
use Rattle.join_plan.specs.declared.AtomPlan.{AtomPlan}
use Rattle.join_openings.specs.Openings.{count_at, who_at, group_low, group_high, table_of, first_runs, OneOpenable, OpenedIn, Without, OneOpened, OpensOne, opens, without, Openable, Arrays, Opens, Refuses, OpenedAll, all, refuses}

-- ---- one atom

pub opens_true : {pool ends : List ℕ} {p : AtomPlan} {z₀ z : State} {r : Bool} → OpensOne pool ends p z₀ z r → r ≡ true → OneOpened pool ends p z₀ z
opens_true (opens o) e = o
opens_true (without w) e = absurd (false≢true e)

pub opens_false : {pool ends : List ℕ} {p : AtomPlan} {z₀ z : State} {r : Bool} → OpensOne pool ends p z₀ z r → r ≡ false → Without p.both pool ends p (stand_of z₀ ends p.atom)
opens_false (opens o) e = absurd (false≢true (sym e))
opens_false (without w) e = w

-- in both tables: as a piece is taken
module _ (pool : List ℕ) {ends : List ℕ} (p : AtomPlan) {z₀ : State} (sized : Sized z₀ ends) (b : p.atom < max_atoms) (e : p.both ≡ true) where
  abbrev a₁ : ℕ
  a₁ = p.atom

  took : {z : State} → Taken pool ends a₁ (run_of pool (first_runs ends p)) (λ (lo : ℕ → ℕ) (school : List ℕ). Began pool lo school (first_runs ends p)) z₀ z → OneOpened pool ends p z₀ z
  took {z} t =
      let w : stand_of z ends a₁ ≡ stand_of (placed z₀ a₁ t.x t.m t.o t.l) ends a₁ = ap (λ (y : State). stand_of y ends a₁) t.is in
      let v = w ∙ placed_stand sized a₁ t.x t.m t.o t.l b in
      record {
        sized = subst (λ (y : State). Sized y ends) (sym t.is)
            (record {
              places = length-set z₀.at a₁ t.x ∙ sized.places;
              piece_ends = length-set z₀.end a₁ t.m ∙ sized.piece_ends;
              owners = length-set z₀.own a₁ t.o ∙ sized.owners;
              lefts = length-set z₀.left a₁ t.l ∙ sized.lefts;
              run_ends = sized.run_ends;
            });
        here = subst (λ (y : Bool). OpenedIn y pool ends p (stand_of z₀ ends a₁) (stand_of z ends a₁)) (sym e)
            (record {
              some = omega (arith, t.some, ap (λ (y : Stand). y.at) v, ap (λ (y : Stand). y.end) v);
              high = omega (arith, t.high, ap (λ (y : Stand). y.end) v);
              whole = t.whole;
              tailed = t.tailed;
              laid = t.laid;
            });
        others = λ x n. ap (λ (y : State). stand_of y ends x) t.is ∙ placed_other z₀ ends a₁ t.x t.m t.o t.l x n;
      }

  pub take_opens : {z : State} {r : Bool} → Takes pool ends p.atom (run_of pool (first_runs ends p)) (λ (lo : ℕ → ℕ) (school : List ℕ). Began pool lo school (first_runs ends p)) z₀ z r → OpensOne pool ends p z₀ z r
  take_opens (some t) = opens (took t)
  take_opens (none n y) = without (subst (λ (y : Bool). Without y pool ends p (stand_of z₀ ends a₁)) (sym e) n)

-- in one: at the start of its group
module _ (pool : List ℕ) {ends : List ℕ} (p : AtomPlan) {z₀ : State} (sized : Sized z₀ ends) (b : p.atom < max_atoms) (e : p.both ≡ false) where
  abbrev a₂ : ℕ
  a₂ = p.atom

  pub one_without : {layer : LayerPlan} {z : State} → layer ≡ table_of p (get_or z₀.own p.atom 0) → layer.key_count ≡ 0 → OpensOne pool ends p z₀ z false
  one_without t n = without (subst (λ (y : Bool). Without y pool ends p (stand_of z₀ ends a₂)) (sym e) (ap (λ (y : LayerPlan). y.key_count) (sym t) ∙ n))

  pub one_opens : {layer : LayerPlan} {lo hi : ℕ} → layer ≡ table_of p (get_or z₀.own p.atom 0) → get_or z₀.left p.atom 0 ≡ 0 → (layer.key_count ≡ 0 → ⊥) → lo ≡ group_low pool layer (get_or z₀.at p.atom 0) → hi ≡ group_high pool layer (get_or z₀.at p.atom 0) → OpensOne pool ends p z₀ (record { at = set z₀.at p.atom lo; end = set z₀.end p.atom hi; own = z₀.own; left = z₀.left }) true
  one_opens {layer} {lo} {hi} t l n v w = opens record {
    sized = record {
      places = length-set z₀.at a₂ lo ∙ sized.places;
      piece_ends = length-set z₀.end a₂ hi ∙ sized.piece_ends;
      owners = sized.owners;
      lefts = sized.lefts;
      run_ends = sized.run_ends;
    };
    here = subst (λ (y : Bool). OpenedIn y pool ends p (stand_of z₀ ends a₂) (stand_of (record { at = set z₀.at a₂ lo; end = set z₀.end a₂ hi; own = z₀.own; left = z₀.left }) ends a₂)) (sym e)
        (record {
          nonempty = λ z. n (ap (λ (y : LayerPlan). y.key_count) t ∙ z);
          low = get_or-set_same z₀.at a₂ lo 0 (omega (arith, b, sized.places)) ∙ v ∙ ap (λ (y : LayerPlan). group_low pool y (get_or z₀.at a₂ 0)) t;
          high = get_or-set_same z₀.end a₂ hi 0 (omega (arith, b, sized.piece_ends)) ∙ w ∙ ap (λ (y : LayerPlan). group_high pool y (get_or z₀.at a₂ 0)) t;
          own = refl;
          last = l;
        });
    others = λ x n. let i = get_or-set_other z₀.at a₂ x lo 0 n in let j = get_or-set_other z₀.end a₂ x hi 0 n in λ k. record { at = i k; end = j k; own = get_or z₀.own x 0; left = get_or z₀.left x 0; mine = get_or ends (2 * x + get_or z₀.own x 0) 0; others = get_or ends (2 * x + 1 - get_or z₀.own x 0) 0 };
  }

-- ---- the atoms of a depth

pub opens_start : (pool : List ℕ) (plan : Plan) (d : ℕ) {z : State} {ends ring by_atom : List ℕ} → Arrays z ends ring by_atom → Opens pool plan ends d 0 z z ring by_atom
opens_start pool plan d a = record {
  arrays = a;
  each = λ j h. absurd (omega arith);
  ring_is = λ j h. absurd (omega arith);
  by_atom_is = λ j h. absurd (omega arith);
  others = λ x f. refl;
}

module _ {pool : List ℕ} {plan : Plan} {ends : List ℕ} {d : ℕ} {z₀ : State} (o : Openable pool plan ends d z₀) {m : ℕ} {z : State} {ring by_atom : List ℕ} (s : Opens pool plan ends d m z₀ z ring by_atom) (h : m < count_at plan d) where
  abbrev a : ℕ
  a = who_at plan d m

  -- the next stands where it stood
  here : stand_of z ends (who_at plan d m) ≡ stand_of z₀ ends (who_at plan d m)
  here = s.others (who_at plan d m) (λ j l e. omega (arith, o.ascend j m l h))

  pub opens_can : OneOpenable pool ends (opening_at plan d m) (stand_of z ends (who_at plan d m))
  opens_can = subst (OneOpenable pool ends (opening_at plan d m)) (sym here) (o.each m h)

  pub opens_refuses : Without (opening_at plan d m).both pool ends (opening_at plan d m) (stand_of z ends (who_at plan d m)) → Refuses pool plan ends d z₀
  opens_refuses w = record { which = m; takes = h; none = subst (Without (opening_at plan d m).both pool ends (opening_at plan d m)) here w }

  apart : (j : ℕ) → j < m → who_at plan d j ≡ a → ⊥
  apart j l e = omega (arith, o.ascend j m l h)

  inside : m < max_atoms
  inside = omega (arith, o.few)

  -- one more index
  each : {P : ℕ → Type 0} → ((j : ℕ) → j < m → P j) → P m → (j : ℕ) → j < m + 1 → P j
  each {P} f p j l = go (ℕ_discrete j m)
    where
      go : Dec (j ≡ m) → P j
      go (yes e) = subst P (sym e) p
      go (no e) = f j (omega arith)

  pub opens_next : {z' : State} → OneOpened pool ends (opening_at plan d m) z z' → Opens pool plan ends d (m + 1) z₀ z' (set ring m (who_at plan d m)) (set by_atom m (who_at plan d m))
  opens_next {z'} q = record {
    arrays = record {
      sized = q.sized;
      size = length-set ring m a ∙ s.arrays.size;
      by_atom_size = length-set by_atom m a ∙ s.arrays.by_atom_size;
    };
    each = each {P = λ j. OpenedIn (opening_at plan d j).both pool ends (opening_at plan d j) (stand_of z₀ ends (who_at plan d j)) (stand_of z' ends (who_at plan d j))}
        (λ j l. subst (OpenedIn (opening_at plan d j).both pool ends (opening_at plan d j) (stand_of z₀ ends (who_at plan d j))) (sym (q.others (who_at plan d j) (apart j l))) (s.each j l))
        (subst (λ (st : Stand). OpenedIn (opening_at plan d m).both pool ends (opening_at plan d m) st (stand_of z' ends (who_at plan d m))) here q.here);
    ring_is = each {P = λ j. get_or (set ring m a) j 0 ≡ who_at plan d j}
        (λ j k. get_or-set_other ring m j a 0 (λ e. omega arith) ∙ s.ring_is j k)
        (get_or-set_same ring m a 0 (omega (arith, inside, s.arrays.size)));
    by_atom_is = each {P = λ j. get_or (set by_atom m a) j 0 ≡ who_at plan d j}
        (λ j k. get_or-set_other by_atom m j a 0 (λ e. omega arith) ∙ s.by_atom_is j k)
        (get_or-set_same by_atom m a 0 (omega (arith, inside, s.arrays.by_atom_size)));
    others = λ x f. q.others x (λ e. f m (omega arith) (sym e)) ∙ s.others x (λ j k. f j (omega arith));
  }

pub all_true : {pool : List ℕ} {plan : Plan} {ends : List ℕ} {d : ℕ} {z₀ z : State} {ring by_atom : List ℕ} {r : Bool} → OpenedAll pool plan ends d z₀ z ring by_atom r → r ≡ true → Opens pool plan ends d (count_at plan d) z₀ z ring by_atom
all_true (all o) e = o
all_true (refuses w) e = absurd (false≢true e)

pub all_false : {pool : List ℕ} {plan : Plan} {ends : List ℕ} {d : ℕ} {z₀ z : State} {ring by_atom : List ℕ} {r : Bool} → OpenedAll pool plan ends d z₀ z ring by_atom r → r ≡ false → Refuses pool plan ends d z₀
all_false (all o) e = absurd (false≢true (sym e))
all_false (refuses w) e = w
