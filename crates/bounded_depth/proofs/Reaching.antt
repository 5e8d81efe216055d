-- A depth that is opened, and then sought to a target: of the common keys those from the target on are left.
use Prim.Native.Nat.{ℕ, ◌≤◌}
use native.Mathlib.Omega.{arith}
use mathlib.Core.Path.{◌≡◌, refl, sym, subst, ap, ◌∙◌}
use mathlib.Core.List.{List, []}
use lib.ListN.{get_or}
use Rattle.relation.specs.Runs.{from}
use Rattle.query.specs.Meet.{meet}
use Rattle.leapfrog.specs.Search.{seek_to}
use Rattle.leapfrog.proofs.Onward.{seek_comes}
use Rattle.ring_sort.specs.Sorted.{key_at}
use Rattle.leapfrog_search.specs.declared.Landed.{Landed}
use Rattle.leapfrog_search.specs.declared.Landed.TheVariants.{Key, Nothing}
use Rattle.leapfrog_search.specs.declared.Searched.{Searched}
use Rattle.leapfrog_search.proofs.Runs.{seek_from}
use Rattle.stretches.specs.Stand.{wholes_in}
use Rattle.stretches.specs.declared.State.{State}
use Rattle.stretches.specs.Whole.{WholeAgreed, WholeRan}
use Rattle.stretches.proofs.Laws.{whole_agreeing}
use Rattle.join_query.specs.Query.{max_variables}
use Rattle.join_query.proofs.Accepted.{sized}
use Rattle.join_plan.specs.Plan.{Plan}
use Rattle.join_openings.specs.Openings.{count_at}
use Rattle.join_depths.specs.Depth.{Standing, IfFound, DepthBegun}
use Rattle.join_depths.proofs.Wholes.{WholeLeft, whole_ready, whole_left}
use Rattle.join_depths.proofs.Stepping.{begins_anew}
use Rattle.join_depths.proofs.Beginnings.{opened_moved}
use Rattle.bounded_depth.specs.From.{DepthFrom}

pub few_variables : {pool : List ℕ} {plan : Plan} {ends : List ℕ} {n d : ℕ} {at own : List ℕ} → Standing pool plan ends n d at own → n ≤ max_variables
few_variables st = omega (arith, (sized st.stands.based.accepted).few, st.stands.based.size)

-- what a seek leaves of the common keys
seek_left : {pool ends ring : List ℕ} {k x p : ℕ} {z₀ z : State} {a : Searched} (t : ℕ) → WholeAgreed pool z₀ ends ring k x p → WholeRan pool ends ring k z₀ z (seek_to t (wholes_in pool z₀ ends ring k) p) a → WholeLeft pool ends ring k z₀ z (from t (meet (wholes_in pool z₀ ends ring k))) [] a.landed
seek_left {pool} {ends} {ring} {k} {p = p} {z₀ = z₀} {a = a} t g d =
    let w = whole_agreeing g in
    whole_left (whole_ready g) {passed = []} {a = a} (sym (seek_from (wholes_in pool z₀ ends ring k) w.ascend p t w.place)) (seek_comes w t) d

nothing : (t : ℕ) → [] ≡ from t []
unfolding from
nothing t = refl

if_found : (landed : Landed) {A : Type 0} → A → IfFound landed A
if_found (Key x p) a = a
if_found (Nothing p) a = tt

module _ {pool : List ℕ} {plan : Plan} {ends : List ℕ} {n d : ℕ} {at₀ own₀ : List ℕ} {z : State} {ring by_atom : List ℕ} {landed : Landed} (t : ℕ) (b : DepthBegun pool plan ends n d at₀ own₀ z ring by_atom landed) where
  -- there was no key
  pub from_none : {p : ℕ} → landed ≡ Nothing p → DepthFrom pool plan ends n d at₀ own₀ z ring by_atom t landed
  from_none {p} e = subst (λ (h : Landed). DepthBegun pool plan ends n d at₀ own₀ z ring by_atom h → DepthFrom pool plan ends n d at₀ own₀ z ring by_atom t h) (sym e) none b
    where
      none : DepthBegun pool plan ends n d at₀ own₀ z ring by_atom (Nothing p) → DepthFrom pool plan ends n d at₀ own₀ z ring by_atom t (Nothing p)
      none b = record {
        agreed = tt;
        same = tt;
        begins = λ ts q f s. record { keys = nothing t ∙ ap (from t) (b.begins ts q f s).keys; opened = tt };
      }

  module _ {x p : ℕ} (e : landed ≡ Key x p) where
    found : DepthBegun pool plan ends n d at₀ own₀ z ring by_atom (Key x p)
    found = subst (DepthBegun pool plan ends n d at₀ own₀ z ring by_atom) e b

    -- all agree, from the first place of the ring in atom order too
    pub from_agreed : WholeAgreed pool z ends by_atom (count_at plan d) (key_at pool z.at (get_or by_atom 0 0)) 0
    from_agreed = begins_anew found.agreed

    pub from_found : {z' : State} {r : Searched} → WholeRan pool ends by_atom (count_at plan d) z z' (seek_to t (wholes_in pool z ends by_atom (count_at plan d)) 0) r → DepthFrom pool plan ends n d at₀ own₀ z' ring by_atom t r.landed
    from_found {z'} {r} w = let l = seek_left t from_agreed w in record {
      agreed = l.agreed;
      same = if_found r.landed found.same;
      begins = λ ts q f s. let g = found.begins ts q f s in record { keys = sym l.keys ∙ ap (from t) g.keys; opened = if_found r.landed (opened_moved g.opened l.carried) };
    }
