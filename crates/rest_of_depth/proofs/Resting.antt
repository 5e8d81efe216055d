-- The loop over the keys left of a depth. Idea: to emit the rows under the keys left, from where the window stands, ends where the whole walk ends; a key's call takes the first
-- of them away.
use Prim.Native.Nat.{ℕ, ◌+◌, ◌≤◌, ◌<◌}
use native.Mathlib.Omega.{arith}
use mathlib.Core.Path.{◌≡◌, refl, sym, subst, ap, ◌∙◌}
use mathlib.Core.Bool.{Bool, true, false}
use mathlib.Core.List.{List, [], ◌∷◌, flat_map}
use lib.ListN.{get_or, set}
use Rattle.relation.specs.Order.{Row}
use Rattle.query.specs.Window.{Progress, emits}
use Rattle.query.specs.Descend.{standings}
use Rattle.query.proofs.Meet.{get_or_in}
use Rattle.query.proofs.Window.{emits_append, emits_full}
use Rattle.ring_sort.specs.Sorted.{key_at}
use Rattle.leapfrog_search.specs.Ring.{SameAtoms}
use Rattle.leapfrog_search.specs.declared.Landed.{Landed}
use Rattle.leapfrog_search.specs.declared.Landed.TheVariants.{Key, Nothing}
use Rattle.leapfrog_join.proofs.Laws.{agreed_key}
use Rattle.stretches.specs.declared.State.{State}
use Rattle.stretches.specs.Whole.{WholeAgreed}
use Rattle.join_query.specs.Query.{max_variables, order_of, atoms_of}
use Rattle.join_query.specs.declared.Query.{Query}
use Rattle.join_query.specs.declared.Tables.{Tables}
use Rattle.join_query.proofs.Accepted.{sized}
use Rattle.join_plan.specs.Plan.{Plan}
use Rattle.join_window.specs.Window.{written}
use Rattle.join_openings.specs.Openings.{variable_at, count_at}
use Rattle.join_depths.specs.Depth.{Standing, AgreedAt, IfFound, Steps}
use Rattle.join_depths.proofs.Standing.{variable_is}
use Rattle.join_depths.proofs.Wholes.{whole_first}
use Rattle.descent.specs.Descent.{Descended}
use Rattle.descent.proofs.Walking.{first, rest, gained}
use Rattle.rest_of_depth.specs.Rest.{keys_at, KeysLeft, Underway, rows_under, rows_left, Walks}
use Rattle.rest_of_depth.proofs.Keys.{if_found, key_stands, key_below, key_next}

-- ---- the rows left, of one query

module _ (n : ℕ) (rows : ℕ → List Row) where
  -- the first key's are emitted
  pub emits_key : (s : Progress) {x : ℕ} {keys left : List ℕ} {t : Progress} → keys ≡ x ∷ left → t ≡ emits n s (rows x) → emits n t (flat_map rows left) ≡ emits n s (flat_map rows keys)
  unfolding flat_map
  emits_key s {x} {keys} {left} e d =
      ap (λ (u : Progress). emits n u (flat_map rows left)) d
      ∙ (sym (emits_append n s (rows x) (flat_map rows left)) ∙ ap (λ (ks : List ℕ). emits n s (flat_map rows ks)) (sym e))

  -- and the window is full
  pub emits_last : (s : Progress) {x : ℕ} {keys left : List ℕ} {t : Progress} → keys ≡ x ∷ left → t ≡ emits n s (rows x) → t.full ≡ true → t ≡ emits n s (flat_map rows keys)
  emits_last s {left = left} {t = t} e d f = sym (emits_full n t (flat_map rows left) f) ∙ emits_key s e d

  -- there are none
  pub emits_none : (s : Progress) {t : Progress} → emits n s (flat_map rows []) ≡ t → s ≡ t
  unfolding flat_map emits
  emits_none s e = e

-- the keys of one query are left so, and the rows under them lead to the end
pub record Goes (pool : List ℕ) (ts : Tables) (q : Query) (plan : Plan) (ends : List ℕ) (n d : ℕ) (f : ℕ → Row) (found : Row) (e : Progress) (z : State) (by_atom : List ℕ) (landed : Landed) (s : Progress) : Type 0 where
  pub left : KeysLeft pool ts q plan ends n d z by_atom f landed
  pub leads : emits n s (rows_left pool ts q n d f found (keys_at pool plan ends d z by_atom landed)) ≡ e

-- ---- the loop's invariant

-- z₀ and landed₀ are where it started, the rest is as it stands now
pub record Walking (pool : List ℕ) (plan : Plan) (ends : List ℕ) (n d : ℕ) (z₀ : State) (ring by_atom : List ℕ) (landed₀ : Landed) (found w₀ : List ℕ) (from : ℕ) (w : List ℕ) (z : State) (landed : Landed) (rows : ℕ) : Type 0 where
  pub agreed : AgreedAt pool z ends by_atom (count_at plan d) landed
  pub same : IfFound landed (SameAtoms by_atom ring (count_at plan d))
  pub goes : (ts : Tables) (q : Query) (f : ℕ → Row) → KeysLeft pool ts q plan ends n d z₀ by_atom f landed₀ → Goes pool ts q plan ends n d f found (emits n (written w₀ from false) (rows_left pool ts q n d f found (keys_at pool plan ends d z₀ by_atom landed₀))) z by_atom landed (written w rows false)

module _ {pool : List ℕ} {plan : Plan} {ends : List ℕ} {n d : ℕ} {z₀ : State} {ring by_atom : List ℕ} {landed₀ : Landed} (u : Underway pool plan ends n d z₀ ring by_atom landed₀) where
  pub few_variables : n ≤ max_variables
  few_variables = omega (arith, (sized u.left.based.accepted).few, u.left.based.size)

  pub variable_small : variable_at plan d < max_variables
  variable_small =
      let q = u.query in
      let z = sized u.left.based.accepted in
      omega (
        arith,
        variable_is u.left.based u.below,
        few_variables,
        u.left.based.size,
        z.permutation.below (get_or (order_of q) d 0) (get_or_in (order_of q) d 0 (omega (arith, z.permutation.size, u.left.based.size, u.below))),
      )

  module _ {found w₀ : List ℕ} {from : ℕ} where
    pub walk_start : Walking pool plan ends n d z₀ ring by_atom landed₀ found w₀ from w₀ z₀ landed₀ from
    walk_start = record { agreed = u.agreed; same = u.same; goes = λ ts q f l. record { left = l; leads = refl } }

    module _ {w : List ℕ} {z : State} {rows : ℕ} where
      -- a key is found
      module _ {landed : Landed} {x p : ℕ} (e : landed ≡ Key x p) (now : Walking pool plan ends n d z₀ ring by_atom landed₀ found w₀ from w z landed rows) where
        i : Walking pool plan ends n d z₀ ring by_atom landed₀ found w₀ from w z (Key x p) rows
        i = subst (λ (h : Landed). Walking pool plan ends n d z₀ ring by_atom landed₀ found w₀ from w z h rows) e now

        mine : KeysLeft pool u.tables u.query plan ends n d z by_atom u.words (Key x p)
        mine = (i.goes u.tables u.query u.words u.left).left

        pub walk_below : Standing pool plan ends n (d + 1) z.at z.own
        walk_below = record { tables = u.tables; query = u.query; words = gained u.query d u.words x; stands = key_stands mine i.agreed }

        -- what the step to the next key asks: all agree on the key of the ring's first atom
        here : key_at pool z.at (get_or by_atom 0 0) ≡ x
        here = agreed_key i.agreed.agreed 0 i.agreed.agreed.ready.positive

        pub walk_agreed : WholeAgreed pool z ends by_atom (count_at plan d) (key_at pool z.at (get_or by_atom 0 0)) p
        walk_agreed = rw here i.agreed

        pub walk_same : SameAtoms by_atom ring (count_at plan d)
        walk_same = i.same

        module _ {w' : List ℕ} {rows' : ℕ} {full : Bool} (r : Descended pool plan ends n (d + 1) z.at z.own (set found (variable_at plan d) x) w rows w' rows' full) where
          pub walk_full : full ≡ true → Walks pool plan ends n d z₀ by_atom landed₀ found w₀ from w' rows' full
          walk_full t = record {
            emitted = λ ts q f l.
                let g = i.goes ts q f l in
                (emits_last n (rows_under n (first q d) (rest q d) (standings f (atoms_of pool ts q)) found) (written w rows false) (whole_first i.agreed) (key_below g.left i.agreed found r) t ∙ g.leads);
          }

          pub walk_next : full ≡ false → {z' : State} {landed' : Landed} → Steps pool ends by_atom (count_at plan d) z z' (key_at pool z.at (get_or by_atom 0 0)) landed' → Walking pool plan ends n d z₀ ring by_atom landed₀ found w₀ from w' z' landed' rows'
          walk_next t {z'} {landed'} s₀ =
              let s : Steps pool ends by_atom (count_at plan d) z z' x landed' = rw here at s₀ in
              record {
                agreed = s.agreed;
                same = if_found landed' i.same;
                goes = λ ts q f l.
                    let g = i.goes ts q f l in
                    record {
                      left = key_next g.left i.agreed s;
                      leads =
                          emits_key n (rows_under n (first q d) (rest q d) (standings f (atoms_of pool ts q)) found) (written w rows false) s.keys
                          (subst (λ (b : Bool). written w' rows' b ≡ emits n (written w rows false) (rows_under n (first q d) (rest q d) (standings f (atoms_of pool ts q)) found x)) t (key_below g.left i.agreed found r))
                          ∙ g.leads;
                    };
              }

      -- none is left
      pub walk_none : {landed : Landed} {p : ℕ} → landed ≡ Nothing p → Walking pool plan ends n d z₀ ring by_atom landed₀ found w₀ from w z landed rows → {full : Bool} → full ≡ false → Walks pool plan ends n d z₀ by_atom landed₀ found w₀ from w rows full
      walk_none {p = p} e now t = record {
        emitted = λ ts q f l.
            ap (written w rows) t
            ∙ emits_none n (rows_under n (first q d) (rest q d) (standings f (atoms_of pool ts q)) found) (written w rows false) ((subst (λ (h : Landed). Walking pool plan ends n d z₀ ring by_atom landed₀ found w₀ from w z h rows) e now).goes ts q f l).leads;
      }
