-- The descent with a bound: its end, and one depth of it. Idea: the keys from the given row's word on are left; if the first is that word, the call below it lists what
-- comes after the given row there, and no later key is that word, so the rest of the depth is walked without the bound.
use Prim.Native.Nat.{ℕ, ◌+◌, ◌≤◌, ◌<◌}
use native.Mathlib.Omega.{arith}
use mathlib.Core.Path.{◌≡◌, refl, sym, subst, ap, ◌∙◌}
use mathlib.Core.Bool.{Bool, true, false}
use mathlib.Core.Logic.{⊎_elim}
use mathlib.Core.List.{List, [], ◌∷◌, ◌++◌, map, flat_map}
use lib.ListN.{length, get_or, set, drop, drop_of_length-le}
use lib.Dec.{eqb}
use borrow.Author.Tests.{ne_eqb}
use Rattle.relation.specs.Order.{Row, pick}
use Rattle.relation.specs.Lists.{◌∈◌, hd, tl, in_cons, Ascends}
use Rattle.relation.specs.Runs.{from}
use Rattle.relation.proofs.Lists.{ascends_head}
use Rattle.relation.proofs.Runs.{in_from, from_least}
use Rattle.query.specs.Meaning.{Atom}
use Rattle.query.specs.Meet.{meet}
use Rattle.query.specs.Solve.{bind, extend}
use Rattle.query.specs.Window.{Progress, emits}
use Rattle.query.specs.Descend.{standings, Joinable}
use Rattle.query.proofs.Meet.{meet_asc}
use Rattle.query.proofs.Under.{standings_runs}
use Rattle.ring_sort.specs.Sorted.{key_at}
use Rattle.leapfrog_search.specs.Ring.{SameAtoms}
use Rattle.leapfrog_search.specs.declared.Landed.{Landed}
use Rattle.leapfrog_search.specs.declared.Landed.TheVariants.{Key, Nothing}
use Rattle.leapfrog_join.proofs.Laws.{agreed_key}
use Rattle.stretches.specs.Stand.{wholes_in}
use Rattle.stretches.specs.declared.State.{State}
use Rattle.stretches.specs.Whole.{WholeAgreed}
use Rattle.join_query.specs.Query.{order_of, atoms_of}
use Rattle.join_query.specs.declared.Query.{Query}
use Rattle.join_query.specs.declared.Tables.{Tables}
use Rattle.join_query.proofs.Accepted.{sized, tables}
use Rattle.join_plan.specs.Plan.{Plan}
use Rattle.join_window.specs.Window.{written}
use Rattle.join_openings.specs.Openings.{variable_at, count_at}
use Rattle.join_depths.specs.Depth.{Stands, Standing, AgreedAt, IfFound, common_at, Steps}
use Rattle.join_depths.proofs.Standing.{order_next, variable_is}
use Rattle.join_depths.proofs.Wholes.{whole_ready, whole_first, ready_wholes}
use Rattle.descent.proofs.Walking.{first, rest, gained}
use Rattle.rows_after.specs.Bounded.{extend_after, DescendsAfter}
use Rattle.rows_after.proofs.Bounded.{common_ascend}
use Rattle.rows_after.proofs.Walk.{ToGoAfter, leaf_after, after_still, after_on, after_end, after_full, engine_after_start}
use Rattle.bounded_depth.specs.From.{DepthFrom}
use Rattle.rest_of_depth.specs.Rest.{keys_at, KeysLeft, Underway, rows_under, Walks}
use Rattle.rest_of_depth.proofs.Keys.{if_found, key_stands, key_rows, key_next}
use Rattle.descent_after.specs.Descent.{DescendedAfter}

-- ---- no variable is left

pub after_leaf : {pool : List ℕ} {plan : Plan} {ends : List ℕ} {n d : ℕ} {at own : List ℕ} {found given w : List ℕ} {rows : ℕ} {full : Bool} → d ≡ n → full ≡ false → DescendedAfter pool plan ends n d at own found given w rows w rows full
after_leaf {pool} {n = n} {d} {found = found} {given} {w} {rows} e t = record {
  descends = λ ts q f s.
      let none : [] ≡ drop d (order_of q) = sym (drop_of_length-le (order_of q) (let h : length (order_of q) ≤ d = omega (arith, (sized s.based.accepted).permutation.size, s.based.size) in h)) in
      subst (λ (b : Bool). DescendsAfter n (drop d (order_of q)) (standings f (atoms_of pool ts q)) found given (written w rows false) (written w rows b)) (sym t)
      (subst (λ (l : List ℕ). DescendsAfter n l (standings f (atoms_of pool ts q)) found given (written w rows false) (written w rows false)) none
      (leaf_after n (standings f (atoms_of pool ts q)) found given (written w rows false)));
}

-- ---- keys that are not the given row's word

module _ (n v : ℕ) (vs : List ℕ) (atoms : List Atom) (row given : Row) where
  abbrev bounded : ℕ → List Row
  bounded k = pick (eqb k (get_or given v 0)) (extend_after n vs (map (bind v k) atoms) (set row v k) given) (extend n vs (map (bind v k) atoms) (set row v k))

  -- under them no bound is left
  unbound : (keys : List ℕ) → ((k : ℕ) → k ∈ keys → k ≡ get_or given v 0 → ⊥) → flat_map (rows_under n v vs atoms row) keys ≡ flat_map bounded keys
  unfolding flat_map
  unbound [] f = refl
  unbound (k ∷ keys) f =
      ap (λ (rs : List Row). rows_under n v vs atoms row k ++ rs) (unbound keys (λ j m. f j (tl m)))
      ∙ ap (λ (b : Bool). pick b (extend_after n vs (map (bind v k) atoms) (set row v k) given) (extend n vs (map (bind v k) atoms) (set row v k)) ++ flat_map bounded keys) (sym (ne_eqb k (get_or given v 0) (f k (hd refl))))

  -- so a walk of the rest ends the depth
  walked : {s₀ : Progress} (s : Progress) {t : Progress} {keys : List ℕ} → ToGoAfter n v vs atoms row given s₀ keys s → ((k : ℕ) → k ∈ keys → k ≡ get_or given v 0 → ⊥) → t ≡ emits n s (flat_map (rows_under n v vs atoms row) keys) → DescendsAfter n (v ∷ vs) atoms row given s₀ t
  walked s {keys = keys} i f e = record { exit = e ∙ (ap (emits n s) (unbound keys f) ∙ i.ends) }

-- ---- one depth, opened from the given row's word on

module _ {pool : List ℕ} {plan : Plan} {ends : List ℕ} {n d : ℕ} {above owned : List ℕ} {z : State} {ring by_atom : List ℕ} (given : Row) {landed : Landed} (b : DepthFrom pool plan ends n d above owned z ring by_atom (get_or given (variable_at plan d) 0) landed) (st : Standing pool plan ends n d above owned) (below : d < n) where
  -- of one query
  module _ {ts : Tables} {q : Query} {f : ℕ → Row} (s : Stands pool ts q plan ends n d above owned f) where
    abbrev atoms : List Atom
    atoms = standings f (atoms_of pool ts q)

    word : get_or given (variable_at plan d) 0 ≡ get_or given (first q d) 0
    word = ap (λ (v : ℕ). get_or given v 0) (variable_is s.based below)

    -- the keys left are the common ones from its word on
    keys : keys_at pool plan ends d z by_atom landed ≡ from (get_or given (first q d) 0) (common_at pool ts q d f)
    keys = (b.begins ts q f s).keys ∙ ap (λ (t : ℕ). from t (common_at pool ts q d f)) word

    left : KeysLeft pool ts q plan ends n d z by_atom f landed
    left = record { based = s.based; among = λ k m. in_from (get_or given (first q d) 0) (common_at pool ts q d f) (subst (λ (ks : List ℕ). k ∈ ks) keys m); opened = (b.begins ts q f s).opened }

    -- and none is below it
    least : (k : ℕ) → k ∈ keys_at pool plan ends d z by_atom landed → get_or given (first q d) 0 ≤ k
    least k m = from_least (get_or given (first q d) 0) ascends (subst (λ (ks : List ℕ). k ∈ ks) keys m)
      where
        ascends : Ascends ◌<◌ (common_at pool ts q d f)
        ascends =
            subst (λ (rs : List (List ℕ)). Ascends ◌<◌ (meet rs)) (standings_runs (first q d) f (atoms_of pool ts q) (tables s.based.accepted))
            (common_ascend (first q d) (rest q d) atoms (subst (λ (l : List ℕ). Joinable l atoms) (order_next s.based below) s.based.joinable))

    starts : (found : Row) (s₀ : Progress) → ToGoAfter n (first q d) (rest q d) atoms found given s₀ (keys_at pool plan ends d z by_atom landed) s₀
    starts found s₀ = after_still n (first q d) (rest q d) atoms found given s₀ (sym keys) (engine_after_start n (first q d) (rest q d) f (atoms_of pool ts q) (tables s.based.accepted) found given s₀)

    ends_so : {found : Row} {s₀ t : Progress} → DescendsAfter n (first q d ∷ rest q d) atoms found given s₀ t → DescendsAfter n (drop d (order_of q)) atoms found given s₀ t
    ends_so {found} {s₀} {t} e = subst (λ (l : List ℕ). DescendsAfter n l atoms found given s₀ t) (sym (order_next s.based below)) e

  -- no key is left
  pub after_none : {found w₀ : List ℕ} {from₀ p : ℕ} → landed ≡ Nothing p → {full : Bool} → full ≡ false → DescendedAfter pool plan ends n d above owned found given w₀ from₀ w₀ from₀ full
  after_none {found} {w₀} {from₀} e t = record {
    descends = λ ts q f s.
        subst (λ (b : Bool). DescendsAfter n (drop d (order_of q)) (atoms s) found given (written w₀ from₀ false) (written w₀ from₀ b)) (sym t)
        (ends_so s (after_end n (first q d) (rest q d) (atoms s) found given (written w₀ from₀ false)
        (after_still n (first q d) (rest q d) (atoms s) found given (written w₀ from₀ false) (ap (keys_at pool plan ends d z by_atom) e) (starts s found (written w₀ from₀ false)))));
  }

  -- a key is found
  module _ {x p : ℕ} (e : landed ≡ Key x p) where
    a : WholeAgreed pool z ends by_atom (count_at plan d) x p
    a = subst (AgreedAt pool z ends by_atom (count_at plan d)) e b.agreed

    pub after_same : SameAtoms by_atom ring (count_at plan d)
    after_same = subst (λ (h : Landed). IfFound h (SameAtoms by_atom ring (count_at plan d))) e b.same

    found_left : {ts : Tables} {q : Query} {f : ℕ → Row} → Stands pool ts q plan ends n d above owned f → KeysLeft pool ts q plan ends n d z by_atom f (Key x p)
    found_left {ts} {q} {f} s = subst (KeysLeft pool ts q plan ends n d z by_atom f) e (left s)

    now_keys : keys_at pool plan ends d z by_atom landed ≡ meet (wholes_in pool z ends by_atom (count_at plan d))
    now_keys = ap (keys_at pool plan ends d z by_atom) e

    -- it is the first of those left, and the later ones are above it
    later : {more : List ℕ} → meet (wholes_in pool z ends by_atom (count_at plan d)) ≡ x ∷ more → (k : ℕ) → k ∈ more → x < k
    later m = ascends_head (subst (Ascends ◌<◌) m (meet_asc (wholes_in pool z ends by_atom (count_at plan d)) (ready_wholes (whole_ready a))))

    -- none of them is below the given row's word
    pub after_least : get_or given (variable_at plan d) 0 ≤ x
    after_least = omega (arith, least st.stands x (subst (λ (ks : List ℕ). x ∈ ks) (sym (now_keys ∙ whole_first a)) (hd refl)), word st.stands)

    -- the rest of the depth can be walked from there
    pub after_underway : Underway pool plan ends n d z ring by_atom (Key x p)
    after_underway = record { below = below; agreed = a; same = after_same; tables = st.tables; query = st.query; words = st.words; left = found_left st.stands }

    -- it is not the given row's word, so no other is
    pub after_past : (x ≡ get_or given (variable_at plan d) 0 → ⊥) → {found w₀ : List ℕ} {from₀ : ℕ} {w : List ℕ} {rows : ℕ} {full : Bool} → Walks pool plan ends n d z by_atom (Key x p) found w₀ from₀ w rows full → DescendedAfter pool plan ends n d above owned found given w₀ from₀ w rows full
    after_past ne {found} {w₀} {from₀} r = record {
      descends = λ ts q f s.
          let s₀ = written w₀ from₀ false in
          ends_so s (walked n (first q d) (rest q d) (atoms s) found given s₀ (after_still n (first q d) (rest q d) (atoms s) found given s₀ now_keys (starts s found s₀)) (differ s) (r.emitted ts q f (found_left s)));
    }
      where
        differ : {ts : Tables} {q : Query} {f : ℕ → Row} (s : Stands pool ts q plan ends n d above owned f) (k : ℕ) → k ∈ meet (wholes_in pool z ends by_atom (count_at plan d)) → k ≡ get_or given (first q d) 0 → ⊥
        differ {q = q} s k m i =
            ⊎_elim (λ (h : k ≡ x). ne (sym h ∙ (i ∙ sym (word s))))
            (λ (h : k ∈ meet (map (drop 1) (wholes_in pool z ends by_atom (count_at plan d)))). omega (arith, later (whole_first a) k h, least s x (subst (λ (ks : List ℕ). x ∈ ks) (sym (now_keys ∙ whole_first a)) (hd refl))))
            (in_cons (subst (λ (ks : List ℕ). k ∈ ks) (whole_first a) m))

    -- it is: the call below has the bound
    pub after_below : Standing pool plan ends n (d + 1) z.at z.own
    after_below = record { tables = st.tables; query = st.query; words = gained st.query d st.words x; stands = key_stands (found_left st.stands) a }

    -- what the step to the next key asks: all agree on the key of the ring's first atom
    here : key_at pool z.at (get_or by_atom 0 0) ≡ x
    here = agreed_key a.agreed 0 a.agreed.ready.positive

    pub after_agreed : WholeAgreed pool z ends by_atom (count_at plan d) (key_at pool z.at (get_or by_atom 0 0)) p
    after_agreed = rw here a

    module _ {z' : State} {landed' : Landed} (t : Steps pool ends by_atom (count_at plan d) z z' (key_at pool z.at (get_or by_atom 0 0)) landed') where
      step : Steps pool ends by_atom (count_at plan d) z z' x landed'
      step = rw here at t

      pub after_next : Underway pool plan ends n d z' ring by_atom landed'
      after_next = record {
        below = below;
        agreed = step.agreed;
        same = if_found landed' after_same;
        tables = st.tables;
        query = st.query;
        words = st.words;
        left = key_next (found_left st.stands) a step;
      }

    module _ (on : x ≡ get_or given (variable_at plan d) 0) (found : Row) {w₀ : List ℕ} {from₀ : ℕ} {w₁ : List ℕ} {rows₁ : ℕ} {full₁ : Bool} (r : DescendedAfter pool plan ends n (d + 1) z.at z.own (set found (variable_at plan d) x) given w₀ from₀ w₁ rows₁ full₁) where
      gone : {ts : Tables} {q : Query} {f : ℕ → Row} (s : Stands pool ts q plan ends n d above owned f) {more : List ℕ} → meet (wholes_in pool z ends by_atom (count_at plan d)) ≡ x ∷ more → ToGoAfter n (first q d) (rest q d) (atoms s) found given (written w₀ from₀ false) more (written w₁ rows₁ full₁)
      gone {ts} {q} {f} s m =
          let s₀ = written w₀ from₀ false in
          after_on n (first q d) (rest q d) (atoms s) found given s₀ (after_still n (first q d) (rest q d) (atoms s) found given s₀ (now_keys ∙ m) (starts s found s₀)) (on ∙ word s)
          (record { exit = (r.descends ts q (gained q d f x) (key_stands (found_left s) a)).exit ∙ ap (emits n s₀) (key_rows (found_left s) a (λ (vs : List ℕ) (l : List Atom) (row : Row). extend_after n vs l row given) found) })

      -- the window is full
      pub after_filled : full₁ ≡ true → DescendedAfter pool plan ends n d above owned found given w₀ from₀ w₁ rows₁ full₁
      after_filled t = record { descends = λ ts q f s. ends_so s (after_full n (first q d) (rest q d) (atoms s) found given (written w₀ from₀ false) (gone s (whole_first a)) t) }

      -- the rest is walked
      pub after_rest : {z' : State} {landed' : Landed} → Steps pool ends by_atom (count_at plan d) z z' (key_at pool z.at (get_or by_atom 0 0)) landed' → full₁ ≡ false → {w : List ℕ} {rows : ℕ} {full : Bool} → Walks pool plan ends n d z' by_atom landed' found w₁ rows₁ w rows full → DescendedAfter pool plan ends n d above owned found given w₀ from₀ w rows full
      after_rest {z'} {landed'} t u v = record {
        descends = λ ts q f s.
            let g = subst (λ (b : Bool). ToGoAfter n (first q d) (rest q d) (atoms s) found given (written w₀ from₀ false) (keys_at pool plan ends d z' by_atom landed') (written w₁ rows₁ b)) u (gone s (step t).keys) in
            ends_so s (walked n (first q d) (rest q d) (atoms s) found given (written w₁ rows₁ false) g (λ k m i. omega (arith, later (step t).keys k m, on ∙ word s)) (v.emitted ts q f (key_next (found_left s) a (step t))));
      }
