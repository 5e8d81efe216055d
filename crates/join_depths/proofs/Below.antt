-- One word more: where the atoms are opened and all stand on the key x, one that takes part stands at the place of its words with x behind them.
-- Idea: at the first column of a table laid over another, the piece that the atom stands on tells whose the key is: a key of a maker's piece is none of the school's.
use Prim.Native.Nat.{ℕ, suc, ◌+◌, ◌-◌, ◌*◌, ◌≤◌, ◌<◌}
use native.Mathlib.Omega.{arith}
use mathlib.Core.Path.{◌≡◌, refl, sym, subst, ap, ap₂, ◌∙◌}
use mathlib.Core.Bool.{Bool, true, false, false≢true, ◌&&◌}
use mathlib.Core.List.{List, [], ◌∷◌, ◌++◌}
use lib.ListN.{length, get_or, take, length-append}
use lib.Dec.{eqb}
use native.Mathlib.Numerals.{add-one}
use borrow.Author.Tests.{eqb-true}
use Rattle.relation.specs.Order.{Row}
use Rattle.relation.specs.Lists.{◌∈◌, hd}
use Rattle.relation.specs.Layers.{prefixes, keys_under}
use Rattle.query.specs.Descend.{prefix_at}
use Rattle.overlay.specs.Laid.{owns}
use Rattle.overlay.proofs.Laid.{owns_row, row_owns, key_first, first_key}
use Rattle.column_trie.specs.Table.{rows_in, Undamaged}
use Rattle.column_trie.specs.declared.ColumnTrie.{ColumnTrie}
use Rattle.leapfrog_search.specs.Leapfrog.{part}
use Rattle.leapfrog_search.proofs.Parts.{part_cons}
use Rattle.stretches.specs.Stand.{Stand, stand_of, Laid}
use Rattle.stretches.specs.declared.State.{State}
use Rattle.stretches.specs.Whole.{WholeAgreed}
use Rattle.stretches.proofs.Owning.{makers_alone}
use Rattle.join_query.specs.Query.{atom_at, atom_table}
use Rattle.join_query.specs.declared.Query.{Query}
use Rattle.join_query.specs.declared.Tables.{Tables}
use Rattle.join_query.proofs.Accepted.{table_wide, sound, maker_wide}
use Rattle.join_plan.specs.Plan.{Plan, above_of, firsts_end}
use Rattle.join_openings.specs.Openings.{count_at}
use Rattle.join_depths.specs.Depth.{owner_of, Owned, Placed, PlacedIn, takes_part, twofold, WithinOne, starts_at, WithinIn, Opened}
use Rattle.join_depths.proofs.Groups as groups
use Rattle.join_depths.proofs.Firsts.{first_in, first_placed}
use Rattle.join_depths.proofs.Owners.{by_side, owner_sound, owner_arity}
use Rattle.join_depths.proofs.Standing.{Taker, taker_in, layer_in_lem}
use Rattle.join_depths.proofs.Takers.{both_true, no_word, second_is}

-- the place stands for words of a known number
placed_of : {pool : List ℕ} {t : ColumnTrie} {at : ℕ} {p : Row} (m : ℕ) → length p ≡ m → above_of t m ≤ at → prefix_at m (at - above_of t m) (rows_in pool t) ≡ p → (0 < length (rows_in pool t) → at - above_of t m < length (prefixes m (rows_in pool t))) → Placed pool t at p
placed_of {pool} {t} {at} {p} m e h g i =
    let back : m ≡ length p = sym e in
    record {
      above = subst (λ (x : ℕ). above_of t x ≤ at) back h;
      under = subst (λ (x : ℕ). prefix_at x (at - above_of t x) (rows_in pool t) ≡ p) back g;
      inside = subst (λ (x : ℕ). 0 < length (rows_in pool t) → at - above_of t x < length (prefixes x (rows_in pool t))) back i;
    }

-- words that begin with k begin so with one more behind
same_first : (p : Row) (x : ℕ) {k : ℕ} {r : Row} → (p ≡ [] → ⊥) → p ++ x ∷ [] ≡ k ∷ r → (s : Row) × (p ≡ k ∷ s)
same_first [] x n e = absurd (n refl)
same_first (y ∷ p) x n e = (p, ap (λ (z : ℕ). z ∷ p) (ap (λ (l : Row). get_or l 0 0) e))

-- ---- one atom that takes part

module _ {pool : List ℕ} {ts : Tables} {q : Query} {plan : Plan} {ends : List ℕ} {n d : ℕ} {z : State} {by_atom : List ℕ} {f : ℕ → Row} (o : Opened pool ts q plan ends n d z by_atom f) {x p : ℕ} (g : WholeAgreed pool z ends by_atom (count_at plan d) x p) (i : ℕ) (h : i < q.atom_count) (e : takes_part q d f i ≡ true) where
  t : Taker o.based o.below i
  t = record { atom = h; takes = e }

  abbrev st : Stand
  st = stand_of z ends i

  in_ring : i ∈ take (count_at plan d) by_atom
  in_ring = subst (λ (l : List ℕ). i ∈ l) (sym o.ring) (taker_in o.based o.below t)

  some : st.at < st.end
  some = (g.agreed.ready.each i in_ring).inside

  key : get_or pool st.at 0 ≡ x
  key = g.agreed.all i in_ring

  in_piece : get_or pool st.at 0 ∈ part pool st.at st.end
  in_piece = rw (part_cons pool st.at st.end some (g.agreed.ready.each i in_ring).ends) (hd refl)

  longer : length (f i ++ x ∷ []) ≡ suc (length (f i))
  longer = length-append (f i) (x ∷ []) ∙ add-one (length (f i))

  -- in the one table that its words lie in
  one : twofold q f i ≡ false → WithinOne pool ts q i st (f i) → PlacedIn pool ts q i st.at st.own (f i ++ x ∷ [])
  one e₂ w =
      let v = w.owned in
      let u = owner_sound o.based.accepted i h v in
      let L = length (f i) in
      let b : L < (owner_of ts q i st.own).arity = omega (arith, owner_arity o.based.accepted i h v, layer_in_lem o.based o.below t) in
      let y = w.within in
      let c = groups.group_below u L b y.interval y.inside st.at y.low (omega (arith, some, y.high)) in
      record {
        owned = record {
          side = v.side;
          plain = v.plain;
          first = λ l k r a. let s = same_first (f i) x (λ n. false≢true (sym e₂ ∙ (ap₂ ◌&&◌ l (ap (λ (r : Row). eqb (length r) 0) n)))) a in v.first l k s.0 s.1;
        };
        placed = placed_of (suc L) longer (omega (arith, y.low)) (c.1 ∙ ap₂ (λ (r : Row) (k : ℕ). r ++ k ∷ []) y.under key) (λ s. c.0);
      }

  -- in both
  module _ (e₂ : twofold q f i ≡ true) (w : Laid pool (starts_at ts q i) (keys_under [] (rows_in pool (atom_table ts q i))) st) where
    is_laid : (atom_at q i).laid_over ≡ true
    is_laid = (both_true (atom_at q i).laid_over (eqb (length (f i)) 0) e₂).0

    nothing : f i ≡ []
    nothing = no_word (f i) (eqb-true (length (f i)) 0 (both_true (atom_at q i).laid_over (eqb (length (f i)) 0) e₂).1)

    -- the school's side or the maker's, whatever the words
    anyhow : Owned pool ts q i st.own []
    anyhow = record { side = w.side; plain = λ l. absurd (false≢true (sym l ∙ is_laid)); first = λ l k r a. absurd (omega (arith, ap length a)) }

    u₂ : Undamaged pool (owner_of ts q i st.own)
    u₂ = owner_sound o.based.accepted i h anyhow

    mine : st.mine ≡ firsts_end (owner_of ts q i st.own)
    mine = by_side (λ y. get_or ends (2 * i + y) 0 ≡ firsts_end (owner_of ts q i y)) st.own w.side
        (λ a. ap (λ (j : ℕ). get_or ends j 0) (let z : 2 * i + 0 ≡ 2 * i = omega arith in z) ∙ o.based.firsts.table i h)
        (λ a. o.based.firsts.second i h ∙ ap firsts_end (second_is ts q i is_laid))

    before : st.at < firsts_end (owner_of ts q i st.own)
    before = omega (arith, some, w.high, mine)

    here : Placed pool (owner_of ts q i st.own) st.at (x ∷ [])
    here = subst (λ (y : ℕ). Placed pool (owner_of ts q i st.own) st.at (y ∷ [])) key (first_placed u₂ st.at w.low before)

    whose : owns (rows_in pool (atom_table ts q i)) x ≡ eqb st.own 0
    whose = by_side (λ y. owns (rows_in pool (atom_table ts q i)) x ≡ eqb y 0) st.own w.side schools makers
      where
        a : Undamaged pool (atom_table ts q i)
        a = sound o.based.accepted i h

        schools : st.own ≡ 0 → owns (rows_in pool (atom_table ts q i)) x ≡ true
        schools s =
            let same : owner_of ts q i st.own ≡ atom_table ts q i = ap (owner_of ts q i) s in
            let m : get_or pool st.at 0 ∈ keys_under [] (rows_in pool (atom_table ts q i)) = first_in a st.at (omega (arith, w.low, ap (λ (y : ℕ). starts_at ts q i y) s)) (omega (arith, before, ap firsts_end same)) in
            let r = key_first (table_wide a) (maker_wide o.based.accepted i h is_laid) (table_wide a) a.arity.0 (subst (λ (y : ℕ). y ∈ keys_under [] (rows_in pool (atom_table ts q i))) key m) in
            ap (owns (rows_in pool (atom_table ts q i))) (sym r.2) ∙ row_owns r.1

        makers : st.own ≡ 1 → owns (rows_in pool (atom_table ts q i)) x ≡ false
        makers s = go (owns (rows_in pool (atom_table ts q i)) x) refl
          where
            go : (b : Bool) → owns (rows_in pool (atom_table ts q i)) x ≡ b → b ≡ false
            go true y =
                let r = owns_row (rows_in pool (atom_table ts q i)) x y in
                let m = first_key (table_wide a) (maker_wide o.based.accepted i h is_laid) (table_wide a) a.arity.0 r.1 in
                absurd (makers_alone pool st (g.tailed i in_ring) w s (get_or pool st.at 0) in_piece (subst (λ (k : ℕ). k ∈ keys_under [] (rows_in pool (atom_table ts q i))) (r.2 ∙ sym key) m))
            go false y = refl

    both : PlacedIn pool ts q i st.at st.own (f i ++ x ∷ [])
    both = subst (λ (p : Row). PlacedIn pool ts q i st.at st.own (p ++ x ∷ [])) (sym nothing)
        (record {
          owned = record {
            side = w.side;
            plain = anyhow.plain;
            first = λ l k r a. ap (owns (rows_in pool (atom_table ts q i))) (ap (λ (l : Row). get_or l 0 0) (sym a)) ∙ whose;
          };
          placed = here;
        })

  pub placed_next : PlacedIn pool ts q i (get_or z.at i 0) (get_or z.own i 0) (f i ++ x ∷ [])
  placed_next = go (twofold q f i) refl (o.taking i h e)
    where
      go : (b : Bool) → twofold q f i ≡ b → WithinIn b pool ts q i (stand_of z ends i) (f i) → PlacedIn pool ts q i (get_or z.at i 0) (get_or z.own i 0) (f i ++ x ∷ [])
      go true e₂ w = both e₂ w
      go false e₂ w = one e₂ w
