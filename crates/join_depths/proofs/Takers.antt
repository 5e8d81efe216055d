-- One atom that takes part at a depth, from the plan's numbers to the theory: it can be opened where it stands, and what is opened is the keys under its words.
-- Idea: where it has words, they lie in one of its tables, and the rest of their group is the keys that count; at the first column of one that is laid over, the first keys of both tables are.
use Prim.Native.Nat.{ℕ, suc, ◌+◌, ◌-◌, ◌*◌, ◌<◌}
use native.Mathlib.Omega.{arith}
use mathlib.Core.Path.{◌≡◌, refl, sym, subst, ap, ap₂, ◌∙◌}
use mathlib.Core.Bool.{Bool, true, false, false≢true, ◌&&◌}
use mathlib.Core.Logic.{inl}
use mathlib.Core.List.{List, [], ◌∷◌}
use lib.ListN.{length, get_or, take, drop}
use lib.Dec.{eqb}
use borrow.Author.Tests.{eqb-true}
use Rattle.relation.specs.Order.{Row, pick}
use Rattle.relation.specs.Lists.{◌∈◌, Ascends}
use Rattle.relation.specs.Rows.{as_set}
use Rattle.relation.specs.Layers.{prefixes, keys_under, layer_at}
use Rattle.relation.proofs.Lists.{get_or_any}
use Rattle.query.proofs.Under.{keys_none}
use Rattle.query.specs.Limits.{max_atoms}
use Rattle.overlay.specs.Merge.{merge}
use Rattle.column_trie.specs.Pool.{spot}
use Rattle.column_trie.specs.Table.{rows_in, Undamaged}
use Rattle.column_trie.specs.declared.ColumnTrie.{ColumnTrie}
use Rattle.ring_sort.proofs.Lists.{ascends_split}
use Rattle.leapfrog_search.specs.Leapfrog.{part, OnKey}
use Rattle.two_runs.specs.Runs.{run_of, Inside}
use Rattle.two_runs.specs.declared.Runs as two
use Rattle.stretches.specs.Stand.{Stand, stand_of, whole_of, Tailed}
use Rattle.stretches.specs.declared.State.{State}
use Rattle.stretches.specs.Pause.{Began}
use Rattle.stretches.proofs.Owning.{last_whole, last_tailed}
use Rattle.join_query.specs.Query.{atom_at, table_at, atom_table, atom_maker, rows_at}
use Rattle.join_query.specs.declared.Query.{Query}
use Rattle.join_query.specs.declared.Tables.{Tables}
use Rattle.join_query.proofs.Accepted.{names, sound, sound_maker}
use Rattle.join_query.proofs.Keys.{first_keys}
use Rattle.join_plan.specs.Plan.{Plan, opening_at, above_of, second_of, firsts_end, Opening, AtomOpening}
use Rattle.join_plan.specs.declared.LayerPlan.{LayerPlan}
use Rattle.join_plan.specs.declared.AtomPlan.{AtomPlan}
use Rattle.join_openings.specs.Openings.{count_at, who_at, interval_at, group_start, group_low, group_high, Readable, table_of, first_runs, OneOpenable, Alone, OpenedIn, Without}
use Rattle.join_depths.specs.Depth.{owner_of, Owned, Placed, PlacedIn, Stands, twofold, Within, starts_at, WithinIn}
use Rattle.join_depths.proofs.Groups as groups
use Rattle.join_depths.proofs.Firsts.{firsts_in, first_run, first_rises}
use Rattle.join_depths.proofs.Owners.{by_side, owner_laid, owner_sound, owner_arity, owner_keys}
use Rattle.join_depths.proofs.Standing.{Taker, taker_at, opening_is, layer_in_lem}

rows_some : (d : ℕ) (rows : List Row) → 0 < length (prefixes d rows) → 0 < length rows
unfolding prefixes as_set
rows_some d [] h = absurd (omega arith)
rows_some d (r ∷ rows) h = omega arith

pub both_true : (a b : Bool) → (a && b) ≡ true → (a ≡ true) × (b ≡ true)
both_true true true e = (refl, refl)
both_true true false e = absurd (false≢true e)
both_true false b e = absurd (false≢true e)

pub no_word : (p : Row) → length p ≡ 0 → p ≡ []
no_word [] e = refl
no_word (k ∷ p) e = absurd (omega arith)

-- the second table of an atom that is laid over is its maker's
pub second_is : (ts : Tables) (q : Query) (i : ℕ) → (atom_at q i).laid_over ≡ true → table_at ts (second_of (atom_at q i)) ≡ atom_maker ts q i
second_is ts q i l = ap (λ (b : Bool). table_at ts (pick b (atom_at q i).maker (atom_at q i).table)) l

module _ {pool : List ℕ} {ts : Tables} {q : Query} {plan : Plan} {ends : List ℕ} {n d : ℕ} (z₀ : State) {f : ℕ → Row} (s : Stands pool ts q plan ends n d z₀.at z₀.own f) (below : d < n) (j : ℕ) (h : j < count_at plan d) where
  abbrev a : ℕ
  a = who_at plan d j

  abbrev here : AtomPlan
  here = opening_at plan d j

  abbrev place : ℕ
  place = get_or z₀.at a 0

  abbrev own : ℕ
  own = get_or z₀.own a 0

  abbrev L : ℕ
  L = length (f a)

  pub takes : Taker s.based below (who_at plan d j)
  takes = taker_at s.based below j h

  openings : AtomOpening here a (atom_at q a).laid_over (atom_table ts q a) (table_at ts (second_of (atom_at q a))) L
  openings = opening_is s.based below j h

  placed : PlacedIn pool ts q a place own (f a)
  placed = s.placed a takes.atom

  pub both_is : (opening_at plan d j).both ≡ twofold q f (who_at plan d j)
  both_is = openings.both

  -- ---- in the table that its words lie in

  abbrev table : ColumnTrie
  table = owner_of ts q a own

  abbrev from : LayerPlan
  from = table_of here own

  -- the plan has its numbers
  o : Opening from table L
  o =
      by_side (λ o. Opening (table_of here o) (owner_of ts q a o) L) own placed.owned.side
      (λ e. openings.table)
      (λ e. subst (λ (t : ColumnTrie). Opening here.maker t L) (second_is ts q a (owner_laid s.based.accepted a takes.atom placed.owned e)) openings.maker)

  u : Undamaged pool table
  u = owner_sound s.based.accepted a takes.atom placed.owned

  b : L < table.arity
  b = omega (arith, owner_arity s.based.accepted a takes.atom placed.owned, layer_in_lem s.based below takes)

  stood : Placed pool table place (f a)
  stood = placed.placed

  abbrev rows : List Row
  rows = rows_in pool table

  -- its interval
  abbrev x : ℕ
  x = place - above_of table L

  interval_is : interval_at from place ≡ x
  interval_is = ap (λ (k : ℕ). place - k) o.above

  count : from.interval_count ≡ length (prefixes L rows)
  count = o.interval_count ∙ groups.interval_each u L b

  -- where the group of an interval starts, by the layer's own intervals
  starts : (i : ℕ) → group_start pool from i ≡ groups.keys_from u L b + get_or (layer_at L rows).intervals i (length (layer_at L rows).keys)
  starts i =
      (λ j. o.keys j + get_or (take (o.interval_count j) (drop (o.intervals j) pool)) i ((o.key_count ∙ groups.key_count u L b) j))
      ∙ ap (λ (l : List ℕ). groups.keys_from u L b + get_or l i (length (layer_at L rows).keys)) (groups.intervals_are u L b)

  module _ (nonempty : from.key_count ≡ 0 → ⊥) where
    inside : x < length (prefixes L rows)
    inside = stood.inside (rows_some (suc L) rows (omega (arith, nonempty, o.key_count, groups.key_each u L b)))

    low_is : group_low pool from place ≡ groups.low u L b x
    low_is =
        ap (group_start pool from) interval_is
        ∙ starts x
        ∙ ap (λ (m : ℕ). groups.keys_from u L b + m) (get_or_any (layer_at L rows).intervals x (length (layer_at L rows).keys) 0 (omega (arith, inside, groups.interval_count u L b, groups.interval_each u L b)))

    high_is : group_high pool from place ≡ groups.high u L b x
    high_is = ap (group_start pool from) (let e : interval_at from place + 1 ≡ suc x = omega (arith, interval_is) in e) ∙ starts (suc x)

    readable : Readable pool from place
    readable = record {
      above = omega (arith, o.above, stood.above);
      inside = omega (arith, count, interval_is, inside);
      intervals = omega (arith, o.intervals, o.interval_count, groups.intervals_in u L b);
      low = omega (arith, low_is, groups.group_starts u L b x inside, groups.group_ends u L b x inside);
      high = omega (arith, high_is, groups.group_ends u L b x inside);
    }

  -- the keys under its words
  keys_are : twofold q f a ≡ false → keys_under (f a) (rows_at pool ts (atom_at q a)) ≡ keys_under (f a) rows
  keys_are e = owner_keys s.based.accepted a takes.atom placed.owned e (layer_in_lem s.based below takes)

  -- ---- in both tables

  module _ (two_e : twofold q f a ≡ true) where
    is_laid : (atom_at q a).laid_over ≡ true
    is_laid = (both_true (atom_at q a).laid_over (eqb L 0) two_e).0

    nothing : L ≡ 0
    nothing = eqb-true L 0 (both_true (atom_at q a).laid_over (eqb L 0) two_e).1

    school : Undamaged pool (atom_table ts q a)
    school = sound s.based.accepted a takes.atom

    maker : Undamaged pool (atom_maker ts q a)
    maker = sound_maker s.based.accepted a takes.atom is_laid

    abbrev runs : two.Runs
    runs = record { x = spot (atom_table ts q a).start (atom_table ts q a).capacity 0; e = firsts_end (atom_table ts q a); y = spot (atom_maker ts q a).start (atom_maker ts q a).capacity 0; f = firsts_end (atom_maker ts q a); own = 0 }

    runs_are : first_runs ends here ≡ runs
    runs_are =
        let t = openings.table.keys ∙ ap (spot (atom_table ts q a).start (atom_table ts q a).capacity) nothing in
        let m = openings.maker.keys ∙ (ap (λ (t : ColumnTrie). spot t.start t.capacity L) (second_is ts q a is_laid) ∙ ap (spot (atom_maker ts q a).start (atom_maker ts q a).capacity) nothing) in
        let e : get_or ends (2 * a + 0) 0 ≡ firsts_end (atom_table ts q a) = ap (λ (i : ℕ). get_or ends i 0) (let z : 2 * a + 0 ≡ 2 * a = omega arith in z) ∙ s.based.firsts.table a takes.atom in
        let g : get_or ends (2 * a + 1 - 0) 0 ≡ firsts_end (atom_maker ts q a) = ap (λ (i : ℕ). get_or ends i 0) (let z : 2 * a + 1 - 0 ≡ 2 * a + 1 = omega arith in z) ∙ (s.based.firsts.second a takes.atom ∙ ap firsts_end (second_is ts q a is_laid)) in
        λ j. record { x = t j; e = e j; y = m j; f = g j; own = 0 }

    runs_inside : Inside pool runs
    runs_inside = record { low = omega arith; high = firsts_in school; ascends = first_rises school; low₂ = omega arith; high₂ = firsts_in maker; ascends₂ = first_rises maker; side = omega arith }

    run_is : run_of pool (first_runs ends here) ≡ keys_under (f a) (rows_at pool ts (atom_at q a))
    run_is =
        ap (run_of pool) runs_are
        ∙ (ap₂ merge (first_run school) (first_run maker)
        ∙ (sym (first_keys s.based.accepted a takes.atom is_laid)
        ∙ ap (λ (p : Row). keys_under p (rows_at pool ts (atom_at q a))) (sym (no_word (f a) nothing))))

    began : Began pool (starts_at ts q a) (keys_under [] (rows_in pool (atom_table ts q a))) runs
    began = record { low = omega arith; low₂ = omega arith; keys = λ z m. inl (subst (λ (l : List ℕ). z ∈ l) (sym (first_run school)) m) }

  -- ---- either way

  pub can_open : get_or z₀.left (who_at plan d j) 0 ≡ 0 → OneOpenable pool ends (opening_at plan d j) (stand_of z₀ ends (who_at plan d j))
  can_open l = record {
    atom = omega (arith, takes.atom, (names s.based.accepted).few);
    side = placed.owned.side;
    last = l;
    both = λ e. let t = sym both_is ∙ e in subst (Inside pool) (sym (runs_are t)) (runs_inside t);
    one = λ e nonempty. readable nonempty;
  }

  -- a layer without keys: no key under its words
  pub none_under : Without (opening_at plan d j).both pool ends (opening_at plan d j) (stand_of z₀ ends (who_at plan d j)) → keys_under (f (who_at plan d j)) (rows_at pool ts (atom_at q (who_at plan d j))) ≡ []
  none_under w = go (twofold q f a) refl (subst (λ (t : Bool). Without t pool ends here (stand_of z₀ ends a)) both_is w)
    where
      go : (t : Bool) → twofold q f a ≡ t → Without t pool ends here (stand_of z₀ ends a) → keys_under (f a) (rows_at pool ts (atom_at q a)) ≡ []
      go true e v = sym (run_is e) ∙ v
      go false e v = keys_are e ∙ keys_none (f a) rows (omega (arith, v, o.key_count, groups.key_each u L b))

  -- it is opened
  module _ (z : State) (w : OpenedIn (opening_at plan d j).both pool ends (opening_at plan d j) (stand_of z₀ ends (who_at plan d j)) (stand_of z ends (who_at plan d j))) where
    abbrev st : Stand
    st = stand_of z ends a

    opened : OpenedIn (twofold q f a) pool ends here (stand_of z₀ ends a) (stand_of z ends a)
    opened = subst (λ (t : Bool). OpenedIn t pool ends here (stand_of z₀ ends a) (stand_of z ends a)) both_is w

    pub open_within : WithinIn (twofold q f (who_at plan d j)) pool ts q (who_at plan d j) (stand_of z ends (who_at plan d j)) (f (who_at plan d j))
    open_within = go (twofold q f a) refl opened
      where
        go : (t : Bool) → twofold q f a ≡ t → OpenedIn t pool ends here (stand_of z₀ ends a) (stand_of z ends a) → WithinIn t pool ts q a (stand_of z ends a) (f a)
        go true e v = v.laid (starts_at ts q a) (keys_under [] (rows_in pool (atom_table ts q a))) (subst (Began pool (starts_at ts q a) (keys_under [] (rows_in pool (atom_table ts q a)))) (sym (runs_are e)) (began e))
        go false e v = record {
          owned = subst (λ (y : ℕ). Owned pool ts q a y (f a)) (sym v.own) placed.owned;
          last = v.last;
          within = subst (λ (y : ℕ). Within pool (owner_of ts q a y) st.at st.end (f a)) (sym v.own)
              (record {
                interval = x;
                inside = inside v.nonempty;
                under = stood.under;
                low = omega (arith, v.low, low_is v.nonempty);
                high = v.high ∙ high_is v.nonempty;
              });
        }

    -- its group's keys, of the one table
    group_is : (v : Alone pool here (stand_of z₀ ends a) (stand_of z ends a)) → part pool st.at st.end ≡ keys_under (f a) rows
    group_is v =
        ap₂ (part pool) (v.low ∙ low_is v.nonempty) (v.high ∙ high_is v.nonempty)
        ∙ groups.group_run u L b x (inside v.nonempty)
        ∙ ap (λ (w : Row). keys_under w rows) stood.under

    pub open_whole : whole_of pool (stand_of z ends (who_at plan d j)) ≡ keys_under (f (who_at plan d j)) (rows_at pool ts (atom_at q (who_at plan d j)))
    open_whole = go (twofold q f a) refl opened
      where
        go : (t : Bool) → twofold q f a ≡ t → OpenedIn t pool ends here (stand_of z₀ ends a) (stand_of z ends a) → whole_of pool (stand_of z ends a) ≡ keys_under (f a) (rows_at pool ts (atom_at q a))
        go true e v = v.whole ∙ run_is e
        go false e v = last_whole pool st v.last ∙ (group_is v ∙ sym (keys_are e))

    piece_rises : (v : Alone pool here (stand_of z₀ ends a) (stand_of z ends a)) → Ascends ◌<◌ (part pool st.at st.end)
    piece_rises v = subst (Ascends ◌<◌) (sym (ap₂ (part pool) (v.low ∙ low_is v.nonempty) (v.high ∙ high_is v.nonempty))) (groups.group_rises u L b x (inside v.nonempty))

    pub open_tailed : Tailed pool (stand_of z ends (who_at plan d j))
    open_tailed = go (twofold q f a) opened
      where
        go : (t : Bool) → OpenedIn t pool ends here (stand_of z₀ ends a) (stand_of z ends a) → Tailed pool (stand_of z ends a)
        go true v = v.tailed
        go false v = last_tailed pool st v.last (piece_rises v)

    pub open_key : OnKey pool z.at z.end (who_at plan d j)
    open_key = go (twofold q f a) opened
      where
        in_array : a < max_atoms
        in_array = omega (arith, takes.atom, (names s.based.accepted).few)

        go : (t : Bool) → OpenedIn t pool ends here (stand_of z₀ ends a) (stand_of z ends a) → OnKey pool z.at z.end a
        go true v = record { atom = in_array; inside = v.some; ends = v.high; ascends = (ascends_split (part pool st.at st.end) v.tailed.ascends).0 }
        go false v =
            let i = inside v.nonempty in
            record {
              atom = in_array;
              inside = omega (arith, v.low, low_is v.nonempty, v.high, high_is v.nonempty, groups.group_starts u L b x i);
              ends = omega (arith, v.high, high_is v.nonempty, groups.group_ends u L b x i);
              ascends = piece_rises v;
            }
