-- The loop over the keys to try for one variable, in the walk: to walk the rows of the keys left, behind those that agree, ends where the whole search ends.
use Prim.Native.Nat.{ℕ, suc, ◌-◌, ◌≤◌, ◌<◌}
use native.Mathlib.Omega.{arith}
use mathlib.Core.Path.{◌≡◌, refl, sym, ap, ◌∙◌}
use mathlib.Core.Bool.{Bool, true, false}
use mathlib.Core.List.{List, [], flat_map}
use Rattle.std.specs.Prelude.{Option, Some, None, is_some}
use lib.ListN.{length, get_or, set, take, drop, length-set}
use lib.Seq.{set-set}
use Rattle.relation.specs.Order.{Row, pick}
use Rattle.relation.specs.Lists.{◌∈◌}
use Rattle.relation.specs.Runs.{from}
use Rattle.query.specs.Meaning as meaning
use Rattle.overlay.proofs.Cutting.{from_zero}
use Rattle.join_query.specs.Query.{max_variables, order_of, atoms_of, Accepted}
use Rattle.join_query.specs.declared.Query.{Query}
use Rattle.join_query.specs.declared.Tables.{Tables}
use Rattle.join_query.proofs.Accepted.{sized}
use Rattle.plain.specs.Plain.{tried, all_hold, plainly}
use Rattle.plain_keys.specs.Keys.{head_of}
use Rattle.plain_join.proofs.Trying.{todo, todo_is, next_in, rows_under, rows_are, rise, variable_below}
use Rattle.listing_check.specs.Walk.{meet, meets, Padded, Agrees}
use Rattle.listing_check.specs.declared.Reached.{Reached}
use Rattle.listing_check.proofs.Meeting.{meets_append, meets_lacking, meets_agreed, padded_set}

-- no variable left: one row
pub leaf : (n : ℕ) (atoms : List meaning.Atom) (row : Row) (rows : List Row) (s : Reached) {vs : List ℕ} → vs ≡ [] → meet rows s (take n row) ≡ meets rows s (plainly n vs atoms row)
unfolding plainly meets
leaf n atoms row rows s e = ap (λ (vs : List ℕ). meets rows s (plainly n vs atoms row)) (sym e)

module _ {pool : List ℕ} {ts : Tables} {q : Query} {len : ℕ} (z : Accepted pool ts q len) (left : ℕ) (l : 0 < left) (h : left ≤ q.n) (found : Row) (rows : List Row) (first : Reached) where
  abbrev w : ℕ
  w = get_or q.order (q.n - left) 0

  abbrev keys : List ℕ
  keys = tried w found (atoms_of pool ts q)

  abbrev under : ℕ → List Row
  under = rows_under q.n (atoms_of pool ts q) w (drop (q.n - (left - 1)) (order_of q)) found

  abbrev end : Reached
  end = meets rows first (plainly q.n (drop (q.n - left) (order_of q)) (atoms_of pool ts q) found)

  -- the keys left lead to the end, no row is missing yet, and the row has the words given
  pub record Walking (next : Option ℕ) (row : Row) (met : Reached) : Type 0 where
    pub agrees : Agrees met
    pub ends : meets rows met (flat_map (rows_under q.n (atoms_of pool ts q) (get_or q.order (q.n - left) 0) (drop (q.n - (left - 1)) (order_of q)) found) (todo (tried (get_or q.order (q.n - left) 0) found (atoms_of pool ts q)) next)) ≡ meets rows first (plainly q.n (drop (q.n - left) (order_of q)) (atoms_of pool ts q) found)
    pub same : (x : ℕ) → set row (get_or q.order (q.n - left) 0) x ≡ set found (get_or q.order (q.n - left) 0) x
    pub row_long : length row ≡ max_variables
    pub among : (k : ℕ) → next ≡ Some k → k ∈ tried (get_or q.order (q.n - left) 0) found (atoms_of pool ts q)

  pub walking_start : {next : Option ℕ} → next ≡ head_of (from 0 (tried (get_or q.order (q.n - left) 0) found (atoms_of pool ts q))) → length found ≡ max_variables → Agrees first → Walking next found first
  walking_start {next} e o g = record {
    agrees = g;
    ends = ap (λ (m : List ℕ). meets rows first (flat_map under m)) (todo_is (rise z left l h found) 0 e ∙ from_zero keys) ∙ ap (meets rows first) (sym (rows_are z left l h found));
    same = λ x. refl;
    row_long = o;
    among = next_in (rise z left l h found) 0 e;
  }

  module _ {next : Option ℕ} {row : Row} {met : Reached} (t : Walking next row met) where
    pub walking_done : next ≡ None → met ≡ meets rows first (plainly q.n (drop (q.n - left) (order_of q)) (atoms_of pool ts q) found)
    unfolding flat_map meets
    walking_done e = sym (ap (λ (x : Option ℕ). meets rows met (flat_map under (todo keys x))) e) ∙ t.ends

    -- the row of the next key is padded
    pub walking_padded : (key : ℕ) → Padded q.n found → length found ≡ max_variables → Padded q.n (set row (get_or q.order (q.n - left) 0) key)
    walking_padded key p o = rw (t.same key) (padded_set q.n found w key (variable_below z left l h found) (omega (arith, (sized z).few)) p)

    module _ {key : ℕ} (e : next ≡ Some key) where
      key_first : meets rows (meets rows met (under key)) (flat_map under (from (suc key) keys)) ≡ end
      unfolding flat_map
      key_first =
          sym (meets_append rows met (under key) (flat_map under (from (suc key) keys)))
          ∙ sym (ap (λ (x : Option ℕ). meets rows met (flat_map under (todo keys x))) e)
          ∙ t.ends

      -- the rows of the next key, where it passes the tests and where it does not
      pub under_key : {s : Reached} → all_hold (get_or q.order (q.n - left) 0) (set row (get_or q.order (q.n - left) 0) key) (atoms_of pool ts q) ≡ true → s ≡ meets rows met (plainly q.n (drop (q.n - (left - 1)) (order_of q)) (atoms_of pool ts q) (set row (get_or q.order (q.n - left) 0) key)) → s ≡ meets rows met (rows_under q.n (atoms_of pool ts q) (get_or q.order (q.n - left) 0) (drop (q.n - (left - 1)) (order_of q)) found key)
      under_key a p =
          p
          ∙ ap (λ (r : Row). meets rows met (plainly q.n (drop (q.n - (left - 1)) (order_of q)) (atoms_of pool ts q) r)) (t.same key)
          ∙ ap (λ (b : Bool). meets rows met (pick b (plainly q.n (drop (q.n - (left - 1)) (order_of q)) (atoms_of pool ts q) (set found w key)) [])) (sym (ap (λ (r : Row). all_hold w r (atoms_of pool ts q)) (sym (t.same key)) ∙ a))

      pub under_none : all_hold (get_or q.order (q.n - left) 0) (set row (get_or q.order (q.n - left) 0) key) (atoms_of pool ts q) ≡ false → met ≡ meets rows met (rows_under q.n (atoms_of pool ts q) (get_or q.order (q.n - left) 0) (drop (q.n - (left - 1)) (order_of q)) found key)
      unfolding meets
      under_none a = ap (λ (b : Bool). meets rows met (pick b (plainly q.n (drop (q.n - (left - 1)) (order_of q)) (atoms_of pool ts q) (set found w key)) [])) (sym (ap (λ (r : Row). all_hold w r (atoms_of pool ts q)) (sym (t.same key)) ∙ a))

      -- fewer keys are left
      pub walking_less : {then : Option ℕ} → then ≡ head_of (from (suc key) (tried (get_or q.order (q.n - left) 0) found (atoms_of pool ts q))) → length (todo (tried (get_or q.order (q.n - left) 0) found (atoms_of pool ts q)) then) < length (todo (tried (get_or q.order (q.n - left) 0) found (atoms_of pool ts q)) next)
      walking_less {then} c = omega (arith, ap (length {A = ℕ}) (todo_is (rise z left l h found) (suc key) c), ap (λ (x : Option ℕ). length (todo keys x)) e)

      module _ {s : Reached} (p : s ≡ meets rows met (rows_under q.n (atoms_of pool ts q) (get_or q.order (q.n - left) 0) (drop (q.n - (left - 1)) (order_of q)) found key)) where
        pub walking_lacks : is_some s.missing ≡ true → s ≡ meets rows first (plainly q.n (drop (q.n - left) (order_of q)) (atoms_of pool ts q) found)
        walking_lacks u = sym (meets_lacking rows s (flat_map under (from (suc key) keys)) u) ∙ ap (λ (x : Reached). meets rows x (flat_map under (from (suc key) keys))) p ∙ key_first

        pub walking_next : is_some s.missing ≡ false → {then : Option ℕ} → then ≡ head_of (from (suc key) (tried (get_or q.order (q.n - left) 0) found (atoms_of pool ts q))) → Walking then (set row (get_or q.order (q.n - left) 0) key) s
        walking_next u {then} c = record {
          agrees = meets_agreed rows met.at (under key) (p ∙ ap (λ (x : Reached). meets rows x (under key)) t.agrees) u;
          ends =
              ap (λ (m : List ℕ). meets rows s (flat_map under m)) (todo_is (rise z left l h found) (suc key) c)
              ∙ ap (λ (x : Reached). meets rows x (flat_map under (from (suc key) keys))) p
              ∙ key_first;
          same = λ x. set-set row w key x ∙ t.same x;
          row_long = length-set row w key ∙ t.row_long;
          among = next_in (rise z left l h found) (suc key) c;
        }
