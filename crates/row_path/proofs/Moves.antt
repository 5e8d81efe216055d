-- Paths in a table: the layers that an undamaged table has, and the steps by which one row's path becomes the next row's.
use Prim.Native.Nat.{ℕ, suc, ◌+◌, ◌-◌, ◌≤◌, ◌<◌}
use mathlib.Core.Path.{◌≡◌, sym, ap, ◌∙◌}
use mathlib.Core.List.{List, []}
use mathlib.Core.Logic.{⊎_elim}
use native.Mathlib.Omega.{arith}
use native.Mathlib.Numerals.{add-one}
use native.Mathlib.Decide.{dec_lt}
use lib.ListN.{length, drop, get_or, set, length-set, drop_of_length-le}
use lib.Seq.{drop-cons, get_or-set_same, get_or-set_other}
use Rattle.relation.specs.Layers.{Layer, layer, no_layer}
use Rattle.relation.specs.Paths.{owner}
use Rattle.relation.proofs.Undamaged.{Chain, undamaged_chain}
use Rattle.column_trie.specs.Limits.{max_arity}
use Rattle.column_trie.specs.Table.{layers_in, layer_in, Undamaged}
use Rattle.column_trie.specs.declared.ColumnTrie.{ColumnTrie}
use Rattle.column_trie.proofs.Layers.{Whole, layers_length, layers_at}
use Rattle.row_path.specs.Path.{ancestor, OnPath}
use Rattle.row_path.proofs.Owners.{owned, owner_stays, owner_goes_on}
use Rattle.row_path.proofs.Paths.{ancestor_none, ancestor_more, under, inside, Near, near, below, under_below, sound_at}

-- the layers of an undamaged table hang together, and their rows are as many as the header counts
pub record Hangs (pool : List ℕ) (t : ColumnTrie) : Type 0 where
  pub top : ℕ
  pub chain : Chain top (layers_in pool t)
  pub long : length (layers_in pool t) ≡ t.arity
  pub counted : under top (layers_in pool t) ≡ t.tuple_count

pub hangs : {pool : List ℕ} {t : ColumnTrie} → Whole t → Undamaged pool t → Hangs pool t
unfolding under
hangs {pool} {t} o u = ⊎_elim (λ (c : Chain 0 (layers_in pool t)). make 0 c) (λ (c : Chain 1 (layers_in pool t)). make 1 c) (undamaged_chain u.layers)
  where
    ls : List Layer
    ls = layers_in pool t

    a : ℕ
    a = t.arity - 1

    long : length ls ≡ t.arity
    long = layers_length pool t o u.arity.1

    make : (n : ℕ) → Chain n ls → Hangs pool t
    make n c =
        let e : drop (suc a) ls ≡ [] = drop_of_length-le ls {i = suc a} (omega (arith, long, u.arity.0)) in
        record {
          top = n;
          chain = c;
          long = long;
          counted = under_below n ls a (omega (arith, long, u.arity.0)) ∙ ap (under (length (layer ls a).keys)) e ∙ sym u.layers.counted;
        }

-- the places from depth d on are those of row i, the places above it still those of the row before
pub record Moved (ls : List Layer) (i : ℕ) (path : List ℕ) (d : ℕ) : Type 0 where
  pub depth : d < length ls
  pub few : length ls ≤ 8
  pub long : length path ≡ 8
  pub there : (e : ℕ) → d ≤ e → e < length ls → get_or path e 0 ≡ ancestor (drop (suc e) ls) i
  pub yet : (e : ℕ) → e < d → get_or path e 0 ≡ ancestor (drop (suc e) ls) (i - 1)

-- the last place is the row's own number
pub moved_last : (ls : List Layer) (i : ℕ) (path : List ℕ) (d : ℕ) → suc d ≡ length ls → length ls ≤ 8 → OnPath ls (i - 1) path → Moved ls i (set path d i) d
moved_last ls i path d e f p =
    record {
      depth = omega arith;
      few = f;
      long = length-set path d i ∙ p.long;
      there = λ k h b.
          let z : k ≡ d = omega arith in
          let y : drop (suc k) ls ≡ [] = drop_of_length-le ls {i = suc k} (omega arith) in
          ap (λ (m : ℕ). get_or (set path d i) m 0) z ∙ get_or-set_same path d i 0 (omega (arith, p.long)) ∙ sym (ap (λ (ms : List Layer). ancestor ms i) y ∙ ancestor_none i);
      yet = λ k h. get_or-set_other path d k i 0 (λ z. omega arith) ∙ p.at k (omega arith);
    }

pub moved_all : {ls : List Layer} {i : ℕ} {path : List ℕ} {d : ℕ} → Moved ls i path d → d ≤ 0 → OnPath ls i path
moved_all m h = record { long = m.long; at = λ e b. m.there e (omega arith) b }

module _ {n : ℕ} {ls : List Layer} (c : Chain n ls) {i : ℕ} (r : i < under n ls) {path : List ℕ} {d : ℕ} (m : Moved ls i path d) (some : 0 < d) where
  up : (x : ℕ) → ancestor (drop (suc (d - 1)) ls) x ≡ owner (layer ls d).intervals (ancestor (drop (suc d) ls) x)
  up x =
      let e : suc (d - 1) ≡ d = omega arith in
      ap (λ (k : ℕ). ancestor (drop k ls) x) e ∙ ap (λ (ms : List Layer). ancestor ms x) (drop-cons ls d no_layer m.depth) ∙ ancestor_more (layer ls d) (drop (suc d) ls) x

  lower : Chain (length (layer ls d).keys) (drop (suc d) ls)
  lower = below c d m.depth

  enough : i < under (length (layer ls d).keys) (drop (suc d) ls)
  enough = omega (arith, under_below n ls d m.depth)

  abbrev old : ℕ
  old = ancestor (drop (suc d) ls) (i - 1)

  abbrev new : ℕ
  new = ancestor (drop (suc d) ls) i

  close : Near old new
  close = near lower (i - 1) i (omega arith) (omega arith) enough

  keyed : new < length (layer ls d).keys
  keyed = inside lower i enough

  here : get_or path d 0 ≡ new
  here = m.there d (omega arith) m.depth

  parent : get_or path (d - 1) 0 ≡ owner (layer ls d).intervals old
  parent = m.yet (d - 1) (omega arith) ∙ up (i - 1)

  -- the parent has an interval
  pub parent_listed : get_or path (d - 1) 0 < length (layer ls d).intervals
  parent_listed = omega (arith, parent, (owned (sound_at c d m.depth) old (inside lower (i - 1) (omega (arith, enough)))).listed)

  module _ {from : ℕ} (f : from ≡ get_or (layer ls d).intervals (get_or path (d - 1) 0 + 1) (length (layer ls d).keys)) where
    ends : from ≡ get_or (layer ls d).intervals (suc (owner (layer ls d).intervals old)) (length (layer ls d).keys)
    ends = f ∙ ap (λ (k : ℕ). get_or (layer ls d).intervals k (length (layer ls d).keys)) (add-one (get_or path (d - 1) 0) ∙ ap suc parent)

    -- the parent's children end: the next one
    pub moved_on : from ≤ get_or path d 0 → Moved ls i (set path (d - 1) (get_or path (d - 1) 0 + 1)) (d - 1)
    moved_on h =
        let q = get_or path (d - 1) 0 + 1 in
        let o = owner_goes_on (sound_at c d m.depth) close.least close.most keyed (omega (arith, ends, here)) in
        let w : q ≡ ancestor (drop (suc (d - 1)) ls) i = add-one (get_or path (d - 1) 0) ∙ ap suc parent ∙ sym o ∙ sym (up i) in
        record {
          depth = omega (arith, m.depth);
          few = m.few;
          long = length-set path (d - 1) q ∙ m.long;
          there = λ e g b. at e b g q w (dec_lt (d - 1) e);
          yet = λ e g. get_or-set_other path (d - 1) e q 0 (λ z. omega arith) ∙ m.yet e (omega arith);
        }
      where
        at : (e : ℕ) → e < length ls → d - 1 ≤ e → (q : ℕ) → q ≡ ancestor (drop (suc (d - 1)) ls) i → Dec (d - 1 < e) → get_or (set path (d - 1) q) e 0 ≡ ancestor (drop (suc e) ls) i
        at e b g q w (no y) = let z : e ≡ d - 1 = omega (arith, y) in ap (λ (k : ℕ). get_or (set path (d - 1) q) k 0) z ∙ get_or-set_same path (d - 1) q 0 (omega (arith, m.long, m.few, b)) ∙ w ∙ ap (λ (k : ℕ). ancestor (drop (suc k) ls) i) (sym z)
        at e b g q w (yes z) = get_or-set_other path (d - 1) e q 0 (λ y. omega arith) ∙ m.there e (omega arith) b

    -- they don't: the same
    pub moved_not : get_or path d 0 < from → Moved ls i path (d - 1)
    moved_not h =
        let o = owner_stays (sound_at c d m.depth) close.least close.most keyed (omega (arith, ends, here)) in
        let w : get_or path (d - 1) 0 ≡ ancestor (drop (suc (d - 1)) ls) i = parent ∙ sym o ∙ sym (up i) in
        record { depth = omega (arith, m.depth); few = m.few; long = m.long; there = λ e g b. at e b g w (dec_lt (d - 1) e); yet = λ e g. m.yet e (omega arith) }
      where
        at : (e : ℕ) → e < length ls → d - 1 ≤ e → get_or path (d - 1) 0 ≡ ancestor (drop (suc (d - 1)) ls) i → Dec (d - 1 < e) → get_or path e 0 ≡ ancestor (drop (suc e) ls) i
        at e b g w (no y) = let z : e ≡ d - 1 = omega (arith, y) in ap (λ (k : ℕ). get_or path k 0) z ∙ w ∙ ap (λ (k : ℕ). ancestor (drop (suc k) ls) i) (sym z)
        at e b g w (yes z) = m.there e (omega arith) b

-- an interval as code reads it
pub begins_is : (pool : List ℕ) {t : ColumnTrie} (o : Whole t) → t.arity ≤ max_arity → (d k : ℕ) → d < t.arity → {l : Layer} → l ≡ layer_in pool t d → {from : ℕ} → from ≡ get_or l.intervals k (length l.keys) → from ≡ get_or (layer (layers_in pool t) d).intervals k (length (layer (layers_in pool t) d).keys)
begins_is pool {t} o few d k h e f = f ∙ ap (λ (l : Layer). get_or l.intervals k (length l.keys)) (e ∙ sym (layers_at pool t o few d h))
