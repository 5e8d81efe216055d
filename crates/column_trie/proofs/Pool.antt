-- Storing layers and reading them back: what lies outside stays, what is stored is read, one key or interval more is one word more.
use Prim.Native.Nat.{ℕ, zero, suc, ◌+◌, ◌*◌, ◌≤◌, ◌<◌}
use mathlib.Core.Path.{◌≡◌, refl, sym, ap, ◌∙◌}
use mathlib.Core.Logic.{◌⊎◌, inl, inr, ⊎_elim}
use mathlib.Core.List.{List, [], ◌∷◌, ◌++◌, append_assoc}
use native.Mathlib.Omega.{arith}
use native.Mathlib.Nat.{suc-mul, zero-mul}
use lib.ListN.{length, take, drop, get_or, set, length-set}
use lib.Seq.{sets, take-set-le, take-take, drop-cons, length-sets, sets-eq, set_comm, set-set, set-get_or, get_or-set_same, get_or-set_other, length-take-le, drop_at, take_at}
use Rattle.relation.specs.Layers.{Layer, layer}
use Rattle.column_trie.specs.Pool.{lay, store, spot, reads}

pub lay_length : (pool : List ℕ) (at : ℕ) (xs : List ℕ) → length (lay pool at xs) ≡ length pool
unfolding lay
lay_length pool at xs = length-sets pool at xs

-- one word more
pub lay_snoc : (pool : List ℕ) (at : ℕ) (xs : List ℕ) (x : ℕ) → lay pool at (xs ++ (x ∷ [])) ≡ set (lay pool at xs) (at + length xs) x
unfolding lay
lay_snoc pool at [] x = ap (λ (k : ℕ). set pool k x) (let e : at ≡ at + 0 = omega arith in e)
lay_snoc pool at (y ∷ ys) x = lay_snoc (set pool at y) (suc at) ys x ∙ ap (λ (k : ℕ). set (sets (set pool at y) (suc at) ys) k x) (let e : suc at + length ys ≡ at + suc (length ys) = omega arith in e)

-- a word stored outside what is laid
lay_set : (pool : List ℕ) (at : ℕ) (xs : List ℕ) (k x : ℕ) → (k < at) ⊎ (at + length xs ≤ k) → lay (set pool k x) at xs ≡ set (lay pool at xs) k x
unfolding lay
lay_set pool at [] k x h = refl
lay_set pool at (y ∷ ys) k x h =
    ap (λ (l : List ℕ). sets l (suc at) ys) (set_comm pool k at x y (λ e. ⊎_elim (λ (a : k < at). omega arith) (λ (a : at + suc (length ys) ≤ k). omega arith) h)) ∙
    lay_set (set pool at y) (suc at) ys k x (⊎_elim (λ (a : k < at). inl (omega arith)) (λ (a : at + suc (length ys) ≤ k). inr (omega arith)) h)

pub lay_out : (pool : List ℕ) (at : ℕ) (xs : List ℕ) (k z : ℕ) → (k < at) ⊎ (at + length xs ≤ k) → get_or (lay pool at xs) k z ≡ get_or pool k z
unfolding lay
lay_out pool at [] k z h = refl
lay_out pool at (y ∷ ys) k z h =
    lay_out (set pool at y) (suc at) ys k z (⊎_elim (λ (a : k < at). inl (omega arith)) (λ (a : at + suc (length ys) ≤ k). inr (omega arith)) h) ∙
    get_or-set_other pool at k y z (λ e. ⊎_elim (λ (a : k < at). omega arith) (λ (a : at + suc (length ys) ≤ k). omega arith) h)

pub lay_in : (pool : List ℕ) (at : ℕ) (xs : List ℕ) (j z : ℕ) → j < length xs → at + length xs ≤ length pool → get_or (lay pool at xs) (at + j) z ≡ get_or xs j z
unfolding lay
lay_in pool at [] j z h k = absurd (omega arith)
lay_in pool at (y ∷ ys) zero z h k =
    ap (λ (n : ℕ). get_or (sets (set pool at y) (suc at) ys) n z) (let e : at + 0 ≡ at = omega arith in e) ∙
    lay_out (set pool at y) (suc at) ys at z (inl (omega arith)) ∙
    get_or-set_same pool at y z (omega arith)
lay_in pool at (y ∷ ys) (suc j) z h k =
    ap (λ (n : ℕ). get_or (sets (set pool at y) (suc at) ys) n z) (let e : at + suc j ≡ suc at + j = omega arith in e) ∙
    lay_in (set pool at y) (suc at) ys j z (omega arith) (omega (arith, length-set pool at y))

-- what is laid is read back
pub lay_read : (pool : List ℕ) (at : ℕ) (xs : List ℕ) → at + length xs ≤ length pool → take (length xs) (drop at (lay pool at xs)) ≡ xs
unfolding lay
lay_read pool at xs h =
    ap (λ (l : List ℕ). take (length xs) (drop at l)) (sets-eq xs pool at h ∙ append_assoc (take at pool) xs (drop (at + length xs) pool)) ∙
    ap (take (length xs)) (drop_at (take at pool) (xs ++ drop (at + length xs) pool) at (length-take-le at pool (omega arith))) ∙
    take_at xs (drop (at + length xs) pool) (length xs) refl

-- laid over again by no fewer words
pub lay_over : (pool : List ℕ) (at : ℕ) (xs ys : List ℕ) → length xs ≤ length ys → lay (lay pool at xs) at ys ≡ lay pool at ys
unfolding lay
lay_over pool at [] ys h = refl
lay_over pool at (x ∷ xs) [] h = absurd (omega arith)
lay_over pool at (x ∷ xs) (y ∷ ys) h =
    ap (λ (l : List ℕ). sets l (suc at) ys) (sym (lay_set (set pool at x) (suc at) xs at y (inl (omega arith))) ∙ ap (λ (l : List ℕ). sets l (suc at) xs) (set-set pool at x y)) ∙
    lay_over (set pool at y) (suc at) xs ys (omega arith)

-- two that do not overlap
lay_apart : (pool : List ℕ) (at : ℕ) (xs : List ℕ) (at' : ℕ) (ys : List ℕ) → at + length xs ≤ at' → lay (lay pool at xs) at' ys ≡ lay (lay pool at' ys) at xs
unfolding lay
lay_apart pool at [] at' ys h = refl
lay_apart pool at (x ∷ xs) at' ys h =
    lay_apart (set pool at x) (suc at) xs at' ys (omega arith) ∙ ap (λ (l : List ℕ). sets l (suc at) xs) (lay_set pool at' ys at x (inl (omega arith)))

pub spot_is : (at c d : ℕ) → spot at c d ≡ at + d * (c + c)
unfolding spot
spot_is at c zero = omega (arith, zero-mul (c + c))
spot_is at c (suc d) = omega (arith, spot_is (at + c + c) c d, suc-mul d (c + c))

spot_le : (at c d : ℕ) → at ≤ spot at c d
unfolding spot
spot_le at c zero = omega arith
spot_le at c (suc d) = omega (arith, spot_le (at + c + c) c d)

-- each list has room
abbrev pub Room : ℕ → List Layer → Type 0
Room c ls = (d : ℕ) → d < length ls → (length (layer ls d).keys ≤ c) × (length (layer ls d).intervals ≤ c)

pub store_length : (at c : ℕ) (ls : List Layer) (pool : List ℕ) → length (store at c ls pool) ≡ length pool
unfolding store
store_length at c [] pool = refl
store_length at c (l ∷ ls) pool = store_length (at + c + c) c ls (lay (lay pool at l.keys) (at + c) l.intervals) ∙ lay_length (lay pool at l.keys) (at + c) l.intervals ∙ lay_length pool at l.keys

-- a word before the table
store_set : (at c : ℕ) (ls : List Layer) (pool : List ℕ) (k x : ℕ) → k < at → store at c ls (set pool k x) ≡ set (store at c ls pool) k x
unfolding store
store_set at c [] pool k x h = refl
store_set at c (l ∷ ls) pool k x h =
    ap (λ (p : List ℕ). store (at + c + c) c ls (lay p (at + c) l.intervals)) (lay_set pool at l.keys k x (inl h)) ∙
    ap (store (at + c + c) c ls) (lay_set (lay pool at l.keys) (at + c) l.intervals k x (inl (omega arith))) ∙
    store_set (at + c + c) c ls (lay (lay pool at l.keys) (at + c) l.intervals) k x (omega arith)

-- one key more, one interval more
pub store_key : (at c : ℕ) (ls : List Layer) (pool : List ℕ) (d x : ℕ) → d < length ls → Room c ls → length (layer ls d).keys < c → store at c (set ls d (record { keys = (layer ls d).keys ++ (x ∷ []); intervals = (layer ls d).intervals })) pool ≡ set (store at c ls pool) (spot at c d + length (layer ls d).keys) x
unfolding store spot
store_key at c [] pool d x h r k = absurd (omega arith)
store_key at c (l ∷ ls) pool zero x h r k =
    ap (λ (p : List ℕ). store (at + c + c) c ls (lay p (at + c) l.intervals)) (lay_snoc pool at l.keys x) ∙
    ap (store (at + c + c) c ls) (lay_set (lay pool at l.keys) (at + c) l.intervals (at + length l.keys) x (inl (omega arith))) ∙
    store_set (at + c + c) c ls (lay (lay pool at l.keys) (at + c) l.intervals) (at + length l.keys) x (omega arith)
store_key at c (l ∷ ls) pool (suc d) x h r k = store_key (at + c + c) c ls (lay (lay pool at l.keys) (at + c) l.intervals) d x (omega arith) (λ e m. r (suc e) (omega arith)) k

pub store_interval : (at c : ℕ) (ls : List Layer) (pool : List ℕ) (d x : ℕ) → d < length ls → Room c ls → length (layer ls d).intervals < c → store at c (set ls d (record { keys = (layer ls d).keys; intervals = (layer ls d).intervals ++ (x ∷ []) })) pool ≡ set (store at c ls pool) (spot at c d + c + length (layer ls d).intervals) x
unfolding store spot
store_interval at c [] pool d x h r k = absurd (omega arith)
store_interval at c (l ∷ ls) pool zero x h r k =
    ap (store (at + c + c) c ls) (lay_snoc (lay pool at l.keys) (at + c) l.intervals x) ∙
    store_set (at + c + c) c ls (lay (lay pool at l.keys) (at + c) l.intervals) (at + c + length l.intervals) x (omega arith)
store_interval at c (l ∷ ls) pool (suc d) x h r k = store_interval (at + c + c) c ls (lay (lay pool at l.keys) (at + c) l.intervals) d x (omega arith) (λ e m. r (suc e) (omega arith)) k

-- what lies before stays
lay_front : (m : ℕ) (pool : List ℕ) (at : ℕ) (xs : List ℕ) → m ≤ at → take m (lay pool at xs) ≡ take m pool
unfolding lay
lay_front m pool at [] h = refl
lay_front m pool at (x ∷ xs) h = lay_front m (set pool at x) (suc at) xs (omega arith) ∙ take-set-le m pool at x h

store_front : (m at c : ℕ) (ls : List Layer) (pool : List ℕ) → m ≤ at → take m (store at c ls pool) ≡ take m pool
unfolding store
store_front m at c [] pool h = refl
store_front m at c (l ∷ ls) pool h =
    store_front m (at + c + c) c ls (lay (lay pool at l.keys) (at + c) l.intervals) (omega arith) ∙
    lay_front m (lay pool at l.keys) (at + c) l.intervals (omega arith) ∙
    lay_front m pool at l.keys h

part_take : (n at m : ℕ) (l : List ℕ) → at + n ≤ m → take n (drop at (take m l)) ≡ take n (drop at l)
part_take n zero m l h = take-take n m l (omega arith)
part_take n (suc at) zero l h = absurd (omega arith)
part_take n (suc at) (suc m) [] h = refl
part_take n (suc at) (suc m) (x ∷ l) h = part_take n at m l (omega arith)

part_same : (n at m : ℕ) (l k : List ℕ) → at + n ≤ m → take m l ≡ take m k → take n (drop at l) ≡ take n (drop at k)
part_same n at m l k h e = sym (part_take n at m l h) ∙ ap (λ (z : List ℕ). take n (drop at z)) e ∙ part_take n at m k h

-- what is stored is read back
pub store_keys : (at c : ℕ) (ls : List Layer) (pool : List ℕ) (d : ℕ) → d < length ls → Room c ls → spot at c (length ls) ≤ length pool → take (length (layer ls d).keys) (drop (spot at c d) (store at c ls pool)) ≡ (layer ls d).keys
unfolding store spot
store_keys at c [] pool d h r f = absurd (omega arith)
store_keys at c (l ∷ ls) pool zero h r f =
    part_same (length l.keys) at (at + c) (store (at + c + c) c ls (lay (lay pool at l.keys) (at + c) l.intervals)) (lay pool at l.keys) (omega (arith, (r 0 (omega arith)).0))
    (store_front (at + c) (at + c + c) c ls (lay (lay pool at l.keys) (at + c) l.intervals) (omega arith) ∙ lay_front (at + c) (lay pool at l.keys) (at + c) l.intervals (omega arith)) ∙
    lay_read pool at l.keys (omega (arith, f, spot_le (at + c + c) c (length ls), (r 0 (omega arith)).0))
store_keys at c (l ∷ ls) pool (suc d) h r f =
    store_keys (at + c + c) c ls (lay (lay pool at l.keys) (at + c) l.intervals) d (omega arith) (λ e m. r (suc e) (omega arith))
    (omega (arith, f, lay_length (lay pool at l.keys) (at + c) l.intervals, lay_length pool at l.keys))

pub store_intervals : (at c : ℕ) (ls : List Layer) (pool : List ℕ) (d : ℕ) → d < length ls → Room c ls → spot at c (length ls) ≤ length pool → take (length (layer ls d).intervals) (drop (spot at c d + c) (store at c ls pool)) ≡ (layer ls d).intervals
unfolding store spot
store_intervals at c [] pool d h r f = absurd (omega arith)
store_intervals at c (l ∷ ls) pool zero h r f =
    part_same (length l.intervals) (at + c) (at + c + c) (store (at + c + c) c ls (lay (lay pool at l.keys) (at + c) l.intervals)) (lay (lay pool at l.keys) (at + c) l.intervals) (omega (arith, (r 0 (omega arith)).1))
    (store_front (at + c + c) (at + c + c) c ls (lay (lay pool at l.keys) (at + c) l.intervals) (omega arith)) ∙
    lay_read (lay pool at l.keys) (at + c) l.intervals (omega (arith, f, spot_le (at + c + c) c (length ls), (r 0 (omega arith)).1, lay_length pool at l.keys))
store_intervals at c (l ∷ ls) pool (suc d) h r f =
    store_intervals (at + c + c) c ls (lay (lay pool at l.keys) (at + c) l.intervals) d (omega arith) (λ e m. r (suc e) (omega arith))
    (omega (arith, f, lay_length (lay pool at l.keys) (at + c) l.intervals, lay_length pool at l.keys))

-- a table's own words, laid over the pool they come from, change nothing
pub lay_own : (pool : List ℕ) (at n : ℕ) → at + n ≤ length pool → lay pool at (take n (drop at pool)) ≡ pool
unfolding lay
lay_own pool at zero h = refl
lay_own pool at (suc n) h =
    ap (λ (l : List ℕ). sets pool at (take (suc n) l)) (drop-cons pool at 0 (omega arith)) ∙
    ap (λ (l : List ℕ). sets l (suc at) (take n (drop (suc at) pool))) (set-get_or pool at 0) ∙
    lay_own pool (suc at) n (omega arith)

pub store_own : (at c : ℕ) (ks ns : List ℕ) (pool : List ℕ) → length ks ≡ length ns → ((d : ℕ) → d < length ks → (get_or ks d 0 ≤ c) × (get_or ns d 0 ≤ c)) → spot at c (length ks) ≤ length pool → store at c (reads at c ks ns pool) pool ≡ pool
unfolding store reads spot
store_own at c [] ns pool e r f = refl
store_own at c (k ∷ ks) [] pool e r f = absurd (omega arith)
store_own at c (k ∷ ks) (n ∷ ns) pool e r f =
    let b = spot_le (at + c + c) c (length ks) in
    ap (store (at + c + c) c (reads (at + c + c) c ks ns pool))
    (ap (λ (p : List ℕ). lay p (at + c) (take n (drop (at + c) pool))) (lay_own pool at k (omega (arith, f, (r 0 (omega arith)).0))) ∙ lay_own pool (at + c) n (omega (arith, f, (r 0 (omega arith)).1))) ∙
    store_own (at + c + c) c ks ns pool (omega arith) (λ d h. r (suc d) (omega arith)) f

-- words laid before the table
store_lay : (at c : ℕ) (ls : List Layer) (pool : List ℕ) (b : ℕ) (xs : List ℕ) → b + length xs ≤ at → store at c ls (lay pool b xs) ≡ lay (store at c ls pool) b xs
unfolding lay
store_lay at c ls pool b [] h = refl
store_lay at c ls pool b (x ∷ xs) h =
    store_lay at c ls (set pool b x) (suc b) xs (omega arith) ∙ ap (λ (l : List ℕ). lay l (suc b) xs) (store_set at c ls pool b x (omega arith))

-- a layer whose lists are laid anew over lists that are no longer: as if stored so from the start
pub store_replace :
    (at c : ℕ) (ls : List Layer) (pool : List ℕ) (d : ℕ) (l : Layer) → d < length ls → length (layer ls d).keys ≤ length l.keys → length l.keys ≤ c → length (layer ls d).intervals ≤ length l.intervals → length l.intervals ≤ c →
    lay (lay (store at c ls pool) (spot at c d) l.keys) (spot at c d + c) l.intervals ≡ store at c (set ls d l) pool
unfolding store spot
store_replace at c [] pool d l h k₀ k₁ i₀ i₁ = absurd (omega arith)
store_replace at c (m ∷ ls) pool zero l h k₀ k₁ i₀ i₁ =
    ap (λ (p : List ℕ). lay p (at + c) l.intervals) (sym (store_lay (at + c + c) c ls P at l.keys (omega arith)))
    ∙ sym (store_lay (at + c + c) c ls (lay P at l.keys) (at + c) l.intervals (omega arith))
    ∙ ap (store (at + c + c) c ls) over
  where
    P : List ℕ
    P = lay (lay pool at m.keys) (at + c) m.intervals

    over : lay (lay (lay (lay pool at m.keys) (at + c) m.intervals) at l.keys) (at + c) l.intervals ≡ lay (lay pool at l.keys) (at + c) l.intervals
    over =
        ap (λ (p : List ℕ). lay p (at + c) l.intervals) (sym (lay_apart (lay pool at m.keys) at l.keys (at + c) m.intervals (omega arith)))
        ∙ lay_over (lay (lay pool at m.keys) at l.keys) (at + c) m.intervals l.intervals i₀
        ∙ ap (λ (p : List ℕ). lay p (at + c) l.intervals) (lay_over pool at m.keys l.keys k₀)
store_replace at c (m ∷ ls) pool (suc d) l h k₀ k₁ i₀ i₁ = store_replace (at + c + c) c ls (lay (lay pool at m.keys) (at + c) m.intervals) d l (omega arith) k₀ k₁ i₀ i₁
