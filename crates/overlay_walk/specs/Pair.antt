-- Of theorems: the trie iterator over a laid-over table as a pair of iterators, one on each table. At the root both stand there. At depth 1 each stands on its first key
-- not below the present one, else at its end; an empty table's stays at the root. Deeper the key's owner walks, the school's if both have it, and the
-- other stays.
use Rattle.std.specs.Prelude.{ℕ, ◌≡◌, Bool, true, false, not, ◌||◌, List, [], ◌∷◌, eqb}
use Rattle.relation.specs.Lists.{nonempty}
use Rattle.relation.specs.Order.{Row, pick}
use Rattle.relation.specs.Runs.{from}
use Rattle.relation.specs.Layers.{keys_under}
use Rattle.trie_iterator.specs.TrieIterator.{State, root, level, left, go_next, go_seek, opens, go_down, go_up, Call, Key, Next, AtEnd, Open, Up, Seek, Answer, says, shown}
use Rattle.overlay.specs.Merge.{merge}
use Rattle.overlay.specs.Laid.{owns, laid}

pub record Pair : Type 0 where
  pub school : State
  pub maker : State

abbrev pub pair : State → State → Pair
pair p q = record { school = p; maker = q }

-- ---- who walks

pub data Kind : Type 0 where
  top first deep : Kind

-- at the root, at depth 1, deeper
abbrev pub kind : State → Kind
kind root = top
kind (level ks root) = first
kind (level ks (level js above)) = deep

pub data Walker : Type 0 where
  rooted firsts schools makers : Walker

abbrev pub walker : Kind → Kind → Walker
walker deep y = schools
walker top deep = makers
walker first deep = makers
walker top top = rooted
walker top first = firsts
walker first top = firsts
walker first first = firsts

abbrev pub walks : Pair → Walker
walks p = walker (kind p.school) (kind p.maker)

-- ---- the keys

-- the siblings not yet passed: at depth 1 those of both, deeper those of the one that walks
abbrev pub left_by : Walker → Pair → List ℕ
left_by rooted p = []
left_by firsts p = merge (left p.school) (left p.maker)
left_by schools p = left p.school
left_by makers p = left p.maker

abbrev pub left_in : Pair → List ℕ
left_in p = left_by (walks p) p

-- ---- next: at depth 1 each that stands on the present key passes it

abbrev pub pass : ℕ → List ℕ → List ℕ
pass k [] = []
pass k (x ∷ xs) = pick (eqb x k) xs (x ∷ xs)

abbrev pub go_pass : ℕ → State → State
go_pass k root = root
go_pass k (level ks above) = level (pass k ks) above

abbrev pub pass_in : List ℕ → Pair → Pair
pass_in [] p = p
pass_in (k ∷ ks) p = pair (go_pass k p.school) (go_pass k p.maker)

abbrev pub next_by : Walker → Pair → Pair
next_by rooted p = p
next_by firsts p = pass_in (merge (left p.school) (left p.maker)) p
next_by schools p = pair (go_next p.school) p.maker
next_by makers p = pair p.school (go_next p.maker)

abbrev pub pair_next : Pair → Pair
pair_next p = next_by (walks p) p

-- ---- seek: at depth 1 both

abbrev pub seek_by : ℕ → Walker → Pair → Pair
seek_by t rooted p = p
seek_by t firsts p = pair (go_seek t p.school) (go_seek t p.maker)
seek_by t schools p = pair (go_seek t p.school) p.maker
seek_by t makers p = pair p.school (go_seek t p.maker)

abbrev pub pair_seek : ℕ → Pair → Pair
pair_seek t p = seek_by t (walks p) p

-- ---- open: from the root both, where there are rows; at depth 1 the present key's owner

-- the run stands on the key k
abbrev pub on : ℕ → List ℕ → Bool
on k [] = false
on k (x ∷ xs) = eqb x k

abbrev pub owner_of : List ℕ → Pair → Walker
owner_of [] p = firsts
owner_of (k ∷ ks) p = pick (on k (left p.school)) schools makers

abbrev pub opener : Walker → Pair → Walker
opener rooted p = rooted
opener firsts p = owner_of (merge (left p.school) (left p.maker)) p
opener schools p = schools
opener makers p = makers

module _ (a : ℕ) (s m : List Row) where
  abbrev pub opens_by : Walker → Pair → Bool
  opens_by rooted p = opens a s p.school || opens a m p.maker
  opens_by firsts p = false
  opens_by schools p = opens a s p.school
  opens_by makers p = opens a m p.maker

  abbrev pub open_by : Walker → Pair → Pair
  open_by rooted p = pair (go_down a s p.school) (go_down a m p.maker)
  open_by firsts p = p
  open_by schools p = pair (go_down a s p.school) p.maker
  open_by makers p = pair p.school (go_down a m p.maker)

  abbrev pub pair_opens : Pair → Bool
  pair_opens p = opens_by (opener (walks p) p) p

  abbrev pub pair_open : Pair → Pair
  pair_open p = open_by (opener (walks p) p) p

-- ---- up: from depth 1 both, from below the one that walks

abbrev pub up_by : Walker → Pair → Pair
up_by rooted p = p
up_by firsts p = pair (go_up p.school) (go_up p.maker)
up_by schools p = pair (go_up p.school) p.maker
up_by makers p = pair p.school (go_up p.maker)

abbrev pub pair_up : Pair → Pair
pair_up p = up_by (walks p) p

abbrev pub rises_by : Walker → Bool
rises_by rooted = false
rises_by firsts = true
rises_by schools = true
rises_by makers = true

-- ---- calls

abbrev pub pair_answer : ℕ → List Row → List Row → Pair → Call → Answer
pair_answer a s m p Key = shown (left_in p)
pair_answer a s m p Next = shown (left_in (pair_next p))
pair_answer a s m p AtEnd = says (not (nonempty (left_in p)))
pair_answer a s m p Open = says (pair_opens a s m p)
pair_answer a s m p Up = says (rises_by (walks p))
pair_answer a s m p (Seek x t) = says (nonempty (left_in (pair_seek t p)))

abbrev pub pair_after : ℕ → List Row → List Row → Pair → Call → Pair
pair_after a s m p Key = p
pair_after a s m p Next = pair_next p
pair_after a s m p AtEnd = p
pair_after a s m p Open = pair_open a s m p
pair_after a s m p Up = pair_up p
pair_after a s m p (Seek x t) = pair_seek t p

unfoldable pub pair_answers : ℕ → List Row → List Row → Pair → List Call → List Answer
pair_answers a s m p [] = []
pair_answers a s m p (c ∷ cs) = pair_answer a s m p c ∷ pair_answers a s m (pair_after a s m p c) cs

-- ---- which pairs are states, and of which state of the iterator over the rows that count

-- a table's iterator at depth 1, its first keys from t on left; an empty table's stays at the root
abbrev pub stands_at : List Row → ℕ → State
stands_at [] t = root
stands_at (q ∷ qs) t = level (from t (keys_under [] (q ∷ qs))) root

-- the same levels above b and above c, one or more
pub data Above (b c : State) : State → State → Type 0 where
  one : {ks : List ℕ} → Above b c (level ks b) (level ks c)
  more : {ks : List ℕ} {u v : State} → Above b c u v → Above b c (level ks u) (level ks v)

pub data StandsFor (a : ℕ) (s m : List Row) : State → Pair → Type 0 where
  at_top : StandsFor a s m root (pair root root)
  -- t is the present key, or any number above all keys where there is none; some table has rows
  at_first : (t : ℕ) → nonempty (laid s m) ≡ true → StandsFor a s m (level (from t (keys_under [] (laid s m))) root) (pair (stands_at s t) (stands_at m t))
  -- below the key k: the school's, if it has k
  in_school : (t k : ℕ) {ks : List ℕ} {u p : State} → from t (keys_under [] (laid s m)) ≡ k ∷ ks → owns s k ≡ true → Above (level (from t (keys_under [] (laid s m))) root) (stands_at s t) u p → StandsFor a s m u (pair p (stands_at m t))
  in_maker : (t k : ℕ) {ks : List ℕ} {u p : State} → from t (keys_under [] (laid s m)) ≡ k ∷ ks → owns s k ≡ false → Above (level (from t (keys_under [] (laid s m))) root) (stands_at m t) u p → StandsFor a s m u (pair (stands_at s t) p)
