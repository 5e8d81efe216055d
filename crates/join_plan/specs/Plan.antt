-- Internal: contracts of the functions that make the plan of a descent: structs of plain numbers, made once for a call, so that the descent reads no header. For each depth its variable, how many atoms
-- take part there, and for each of them, in atom order, its openings of its table and of its second one, which is its maker's where it is laid over.
use Rattle.std.specs.Prelude.{ℕ, zero, suc, ◌+◌, ◌*◌, ◌≤◌, ◌<◌, ◌^◌, ◌≡◌, Bool, false, ◌&&◌, List, [], map, length, get_or, take, drop, eqb}
use Rattle.relation.specs.Order.{pick}
use Rattle.query.specs.Meaning as meaning
use Rattle.query.specs.Descend.{holders}
use Rattle.column_trie.specs.Limits.{max_arity, max_capacity}
use Rattle.column_trie.specs.Pool.{spot}
use Rattle.column_trie.specs.Table.{data_len_at, interval_len_at}
use Rattle.column_trie.specs.declared.ColumnTrie.{ColumnTrie}
use Rattle.query.specs.Limits.{max_atoms}
use Rattle.join_query.specs.Checking.{reached}
use Rattle.join_query.specs.Query.{max_tables, max_variables, atom_at, table_at, order_of, vars_of}
use Rattle.join_query.specs.declared.Atom.{Atom}
use Rattle.join_query.specs.declared.Query.{Query}
use Rattle.join_query.specs.declared.Tables.{Tables}
use Rattle.join_plan.specs.declared.LayerPlan.{LayerPlan}
use Rattle.join_plan.specs.declared.AtomPlan.{AtomPlan}
use Rattle.join_plan.specs.declared.DepthPlan.{DepthPlan}

-- ---- a plan's parts

-- what stands where a part is looked up by a number that none has
abbrev pub no_layer : LayerPlan
no_layer = record { above = 0; keys = 0; key_count = 0; intervals = 0; interval_count = 0 }

abbrev pub no_opening : AtomPlan
no_opening = record { atom = 0; school = no_layer; maker = no_layer; both = false }

abbrev pub no_depth : DepthPlan
no_depth = record { variable = 0; count = 0; openings = [] }

abbrev pub opening_in : DepthPlan → ℕ → AtomPlan
opening_in p j = get_or p.openings j no_opening

-- the depths, in sequence
abbrev pub Plan : Type 0
Plan = List DepthPlan

abbrev pub depth_at : Plan → ℕ → DepthPlan
depth_at plan d = get_or plan d no_depth

-- the j-th opening of a depth
abbrev pub opening_at : Plan → ℕ → ℕ → AtomPlan
opening_at plan d j = opening_in (depth_at plan d) j

-- ---- what stands there

-- where the keys above layer d start. Above the first layer there are none: what stands for the root is at place 0
abbrev pub above_of : ColumnTrie → ℕ → ℕ
above_of t zero = 0
above_of t (suc d) = spot t.start t.capacity d

-- the opening of layer d of table t
pub record Opening (p : LayerPlan) (t : ColumnTrie) (d : ℕ) : Type 0 where
  pub above : p.above ≡ above_of t d
  pub keys : p.keys ≡ spot t.start t.capacity d
  pub key_count : p.key_count ≡ data_len_at t d
  pub intervals : p.intervals ≡ spot t.start t.capacity d + t.capacity
  pub interval_count : p.interval_count ≡ interval_len_at t d

-- whether an atom that opens layer d is opened in both its tables at once: at the first column, where it is laid over
abbrev pub both_of : Bool → ℕ → Bool
both_of laid d = laid && eqb d 0

-- atom a opens layer d of its table t and of its second table m
pub record AtomOpening (p : AtomPlan) (a : ℕ) (laid : Bool) (t m : ColumnTrie) (d : ℕ) : Type 0 where
  pub atom : p.atom ≡ a
  pub table : Opening p.school t d
  pub maker : Opening p.maker m d
  pub both : p.both ≡ both_of laid d

-- an atom's second table: its maker's where it is laid over, else its own again
abbrev pub second_of : Atom → ℕ
second_of a = pick a.laid_over a.maker a.table

-- the layer that an atom opens at a depth: how many of its variables the order has given words to
abbrev pub layer_at : Query → ℕ → Atom → ℕ
layer_at q d a = reached (take d (order_of q)) (vars_of a)

-- what is left of each atom's list there
abbrev pub left_at : Query → ℕ → Atom → meaning.Atom
left_at q d a = record { vars = drop (layer_at q d a) (vars_of a); rows = [] }

-- the atoms that take part at a depth, in atom order, of the first i
abbrev pub takers_of : Query → ℕ → ℕ → List ℕ
takers_of q d i = holders (get_or q.order d 0) (take i (map (left_at q d) q.atoms))

abbrev pub takers : Query → ℕ → List ℕ
takers q d = takers_of q d q.atom_count

-- the openings of those of the first i atoms that take part
abbrev pub Openings : List AtomPlan → Tables → Query → ℕ → ℕ → Type 0
Openings ps ts q d i = (j : ℕ) → j < length (takers_of q d i) → let a = get_or (takers_of q d i) j 0 in AtomOpening (get_or ps j no_opening) a (atom_at q a).laid_over (table_at ts (atom_at q a).table) (table_at ts (second_of (atom_at q a))) (layer_at q d (atom_at q a))

pub record DepthPlanned (p : DepthPlan) (ts : Tables) (q : Query) (d : ℕ) : Type 0 where
  pub variable : p.variable ≡ get_or q.order d 0
  pub count : p.count ≡ length (takers q d)
  pub openings : Openings p.openings ts q d q.atom_count

pub record Planned (plan : Plan) (ts : Tables) (q : Query) : Type 0 where
  pub each : (d : ℕ) → d < q.n → DepthPlanned (depth_at plan d) ts q d

-- where the first keys of a table end
abbrev pub firsts_end : ColumnTrie → ℕ
firsts_end t = spot t.start t.capacity 0 + data_len_at t 0

-- the ends of the first keys of each atom's two tables
pub record FirstsEnded (ends : List ℕ) (ts : Tables) (q : Query) (n : ℕ) : Type 0 where
  pub size : length ends ≡ 2 * max_atoms
  pub table : (i : ℕ) → i < n → get_or ends (2 * i) 0 ≡ firsts_end (table_at ts (atom_at q i).table)
  pub second : (i : ℕ) → i < n → get_or ends (2 * i + 1) 0 ≡ firsts_end (table_at ts (second_of (atom_at q i)))

-- a table that starts low
pub record Low (t : ColumnTrie) : Type 0 where
  pub start : t.start < 2 ^ 62
  pub capacity : t.capacity ≤ max_capacity
  pub firsts : data_len_at t 0 ≤ max_capacity

-- what a plan is made of: numbers within their arrays, tables that start low
pub record Plannable (ts : Tables) (q : Query) : Type 0 where
  pub deep : q.n ≤ max_variables
  pub few : q.atom_count ≤ max_atoms
  pub short : (i : ℕ) → i < q.atom_count → (atom_at q i).len ≤ max_arity
  pub named : (i : ℕ) → i < q.atom_count → (atom_at q i).table < max_tables
  pub named₂ : (i : ℕ) → i < q.atom_count → second_of (atom_at q i) < max_tables
  pub low : (i : ℕ) → i < q.atom_count → Low (table_at ts (atom_at q i).table)
  pub low₂ : (i : ℕ) → i < q.atom_count → Low (table_at ts (second_of (atom_at q i)))
