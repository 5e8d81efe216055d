-- `column_trie_iter::open` meets its contract: a refusal, nothing to open, a group outside the layer below, or its first place (Opens.antt).
use mathlib.Core.Path.{◌≡◌, sym, ap, ◌∙◌}
use mathlib.Core.Bool.{true, not}
use native.Mathlib.Omega.{arith}
use lib.ListN.{length}
use Rattle.std.specs.Option.{is_some}
use Rattle.relation.specs.Layers.{Layer}
use Rattle.column_trie.specs.Groups.{group_of}
use Rattle.column_trie.proofs.Header.{header_told}
use Rattle.column_trie_place.specs.Inside.{has_children}
use Rattle.column_trie_iter.specs.Cursor.{unopened}
use Rattle.column_trie_iter.proofs.Opens.{header_fine, open_refused, open_none, deeper, open_by}
use Rattle.column_trie_iter.proofs.open.Goals as goal
use Rattle.column_trie_iter.proofs.open.Goals.{Else-not-has_children}

-- there is something to open
children : (q : Else-not-has_children) → has_children q.args.table q.args.iter.depth q.in-Ok.p.at q.in-Ok.p.end ≡ true
children q = sym q.has_children.ensures ∙ q.if-not-has_children.false

pub returns-in-Err : goal.returns-in-Err
returns-in-Err c = c.unopened.ensures ∙ ap (unopened c.args.iter) c.number.ensures ∙ open_refused c.place_of.ensures c.in-Err.is

pub returns-then-not-has_children : goal.returns-then-not-has_children
returns-then-not-has_children c =
    c.unopened-then-not-has_children.ensures ∙ open_none c.place_of.ensures c.in-Ok.is (sym c.has_children.ensures ∙ c.if-not-has_children.true)

pub invariant_of-sound-clause-sound : goal.invariant_of-sound-clause-sound
invariant_of-sound-clause-sound c = header_fine c.place_of.ensures c.in-Ok.is

pub layer-requires : goal.layer-requires
layer-requires c = deeper c.place_of.ensures c.in-Ok.is (children (goal.at.layer-requires c).Else-not-has_children)

pub returns-then-is_none : goal.returns-then-is_none
returns-then-is_none c =
    c.unopened-then-is_none.ensures ∙ ap (unopened c.args.iter) c.number-then-is_none.ensures ∙
    open_by c.place_of.ensures c.in-Ok.is (children (goal.at.returns-then-is_none c).Else-not-has_children) (ap is_some (sym (c.group_of.ensures ∙ ap (λ (l : Layer). group_of l c.in-Ok.p.index) c.layer.ensures)) ∙ c.is_none.ensures ∙ ap not c.if-is_none.true)

pub overflow_add-result : goal.overflow_add-result
overflow_add-result c =
    let w = c.place_of.ensures in
    omega (arith, deeper w c.in-Ok.is (children (goal.at.overflow_add-result c).Else-not-has_children), (header_told (length c.args.pool.now) c.args.table (header_fine w c.in-Ok.is)).few)

pub returns : goal.returns
returns c =
    open_by c.place_of.ensures c.in-Ok.is (children (goal.at.returns c).Else-not-has_children) (ap is_some (sym (c.group_of.ensures ∙ ap (λ (l : Layer). group_of l c.in-Ok.p.index) c.layer.ensures)) ∙ c.is_none.ensures ∙ ap not c.if-is_none.false)
