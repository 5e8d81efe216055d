-- One statement: on every line of the table what must come is what the definitions give. By computation.
use mathlib.Core.Path.{◌≡◌, refl}
use mathlib.Core.List.{map, flat_map}
use Rattle.relation.specs.Tests.{every}
use Rattle.relation.specs.Order.{before}
use Rattle.relation.specs.Runs.{from}
use Rattle.relation.specs.Rows.{cut, flat, same, place, sort, put, as_set}
use Rattle.relation.specs.Layers.{prefixes, under, keys_under, groups_at, joined, starts, layer_at, layers_from}
use Rattle.relation.specs.Undamaged.{walk, sound, chain, rooms}
use Rattle.relation.specs.Undamaged as layers
use Rattle.relation.specs.Paths.{upto, owner, grow, rows_from, rows_of}
use Rattle.seek.specs.Seek.{halves, scans, gallops, galloping_of}
use Rattle.grade.specs.Word.{word_of}
use Rattle.column_trie.specs.Groups.{lies}
use Rattle.column_trie.specs.Pool.{lay, store, spot, reads}
use Rattle.column_trie.specs.Table.{undamaged}
use Rattle.column_trie_build.specs.Build.{build_number}
use Rattle.column_trie_insert.specs.Insert.{known, insert_number, takes_in}
use Rattle.column_trie_place.specs.Checks.{child, stands, stands_below, refusal, remaining, owns}
use Rattle.column_trie_iter.specs.Cursor.{key_of, open_of, rises_in, up_of, opens}
use Rattle.query.specs.Meaning.{follows}
use Rattle.query.specs.Meet.{has, in_all, keep, meet, total}
use Rattle.query.specs.Solve.{beyond, headed, bind, runs, extend, listing}
use Rattle.query.specs.Window.{fit, windowed, emit}
use Rattle.query.specs.Checks.{some, single, permutes, listed, covers}
use Rattle.query.specs.Checks as checks
use Rattle.query.specs.Outcome.{told, refused}
use Rattle.overlay.specs.Laid as overlay
use Rattle.laid_over.specs.Shape.{same_shape}
use Rattle.join_query.specs.Query.{rows_at, order_ok, named_ok, listed_at, named, sound_at, join_number}
use Rattle.leapfrog.specs.Search.{search_from, search_of, go_on, next_of, place_run, sorted_runs, some_none, init_of}
use Rattle.leapfrog.specs.Walk.{depth_of, walk_of, join_seeks}
use Rattle.join_query.specs.Outcome.{answered, outcome}
use Rattle.leapfrog_triejoin.specs.Outcome.{seeks_at}
use Rattle.starred.specs.Cases.{comes, starred}

pub every_starred_case_comes : map (λ l. comes l.asked) starred ≡ map (λ l. l.must) starred
unfolding follows has in_all keep meet total from emit search_from search_of go_on next_of place_run sorted_runs some_none init_of depth_of walk_of join_seeks seeks_at flat_map beyond headed bind runs extend listing fit windowed some single permutes listed covers checks.every told refused order_ok named_ok listed_at named sound_at same_shape overlay.owns overlay.others overlay.laid rows_at join_number answered outcome every before lies stands_below opens child cut flat same place sort put as_set prefixes under keys_under groups_at joined starts layer_at layers_from walk sound chain rooms layers.undamaged upto owner grow rows_from rows_of halves scans gallops galloping_of word_of lay store spot reads undamaged build_number known insert_number takes_in stands refusal remaining key_of open_of owns rises_in up_of starred
every_starred_case_comes = refl
