-- An instance of demand 3: all its premises hold of graph C and a database that was filed by the public calls.
-- So the demand is not empty, and its conclusion there is what document 01 says of C. Likewise what is said of names (document 02, order 1), of the
-- alias set (order 5), of a converted database (order 6), of compaction (order 7) and of two desks (order 8).
use Rattle.std.specs.Prelude.{ℕ, zero, suc, ◌+◌, ◌*◌, ◌<◌, ◌≡◌, refl, true, false, length, get_or, replicate, None, Ok}
use Rattle.std.proofs.Common.{arith, sym, ◌∙◌, ap, ⊎_elim}
use Rattle.std.proofs.lemmas.Bool.{false≢true}
use mathlib.Core.List.Memᴰ
use mathlib.Core.List.{List, [], ◌∷◌, ◌++◌, Memᴰ}
use Rattle.semantics.specs.declared.graph.Node.TheVariants as N
use Rattle.semantics.specs.declared.graph.Edge.TheVariants as E
use Rattle.semantics.specs.declared.search.SearchOrder.TheVariants.{BreadthFirst}
use Rattle.semantics.specs.declared.search.PartialPathStats.{PartialPathStats}
use Rattle.semantics.specs.Limits.{Bounds, base, former, slot_words, record_words, slot_length, record_length, nobody}
use Rattle.semantics.specs.Answer.{ok}
use Rattle.semantics.specs.Graph.{node_id, file_id, Graph, view_of, is_reference}
use Rattle.semantics.specs.Path.{Path}
use Rattle.semantics.specs.Enumeration.{State}
use Rattle.semantics.specs.Recorded.{recorded}
use Rattle.semantics.specs.PartialPaths.{slot}
use Rattle.semantics.specs.Image.{symbol_bytes, check_image}
use Rattle.semantics.proofs.Theorems.Image.Laws.{image-accepted}
use Rattle.semantics.specs.Database.{slots_in, check_database, known_owners, lookup_part, words_of}
use Rattle.semantics.specs.Database.Conversion.{convert_call}
use Rattle.semantics.specs.Database.Conversion.Laws.{converted-holds}
use Rattle.semantics.specs.Database.Compaction.{new_number, compact_call}
use Rattle.semantics.proofs.Theorems.Database.Compaction.Laws.{LiveAt, compact-edges}
use Rattle.semantics.specs.Entries.{convert_database, direct_search, linear_search, stitched_search, find_name}
use Rattle.semantics.specs.Demand.{NoAliases, Holds, file_owners}
use Rattle.semantics.specs.Words.{zeros, lists_in}
use Rattle.semantics.specs.Hidden.{sees, every_file, seen, seen_image, seen_slot}
use Rattle.semantics.proofs.Theorems.Hidden.Desks.{SameImages, SameDatabases, pieces, desks-direct, desks-linear, desks-stitched, desks-name}
use Rattle.semantics.specs.Calls.{Request, FileRequest, direct_call, stitched_call, fresh_call, replace_call, alias_call}
use Rattle.semantics.specs.Calls.Filing.{Refiled, Filed, unlimited, begun, refiled, aliased, compacted}
use Rattle.semantics.proofs.Theorems.Calls.Filing.{still-none, filed-none, filed-holds}
use Rattle.semantics.proofs.Theorems.Calls.Compacted.{Overfull, of_file, compact-premises, compact-alias-premises, file-full}
use Rattle.semantics.specs.Calls.Whole.{recorded_set, direct_recorded, stitched_recorded, Premises, Refiling, AliasPremises, AliasRefiling}
use Rattle.semantics.proofs.Theorems.Calls.Whole.{unhidden-premise, filed-premise, refiled-aliases}
use Rattle.semantics.specs.Finding.{Name, FindRequest, find_call}
use Rattle.semantics.proofs.Theorems.Finding.Laws.{Unnamed, Lowest, search_by, nothing-answered, found-answered}
use Rattle.semantics.specs.Cases.Graphs.{image_a, graph_a, image_c, hopping, live, image_of, removed_node, scope, exported, push, reference, definition, removed_edge, ◌⟶◌}
use Rattle.semantics.specs.Cases.Asked.{request, database_of, held, name_request, first_filed, replacing, freshly, aliases_beside}
use Rattle.semantics.proofs.Theorems.Cases.Desks.{rates, unhindered, tables, filed}

-- DEMAND 3 HAS INSTANCES: its premises hold together of C, whose file was filed into a fresh database of 8 slots
abbrev pub asked_c : Request
asked_c = request base BreadthFirst None None None 128 128

pub graph_c : Graph
graph_c =
    record {
      files = 1;
      nodes = N.Root ∷ N.JumpToScope ∷ N.Push (file_id 0) 7 true ∷ N.Pop (file_id 0) 7 true ∷ [];
      edges = live 2 0 0 ∷ live 0 0 0 ∷ live 0 3 0 ∷ [];
    }

-- file 0 alone was replaced
just-file : Memᴰ nobody (0 ∷ []) → ⊥
just-file m = ⊎_elim (λ (e : nobody ≡ 0). absurd (let z : ◌≡◌ {A = ℕ} 65534 0 = e in omega (arith, z))) Memᴰ.not-nil (Memᴰ.cases_cons m)

filed_c : Filed base (check_image symbol_bytes image_c) (first_filed image_c) (0 ∷ [])
unfolding first_filed replacing freshly check_image fresh_call replace_call
filed_c = record {
  lent = zeros (3 + 8 * record_length);
  created = refl;
  replaced = refiled BreadthFirst (128 * slot_length) 0 (record { expanded = 5; found = 3; cycles = 0; length_limited = false; count_limited = false; waited = 2 }) begun refl;
}

pub premises-c : Premises symbol_bytes base every_file image_c (first_filed image_c) asked_c asked_c
unfolding check_image graph_c first_filed replacing freshly direct_call stitched_call seen_image recorded
premises-c = record {
  graph = graph_c;
  accepted = refl;
  same-reference = refl;
  same-length-limit = refl;
  database-holds = filed-premise symbol_bytes base every_file image_c graph_c refl (first_filed image_c) (0 ∷ []) filed_c (λ f h visible. Memᴰ.head (omega (arith, h))) just-file;
  direct-finished = record { paths = 2; stats = record { expanded = 5; complete = 2; rejected = 0; cycles = 1; length_limited = false; count_limited = false; complete_limited = false; waited = 2 }; answered = refl; uncounted = refl; uncut = refl };
  stitched-finished = record { paths = 1; stats = record { expanded = 4; complete = 2; rejected = 0; cycles = 0; length_limited = false; count_limited = false; complete_limited = false; waited = 2 }; answered = refl; uncounted = refl; uncut = refl };
}

-- ORDER 6 HAS AN INSTANCE: C's file filed under the former bound, and what the converter wrote of it into dirty words for 4 slots
abbrev formerly : List ℕ
formerly = (fresh_call (ok graph_c) (zeros (3 + 4 * record_words former))).database

abbrev filed_before : List ℕ
filed_before = (replace_call former known_owners (ok graph_c) (unlimited BreadthFirst (8 * slot_words former) 0) formerly).database

abbrev dirty : List ℕ
dirty = replicate (3 + 4 * record_length) 9

abbrev filed_after : List ℕ
filed_after = (convert_database filed_before dirty).written

filed_formerly : Filed former (ok graph_c) filed_before (0 ∷ [])
unfolding graph_c fresh_call replace_call
filed_formerly = record {
  lent = zeros (3 + 4 * record_words former);
  created = refl;
  replaced = refiled BreadthFirst (8 * slot_words former) 0 (record { expanded = 5; found = 3; cycles = 0; length_limited = false; count_limited = false; waited = 2 }) begun refl;
}

only-file : (f : ℕ) → f < graph_c.files → f ≡ 0
unfolding graph_c
only-file f h = omega (arith, h)

held-before : Holds (file_owners graph_c) former (view_of graph_c) (slots_in former filed_before)
held-before = filed-holds former graph_c (image-accepted symbol_bytes image_c graph_c (unfold check_image graph_c in refl)) filed_before (0 ∷ []) filed_formerly (λ f h. Memᴰ.head (only-file f h)) just-file

converted-c : (convert_database filed_before dirty).answer ≡ Ok tt
unfolding graph_c fresh_call replace_call convert_call
converted-c = refl

held_after : Holds (file_owners graph_c) base (view_of graph_c) (slots_in base filed_after)
held_after = converted-holds former base known_owners filed_before (length dirty) (file_owners graph_c) (view_of graph_c) (omega arith) converted-c held-before

pub premises-converted : Premises symbol_bytes base every_file image_c filed_after asked_c asked_c
unfolding check_image graph_c fresh_call replace_call convert_call direct_call stitched_call seen_image recorded
premises-converted = record {
  graph = graph_c;
  accepted = refl;
  same-reference = refl;
  same-length-limit = refl;
  database-holds = unhidden-premise symbol_bytes base every_file image_c graph_c refl filed_after held_after;
  direct-finished = record { paths = 2; stats = record { expanded = 5; complete = 2; rejected = 0; cycles = 1; length_limited = false; count_limited = false; complete_limited = false; waited = 2 }; answered = refl; uncounted = refl; uncut = refl };
  stitched-finished = record { paths = 1; stats = record { expanded = 4; complete = 2; rejected = 0; cycles = 0; length_limited = false; count_limited = false; complete_limited = false; waited = 2 }; answered = refl; uncounted = refl; uncut = refl };
}

-- THE DAILY REFILING HAS ONE TOO: a database that was filed on C, and then its file replaced on A
filed-c-none : NoAliases (slots_in base (first_filed image_c))
unfolding check_image graph_c
filed-c-none = filed-none base graph_c (image-accepted symbol_bytes image_c graph_c refl) (first_filed image_c) (0 ∷ []) filed_c just-file

refiled_a : Refiled base (ok graph_a) (first_filed image_c) (replacing image_a 0 (first_filed image_c)).database (0 ∷ [])
unfolding check_image first_filed replacing freshly replace_call
refiled_a = refiled BreadthFirst (128 * slot_length) 0 (record { expanded = 8; found = 5; cycles = 0; length_limited = false; count_limited = false; waited = 4 }) begun refl

pub refiling-a : Refiling symbol_bytes base every_file image_a (first_filed image_c) (replacing image_a 0 (first_filed image_c)).database asked_c asked_c
unfolding check_image first_filed replacing freshly fresh_call replace_call direct_call stitched_call seen_image recorded
refiling-a = record {
  graph = graph_a;
  accepted = refl;
  same-reference = refl;
  same-length-limit = refl;
  done = 0 ∷ [];
  replaced = refiled_a;
  every-file = λ f h visible. let z : f ≡ 0 = omega (arith, h) in Memᴰ.head z;
  no-aliases = still-none base graph_a (image-accepted symbol_bytes image_a graph_a refl) refiled_a filed-c-none just-file;
  direct-finished = record { paths = 1; stats = record { expanded = 3; complete = 1; rejected = 1; cycles = 0; length_limited = false; count_limited = false; complete_limited = false; waited = 1 }; answered = refl; uncounted = refl; uncut = refl };
  stitched-finished = record { paths = 1; stats = record { expanded = 4; complete = 2; rejected = 2; cycles = 0; length_limited = false; count_limited = false; complete_limited = false; waited = 2 }; answered = refl; uncounted = refl; uncut = refl };
}

-- ORDER 5 HAS INSTANCES: on C with the alias set, where stitched search records [0 2] and [0 1 2]
abbrev all_c : List ℕ
all_c = aliases_beside image_c (first_filed image_c)

refiled_c : Refiled base (check_image symbol_bytes image_c) (freshly image_c) all_c (nobody ∷ 0 ∷ [])
unfolding check_image freshly first_filed replacing aliases_beside replace_call alias_call
refiled_c = aliased BreadthFirst (128 * slot_length) (record { expanded = 2; found = 1; cycles = 1; length_limited = false; count_limited = false; waited = 1 })
    (refiled BreadthFirst (128 * slot_length) 0 (record { expanded = 5; found = 3; cycles = 0; length_limited = false; count_limited = false; waited = 2 }) begun refl) refl

-- file 0 and the set
both : (f : ℕ) → f < 1 → Memᴰ f (nobody ∷ 0 ∷ [])
both f h = let z : f ≡ 0 = omega (arith, h) in Memᴰ.tail (Memᴰ.head z)

pub alias-premises-c : AliasPremises symbol_bytes base every_file image_c all_c asked_c asked_c
unfolding check_image graph_c first_filed replacing freshly aliases_beside direct_call stitched_call seen_image recorded
alias-premises-c = record {
  graph = graph_c;
  accepted = refl;
  same-reference = refl;
  same-length-limit = refl;
  database-holds = refiled-aliases symbol_bytes base every_file image_c graph_c refl (freshly image_c) all_c (nobody ∷ 0 ∷ []) refiled_c (λ f h visible. both f h) (Memᴰ.head refl);
  direct-finished = record { paths = 2; stats = record { expanded = 5; complete = 2; rejected = 0; cycles = 1; length_limited = false; count_limited = false; complete_limited = false; waited = 2 }; answered = refl; uncounted = refl; uncut = refl };
  stitched-finished = record { paths = 2; stats = record { expanded = 6; complete = 3; rejected = 0; cycles = 1; length_limited = false; count_limited = false; complete_limited = false; waited = 3 }; answered = refl; uncounted = refl; uncut = refl };
}

-- both searches record these two lists
pub recorded-c : (recorded_set base (direct_recorded symbol_bytes base every_file image_c asked_c) ≡ (0 ∷ 2 ∷ []) ∷ (0 ∷ 1 ∷ 2 ∷ []) ∷ [])
    × (recorded_set base (stitched_recorded symbol_bytes base every_file image_c all_c asked_c) ≡ (0 ∷ 2 ∷ []) ∷ (0 ∷ 1 ∷ 2 ∷ []) ∷ [])
unfolding check_image first_filed replacing freshly aliases_beside direct_call stitched_call seen_image recorded lists_in
recorded-c = (refl, refl)

-- on the smallest graph with an edge from root to jump on the way, where the set was replaced before the file
graph_hopping : Graph
graph_hopping =
    record {
      files = 1;
      nodes = N.Root ∷ N.JumpToScope ∷ N.Push (file_id 0) 9 true ∷ N.PushScoped (file_id 0) 7 (node_id 4) false ∷ N.Scope (file_id 0) true ∷ N.PopScoped (file_id 0) 7 false ∷ N.Pop (file_id 0) 9 true ∷ [];
      edges = live 2 3 0 ∷ live 3 5 0 ∷ live 5 0 0 ∷ live 0 1 0 ∷ live 4 6 0 ∷ [];
    }

abbrev all_hopping : List ℕ
all_hopping = (replacing hopping 0 (aliases_beside hopping (freshly hopping))).database

pub refiling-hopping : AliasRefiling symbol_bytes base every_file hopping (freshly hopping) all_hopping asked_c asked_c
unfolding check_image graph_hopping freshly replacing aliases_beside replace_call alias_call direct_call stitched_call seen_image recorded
refiling-hopping = record {
  graph = graph_hopping;
  accepted = refl;
  same-reference = refl;
  same-length-limit = refl;
  done = 0 ∷ nobody ∷ [];
  replaced = refiled BreadthFirst (128 * slot_length) 0 (record { expanded = 7; found = 2; cycles = 0; length_limited = false; count_limited = false; waited = 3 })
      (aliased BreadthFirst (128 * slot_length) (record { expanded = 2; found = 1; cycles = 0; length_limited = false; count_limited = false; waited = 1 }) begun refl) refl;
  every-file = λ f h visible. let z : f ≡ 0 = omega (arith, h) in Memᴰ.head z;
  alias-set = Memᴰ.tail (Memᴰ.head refl);
  direct-finished = record { paths = 1; stats = record { expanded = 6; complete = 1; rejected = 0; cycles = 0; length_limited = false; count_limited = false; complete_limited = false; waited = 1 }; answered = refl; uncounted = refl; uncut = refl };
  stitched-finished = record { paths = 1; stats = record { expanded = 4; complete = 1; rejected = 0; cycles = 0; length_limited = false; count_limited = false; complete_limited = false; waited = 1 }; answered = refl; uncounted = refl; uncut = refl };
}

-- and on A in words that hold the set of C: an empty one takes its place
abbrev set_c : List ℕ
set_c = aliases_beside image_c (freshly image_c)

pub alias-refiling-a : AliasRefiling symbol_bytes base every_file image_a set_c (aliases_beside image_a (replacing image_a 0 set_c).database) asked_c asked_c
unfolding check_image first_filed replacing freshly aliases_beside fresh_call replace_call alias_call direct_call stitched_call seen_image recorded
alias-refiling-a = record {
  graph = graph_a;
  accepted = refl;
  same-reference = refl;
  same-length-limit = refl;
  done = nobody ∷ 0 ∷ [];
  replaced = aliased BreadthFirst (128 * slot_length) (record { expanded = 1; found = 0; cycles = 0; length_limited = false; count_limited = false; waited = 1 })
      (refiled BreadthFirst (128 * slot_length) 0 (record { expanded = 8; found = 5; cycles = 0; length_limited = false; count_limited = false; waited = 4 }) begun refl) refl;
  every-file = λ f h visible. both f h;
  alias-set = Memᴰ.head refl;
  direct-finished = record { paths = 1; stats = record { expanded = 3; complete = 1; rejected = 1; cycles = 0; length_limited = false; count_limited = false; complete_limited = false; waited = 1 }; answered = refl; uncounted = refl; uncut = refl };
  stitched-finished = record { paths = 1; stats = record { expanded = 4; complete = 2; rejected = 2; cycles = 0; length_limited = false; count_limited = false; complete_limited = false; waited = 2 }; answered = refl; uncounted = refl; uncut = refl };
}

-- WHAT IS SAID OF COMPACTION HAS INSTANCES

-- demand 3's premises hold of C after one, and those of order 5
pub premises-compacted : Premises symbol_bytes base every_file image_c (compact_call base known_owners (first_filed image_c) 6).database asked_c asked_c
premises-compacted = compact-premises symbol_bytes base every_file image_c (first_filed image_c) asked_c asked_c 6 premises-c

pub alias-premises-compacted : AliasPremises symbol_bytes base every_file image_c (compact_call base known_owners all_c 8).database asked_c asked_c
alias-premises-compacted = compact-alias-premises symbol_bytes base every_file image_c all_c asked_c asked_c 8 alias-premises-c

-- the file of C is filed twice in 8 slots, its dead slots are dropped, and it is filed again: a database that was filed
abbrev twice_c : List ℕ
twice_c = (replacing image_c 0 (first_filed image_c)).database

abbrev closed_c : List ℕ
closed_c = (compact_call base known_owners twice_c 6).database

abbrev stats_c : PartialPathStats
stats_c = record { expanded = 5; found = 3; cycles = 0; length_limited = false; count_limited = false; waited = 2 }

pub cycle_c : Filed base (check_image symbol_bytes image_c) (replacing image_c 0 closed_c).database (0 ∷ 0 ∷ 0 ∷ [])
unfolding first_filed replacing freshly check_image fresh_call replace_call compact_call
cycle_c = record {
  lent = zeros (3 + 8 * record_length);
  created = refl;
  replaced = refiled BreadthFirst (128 * slot_length) 0 stats_c
      (compacted 6 (refiled BreadthFirst (128 * slot_length) 0 stats_c (refiled BreadthFirst (128 * slot_length) 0 stats_c begun refl) refl)) refl;
}

-- on A, 33 directly after a compaction: 5 live slots and 5 new ones in 8
abbrev again_a : FileRequest
again_a = unlimited BreadthFirst (128 * slot_length) 0

pub full-a : Overfull base (ok graph_a) (of_file base again_a) (first_filed image_a) 5
unfolding first_filed replacing freshly check_image fresh_call replace_call compact_call
full-a = file-full base known_owners (first_filed image_a) 10 5 refl again_a (ok graph_a) refl

-- slot 1 of these words, the first of which is dead, has the new number 0, and a lookup gives its edges 8 and 5
abbrev short : Bounds
short = record { edges = 2; expansions = 9 }

abbrev holed : List ℕ
holed = 2 ∷ 4 ∷ 2 ∷ 0 ∷ 9 ∷ 9 ∷ 9 ∷ 9 ∷ 9 ∷ 1 ∷ 3 ∷ 7 ∷ 2 ∷ 8 ∷ 5 ∷ []

alive : LiveAt short holed 1
unfolding compact_call
alive = record { used = omega arith; alive = refl }

pub moved-one : words_of (lookup_part short known_owners (new_number short 1 holed) (compact_call short known_owners holed 2).database) (compact_call short known_owners holed 2).database ≡ words_of (lookup_part short known_owners 1 holed) holed
unfolding compact_call
moved-one = compact-edges short known_owners holed 2 1 refl 1 alive

-- WHAT IS SAID OF NAMES HAS INSTANCES: on A node 5 has no name, and node 4 has one
abbrev on_a : ℕ → FindRequest
on_a node = name_request None (8 * slot_length) (8 * slot_length) node

pub a-unnamed : (r : ℕ) → is_reference ((view_of graph_a).node r) ≡ true → ((s : State Path) × (search_by base graph_a (on_a 5) r ≡ ok s)) × Unnamed base None (view_of graph_a) 5 r
unfolding find_call view_of
a-unnamed = nothing-answered base graph_a (on_a 5) refl refl refl

pub a-named : (m : Name) × (m.reference ≡ 2) × Lowest base None (view_of graph_a) 4 m
unfolding find_call view_of
a-named = let f = found-answered base graph_a (on_a 4) refl refl 2 refl in (f.0, f.1, f.3)

-- ORDER 8 HAS INSTANCES: what is said of two desks

-- another graph of which rates sees the same as of `tables`: three files, two nodes more, an edge fewer, and other records in every place that is hidden,
-- removed or not there in `tables`
abbrev pub tables_too : List ℕ
tables_too = image_of 3 (reference 0 7 ∷ definition 0 7 ∷ removed_node ∷ reference 1 9 ∷ scope 2 ∷ definition 2 7 ∷ exported 1 ∷ push 2 9 ∷ definition 1 8 ∷ []) (2 ⟶ 0 ∷ removed_edge ∷ 0 ⟶ 3 ∷ 0 ⟶ 0 ∷ 5 ⟶ 0 ∷ 0 ⟶ 10 ∷ 0 ⟶ 7 ∷ 8 ⟶ 10 ∷ [])

graph_tables : Graph
graph_tables =
    record {
      files = 2;
      nodes = N.Root ∷ N.JumpToScope ∷ N.Push (file_id 0) 7 true ∷ N.Pop (file_id 0) 7 true ∷ N.Pop (file_id 1) 7 true ∷ N.Scope (file_id 1) false ∷ N.Push (file_id 1) 7 true ∷ N.Removed ∷ N.Pop (file_id 1) 8 true ∷ [];
      edges = live 2 0 0 ∷ live 0 4 0 ∷ live 0 3 0 ∷ live 0 0 0 ∷ live 0 5 0 ∷ live 6 0 0 ∷ E.Removed ∷ live 0 8 0 ∷ live 5 5 0 ∷ [];
    }

graph_tables_too : Graph
graph_tables_too =
    record {
      files = 3;
      nodes = N.Root ∷ N.JumpToScope ∷ N.Push (file_id 0) 7 true ∷ N.Pop (file_id 0) 7 true ∷ N.Removed ∷ N.Push (file_id 1) 9 true ∷ N.Scope (file_id 2) false ∷ N.Pop (file_id 2) 7 true ∷ N.Scope (file_id 1) true ∷ N.Push (file_id 2) 9 false ∷ N.Pop (file_id 1) 8 true ∷ [];
      edges = live 2 0 0 ∷ E.Removed ∷ live 0 3 0 ∷ live 0 0 0 ∷ live 5 0 0 ∷ live 0 10 0 ∷ live 0 7 0 ∷ live 8 10 0 ∷ [];
    }

-- what stands behind the last record makes no difference where it is as good as none
behind : {A : Type 0} (d : A) (l : List A) (k n : ℕ) → get_or (l ++ replicate k d) n d ≡ get_or l n d
behind d [] zero n = refl
behind d [] (suc k) zero = refl
behind d [] (suc k) (suc n) = behind d [] k n
behind d (x ∷ l) k zero = refl
behind d (x ∷ l) k (suc n) = behind d l k n

padded : {A : Type 0} (d : A) (l m : List A) (j k : ℕ) → l ++ replicate j d ≡ m ++ replicate k d → (n : ℕ) → get_or l n d ≡ get_or m n d
padded d l m j k e n = sym (behind d l j n) ∙ ap (λ x. get_or x n d) e ∙ behind d m k n

pub tables-alike : SameImages symbol_bytes (sees rates) tables tables_too
unfolding check_image graph_tables graph_tables_too view_of seen
tables-alike = record {
  graph = graph_tables;
  graph' = graph_tables_too;
  accepted = refl;
  accepted' = refl;
  desk = record {
    nodes = padded N.Removed (seen (sees rates) graph_tables).nodes (seen (sees rates) graph_tables_too).nodes 2 0 refl;
    edges = padded E.Removed (seen (sees rates) graph_tables).edges (seen (sees rates) graph_tables_too).edges 0 1 refl;
  };
}

-- the slots of `filed` that rates sees among others: another number of them used, dead ones, those of hidden files and one with another end, which plays no part
abbrev filed_too : List ℕ
filed_too = database_of 7 11 3 (held 3 0 7 (6 ∷ []) ∷ held 1 2 0 (0 ∷ []) ∷ held 0 0 0 [] ∷ held 2 5 0 (4 ∷ []) ∷ held 1 0 8 (2 ∷ []) ∷ held 3 0 3 (2 ∷ []) ∷ held 65535 0 0 (3 ∷ []) ∷ [])

pub filings-alike : SameDatabases base known_owners (sees rates) tables-alike.graph tables-alike.graph' filed filed_too
unfolding tables-alike graph_tables graph_tables_too check_database pieces seen_slot
filings-alike = record { slots = slots_in base filed; slots' = slots_in base filed_too; passed = refl; passed' = refl; visible = refl }

-- so rates is told the same of both
pub told-alike : (direct_search recorded tables rates 2 BreadthFirst unhindered (zeros (3 * slot_length)) (zeros (3 * slot_length)) ≡ direct_search recorded tables_too rates 2 BreadthFirst unhindered (zeros (3 * slot_length)) (zeros (3 * slot_length)))
    × (linear_search recorded tables rates 2 unhindered (zeros (3 * slot_length)) ≡ linear_search recorded tables_too rates 2 unhindered (zeros (3 * slot_length)))
    × (stitched_search recorded tables rates filed 2 BreadthFirst unhindered (zeros (3 * slot_length)) (zeros (3 * slot_length)) ≡ stitched_search recorded tables_too rates filed_too 2 BreadthFirst unhindered (zeros (3 * slot_length)) (zeros (3 * slot_length)))
    × (find_name tables rates 3 None (zeros (3 * slot_length)) (zeros (3 * slot_length)) ≡ find_name tables_too rates 3 None (zeros (3 * slot_length)) (zeros (3 * slot_length)))
told-alike = (
  desks-direct rates tables tables_too tables-alike recorded 2 BreadthFirst unhindered (zeros (3 * slot_length)) (zeros (3 * slot_length)),
  desks-linear rates tables tables_too tables-alike recorded 2 unhindered (zeros (3 * slot_length)),
  desks-stitched rates tables tables_too tables-alike filed filed_too filings-alike recorded 2 BreadthFirst unhindered (zeros (3 * slot_length)) (zeros (3 * slot_length)),
  desks-name rates tables tables_too tables-alike 3 None (zeros (3 * slot_length)) (zeros (3 * slot_length)),
)

-- DEMAND 3 WITH A HIDDEN FILE: of `tables` the file of rates alone was filed into a fresh database, and rates asks
only-visible : (f : ℕ) → f < graph_tables.files → sees rates f ≡ true → f ≡ 0
unfolding graph_tables
only-visible zero h visible = refl
only-visible (suc zero) h visible = absurd (false≢true visible)
only-visible (suc (suc f)) h visible = absurd (omega (arith, h))

filed_rates : Filed base (check_image symbol_bytes tables) (first_filed tables) (0 ∷ [])
unfolding first_filed replacing freshly check_image fresh_call replace_call
filed_rates = record {
  lent = zeros (3 + 8 * record_length);
  created = refl;
  replaced = refiled BreadthFirst (128 * slot_length) 0 (record { expanded = 5; found = 3; cycles = 0; length_limited = false; count_limited = false; waited = 2 }) begun refl;
}

pub premises-rates : Premises symbol_bytes base (sees rates) tables (first_filed tables) asked_c asked_c
unfolding check_image graph_tables first_filed replacing freshly direct_call stitched_call seen_image recorded
premises-rates = record {
  graph = graph_tables;
  accepted = refl;
  same-reference = refl;
  same-length-limit = refl;
  database-holds = filed-premise symbol_bytes base (sees rates) tables graph_tables refl (first_filed tables) (0 ∷ []) filed_rates (λ f h visible. Memᴰ.head (only-visible f h visible)) just-file;
  direct-finished = record { paths = 2; stats = record { expanded = 5; complete = 2; rejected = 0; cycles = 1; length_limited = false; count_limited = false; complete_limited = false; waited = 2 }; answered = refl; uncounted = refl; uncut = refl };
  stitched-finished = record { paths = 1; stats = record { expanded = 4; complete = 2; rejected = 0; cycles = 0; length_limited = false; count_limited = false; complete_limited = false; waited = 2 }; answered = refl; uncounted = refl; uncut = refl };
}

-- in words whose one slot of the hidden file names an edge of rates and one that there is none of
abbrev stale_credit : List ℕ
stale_credit = database_of 1 9 2 (held 2 0 3 (2 ∷ 9 ∷ []) ∷ zeros (7 * record_length) ∷ [])

refiled_rates : Refiled base (check_image symbol_bytes tables) stale_credit (replacing tables 0 stale_credit).database (0 ∷ [])
unfolding check_image replacing replace_call
refiled_rates = refiled BreadthFirst (128 * slot_length) 0 (record { expanded = 5; found = 3; cycles = 0; length_limited = false; count_limited = false; waited = 2 }) begun refl

credit-alone : NoAliases (slots_in base stale_credit)
unfolding slots_in
credit-alone s t es m = ⊎_elim (λ (e : slot nobody s t es ≡ slot 1 0 3 (2 ∷ 9 ∷ [])). absurd (let z : ◌≡◌ {A = ℕ} 65534 1 = cc in omega (arith, z))) Memᴰ.not-nil (Memᴰ.cases_cons m)

pub refiling-rates : Refiling symbol_bytes base (sees rates) tables stale_credit (replacing tables 0 stale_credit).database asked_c asked_c
unfolding check_image graph_tables replacing replace_call direct_call stitched_call seen_image recorded
refiling-rates = record {
  graph = graph_tables;
  accepted = refl;
  same-reference = refl;
  same-length-limit = refl;
  done = 0 ∷ [];
  replaced = refiled_rates;
  every-file = λ f h visible. Memᴰ.head (only-visible f h visible);
  no-aliases = still-none base graph_tables (image-accepted symbol_bytes tables graph_tables refl) refiled_rates credit-alone just-file;
  direct-finished = record { paths = 2; stats = record { expanded = 5; complete = 2; rejected = 0; cycles = 1; length_limited = false; count_limited = false; complete_limited = false; waited = 2 }; answered = refl; uncounted = refl; uncut = refl };
  stitched-finished = record { paths = 1; stats = record { expanded = 4; complete = 2; rejected = 0; cycles = 0; length_limited = false; count_limited = false; complete_limited = false; waited = 2 }; answered = refl; uncounted = refl; uncut = refl };
}

-- and order 5, with the alias set beside them: both searches record what rates sees, [0 2] and [0 3 2]
abbrev all_rates : List ℕ
all_rates = aliases_beside tables (replacing tables 0 stale_credit).database

pub alias-refiling-rates : AliasRefiling symbol_bytes base (sees rates) tables stale_credit all_rates asked_c asked_c
unfolding check_image graph_tables replacing aliases_beside replace_call alias_call direct_call stitched_call seen_image recorded
alias-refiling-rates = record {
  graph = graph_tables;
  accepted = refl;
  same-reference = refl;
  same-length-limit = refl;
  done = nobody ∷ 0 ∷ [];
  replaced = aliased BreadthFirst (128 * slot_length) (record { expanded = 2; found = 1; cycles = 1; length_limited = false; count_limited = false; waited = 1 })
      (refiled BreadthFirst (128 * slot_length) 0 (record { expanded = 5; found = 3; cycles = 0; length_limited = false; count_limited = false; waited = 2 }) begun refl) refl;
  every-file = λ f h visible. Memᴰ.tail (Memᴰ.head (only-visible f h visible));
  alias-set = Memᴰ.head refl;
  direct-finished = record { paths = 2; stats = record { expanded = 5; complete = 2; rejected = 0; cycles = 1; length_limited = false; count_limited = false; complete_limited = false; waited = 2 }; answered = refl; uncounted = refl; uncut = refl };
  stitched-finished = record { paths = 2; stats = record { expanded = 6; complete = 3; rejected = 0; cycles = 1; length_limited = false; count_limited = false; complete_limited = false; waited = 3 }; answered = refl; uncounted = refl; uncut = refl };
}

pub recorded-rates : (recorded_set base (direct_recorded symbol_bytes base (sees rates) tables asked_c) ≡ (0 ∷ 2 ∷ []) ∷ (0 ∷ 3 ∷ 2 ∷ []) ∷ [])
    × (recorded_set base (stitched_recorded symbol_bytes base (sees rates) tables all_rates asked_c) ≡ (0 ∷ 2 ∷ []) ∷ (0 ∷ 3 ∷ 2 ∷ []) ∷ [])
unfolding check_image replacing aliases_beside direct_call stitched_call seen_image recorded lists_in
recorded-rates = (refl, refl)
