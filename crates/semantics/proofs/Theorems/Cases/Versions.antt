-- Version 2: what its bytes decode to, the sizes that the versions may have, the rewrites there and back as bytes, their refusals in their order, and searches
-- by symbols that differ in the high half alone. Document 02, order 3. Shows too that the premises of its theorems can be met.
use Rattle.std.specs.Prelude.{ℕ, ◌-◌, ◌≡◌, refl, true, false, List, [], ◌∷◌, ◌++◌, map, set, take, replicate, pos, None, Err, Ok}
use Rattle.std.proofs.Common.{arith}
use Rattle.semantics.specs.declared.graph.Node.TheVariants as N
use Rattle.semantics.specs.declared.graph.Edge.TheVariants as E
use Rattle.semantics.specs.declared.refusal.ImageRefusal.{ImageRefusal}
use Rattle.semantics.specs.declared.refusal.ImageRefusal.TheVariants as Image
use Rattle.semantics.specs.declared.search.SearchOrder.TheVariants.{BreadthFirst}
use Rattle.semantics.specs.Answer.{Answer, ok}
use Rattle.semantics.specs.Graph.{node_id, file_id, Graph}
use Rattle.semantics.specs.Told.{told_rewriting}
use Rattle.semantics.specs.Words.{zeros}
use Rattle.semantics.specs.Bytes.Written.{be, AllBytes, bytes-test}
use Rattle.semantics.specs.Image.{symbol_bytes, check_image}
use Rattle.semantics.specs.Rewriting.{Rewritten, rewrite_call, widen, narrow}
use Rattle.semantics.proofs.Theorems.Rewriting.Laws.{Alike, undo-1, undo-2, same-searches}
use Rattle.semantics.specs.Cases.Rows.{Row, ◌gives◌, Agreed, refused, returned◌expanded◌complete◌rejected◌cycles◌flags◌paths◌, no_flag}
use Rattle.semantics.specs.Cases.Graphs.{image_a, image_d}
use Rattle.semantics.specs.Cases.Asked.{checking, replaying, replayed, searching}
use Rattle.semantics.specs.declared.answer.RewritingRefusal.{RewritingRefusal}

-- A in version 2: a record to a line
abbrev image_a2 : List ℕ
image_a2 =
    2 ∷ 0 ∷ 0 ∷ 0 ∷ 84 ∷ 0 ∷ 1 ∷ 0 ∷ 6 ∷ 0 ∷ 3
    ∷ 1 ∷ 1
    ∷ 1 ∷ 2
    ∷ 12 ∷ 4 ∷ 0 ∷ 0 ∷ 0 ∷ 0 ∷ 0 ∷ 0 ∷ 0 ∷ 0 ∷ 0 ∷ 7 ∷ 1
    ∷ 4 ∷ 3 ∷ 0 ∷ 0 ∷ 1
    ∷ 12 ∷ 5 ∷ 0 ∷ 0 ∷ 0 ∷ 0 ∷ 0 ∷ 0 ∷ 0 ∷ 0 ∷ 0 ∷ 7 ∷ 1
    ∷ 12 ∷ 5 ∷ 0 ∷ 0 ∷ 0 ∷ 0 ∷ 0 ∷ 0 ∷ 0 ∷ 0 ∷ 0 ∷ 8 ∷ 1
    ∷ 9 ∷ 1 ∷ 0 ∷ 2 ∷ 0 ∷ 3 ∷ 0 ∷ 0 ∷ 0 ∷ 0
    ∷ 9 ∷ 1 ∷ 0 ∷ 3 ∷ 0 ∷ 4 ∷ 0 ∷ 0 ∷ 0 ∷ 0
    ∷ 9 ∷ 1 ∷ 0 ∷ 3 ∷ 0 ∷ 5 ∷ 0 ∷ 0 ∷ 0 ∷ 1
    ∷ []

-- removed records of both sorts, drop-scopes, and a precedence of -1
abbrev image_r : List ℕ
image_r =
    1 ∷ 0 ∷ 0 ∷ 0 ∷ 37 ∷ 0 ∷ 1 ∷ 0 ∷ 5 ∷ 0 ∷ 2
    ∷ 1 ∷ 1
    ∷ 1 ∷ 2
    ∷ 1 ∷ 0
    ∷ 3 ∷ 8 ∷ 0 ∷ 0
    ∷ 8 ∷ 4 ∷ 0 ∷ 0 ∷ 255 ∷ 255 ∷ 255 ∷ 255 ∷ 1
    ∷ 1 ∷ 0
    ∷ 9 ∷ 1 ∷ 0 ∷ 4 ∷ 0 ∷ 3 ∷ 255 ∷ 255 ∷ 255 ∷ 255
    ∷ []

abbrev image_r2 : List ℕ
image_r2 =
    2 ∷ 0 ∷ 0 ∷ 0 ∷ 41 ∷ 0 ∷ 1 ∷ 0 ∷ 5 ∷ 0 ∷ 2
    ∷ 1 ∷ 1
    ∷ 1 ∷ 2
    ∷ 1 ∷ 0
    ∷ 3 ∷ 8 ∷ 0 ∷ 0
    ∷ 12 ∷ 4 ∷ 0 ∷ 0 ∷ 0 ∷ 0 ∷ 0 ∷ 0 ∷ 255 ∷ 255 ∷ 255 ∷ 255 ∷ 1
    ∷ 1 ∷ 0
    ∷ 9 ∷ 1 ∷ 0 ∷ 4 ∷ 0 ∷ 3 ∷ 255 ∷ 255 ∷ 255 ∷ 255
    ∷ []

-- every kind with a symbol, of eight bytes that all differ; the attached scope stands behind them
abbrev wide_symbols : List ℕ
wide_symbols =
    2 ∷ 0 ∷ 0 ∷ 0 ∷ 69 ∷ 0 ∷ 1 ∷ 0 ∷ 7 ∷ 0 ∷ 0
    ∷ 1 ∷ 1
    ∷ 1 ∷ 2
    ∷ 12 ∷ 4 ∷ 0 ∷ 0 ∷ 1 ∷ 2 ∷ 3 ∷ 4 ∷ 5 ∷ 6 ∷ 7 ∷ 8 ∷ 1
    ∷ 4 ∷ 3 ∷ 0 ∷ 0 ∷ 1
    ∷ 14 ∷ 6 ∷ 0 ∷ 0 ∷ 255 ∷ 255 ∷ 255 ∷ 255 ∷ 255 ∷ 255 ∷ 255 ∷ 255 ∷ 0 ∷ 3 ∷ 0
    ∷ 12 ∷ 5 ∷ 0 ∷ 0 ∷ 0 ∷ 0 ∷ 0 ∷ 1 ∷ 0 ∷ 0 ∷ 0 ∷ 0 ∷ 1
    ∷ 12 ∷ 7 ∷ 0 ∷ 0 ∷ 0 ∷ 0 ∷ 0 ∷ 0 ∷ 255 ∷ 255 ∷ 255 ∷ 255 ∷ 0
    ∷ []

abbrev wide_symbols_of : Graph
wide_symbols_of =
    record {
      files = 1;
      nodes =
          N.Root
          ∷ N.JumpToScope
          ∷ N.Push (file_id 0) 72623859790382856 true
          ∷ N.Scope (file_id 0) true
          ∷ N.PushScoped (file_id 0) 18446744073709551615 (node_id 3) false
          ∷ N.Pop (file_id 0) 4294967296 true
          ∷ N.PopScoped (file_id 0) 4294967295 false
          ∷ [];
      edges = [];
    }

pub decoded : List (Row (Answer ImageRefusal Graph))
unfolding check_image
decoded =
    (check_image symbol_bytes wide_symbols gives ok wide_symbols_of)
    -- one graph in both versions
    ∷ (check_image symbol_bytes image_a2 gives check_image symbol_bytes image_a)
    ∷ []

pub decoded-cases : Agreed decoded
unfolding decoded
decoded-cases = refl

-- HOW MANY BYTES A VERSION MAY HAVE: an image of n bytes that is nothing but a version and a length, so that N under 2 is the next thing wrong
sized : ℕ → ℕ → List ℕ
unfolding be checking
sized v n = checking (v ∷ (be 4 (n - 5) ++ zeros (n - 5)))

pub checks : List (Row (List ℕ))
unfolding sized checking
checks =
    -- the size before the version, and the version before its size; 63,498 to 63,500 in version 1 and in one that there is not
    (sized 1 63498 gives 3 ∷ [])
    ∷ (sized 1 63499 gives 3 ∷ [])
    ∷ (sized 1 63500 gives 2 ∷ [])
    ∷ (sized 3 63500 gives 1 ∷ [])
    -- 65,535 to 65,537 in version 2, in version 1 and in one that there is not
    ∷ (sized 2 65535 gives 3 ∷ [])
    ∷ (sized 2 65536 gives 3 ∷ [])
    ∷ (sized 2 65537 gives 2 ∷ [])
    ∷ (sized 1 65537 gives 2 ∷ [])
    ∷ (sized 3 65536 gives 1 ∷ [])
    ∷ (sized 3 65537 gives 2 ∷ [])
    -- version 0, and version 1's records called version 2's: the count of node 2
    ∷ (sized 0 63499 gives 1 ∷ [])
    ∷ (checking (set image_a 0 2) gives 2 ∷ [])
    ∷ (checking (set image_a2 0 1) gives 2 ∷ [])
    -- version 2's length, and the flag behind a symbol of eight bytes
    ∷ (checking (set image_a2 4 83) gives 2 ∷ [])
    ∷ (checking (set image_a2 27 2) gives 4 ∷ 15 ∷ [])
    -- the scope of kind 6, by its low and its high byte; version 1's place for it is inside the symbol
    ∷ (checking (set wide_symbols 46 2) gives 5 ∷ 33 ∷ [])
    ∷ (checking (set wide_symbols 45 1) gives 5 ∷ 33 ∷ [])
    ∷ (checking (set wide_symbols 42 9) gives 0 ∷ 1 ∷ 7 ∷ 0 ∷ [])
    ∷ []

pub check-cases : Agreed checks
unfolding checks
check-cases = refl

-- SYMBOLS THAT DIFFER IN THE HIGH HALF ALONE: A in version 2 with 2^32 + 7 pushed, and popped by the last definition in the place of 8
abbrev pub image_high : List ℕ
image_high = set (set (set image_a2 22 1) 53 1) 57 7

pub searches : List (Row (List (List ℕ)))
unfolding searching
searches =
    -- the starred row of A
    (searching BreadthFirst None None None image_a2 gives searching BreadthFirst None None None image_a)
    -- the other definition, though the low halves of both are what is pushed
    ∷ (searching BreadthFirst None None None image_high gives returned 1 expanded 3 complete 1 rejected 1 cycles 0 flags no_flag paths (0 ∷ 2 ∷ []) ∷ [])
    -- the judgement by itself, and the symbol that a path holds
    ∷ (replaying image_high 2 (0 ∷ 1 ∷ []) ∷ [] gives refused (15 ∷ 4 ∷ []))
    ∷ (map (λ x. x.symbol ∷ []) (replayed image_high 2 (0 ∷ [])).symbols gives (4294967303 ∷ []) ∷ [])
    ∷ []

pub search-cases : Agreed searches
unfolding searches replaying replayed
search-cases = refl

-- THERE AND BACK, with eleven bytes and with none behind
pub rewritten : List (Row Rewritten)
unfolding check_image rewrite_call
rewritten =
    (widen image_a 100 gives record { answer = Ok 89; bytes = image_a2 ++ zeros 11 })
    ∷ (narrow image_a2 77 gives record { answer = Ok 77; bytes = image_a })
    ∷ (widen image_r 46 gives record { answer = Ok 46; bytes = image_r2 })
    ∷ (narrow image_r2 43 gives record { answer = Ok 42; bytes = image_r ++ zeros 1 })
    ∷ (narrow (take 124 (widen image_d 130).bytes) 108 gives record { answer = Ok 108; bytes = image_d })
    -- refused: no byte is left
    ∷ (widen image_a 88 gives record { answer = Err RewritingRefusal.NoRoom; bytes = zeros 88 })
    ∷ (narrow (set image_a2 40 1) 80 gives record { answer = Err (RewritingRefusal.WideSymbol 33); bytes = zeros 80 })
    ∷ (narrow image_a 3 gives record { answer = Err (RewritingRefusal.Image Image.Version); bytes = zeros 3 })
    ∷ []

pub rewritten-cases : Agreed rewritten
unfolding rewritten
rewritten-cases = refl

-- THE PREMISES of the theorems are met
bytes-a : AllBytes image_a
bytes-a = bytes-test image_a refl

bytes-a2 : AllBytes image_a2
bytes-a2 = bytes-test image_a2 refl

done-a : (widen image_a 100).answer ≡ Ok 89
unfolding check_image rewrite_call
done-a = refl

done-a2 : (narrow image_a2 77).answer ≡ Ok 77
unfolding check_image rewrite_call
done-a2 = refl

pub undo-a : narrow (take 89 (widen image_a 100).bytes) 80 ≡ record { answer = Ok 77; bytes = image_a ++ zeros 3 }
undo-a = undo-1 image_a 100 89 80 bytes-a done-a (omega arith)

pub undo-a2 : widen (take 77 (narrow image_a2 77).bytes) 89 ≡ record { answer = Ok 89; bytes = image_a2 ++ [] }
undo-a2 = undo-2 image_a2 77 77 89 bytes-a2 done-a2 (omega arith)

pub alike-a : Alike (check_image symbol_bytes (take 89 (widen image_a 100).bytes)) (check_image symbol_bytes image_a)
alike-a = same-searches image_a 100 89 bytes-a done-a

-- THE REFUSALS OF THE REWRITES, mostly two things wrong in a row, the earlier one answered
told : Rewritten → List ℕ
told o = told_rewriting o.answer

pub refusals : List (Row (List ℕ))
unfolding told check_image rewrite_call be
refusals =
    -- already in the wanted version: 1, before 32
    (told (widen image_a2 0) gives 1 ∷ [])
    ∷ (told (narrow image_a 0) gives 1 ∷ [])
    -- size and length before it, also where the version has a size of its own; the counts behind it
    ∷ (told (narrow (set image_a 4 71) 77) gives 2 ∷ [])
    ∷ (told (narrow (1 ∷ (be 4 63495 ++ zeros 63495)) 0) gives 1 ∷ [])
    ∷ (told (widen (1 ∷ (be 4 63495 ++ zeros 63495)) 0) gives 2 ∷ [])
    ∷ (told (narrow (set image_a 5 2) 77) gives 1 ∷ [])
    -- 38 with the place in the given image; the first of two, before 32; 2^32 - 1 fits, 2^32 does not
    ∷ (told (narrow (set image_a2 40 1) 77) gives 38 ∷ 33 ∷ [])
    ∷ (told (narrow (set (set image_a2 50 1) 40 1) 0) gives 38 ∷ 33 ∷ [])
    ∷ (told (narrow (set (set (set (set image_a2 41 255) 42 255) 43 255) 44 255) 77) gives 0 ∷ 77 ∷ [])
    ∷ (told (narrow (set (set image_a2 40 1) 44 0) 77) gives 38 ∷ 33 ∷ [])
    -- 32 for one byte too few
    ∷ (told (narrow image_a2 76) gives 32 ∷ [])
    ∷ (told (widen image_a 88) gives 32 ∷ [])
    -- the image's own refusals before 38: 3; 5; the last byte of a precedence is free to be 9
    ∷ (told (narrow (set (set image_a2 40 1) 5 2) 77) gives 3 ∷ [])
    ∷ (told (narrow (set (set image_a2 40 1) 82 6) 77) gives 5 ∷ 79 ∷ [])
    ∷ (told (narrow (set (set image_a2 40 1) 88 9) 77) gives 38 ∷ 33 ∷ [])
    ∷ []

pub refusal-cases : Agreed refusals
unfolding refusals
refusal-cases = refl

-- A RESULT THAT IS TOO LONG: as many symbols and edges as an image may have, 63,475 bytes in version 1 and 71,655 in version 2
pub large : Graph
large =
    record {
      files = 1;
      nodes = N.Root ∷ N.JumpToScope ∷ N.Scope (file_id 0) true ∷ replicate 2045 (N.PushScoped (file_id 0) 7 (node_id 2) true);
      edges = replicate 4096 (E.Live (node_id 2) (node_id 2) (pos 0));
    }

-- 2, before 32
pub long-case : rewrite_call 2 8 (ok large) [] 0 ≡ record { answer = Err (RewritingRefusal.Image Image.Length); bytes = [] }
unfolding large rewrite_call
long-case = refl
