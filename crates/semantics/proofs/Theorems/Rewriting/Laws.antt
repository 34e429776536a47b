-- The rewrites undo each other byte for byte, the rewritten image is accepted with the same graph, and every call answers the same on both.
-- Document 02, order 3.
use Rattle.std.specs.Prelude.{ℕ, zero, suc, ◌+◌, ◌-◌, ◌*◌, ◌≤◌, ◌<◌, ◌≡◌, refl, Bool, true, false, List, [], ◌∷◌, ◌++◌, eqb, ltb, length, get_or, take, Err, Ok}
use Rattle.std.proofs.Common.{arith, sym, ◌∙◌, ap, ap₂, subst, true≢false, ltb→lt, lt→ltb, length-append}
use Rattle.std.proofs.lemmas.Bool.{false≢true}
use Rattle.std.proofs.Math.Option.{Option, none, some}
use Rattle.std.proofs.lemmas.List.{length-replicate}
use Rattle.std.proofs.Math.Seq.{take-append_seam}
use Rattle.semantics.specs.declared.graph.Node.{Node}
use Rattle.semantics.specs.declared.graph.Node.TheVariants as N
use Rattle.semantics.specs.declared.refusal.ImageRefusal.{ImageRefusal}
use Rattle.semantics.specs.declared.refusal.ImageRefusal.TheVariants as Image
use Rattle.semantics.specs.Lists.{pick, and}
use Rattle.semantics.specs.Lists.Laws.{T→eq, eq→T, eqb_same, eqb-true, bool_false, and-true}
use Rattle.semantics.specs.Answer.{Answer, ok, refuse}
use Rattle.semantics.specs.Told.{told_rewriting}
use Rattle.semantics.specs.Bytes.{byte_at}
use Rattle.semantics.specs.Bytes.Written.{AllBytes}
use Rattle.semantics.specs.Graph.{Graph}
use Rattle.semantics.specs.Image.{symbol_bytes, only, most_bytes, first_record, next_place, place_of, header, check_with, check_image}
use Rattle.semantics.proofs.Theorems.Image.Laws.{ltb-le, image-accepted}
use Rattle.semantics.specs.Image.Encoding.{encode_image, symbols_in, symbol_fits, symbols_fit, Writable}
use Rattle.semantics.specs.Image.Encoding.Laws.{encoded-wider, encoded-bytes, symbols-more}
use Rattle.semantics.proofs.Theorems.Image.NoFreeBytes.{image-sized, no-free-bytes, image-writable}
use Rattle.semantics.proofs.Theorems.Image.Reading.{encoded-read, back_fits}
use Rattle.semantics.specs.Words.{zeros}
use Rattle.semantics.specs.Limits.{Bounds}
use Rattle.semantics.specs.Path.{Path}
use Rattle.semantics.specs.Enumeration.{State}
use Rattle.semantics.specs.Hidden.{seen_image}
use Rattle.semantics.specs.Calls.{Request, LinearRequest, FileRequest, check_call, replay_call, complete_call, shadows_call, direct_call, linear_call, stitched_call, fresh_call, replace_call, alias_call}
use Rattle.semantics.specs.Finding.{FindRequest, find_call}
use Rattle.semantics.proofs.Theorems.Calls.Refused.{IsRefused}
use Rattle.semantics.specs.Rewriting.{Rewritten, refused_bytes, first_wide, written, written_unless, rewrite_call, rewrite_as, widen, narrow}
use Rattle.semantics.specs.PublicAnswers.{Rewriting}
use Rattle.semantics.specs.declared.answer.RewritingRefusal.{RewritingRefusal}

-- ANSWERS THAT DIFFER
done-image : (n : ℕ) (r : ImageRefusal) → Err (RewritingRefusal.Image r) ≡ Ok n → ⊥
done-image n r e = let z : ◌≡◌ {A = Bool} true false = cc in true≢false z

done-wide : (n p : ℕ) → Err (RewritingRefusal.WideSymbol p) ≡ Ok n → ⊥
done-wide n p e = let z : ◌≡◌ {A = Bool} true false = cc in true≢false z

done-room : (n : ℕ) → (Err RewritingRefusal.NoRoom) ≡ Ok n → ⊥
done-room n e = let z : ◌≡◌ {A = Bool} true false = cc in true≢false z

done_inj : (m n : ℕ) → ◌≡◌ {A = Rewriting} (Ok m) (Ok n) → m ≡ n
done_inj m n e = cc

-- 38: no record is named exactly where every symbol fits
pub wide-none : (w : ℕ) (im : List ℕ) (at : ℕ) (ns : List Node) → symbols_fit w ns ≡ true → first_wide w im at ns ≡ none
unfolding first_wide
wide-none w im at [] h = refl
wide-none w im at (n ∷ ns) h = let a = and-true (symbol_fits w n) (symbols_fit w ns) h in ap (λ (b : Bool). pick b (first_wide w im (next_place im at) ns) (some at)) a.0 ∙ wide-none w im (next_place im at) ns a.1

some-none : (p : ℕ) → some p ≡ none → ⊥
some-none p e = let z : ◌≡◌ {A = Bool} true false = cc in true≢false z

pub none-wide : (w : ℕ) (im : List ℕ) (at : ℕ) (ns : List Node) → first_wide w im at ns ≡ none → symbols_fit w ns ≡ true
unfolding first_wide
none-wide w im at [] h = refl
none-wide w im at (n ∷ ns) h = on (λ k. none-wide w im (next_place im at) ns k) (symbol_fits w n) refl h
  where
    on : (first_wide w im (next_place im at) ns ≡ none → symbols_fit w ns ≡ true) → (b : Bool) → symbol_fits w n ≡ b → pick b (first_wide w im (next_place im at) ns) (some at) ≡ none → and (symbol_fits w n) (symbols_fit w ns) ≡ true
    on ih true q k = rw q (ih k)
    on ih false q k = absurd (some-none at k)

-- the named place is that of the first record whose symbol does not fit
pub record First (w : ℕ) (im : List ℕ) (at : ℕ) (ns : List Node) (place : ℕ) : Type 0 where
  pub number : ℕ
  pub there : place ≡ place_of im at number
  pub inside : number < length ns
  pub wide : symbol_fits w (get_or ns number N.Removed) ≡ false
  pub earlier : (j : ℕ) → j < number → symbol_fits w (get_or ns j N.Removed) ≡ true

some_inj : (p q : ℕ) → some p ≡ some q → p ≡ q
some_inj p q e = cc

pub wide-first : (w : ℕ) (im : List ℕ) (at : ℕ) (ns : List Node) (place : ℕ) → first_wide w im at ns ≡ some place → First w im at ns place
unfolding first_wide place_of
wide-first w im at [] place h = absurd (some-none place (sym h))
wide-first w im at (n ∷ ns) place h = on (λ k. wide-first w im (next_place im at) ns place k) (symbol_fits w n) refl h
  where
    below : symbol_fits w n ≡ true → (r : First w im (next_place im at) ns place) (j : ℕ) → j < suc r.number → symbol_fits w (get_or (n ∷ ns) j N.Removed) ≡ true
    below q r zero l = q
    below q r (suc j) l = r.earlier j (omega (arith, l))

    on : (first_wide w im (next_place im at) ns ≡ some place → First w im (next_place im at) ns place) → (b : Bool) → symbol_fits w n ≡ b → pick b (first_wide w im (next_place im at) ns) (some at) ≡ some place → First w im at (n ∷ ns) place
    on ih true q k =
        let r = ih k in
        record { number = suc r.number; there = r.there; inside = let z = r.inside in omega (arith, z); wide = r.wide; earlier = below q r }
    on ih false q k = record { number = 0; there = sym (some_inj at place k); inside = omega arith; wide = q; earlier = λ j l. absurd (omega (arith, l)) }

-- A REWRITE THAT IS DONE
pub record Did (v w : ℕ) (g : Graph) (len n : ℕ) (o : Rewritten) : Type 0 where
  pub symbols : symbols_fit w g.nodes ≡ true
  pub short : length (encode_image v w g) ≤ most_bytes v
  pub room : length (encode_image v w g) ≤ len
  pub size : n ≡ length (encode_image v w g)
  pub bytes : o.bytes ≡ encode_image v w g ++ zeros (len - n)

pub rewrite-did : (v w : ℕ) (g : Graph) (im : List ℕ) (len n : ℕ) → (rewrite_call v w (ok g) im len).answer ≡ Ok n → Did v w g len n (rewrite_call v w (ok g) im len)
unfolding rewrite_call written_unless written
rewrite-did v w g im len n e = on (first_wide w im first_record g.nodes) refl e
  where
    out : List ℕ
    out = encode_image v w g

    third : symbols_fit w g.nodes ≡ true → length out ≤ most_bytes v → (b : Bool) → ltb len (length out) ≡ b
        → (pick b (refused_bytes len (Err RewritingRefusal.NoRoom)) (record { answer = Ok (length out); bytes = out ++ zeros (len - length out) })).answer ≡ Ok n
        → Did v w g len n (pick b (refused_bytes len (Err RewritingRefusal.NoRoom)) (record { answer = Ok (length out); bytes = out ++ zeros (len - length out) }))
    third s m true q k = absurd (done-room n k)
    third s m false q k = let z = done_inj (length out) n k in record { symbols = s; short = m; room = ltb-le len (length out) q; size = sym z; bytes = ap (λ (x : ℕ). out ++ zeros (len - x)) z }

    second : symbols_fit w g.nodes ≡ true → (b : Bool) → ltb (most_bytes v) (length out) ≡ b
        → (pick b (refused_bytes len (Err (RewritingRefusal.Image Image.Length))) (pick (ltb len (length out)) (refused_bytes len (Err RewritingRefusal.NoRoom)) (record { answer = Ok (length out); bytes = out ++ zeros (len - length out) }))).answer ≡ Ok n
        → Did v w g len n (pick b (refused_bytes len (Err (RewritingRefusal.Image Image.Length))) (pick (ltb len (length out)) (refused_bytes len (Err RewritingRefusal.NoRoom)) (record { answer = Ok (length out); bytes = out ++ zeros (len - length out) })))
    second s true q k = absurd (done-image n Image.Length k)
    second s false q k = third s (ltb-le (most_bytes v) (length out) q) (ltb len (length out)) refl k

    on : (o : Option ℕ) → first_wide w im first_record g.nodes ≡ o → (written_unless o (most_bytes v) out len).answer ≡ Ok n → Did v w g len n (written_unless o (most_bytes v) out len)
    on none q k = second (none-wide w im first_record g.nodes q) (ltb (most_bytes v) (length out)) refl k
    on (some p) q k = absurd (done-wide n p k)

not-under : (m n : ℕ) → n ≤ m → ltb m n ≡ false
not-under m n h = bool_false (ltb m n) (λ q. let y = ltb→lt m n (eq→T (ltb m n) q) in omega (arith, y, h))

pub rewrite-does : (v w : ℕ) (g : Graph) (im : List ℕ) (len : ℕ) → symbols_fit w g.nodes ≡ true → length (encode_image v w g) ≤ most_bytes v → length (encode_image v w g) ≤ len
    → rewrite_call v w (ok g) im len ≡ record { answer = Ok (length (encode_image v w g)); bytes = encode_image v w g ++ zeros (len - length (encode_image v w g)) }
unfolding rewrite_call written_unless written
rewrite-does v w g im len s m h =
    ap (λ (o : Option ℕ). written_unless o (most_bytes v) (encode_image v w g) len) (wide-none w im first_record g.nodes s)
    ∙ rw (not-under (most_bytes v) (length (encode_image v w g)) m, not-under len (length (encode_image v w g)) h)

-- THE REFUSALS OF THE RESULT: 2 whatever is lent, then 32
pub rewrite-long : (v w : ℕ) (g : Graph) (im : List ℕ) (len : ℕ) → symbols_fit w g.nodes ≡ true → most_bytes v < length (encode_image v w g) → rewrite_call v w (ok g) im len ≡ refused_bytes len (Err (RewritingRefusal.Image Image.Length))
unfolding rewrite_call written_unless written
rewrite-long v w g im len s m =
    ap (λ (o : Option ℕ). written_unless o (most_bytes v) (encode_image v w g) len) (wide-none w im first_record g.nodes s)
    ∙ rw (T→eq (ltb (most_bytes v) (length (encode_image v w g))) (lt→ltb (most_bytes v) (length (encode_image v w g)) m))

pub rewrite-cramped : (v w : ℕ) (g : Graph) (im : List ℕ) (len : ℕ) → symbols_fit w g.nodes ≡ true → length (encode_image v w g) ≤ most_bytes v → len < length (encode_image v w g) → rewrite_call v w (ok g) im len ≡ refused_bytes len (Err RewritingRefusal.NoRoom)
unfolding rewrite_call written_unless written
rewrite-cramped v w g im len s m h =
    ap (λ (o : Option ℕ). written_unless o (most_bytes v) (encode_image v w g) len) (wide-none w im first_record g.nodes s)
    ∙ rw (not-under (most_bytes v) (length (encode_image v w g)) m, T→eq (ltb len (length (encode_image v w g))) (lt→ltb len (length (encode_image v w g)) h))

pub did_front : (v w : ℕ) (g : Graph) (len n : ℕ) (o : Rewritten) → Did v w g len n o → take n o.bytes ≡ encode_image v w g
did_front v w g len n o d = ap₂ (λ (k : ℕ) (l : List ℕ). take k l) d.size d.bytes ∙ take-append_seam (encode_image v w g) (zeros (len - n))

-- every lent byte is written, and none but zeros where the call is refused
pub record Filled (len : ℕ) (o : Rewritten) : Type 0 where
  pub all : length o.bytes ≡ len
  pub zeroed : IsRefused (told_rewriting o.answer) → o.bytes ≡ zeros len

pub rewrite-filled : (v w : ℕ) (image : Answer ImageRefusal Graph) (im : List ℕ) (len : ℕ) → Filled len (rewrite_call v w image im len)
unfolding rewrite_call written_unless written
rewrite-filled v w (refuse x) im len = record { all = length-replicate {A = ℕ} len 0; zeroed = λ h. refl }
rewrite-filled v w (ok g) im len = on (first_wide w im first_record g.nodes)
  where
    out : List ℕ
    out = encode_image v w g

    third : (b : Bool) → ltb len (length out) ≡ b → Filled len (pick b (refused_bytes len (Err RewritingRefusal.NoRoom)) (record { answer = Ok (length out); bytes = out ++ zeros (len - length out) }))
    third true q = record { all = length-replicate {A = ℕ} len 0; zeroed = λ h. refl }
    third false q =
        record {
          all = (let z : length (out ++ zeros (len - length out)) ≡ len = omega (arith, length-append out (zeros (len - length out)), length-replicate {A = ℕ} (len - length out) 0, ltb-le len (length out) q) in z);
          zeroed = λ h. absurd (h refl);
        }

    second : (b : Bool) → Filled len (pick b (refused_bytes len (Err (RewritingRefusal.Image Image.Length))) (pick (ltb len (length out)) (refused_bytes len (Err RewritingRefusal.NoRoom)) (record { answer = Ok (length out); bytes = out ++ zeros (len - length out) })))
    second true = record { all = length-replicate {A = ℕ} len 0; zeroed = λ h. refl }
    second false = third (ltb len (length out)) refl

    on : (o : Option ℕ) → Filled len (written_unless o (most_bytes v) out len)
    on none = second (ltb (most_bytes v) (length out))
    on (some p) = record { all = length-replicate {A = ℕ} len 0; zeroed = λ h. refl }

-- ONE VERSION OF A LIST OF VERSIONS
only_self : (widths : ℕ → ℕ) (v : ℕ) → only widths v v ≡ widths v
only_self widths v = rw (eqb_same v)

only-version : (widths : ℕ → ℕ) (wanted v : ℕ) → eqb (only widths wanted v) 0 ≡ false → v ≡ wanted
only-version widths wanted v h = on (eqb v wanted) refl h
  where
    on : (b : Bool) → eqb v wanted ≡ b → eqb (pick b (widths v) 0) 0 ≡ false → v ≡ wanted
    on true q k = eqb-true v wanted q
    on false q k = absurd (true≢false k)

pub image-version : (widths : ℕ → ℕ) (wanted : ℕ) (im : List ℕ) (g : Graph) → check_image (only widths wanted) im ≡ ok g → byte_at im 0 ≡ wanted
image-version widths wanted im g e = only-version widths wanted (byte_at im 0) (image-sized (only widths wanted) im g e).version

-- of a list of versions the check asks only for the width of the image's own
pub same_check : (widths widths' : ℕ → ℕ) (im : List ℕ) → widths (byte_at im 0) ≡ widths' (byte_at im 0) → check_image widths im ≡ check_image widths' im
unfolding check_image check_with header
same_check widths widths' im e = rw e

-- what is accepted as one version is accepted as one of all
pub only-all : (widths : ℕ → ℕ) (wanted : ℕ) (im : List ℕ) (g : Graph) → check_image (only widths wanted) im ≡ ok g → check_image widths im ≡ ok g
only-all widths wanted im g e =
    let v = image-version widths wanted im g e in
    sym (same_check (only widths wanted) widths im (ap (only widths wanted) v ∙ only_self widths wanted ∙ sym (ap widths v))) ∙ e

-- A REWRITE THAT IS DONE KEEPS THE GRAPH
pub record Kept (widths : ℕ → ℕ) (from to : ℕ) (im : List ℕ) (len n : ℕ) : Type 0 where
  pub graph : Graph
  pub given : check_image (only widths from) im ≡ ok graph
  pub did : Did to (widths to) graph len n (rewrite_as widths from to im len)
  pub source : im ≡ encode_image from (widths from) graph
  pub writable : Writable (widths from) graph
  pub front : take n (rewrite_as widths from to im len).bytes ≡ encode_image to (widths to) graph
  pub again : check_image (only widths to) (take n (rewrite_as widths from to im len).bytes) ≡ ok graph

given-graph : (v w : ℕ) (a : Answer ImageRefusal Graph) (im : List ℕ) (len n : ℕ) → (rewrite_call v w a im len).answer ≡ Ok n → (g : Graph) × (a ≡ ok g)
unfolding rewrite_call
given-graph v w (ok g) im len n e = (g, refl)
given-graph v w (refuse x) im len n e = absurd (done-image n x e)

pub kept : (widths : ℕ → ℕ) (from to : ℕ) (im : List ℕ) (len n : ℕ) → AllBytes im → 0 < widths to → (rewrite_as widths from to im len).answer ≡ Ok n → Kept widths from to im len n
kept widths from to im len n b p e =
    let a = given-graph to (widths to) (check_image (only widths from) im) im len n e in
    let g : Graph = a.0 in
    let d : Did to (widths to) g len n (rewrite_as widths from to im len) =
    subst (λ (x : Answer ImageRefusal Graph). Did to (widths to) g len n (rewrite_call to (widths to) x im len)) (sym a.1)
    (rewrite-did to (widths to) g im len n (sym (ap (λ (x : Answer ImageRefusal Graph). (rewrite_call to (widths to) x im len).answer) a.1) ∙ e)) in
    let v : byte_at im 0 ≡ from = image-version widths from im g a.1 in
    let w : only widths from (byte_at im 0) ≡ widths from = ap (only widths from) v ∙ only_self widths from in
    let f : take n (rewrite_as widths from to im len).bytes ≡ encode_image to (widths to) g = did_front to (widths to) g len n (rewrite_as widths from to im len) d in
    let wr : Writable (widths from) g = subst (λ (k : ℕ). Writable k g) w (image-writable (only widths from) im g b a.1) in
    record {
      graph = g;
      given = a.1;
      did = d;
      source = no-free-bytes (only widths from) im g b a.1 ∙ ap₂ (λ (x : ℕ) (y : ℕ). encode_image x y g) v w;
      writable = wr;
      front = f;
      again = ap (check_image (only widths to)) f ∙ encoded-read (only widths to) to (widths to) g (record { accepted = wr.accepted; symbols = d.symbols; precedences = wr.precedences }) d.short (only_self widths to) p;
    }

-- EACH REWRITE UNDOES THE OTHER, byte for byte
pub undo : (widths : ℕ → ℕ) (from to : ℕ) (im : List ℕ) (len n len' : ℕ) → AllBytes im → 0 < widths to → (rewrite_as widths from to im len).answer ≡ Ok n → length im ≤ len'
    → rewrite_as widths to from (take n (rewrite_as widths from to im len).bytes) len' ≡ record { answer = Ok (length im); bytes = im ++ zeros (len' - length im) }
undo widths from to im len n len' b p e h =
    let k = kept widths from to im len n b p e in
    let g = k.graph in
    let s : encode_image from (widths from) g ≡ im = sym k.source in
    let size : length (encode_image from (widths from) g) ≡ length im = ap (λ (l : List ℕ). length l) s in
    let v : byte_at im 0 ≡ from = image-version widths from im g k.given in
    let most : length im ≤ most_bytes from = subst (λ (x : ℕ). length im ≤ most_bytes x) v (image-sized (only widths from) im g k.given).most in
    ap (λ (x : Answer ImageRefusal Graph). rewrite_call from (widths from) x (take n (rewrite_as widths from to im len).bytes) len') k.again
    ∙ rewrite-does from (widths from) g (take n (rewrite_as widths from to im len).bytes) len' k.writable.symbols (omega (arith, size, most)) (omega (arith, size, h))
    ∙ ap (λ (l : List ℕ). record { answer = Ok (length l); bytes = l ++ zeros (len' - length l) }) s

pub undo-1 : (im : List ℕ) (len n len' : ℕ) → AllBytes im → (widen im len).answer ≡ Ok n → length im ≤ len'
    → narrow (take n (widen im len).bytes) len' ≡ record { answer = Ok (length im); bytes = im ++ zeros (len' - length im) }
undo-1 im len n len' b e h = undo symbol_bytes 1 2 im len n len' b (omega arith) e h

pub undo-2 : (im : List ℕ) (len n len' : ℕ) → AllBytes im → (narrow im len).answer ≡ Ok n → length im ≤ len'
    → widen (take n (narrow im len).bytes) len' ≡ record { answer = Ok (length im); bytes = im ++ zeros (len' - length im) }
undo-2 im len n len' b e h = undo symbol_bytes 2 1 im len n len' b (omega arith) e h

-- what was written are bytes, so that it can be rewritten again
pub kept-bytes : (widths : ℕ → ℕ) (from to : ℕ) (im : List ℕ) (len n : ℕ) → Kept widths from to im len n → to < 256 → widths to ≤ 249 → AllBytes (take n (rewrite_as widths from to im len).bytes)
kept-bytes widths from to im len n k a h = subst AllBytes (sym k.front) (encoded-bytes to (widths to) k.graph a h)

-- WHEN A REWRITE IS DONE
-- back, given room, exactly when every symbol fits 32 bits; it is never too long for version 1
pub record Exactly (P : Type 0) (o : Rewritten) (out : List ℕ) (len : ℕ) : Type 0 where
  pub whenever : P → o ≡ record { answer = Ok (length out); bytes = out ++ zeros (len - length out) }
  pub only_then : (n : ℕ) → o.answer ≡ Ok n → P

pub back-exactly : (im : List ℕ) (g : Graph) (len : ℕ) → check_image (only symbol_bytes 2) im ≡ ok g → length (encode_image 1 4 g) ≤ len → Exactly (symbols_fit 4 g.nodes ≡ true) (narrow im len) (encode_image 1 4 g) len
back-exactly im g len e h =
    record {
      whenever = λ s. ap (λ (x : Answer ImageRefusal Graph). rewrite_call 1 4 x im len) e ∙ rewrite-does 1 4 g im len s (back_fits 1 g (image-accepted (only symbol_bytes 2) im g e)) h;
      only_then = λ n d. (rewrite-did 1 4 g im len n (sym (ap (λ (x : Answer ImageRefusal Graph). (rewrite_call 1 4 x im len).answer) e) ∙ d)).symbols;
    }

-- forward, given room, exactly when the result has at most 65,536 bytes
pub forward-exactly : (im : List ℕ) (g : Graph) (len : ℕ) → AllBytes im → check_image (only symbol_bytes 1) im ≡ ok g → length (encode_image 2 8 g) ≤ len → Exactly (length (encode_image 2 8 g) ≤ 65536) (widen im len) (encode_image 2 8 g) len
forward-exactly im g len b e h =
    let v = image-version symbol_bytes 1 im g e in
    let s : symbols_fit 4 g.nodes ≡ true = subst (λ (k : ℕ). symbols_fit k g.nodes ≡ true) (ap (only symbol_bytes 1) v) (image-writable (only symbol_bytes 1) im g b e).symbols in
    record {
      whenever = λ m. ap (λ (x : Answer ImageRefusal Graph). rewrite_call 2 8 x im len) e ∙ rewrite-does 2 8 g im len (symbols-more 4 4 g.nodes s) m h;
      only_then = λ n d. (rewrite-did 2 8 g im len n (sym (ap (λ (x : Answer ImageRefusal Graph). (rewrite_call 2 8 x im len).answer) e) ∙ d)).short;
    }

-- how long the result is, told from the given image: four bytes more for each symbol
pub forward-length : (im : List ℕ) (g : Graph) → AllBytes im → check_image (only symbol_bytes 1) im ≡ ok g → length (encode_image 2 8 g) ≡ length im + 4 * symbols_in g.nodes
forward-length im g b e =
    let v = image-version symbol_bytes 1 im g e in
    let s : im ≡ encode_image 1 4 g = no-free-bytes (only symbol_bytes 1) im g b e ∙ ap₂ (λ (x : ℕ) (y : ℕ). encode_image x y g) v (ap (only symbol_bytes 1) v) in
    encoded-wider 2 1 4 4 g ∙ ap (λ (l : List ℕ). length l + 4 * symbols_in g.nodes) (sym s)

-- 38 names the first record of the given image whose symbol does not fit, and is answered wherever there is one
image-wide : (r : ImageRefusal) (p : ℕ) → ◌≡◌ {A = Rewriting} (Err (RewritingRefusal.Image r)) (Err (RewritingRefusal.WideSymbol p)) → ⊥
image-wide r p e = let z : ◌≡◌ {A = Bool} true false = cc in true≢false z

room-wide : (p : ℕ) → ◌≡◌ {A = Rewriting} (Err RewritingRefusal.NoRoom) (Err (RewritingRefusal.WideSymbol p)) → ⊥
room-wide p e = let z : ◌≡◌ {A = Bool} true false = cc in true≢false z

wide-inj : (p q : ℕ) → ◌≡◌ {A = Rewriting} (Err (RewritingRefusal.WideSymbol p)) (Err (RewritingRefusal.WideSymbol q)) → p ≡ q
wide-inj p q e = cc

written-narrow : (most : ℕ) (out : List ℕ) (len p : ℕ) → (written most out len).answer ≡ Err (RewritingRefusal.WideSymbol p) → ⊥
unfolding written
written-narrow most out len p e = on (ltb most (length out)) (ltb len (length out)) e
  where
    on : (b c : Bool) → (pick b (refused_bytes len (Err (RewritingRefusal.Image Image.Length))) (pick c (refused_bytes len (Err RewritingRefusal.NoRoom)) (record { answer = Ok (length out); bytes = out ++ zeros (len - length out) }))).answer ≡ Err (RewritingRefusal.WideSymbol p) → ⊥
    on true c k = image-wide Image.Length p k
    on false true k = room-wide p k
    on false false k = done-wide (length out) p (sym k)

pub wide-names : (v w : ℕ) (g : Graph) (im : List ℕ) (len place : ℕ) → (rewrite_call v w (ok g) im len).answer ≡ Err (RewritingRefusal.WideSymbol place) → First w im first_record g.nodes place
unfolding rewrite_call written_unless
wide-names v w g im len place e = on (first_wide w im first_record g.nodes) refl e
  where
    on : (o : Option ℕ) → first_wide w im first_record g.nodes ≡ o → (written_unless o (most_bytes v) (encode_image v w g) len).answer ≡ Err (RewritingRefusal.WideSymbol place) → First w im first_record g.nodes place
    on none q k = absurd (written-narrow (most_bytes v) (encode_image v w g) len place k)
    on (some p) q k = wide-first w im first_record g.nodes place (q ∙ ap some (wide-inj p place k))

pub names-wide : (v w : ℕ) (g : Graph) (im : List ℕ) (len : ℕ) → symbols_fit w g.nodes ≡ false → (place : ℕ) × (rewrite_call v w (ok g) im len ≡ record { answer = Err (RewritingRefusal.WideSymbol place); bytes = zeros len })
unfolding rewrite_call written_unless
names-wide v w g im len h = on (first_wide w im first_record g.nodes) refl
  where
    on : (o : Option ℕ) → first_wide w im first_record g.nodes ≡ o → (place : ℕ) × (written_unless o (most_bytes v) (encode_image v w g) len ≡ record { answer = Err (RewritingRefusal.WideSymbol place); bytes = zeros len })
    on none q = absurd (false≢true (sym h ∙ none-wide w im first_record g.nodes q))
    on (some p) q = (p, refl)

-- forward it never is answered
fits_all : (w : ℕ) (ns : List Node) (j : ℕ) → symbols_fit w ns ≡ true → symbol_fits w (get_or ns j N.Removed) ≡ true
fits_all w [] j h = refl
fits_all w (n ∷ ns) zero h = (and-true (symbol_fits w n) (symbols_fit w ns) h).0
fits_all w (n ∷ ns) (suc j) h = fits_all w ns j (and-true (symbol_fits w n) (symbols_fit w ns) h).1

pub forward-fits : (im : List ℕ) (g : Graph) (len place : ℕ) → AllBytes im → check_image (only symbol_bytes 1) im ≡ ok g → (widen im len).answer ≡ Err (RewritingRefusal.WideSymbol place) → ⊥
forward-fits im g len place b e k =
    let v = image-version symbol_bytes 1 im g e in
    let s : symbols_fit 4 g.nodes ≡ true = subst (λ (x : ℕ). symbols_fit x g.nodes ≡ true) (ap (only symbol_bytes 1) v) (image-writable (only symbol_bytes 1) im g b e).symbols in
    let f = wide-names 2 8 g im len place (sym (ap (λ (x : Answer ImageRefusal Graph). (rewrite_call 2 8 x im len).answer) e) ∙ k) in
    true≢false (sym (fits_all 8 g.nodes f.number (symbols-more 4 4 g.nodes s)) ∙ f.wide)

-- back, 2 is an answer to the given image alone, never to the result
written-short : (most : ℕ) (out : List ℕ) (len : ℕ) → length out ≤ most → (written most out len).answer ≡ Err (RewritingRefusal.Image Image.Length) → ⊥
unfolding written
written-short most out len m e = on (ltb len (length out)) (sym (ap (λ (b : Bool). (pick b (refused_bytes len (Err (RewritingRefusal.Image Image.Length))) (pick (ltb len (length out)) (refused_bytes len (Err RewritingRefusal.NoRoom)) (record { answer = Ok (length out); bytes = out ++ zeros (len - length out) }))).answer) (not-under most (length out) m)) ∙ e)
  where
    on : (c : Bool) → (pick c (refused_bytes len (Err RewritingRefusal.NoRoom)) (record { answer = Ok (length out); bytes = out ++ zeros (len - length out) })).answer ≡ Err (RewritingRefusal.Image Image.Length) → ⊥
    on true k = let z : ◌≡◌ {A = Bool} true false = cc in true≢false z
    on false k = done-image (length out) Image.Length (sym k)

pub back-never-long : (im : List ℕ) (g : Graph) (len : ℕ) → check_image (only symbol_bytes 2) im ≡ ok g → (narrow im len).answer ≡ Err (RewritingRefusal.Image Image.Length) → ⊥
unfolding rewrite_call written_unless
back-never-long im g len e k = on (first_wide 4 im first_record g.nodes) (sym (ap (λ (x : Answer ImageRefusal Graph). (rewrite_call 1 4 x im len).answer) e) ∙ k)
  where
    on : (o : Option ℕ) → (written_unless o (most_bytes 1) (encode_image 1 4 g) len).answer ≡ Err (RewritingRefusal.Image Image.Length) → ⊥
    on none j = written-short 63499 (encode_image 1 4 g) len (back_fits 1 g (image-accepted (only symbol_bytes 2) im g e)) j
    on (some p) j = image-wide Image.Length p (sym j)

-- EVERY CALL ANSWERS THE SAME where two images hold one graph, whatever files it may see: each answer, and each word left behind
pub record Alike (x y : Answer ImageRefusal Graph) : Type 0 where
  pub check : check_call x ≡ check_call y
  pub replay : (bd : Bounds) (r : ℕ) (es : List ℕ) → replay_call bd x r es ≡ replay_call bd y r es
  pub complete : (bd : Bounds) (r : ℕ) (es : List ℕ) → complete_call bd x r es ≡ complete_call bd y r es
  pub shadows : (bd : Bounds) (l : ℕ) (ls : List ℕ) (r : ℕ) (rs : List ℕ) → shadows_call bd x l ls r rs ≡ shadows_call bd y l ls r rs
  pub direct : (bd : Bounds) (reply : State Path → List Path) (see : ℕ → Bool) (q : Request) → direct_call bd reply (seen_image see x) q ≡ direct_call bd reply (seen_image see y) q
  pub linear : (bd : Bounds) (reply : State Path → List Path) (see : ℕ → Bool) (q : LinearRequest) → linear_call bd reply (seen_image see x) q ≡ linear_call bd reply (seen_image see y) q
  pub stitched : (bd : Bounds) (reply : State Path → List Path) (known : ℕ → ℕ → Bool) (see : ℕ → Bool) (words : List ℕ) (q : Request) → stitched_call bd reply known see (seen_image see x) words q ≡ stitched_call bd reply known see (seen_image see y) words q
  pub find : (bd : Bounds) (see : ℕ → Bool) (q : FindRequest) → find_call bd (seen_image see x) q ≡ find_call bd (seen_image see y) q
  pub fresh : (words : List ℕ) → fresh_call x words ≡ fresh_call y words
  pub replace : (bd : Bounds) (known : ℕ → ℕ → Bool) (q : FileRequest) (words : List ℕ) → replace_call bd known x q words ≡ replace_call bd known y q words
  pub aliases : (bd : Bounds) (known : ℕ → ℕ → Bool) (q : FileRequest) (words : List ℕ) → alias_call bd known x q words ≡ alias_call bd known y q words

pub alike : (x y : Answer ImageRefusal Graph) → x ≡ y → Alike x y
alike x y e =
    record {
      check = ap check_call e;
      replay = λ bd r es. ap (λ (a : Answer ImageRefusal Graph). replay_call bd a r es) e;
      complete = λ bd r es. ap (λ (a : Answer ImageRefusal Graph). complete_call bd a r es) e;
      shadows = λ bd l ls r rs. ap (λ (a : Answer ImageRefusal Graph). shadows_call bd a l ls r rs) e;
      direct = λ bd reply see q. ap (λ (a : Answer ImageRefusal Graph). direct_call bd reply (seen_image see a) q) e;
      linear = λ bd reply see q. ap (λ (a : Answer ImageRefusal Graph). linear_call bd reply (seen_image see a) q) e;
      stitched = λ bd reply known see words q. ap (λ (a : Answer ImageRefusal Graph). stitched_call bd reply known see (seen_image see a) words q) e;
      find = λ bd see q. ap (λ (a : Answer ImageRefusal Graph). find_call bd (seen_image see a) q) e;
      fresh = λ words. ap (λ (a : Answer ImageRefusal Graph). fresh_call a words) e;
      replace = λ bd known q words. ap (λ (a : Answer ImageRefusal Graph). replace_call bd known a q words) e;
      aliases = λ bd known q words. ap (λ (a : Answer ImageRefusal Graph). alias_call bd known a q words) e;
    }

pub same-image : (widths : ℕ → ℕ) (from to : ℕ) (im : List ℕ) (len n : ℕ) → AllBytes im → 0 < widths to → (rewrite_as widths from to im len).answer ≡ Ok n
    → check_image widths (take n (rewrite_as widths from to im len).bytes) ≡ check_image widths im
same-image widths from to im len n b p e =
    let k = kept widths from to im len n b p e in
    only-all widths to (take n (rewrite_as widths from to im len).bytes) k.graph k.again ∙ sym (only-all widths from im k.graph k.given)

pub same-searches : (im : List ℕ) (len n : ℕ) → AllBytes im → (widen im len).answer ≡ Ok n → Alike (check_image symbol_bytes (take n (widen im len).bytes)) (check_image symbol_bytes im)
same-searches im len n b e = alike (check_image symbol_bytes (take n (widen im len).bytes)) (check_image symbol_bytes im) (same-image symbol_bytes 1 2 im len n b (omega arith) e)

pub same-searches-back : (im : List ℕ) (len n : ℕ) → AllBytes im → (narrow im len).answer ≡ Ok n → Alike (check_image symbol_bytes (take n (narrow im len).bytes)) (check_image symbol_bytes im)
same-searches-back im len n b e = alike (check_image symbol_bytes (take n (narrow im len).bytes)) (check_image symbol_bytes im) (same-image symbol_bytes 2 1 im len n b (omega arith) e)
