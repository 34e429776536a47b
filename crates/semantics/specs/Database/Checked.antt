-- What the check of a database says of its slots: each live one names a known owner and has an edge.
-- Document 01, "Turned back", the rows of 35 and 34.
use Rattle.std.specs.Prelude.{ℕ, zero, suc, ◌≤◌, ◌<◌, ◌⊎◌, Bool, eqb, leb, ltb, drop}
use Rattle.std.proofs.Common.{arith, ◌∙◌, inl, inr, ⊎_elim, ltb→lt}
use Rattle.std.proofs.Math.Path.{◌≡◌, refl, ap}
use Rattle.std.proofs.Math.Bool.{true, false, true≢false}
use mathlib.Core.List.Memᴰ
use mathlib.Core.List.{List, [], ◌∷◌, Memᴰ}
use Rattle.std.proofs.Math.Dec.{leb→le}
use Rattle.std.proofs.Math.ListN.{length, get_or, take, length-drop}
use Rattle.std.proofs.Math.Seq.{length-take-le}
use Rattle.semantics.specs.declared.refusal.DatabaseRefusal.TheVariants.{Malformed, Outgrown}
use Rattle.semantics.specs.Limits.{Bounds, record_words, nobody}
use Rattle.semantics.specs.Answer.{ok, and_then, ok_if}
use Rattle.semantics.specs.Answer.Laws.{refuse-ok}
use Rattle.semantics.specs.Lists.{or, and}
use Rattle.semantics.specs.Lists.Laws.{and-true, eq→T, eqb-true, mem-map}
use Rattle.semantics.specs.Graph.{Graph}
use Rattle.semantics.specs.PartialPaths.{Slot, slot}
use Rattle.semantics.specs.Demand.{OwnersIn}
use Rattle.semantics.specs.Database.{used_in, nodes_in, files_in, every, sound, well_formed, check_database, capacity, decode, records, slots_in, known_owners}
use Rattle.semantics.specs.Database.Laws.{AllLong, slots-long, whole-records}

-- the words meet neither 35 nor 34
pub record Checked (bd : Bounds) (known : ℕ → ℕ → Bool) (g : Graph) (ws : List ℕ) : Type 0 where
  pub long : 3 ≤ length ws
  pub used : used_in ws ≤ capacity bd ws
  pub sounds : every (sound bd known (nodes_in ws) (files_in ws)) (records bd ws) ≡ true
  pub nodes : nodes_in ws ≤ length g.nodes
  pub files : files_in ws ≤ g.files

module _ (bd : Bounds) (known : ℕ → ℕ → Bool) (g : Graph) (ws : List ℕ) where
  pub checked-words : (db : List Slot) → check_database bd known g ws ≡ ok db → Checked bd known g ws
  unfolding check_database ok_if well_formed
  checked-words db e = on1 (well_formed bd known ws) refl e
    where
      on2 : (b c : Bool) → well_formed bd known ws ≡ b → and (leb (nodes_in ws) (length g.nodes)) (leb (files_in ws) g.files) ≡ c → b ≡ true → ok_if c Outgrown (slots_in bd ws) ≡ ok db → Checked bd known g ws
      on2 b true h k t x =
          let a = and-true (leb 3 (length ws)) _ (h ∙ t) in
          let c = and-true (leb (used_in ws) (capacity bd ws)) _ a.1 in
          let d = and-true (leb (nodes_in ws) (length g.nodes)) _ k in
          record {
            long = leb→le 3 (length ws) (eq→T (leb 3 (length ws)) a.0);
            used = leb→le (used_in ws) (capacity bd ws) (eq→T (leb (used_in ws) (capacity bd ws)) c.0);
            sounds = c.1;
            nodes = leb→le (nodes_in ws) (length g.nodes) (eq→T (leb (nodes_in ws) (length g.nodes)) d.0);
            files = leb→le (files_in ws) g.files (eq→T (leb (files_in ws) g.files) d.1);
          }
      on2 b false h k t x = absurd (refuse-ok Outgrown db x)

      on1 : (b : Bool) → well_formed bd known ws ≡ b → and_then (ok_if b Malformed ws) (λ x. ok_if (and (leb (nodes_in ws) (length g.nodes)) (leb (files_in ws) g.files)) Outgrown (slots_in bd ws)) ≡ ok db → Checked bd known g ws
      on1 true h k = on2 true (and (leb (nodes_in ws) (length g.nodes)) (leb (files_in ws) g.files)) h refl refl k
      on1 false h k = absurd (refuse-ok Malformed db k)

every_one : (test : List ℕ → Bool) (xs : List (List ℕ)) (x : List ℕ) → every test xs ≡ true → Memᴰ x xs → test x ≡ true
unfolding every
every_one test [] x h m = absurd (Memᴰ.not-nil m)
every_one test (y ∷ xs) x h m =
    let k = and-true (test y) (every test xs) h in
    ⊎_elim (λ (e : x ≡ y). ap test e ∙ k.0) (λ n. every_one test xs x k.1 n) (Memᴰ.cases_cons m)

all-long : (L : ℕ) (xs : List (List ℕ)) (x : List ℕ) → AllLong L xs → Memᴰ x xs → length x ≡ L
all-long L [] x h m = absurd (Memᴰ.not-nil m)
all-long L (y ∷ xs) x h m = ⊎_elim (λ (e : x ≡ y). ap length e ∙ h.0) (λ n. all-long L xs x h.1 n) (Memᴰ.cases_cons m)

-- a live slot, and the record that it was read from
record Read (bd : Bounds) (known : ℕ → ℕ → Bool) (ws : List ℕ) (f : ℕ) (es : List ℕ) : Type 0 where
  pub owner : known (files_in ws) f ≡ true
  pub some-edge : 1 ≤ length es

module _ (bd : Bounds) (known : ℕ → ℕ → Bool) (g : Graph) (ws : List ℕ) (c : Checked bd known g ws) where
  read : (f s t : ℕ) (es : List ℕ) (x : List ℕ) → sound bd known (nodes_in ws) (files_in ws) x ≡ true → length x ≡ record_words bd → slot f s t es ≡ decode x → Read bd known ws f es
  unfolding decode sound
  read f s t es [] h l e = absurd (let z : ◌≡◌ {A = Bool} true false = cc in true≢false z)
  read f s t es (zero ∷ x) h l e = absurd (let z : ◌≡◌ {A = Bool} true false = cc in true≢false z)
  read f s t es (suc w ∷ x) h l e =
      let a = and-true (known (files_in ws) w) _ h in
      let b = and-true (ltb (get_or x 0 0) (nodes_in ws)) _ a.1 in
      let d = and-true (leb 1 (get_or x 2 0)) _ b.1 in
      let least = leb→le 1 (get_or x 2 0) (eq→T (leb 1 (get_or x 2 0)) d.0) in
      let most = leb→le (get_or x 2 0) bd.edges (eq→T (leb (get_or x 2 0) bd.edges) d.1) in
      let z : f ≡ w = cc in
      let y : es ≡ take (get_or x 2 0) (drop 3 x) = cc in
      let n : length (drop 3 x) ≡ bd.edges = simp length-drop (omega (arith, l)) in
      let m : length (take (get_or x 2 0) (drop 3 x)) ≡ get_or x 2 0 = length-take-le (get_or x 2 0) (drop 3 x) (omega (arith, n, most)) in
      record { owner = ap (known (files_in ws)) z ∙ a.0; some-edge = omega (arith, ap length y, m, least) }

  live : (f s t : ℕ) (es : List ℕ) → Memᴰ (slot f s t es) (slots_in bd ws) → Read bd known ws f es
  unfolding slots_in records
  live f s t es m =
      let x = mem-map decode (slot f s t es) (records bd ws) m in
      read f s t es x.0 (every_one (sound bd known (nodes_in ws) (files_in ws)) (records bd ws) x.0 c.sounds x.1) (all-long (record_words bd) (records bd ws) x.0 (slots-long (record_words bd) (used_in ws) (drop 3 ws) (whole-records bd ws c.used)) x.1) x.2

  pub checked-edge : (f s t : ℕ) (es : List ℕ) → Memᴰ (slot f s t es) (slots_in bd ws) → 1 ≤ length es
  checked-edge f s t es m = (live f s t es m).some-edge

-- a live slot names a file of the graph or nobody
pub checked-owners : (bd : Bounds) (g : Graph) (ws : List ℕ) → Checked bd known_owners g ws → OwnersIn g (slots_in bd ws)
checked-owners bd g ws c f s t es m = on (ltb f (files_in ws)) refl (live bd known_owners g ws c f s t es m).owner
  where
    on : (b : Bool) → ltb f (files_in ws) ≡ b → or b (eqb f nobody) ≡ true → (f < g.files) ⊎ (f ≡ nobody)
    on true h o = let k = ltb→lt f (files_in ws) (eq→T (ltb f (files_in ws)) h) in inl (omega (arith, k, c.files))
    on false h o = inr (eqb-true f nobody o)
