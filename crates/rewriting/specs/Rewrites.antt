-- What the code of the two rewrites finds out, one law for each outcome.
-- Serves document 02, order 3: the image's refusals, 38, 2, 32, and else the length of the result.
use Rattle.std.specs.Prelude.{ℕ, zero, suc, ◌+◌, ◌-◌, ◌*◌, ◌≤◌, ◌<◌, ◌≡◌, refl, Bool, true, false, not, List, [], ◌∷◌, ◌++◌, eqb, ltb, length, get_or, Err, Ok}
use Rattle.std.proofs.Common.{arith, ap, ap₂, ◌∙◌, subst, eq-eqb, ne_eqb}
use Rattle.std.proofs.Math.Path.{sym}
use Rattle.std.proofs.Math.Option.{Option, some}
use Rattle.semantics.specs.declared.graph.Node.{Node}
use Rattle.semantics.specs.declared.graph.Node.TheVariants as N
use Rattle.semantics.specs.declared.refusal.ImageRefusal.{ImageRefusal}
use Rattle.semantics.specs.declared.refusal.ImageRefusal.TheVariants as Image
use Rattle.semantics.specs.Lists.{pick, and}
use Rattle.semantics.specs.Answer.{Answer, ok, refuse}
use Rattle.semantics.specs.Bytes.{byte_at, long}
use Rattle.semantics.specs.Bytes.Placed.{front, front-zeros}
use Rattle.semantics.specs.Bytes.Written.{AllBytes}
use Rattle.semantics.specs.Calls.{check_call}
use Rattle.semantics.specs.Graph.{Graph, view_of}
use Rattle.semantics.specs.Image.{symbol_bytes, only, most_bytes, longest_image, first_record, next_place, place_of, header, check_with, check_image}
use Rattle.semantics.proofs.Theorems.Image.Laws.{image-accepted}
use Rattle.semantics.specs.Image.Encoding.{encode_image, symbol_fits, symbols_fit, symbols_in}
use Rattle.semantics.specs.Image.Encoding.Laws.{encoded-wider, symbols-more}
use Rattle.semantics.proofs.Theorems.Image.NoFreeBytes.{no-free-bytes, image-writable}
use Rattle.semantics.proofs.Theorems.Image.Reading.{back_fits}
use Rattle.semantics.specs.Rewriting.{Rewritten, refused_bytes, first_wide, written_unless, rewrite_call}
use Rattle.semantics.proofs.Theorems.Rewriting.Laws.{rewrite-does, rewrite-long, rewrite-cramped, image-version, same_check, forward-length}
use Rattle.semantics.specs.Words.{zeros}
use Rattle.image.specs.Reached.{is_sized}
use Rattle.storage.specs.Index.{node_row, Loaded}
use Rattle.storage.specs.Index.Use.{answer-accepted}
use Rattle.storage.specs.References.{First}
use Rattle.rewriting.specs.Held.{nodes_in, graph_held, loaded-nodes, held}
use Rattle.semantics.specs.declared.answer.Counts.{Counts}
use Rattle.semantics.specs.PublicAnswers.{Checked, Rewriting}
use Rattle.semantics.specs.declared.answer.RewritingRefusal.{RewritingRefusal}

-- the graph of an image of one version
abbrev pub graph_as : ℕ → List ℕ → Answer ImageRefusal Graph
graph_as version im = check_image (only symbol_bytes version) im

-- an accepted image of the version, its graph in the index, and its counts
pub record Given (version : ℕ) (im index : List ℕ) (counts : Counts) : Type 0 where
  pub graph : Graph
  pub is : graph_as version im ≡ ok graph
  pub loaded : Loaded graph index
  pub file-count : counts.files ≡ graph.files
  pub node-count : counts.nodes ≡ length graph.nodes
  pub edge_count : counts.edges ≡ length graph.edges

-- the answer, and every byte of the lent area
abbrev pub Does : Rewritten → Rewriting → List ℕ → Type 0
Does o answer area = (answer ≡ o.answer) × (area ≡ o.bytes)

pub does : (o : Rewritten) (answer : Rewriting) (area : List ℕ) → o ≡ record { answer = answer; bytes = area } → Does o answer area
does o answer area e = (sym (ap (λ (r : Rewritten). r.answer) e), sym (ap (λ (r : Rewritten). r.bytes) e))

-- THE VERSION: size and length come before it
by_size : {A : Type 0} (a b c : Bool) (x y : A) → pick a x (pick b x (pick (not c) x y)) ≡ pick (pick a false (pick b false c)) y x
by_size true b c x y = refl
by_size false true c x y = refl
by_size false false true x y = refl
by_size false false false x y = refl

picked : {A : Type 0} {b c : Bool} (x y : A) → b ≡ c → pick b x y ≡ pick c x y
picked x y e = ap (λ (d : Bool). pick d x y) e

module _ (widths : ℕ → ℕ) (im : List ℕ) where
  refused : (r : ImageRefusal) → header widths im ≡ refuse r → check_image widths im ≡ refuse r
  unfolding check_image check_with
  refused r e = rw e

  unsized : is_sized im ≡ false → check_image widths im ≡ refuse Image.Length
  unfolding header is_sized
  unsized h = refused Image.Length (by_size (ltb (length im) 11) (ltb longest_image (length im)) (eqb (long im 1 + 5) (length im)) (refuse Image.Length) _ ∙ picked _ (refuse Image.Length) h)

  unknown : is_sized im ≡ true → widths (byte_at im 0) ≡ 0 → check_image widths im ≡ refuse Image.Version
  unfolding header is_sized
  unknown h v =
      refused Image.Version (by_size (ltb (length im) 11) (ltb longest_image (length im)) (eqb (long im 1 + 5) (length im)) (refuse Image.Length) _ ∙ picked _ (refuse Image.Length) h
      ∙ picked (refuse Image.Version) _ (eq-eqb (widths (byte_at im 0)) 0 v))

pub other-version : (version : ℕ) (im : List ℕ) → is_sized im ≡ true → (byte_at im 0 ≡ version → ⊥) → graph_as version im ≡ refuse Image.Version
other-version version im h n = unknown (only symbol_bytes version) im h (ap (λ (b : Bool). pick b (symbol_bytes (byte_at im 0)) 0) (ne_eqb (byte_at im 0) version n))

pub this-version : (version : ℕ) (im : List ℕ) → byte_at im 0 ≡ version → graph_as version im ≡ check_image symbol_bytes im
this-version version im e = same_check (only symbol_bytes version) symbol_bytes im (ap (λ (b : Bool). pick b (symbol_bytes (byte_at im 0)) 0) (eq-eqb (byte_at im 0) version e))

pub no_size : (version : ℕ) (im : List ℕ) → is_sized im ≡ false → graph_as version im ≡ check_image symbol_bytes im
no_size version im h = unsized (only symbol_bytes version) im h ∙ sym (unsized symbol_bytes im h)

-- THE REST OF A CALL, for any two versions: 38, 2, 32, and the result
module _ (v w : ℕ) {x : Answer ImageRefusal Graph} {g : Graph} (e : x ≡ ok g) (im : List ℕ) (len : ℕ) {area : List ℕ} (clear : area ≡ zeros len) where
  at-graph : (o : Rewritten) → rewrite_call v w (ok g) im len ≡ o → rewrite_call v w x im len ≡ o
  at-graph o h = ap (λ (y : Answer ImageRefusal Graph). rewrite_call v w y im len) e ∙ h

  refuses : (a : Rewriting) → rewrite_call v w (ok g) im len ≡ refused_bytes len a → Does (rewrite_call v w x im len) a area
  refuses a h = does (rewrite_call v w x im len) a area (at-graph _ h ∙ ap (λ (l : List ℕ). record { answer = a; bytes = l }) (sym clear))

  pub does-wide : (place : ℕ) → first_wide w im first_record g.nodes ≡ some place → Does (rewrite_call v w x im len) (Err (RewritingRefusal.WideSymbol place)) area
  unfolding rewrite_call written_unless
  does-wide place h = refuses (Err (RewritingRefusal.WideSymbol place)) (ap (λ (o : Option ℕ). written_unless o (most_bytes v) (encode_image v w g) len) h)

  module _ (fit : symbols_fit w g.nodes ≡ true) {size : ℕ} (known : size ≡ length (encode_image v w g)) where
    pub does-long : most_bytes v < size → Does (rewrite_call v w x im len) (Err (RewritingRefusal.Image Image.Length)) area
    does-long h = refuses (Err (RewritingRefusal.Image Image.Length)) (rewrite-long v w g im len fit (omega arith))

    module _ (short : size ≤ most_bytes v) where
      pub does-cramped : len < size → Does (rewrite_call v w x im len) (Err RewritingRefusal.NoRoom) area
      does-cramped h = refuses (Err RewritingRefusal.NoRoom) (rewrite-cramped v w g im len fit (omega arith) (omega arith))

      pub does-write : {bytes : List ℕ} → size ≤ len → bytes ≡ front (encode_image v w g) area → Does (rewrite_call v w x im len) (Ok size) bytes
      does-write {bytes} h q =
          let b : bytes ≡ encode_image v w g ++ zeros (len - length (encode_image v w g)) = q ∙ ap (front (encode_image v w g)) clear ∙ front-zeros (encode_image v w g) len in
          does (rewrite_call v w x im len) (Ok size) bytes (at-graph _ (rewrite-does v w g im len fit (omega arith) (omega arith)) ∙ ap₂ (λ (i : ℕ) (l : List ℕ). record { answer = Ok i; bytes = l }) (sym known) (sym b))

-- an image that is refused
pub does-refuse : (v w : ℕ) (x : Answer ImageRefusal Graph) (r : ImageRefusal) (im : List ℕ) (len : ℕ) (area : List ℕ) → x ≡ refuse r → area ≡ zeros len → Does (rewrite_call v w x im len) (Err (RewritingRefusal.Image r)) area
unfolding rewrite_call
does-refuse v w x r im len area e clear =
    does (rewrite_call v w x im len) (Err (RewritingRefusal.Image r)) area (ap (λ (y : Answer ImageRefusal Graph). rewrite_call v w y im len) e ∙ ap (λ (l : List ℕ). record { answer = Err (RewritingRefusal.Image r); bytes = l }) (sym clear))

-- WHAT AN ANSWER OF THE CHECK GIVES
pub given : (version : ℕ) (im index : List ℕ) {c : Checked} (counts : Counts) → c ≡ check_call (graph_as version im) → c ≡ Ok counts → ((g : Graph) → graph_as version im ≡ ok g → Loaded g index) → Given version im index counts
given version im index counts e q load =
    let a = answer-accepted (graph_as version im) counts e q in
    record { graph = a.graph; is = a.is; loaded = load a.graph a.is; file-count = a.file-count; node-count = a.node-count; edge_count = a.edge_count }

module _ {version : ℕ} {im index : List ℕ} {counts : Counts} (d : Given version im index counts) where
  pub given-held : graph_held index counts ≡ d.graph
  given-held = held d.loaded counts d.file-count d.node-count d.edge_count

  given-nodes : nodes_in index counts.nodes ≡ d.graph.nodes
  given-nodes = ap (nodes_in index) d.node-count ∙ loaded-nodes d.loaded

  -- the size that is known of the graph is that of the graph held
  pub size-held : (v w : ℕ) {size : ℕ} → size ≡ length (encode_image v w d.graph) → size ≡ length (encode_image v w (graph_held index counts))
  size-held v w e = e ∙ ap (λ (g : Graph). length (encode_image v w g)) (sym given-held)

  pub front-held : (v w : ℕ) (area : List ℕ) {bytes : List ℕ} → bytes ≡ front (encode_image v w (graph_held index counts)) area → bytes ≡ front (encode_image v w d.graph) area
  front-held v w area e = e ∙ ap (λ (g : Graph). front (encode_image v w g) area) given-held

-- FORWARD: every symbol fits, and each has four bytes more
module _ {im index : List ℕ} {counts : Counts} (b : AllBytes im) (d : Given 1 im index counts) where
  pub widen-fits : symbols_fit 8 d.graph.nodes ≡ true
  widen-fits = symbols-more 4 4 d.graph.nodes (subst (λ (k : ℕ). symbols_fit k d.graph.nodes ≡ true) (ap (only symbol_bytes 1) (image-version symbol_bytes 1 im d.graph d.is)) (image-writable (only symbol_bytes 1) im d.graph b d.is).symbols)

  pub widen-size : {count : ℕ} → count ≡ symbols_in (nodes_in index counts.nodes) → length im + 4 * count ≡ length (encode_image 2 8 d.graph)
  widen-size {count} e = let z : count ≡ symbols_in d.graph.nodes = e ∙ ap symbols_in (given-nodes d) in omega (arith, z, forward-length im d.graph b d.is)

-- BACK: each symbol has four bytes less, and the result is never too long
module _ {im index : List ℕ} {counts : Counts} (b : AllBytes im) (d : Given 2 im index counts) where
  pub narrow_size : {count : ℕ} → count ≡ symbols_in (nodes_in index counts.nodes) → length im ≡ length (encode_image 1 4 d.graph) + 4 * count
  narrow_size {count} e =
      let z : count ≡ symbols_in d.graph.nodes = e ∙ ap symbols_in (given-nodes d) in
      let v = image-version symbol_bytes 2 im d.graph d.is in
      let s : im ≡ encode_image 2 8 d.graph = no-free-bytes (only symbol_bytes 2) im d.graph b d.is ∙ ap₂ (λ (x : ℕ) (y : ℕ). encode_image x y d.graph) v (ap (only symbol_bytes 2) v) in
      omega (arith, z, ap (λ (l : List ℕ). length l) s, encoded-wider 2 1 4 4 d.graph)

  pub narrow_short : length (encode_image 1 4 d.graph) ≤ 63499
  narrow_short = back_fits 1 d.graph (image-accepted (only symbol_bytes 2) im d.graph d.is)

-- 38: the first symbol that does not fit, by the nodes of the index
wide_at : (w : ℕ) (im : List ℕ) (at : ℕ) (ns : List Node) (k : ℕ) → k < length ns → symbol_fits w (get_or ns k N.Removed) ≡ false → ((j : ℕ) → j < k → symbol_fits w (get_or ns j N.Removed) ≡ true) → first_wide w im at ns ≡ some (place_of im at k)
unfolding first_wide place_of
wide_at w im at [] k l h f = absurd (omega (arith, l))
wide_at w im at (n ∷ ns) zero l h f = ap (λ (c : Bool). pick c (first_wide w im (next_place im at) ns) (some at)) h
wide_at w im at (n ∷ ns) (suc k) l h f =
    ap (λ (c : Bool). pick c (first_wide w im (next_place im at) ns) (some at)) (f 0 (omega arith)) ∙ wide_at w im (next_place im at) ns k (omega (arith, l)) h (λ j m. f (suc j) (omega (arith, m)))

all_fit : (w : ℕ) (ns : List Node) → ((j : ℕ) → j < length ns → symbol_fits w (get_or ns j N.Removed) ≡ true) → symbols_fit w ns ≡ true
all_fit w [] f = refl
all_fit w (n ∷ ns) f = ap₂ (λ (x : Bool) (y : Bool). and x y) (f 0 (omega arith)) (all_fit w ns (λ j m. f (suc j) (omega (arith, m))))

module _ {version : ℕ} {im index : List ℕ} {counts : Counts} (d : Given version im index counts) (w : ℕ) {k : ℕ} (first : First (λ n. symbol_fits w (node_row index n)) counts.nodes k) where
  told : (j : ℕ) (b : Bool) → symbol_fits w (node_row index j) ≡ b → symbol_fits w (get_or d.graph.nodes j N.Removed) ≡ b
  unfolding view_of
  told j b h = sym (ap (symbol_fits w) (d.loaded.node j)) ∙ h

  pub first-place : k < counts.nodes → first_wide w im first_record d.graph.nodes ≡ some (place_of im first_record k)
  first-place h = wide_at w im first_record d.graph.nodes k (omega (arith, d.node-count)) (told k false (first.here h)) (λ j m. told j true (first.before j m))

  pub first-none : counts.nodes ≤ k → symbols_fit w d.graph.nodes ≡ true
  first-none h = all_fit w d.graph.nodes (λ j m. told j true (first.before j (omega (arith, m, d.node-count))))
