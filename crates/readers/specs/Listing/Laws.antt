-- One number more, the references and the edges one by one, and what is answered of them.
use Rattle.std.specs.Prelude.{ℕ, zero, suc, ◌+◌, ◌-◌, ◌<◌, ◌≤◌, ◌≡◌, refl, Bool, true, false, List, [], ◌∷◌, ◌++◌, length, get_or, set, drop, Err, Ok}
use Rattle.std.proofs.Common.{arith, not-suc-le-zero, le_of_suc-le-suc, sym, ap, subst, ◌∙◌, le-leb, length-set, length-append, drop-cons}
use Rattle.std.proofs.lemmas.Bool.{lt-leb}
use Rattle.semantics.specs.declared.graph.Node.{Node}
use Rattle.semantics.specs.declared.graph.Node.TheVariants as N
use Rattle.semantics.specs.declared.refusal.ImageRefusal.{ImageRefusal}
use Rattle.semantics.specs.Answer.{Answer, ok, refuse}
use Rattle.semantics.specs.Lists.{cons_if}
use Rattle.semantics.specs.Graph.{node_id, Graph, view_of, traits, is_reference}
use Rattle.semantics.specs.Words.{zeros}
use Rattle.semantics.specs.Written.{written}
use Rattle.semantics.specs.Finding.{references_from}
use Rattle.semantics.specs.Reading.{listed_if, listed, references_call, listed_unless, outgoing_call}
use Rattle.storage.specs.Index.{node_row, next_row, Runs, Loaded}
use Rattle.storage.specs.Index.Use.{runs-end, runs-next}
use Rattle.readers.specs.Listing.{Holds, Adds, Lists, outgoing_loaded}
use Rattle.semantics.specs.declared.answer.ListingRefusal.{ListingRefusal}

-- THE AREA

written_none : (n : ℕ) → zeros n ≡ written n []
unfolding written
written_none zero = refl
written_none (suc n) = ap (λ (l : List ℕ). 0 ∷ l) (written_none n)

more-inside : (n : ℕ) (ns : List ℕ) (v : ℕ) → length ns < n → set (written n ns) (length ns) v ≡ written n (ns ++ (v ∷ []))
unfolding written
more-inside zero ns v h = absurd (not-suc-le-zero h)
more-inside (suc n) [] v h = refl
more-inside (suc n) (x ∷ ns) v h = ap (λ (l : List ℕ). x ∷ l) (more-inside n ns v (le_of_suc-le-suc h))

more-full : (n : ℕ) (ns : List ℕ) (v : ℕ) → n ≤ length ns → written n ns ≡ written n (ns ++ (v ∷ []))
unfolding written
more-full zero ns v h = refl
more-full (suc n) [] v h = absurd (not-suc-le-zero h)
more-full (suc n) (x ∷ ns) v h = ap (λ (l : List ℕ). x ∷ l) (more-full n ns v (le_of_suc-le-suc h))

one_more : (ns : List ℕ) (v : ℕ) → length (ns ++ (v ∷ [])) ≡ length ns + 1
one_more ns v = length-append ns (v ∷ [])

-- at the start
pub holds-none : (area : List ℕ) → area ≡ zeros (length area) → Holds area 0 []
holds-none area e = record { words = e ∙ written_none (length area); counted = refl }

pub put-inside : (area : List ℕ) (count v : ℕ) → count < length area → Adds area count (set area count v) (count + 1) (v ∷ [])
put-inside area count v h ms k = record {
  words =
      ap (λ (i : ℕ). set area i v) k.counted
      ∙ ap (λ (a : List ℕ). set a (length ms) v) k.words
      ∙ more-inside (length area) ms v (subst (λ (i : ℕ). i < length area) k.counted h)
      ∙ ap (λ (n : ℕ). written n (ms ++ (v ∷ []))) (sym (length-set area count v));
  counted = ap (λ (i : ℕ). i + 1) k.counted ∙ sym (one_more ms v);
}

pub put_full : (area : List ℕ) (count v : ℕ) → length area ≤ count → Adds area count area (count + 1) (v ∷ [])
put_full area count v h ms k = record {
  words = k.words ∙ more-full (length area) ms v (subst (λ (i : ℕ). length area ≤ i) k.counted h);
  counted = ap (λ (i : ℕ). i + 1) k.counted ∙ sym (one_more ms v);
}

append-none : (ns : List ℕ) → ns ++ [] ≡ ns
append-none [] = refl
append-none (x ∷ ns) = ap (λ (l : List ℕ). x ∷ l) (append-none ns)

append_assoc : (a b c : List ℕ) → (a ++ b) ++ c ≡ a ++ (b ++ c)
append_assoc [] b c = refl
append_assoc (x ∷ a) b c = ap (λ (l : List ℕ). x ∷ l) (append_assoc a b c)

-- nothing is added
pub adds_none : (area : List ℕ) (count : ℕ) → Adds area count area count []
adds_none area count ms k = record { words = k.words ∙ ap (written (length area)) (sym (append-none ms)); counted = k.counted ∙ ap length (sym (append-none ms)) }

-- THE REFERENCES, as far as node n

pub record Referred (nodes : List Node) (area : List ℕ) (count n : ℕ) : Type 0 where
  pub done : List ℕ
  pub holds : Holds area count done
  pub rest : done ++ references_from n (drop n nodes) ≡ references_from 0 nodes
  pub few : count ≤ n

pub referred-none : (nodes : List Node) (area : List ℕ) → area ≡ zeros (length area) → Referred nodes area 0 0
referred-none nodes area e = record { done = []; holds = holds-none area e; rest = refl; few = omega arith }

cons_if-append : (b : Bool) (n : ℕ) (l : List ℕ) → cons_if b n [] ++ l ≡ cons_if b n l
cons_if-append true n l = refl
cons_if-append false n l = refl

cons_if-one : (b : Bool) (n : ℕ) (ms : List ℕ) → length (ms ++ cons_if b n []) ≤ length ms + 1
cons_if-one true n ms = omega (arith, one_more ms n)
cons_if-one false n ms = omega (arith, ap length (append-none ms))

pub referred-more : (nodes : List Node) {area after : List ℕ} {count more n : ℕ} → n < length nodes → Referred nodes area count n → Adds area count after more (cons_if (is_reference (get_or nodes n N.Removed)) n [])
    → Referred nodes after more (n + 1)
unfolding references_from
referred-more nodes {area} {after} {count} {more} {n} h k adds =
    let b = is_reference (get_or nodes n N.Removed) in
    let held = adds k.done k.holds in
    let z : n + 1 ≡ suc n = omega arith in
    record {
      done = k.done ++ cons_if b n [];
      holds = held;
      rest =
          append_assoc k.done (cons_if b n []) (references_from (n + 1) (drop (n + 1) nodes))
          ∙ ap (λ (l : List ℕ). k.done ++ l)
          (cons_if-append b n (references_from (n + 1) (drop (n + 1) nodes))
          ∙ ap (λ (i : ℕ). cons_if b n (references_from i (drop i nodes))) z
          ∙ sym (ap (references_from n) (drop-cons nodes n N.Removed h)))
          ∙ k.rest;
      few = omega (arith, held.counted, cons_if-one b n k.done, k.holds.counted, k.few);
    }

pub referred-all : (nodes : List Node) {area : List ℕ} {count n : ℕ} → length nodes ≤ n → n ≤ length nodes → Referred nodes area count n → Holds area count (references_from 0 nodes)
unfolding references_from
referred-all nodes {area} {count} {n} h g k = subst (Holds area count) (sym (append-none k.done) ∙ ap (λ (l : List Node). k.done ++ references_from n l) (sym (dropped nodes n h)) ∙ k.rest) k.holds
  where
    dropped : (l : List Node) (i : ℕ) → length l ≤ i → drop i l ≡ []
    dropped [] zero b = refl
    dropped [] (suc i) b = refl
    dropped (x ∷ l) zero b = absurd (not-suc-le-zero b)
    dropped (x ∷ l) (suc i) b = dropped l i (le_of_suc-le-suc b)

-- the row of a loaded graph is the node
pub row-adds : (g : Graph) {index : List ℕ} → Loaded g index → (n : ℕ) {area after : List ℕ} {count more : ℕ} → Adds area count after more (cons_if (is_reference (node_row index n)) n [])
    → Adds area count after more (cons_if (is_reference (get_or g.nodes n N.Removed)) n [])
unfolding view_of
row-adds g {index} l n {area} {after} {count} {more} k = subst (λ (x : Node). Adds area count after more (cons_if (is_reference x) n [])) (l.node n) k

-- THE EDGES that leave a node, as far as a link

pub record Left (index out area : List ℕ) (count link : ℕ) : Type 0 where
  pub done : List ℕ
  pub rest : List ℕ
  pub holds : Holds area count done
  pub runs : Runs index link rest
  pub whole : done ++ rest ≡ out
  pub few : count ≤ length out
  pub fewer : length rest ≤ length out

module _ (index out : List ℕ) where
  pub left-none : (area : List ℕ) → area ≡ zeros (length area) → {link first : ℕ} → link ≡ first → Runs index first out → Left index out area 0 link
  left-none area e q r = record {
    done = [];
    rest = out;
    holds = holds-none area e;
    runs = subst (λ (i : ℕ). Runs index i out) (sym q) r;
    whole = refl;
    few = omega arith;
    fewer = omega arith;
  }

  pub left-more : {area after : List ℕ} {count more link next : ℕ} → 0 < link → Left index out area count link → Adds area count after more ((link - 1) ∷ []) → next ≡ next_row index (link - 1) → Left index out after more next
  left-more {area} {after} {count} {more} {link} {next} h k adds e =
      let n = runs-next index link k.rest h k.runs in
      let held = adds k.done k.holds in
      let c : length k.rest ≡ suc (length n.0) = ap length n.1 in
      let a : length (k.done ++ k.rest) ≡ length k.done + length k.rest = length-append k.done k.rest in
      let o : length (k.done ++ k.rest) ≡ length out = ap length k.whole in
      record {
        done = k.done ++ ((link - 1) ∷ []);
        rest = n.0;
        holds = held;
        runs = subst (λ (i : ℕ). Runs index i n.0) (sym e) n.2;
        whole = append_assoc k.done ((link - 1) ∷ []) n.0 ∙ ap (λ (l : List ℕ). k.done ++ l) (sym n.1) ∙ k.whole;
        few = omega (arith, held.counted, one_more k.done (link - 1), a, o, c);
        fewer = omega (arith, c, k.fewer);
      }

  pub left-all : {area : List ℕ} {count link : ℕ} → link ≤ 0 → Left index out area count link → Holds area count out
  left-all {area} {count} {link} h k =
      let z : link ≡ 0 = omega (arith, h) in
      let none = runs-end index k.rest (subst (λ (i : ℕ). Runs index i k.rest) z k.runs) in
      subst (Holds area count) (sym (append-none k.done) ∙ ap (λ (l : List ℕ). k.done ++ l) (sym none) ∙ k.whole) k.holds

-- WHAT IS ANSWERED

pub concluded-short : (ns : List ℕ) {area : List ℕ} {count : ℕ} (after : List ℕ) → Holds area count ns → length area < count → after ≡ zeros (length area) → Lists (listed (length area) ns) (Err ListingRefusal.NoRoom) after
unfolding listed_if
concluded-short ns {area} {count} after k h e = rw (lt-leb (length ns) (length area) (subst (λ (i : ℕ). length area < i) k.counted h)) (refl, e)

pub concluded-done : (ns : List ℕ) {area : List ℕ} {count : ℕ} → Holds area count ns → count ≤ length area → Lists (listed (length area) ns) (Ok count) area
unfolding listed_if
concluded-done ns {area} {count} k h = rw (le-leb (length ns) (length area) (subst (λ (i : ℕ). i ≤ length area) k.counted h)) (ap Ok k.counted, k.words)

module _ (x : Answer ImageRefusal Graph) (words : ℕ) where
  pub references-refused : (r : ImageRefusal) → x ≡ refuse r → {area : List ℕ} → area ≡ zeros words → Lists (references_call x words) (Err (ListingRefusal.Image r)) area
  unfolding references_call
  references-refused r e a = rw e (refl, a)

  pub references-done : (g : Graph) → x ≡ ok g → {a : _} {area : List ℕ} → Lists (listed words (references_from 0 g.nodes)) a area → Lists (references_call x words) a area
  unfolding references_call
  references-done g e k = rw e k

  module _ (n : ℕ) where
    pub outgoing-refused : (r : ImageRefusal) → x ≡ refuse r → {area : List ℕ} → area ≡ zeros words → Lists (outgoing_call x n words) (Err (ListingRefusal.Image r)) area
    unfolding outgoing_call
    outgoing-refused r e a = rw e (refl, a)

    pub outgoing-done : (g : Graph) → x ≡ ok g → {a : _} {area : List ℕ} → Lists (outgoing_loaded g n words) a area → Lists (outgoing_call x n words) a area
    outgoing-done g e k = rw e k

module _ (g : Graph) (n words : ℕ) where
  pub outgoing-unknown : (traits ((view_of g).node n)).removed ≡ true → {area : List ℕ} → area ≡ zeros words → Lists (outgoing_loaded g n words) (Err (ListingRefusal.Unknown (node_id n))) area
  unfolding outgoing_call listed_unless
  outgoing-unknown e a = rw e (refl, a)

  pub outgoing-known : (traits ((view_of g).node n)).removed ≡ false → {a : _} {area : List ℕ} → Lists (listed words ((view_of g).out n)) a area → Lists (outgoing_loaded g n words) a area
  unfolding outgoing_call listed_unless
  outgoing-known e k = rw e k
