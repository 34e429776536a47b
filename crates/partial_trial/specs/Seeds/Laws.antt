-- The starts: each push is the enumeration's, and the seeding from here is the seeding from the start.
-- Serves document 01, "Partial paths"; 31 of "Turned back".
use Rattle.std.specs.Prelude.{ℕ, suc, ◌+◌, ◌<◌, ◌≤◌, ◌≡◌, Bool, eqb, length, drop}
use Rattle.std.proofs.Common.{arith, add-one, ◌∙◌, drop_of_length-le}
use Rattle.std.proofs.Math.Path.{refl, sym, ap, subst}
use Rattle.std.proofs.Math.Bool.{true, false}
use mathlib.Core.List.{List, ◌∷◌, map}
use Rattle.std.proofs.Math.Seq.{drop-cons}
use Rattle.semantics.specs.declared.graph.Node.{Node}
use Rattle.semantics.specs.declared.graph.Node.TheVariants as N
use Rattle.semantics.specs.declared.refusal.PartialPathRefusal.{PartialPathRefusal}
use Rattle.semantics.specs.Lists.{pick, and}
use Rattle.semantics.specs.Limits.{nobody}
use Rattle.semantics.specs.Answer.{Answer, ok, refuse}
use Rattle.semantics.specs.Answer.Laws.{ok-inj, refuse-ok}
use Rattle.semantics.specs.Graph.{Graph, View, view_of, file_of, is_file, is_start}
use Rattle.semantics.specs.Enumeration.{State, Setting, push_item}
use Rattle.semantics.specs.Enumeration as Enumeration
use Rattle.semantics.specs.PartialPaths.{Route, route_at, starts_from}
use Rattle.semantics.specs.Demand.{stay}
use Rattle.storage.specs.Index.{node_row, Loaded}
use Rattle.words.specs.Slots.{IsSlot}
use Rattle.path_frontier.specs.Frontier.{Framed}
use Rattle.partial_state.specs.Routes.{held, Traced}
use Rattle.partial_state.specs.Extractions.{Computation, Course, goes, stops, Extends}
use Rattle.partial_state.specs.Reps.{frame_of, setting_of, Rep, Tells}
use Rattle.partial_state.specs.Reps.Laws.{push-tells, tells-on, tells-refused}
use Rattle.partial_state.specs.declared.extraction.ExtractionFrame.{ExtractionFrame}
use Rattle.partial_trial.specs.Seeds.{starts_of, Seeding, Started, NodeSeeded, FileSeeded, Seeded}

-- ---- one start

traced-start : (g : View) (file n : ℕ) → Traced g file (route_at n)
traced-start g file n = record { walk = stay; short = omega arith }

module _ {item : List ℕ} {x : Computation} {ws : List ℕ} (v : Seeding item x ws) where
  pub start-pushes : (item' : List ℕ) → length item' ≡ length item → Framed x.frontier ws × IsSlot x.frontier.length item'
  start-pushes item' e = (v.rep.stands.0.framed, e ∙ v.slot)

  pub start-begins : 2 ≤ length item
  start-begins = omega (arith, v.slot, v.rep.sized.start)

  pub started : (n : ℕ) {item' : List ℕ} → item' ≡ held (length item) (route_at n) → {a : Course} {ws' : List ℕ} → Extends x ws item' a ws' → Started item x ws v n a ws'
  started n e {a} {ws'} h = push-tells v.rep (route_at n) (traced-start v.view v.filing.file n, omega (arith, v.rep.sized.start)) (subst (λ (i : List ℕ). Extends x ws i a ws') (e ∙ ap (λ (y : ℕ). held y (route_at n)) v.slot) h)

  -- ---- one node
  module _ {g : Graph} {index : List ℕ} (loaded : Loaded g index) (file n : ℕ) {b : Bool} (mine : b ≡ is_file file (file_of (node_row index n))) where
    own : is_file file (file_of ((view_of g).node n)) ≡ b
    own = sym (mine ∙ ap (λ (y : Node). is_file file (file_of y)) (loaded.node n))

    pub node-foreign : b ≡ false → NodeSeeded item x ws v g file n (goes x) ws
    node-foreign p = rw (own ∙ p) (refl, v.rep)

    module _ {d : Bool} (begins : d ≡ is_start (node_row index n)) where
      start : is_start ((view_of g).node n) ≡ d
      start = sym (begins ∙ ap is_start (loaded.node n))

      pub node-started : b ≡ true → d ≡ true → (a : Course) (ws' : List ℕ) → Started item x ws v n a ws' → NodeSeeded item x ws v g file n a ws'
      node-started p q a ws' h = rw (own ∙ p, start ∙ q) h

      pub node-other : b ≡ true → d ≡ false → NodeSeeded item x ws v g file n (goes x) ws
      node-other p q = rw (own ∙ p, start ∙ q) (refl, v.rep)

-- ---- the nodes of a list

module _ {R : Type 0} (c : Setting R) (file i : ℕ) (n : Node) (ns : List Node) (s : State Route) where
  start-on : (u : State Route) → pick (and (is_file file (file_of n)) (is_start n)) (push_item c (route_at i) s) (ok s) ≡ ok u
      → Enumeration.seed c s (map route_at (starts_from file i (n ∷ ns))) ≡ Enumeration.seed c u (map route_at (starts_from file (suc i) ns))
  unfolding Enumeration.seed starts_from
  start-on u h = on (and (is_file file (file_of n)) (is_start n)) refl h
    where
      on : (b : Bool) → and (is_file file (file_of n)) (is_start n) ≡ b → pick b (push_item c (route_at i) s) (ok s) ≡ ok u
          → Enumeration.seed c s (map route_at (starts_from file i (n ∷ ns))) ≡ Enumeration.seed c u (map route_at (starts_from file (suc i) ns))
      on true q h = rw (q, h)
      on false q h = rw q (ap (λ (y : State Route). Enumeration.seed c y (map route_at (starts_from file (suc i) ns))) (ok-inj s u h))

  start-stop : (r : R) → pick (and (is_file file (file_of n)) (is_start n)) (push_item c (route_at i) s) (ok s) ≡ refuse r → Enumeration.seed c s (map route_at (starts_from file i (n ∷ ns))) ≡ refuse r
  unfolding Enumeration.seed starts_from
  start-stop r h = on (and (is_file file (file_of n)) (is_start n)) refl h
    where
      on : (b : Bool) → and (is_file file (file_of n)) (is_start n) ≡ b → pick b (push_item c (route_at i) s) (ok s) ≡ refuse r → Enumeration.seed c s (map route_at (starts_from file i (n ∷ ns))) ≡ refuse r
      on true q h = rw (q, h)
      on false q h = absurd (refuse-ok r s (sym h))

module _ {item₀ : List ℕ} {x : Computation} {ws₀ : List ℕ} (v : Seeding item₀ x ws₀) (g : Graph) (file : ℕ) where
  abbrev whole : Answer PartialPathRefusal (State Route)
  whole = Enumeration.seed (setting_of (frame_of x)) v.model (map route_at (starts_from file 0 g.nodes))

  -- at the head of the loop over the nodes
  pub record Begun (on : Computation) (ws : List ℕ) (n : ℕ) : Type 0 where
    pub state : State Route
    pub frame : frame_of on ≡ frame_of x
    pub stood : Rep v.view v.filing v.origin on ws v.database state
    pub same : Enumeration.seed (setting_of (frame_of x)) state (map route_at (starts_from file n (drop n g.nodes))) ≡ whole

  pub begun-start : Begun x ws₀ 0
  begun-start = record { state = v.model; frame = refl; stood = v.rep; same = refl }

  module _ {on : Computation} (item : List ℕ) {ws : List ℕ} {n : ℕ} (m : Begun on ws n) (long : length item ≡ length item₀) where
    pub begun-given : Seeding item on ws
    begun-given = record { view = v.view; filing = v.filing; origin = v.origin; database = v.database; slot = long ∙ v.slot ∙ sym (ap (λ (y : ExtractionFrame). y.slot) m.frame); model = m.state; rep = m.stood }

    module _ (h : n < length g.nodes) (a : Course) (ws' : List ℕ) (t : NodeSeeded item on ws begun-given g file n a ws') where
      here : drop n g.nodes ≡ (view_of g).node n ∷ drop (suc n) g.nodes
      unfolding view_of
      here = drop-cons g.nodes n N.Removed h

      abbrev looking : Answer PartialPathRefusal (State Route)
      looking = pick (and (is_file file (file_of ((view_of g).node n))) (is_start ((view_of g).node n))) (push_item (setting_of (frame_of x)) (route_at n) m.state) (ok m.state)

      told : Tells v.view v.filing v.origin (frame_of x) a ws' v.database looking
      unfolding begun-given
      told = subst (λ (y : ExtractionFrame). Tells v.view v.filing v.origin y a ws' v.database (pick (and (is_file file (file_of ((view_of g).node n))) (is_start ((view_of g).node n))) (push_item (setting_of y) (route_at n) m.state) (ok m.state))) m.frame t

      pub begun-again : (next : Computation) → a ≡ goes next → Begun next ws' (n + 1)
      begun-again next e =
          let u = tells-on v.view v.filing v.origin (frame_of x) a ws' v.database looking next told e in
          record {
            state = u.0;
            frame = u.2;
            stood = u.3;
            same = rw add-one
                (sym (start-on (setting_of (frame_of x)) file n ((view_of g).node n) (drop (suc n) g.nodes) m.state u.0 u.1)
                ∙ ap (λ (l : List Node). Enumeration.seed (setting_of (frame_of x)) m.state (map route_at (starts_from file n l))) (sym here)
                ∙ m.same);
          }

      pub begun-refused : (y : PartialPathRefusal) → a ≡ stops y → FileSeeded item₀ x ws₀ v g file a ws'
      begun-refused y e =
          let u = tells-refused v.view v.filing v.origin (frame_of x) a ws' v.database looking y told e in
          let z : whole ≡ refuse y =
          sym m.same ∙ ap (λ (l : List Node). Enumeration.seed (setting_of (frame_of x)) m.state (map route_at (starts_from file n l))) here ∙ start-stop (setting_of (frame_of x)) file n ((view_of g).node n) (drop (suc n) g.nodes) m.state y u.0 in
          subst (λ (o : Course). Tells v.view v.filing v.origin (frame_of x) o ws' v.database whole) (sym e)
          (subst (λ (o : Answer PartialPathRefusal (State Route)). Tells v.view v.filing v.origin (frame_of x) (stops y) ws' v.database o) (sym z) (refl, u.1))

    pub begun-end : length g.nodes ≤ n → FileSeeded item₀ x ws₀ v g file (goes on) ws
    unfolding Enumeration.seed starts_from
    begun-end h =
        let z : whole ≡ ok m.state = sym m.same ∙ ap (λ (l : List Node). Enumeration.seed (setting_of (frame_of x)) m.state (map route_at (starts_from file n l))) (drop_of_length-le g.nodes h) in
        subst (λ (o : Answer PartialPathRefusal (State Route)). Tells v.view v.filing v.origin (frame_of x) (goes on) ws v.database o) (sym z) (m.frame, m.stood)

-- ---- root first

module _ {item : List ℕ} {x : Computation} {ws : List ℕ} (v : Seeding item x ws) (a : Course) (ws' : List ℕ) (t : Started item x ws v 0 a ws') where
  abbrev pushed_root : Answer PartialPathRefusal (State Route)
  pushed_root = push_item (setting_of (frame_of x)) (route_at 0) v.model

  abbrev pub rooted : (next : Computation) → a ≡ goes next → (m : State Route) × (pushed_root ≡ ok m) × (frame_of next ≡ frame_of x) × Rep v.view v.filing v.origin next ws' v.database m
  rooted next e = tells-on v.view v.filing v.origin (frame_of x) a ws' v.database pushed_root next t e

  -- what the file's own starts are given
  pub root-given : (next : Computation) → a ≡ goes next → (item' : List ℕ) → length item' ≡ length item → Seeding item' next ws'
  root-given next e item' l = let u = rooted next e in record { view = v.view; filing = v.filing; origin = v.origin; database = v.database; slot = l ∙ v.slot ∙ sym (ap (λ (y : ExtractionFrame). y.slot) u.2); model = u.0; rep = u.3 }

  pub root-refused : (g : Graph) (file : ℕ) (y : PartialPathRefusal) → a ≡ stops y → Seeded item x ws v g file a ws'
  unfolding Enumeration.seed
  root-refused g file y e =
      let u = tells-refused v.view v.filing v.origin (frame_of x) a ws' v.database pushed_root y t e in
      subst (λ (o : Course). Tells v.view v.filing v.origin (frame_of x) o ws' v.database (Enumeration.seed (setting_of (frame_of x)) v.model (starts_of g file))) (sym e) (rw u.0 (refl, u.1))

  -- nobody's starts are root alone
  pub root-alone : (g : Graph) (owner : ℕ) → eqb owner nobody ≡ true → (next : Computation) → a ≡ goes next → Seeded item x ws v g owner (goes next) ws'
  unfolding Enumeration.seed
  root-alone g owner q next e =
      let u = rooted next e in
      let z : Enumeration.seed (setting_of (frame_of x)) v.model (starts_of g owner) ≡ pushed_root = rw (q, u.1) in
      subst (λ (o : Answer PartialPathRefusal (State Route)). Tells v.view v.filing v.origin (frame_of x) (goes next) ws' v.database o) (sym z)
      (subst (λ (b : Course). Tells v.view v.filing v.origin (frame_of x) b ws' v.database pushed_root) e t)

  pub root-on : (g : Graph) (file : ℕ) → eqb file nobody ≡ false → (next : Computation) (e : a ≡ goes next) (item' : List ℕ) (l : length item' ≡ length item) (b : Course) (ws'' : List ℕ) → FileSeeded item' next ws' (root-given next e item' l) g file b ws'' → Seeded item x ws v g file b ws''
  unfolding Enumeration.seed root-given
  root-on g file q next e item' l b ws'' h =
      let u = rooted next e in
      rw (u.1, q) (subst (λ (y : ExtractionFrame). Tells v.view v.filing v.origin y b ws'' v.database (Enumeration.seed (setting_of y) u.0 (map route_at (starts_from file 0 g.nodes)))) u.2 h)
