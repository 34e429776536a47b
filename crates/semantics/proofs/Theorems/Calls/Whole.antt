-- DEMAND 3, whole: from the bytes of an image and the words of a database to the used result slots of the two recorded-path calls, both of which see the
-- same files. Then the same with the alias set. The third demand; document 01, "Partial paths", last paragraph; document 02, orders 5 and 8.
use Rattle.std.specs.Prelude.{ℕ, ◌<◌, Bool}
use Rattle.std.proofs.Math.Path.{◌≡◌, refl, ap}
use Rattle.std.proofs.Common.{sym, ◌∙◌, subst}
use Rattle.std.proofs.Math.Bool.{true, false, true≢false}
use mathlib.Core.List.{List, Memᴰ}
use Rattle.semantics.specs.declared.search.SearchStats.{SearchStats}
use Rattle.semantics.specs.declared.refusal.ImageRefusal.{ImageRefusal}
use Rattle.semantics.specs.declared.refusal.DatabaseRefusal.{DatabaseRefusal}
use Rattle.semantics.specs.Limits.{Bounds, nobody}
use Rattle.semantics.specs.Answer.{Answer, ok, refuse}
use Rattle.semantics.specs.Answer.Laws.{ok-inj}
use Rattle.semantics.specs.Graph.{Graph, view_of}
use Rattle.semantics.specs.Graph.Laws.{view_of-lawful}
use Rattle.semantics.specs.Path.{Path}
use Rattle.semantics.specs.Enumeration.{State}
use Rattle.semantics.specs.Direct.{direct}
use Rattle.semantics.specs.Recorded.{recorded}
use Rattle.semantics.specs.Image.{check_image}
use Rattle.semantics.proofs.Theorems.Image.Laws.{image-accepted}
use Rattle.semantics.specs.PartialPaths.{Slot}
use Rattle.semantics.specs.Database.{slots_in, known_owners, check_database}
use Rattle.semantics.specs.Database.Checked.{Checked, checked-words}
use Rattle.semantics.specs.Demand.{file_owners, all_owners, Demand, DemandAll, Holds}
use Rattle.semantics.proofs.Theorems.Demand.Rules.{Exactly, demand-exactly, ExactlyAll, all-exactly}
use Rattle.semantics.specs.Hidden.{every_file, seen, seen_image, seen_slots}
use Rattle.semantics.proofs.Theorems.Hidden.Laws.{seen-accepted, seen-checked}
use Rattle.semantics.proofs.Theorems.Hidden.All.{slots-every}
use Rattle.semantics.proofs.Theorems.Hidden.Holds.{visible-files, visible_all, hide-holds, hide-holds-all}
use Rattle.semantics.specs.Calls.{Request, setting_of, direct_call, stitched_outcome, stitched_call}
use Rattle.semantics.proofs.Theorems.Calls.Laws.{demand, demand-all}
use Rattle.semantics.proofs.Theorems.Calls.Statistics.{direct-identities}
use Rattle.semantics.specs.Calls.Filing.{Refiled, Filed}
use Rattle.semantics.proofs.Theorems.Calls.Filing.{refiled-visible, filed-visible, aliases-visible}
use Rattle.semantics.specs.Calls.Whole.{recorded_set, Finished, Premises, Refiling, AliasPremises, AliasRefiling, direct_recorded, stitched_recorded}
use Rattle.semantics.specs.PublicAnswers.{resolved}

-- `see` are the files that are visible to both
module _ (w : ℕ → ℕ) (bd : Bounds) (see : ℕ → Bool) where
  -- the image as it is seen
  seen-ok : (im : List ℕ) (g : Graph) → check_image w im ≡ ok g → seen_image see (check_image w im) ≡ ok (seen see g)
  unfolding seen_image
  seen-ok im g e = ap (seen_image see) e

  -- DEMAND 3
  pub demand-3 : (im words : List ℕ) (q q' : Request) (p : Premises w bd see im words q q') → Demand bd (view_of (seen see p.graph)) q.node q.limits.length (recorded_set bd (direct_recorded w bd see im q)) (recorded_set bd (stitched_recorded w bd see im words q'))
  demand-3 im words q q' p = on_graph p.direct-finished p.stitched-finished
    where
      g : Graph
      g = seen see p.graph

      on_graph : Finished (direct_recorded w bd see im q) → Finished (stitched_recorded w bd see im words q') → Demand bd (view_of g) q.node q.limits.length (recorded_set bd (direct_recorded w bd see im q)) (recorded_set bd (stitched_recorded w bd see im words q'))
      on_graph = subst (λ (a : Answer ImageRefusal Graph). Finished (direct_call bd recorded a q) → Finished (stitched_call bd recorded known_owners see a words q')
          → Demand bd (view_of g) q.node q.limits.length (recorded_set bd (direct_call bd recorded a q)) (recorded_set bd (stitched_call bd recorded known_owners see a words q'))) (sym (seen-ok im p.graph p.accepted))
          (λ d s. demand bd see g (seen-accepted see p.graph (image-accepted w im p.graph p.accepted)) q q' words p.same-reference p.same-length-limit d.paths s.paths d.stats s.stats d.answered d.uncounted d.uncut s.answered s.uncounted s.uncut p.database-holds)

  -- the premise on databases is met by one that holds every file's partial paths and no others
  pub unhidden-premise : (im : List ℕ) (g : Graph) → check_image w im ≡ ok g → (words : List ℕ) → Holds (file_owners g) bd (view_of g) (slots_in bd words) → Holds (file_owners (seen see g)) bd (view_of (seen see g)) (seen_slots see (slots_in bd words))
  unhidden-premise im g h words holds = hide-holds see g (image-accepted w im g h) bd (slots_in bd words) holds

  -- and by a fresh database in which every visible file was then replaced on this image, without limits and unrefused, and not the alias set
  pub filed-premise : (im : List ℕ) (g : Graph) → check_image w im ≡ ok g → (words done : List ℕ) → Filed bd (check_image w im) words done
      → ((f : ℕ) → f < g.files → see f ≡ true → Memᴰ f done) → (Memᴰ nobody done → ⊥) → Holds (file_owners (seen see g)) bd (view_of (seen see g)) (seen_slots see (slots_in bd words))
  filed-premise im g h words done filed all out =
      let good = image-accepted w im g h in
      visible-files see g good bd (slots_in bd words) (filed-visible bd g good see words done (subst (λ (a : Answer ImageRefusal Graph). Filed bd a words done) h filed) all out)

  -- an unrefused stitched call has met neither 35 nor 34
  stitched-checked : (g : Graph) (words : List ℕ) (q : Request) → Finished (stitched_call bd recorded known_owners see (ok (seen see g)) words q) → Checked bd known_owners g words
  unfolding stitched_call stitched_outcome
  stitched-checked g words q f = on (check_database bd known_owners (seen see g) words) refl f.answered
    where
      on : (a : Answer DatabaseRefusal (List Slot)) → check_database bd known_owners (seen see g) words ≡ a → (stitched_outcome bd recorded see (seen see g) q a).answer ≡ resolved f.paths f.stats → Checked bd known_owners g words
      on (ok db) k e = checked-words bd known_owners g words db (sym (seen-checked bd known_owners see g words) ∙ k)
      on (refuse r) k e = absurd (let z : ◌≡◌ {A = Bool} true false = cc in true≢false z)

  pub refiled-premises : (im before words : List ℕ) (q q' : Request) → Refiling w bd see im before words q q' → Premises w bd see im words q q'
  refiled-premises im before words q q' p =
      let g = p.graph in
      let filed = subst (λ (a : Answer ImageRefusal Graph). Refiled bd a before words p.done) p.accepted p.replaced in
      let good = image-accepted w im g p.accepted in
      let checked = stitched-checked g words q' (subst (λ (a : Answer ImageRefusal Graph). Finished (stitched_call bd recorded known_owners see a words q')) (seen-ok im g p.accepted) p.stitched-finished) in
      record {
        graph = g;
        accepted = p.accepted;
        same-reference = p.same-reference;
        same-length-limit = p.same-length-limit;
        database-holds = visible-files see g good bd (slots_in bd words) (refiled-visible bd g good see before words p.done filed p.every-file p.no-aliases checked);
        direct-finished = p.direct-finished;
        stitched-finished = p.stitched-finished;
      }

  pub demand-3-refiled : (im before words : List ℕ) (q q' : Request) (p : Refiling w bd see im before words q q') → Demand bd (view_of (seen see p.graph)) q.node q.limits.length (recorded_set bd (direct_recorded w bd see im q)) (recorded_set bd (stitched_recorded w bd see im words q'))
  unfolding refiled-premises
  demand-3-refiled im before words q q' p = demand-3 im words q q' (refiled-premises im before words q q' p)

  -- what an unrefused direct call without the flag of the path count has computed
  record Counted (q : Request) (g : Graph) : Type 0 where
    pub state : State Path
    pub found : direct bd q.limits.length (setting_of bd q) (view_of g) q.node ≡ ok state
    pub uncounted : state.stats.count_limited ≡ false

  counted : (im : List ℕ) (q : Request) (g : Graph) → seen_image see (check_image w im) ≡ ok g → Finished (direct_recorded w bd see im q) → Counted q g
  counted im q g h d =
      let b = direct-identities bd recorded (seen_image see (check_image w im)) q d.paths d.stats d.answered in
      let same : b.graph ≡ g = ok-inj b.graph g (sym b.accepted ∙ h) in
      record {
        state = b.state;
        found = subst (λ (g : Graph). direct bd q.limits.length (setting_of bd q) (view_of g) q.node ≡ ok b.state) same b.found;
        uncounted = ap (λ (t : SearchStats). t.count_limited) b.stats ∙ d.uncounted;
      }

  -- DEMAND 3 BY THE RULES: the recorded sets are the lists that the paper's inference rules take, with no bound on their length
  pub demand-3-by-rules : (im words : List ℕ) (q q' : Request) (p : Premises w bd see im words q q') → Exactly q.limits.length (view_of (seen see p.graph)) q.node (recorded_set bd (direct_recorded w bd see im q)) (recorded_set bd (stitched_recorded w bd see im words q'))
  demand-3-by-rules im words q q' p =
      let k = counted im q (seen see p.graph) (seen-ok im p.graph p.accepted) p.direct-finished in
      demand-exactly bd q.limits.length (setting_of bd q) (view_of (seen see p.graph)) (view_of-lawful (seen see p.graph)) q.node k.state k.found k.uncounted _ _ (demand-3 im words q q' p)

  -- both recorded sets are just the valid lists, and agree with no condition on edges
  pub demand-aliases : (im words : List ℕ) (q q' : Request) (p : AliasPremises w bd see im words q q')
      → DemandAll bd (view_of (seen see p.graph)) q.node q.limits.length (recorded_set bd (direct_recorded w bd see im q)) (recorded_set bd (stitched_recorded w bd see im words q'))
  demand-aliases im words q q' p = on_graph p.direct-finished p.stitched-finished
    where
      g : Graph
      g = seen see p.graph

      on_graph : Finished (direct_recorded w bd see im q) → Finished (stitched_recorded w bd see im words q') → DemandAll bd (view_of g) q.node q.limits.length (recorded_set bd (direct_recorded w bd see im q)) (recorded_set bd (stitched_recorded w bd see im words q'))
      on_graph = subst (λ (a : Answer ImageRefusal Graph). Finished (direct_call bd recorded a q) → Finished (stitched_call bd recorded known_owners see a words q')
          → DemandAll bd (view_of g) q.node q.limits.length (recorded_set bd (direct_call bd recorded a q)) (recorded_set bd (stitched_call bd recorded known_owners see a words q'))) (sym (seen-ok im p.graph p.accepted))
          (λ d s. demand-all bd see g (seen-accepted see p.graph (image-accepted w im p.graph p.accepted)) q q' words p.same-reference p.same-length-limit d.paths s.paths d.stats s.stats d.answered d.uncounted d.uncut s.answered s.uncounted s.uncut p.database-holds)

  -- the premise on databases is met by one that holds every file's partial paths, the alias set and no others
  pub unhidden-aliases : (im : List ℕ) (g : Graph) → check_image w im ≡ ok g → (words : List ℕ) → Holds (all_owners g) bd (view_of g) (slots_in bd words) → Holds (all_owners (seen see g)) bd (view_of (seen see g)) (seen_slots see (slots_in bd words))
  unhidden-aliases im g h words holds = hide-holds-all see g (image-accepted w im g h) bd (slots_in bd words) holds

  -- and by any words at all in which every visible file and the alias set were then replaced on this image, without limits and unrefused, in any order
  pub refiled-aliases : (im : List ℕ) (g : Graph) → check_image w im ≡ ok g → (before words done : List ℕ) → Refiled bd (check_image w im) before words done
      → ((f : ℕ) → f < g.files → see f ≡ true → Memᴰ f done) → Memᴰ nobody done → Holds (all_owners (seen see g)) bd (view_of (seen see g)) (seen_slots see (slots_in bd words))
  refiled-aliases im g h before words done b all set =
      let good = image-accepted w im g h in
      visible_all see g good bd (slots_in bd words) (aliases-visible bd g good see before words done (subst (λ (a : Answer ImageRefusal Graph). Refiled bd a before words done) h b) all set)

  pub alias-premises : (im before words : List ℕ) (q q' : Request) → AliasRefiling w bd see im before words q q' → AliasPremises w bd see im words q q'
  alias-premises im before words q q' p = record {
    graph = p.graph;
    accepted = p.accepted;
    same-reference = p.same-reference;
    same-length-limit = p.same-length-limit;
    database-holds = refiled-aliases im p.graph p.accepted before words p.done p.replaced p.every-file p.alias-set;
    direct-finished = p.direct-finished;
    stitched-finished = p.stitched-finished;
  }

  pub demand-aliases-refiled : (im before words : List ℕ) (q q' : Request) (p : AliasRefiling w bd see im before words q q')
      → DemandAll bd (view_of (seen see p.graph)) q.node q.limits.length (recorded_set bd (direct_recorded w bd see im q)) (recorded_set bd (stitched_recorded w bd see im words q'))
  unfolding alias-premises
  demand-aliases-refiled im before words q q' p = demand-aliases im words q q' (alias-premises im before words q q' p)

  -- ORDER 5 BY THE RULES
  pub demand-aliases-by-rules : (im words : List ℕ) (q q' : Request) (p : AliasPremises w bd see im words q q')
      → ExactlyAll q.limits.length (view_of (seen see p.graph)) q.node (recorded_set bd (direct_recorded w bd see im q)) (recorded_set bd (stitched_recorded w bd see im words q'))
  demand-aliases-by-rules im words q q' p =
      let k = counted im q (seen see p.graph) (seen-ok im p.graph p.accepted) p.direct-finished in
      all-exactly bd q.limits.length (setting_of bd q) (view_of (seen see p.graph)) (view_of-lawful (seen see p.graph)) q.node k.state k.found k.uncounted _ _ (demand-aliases im words q q' p)

-- WITH EVERYTHING VISIBLE they say what they said before there was hiding: of the image itself and of all slots
module _ (w : ℕ → ℕ) (bd : Bounds) (im words : List ℕ) (q q' : Request) (g : Graph) (accepted : check_image w im ≡ ok g) (node : q.node ≡ q'.node) (limit : q.limits.length ≡ q'.limits.length)
    (direct-finished : Finished (direct_call bd recorded (check_image w im) q)) (stitched-finished : Finished (stitched_call bd recorded known_owners every_file (check_image w im) words q')) where
  abbrev D : List (List ℕ)
  D = recorded_set bd (direct_call bd recorded (check_image w im) q)

  abbrev S : List (List ℕ)
  S = recorded_set bd (stitched_call bd recorded known_owners every_file (check_image w im) words q')

  pub demand-3-unhidden : Holds (file_owners g) bd (view_of g) (slots_in bd words) → Demand bd (view_of g) q.node q.limits.length D S
  demand-3-unhidden holds = on_graph direct-finished stitched-finished
    where
      on_graph : Finished (direct_call bd recorded (check_image w im) q) → Finished (stitched_call bd recorded known_owners every_file (check_image w im) words q') → Demand bd (view_of g) q.node q.limits.length D S
      on_graph = subst (λ (a : Answer ImageRefusal Graph). Finished (direct_call bd recorded a q) → Finished (stitched_call bd recorded known_owners every_file a words q')
          → Demand bd (view_of g) q.node q.limits.length (recorded_set bd (direct_call bd recorded a q)) (recorded_set bd (stitched_call bd recorded known_owners every_file a words q'))) (sym accepted)
          (λ d s. demand bd every_file g (image-accepted w im g accepted) q q' words node limit d.paths s.paths d.stats s.stats d.answered d.uncounted d.uncut s.answered s.uncounted s.uncut
          (subst (λ (db : List Slot). Holds (file_owners g) bd (view_of g) db) (sym (slots-every (slots_in bd words))) holds))

  pub demand-aliases-unhidden : Holds (all_owners g) bd (view_of g) (slots_in bd words) → DemandAll bd (view_of g) q.node q.limits.length D S
  demand-aliases-unhidden holds = on_graph direct-finished stitched-finished
    where
      on_graph : Finished (direct_call bd recorded (check_image w im) q) → Finished (stitched_call bd recorded known_owners every_file (check_image w im) words q') → DemandAll bd (view_of g) q.node q.limits.length D S
      on_graph = subst (λ (a : Answer ImageRefusal Graph). Finished (direct_call bd recorded a q) → Finished (stitched_call bd recorded known_owners every_file a words q')
          → DemandAll bd (view_of g) q.node q.limits.length (recorded_set bd (direct_call bd recorded a q)) (recorded_set bd (stitched_call bd recorded known_owners every_file a words q'))) (sym accepted)
          (λ d s. demand-all bd every_file g (image-accepted w im g accepted) q q' words node limit d.paths s.paths d.stats s.stats d.answered d.uncounted d.uncut s.answered s.uncounted s.uncut
          (subst (λ (db : List Slot). Holds (all_owners g) bd (view_of g) db) (sym (slots-every (slots_in bd words))) holds))
