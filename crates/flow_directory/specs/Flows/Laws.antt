-- A search that has ended, the checks before it, and the image.
-- Serves document 02, order 11.
use Rattle.std.specs.Prelude.{ℕ, Bool, eqb, length, Ok, Err}
use Rattle.std.proofs.Common.{arith, subst, ◌∙◌, ⊎_elim, eqb-true}
use Rattle.std.proofs.Math.Path.{◌≡◌, refl, sym, ap, ap₂}
use Rattle.std.proofs.Math.Bool.{true, false}
use Rattle.std.proofs.Math.Option.{Option, none, some}
use mathlib.Core.List.Memᴰ
use mathlib.Core.List.{List, [], ◌∷◌, Memᴰ}
use Rattle.semantics.specs.declared.search.SearchStats.{SearchStats}
use Rattle.semantics.specs.declared.refusal.ImageRefusal.{ImageRefusal}
use Rattle.semantics.specs.declared.refusal.SearchRefusal.{SearchRefusal}
use Rattle.semantics.specs.declared.answer.Definitions.{Definitions}
use Rattle.semantics.specs.Lists.{and}
use Rattle.semantics.specs.Lists.Laws.{and-true}
use Rattle.semantics.specs.Limits.{base, slot_length, isin_bytes}
use Rattle.semantics.specs.Answer.{Answer, ok, refuse}
use Rattle.semantics.specs.Graph.{Graph, view_of}
use Rattle.semantics.specs.Graph.Laws.{view_of-lawful}
use Rattle.semantics.specs.Path.{Path, is_complete, shadows}
use Rattle.semantics.specs.Enumeration.{State, figured, report_of}
use Rattle.semantics.specs.Recorded.{edge_lists, beaten, cons_unless, unbeaten, recorded, returned}
use Rattle.semantics.specs.Demand.{Taken}
use Rattle.semantics.specs.Words.{zeros, area}
use Rattle.semantics.specs.Calls.{setting_of}
use Rattle.semantics.proofs.Theorems.Finding.Laws.{kept-taken, recorded-kept}
use Rattle.semantics.specs.Isin.{in_form, is_checked, is_isin}
use Rattle.semantics.specs.declared.search.SearchOrder.{SearchOrder}
use Rattle.semantics.specs.declared.search.SearchLimits.{SearchLimits}
use Rattle.semantics.specs.Directory.{FlowKey, FlowRequest, definitions_of, ends_of, is_directory, looked_up, flow_outcome, resolved, if_found, if_directory, if_isin, flow_call}
use Rattle.semantics.specs.Entries.{Does}
use Rattle.search_state.specs.declared.search.Finished.{Finished}
use Rattle.search_state.specs.Searches.{report_in}
use Rattle.search_state.specs.Reps.{Counts}
use Rattle.reply.specs.declared.finish.Reply.TheVariants.{Returned}
use Rattle.reply.specs.Ends.{Stand}
use Rattle.reply.specs.Replies.{Replied}
use Rattle.reply.specs.ResultSlots.{AllFitting, Lists}
use Rattle.reply.specs.Ends.Laws.{stand-lists}
use Rattle.search_rounds.specs.Drives.{SearchEnd}
use Rattle.search_rounds.specs.Finishes.{ends-over, ends-refused}
use Rattle.direct_search.specs.DirectAnswers.{direct_of}
use Rattle.direct_search.specs.DirectAnswers.Laws.{kept-replays}
use Rattle.flow_directory.specs.declared.rows.LookUpRefusal.TheVariants.{Missing, Disordered}
use Rattle.flow_directory.specs.Keys.{Looked, looked_of}
use Rattle.flow_directory.specs.Ends.{slot_end, Ending}
use Rattle.flow_directory.specs.Ends.Laws.{stand-fits, stand-definitions}
use Rattle.flow_directory.specs.Flows.{Ended, resolved_of, listed_of}
use Rattle.semantics.specs.PublicAnswers.{Flow, flowed}
use Rattle.semantics.specs.declared.answer.FlowRefusal.{FlowRefusal}

-- ---- a returned path was kept

unbeaten-in : (beats : Path → Path → Bool) (all ps : List Path) (p : Path) → Memᴰ p (unbeaten beats all ps) → Memᴰ p ps
unfolding unbeaten cons_unless
unbeaten-in beats all [] p m = m
unbeaten-in beats all (q ∷ ps) p m = on (beaten beats q all) m (λ k. unbeaten-in beats all ps p k)
  where
    on : (b : Bool) → Memᴰ p (cons_unless b q (unbeaten beats all ps)) → (Memᴰ p (unbeaten beats all ps) → Memᴰ p ps) → Memᴰ p (q ∷ ps)
    on true k ih = Memᴰ.tail (ih k)
    on false k ih = ⊎_elim (λ (e : p ≡ q). Memᴰ.head e) (λ i. Memᴰ.tail (ih i)) (Memᴰ.cases_cons k)

returned-recorded : (u : State Path) (p : Path) → Memᴰ p (returned u) → Memᴰ p (recorded u)
unfolding returned
returned-recorded u p m = unbeaten-in shadows (recorded u) (recorded u) p m

-- ---- A SEARCH THAT HAS ENDED
module _ {index : List ℕ} {d : SearchEnd} {rs : List ℕ} (v : Ended index d rs) where
  abbrev graph_of : Graph
  graph_of = v.there.graph

  pub refused-does : (q : FlowRequest) → length rs ≡ q.result → (x : SearchRefusal) → d ≡ Err x → {ws' rs' : List ℕ} → ws' ≡ zeros q.work → rs' ≡ zeros (length rs)
      → Does (flow_outcome base q (direct_of graph_of v.request)) (Err (FlowRefusal.Refused x)) ws' rs'
  unfolding flow_outcome
  refused-does q long x e w r = rw (ends-refused d rs (direct_of graph_of v.request) x v.ends e) (refl, w, r ∙ ap zeros long)

  module _ (n : Finished) (e : d ≡ Ok n) where
    over : (u : State Path) × (direct_of graph_of v.request ≡ ok u) × Counts n.state rs u × (n.waited ≡ u.tally.waited)
    over = ends-over d rs (direct_of graph_of v.request) n v.ends e

    stand : Stand slot_length n.state.kept rs over.0.kept
    stand = record { words = over.2.words; count = over.2.kept }

    pub over-lists : Lists slot_length n.state.kept rs
    over-lists = stand-lists base (view_of graph_of) (kept-replays graph_of v.request over.0 over.1) stand

    good : (p : Path) → Memᴰ p (returned over.0) → Taken base v.request.limits.length (view_of graph_of) v.request.node p.edges p × (is_complete (view_of graph_of) p ≡ true)
    good p m =
        let q = v.request in
        kept-taken base q.limits.length (setting_of base q) (view_of graph_of) (view_of-lawful graph_of) q.node over.0 over.1 p
        (recorded-kept base q.limits.length (setting_of base q) (view_of graph_of) (view_of-lawful graph_of) q.node over.0 over.1 p (returned-recorded over.0 p m))

    module _ (r : ℕ) (rs' : List ℕ) (f : Replied index Returned n.state.kept rs r rs') where
      left : Stand slot_length r rs' (returned over.0)
      left = f graph_of over.0 v.there.loaded v.there.jump (kept-replays graph_of v.request over.0 over.1) stand

      pub over-fits : AllFitting slot_length r rs'
      over-fits = stand-fits index graph_of v.there.loaded v.request.limits.length v.request.node (returned over.0) good r rs' left

      pub over-does : (x : Definitions) → Ending (slot_end index rs') r x → (q : FlowRequest) → length rs' ≡ length rs → length rs ≡ q.result → {ws' : List ℕ} → ws' ≡ zeros q.work → {t : SearchStats} → t ≡ report_in n
          → Does (flow_outcome base q (direct_of graph_of v.request)) (flowed x r t) ws' rs'
      unfolding flow_outcome
      over-does x h q k long w {t} s =
          let y : x ≡ definitions_of (ends_of (returned over.0)) = stand-definitions index graph_of v.there.loaded v.request.limits.length v.request.node (returned over.0) good r rs' left x h in
          let c : t ≡ report_of over.0 = s ∙ ap₂ figured over.3 over.2.stats in
          rw over.1 (
            ap (λ (z : Definitions). flowed z r t) y ∙ ap (λ (m : ℕ). flowed (definitions_of (ends_of (returned over.0))) m t) left.count ∙ ap (flowed (definitions_of (ends_of (returned over.0))) (length (returned over.0))) c,
            w,
            left.words ∙ ap (λ (m : ℕ). area slot_length m (edge_lists (returned over.0))) (k ∙ long),
          )

never : ◌≡◌ {A = ℕ} 0 1 → ⊥
never e = omega (arith, e)

found-inj : (x y : ℕ) → ◌≡◌ {A = Looked} (Ok x) (Ok y) → x ≡ y
found-inj x y e = cc

-- ---- BEFORE IT: 41, 42, 43
pub isin-long : (cs : List ℕ) → is_isin cs ≡ true → length cs ≡ isin_bytes
unfolding is_isin
isin-long cs h = eqb-true (length cs) isin_bytes (and-true (eqb (length cs) isin_bytes) (and (in_form 0 cs) (is_checked cs)) h).0

module _ (g : Graph) (rows : List ℕ) (q : FlowRequest) where
  pub malformed-does : is_isin q.key.isin ≡ false → (a : Flow) → a ≡ Err FlowRefusal.MalformedIsin → (ws rs : List ℕ) → ws ≡ zeros q.work → rs ≡ zeros q.result → Does (listed_of g rows q) a ws rs
  unfolding flow_call if_isin
  malformed-does h a e ws rs w r = rw h (e, w, r)

  listed-is : listed_of g rows q ≡ if_isin base (is_isin q.key.isin) rows g q
  unfolding flow_call
  listed-is = refl

  isin-is : if_isin base true rows g q ≡ if_directory base (is_directory rows) rows g q
  unfolding if_isin
  isin-is = refl

  directory-is : if_directory base true rows g q ≡ if_found base (looked_up rows q.key) g q
  unfolding if_directory
  directory-is = refl

  found-is : (x : ℕ) → if_found base (some x) g q ≡ resolved_of g q x
  unfolding if_found
  found-is x = refl

  module _ (isin : is_isin q.key.isin ≡ true) (l : Looked) (is : l ≡ looked_of (is_directory rows) (looked_up rows q.key)) where
    found-there : (r : ℕ) → l ≡ Ok r → listed_of g rows q ≡ resolved_of g q r
    found-there r e = on (is_directory rows) (looked_up rows q.key) refl refl
      where
        on : (b : Bool) (o : Option ℕ) → is_directory rows ≡ b → looked_up rows q.key ≡ o → listed_of g rows q ≡ resolved_of g q r
        on true (some x) f k =
            let z : ◌≡◌ {A = Looked} (Ok r) (Ok x) = sym e ∙ is ∙ ap₂ looked_of f k in
            let y : x ≡ r = found-inj x r (sym z) in
            listed-is ∙ ap (λ (b : Bool). if_isin base b rows g q) isin ∙ isin-is ∙ ap (λ (b : Bool). if_directory base b rows g q) f ∙ directory-is ∙ ap (λ (o : Option ℕ). if_found base o g q) k ∙ found-is x ∙ ap (λ (i : ℕ). resolved_of g q i) y
        on true none f k = absurd (let z : ◌≡◌ {A = Looked} (Ok r) (Err Missing) = sym e ∙ is ∙ ap₂ looked_of f k in let y : ◌≡◌ {A = ℕ} 0 1 = cc in never y)
        on false o f k = absurd (let z : ◌≡◌ {A = Looked} (Ok r) (Err Disordered) = sym e ∙ is ∙ ap₂ looked_of f k in let y : ◌≡◌ {A = ℕ} 0 1 = cc in never y)

    pub found-does : (r : ℕ) → l ≡ Ok r → (a : Flow) (ws rs : List ℕ) → Does (resolved_of g q r) a ws rs → Does (listed_of g rows q) a ws rs
    found-does r e a ws rs h = rw (found-there r e) h

    pub missing-does : l ≡ Err Missing → (a : Flow) → a ≡ Err FlowRefusal.UnknownKey → (ws rs : List ℕ) → ws ≡ zeros q.work → rs ≡ zeros q.result → Does (listed_of g rows q) a ws rs
    unfolding if_directory if_found flow_call if_isin
    missing-does e a j ws rs w r = on (is_directory rows) (looked_up rows q.key) refl refl
      where
        on : (b : Bool) (o : Option ℕ) → is_directory rows ≡ b → looked_up rows q.key ≡ o → Does (listed_of g rows q) a ws rs
        on true none f k = rw (isin, f, k) (j, w, r)
        on true (some x) f k = absurd (let z : ◌≡◌ {A = Looked} (Err Missing) (Ok x) = sym e ∙ is ∙ ap₂ looked_of f k in let y : ◌≡◌ {A = ℕ} 0 1 = cc in never y)
        on false o f k = absurd (let z : ◌≡◌ {A = Looked} (Err Missing) (Err Disordered) = sym e ∙ is ∙ ap₂ looked_of f k in let y : ◌≡◌ {A = ℕ} 0 1 = cc in never y)

    pub disordered-does : l ≡ Err Disordered → (a : Flow) → a ≡ Err FlowRefusal.Disordered → (ws rs : List ℕ) → ws ≡ zeros q.work → rs ≡ zeros q.result → Does (listed_of g rows q) a ws rs
    unfolding if_directory if_found flow_call if_isin
    disordered-does e a j ws rs w r = on (is_directory rows) (looked_up rows q.key) refl refl
      where
        on : (b : Bool) (o : Option ℕ) → is_directory rows ≡ b → looked_up rows q.key ≡ o → Does (listed_of g rows q) a ws rs
        on false o f k = rw (isin, f) (j, w, r)
        on true none f k = absurd (let z : ◌≡◌ {A = Looked} (Err Disordered) (Err Missing) = sym e ∙ is ∙ ap₂ looked_of f k in let y : ◌≡◌ {A = ℕ} 0 1 = cc in never y)
        on true (some x) f k = absurd (let z : ◌≡◌ {A = Looked} (Err Disordered) (Ok x) = sym e ∙ is ∙ ap₂ looked_of f k in let y : ◌≡◌ {A = ℕ} 0 1 = cc in never y)

-- ---- THE IMAGE
module _ (rows : List ℕ) (q : FlowRequest) (y : Answer ImageRefusal Graph) where
  pub image-refused : (x : ImageRefusal) → y ≡ refuse x → (a : Flow) → a ≡ Err (FlowRefusal.Image x) → (ws rs : List ℕ) → ws ≡ zeros q.work → rs ≡ zeros q.result → Does (flow_call base y rows q) a ws rs
  unfolding flow_call
  image-refused x e a f ws rs w r = rw e (f, w, r)

  pub image_does : (g : Graph) → y ≡ ok g → (a : Flow) (ws rs : List ℕ) → Does (listed_of g rows q) a ws rs → Does (flow_call base y rows q) a ws rs
  image_does g e a ws rs h = rw e h

-- ---- from a reference on, in a result area of the same length
pub from-does : (g : Graph) (k : FlowKey) (order : SearchOrder) (limits : SearchLimits) (w o o' r : ℕ) → o ≡ o' → (a : Flow) (ws rs : List ℕ)
    → Does (flow_outcome base (record { order = order; limits = limits; work = w; result = o; key = k }) (direct_of g (record { order = order; limits = limits; work = w; result = o; node = r }))) a ws rs
    → Does (resolved_of g (record { order = order; limits = limits; work = w; result = o'; key = k }) r) a ws rs
unfolding resolved
from-does g k order limits w o o' r e a ws rs h = subst (λ (m : ℕ). Does (flow_outcome base (record { order = order; limits = limits; work = w; result = m; key = k }) (direct_of g (record { order = order; limits = limits; work = w; result = m; node = r }))) a ws rs) e h
