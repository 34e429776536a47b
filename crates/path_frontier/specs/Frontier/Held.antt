-- Laws of the slots that wait: what a push writes, and what the two pops take.
-- Serves document 01, "Budget and frontier".
use Rattle.std.proofs.Math.Path.{◌≡◌, refl, ap, subst}
use Rattle.std.proofs.Common.{sym, ◌∙◌, ⊎_elim}
use Rattle.std.specs.Prelude.{◌⊎◌}
use mathlib.Core.List.{List, [], ◌∷◌, ◌++◌}
use Prim.Native.Nat.{ℕ, suc, ◌+◌, ◌-◌, ◌≤◌, ◌<◌}
use native.Mathlib.Omega.{arith}
use Rattle.std.proofs.Math.ListN.{length, take}
use Rattle.std.proofs.Math.Seq.{take-suc}
use Rattle.semantics.specs.Words.{slots_of}
use Rattle.semantics.specs.declared.search.SearchOrder.TheVariants.{BreadthFirst, DepthFirst}
use Rattle.words.specs.Ring.{ring, ring-wrap, ring-zero}
use Rattle.words.specs.Reversal.{rev_range, rev_range-take}
use Rattle.words.specs.Area.{ring-put, ring-first}
use Rattle.words.specs.Slots.{IsSlot, SlotsIn, slot_at, put_slot, reverse_slots}
use Rattle.words.specs.Slots.Laws.{slots-within, length-slots, get_or-slots}
use Rattle.words.specs.Slots.Reversed.{slots-reverse, length-reverse-slots}
use Rattle.path_frontier.specs.declared.frontier.Frontier.{Frontier}
use Rattle.path_frontier.specs.Frontier.{Framed, held, pushed, taken, Shrunk, Front, Back}

module _ (f : Frontier) (ws : List ℕ) (ok : Framed f ws) where
  -- slot i is the one behind those that wait
  pub push-holds : (i : ℕ) (s : List ℕ) → f.count < f.capacity → IsSlot f.length s → i < f.capacity → (f.first + f.count ≡ i) ⊎ (f.first + f.count ≡ i + f.capacity)
      → held (pushed f) (put_slot f.length i s ws) ≡ held f ws ++ (s ∷ [])
  unfolding held
  push-holds i s h e b w = ring-put f.length f.capacity f.first f.count i s ws (omega (arith, ok.inside)) h b w e ok.room

  -- the place of the ring after its first slot is taken
  ring-next : (m i : ℕ) → i < f.capacity → (f.first + 1 ≡ i) ⊎ (f.first + 1 ≡ i + f.capacity) → ring (f.first + 1) m (slots_of f.length f.capacity ws) ≡ ring i m (slots_of f.length f.capacity ws)
  ring-next m i b w =
      let ss : List (List ℕ) = slots_of f.length f.capacity ws in
      let l : length ss ≡ f.capacity = length-slots f.length f.capacity ws in
      ⊎_elim
      (λ (u : f.first + 1 ≡ i). ap (λ (k : ℕ). ring k m ss) u)
      (λ (u : f.first + 1 ≡ i + f.capacity).
      let a : f.first + 1 ≡ length ss = omega (arith, ok.inside) in
      let z : 0 ≡ i = omega (arith, ok.inside) in
      ap (λ (k : ℕ). ring k m ss) a ∙ ring-wrap m ss ∙ ap (λ (k : ℕ). ring k m ss) z)
      w

  -- slot i is the one behind the first
  pub front-holds : (i : ℕ) → 0 < f.count → i < f.capacity → (f.first + 1 ≡ i) ⊎ (f.first + 1 ≡ i + f.capacity)
      → held f ws ≡ slot_at f.length f.first ws ∷ ring i (f.count - 1) (slots_of f.length f.capacity ws)
  unfolding held
  front-holds i h b w =
      let m : ℕ = f.count - 1 in
      let ss : List (List ℕ) = slots_of f.length f.capacity ws in
      let q : f.count ≡ m + 1 = omega arith in
      ap (λ (k : ℕ). ring f.first k ss) q
      ∙ ring-first f.length f.capacity f.first m ws (omega (arith, ok.inside)) (omega (arith, ok.counted))
      ∙ ap (λ (l : List (List ℕ)). slot_at f.length f.first ws ∷ l) (ring-next m i b w)

  -- the last slot after the newest are turned round
  pub back-holds : f.first ≡ 0 → 0 < f.count
      → let ws' : List ℕ = reverse_slots f.length (f.count - f.pending) f.pending ws in
      rev_range (f.count - f.pending) f.pending (held f ws) ≡ ring f.first (f.count - 1) (slots_of f.length f.capacity ws') ++ (slot_at f.length (f.count - 1) ws' ∷ [])
  unfolding held
  back-holds z h =
      let L : ℕ = f.length in
      let c : ℕ = f.capacity in
      let lo : ℕ = f.count - f.pending in
      let n : ℕ = f.pending in
      let m : ℕ = f.count - 1 in
      let ws' : List ℕ = reverse_slots L lo n ws in
      let ss : List (List ℕ) = slots_of L c ws in
      let ss' : List (List ℕ) = slots_of L c ws' in
      let l : length ss ≡ c = length-slots L c ws in
      let l' : length ss' ≡ c = length-slots L c ws' in
      let a : f.count ≡ lo + n = omega (arith, ok.newest) in
      let q : lo + n ≡ suc m = omega (arith, ok.newest) in
      let inside : lo + n ≤ c = omega (arith, ok.newest, ok.counted) in
      ap (λ (k : ℕ). rev_range lo n (ring k f.count ss)) z
      ∙ ap (rev_range lo n) (ring-zero f.count ss ∙ ap (λ (k : ℕ). take k ss) a)
      ∙ rev_range-take lo n ss (omega arith)
      ∙ ap (take (lo + n)) (sym (slots-reverse L c lo n ws inside ok.room))
      ∙ ap (λ (k : ℕ). take k ss') q
      ∙ take-suc ss' m [] (omega arith)
      ∙ ap (λ (s : List ℕ). take m ss' ++ (s ∷ [])) (get_or-slots L c m ws' (omega arith))
      ∙ ap (λ (x : List (List ℕ)). x ++ (slot_at L m ws' ∷ [])) (sym (ring-zero m ss') ∙ ap (λ (k : ℕ). ring k m ss') (sym z))

  -- ---- the frontier stays framed

  pub framed-pushed : (ws' : List ℕ) → f.count < f.capacity → length ws' ≡ length ws → Framed (pushed f) ws'
  framed-pushed ws' h e = record {
    wordy = ok.wordy;
    counted = omega arith;
    newest = omega (arith, ok.newest);
    inside = ok.inside;
    room = omega (arith, ok.room);
    starts = ok.starts;
  }

  framed-taken : (i : ℕ) (ws' : List ℕ) → i ≤ f.capacity - 1 → length ws' ≡ length ws → (f.order ≡ DepthFirst → i ≡ 0) → Framed (taken f i) ws'
  framed-taken i ws' b e z = record {
    wordy = ok.wordy;
    counted = omega (arith, ok.counted);
    newest = omega arith;
    inside = b;
    room = omega (arith, ok.room);
    starts = z;
  }

  shrunk-taken : (i : ℕ) → 0 < f.count → Shrunk f (taken f i)
  shrunk-taken i h = record { kept = record { order = refl; length = refl; capacity = refl }; count = omega arith; pending = refl; most = refl }

  -- the newest and those before them are slots of the area
  newest-within : SlotsIn f.length (f.count - f.pending + f.pending) ws
  newest-within = slots-within f.length (f.count - f.pending + f.pending) f.capacity ws (omega (arith, ok.newest, ok.counted)) ok.room

  -- ---- the two pops

  pub front-is : (i : ℕ) (s : List ℕ) → f.order ≡ BreadthFirst → 0 < f.count → i < f.capacity → (f.first + 1 ≡ i) ⊎ (f.first + 1 ≡ i + f.capacity)
      → s ≡ slot_at f.length f.first ws → Front f ws s (taken f i)
  unfolding held
  front-is i s o h b w e = record {
    shrunk = shrunk-taken i h;
    framed = framed-taken i ws (omega arith) refl (λ (d : f.order ≡ DepthFirst). let z : ◌≡◌ {A = ℕ} 0 1 = cc in omega arith);
    holds = front-holds i h b w ∙ ap (λ (t : List ℕ). t ∷ ring i (f.count - 1) (slots_of f.length f.capacity ws)) (sym e);
  }

  pub back_is : (s ws' : List ℕ) → f.order ≡ DepthFirst → 0 < f.count → ws' ≡ reverse_slots f.length (f.count - f.pending) f.pending ws
      → s ≡ slot_at f.length (f.count - 1) ws' → Back f ws s (taken f f.first) ws'
  unfolding held
  back_is s ws' o h e d =
      let l : length ws' ≡ length ws = ap length e ∙ length-reverse-slots f.length (f.count - f.pending) f.pending ws newest-within in
      let z : f.first ≡ 0 = ok.starts o in
      record {
        shrunk = shrunk-taken f.first h;
        framed = framed-taken f.first ws' ok.inside l ok.starts;
        same_length = l;
        holds = subst
            (λ (x : List ℕ). rev_range (f.count - f.pending) f.pending (held f ws) ≡ ring f.first (f.count - 1) (slots_of f.length f.capacity x) ++ (slot_at f.length (f.count - 1) x ∷ []))
            (sym e)
            (back-holds z h)
            ∙ ap (λ (t : List ℕ). ring f.first (f.count - 1) (slots_of f.length f.capacity ws') ++ (t ∷ [])) (sym d);
      }
