-- Copies are dropped, then what is shadowed.
-- Serves document 01, "Answer": `from_complete`.
use Rattle.std.specs.Prelude.{ℕ, ◌≡◌, List, []}
use Rattle.std.proofs.Common.{sym, subst}
use Rattle.semantics.specs.Limits.{base, slot_length}
use Rattle.storage.specs.Index.{edge_row}
use Rattle.path.specs.Shadows.{shadows_edges}
use Rattle.reply.specs.declared.finish.Reply.{Reply}
use Rattle.reply.specs.declared.finish.Reply.TheVariants.{Returned, Recorded}
use Rattle.reply.specs.EdgeLists.{distinct_lists, unbeaten_lists}
use Rattle.reply.specs.ResultSlots.{Leaves}
use Rattle.reply.specs.Ends.Laws.{copies-recorded, shadowed-returned}
use Rattle.reply.specs.Replies.{Replied}

module _ (index : List ℕ) {y : Reply} (n r : ℕ) (rs rs' : List ℕ) (h : Leaves slot_length n (distinct_lists []) rs r rs') where
  pub reply-recorded : y ≡ Recorded → Replied index y n rs r rs'
  reply-recorded e = subst (λ (x : Reply). Replied index x n rs r rs') (sym e) (λ g s l j k st. copies-recorded base g s k r rs' st h)

  pub reply-returned : y ≡ Returned → (q : ℕ) (rs'' : List ℕ) → Leaves slot_length r (λ ls. unbeaten_lists (shadows_edges (edge_row index)) ls ls) rs' q rs'' → Replied index y n rs q rs''
  reply-returned e q rs'' x = subst (λ (z : Reply). Replied index z n rs q rs'') (sym e) (λ g s l j k st. shadowed-returned base g s k q rs'' l j (copies-recorded base g s k r rs' st h) x)
