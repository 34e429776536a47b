-- A node in a hidden file, given as the reference or as the definition whose name is sought, is 10 whatever its kind: before 11 and before 37, and after
-- 35 and 34. Document 02, order 8.
use Rattle.std.specs.Prelude.{ℕ, ◌≡◌, Bool, false, List, Err}
use Rattle.std.proofs.Common.{◌∙◌}
use Rattle.std.proofs.Math.Path.{ap}
use Rattle.std.proofs.Math.Option.{some}
use Rattle.semantics.specs.declared.graph.Node.TheVariants as N
use Rattle.semantics.specs.declared.refusal.PathRefusal.TheVariants.{UnknownNode}
use Rattle.semantics.specs.declared.refusal.SearchRefusal.TheVariants as Search
use Rattle.semantics.specs.declared.refusal.LinearRefusal.TheVariants as LinearRefusal
use Rattle.semantics.specs.Limits.{Bounds}
use Rattle.semantics.specs.Answer.{ok, refuse}
use Rattle.semantics.specs.Graph.{node_id, Graph, view_of, file_of}
use Rattle.semantics.specs.Path.{start_unless, from_reference}
use Rattle.semantics.specs.PartialPaths.{Slot}
use Rattle.semantics.specs.Direct.{direct}
use Rattle.semantics.specs.Linear.{linear}
use Rattle.semantics.specs.Stitching.{stitched}
use Rattle.semantics.specs.Database.{check_database}
use Rattle.semantics.specs.Calls.{Request, LinearRequest, Reply, refused, refused_linear, search_outcome, linear_outcome, direct_call, linear_call, stitched_outcome, stitched_call}
use Rattle.semantics.specs.Finding.{FindRequest, bare, unless_removed, find_call}
use Rattle.semantics.specs.Hidden.{sees_file, node_if, seen_node, seen}
use Rattle.semantics.proofs.Theorems.Hidden.Laws.{seen-node, seen-checked}
use Rattle.semantics.specs.declared.answer.FindingRefusal.{FindingRefusal}
use Rattle.semantics.specs.declared.answer.ResolutionRefusal.{ResolutionRefusal}
use Rattle.semantics.specs.declared.answer.TurnedBack.{TurnedBack}

module _ (see : ℕ → Bool) (g : Graph) (n f : ℕ) (home : file_of ((view_of g).node n) ≡ some f) (hidden : see f ≡ false) where
  hidden-node : (view_of (seen see g)).node n ≡ N.Removed
  unfolding seen_node node_if sees_file
  hidden-node = seen-node see g n ∙ ap (λ b. node_if b ((view_of g).node n)) (ap (sees_file see) home ∙ hidden)

  no_start : from_reference (view_of (seen see g)) n ≡ refuse (UnknownNode (node_id n))
  unfolding from_reference start_unless
  no_start = rw hidden-node

module _ (bd : Bounds) (see : ℕ → Bool) (g : Graph) (f : ℕ) (hidden : see f ≡ false) where
  module _ (reply : Reply) where
    pub hidden-direct : (q : Request) → file_of ((view_of g).node q.node) ≡ some f → direct_call bd reply (ok (seen see g)) q ≡ refused q (Err (ResolutionRefusal.Refused (Search.Path (UnknownNode (node_id q.node)))))
    unfolding direct_call direct search_outcome
    hidden-direct q home = rw (no_start see g q.node f home hidden)

    pub hidden-linear : (q : LinearRequest) → file_of ((view_of g).node q.node) ≡ some f → linear_call bd reply (ok (seen see g)) q ≡ refused_linear q (Err (TurnedBack.Refused (LinearRefusal.Path (UnknownNode (node_id q.node)))))
    unfolding linear_call linear linear_outcome
    hidden-linear q home = rw (no_start see g q.node f home hidden)

    pub hidden-stitched : (known : ℕ → ℕ → Bool) (words : List ℕ) (db : List Slot) → check_database bd known g words ≡ ok db → (q : Request) → file_of ((view_of g).node q.node) ≡ some f
        → stitched_call bd reply known see (ok (seen see g)) words q ≡ refused q (Err (ResolutionRefusal.Refused (Search.Path (UnknownNode (node_id q.node)))))
    unfolding stitched_call stitched_outcome stitched search_outcome
    hidden-stitched known words db passed q home = rw (seen-checked bd known see g words ∙ passed, no_start see g q.node f home hidden)

  pub hidden-name : (q : FindRequest) → file_of ((view_of g).node q.node) ≡ some f → find_call bd (ok (seen see g)) q ≡ bare q (Err (FindingRefusal.Refused (Search.Path (UnknownNode (node_id q.node)))))
  unfolding find_call unless_removed
  hidden-name q home = rw (hidden-node see g q.node f home hidden)
